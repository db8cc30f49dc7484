-- The transcript of a journal: for each entry who ended or what was taken, the groups that were
-- put, and what the shell is told.
use Rattle.std.specs.Prelude.{ℕ, ◌+◌, List, [], ◌∷◌, ◌++◌, length, map, nat_le, ◌==◌, if◌then◌else◌}
use Rattle.std.specs.List.{flat_map}
use Rattle.relay_model.specs.declared.said.Told.{Told}
use Rattle.relay_model.specs.declared.said.Said.{Said}
use Rattle.relay_model.specs.declared.said.Said.TheVariants as said
use Rattle.relay_model.specs.Told.{told}
use Rattle.lines_transcript.specs.Transcript.{ended_line, took_line, out_line, placed_line, pass_line, vmods_line}
use Rattle.broker_model.specs.declared.journal.Entry.{Entry}
use Rattle.broker_model.specs.declared.journal.Entry.TheVariants.{End, Took}
use Rattle.broker_model.specs.Ids.{Made, made_as}
use Rattle.broker_model.specs.Resolve.{past_of, resolve}
use Rattle.broker_model.specs.Groups.{Piece, pair_of, id_of}
use Rattle.broker_model.specs.Out.{act_at, group_at, fits, before_group, out_for}
use Rattle.broker_core.specs.Lives.{Numbered}
use Rattle.broker_core.specs.Stands.{numbered}
use Rattle.broker_core.specs.Watched.{number_at, maker}

-- a line with its line feed
abbrev pub with_feed : List ℕ → List ℕ
with_feed line = line ++ 10 ∷ []

-- who ended, or what was taken
abbrev pub head_text : ℕ → Entry → List ℕ
head_text n (End q cause) = with_feed (ended_line n q cause)
head_text n (Took q bytes) = with_feed (took_line n q bytes)
head_text n _ = []

-- a group that was put, unless it is empty
abbrev pub group_text : ℕ → ℕ → Piece → List ℕ
group_text n q group =
    (if length group.bytes == 0 then []
    else with_feed (out_line n q group.bytes (map pair_of group.tokens)))

-- what the newest entry tells one peer, as far as it was put
abbrev pub out_text : ℕ → Entry → List Entry → Numbered → List ℕ
out_text capacity e older p =
    let label = p.peer.label in
    (if fits capacity (group_at e older label)
    (before_group e older label (out_for capacity older label))
    then group_text (length older + 1) p.number (group_at e older label)
    else [])

-- where a popup is, and a key and modifiers that pass
abbrev pub shell_text : ℕ → List Made → List Numbered → Said → List ℕ
shell_text n made peers (said.Placed popup x y) =
    with_feed (placed_line n (number_at peers (maker (made_as made popup)))
    (id_of (made_as made popup)) x y)
shell_text n made peers (said.Pass time key state) = with_feed (pass_line n time key state)
shell_text n made peers (said.VMods mods) = with_feed (vmods_line n mods)
shell_text n made peers _ = []

-- the lines of the newest entry
abbrev pub entry_text : ℕ → Entry → List Entry → List ℕ
entry_text capacity e older =
    let n = length older + 1 in
    let past = past_of (e ∷ older) in
    let peers = numbered 1 past.joined in
    head_text n e
    ++ (flat_map (out_text capacity e older) peers
    ++ flat_map (λ (t : Told). shell_text n past.made peers t.event)
    (told (act_at e older) (resolve older)))

-- the lines of all entries
abbrev pub journal_text : ℕ → List Entry → List ℕ
journal_text capacity [] = []
journal_text capacity (e ∷ older) = journal_text capacity older ++ entry_text capacity e older

-- the lines of the entries behind the first k
abbrev pub text_since : ℕ → ℕ → List Entry → List ℕ
text_since capacity k [] = []
text_since capacity k (e ∷ older) =
    (if nat_le k (length older) then text_since capacity k older ++ entry_text capacity e older
    else [])
