-- The transcript of a journal is whole lines.
use Rattle.std.proofs.Common.{ℕ, ◌+◌, Bool, true, false, List, [], ◌∷◌, ◌++◌, length}
use Rattle.std.specs.Prelude.{◌==◌, nat_le, if◌then◌else◌}
use Rattle.std.specs.List.{flat_map}
use Rattle.relay_model.specs.declared.said.Said.{Said}
use Rattle.relay_model.specs.declared.said.Said.TheVariants as said
use Rattle.relay_model.specs.declared.said.Told.{Told}
use Rattle.relay_model.specs.Told.{told}
use Rattle.lines_transcript.specs.Transcript.{ended_line, took_line, out_line, placed_line, pass_line, vmods_line}
use Rattle.broker_model.specs.declared.journal.Entry.{Entry}
use Rattle.broker_model.specs.declared.journal.Entry.TheVariants as entries
use Rattle.broker_model.specs.Groups.{Piece, id_of, pair_of}
use Rattle.broker_model.specs.Ids.{Made, made_as}
use Rattle.broker_model.specs.Out.{act_at, group_at, fits, before_group, out_for}
use Rattle.broker_model.specs.Resolve.{past_of, resolve}
use Rattle.broker_core.specs.Stands.{numbered}
use Rattle.broker_core.specs.Watched.{number_at, maker}
use Rattle.broker_core.specs.Lives.{Numbered}
use Rattle.lines_transcript.specs.Transcribed.{head_text, group_text, out_text, shell_text, entry_text, text_since}
use Rattle.std.proofs.Common.{map}
use Rattle.law_seats.proofs.WholeTexts.{IsWhole, whole_none, whole_both, whole_fed, whole_flat}

head_whole : (n : ℕ) (e : Entry) → IsWhole (head_text n e)
head_whole n (entries.Join role) = whole_none
head_whole n (entries.Message q id opcode body) = whole_none
head_whole n (entries.Tokens q tokens) = whole_none
head_whole n (entries.BadSize q head) = whole_none
head_whole n (entries.End q cause) = whole_fed (ended_line n q cause)
head_whole n (entries.Shell step) = whole_none
head_whole n (entries.Took q bytes) = whole_fed (took_line n q bytes)

group_whole : (n q : ℕ) (group : Piece) → IsWhole (group_text n q group)
group_whole n q group = by (length group.bytes == 0)
  where
    by : (b : Bool) → IsWhole (if b then [] else out_line n q group.bytes (map pair_of group.tokens) ++ 10 ∷ [])
    by true = whole_none
    by false = whole_fed (out_line n q group.bytes (map pair_of group.tokens))

out_whole : (capacity : ℕ) (e : Entry) (older : List Entry) (p : Numbered) → IsWhole (out_text capacity e older p)
out_whole capacity e older p =
    by (fits capacity (group_at e older p.peer.label)
    (before_group e older p.peer.label (out_for capacity older p.peer.label)))
    (group_whole (length older + 1) p.number (group_at e older p.peer.label))
  where
    by : (b : Bool) → IsWhole (group_text (length older + 1) p.number (group_at e older p.peer.label))
        → IsWhole (if b then group_text (length older + 1) p.number (group_at e older p.peer.label) else [])
    by true whole = whole
    by false whole = whole_none

shell_whole : (n : ℕ) (made : List Made) (peers : List Numbered) (event : Said) →
    IsWhole (shell_text n made peers event)
shell_whole n made peers (said.Placed popup x y) =
    whole_fed (placed_line n (number_at peers (maker (made_as made popup))) (id_of (made_as made popup)) x y)
shell_whole n made peers (said.Pass time key state) = whole_fed (pass_line n time key state)
shell_whole n made peers (said.VMods mods) = whole_fed (vmods_line n mods)
shell_whole n made peers (said.Enter surface) = whole_none
shell_whole n made peers (said.Leave surface) = whole_none
shell_whole n made peers (said.Preedit text begin end) = whole_none
shell_whole n made peers (said.CommitString text) = whole_none
shell_whole n made peers (said.Delete before after) = whole_none
shell_whole n made peers (said.FieldDone serial) = whole_none
shell_whole n made peers said.Activate = whole_none
shell_whole n made peers said.Deactivate = whole_none
shell_whole n made peers (said.Surrounding text cursor anchor) = whole_none
shell_whole n made peers (said.ChangeCause cause) = whole_none
shell_whole n made peers (said.ContentType hint purpose) = whole_none
shell_whole n made peers said.MethodDone = whole_none
shell_whole n made peers said.Unavailable = whole_none
shell_whole n made peers (said.PopupRect x y width height) = whole_none
shell_whole n made peers (said.Keymap keymap) = whole_none
shell_whole n made peers (said.Key serial time key state) = whole_none
shell_whole n made peers (said.Mods serial mods) = whole_none
shell_whole n made peers (said.Repeat repeat) = whole_none
shell_whole n made peers (said.Global name interface version) = whole_none
shell_whole n made peers (said.CallbackDone value) = whole_none
shell_whole n made peers (said.DeleteId label) = whole_none
shell_whole n made peers (said.Capabilities value) = whole_none
shell_whole n made peers (said.Error object fault) = whole_none

entry_whole : (capacity : ℕ) (e : Entry) (older : List Entry) → IsWhole (entry_text capacity e older)
entry_whole capacity e older =
    let n = length older + 1 in
    let past = past_of (e ∷ older) in
    let peers = numbered 1 past.joined in
    let outs : List ℕ = flat_map (out_text capacity e older) peers in
    let shells : List ℕ =
    flat_map (λ (t : Told). shell_text n past.made peers t.event) (told (act_at e older) (resolve older)) in
    whole_both (head_text n e) (outs ++ shells) (head_whole n e)
    (whole_both outs shells (whole_flat (out_text capacity e older) peers (out_whole capacity e older))
    (whole_flat (λ (t : Told). shell_text n past.made peers t.event) (told (act_at e older) (resolve older))
    (λ t. shell_whole n past.made peers t.event)))

pub since_whole : (capacity k : ℕ) (journal : List Entry) → IsWhole (text_since capacity k journal)
since_whole capacity k [] = whole_none
since_whole capacity k (e ∷ older) = by (nat_le k (length older)) (since_whole capacity k older)
  where
    by : (b : Bool) → IsWhole (text_since capacity k older)
        → IsWhole (if b then text_since capacity k older ++ entry_text capacity e older else [])
    by true whole =
        whole_both (text_since capacity k older) (entry_text capacity e older) whole (entry_whole capacity e older)
    by false whole = whole_none
