-- The lines of a journal's entries: what each is, and what came of it.
use Rattle.std.specs.Prelude.{ℕ, ◌+◌, ◌%◌, ◌^◌, List, [], ◌∷◌, ◌++◌, length, Bool, true, false, not, ◌&&◌, ◌||◌, ◌==◌, nat_le, if◌then◌else◌, Option, Some, None}
use Rattle.std.specs.Option.{option_map}
use Rattle.relay_model.specs.declared.said.Said.{Said}
use Rattle.relay_model.specs.declared.said.Said.TheVariants as said
use Rattle.relay_model.specs.declared.said.Told.{Told}
use Rattle.relay_model.specs.Told.{told}
use Rattle.relay_model.specs.Idle.{history}
use Rattle.relay_reasons.specs.Seat.{seat}
use Rattle.lines_explained.specs.declared.outcome.Outcome.{Outcome}
use Rattle.lines_explained.specs.Outcome.{outcome_of}
use Rattle.broker_model.specs.declared.journal.Entry.{Entry}
use Rattle.broker_model.specs.Resolve.{past_of, resolve}
use Rattle.broker_model.specs.Out.{act_at, group_at, fits, before_group, out_for}
use Rattle.broker_core.specs.Lives.{Numbered}
use Rattle.broker_core.specs.Stands.{numbered}
use Rattle.lines_explained.specs.declared.explainer.Lines.{Lines}
use Rattle.lines_explained.specs.KeyWay.{key_before}
use Rattle.lines_explained.specs.Explained.{Begun, Explaining, fate_before, first_words, line_text}

-- how many peers joined, modulo 2^32
abbrev pub count_joined : List Entry → ℕ
count_joined journal = length (past_of journal).joined % 2 ^ 32

-- a group of the newest entry was put for the peer: it isn't empty, and fitted its store
abbrev pub is_put_for : ℕ → Entry → List Entry → Numbered → Bool
is_put_for capacity e older p =
    let label = p.peer.label in
    fits capacity (group_at e older label)
    (before_group e older label (out_for capacity older label))
    && not (length (group_at e older label).bytes == 0)

-- for one of these peers
abbrev pub is_put_among : ℕ → Entry → List Entry → List Numbered → Bool
is_put_among capacity e older [] = false
is_put_among capacity e older (p ∷ ps) =
    is_put_for capacity e older p || is_put_among capacity e older ps

-- for a peer that joined
abbrev pub was_put : ℕ → Entry → List Entry → Bool
was_put capacity e older =
    is_put_among capacity e older (numbered 1 (past_of (e ∷ older)).joined)

-- what came of the batch that the newest entry commits, if it commits one
abbrev pub outcome_at : ℕ → Entry → List Entry → Option Outcome
outcome_at capacity e older =
    option_map (λ fate. outcome_of fate (was_put capacity e older))
    (fate_before (act_at e older) (resolve older))

-- the shell is told a key
abbrev pub is_pass : Said → Bool
is_pass (said.Pass time key state) = true
is_pass _ = false

-- among these events
abbrev pub has_pass : List Told → Bool
has_pass [] = false
has_pass (t ∷ ts) = is_pass t.event || has_pass ts

-- of the newest entry
abbrev pub was_passed : Entry → List Entry → Bool
was_passed e older = has_pass (told (act_at e older) (resolve older))

-- what is said of the newest entry: what it is, the seat before it, what its batch comes to, what is
-- known of its key, and whether the shell was told one, and a group was put
abbrev pub entry_begun : ℕ → Entry → List Entry → Begun
entry_begun capacity e older =
    record {
      line =
          first_words (length older + 1) (count_joined (e ∷ older)) e (act_at e older)
          (resolve older);
      before = seat (history (resolve older));
      fate = fate_before (act_at e older) (resolve older);
      sent = key_before (act_at e older) (resolve older);
      was_passed = was_passed e older;
      was_put = was_put capacity e older;
    }

-- the line of the newest entry, where it is wanted
abbrev pub entry_line : Lines → ℕ → Entry → List Entry → List ℕ
entry_line which capacity e older =
    line_text which (seat (history (resolve (e ∷ older)))) (Some (entry_begun capacity e older))

-- the lines of all entries, where so many bytes may be stored for a peer
abbrev pub journal_lines : Lines → ℕ → List Entry → List ℕ
journal_lines which capacity [] = []
journal_lines which capacity (e ∷ older) =
    journal_lines which capacity older ++ entry_line which capacity e older

-- the lines of the entries behind the first k
abbrev pub lines_since : Lines → ℕ → ℕ → List Entry → List ℕ
lines_since which capacity k [] = []
lines_since which capacity k (e ∷ older) =
    (if nat_le k (length older)
    then lines_since which capacity k older ++ entry_line which capacity e older
    else [])

-- an explainer that has finished all lines of a journal, with the text that wasn't cleared
abbrev pub at_rest : Lines → List Entry → List ℕ → Explaining
at_rest which journal text =
    record {
      lines = which;
      text = text;
      newest = None;
      peers = count_joined journal;
      is_short = false;
    }
