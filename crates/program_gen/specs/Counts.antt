-- What is counted of a generated session.
use Rattle.std.specs.Prelude.{ℕ, List, length, if◌then◌else◌, ◌==◌}
use Rattle.std.specs.List.{count_by}
use Rattle.broker_model.specs.declared.journal.Entry.{Entry}
use Rattle.broker_model.specs.Limits.{is_end}
use Rattle.session_gen.specs.Generated.{step_count}
use Rattle.program_gen.specs.declared.counts.Counts.{Counts}
use Rattle.program_gen.specs.Events.{events_in}
use Rattle.program_gen.specs.Journals.{put_sum, journal_of}

-- each other peer than 5 is an application with the text input 7: its done events
-- (zwp_text_input_v3.done)
abbrev pub field_dones : ℕ → List ℕ → ℕ
field_dones q bytes = (if q == 5 then 0 else events_in 7 5 bytes)

-- the activate events of the input method (zwp_input_method_v2.activate)
abbrev pub activates : ℕ → List ℕ → ℕ
activates q bytes = (if q == 5 then events_in 5 0 bytes else 0)

-- all bytes
abbrev pub all_bytes : ℕ → List ℕ → ℕ
all_bytes q bytes = length bytes

-- the counts of a journal
abbrev pub counts_in : List Entry → Counts
counts_in journal = record {
  entries = length journal;
  dones = put_sum field_dones journal;
  activates = put_sum activates journal;
  ends = count_by is_end journal;
  queued = put_sum all_bytes journal;
}

-- the counts of the session of n
unfoldable pub counts_of : ℕ → Counts
counts_of n = counts_in (journal_of n step_count)
