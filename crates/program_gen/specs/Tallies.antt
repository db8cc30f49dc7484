-- What a tally counts while it watches a journal.
use Rattle.std.specs.Prelude.{◌≡◌, ℕ, ◌+◌, ◌-◌, ◌^◌, List, min}
use Rattle.broker_model.specs.declared.journal.Entry.{Entry}
use Rattle.broker_core.specs.Watched.{Watched}
use Rattle.broker_core.specs.Watched.Watched.{Put}
use Rattle.program_gen.specs.declared.tally.Tally.{Tally}
use Rattle.program_gen.specs.Journals.{put_sum, method_dones}
use Rattle.program_gen.specs.Counts.{field_dones, activates, all_bytes}

-- a count of 64 bits, which stands still at its last value
abbrev pub raised : ℕ → ℕ → ℕ
raised n more = min (n + more) (2 ^ 64 - 1)

-- with what is watched: a group that was put raises each count
abbrev pub tallied : Watched → Tally → Tally
tallied (Put n q bytes tokens) t = record {
  dones = raised t.dones (field_dones q bytes);
  activates = raised t.activates (activates q bytes);
  method_dones = raised t.method_dones (method_dones q bytes);
  queued = raised t.queued (all_bytes q bytes);
}
tallied _ t = t

-- which tallies may follow one that is told something
abbrev pub MayTally : Tally → Watched → Tally → Type 0
MayTally before event after = after ≡ tallied event before

-- the tally of a whole journal
abbrev pub tally_of : List Entry → Tally
tally_of journal = record {
  dones = put_sum field_dones journal;
  activates = put_sum activates journal;
  method_dones = put_sum method_dones journal;
  queued = put_sum all_bytes journal;
}
