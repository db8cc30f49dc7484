-- A generated session as far as it is run.
use Rattle.std.specs.Prelude.{◌≡◌, ◌≤◌}
use Rattle.session_gen.specs.Generated.{step_count}
use Rattle.seat_set.specs.Playing.{IsShort}
use Rattle.program_gen.specs.declared.running.Run.{Run}
use Rattle.program_gen.specs.Journals.{limits, journal_of}
use Rattle.program_gen.specs.Tallies.{tally_of}

-- its steps so far were made, played and counted, and few entries of its journal are in memory
pub record Stands (run : Run) : Type 0 where
  pub few : run.session.made ≤ step_count
  pub played : run.shared ≡ record run.shared {
    limits = limits;
    journal = journal_of run.session.number run.session.made;
  }
  pub short : IsShort run.shared.journal run.shared.kept_from
  pub counted : run.tally ≡ tally_of (journal_of run.session.number run.session.made)
