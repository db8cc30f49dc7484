-- What a pass's steps made, and what it has seen.
use Rattle.std.specs.Prelude.{◌≡◌, List, ◌++◌, map}
use Rattle.broker_steps.specs.declared.limits.Limits.{Limits}
use Rattle.broker_model.specs.declared.journal.Entry.{Entry}
use Rattle.turn_lock.specs.Pairs.{own}
use Rattle.hub_lock.specs.declared.step.OuterStep.{OuterStep}
use Rattle.hub_lock.specs.Histories.{History, broker_of}
use Rattle.hub_lock.specs.Lawful.{IsLawful}
use Rattle.hub_lock.specs.Passes.{PassSeat}

-- the entries of the steps that the pass's calls made, in order
abbrev pub entries_by : PassSeat → List Entry
entries_by s = map (λ (step : OuterStep). step.entry) (own s.number s.seen)

-- the one journal of a history, the newest entry first
abbrev pub journal_of : Limits → History → List Entry
journal_of limits h = (broker_of limits h).journal

-- the pass has seen more, and what it has seen is lawful if it was
pub record SawMore (limits : Limits) (before after : History) : Type 0 where
  pub more : History
  pub grew : after ≡ before ++ more
  pub lawful : IsLawful limits before → IsLawful limits after
