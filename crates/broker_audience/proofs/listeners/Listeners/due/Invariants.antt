use Rattle.std.proofs.Common.{◌≡◌, ℕ, true, get_or, take, None}
use Rattle.broker_audience.specs.declared.live.Live.{Live}
use Rattle.broker_audience.specs.Marks.{is_marked}
use Rattle.broker_audience.specs.Visits.{cause_of}
use Rattle.broker_audience.proofs.listeners.Listeners.due.Given as goal

-- none at the marked places so far has to be ended
abbrev pub invariant-loop-place : goal.invariant-loop-place
invariant-loop-place l =
    (k : ℕ) (d : Live) → is_marked k (take l.place-index l.place-items) ≡ true →
    cause_of (get_or l.self.items k d) ≡ None
