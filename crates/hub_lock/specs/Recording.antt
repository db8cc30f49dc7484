-- Who records: the entries that were handed out to its pass
use Rattle.std.specs.Prelude.{◌≡◌, ℕ, List, [], ◌∷◌, length, Option, Some, None}
use Rattle.broker_steps.specs.declared.limits.Limits.{Limits}
use Rattle.broker_core.specs.Broker.{Broker}
use Rattle.broker_core.specs.declared.letting_go.LetGo.{LetGo}
use Rattle.turn_lock.specs.Pairs.{NoneOf}
use Rattle.hub_lock.specs.Seats.{having_seen}
use Rattle.hub_lock.specs.Histories.{History, broker_of}
use Rattle.hub_lock.specs.Passes.{PassSeat, Recorder}
use Rattle.hub_lock.specs.Events.{EventSeat, steps_of_events, tally_of}
use Rattle.hub_lock.specs.Plays.{IsNext, IsHandedOut}
use Rattle.hub_lock.specs.Calls.{Legal}

-- these are the oldest entries of the journal, the newest of them first, each with its number and
-- its stamp
abbrev pub AreOldest : Broker → List LetGo → Type 0
AreOldest b [] = Unit {0}
AreOldest b (it ∷ older) = IsNext b (length older) it × AreOldest b older

-- a recorder's pass with this seat, to which these were handed out
abbrev pub recorder : PassSeat → List LetGo → Recorder
recorder seat handed = record { seat = seat; handed = handed }

-- the lock's history tells who records, and how many were handed out; the pass makes no step
pub record Records (s : EventSeat) (handed : List LetGo) : Type 0 where
  pub tally : tally_of s.seen ≡ Some (s.number, length handed)
  pub apart : NoneOf s.number (steps_of_events s.seen)

-- what was handed out to a pass is the front of the journal that it has seen
abbrev pub HasFront : Recorder → Type 0
HasFront p = (limits : Limits) → p.seat.constant ≡ Some limits
    → AreOldest (broker_of limits p.seat.seen) p.handed

-- what was handed out, with one more where there is one
abbrev pub with_next : Option LetGo → List LetGo → List LetGo
with_next None handed = handed
with_next (Some it) handed = it ∷ handed

-- the pass, having seen this and been handed that
abbrev pub after_handing : Recorder → History → Option LetGo → Recorder
after_handing p seen r = recorder (having_seen p.seat seen) (with_next r p.handed)

-- the entry after so many is handed out, or there is none yet; no history changes
pub record HandsNext (limits : Limits) (before : History) (given : ℕ) (after : History)
    (r : Option LetGo) : Type 0 where
  pub out : IsHandedOut (broker_of limits before) given r
  pub same : after ≡ before

-- a legal call that makes no step
abbrev pub LegalLook : Limits → PassSeat → History → Type 0
LegalLook limits seat after = Legal limits seat after (λ before. after ≡ before)

-- a legal hand-out to the pass
abbrev pub LegalHandOut : Limits → Recorder → History → Option LetGo → Type 0
LegalHandOut limits p after r =
    Legal limits p.seat after (λ before. HandsNext limits before (length p.handed) after r)
