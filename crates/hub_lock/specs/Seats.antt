-- What the calls of a hub make of the seats of its passes
use Rattle.std.specs.Prelude.{ℕ, ◌+◌, ◌-◌, List, [], ◌∷◌, Option, Some, None}
use Rattle.atomic_table.specs.Seated.{TableId}
use Rattle.broker_steps.specs.declared.limits.Limits.{Limits}
use Rattle.turn_lock.specs.Pairs.{longer}
use Rattle.turn_lock.specs.Sights.{Sight}
use Rattle.turn_lock.specs.Sights as sights
use Rattle.hub_lock.specs.declared.step.OuterStep.{OuterStep}
use Rattle.hub_lock.specs.Histories.{History}
use Rattle.hub_lock.specs.Passes.{PassSeat}

-- the seat at the lock, which knows nothing of who was named
abbrev pub sight_of : PassSeat → Sight OuterStep Limits
sight_of s = record {
  turn = s.turn;
  number = s.number;
  constant = s.constant;
  seen = s.seen;
  next = s.next;
  out = s.out;
  taken = s.taken;
}

-- the pass with that seat, which named this one
abbrev pub pass_with : Option ℕ → Sight OuterStep Limits → PassSeat
pass_with named s = record {
  turn = s.turn;
  number = s.number;
  constant = s.constant;
  seen = s.seen;
  next = s.next;
  out = s.out;
  taken = s.taken;
  named = named;
}

-- a pass that has made nothing, split off nothing and named nobody
abbrev pub fresh_seat : TableId → ℕ → Option Limits → History → PassSeat
fresh_seat turn n c seen = pass_with None (sights.fresh_seat turn n c seen)

-- the root after it made another pass, which is `split_off` of what it was
abbrev pub after_split : PassSeat → PassSeat
after_split s = record s { next = s.next + 1; out = s.out + 1 }

abbrev pub split_off : PassSeat → PassSeat
split_off s = fresh_seat s.turn s.next s.constant s.seen

-- the root after it named the next pass to record
abbrev pub naming : PassSeat → PassSeat
naming s = record s { named = Some s.next }

-- the root after it took another pass back
abbrev pub met_with : PassSeat → PassSeat → PassSeat
met_with s other =
    record s { seen = longer s.seen other.seen; out = s.out - 1; taken = other.number ∷ s.taken }

-- the pass, having seen this history
abbrev pub having_seen : PassSeat → History → PassSeat
having_seen s h = record s { seen = h }

-- what a meeting of two passes tells of the history that both then have seen
abbrev pub IsMeeting : PassSeat → PassSeat → History → Type 0
IsMeeting s other h = sights.IsMeeting (sight_of s) (sight_of other) h

-- what the root knows of the history that it has seen
abbrev pub IsTallied : PassSeat → Type 0
IsTallied s = sights.IsTallied (sight_of s)
