-- How a user's peer begins and ends
use Rattle.std.specs.Prelude.{◌≡◌}
use Rattle.relay_model.specs.declared.role.Role.{Role}
use Rattle.broker_steps.specs.declared.limits.Limits.{Limits}
use Rattle.hub_lock.specs.Seats.{met_with, IsMeeting, IsTallied}
use Rattle.hub_lock.specs.Passes.{PassSeat, PeerPass}
use Rattle.hub_lock.specs.Calls.{IsJoined, pass_having_seen}
use Rattle.hub_calls.specs.Made.{SawMore}

-- a peer joined by the root in this role, and these are its passes; its reader has seen more since
pub record HasBegun (limits : Limits) (root root' : PassSeat) (role : Role)
    (reader writer : PeerPass) : Type 0 where
  pub first : PeerPass
  pub joined : IsJoined limits root root' role first writer
  pub same : reader ≡ pass_having_seen first reader.seat.seen
  pub saw : SawMore limits first.seat.seen reader.seat.seen

-- the root took back the one pass, and then the other
pub record AreBack (root root' one other : PassSeat) : Type 0 where
  pub first : IsMeeting root one (met_with root one).seen
  pub left : root' ≡ met_with (met_with root one) other
  pub then : IsMeeting (met_with root one) other root'.seen
  pub tallied : IsTallied root'
