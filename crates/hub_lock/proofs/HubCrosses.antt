-- A hub may be shared by threads and move to another, and so may its passes move.
use denote.Param.Send.{IsSend, IsSync, sendable}
use Rattle.std.proofs.Crossing.{crosses}
use Rattle.turn_lock.proofs.turn.Turn.TheSendSync as turn
use Rattle.turn_lock.proofs.seat.Seat.TheSendSync as seat
use Rattle.broker_model.proofs.journal.Entry.TheSendSync as entry
use Rattle.broker_steps.proofs.stamp.Stamp.TheSendSync as stamp
use Rattle.hub_lock.specs.contracts.hub.Hub as Hub
use Rattle.hub_lock.specs.contracts.pass.HubPass as HubPass
use Rattle.hub_lock.specs.contracts.pass.Member as Member
use Rattle.hub_lock.specs.contracts.pass.Pass as Pass
use Rattle.hub_lock.specs.contracts.pass.ReaderPass as ReaderPass
use Rattle.hub_lock.specs.contracts.pass.RecorderPass as RecorderPass
use Rattle.hub_lock.specs.contracts.pass.ShellPass as ShellPass
use Rattle.hub_lock.specs.contracts.pass.WriterPass as WriterPass
use Rattle.hub_lock.specs.contracts.noted_state.NotedState as NotedState
use Rattle.hub_lock.specs.contracts.state.HubState as HubState
use Rattle.hub_lock.proofs.SharedCrosses.{shared_send}

held_send : IsSend HubState.the_field.row
held_send = search (sendable, crosses, shared_send) depth 40

state_send : IsSend NotedState.the_field.row
state_send = search (sendable, crosses, held_send) depth 40

pub hub_sync : IsSync Hub.the_field.row
hub_sync = search (sendable, crosses, state_send, turn.the_sync) depth 40

pub hub_send : IsSend Hub.the_field.row
hub_send = search (sendable, crosses, state_send, turn.the_send) depth 40

member_send : IsSend Member.the_field.row
member_send = search (sendable, crosses, state_send, seat.the_send) depth 40

pub root_send : IsSend HubPass.the_field.row
root_send = search (sendable, crosses, state_send, seat.the_send) depth 40

pub reader_send : IsSend ReaderPass.the_field.row
reader_send = search (sendable, crosses, member_send) depth 40

pub writer_send : IsSend WriterPass.the_field.row
writer_send = search (sendable, crosses, member_send) depth 40

pub shell_send : IsSend ShellPass.the_field.row
shell_send = search (sendable, crosses, member_send) depth 40

pub recorder_send : IsSend RecorderPass.the_field.row
recorder_send = search (sendable, crosses, state_send, seat.the_send, entry.the_send, stamp.the_send) depth 40

pub pass_send : IsSend Pass.the_field.row
pass_send = search (sendable, crosses, reader_send, writer_send, shell_send, recorder_send) depth 40

-- what may cross threads, for the searches above
pub ruleset hub_crosses = (
  hub_sync,
  hub_send,
  root_send,
  reader_send,
  writer_send,
  shell_send,
  recorder_send,
  pass_send,
)
