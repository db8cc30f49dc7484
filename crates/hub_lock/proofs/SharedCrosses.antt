-- The shared state may go to another thread. There is a lemma for each part that has entries, and for what has those
-- parts, since a search through all of them would stop at its limits.
use denote.Param.Send.{IsSend, sendable}
use Rattle.std.proofs.Crossing.{crosses}
use Rattle.broker_steps.proofs.stamp.Stamp.TheSendSync as stamp
use Rattle.relay_core.proofs.relay.Relay.TheSendSync as relay
use Rattle.broker_audience.proofs.directory.Directory.TheSendSync as directory
use Rattle.broker_audience.proofs.listeners.Listeners.TheSendSync as listeners
use Rattle.broker_audience.specs.contracts.audience.Audience as Audience
use Rattle.broker_model.proofs.journal.Entry.TheSendSync as entry
use Rattle.broker_model.specs.contracts.journal.Journal as Journal
use Rattle.broker_model.specs.contracts.stamps.StampList as StampList
use Rattle.broker_model.proofs.ended_peers.EndedPeers.TheSendSync as ended
use Rattle.broker_core.specs.contracts.state.State as State
use Rattle.broker_core.specs.contracts.shared.Shared as Shared

journal_send : IsSend Journal.the_field.row
journal_send = search (sendable, crosses, entry.the_send) depth 20

stamps_send : IsSend StampList.the_field.row
stamps_send = search (sendable, crosses, stamp.the_send) depth 20

audience_send : IsSend Audience.the_field.row
audience_send = search (sendable, crosses, directory.the_send, listeners.the_send) depth 20

state_send : IsSend State.the_field.row
state_send =
    search (sendable, crosses, relay.the_send, audience_send, ended.the_send, journal_send, stamps_send) depth 40

pub shared_send : IsSend Shared.the_field.row
shared_send = search (sendable, crosses, state_send) depth 20
