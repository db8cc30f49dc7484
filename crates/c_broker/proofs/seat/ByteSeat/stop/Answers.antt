use Rattle.relay_model.specs.declared.act.EndCause.TheVariants.{Gone}
use Rattle.broker_steps.specs.declared.step.Step.TheVariants as steps
use Rattle.broker_steps.specs.declared.step.PeerStep.TheVariants as peers
use Rattle.broker_model.specs.declared.journal.Entry.TheVariants as entries
use Rattle.broker_core.specs.Broker.{refusal, with_step}
use Rattle.c_broker.proofs.WatchedOn.{heard_none}
use Rattle.c_broker.proofs.StoppedPeers.{ends_by}
use Rattle.c_broker.proofs.seat.ByteSeat.stop.Goals as goal

pub returns-in-NoMemory-clause-broker : goal.returns-in-NoMemory-clause-broker
returns-in-NoMemory-clause-broker c =
    let b = c.args.self.now.broker in
    let e = c.end.ensures in
    ends_by (refusal b (steps.Peer c.args.peer peers.Gone)) c.end.result
    (with_step (entries.End c.args.peer Gone) c.args.stamp b) b c.end.new.self.broker e.refused e.accepted e.ok e.err

pub returns-in-JournalFull-clause-broker : goal.returns-in-JournalFull-clause-broker
returns-in-JournalFull-clause-broker c =
    let b = c.args.self.now.broker in
    let call = c.end-in-JournalFull in
    let e = call.ensures in
    ends_by (refusal b (steps.Peer c.args.peer peers.Gone)) call.result
    (with_step (entries.End c.args.peer Gone) c.args.stamp b) b call.new.self.broker e.refused e.accepted e.ok e.err

pub returns-in-NoPeer-clause-hears : goal.returns-in-NoPeer-clause-hears
returns-in-NoPeer-clause-hears c = heard_none c.args.self.now.broker c.args.self.now.ears

pub returns-in-Ended-clause-hears : goal.returns-in-Ended-clause-hears
returns-in-Ended-clause-hears c = heard_none c.args.self.now.broker c.args.self.now.ears
