use Rattle.std.proofs.Common.{subst}
use Rattle.relay_model.specs.declared.act.EndCause.TheVariants.{Gone}
use Rattle.broker_model.specs.declared.journal.Entry.TheVariants as entries
use Rattle.c_broker.specs.Seated.{Bytewise}
use Rattle.c_broker.specs.Steps.{Hearing}
use Rattle.c_broker.proofs.WatchedOn.{heard_by}
use Rattle.c_broker.proofs.OpenPeers.{open_heard}
use Rattle.c_broker.proofs.seat.ByteSeat.end.Goals as goal

pub invariant_of-self : goal.invariant_of-self
invariant_of-self c =
    let call = c.apply_watched in
    open_heard c.self.inside.shared call.new.self c.self.inside.ears call.new.watch
    c.self.inside.open_peers.numbers.items c.self.inside.open_peers.seen
    (heard_by call.result (entries.End c.args.peer Gone) c.args.stamp c.self.inside.shared call.new.self c.self.inside.ears call.new.watch
    call.ensures.ok call.ensures.err call.ensures.watched) c.self.invariant

pub returns-in-Ok-clause-told : goal.returns-in-Ok-clause-told
returns-in-Ok-clause-told c =
    let call = c.apply_watched in
    subst (λ (v : Bytewise). Hearing v.broker v.ears call.new.self call.new.watch) c.self.view_is
    (heard_by call.result (entries.End c.args.peer Gone) c.args.stamp c.self.inside.shared call.new.self
    c.self.inside.ears call.new.watch call.ensures.ok call.ensures.err call.ensures.watched)
