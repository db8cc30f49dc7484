use Rattle.std.proofs.Common.{◌≡◌, subst}
use Rattle.c_broker.specs.Seated.{Bytewise}
use Rattle.c_broker.specs.Steps.{Hearing}
use Rattle.broker_model.specs.declared.journal.Entry.TheVariants as entries
use Rattle.broker_core.specs.Broker.{IfBytes, with_step}
use Rattle.c_broker.specs.Seated.{all_gone}
use Rattle.c_broker.proofs.WatchedOn.{heard_took, heard_let, took_gone}
use Rattle.c_broker.proofs.OpenPeers.{open_heard}
use Rattle.c_broker.proofs.seat.ByteSeat.take.Goals as goal

pub invariant_of-self : goal.invariant_of-self
invariant_of-self c =
    let call = c.take_watched-took in
    open_heard c.self.inside.shared call.new.self c.self.inside.ears call.new.watch
    c.self.inside.open_peers.numbers.items c.self.inside.open_peers.seen
    (heard_took call.result c.args.peer c.args.stamp c.self.inside.shared call.new.self c.self.inside.ears
    call.new.watch call.ensures.settled call.ensures.same call.ensures.watched) c.self.invariant

pub returns-in-Bytes-clause-settled : goal.returns-in-Bytes-clause-settled
returns-in-Bytes-clause-settled c =
    let call = c.take_watched-took in
    subst (λ (v : Bytewise). IfBytes call.result (λ counts.
    c.let_go.new.self.broker ≡ all_gone (with_step (entries.Took c.args.peer counts.0) c.args.stamp v.broker)))
    c.self.view_is
    (took_gone call.result c.args.peer c.args.stamp c.self.inside.shared call.new.self c.let_go.new.self.broker
    call.ensures.settled c.let_go.ensures.gone)

pub returns-in-Bytes-clause-told : goal.returns-in-Bytes-clause-told
returns-in-Bytes-clause-told c =
    let call = c.take_watched-took in
    subst (λ (v : Bytewise). Hearing v.broker v.ears c.let_go.new.self.broker c.let_go.new.self.ears) c.self.view_is
    (heard_let c.self.inside.shared call.new.self c.let_go.new.self.broker c.self.inside.ears call.new.watch
    c.let_go.new.self.ears c.let_go.ensures.gone c.let_go.ensures.ears
    (heard_took call.result c.args.peer c.args.stamp c.self.inside.shared call.new.self c.self.inside.ears
    call.new.watch call.ensures.settled call.ensures.same call.ensures.watched))
