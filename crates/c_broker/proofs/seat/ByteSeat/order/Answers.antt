use Rattle.broker_model.specs.declared.journal.Entry.TheVariants as entries
use Rattle.std.proofs.Common.{subst}
use Rattle.c_broker.specs.Seated.{Bytewise}
use Rattle.c_broker.specs.Steps.{Hearing}
use Rattle.c_broker.proofs.WatchedOn.{heard_by, heard_let}
use Rattle.c_broker.proofs.OpenPeers.{open_heard}
use Rattle.c_broker.proofs.seat.ByteSeat.order.Goals as goal

pub invariant_of-self : goal.invariant_of-self
invariant_of-self c =
    let call = c.apply_watched in
    open_heard c.self.inside.shared call.new.self c.self.inside.ears call.new.watch
    c.self.inside.open_peers.numbers.items c.self.inside.open_peers.seen
    (heard_by call.result (entries.Shell c.args.step) c.args.stamp c.self.inside.shared call.new.self c.self.inside.ears call.new.watch
    call.ensures.ok call.ensures.err call.ensures.watched) c.self.invariant

pub returns-in-Ok-clause-told : goal.returns-in-Ok-clause-told
returns-in-Ok-clause-told c =
    subst (λ (v : Bytewise). Hearing v.broker v.ears c.let_go.new.self.broker c.let_go.new.self.ears) c.self.view_is
    (heard_let c.self.inside.shared c.apply_watched.new.self c.let_go.new.self.broker c.self.inside.ears
    c.apply_watched.new.watch c.let_go.new.self.ears c.let_go.ensures.gone c.let_go.ensures.ears
    (heard_by c.apply_watched.result (entries.Shell c.args.step) c.args.stamp c.self.inside.shared
    c.apply_watched.new.self c.self.inside.ears c.apply_watched.new.watch c.apply_watched.ensures.ok
    c.apply_watched.ensures.err c.apply_watched.ensures.watched))
