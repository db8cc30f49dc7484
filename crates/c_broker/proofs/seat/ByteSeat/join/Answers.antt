use Rattle.broker_model.specs.declared.journal.Entry.TheVariants as entries
use Rattle.std.proofs.Common.{◌≡◌, ℕ, Err, subst, sym}
use Rattle.c_broker.specs.Seated.{Bytewise}
use Rattle.c_broker.specs.Steps.{Hearing}
use Rattle.std.specs.Prelude.{Result, IfSome}
use Rattle.broker_core.specs.declared.answers.JoinRefusal.{JoinRefusal}
use Rattle.broker_core.specs.Broker.{join_refusal}
use Rattle.c_broker.proofs.WatchedOn.{heard_by, heard_let}
use Rattle.c_broker.proofs.OpenPeers.{open_heard}
use Rattle.c_broker.proofs.seat.ByteSeat.join.Goals as goal

pub invariant_of-self : goal.invariant_of-self
invariant_of-self c =
    let call = c.join_watched in
    open_heard c.self.inside.shared call.new.self c.self.inside.ears call.new.watch
    c.self.inside.open_peers.numbers.items c.self.inside.open_peers.seen
    (heard_by call.result (entries.Join c.args.role) c.args.stamp c.self.inside.shared call.new.self c.self.inside.ears call.new.watch
    call.ensures.ok call.ensures.err call.ensures.watched) c.self.invariant

pub returns-in-Ok-clause-told : goal.returns-in-Ok-clause-told
returns-in-Ok-clause-told c =
    subst (λ (v : Bytewise). Hearing c.args.self.now.broker c.args.self.now.ears v.broker v.ears)
    (sym c.note.ensures.same)
    (subst (λ (v : Bytewise). Hearing v.broker v.ears c.let_go.new.self.broker c.let_go.new.self.ears) c.self.view_is
    (heard_let c.self.inside.shared c.join_watched.new.self c.let_go.new.self.broker c.self.inside.ears
    c.join_watched.new.watch c.let_go.new.self.ears c.let_go.ensures.gone c.let_go.ensures.ears
    (heard_by c.join_watched.result (entries.Join c.args.role) c.args.stamp c.self.inside.shared
    c.join_watched.new.self c.self.inside.ears c.join_watched.new.watch c.join_watched.ensures.ok
    c.join_watched.ensures.err c.join_watched.ensures.watched)))

pub returns-in-Err-clause-refused : goal.returns-in-Err-clause-refused
returns-in-Err-clause-refused c =
    subst (λ (v : Bytewise). IfSome (join_refusal v.broker c.args.role)
    (λ why. ◌≡◌ {A = Result ℕ JoinRefusal} (Err c.in-Err.why) (Err why))) c.self.view_is c.in-Err.ensures.refused
