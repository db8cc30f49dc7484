use Rattle.std.proofs.Common.{refl, sym, subst}
use Rattle.broker_core.specs.declared.answers.Took.{Took}
use Rattle.hub_lock.specs.Bells.{IsRungBy}
use Rattle.hub_lock.specs.Lawful.{Held, history_of}
use Rattle.hub_lock.specs.Plays.{Takes, took_without_memory}
use Rattle.hub_lock.proofs.CallsAnswered.{takes-none}
use Rattle.hub_lock.proofs.NothingWatched.{nothing-watched}
use Rattle.hub_lock.proofs.state.HubState.take.Goals as goal

pub returns-then-not-has_memory-clause-watched : goal.returns-then-not-has_memory-clause-watched
returns-then-not-has_memory-clause-watched c =
    nothing-watched IsRungBy c.args.self.now.broker c.args.self.now.broker c.args.rings.now refl

pub returns-then-not-has_memory-clause-takes : goal.returns-then-not-has_memory-clause-takes
returns-then-not-has_memory-clause-takes c mine =
    let was = c.args.self.now in
    let bytes = c.args.places.now.bytes.items in
    let tokens = c.args.places.now.tokens.items in
    subst (λ (r : Took). Takes was.broker.limits (history_of was.broker was.readers) c.args.number c.args.peer
    c.args.most bytes tokens (history_of was.broker was.readers) r) (sym c.take_none.ensures)
    (subst (λ (h : Held). Takes h.broker.limits (history_of h.broker h.readers) c.args.number c.args.peer c.args.most
    bytes tokens (history_of h.broker h.readers) (took_without_memory h.broker c.args.peer)) c.self.view_is
    (takes-none c.self.inside.shared c.self.inside.readers.items c.args.number c.self.invariant.0
    c.entries-entries.ensures.shared.stamped c.args.peer c.args.most bytes tokens))
