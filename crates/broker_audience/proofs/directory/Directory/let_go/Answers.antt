use Rattle.std.proofs.Common.{rules, sym, subst}
use Rattle.broker_audience.specs.Directed.{AreFalling}
use Rattle.broker_audience.proofs.ForgottenObjects.{falling_left, other_keeps}
use Rattle.broker_audience.proofs.directory.Directory.let_go.Goals as goal

pub invariant_of-self : goal.invariant_of-self
invariant_of-self c = subst AreFalling (sym c.forget.ensures.left) (falling_left _ _ c.self.invariant)

pub invariant_of-self-in-Gone : goal.invariant_of-self-in-Gone
invariant_of-self-in-Gone c = subst AreFalling (sym c.forget_peer.ensures.left) (falling_left _ _ c.self.invariant)

pub invariant_of-self-in-Sync : goal.invariant_of-self-in-Sync
invariant_of-self-in-Sync c = subst AreFalling (sym c.forget-in-Sync.ensures.left) (falling_left _ _ c.self.invariant)

pub returns-in_default : goal.returns-in_default
returns-in_default c = record {
  left = other_keeps c.args.act.now c.args.number c.args.self.now.made c.in_default.not-Drop c.in_default.not-Gone
      c.in_default.not-Sync;
  room = search rules;
}
