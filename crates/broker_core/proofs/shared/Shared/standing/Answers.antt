use Rattle.std.proofs.Common.{◌≡◌, true, false, sym, subst, ◌∙◌}
use Rattle.broker_core.specs.Broker.{Broker}
use Rattle.broker_core.specs.Taking.{lives}
use Rattle.broker_core.proofs.WhoIsAlive.{alive_lives, others_gone}
use Rattle.broker_core.proofs.shared.Shared.standing.Goals as goal

pub returns-clause-lives : goal.returns-clause-lives
returns-clause-lives c = λ is.
    subst (λ (b : Broker). lives b.journal c.args.number ≡ true) c.self.view_is
    (alive_lives c.self.inside.state c.args.number c.self.invariant.stands (sym c.standing.ensures.value ∙ is))

pub returns-clause-others : goal.returns-clause-others
returns-clause-others c = λ is_not.
    subst (λ (b : Broker). lives b.journal c.args.number ≡ false) c.self.view_is
    (others_gone c.self.inside.state c.args.number c.self.invariant.stands
    (λ is. is_not (c.standing.ensures.value ∙ is)))
