use Rattle.std.proofs.Common.{ℕ, List, ap, ◌∙◌}
use Rattle.audit_fields.specs.Gathering.{Gathering, is_gained}
use Rattle.audit_fields.proofs.NumbersLost.{lost, none_left}
use Rattle.audit_fields.proofs.gatherer.Gatherer.empty.Goals as goal

pub returns-clause-gone : goal.returns-clause-gone
returns-clause-gone c =
    ap (λ (l : List ℕ). is_gained c.args.number l) c.lose.ensures ∙ none_left c.args.number c.self.inside.gained.items

pub returns-clause-others : goal.returns-clause-others
returns-clause-others c = λ q other.
    ap (λ (l : List ℕ). is_gained q l) c.lose.ensures ∙ lost q c.args.number c.self.inside.gained.items other
    ∙ ap (λ (g : Gathering). is_gained q g.gained) c.self.view_is
