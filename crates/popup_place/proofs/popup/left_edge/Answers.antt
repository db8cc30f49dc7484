use Rattle.std.proofs.Common.{rules, pos, ◌+ℤ◌, ◌≤ℤ◌, ◌^◌, ℤ, subst, sym}
use Rattle.popup_place.proofs.SumsFit.{left_edge_is, left_edge_inside, left_edge_at_most}
use Rattle.popup_place.proofs.popup.left_edge.Goals as goal

pub returns-clause-rule : goal.returns-clause-rule
returns-clause-rule c =
    left_edge_is
    c.args.left
    c.args.size.width
    c.args.screen.width
    c.min.result
    c.max.result
    c.ranges.left
    (search rules)
    (search rules)
    (search rules)
    (search rules)
    c.min.ensures.value
    c.max.ensures.value

pub returns-clause-inside : goal.returns-clause-inside
returns-clause-inside c narrow =
    let Inside : ℤ → Type 0 = λ x. (pos 0 ≤ℤ x) × (x +ℤ c.args.size.width) ≤ℤ c.args.screen.width in
    subst Inside (sym (returns-clause-rule c))
    (left_edge_inside c.args.left c.args.size.width c.args.screen.width narrow)

pub returns-clause-at_most : goal.returns-clause-at_most
returns-clause-at_most c =
    let AtMost : ℤ → Type 0 = λ x. x ≤ℤ pos (2 ^ 32) in
    subst AtMost (sym (returns-clause-rule c))
    (left_edge_at_most c.args.left c.args.size.width c.args.screen.width (search rules) (search rules))
