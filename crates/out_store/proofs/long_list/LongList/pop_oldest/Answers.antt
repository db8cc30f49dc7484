use Rattle.std.proofs.Common.{◌≡◌, ◌+◌, ℕ, [], None, rules, arith, ap, subst, ◌∙◌}
use Rattle.out_store.specs.Long.{item_at}
use Rattle.out_store.proofs.NumberedItems.{front_at, no_front}
use Rattle.out_store.proofs.long_list.LongList.pop_oldest.Goals as goal

pub returns-in_err-item-clause-value : goal.returns-in_err-item-clause-value
returns-in_err-item-clause-value g c =
    let inside = c.self.inside in
    let none : c.from_residual.result ≡ None = search rules in
    let empty : inside.kept.items ≡ [] = search rules in
    let next = no_front inside.past (inside.kept_from + 1) (ap (λ (n : ℕ). n + 1) c.self.invariant.0) in
    subst (λ l. c.from_residual.result ≡ item_at l.items (l.kept_from + 1)) c.self.view_is (rw empty (none ∙ next))

pub returns-clause-value : goal.returns-clause-value
returns-clause-value g c =
    grind (
      arith,
      rules,
      front_at c.in_ok-item.item c.pop_front.new.self.items c.self.inside.past (c.args.self.now.kept_from + 1),
    )
