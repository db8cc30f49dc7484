use Rattle.std.proofs.Common.{◌≡◌, ◌+◌, rules, arith, subst}
use Rattle.std.specs.Option.{option_copied}
use Rattle.out_store.specs.Long.{kept_at}
use Rattle.out_store.proofs.NumberedItems.{kept_got}
use Rattle.out_store.proofs.long_list.LongList.item.Goals as goal

pub returns : goal.returns
returns g c =
    let inside = c.self.inside in
    let number : c.args.number ≡ c.in_ok-place.place + 1 + inside.kept_from = grind (arith, rules) in
    record {
      value = subst (λ l. option_copied c.get.result ≡ kept_at l.kept_from l.items c.args.number) c.self.view_is
          (kept_got inside.kept.items inside.past c.in_ok-place.place inside.kept_from c.args.number c.get.result
          c.get.ensures.item c.self.invariant.0 number);
    }
