use Rattle.std.proofs.Common.{◌≡◌, ◌<◌, ◌≤◌, Some, None, is_some, sym, ◌∙◌, ap, subst, arith}
use Rattle.std.specs.FinMap as map
use Rattle.std.proofs.lemmas.Bool.{lt-ltb, le-ltb}
use Rattle.im_objects.specs.declared.refusal.MakeRefusal.TheVariants.{IdTaken, TooMany}
use Rattle.im_objects.specs.Objects.{Objects, refusal_of}
use Rattle.im_objects.specs.contracts.table.Table.{the_view}
use Rattle.im_objects.proofs.TreeIsMap.{get_tree, len_tree}
use Rattle.im_objects.proofs.MakeRefuses.{taken, too_many, none}
use Rattle.im_objects.proofs.table.Table.refusal_of.Goals as goal

pub returns-then-contains_key : goal.returns-then-contains_key
returns-then-contains_key c =
    let Told : Objects → Type 0 = λ o. Some IdTaken ≡ refusal_of o c.args.id in
    subst Told c.self.view_is
    (taken (the_view c.self.inside) c.args.id
    (sym c.is_no_client_id.ensures ∙ c.if-is_no_client_id.false)
    (ap is_some (get_tree c.self.inside.objects c.args.id) ∙ sym c.contains_key.ensures ∙ c.if-contains_key.true))

pub returns-then-len-gt-MOST_LIVE : goal.returns-then-len-gt-MOST_LIVE
returns-then-len-gt-MOST_LIVE c =
    let Told : Objects → Type 0 = λ o. Some TooMany ≡ refusal_of o c.args.id in
    let many : 256 < map.len (the_view c.self.inside).under =
    omega (arith, len_tree c.self.inside.objects c.len.ensures.ordered, c.len.ensures.len, c.if-len-gt-MOST_LIVE.true)
    in
    subst Told c.self.view_is
    (too_many (the_view c.self.inside) c.args.id
    (sym c.is_no_client_id.ensures ∙ c.if-is_no_client_id.false)
    (ap is_some (get_tree c.self.inside.objects c.args.id) ∙ sym c.contains_key.ensures ∙ c.if-contains_key.false)
    (lt-ltb _ _ many))

pub returns-else-len-gt-MOST_LIVE : goal.returns-else-len-gt-MOST_LIVE
returns-else-len-gt-MOST_LIVE c =
    let Told : Objects → Type 0 = λ o. None ≡ refusal_of o c.args.id in
    let few : map.len (the_view c.self.inside).under ≤ 256 =
    omega (arith, len_tree c.self.inside.objects c.len.ensures.ordered, c.len.ensures.len, c.if-len-gt-MOST_LIVE.false)
    in
    subst Told c.self.view_is
    (none (the_view c.self.inside) c.args.id
    (sym c.is_no_client_id.ensures ∙ c.if-is_no_client_id.false)
    (ap is_some (get_tree c.self.inside.objects c.args.id) ∙ sym c.contains_key.ensures ∙ c.if-contains_key.false)
    (le-ltb _ _ few))
