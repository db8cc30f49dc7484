use Rattle.std.proofs.Common.{◌<◌, length, get_or, None, sym, ◌∙◌, ap, subst}
use Rattle.std.proofs.lemmas.Bool.{ltb-true}
use Rattle.std.proofs.lemmas.List.{get_or_read}
use Rattle.std.specs.FinMap as map
use Rattle.im_objects.specs.Objects.{Objects}
use Rattle.im_objects.proofs.TreeIsMap.{get_tree}
use Rattle.im_objects.proofs.table.Table.find.Goals as goal

pub returns-in-Some-clause-now : goal.returns-in-Some-clause-now
returns-in-Some-clause-now c =
    let item = c.in-Some.ensures.lookup in
    let within : c.args.id < length c.self.inside.near.items =
    subst (λ ns. c.args.id < length ns) c.deref.ensures.value (ltb-true _ _ (sym (item.0))) in
    get_or_read c.deref.result.now c.args.id c.in-Some.object.now (ltb-true _ _ (sym (item.0))) item.1 None
    ∙ ap (λ ns. get_or ns c.args.id None) c.deref.ensures.value
    ∙ c.self.invariant.1 c.args.id within
    ∙ ap (λ (o : Objects). map.get o.under c.args.id) c.self.view_is

pub returns-in-Some-clause-history : goal.returns-in-Some-clause-history
returns-in-Some-clause-history c calls s = returns-in-Some-clause-now c ∙ s.under c.args.id

pub returns-in-None-clause-now : goal.returns-in-None-clause-now
returns-in-None-clause-now c =
    c.copied.ensures ∙ c.get-in-None.ensures.value ∙ sym (get_tree c.self.inside.objects c.args.id)
    ∙ ap (λ (o : Objects). map.get o.under c.args.id) c.self.view_is

pub returns-in-None-clause-history : goal.returns-in-None-clause-history
returns-in-None-clause-history c calls s = returns-in-None-clause-now c ∙ s.under c.args.id
