use Rattle.std.proofs.Common.{◌≡◌, Some, sym, ◌∙◌, ap, subst}
use Rattle.std.specs.Prelude.{◌↔◌}
use Rattle.std.specs.FinMap as map
use Rattle.im_objects.specs.Objects.{Objects, IsLabelled}
use Rattle.im_objects.specs.contracts.table.Table.{the_view}
use Rattle.im_objects.proofs.TreeIsMap.{get_tree}
use Rattle.im_objects.proofs.MapsAreInverse.{inverse_of}
use Rattle.im_objects.proofs.table.Table.find_label.Goals as goal

found : (c : goal.After-copied) → c.copied.result ≡ map.get (the_view c.self.inside).ids c.args.label
found c = c.copied.ensures ∙ c.get.ensures.value ∙ sym (get_tree c.self.inside.ids c.args.label)

pub returns-clause-now : goal.returns-clause-now
returns-clause-now c = found c ∙ ap (λ (o : Objects). map.get o.ids c.args.label) c.self.view_is

pub returns-clause-inverse : goal.returns-clause-inverse
returns-clause-inverse c id =
    let Labelled : Objects → Type 0 = λ o. (c.copied.result ≡ Some id) ↔ IsLabelled c.args.label (map.get o.under id) in
    let both = inverse_of (the_view c.self.inside).under
    (the_view c.self.inside).ids c.args.label id c.self.invariant.0 in
    subst Labelled c.self.view_is ((λ e. both.0 (sym (found c) ∙ e)), (λ h. found c ∙ both.1 h))

pub returns-clause-history : goal.returns-clause-history
returns-clause-history c calls s = returns-clause-now c ∙ s.ids c.args.label
