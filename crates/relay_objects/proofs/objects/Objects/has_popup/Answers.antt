use Rattle.std.proofs.Common.{ap, ◌∙◌, eqb}
use Rattle.std.specs.List.{list_any}
use Rattle.relay_objects.specs.Objects.{has_popup_in}
use Rattle.relay_objects.proofs.PopupSurfaces.{surfaces_are}
use Rattle.relay_objects.proofs.objects.Objects.has_popup.Goals as goal

pub returns : goal.returns
returns c =
    c.has_surface.ensures
    ∙ ap (list_any (λ w. eqb w.surface c.args.surface)) (c.deref.ensures.value ∙ c.self.invariant.0.popups_are)
    ∙ surfaces_are c.args.surface c.self.inside.shelf.items
    ∙ ap (λ v. has_popup_in v.items c.args.surface) c.self.view_is
