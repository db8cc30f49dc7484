use Rattle.std.proofs.Common.{refl, map, ap, ◌∙◌}
use Rattle.relay_objects.specs.Objects.{refocused}
use Rattle.relay_objects.proofs.NewObject.{new_mapped}
use Rattle.relay_objects.proofs.FocusVisits.{visits_are, lists_refocused}
use Rattle.relay_objects.proofs.objects.Objects.refocus.Goals as goal

pub invariant_of-self : goal.invariant_of-self
invariant_of-self c =
    rw (
      c.refocus_entered-2.ensures.items,
      c.refocus_entered.ensures.items,
      c.left_for-left.ensures,
      c.entered_by-next.ensures,
      c.deref.ensures.value,
      c.deref-2.ensures.value,
      visits_are c.self.inside.shelf.items c.self.inside.fields.items c.self.inside.popups.items c.self.inside.entered
          c.self.invariant.0 c.args.peer,
    ) (
      lists_refocused c.self.inside.shelf.items c.self.inside.fields.items c.self.inside.popups.items
          c.self.inside.entered c.self.invariant.0 c.args.peer,
      new_mapped (refocused c.args.peer) (λ o. refl) c.self.inside.shelf.items c.self.inside.bound c.self.invariant.1,
    )

pub returns-clause-items : goal.returns-clause-items
returns-clause-items c =
    rw (
      c.refocus_entered-2.ensures.items,
      c.refocus_entered.ensures.items,
      c.left_for-left.ensures,
      c.entered_by-next.ensures,
      c.deref.ensures.value,
      c.deref-2.ensures.value,
    )
    (visits_are c.self.inside.shelf.items c.self.inside.fields.items c.self.inside.popups.items c.self.inside.entered
    c.self.invariant.0 c.args.peer)
    ∙ ap (λ v. map (refocused c.args.peer) v.items) c.self.view_is
