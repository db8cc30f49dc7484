use Rattle.std.proofs.Common.{sym, ◌∙◌, refl, arith}
use Rattle.std.proofs.lemmas.List.{take_more}
use Rattle.relay_objects.specs.declared.listed.LiveField.{LiveField}
use Rattle.relay_objects.proofs.FocusVisits.{visit_none, visit_more}
use Rattle.relay_objects.proofs.entered.refocus_each.Goals as goal

pub loop-field-init : goal.loop-field-init
loop-field-init c = record { items = sym (visit_none c.args.peer c.args.shelf.now.items); room = refl }

pub loop-field-preserved : goal.loop-field-preserved
loop-field-preserved c =
    let none : LiveField = record { peer = 0; label = 0 } in
    record {
      items = rw (
        take_more c.args.fields.now c.loop-field.field-index none (omega arith),
        c.change.ensures.items,
        c.loop-field.invariant.items,
      ) (visit_more _ _ c.args.peer c.args.shelf.now.items);
      room = c.change.ensures.room ∙ c.loop-field.invariant.room;
    }
