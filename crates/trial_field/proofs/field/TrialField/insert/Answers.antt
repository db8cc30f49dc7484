use Rattle.std.proofs.Common.{arith, string_bytes}
use Rattle.trial_field.proofs.BoundariesAreChars.{boundary_behind, clean_with}
use Rattle.trial_field.proofs.field.TrialField.insert.Goals as goal

pub invariant_of-self : goal.invariant_of-self
invariant_of-self c =
    let kept = c.self.invariant in
    let text = string_bytes c.self.inside.text in
    record {
      at_boundary =
          rw c.in-Ok.ensures.bytes (boundary_behind text c.args.text.now c.self.inside.cursor kept.at_boundary);
      text_fits = omega (arith, c.in-Ok.ensures.len);
      text_room = omega (arith, c.in-Ok.ensures.capacity);
      text_clean =
          rw c.in-Ok.ensures.bytes (clean_with text c.args.text.now c.self.inside.cursor kept.text_clean c.requires);
      preedit_fits = kept.preedit_fits;
      preedit_room = kept.preedit_room;
      preedit_clean = kept.preedit_clean;
    }
