use Rattle.std.proofs.Common.{◌∙◌, arith, length, ◌-◌}
use Rattle.std.proofs.Math.Facts.{Fits-lt-pow}
use Rattle.desc_frame.proofs.FrameParts.{Gave-trans, take-filled, length-filled}
use Rattle.desc_frame.proofs.parts.fill.Goals as goal

pub loop-at-preserved : goal.loop-at-preserved
loop-at-preserved g c =
    let told = c.in_ok-at.ensures in
    let at = c.loop-at.at in
    let part = c.loop-at.part in
    let more = c.read_some.new.part in
    let same = c.read_some.auto.part in record {
      within = omega (
        arith,
        told.within.1,
        length-filled at (length part - at) part more (omega arith) (omega arith) (omega arith),
      );
      gave = rw (take-filled at c.in_ok-at.field-0 (length part - at) part more (omega arith) told.within.1)
          (Gave-trans _ _ _ _ _ _ _ _ c.loop-at.invariant.gave told.moved);
      bytes = λ i. Fits-lt-pow (c.type_inv.part i);
      given_quiet = λ none. told.given_quiet (c.loop-at.invariant.given_quiet none);
      left_quiet = λ none. told.left_quiet (c.loop-at.invariant.left_quiet none);
      never_falls = omega (arith, told.never_falls);
      no_fault = told.no_fault (λ e. cc e) ∙ c.loop-at.invariant.no_fault;
    }
