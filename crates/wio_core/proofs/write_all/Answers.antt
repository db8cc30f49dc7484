use Rattle.std.proofs.Common.{◌∙◌, arith, rules, length-drop}
use Rattle.std.proofs.lemmas.List.{take_rest}
use Rattle.wio_core.proofs.PiecesMove.{Appends-take}
use Rattle.wio_core.proofs.write_all.Goals as goal

pub loop-at-preserved : goal.loop-at-preserved
loop-at-preserved g c =
    let told = c.in_ok-at.ensures in record {
      within = omega (arith, told.within, length-drop c.loop-at.at c.args.piece.now);
      gained = Appends-take _ _ _ _ _ _ c.loop-at.invariant.gained (rw take_rest at told.gained);
      quiet = λ none. told.quiet (c.loop-at.invariant.quiet none);
      never_falls = search rules;
      no_fault = told.no_fault ∙ c.loop-at.invariant.no_fault;
    }
