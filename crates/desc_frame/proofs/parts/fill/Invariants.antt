use Rattle.std.proofs.Common.{◌≡◌, length, ◌-◌, ◌≤◌, take}
use Rattle.wio_core.specs.Io.{StaysQuiet}
use Rattle.desc_frame.specs.Answers.{Gave}
use Rattle.desc_frame.specs.Fills.{AreBytes}
use Rattle.desc_frame.proofs.parts.fill.Given as goal

-- the front of the part is filled
abbrev pub invariant-loop-at : goal.invariant-loop-at
invariant-loop-at g l = record {
  within : l.at ≤ length l.part;
  gave : Gave (g.S.Source.given l.initial.source) (g.S.Source.given l.source) (g.S.Source.left l.initial.source)
      (g.S.Source.left l.source) (take l.at l.part);
  bytes : AreBytes l.part;
  given_quiet : StaysQuiet (g.S.Source.given l.initial.source) (g.S.Source.given l.source);
  left_quiet : StaysQuiet (g.S.Source.left l.initial.source) (g.S.Source.left l.source);
  never_falls : g.S.Source.fault_count l.initial.source ≤ g.S.Source.fault_count l.source;
  no_fault : g.S.Source.fault_count l.source ≡ g.S.Source.fault_count l.initial.source;
}

abbrev pub decreases-loop-at : goal.decreases-loop-at
decreases-loop-at g l = length l.part - l.at
