use Rattle.std.proofs.Common.{◌≡◌, ◌≤◌, ◌-◌, ℕ, List, length, take}
use Rattle.wio_core.specs.Io.{StaysQuiet}
use Rattle.wio_core.specs.Lines.{LacksFeed, IsOpen, TookFrom, Gathers}
use Rattle.wio_core.proofs.line_reader.find_line.Given as goal

-- the bytes so far are gathered, and the first of them were looked at
abbrev pub invariant-reading : goal.invariant-reading
invariant-reading g l = record {
  within : l.seen ≤ length l.window;
  lacks : LacksFeed (take l.seen l.window);
  took : (read : List ℕ)
      × TookFrom (g.S.Source.given l.initial.source) (g.S.Source.given l.source) (g.S.Source.left l.initial.source)
      (g.S.Source.left l.source) read
      × Gathers l.initial.window l.window l.initial.room l.room read;
  waits : ¬ IsOpen l.initial.window → (l.source ≡ l.initial.source) × (l.window ≡ l.initial.window);
  given_quiet : StaysQuiet (g.S.Source.given l.initial.source) (g.S.Source.given l.source);
  left_quiet : StaysQuiet (g.S.Source.left l.initial.source) (g.S.Source.left l.source);
  never_falls : g.S.Source.fault_count l.initial.source ≤ g.S.Source.fault_count l.source;
  no_fault : g.S.Source.fault_count l.source ≡ g.S.Source.fault_count l.initial.source;
}

abbrev pub decreases-reading : goal.decreases-reading
decreases-reading g l = 8401 - length l.window
