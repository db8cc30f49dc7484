use Rattle.std.proofs.Common.{◌≡◌, ◌++◌, ◌+◌, ◌*◌, ◌≤◌, map, length}
use Rattle.std.specs.Prelude.{IsTrue, drop}
use Rattle.std.specs.List.{list_all}
use Rattle.std.specs.Char.{is_ascii}
use Rattle.std.specs.Fmt.{decimal}
use Rattle.wl_wire.specs.Texts.{has_no_zero}
use Rattle.lines_transcript.specs.Told.{spaced}
use Rattle.lines_transcript.proofs.short_line.numbers_before.Given as goal

-- the numbers from the place on stand in the room
abbrev pub invariant-loop-left : goal.invariant-loop-left
invariant-loop-left l = record {
  left : l.left ≤ length l.numbers;
  near : l.end + 11 * l.left ≤ l.at + 11 * length l.numbers;
  before : l.at ≤ l.end;
  long : length l.room ≡ length l.fn.room;
  written : drop l.at l.room ≡ spaced (map decimal (drop l.left l.numbers)) ++ drop l.end l.fn.room;
  ascii : IsTrue (list_all is_ascii (drop l.at l.room));
  clean : IsTrue (has_no_zero (drop l.at l.room));
}

abbrev pub decreases-loop-left : goal.decreases-loop-left
decreases-loop-left l = l.left
