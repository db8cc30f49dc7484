use Rattle.std.proofs.Common.{◌≡◌, ◌++◌, map}
use Rattle.std.specs.Prelude.{IsTrue, string_bytes, take}
use Rattle.std.specs.Fmt.{signed_decimal}
use Rattle.wl_wire.specs.Texts.{has_no_zero}
use Rattle.lines_transcript.specs.Told.{spaced}
use Rattle.lines_transcript.proofs.told_line.add_signed.Given as goal

abbrev pub invariant-loop-number : goal.invariant-loop-number
invariant-loop-number l = record {
  added : string_bytes l.line
      ≡ string_bytes l.initial.line ++ spaced (map signed_decimal (take l.number-index l.numbers));
  clean : IsTrue (has_no_zero (string_bytes l.line));
}
