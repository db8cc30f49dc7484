use Rattle.std.proofs.Common.{◌≢◌, Some}
use Rattle.wio_core.specs.declared.line_reader.LineStop.TheVariants as stop
use Rattle.test_base.proofs.line_reader_tests.tell.Given as goal

-- no read failed
abbrev pub invariant-lines : goal.invariant-lines
invariant-lines l = l.reader.settled ≢ Some stop.ReadFault
