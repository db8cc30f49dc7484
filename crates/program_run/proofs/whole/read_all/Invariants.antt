use Rattle.std.proofs.Common.{◌≡◌, ◌≤◌, ◌-◌, vec_len}
use Rattle.wio_core.specs.Lines.{TookFrom}
use Rattle.program_run.specs.declared.reading.TheConstants.{INPUT_LIMIT}
use Rattle.program_run.proofs.whole.read_all.Given as goal

abbrev pub invariant-pieces : goal.invariant-pieces
invariant-pieces g l = record {
  short : vec_len l.input ≤ INPUT_LIMIT;
  read : TookFrom (g.S.Source.given l.initial.source) (g.S.Source.given l.source)
      (g.S.Source.left l.initial.source) (g.S.Source.left l.source) l.input.items;
  later : g.S.Source.fault_count l.initial.source ≤ g.S.Source.fault_count l.source;
  no_fault : g.S.Source.fault_count l.source ≡ g.S.Source.fault_count l.initial.source;
}

abbrev pub decreases-pieces : goal.decreases-pieces
decreases-pieces g l = INPUT_LIMIT - vec_len l.input
