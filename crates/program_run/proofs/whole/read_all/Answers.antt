use Rattle.std.proofs.Common.{arith, ◌≤◌, ◌≡◌, ◌++◌, length, length-append, refl}
use Rattle.program_run.specs.declared.reading.TheConstants.{INPUT_LIMIT}
use Rattle.program_run.proofs.InputReadToEnd.{read_more, none_read, read_to_end, read_to_limit}
use Rattle.program_run.proofs.whole.read_all.Goals as goal

pub returns-then-n-eq0-clause-all : goal.returns-then-n-eq0-clause-all
returns-then-n-eq0-clause-all g c =
    let told = c.in_ok-n.ensures in
    let short : length c.read_some.new.bytes.items ≤ INPUT_LIMIT =
    omega (
      arith,
      c.read_some.new.bytes.ok.0,
      told.len,
      told.within,
      c.pieces-test.true,
      c.len.ensures,
      c.len-in-pieces.ensures,
    ) in
    let read = read_more _ _ _ _ _ _ _ _ _ c.pieces.invariant.read told.took.1 told.took.3 in
    read_to_end _ _ _ read.left (told.end c.if-n-eq0.true) short

pub returns-in_err-n-clause-took : goal.returns-in_err-n-clause-took
returns-in_err-n-clause-took g c =
    let told = c.in_err-n.ensures.took in
    let all = c.pieces.input.items ++ told.0 in
    let fits : length all ≤ INPUT_LIMIT =
    omega (
      arith,
      length-append c.pieces.input.items told.0,
      c.pieces.input.ok.0,
      told.2,
      c.pieces-test.true,
      c.len.ensures,
      c.len-in-pieces.ensures,
    ) in (
      all,
      read_more _ _ _ _ _ _ _ all told.0 c.pieces.invariant.read told.1 refl,
      fits,
      none_read c.from_residual.result _ c.from_residual.ensures.0,
    )

pub returns-clause-all : goal.returns-clause-all
returns-clause-all g c =
    let full : length c.pieces.input.items ≡ INPUT_LIMIT =
    omega (arith, c.pieces.input.ok.0, c.pieces.invariant.short, c.pieces-test.false, c.len.ensures) in
    read_to_limit _ _ _ c.pieces.invariant.read.left full
