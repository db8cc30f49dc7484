use Rattle.std.proofs.Common.{◌≡◌, Some, sym}
use Rattle.dict_method.specs.Candidates.{candidate}
use Rattle.dict_method.specs.Kept.{seen}
use Rattle.dict_method.proofs.ControlKeys.{candidate_fits}
use Rattle.dict_method.proofs.dict.Dict.candidate.Goals as goal

pub returns-in-Some-clause-fits : goal.returns-in-Some-clause-fits
returns-in-Some-clause-fits c =
    let there : Some c.in-Some.word.now ≡ candidate (seen c.self.inside).words c.args.code.now c.args.number =
    rw c.deref.ensures.value at c.in-Some.ensures in
    let found : candidate (seen c.self.inside).words c.args.code.now c.args.number ≡ Some c.in-Some.word.now =
    sym there in
    rw c.as_str.ensures.value
    (candidate_fits (seen c.self.inside) c.args.code.now c.args.number c.in-Some.word.now c.self.invariant found).few
