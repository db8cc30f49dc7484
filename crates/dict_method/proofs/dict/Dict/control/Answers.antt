use Rattle.std.proofs.Common.{◌≡◌, false, rules}
use Rattle.dict_method.specs.Dictionary.{is_spelling}
use Rattle.dict_method.specs.Kept.{seen}
use Rattle.dict_method.proofs.ControlKeys.{with_control-dictionary}
use Rattle.dict_method.proofs.dict.Dict.control.Goals as goal

pub invariant_of-self-2 : goal.invariant_of-self-2
invariant_of-self-2 c =
    let free : is_spelling (seen c.self.inside).words c.args.key ≡ false = search rules in
    rw c.in_ok-put_control.ensures.ok
    (with_control-dictionary (seen c.self.inside) c.args.key c.args.what c.self.invariant free)
