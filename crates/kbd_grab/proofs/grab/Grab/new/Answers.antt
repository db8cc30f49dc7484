use Rattle.std.proofs.Common.{ap, ◌∙◌, refl}
use Rattle.std.specs.FinMap as map
use Rattle.std.specs.Ordering.{nat_cmp}
use Rattle.kbd_grab.proofs.grab.Grab.new.Goals as goal

pub returns : goal.returns
returns c = record {
  grab = refl;
  keys = λ key. ap (λ keys. map.get keys key) c.in_ok-new.ensures ∙ map.get-empty nat_cmp key;
  number = ap map.len c.in_ok-new.ensures ∙ map.len-empty nat_cmp _;
  last_keymap = refl;
  last_repeat = refl;
  last_mods = refl;
}
