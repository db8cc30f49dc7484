use Rattle.std.proofs.Common.{◌≡◌, [], arith, ap, sym, ◌∙◌, length}
use Rattle.std.specs.FinMap as map
use Rattle.std.specs.Ordering.{nat_cmp}
use Rattle.kbd_grab.specs.DownList.{keys_of}
use Rattle.kbd_grab.proofs.held.HeldKeys.new.Goals as goal

none : (c : goal.In_ok-with_capacity) → c.in_ok-with_capacity.field-0.items ≡ []
none c = c.in_ok-with_capacity.ensures.items

pub invariant_of-result : goal.invariant_of-result
invariant_of-result c = record {
  each_once = ap (λ items. map.len (keys_of items)) (none c) ∙ map.len-empty nat_cmp _ ∙ sym (ap length (none c));
  few = rw (none c) (omega arith);
  room = omega (arith, c.in_ok-with_capacity.ensures.capacity);
}

pub returns : goal.returns
returns c = ap keys_of (none c)
