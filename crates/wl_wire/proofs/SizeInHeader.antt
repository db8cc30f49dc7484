-- The size stands in the header.
use Rattle.std.proofs.Common.{◌≡◌, ℕ, ◌≤◌, List, ◌++◌, length, arith, refl}
use Rattle.std.proofs.lemmas.List.{get_or_append_left}
use Rattle.wl_wire.specs.Messages.{size_of}

pub size_stays : (xs ys : List ℕ) → 8 ≤ length xs → size_of (xs ++ ys) ≡ size_of xs
size_stays xs ys le = rw (get_or_append_left xs ys 0 6 (omega arith), get_or_append_left xs ys 0 7 (omega arith)) refl
