-- The order of a dictionary.
use Rattle.std.specs.Prelude.{ℕ, Bool, List}
use Rattle.std.specs.Ordering.{is_le, nat_cmp}
use Rattle.std.specs.Cmp.Lexicographic.{slice_cmp}

-- the first keys stand before the second, or are the same
abbrev pub up_to : List ℕ → List ℕ → Bool
up_to keys others = is_le (slice_cmp nat_cmp keys others)
