-- A text keeps its bytes where a zero is written behind it, and so do the bytes behind that.
use Rattle.std.proofs.Common.{◌≡◌, ℕ, ◌<◌, List, [], ◌∷◌, ◌++◌, length, drop, arith, slice_set, ap, ◌∙◌}
use Rattle.std.proofs.lemmas.List.{set_at, drop-drop}
use Rattle.c_relay.specs.Events.{Heard}
use Rattle.c_library.specs.Gave.{IsZeroEnded}

-- how long the text of the event is that waits longest
abbrev pub first_length : ℕ → List Heard → ℕ
first_length none [] = none
first_length none (first ∷ rest) = first.event.length

over_first : (text rest : List ℕ) (n : ℕ) → length text ≡ n → 0 < length rest →
    slice_set (text ++ rest) n 0 ≡ text ++ 0 ∷ drop 1 rest
over_first text [] n same some = let none : ⊥ = omega (arith, some) in absurd none
over_first text (byte ∷ rest) n same some = set_at text byte rest 0 n same

pub zero_behind : (text before : List ℕ) (n : ℕ) → length text ≡ n → 0 < length (drop (length text) before) →
    IsZeroEnded text before (slice_set (text ++ drop (length text) before) n 0)
zero_behind text before n same some =
    over_first text (drop (length text) before) n same some
    ∙ ap (λ rest. text ++ 0 ∷ rest) (drop-drop 1 (length text) before)
