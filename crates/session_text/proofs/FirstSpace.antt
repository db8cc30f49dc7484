-- A line is cut at its first space.
use Rattle.std.proofs.Common.{◌≡◌, ℕ, ◌+◌, ◌-◌, ◌<◌, ◌≤◌, ◌==◌, List, [], ◌∷◌, ◌++◌, length, take, drop, get_or, suc, false, refl, inl, inr, sym, ap, ◌∙◌, subst, arith, length-drop, length-append}
use Rattle.std.specs.List.{slice_split, All}
use Rattle.std.proofs.lemmas.List.{take_all, take-append-drop, get_or-drop}
use Rattle.std.proofs.lemmas.List.Splits.{slice_split_at, slice_split_none, length-slice_split}
use Rattle.std.proofs.lemmas.Bool.{eqb-true, cases_lt}
use Rattle.std.proofs.lemmas.Bool.Decides.{eqb_tells}
use Rattle.std.proofs.Math.Seq.{drop-cons}
use Rattle.std.proofs.lemmas.Grind.{common_steps}
use Rattle.memchr.specs.Find.{Nowhere, NoneBefore, Passes, is_byte}

-- a search that found no space among the first n bytes
lacks_space : (line : List ℕ) (n : ℕ) → n ≤ length line → Nowhere (Passes (is_byte 32) line) 0 n
    → All (λ b. (b == 32) ≡ false) (take n line)
lacks_space line n le nowhere k d lt =
    let small : k < n = grind (arith, common_steps) in
    let here : get_or line k 0 ≡ get_or (take n line) k d = grind (arith, common_steps) in
    elim (eqb_tells (get_or line k 0) 32) [
      | inl p ↦ absurd (nowhere k (omega arith) small p.0)
      | inr p ↦ sym (ap (λ b. b == 32) here) ∙ p.0
    ]

-- a search that goes on where another found no space

passes_behind : (line rest : List ℕ) (n k : ℕ) → rest ≡ drop n line → Passes (is_byte 32) rest k →
    Passes (is_byte 32) line (n + k)
passes_behind line rest n k is h = ap (λ b. b == 32) (sym (ap (λ l. get_or l k 0) is ∙ get_or-drop n line k 0)) ∙ h

nowhere_joined : (line rest : List ℕ) (n m : ℕ) → rest ≡ drop n line → Nowhere (Passes (is_byte 32) line) 0 n
    → Nowhere (Passes (is_byte 32) rest) 0 m → Nowhere (Passes (is_byte 32) line) 0 (n + m)
nowhere_joined line rest n m is near far k low high here =
    elim (cases_lt k n) [
      | inl l ↦ near k low l here
      | inr l ↦
          let split : n + (k - n) ≡ k = omega arith in
          let there : get_or rest (k - n) 0 ≡ get_or line k 0 =
          ap (λ l. get_or l (k - n) 0) is ∙ get_or-drop n line (k - n) 0 ∙ ap (λ i. get_or line i 0) split in
          far (k - n) (omega arith) (omega arith) (ap (λ b. b == 32) there ∙ here)
    ]

pub far_space : (line rest : List ℕ) (n k : ℕ) → n ≤ length line → rest ≡ drop n line
    → Nowhere (Passes (is_byte 32) line) 0 n →
    NoneBefore (Passes (is_byte 32) rest) 0 (length rest) k × Passes (is_byte 32) rest k
    → NoneBefore (Passes (is_byte 32) line) 0 (length line) (n + k) × Passes (is_byte 32) line (n + k)
far_space line rest n k le is near found =
    let behind = ap length is ∙ length-drop n line in
    let high = found.0.high in (
      record { low = omega arith; high = omega arith; before = nowhere_joined line rest n k is near found.0.before },
      passes_behind line rest n k is found.1,
    )

pub no_space : (line rest : List ℕ) (n : ℕ) → n ≤ length line → rest ≡ drop n line →
    Nowhere (Passes (is_byte 32) line) 0 n
    → Nowhere (Passes (is_byte 32) rest) 0 (length rest) → Nowhere (Passes (is_byte 32) line) 0 (length line)
no_space line rest n le is near far =
    let behind = ap length is ∙ length-drop n line in
    let whole : n + length rest ≡ length line = omega arith in
    subst (Nowhere (Passes (is_byte 32) line) 0) whole (nowhere_joined line rest n (length rest) is near far)

-- the first word ends at the first space, and the others are those of what stands behind it
pub cut_at_space : (line : List ℕ) (n : ℕ) → NoneBefore (Passes (is_byte 32) line) 0 (length line) n →
    Passes (is_byte 32) line n
    → slice_split (λ b. b == 32) line ≡ take n line ∷ slice_split (λ b. b == 32) (drop (suc n) line)
cut_at_space line n none here =
    let high = none.high in
    let inside : n < length line = omega (arith, high) in
    let space : get_or line n 0 ≡ 32 = eqb-true (get_or line n 0) 32 here in
    let parts : take n line ++ 32 ∷ drop (suc n) line ≡ line =
    ap (λ l. take n line ++ l) (sym (drop-cons line n 0 inside ∙ ap (λ b. b ∷ drop (suc n) line) space))
    ∙ take-append-drop n line in
    ap (slice_split (λ b. b == 32)) (sym parts)
    ∙ slice_split_at (λ b. b == 32) (take n line) 32 (drop (suc n) line)
    (lacks_space line n (omega (arith, high)) none.before) refl

-- without a space the line is one word
pub one_word : (line : List ℕ) → Nowhere (Passes (is_byte 32) line) 0 (length line)
    → slice_split (λ b. b == 32) line ≡ line ∷ []
one_word line nowhere =
    slice_split_none (λ b. b == 32) line
    (subst (All (λ b. (b == 32) ≡ false)) (take_all (length line) line (omega arith))
    (lacks_space line (length line) (omega arith) nowhere))

-- where so many words are cut off, and one more and what stands behind it, there are more than eight
pub many_cut : (firsts : List (List ℕ)) (left word rest line : List ℕ) (n : ℕ)
    → firsts ++ slice_split (λ b. b == 32) left ≡ slice_split (λ b. b == 32) line
    → slice_split (λ b. b == 32) left ≡ word ∷ slice_split (λ b. b == 32) rest → length firsts ≡ n → 7 ≤ n
    → 8 < length (slice_split (λ b. b == 32) line)
many_cut firsts left word rest line n whole cut long many =
    let a = ap length whole in
    let b = ap length cut in
    omega (arith, a, b, length-append firsts (slice_split (λ b. b == 32) left), length-slice_split (λ b. b == 32) rest)
