-- The window that a field shows is that of the definitions.
use Rattle.std.proofs.Common.{◌≡◌, ℕ, zero, suc, ◌+◌, ◌-◌, ◌<◌, ◌≤◌, true, false, min, List, length, get_or, ⊎_elim, refl, arith, pos, IsCharBoundary}
use Rattle.std.proofs.lemmas.Bool.{cases_lt}
use Rattle.std.proofs.lemmas.Bool.Decides.{nat_tests}
use Rattle.trial_field.specs.Characters.{goes_on, is_boundary}
use Rattle.trial_field.specs.Window.{IsMovedUp, IsMovedDown, IsWindow}
use Rattle.trial_field.specs.FieldText.{FieldText, whole}
use Rattle.wl_proto.specs.Spelling.{message_bytes}
use Rattle.client_side.specs.Messages.{set_surrounding_text}
use Rattle.client_side.specs.FieldSends.{surrounding}
use Rattle.std.specs.List.{slice_range}
use Rattle.trial_field.proofs.BoundariesAreChars.{goes_on-boundary, goes_on-inside}
use Rattle.client_side.specs.Window.{first_boundary, last_boundary, window_begin, window_end}

at_boundary : (text : List ℕ) (n : ℕ) → IsCharBoundary text n → is_boundary text n ≡ true
at_boundary text n at =
    ⊎_elim (λ (within : n < length text).
    let stops : goes_on (get_or text n 0) ≡ false = goes_on-boundary text n within at in grind (arith, nat_tests))
    (λ (past : length text ≤ n). let end : n ≡ length text = omega (arith, at.0) in grind (arith, nat_tests))
    (cases_lt n (length text))

no_boundary : (text : List ℕ) (n : ℕ) → n < length text → ¬ (IsCharBoundary text n) → is_boundary text n ≡ false
no_boundary text n within inside =
    let on : goes_on (get_or text n 0) ≡ true = goes_on-inside text n within inside in grind (arith, nat_tests)

-- the text's end is a boundary
not_the_end : (text : List ℕ) (n : ℕ) → n ≤ length text → ¬ (IsCharBoundary text n) → n < length text
not_the_end text n within inside =
    ⊎_elim (λ (less : n < length text). less)
    (λ (end : length text ≤ n). absurd (inside (within, λ less _. absurd (omega (arith, less, end)))))
    (cases_lt n (length text))

first_boundary_is : (text : List ℕ) (more n place : ℕ) → n ≤ place → place ≤ n + more → IsCharBoundary text place
    → ((i : ℕ) → n ≤ i → i < place → ¬ (IsCharBoundary text i)) → first_boundary text more n ≡ place
first_boundary_is text zero n place low high at nearest = omega arith
first_boundary_is text (suc more) n place low high at nearest =
    ⊎_elim (λ (below : n < place).
    rw (no_boundary text n (omega (arith, at.0)) (nearest n (omega arith) below))
    (first_boundary_is text more (n + 1) place (omega arith) (omega arith) at
    (λ i above under. nearest i (omega arith) under)))
    (λ (there : place ≤ n). let same : n ≡ place = omega arith in rw (at_boundary text n (rw same at)) same)
    (cases_lt n place)

last_boundary_is : (text : List ℕ) (n place : ℕ) → place ≤ n → n ≤ length text → IsCharBoundary text place
    → ((i : ℕ) → place < i → i ≤ n → ¬ (IsCharBoundary text i)) → last_boundary text n ≡ place
last_boundary_is text zero place high within at nearest = omega arith
last_boundary_is text (suc n) place high within at nearest =
    ⊎_elim (λ (below : place < suc n). let inside = nearest (suc n) below (omega arith) in
    rw (no_boundary text (suc n) (not_the_end text (suc n) within inside) inside)
    (last_boundary_is text n place (omega arith) (omega arith) at (λ i above under. nearest i above (omega arith))))
    (λ (there : suc n ≤ place).
    let same : suc n ≡ place = omega arith in rw (at_boundary text (suc n) (rw same at)) same)
    (cases_lt place (suc n))

pub begin_is : (text : List ℕ) (cursor begin : ℕ) → IsMovedUp text (cursor - 2000) begin
    → window_begin text cursor ≡ begin
unfolding window_begin
begin_is text cursor begin up =
    first_boundary_is text (length text) (cursor - 2000) begin up.bound (omega (arith, up.boundary.0))
    up.boundary up.nearest

pub end_is : (text : List ℕ) (begin end : ℕ) → IsMovedDown text (min (begin + 4000) (length text)) end
    → window_end text begin ≡ end
unfolding window_end
end_is text begin end down =
    last_boundary_is text (min (begin + 4000) (length text)) end down.bound (omega arith) down.boundary down.nearest

-- what is told of the window is what the definitions tell
pub surrounding_is : (t : FieldText) (begin end cursor : ℕ) (text : List ℕ)
    → IsWindow (whole t) (length t.before) begin end
    → cursor ≡ length t.before → text ≡ slice_range (whole t) begin end
    → message_bytes 7 (set_surrounding_text text (pos (cursor - begin)))
    ≡ message_bytes (surrounding t).object (surrounding t).message
unfolding surrounding
surrounding_is t begin end cursor text window cursor-is text-is =
    let from : window_begin (whole t) (length t.before) ≡ begin =
    begin_is (whole t) (length t.before) begin window.begins in
    let up_to : window_end (whole t) begin ≡ end = end_is (whole t) begin end window.ends in
    rw (text-is, cursor-is, from, up_to) refl
