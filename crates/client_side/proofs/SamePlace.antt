-- An edit is answered by whether it changes text or cursor.
use Rattle.std.proofs.Common.{◌≡◌, Bool, true, false, ◌&&◌, ◌↔◌, length, ◌==◌, nat_eq, ⊎_elim, refl, sym, arith}
use Rattle.std.specs.Cmp.Lexicographic.{pointwise, bytes_decides}
use Rattle.std.proofs.lemmas.Bool.{cases_Bool}
use Rattle.std.proofs.lemmas.Bool.Decides.{nat_tests}
use Rattle.trial_field.specs.Log.{Entry}
use Rattle.trial_field.specs.FieldText.{FieldText, whole, after, IsSamePlace}
use Rattle.client_side.specs.FieldLog.{is_same_place, changes}

stays : (old new : FieldText) → IsSamePlace old new → is_same_place old new ≡ true
stays old new same =
    let text : pointwise nat_eq (whole new) (whole old) ≡ true = (bytes_decides (whole new) (whole old)).1 same.0 in
    let cursor = same.1 in grind (arith, nat_tests)

both : (a b : Bool) → (a && b) ≡ true → (a ≡ true) × (b ≡ true)
both true true e = (refl, refl)
both true false e = absurd cc
both false b e = absurd cc

moves : (old new : FieldText) → is_same_place old new ≡ true → IsSamePlace old new
moves old new same =
    let parts = both (pointwise nat_eq (whole new) (whole old)) (length new.before == length old.before) same in
    let cursor = parts.1 in
    ((bytes_decides (whole new) (whole old)).0 parts.0, grind (arith, nat_tests))

pub answer_is : (edit : Entry) (old new : FieldText) (answer : Bool) → new ≡ after edit old
    → ((answer ≡ false) ↔ IsSamePlace old new)
    → answer ≡ changes edit old
unfolding changes
answer_is edit old new true is same =
    ⊎_elim (λ (stands : is_same_place old (after edit old) ≡ true).
    absurd (let f : true ≡ false = same.1 (rw is (moves old (after edit old) stands)) in cc))
    (λ (changed : is_same_place old (after edit old) ≡ false). rw changed refl)
    (cases_Bool (is_same_place old (after edit old)))
answer_is edit old new false is same =
    let stands : is_same_place old (after edit old) ≡ true = stays old (after edit old) (rw (sym is) (same.0 refl)) in
    rw stands refl
