-- What the nearest boundaries of a text say of its first and its last character.
use Rattle.std.proofs.Common.{◌≡◌, ℕ, zero, suc, ◌+◌, ◌-◌, ◌<◌, ◌≤◌, true, false, List, [], ◌∷◌, ◌++◌, length, take, drop, get_or, refl, sym, ◌∙◌, ap, ⊎_elim, arith, IsCharBoundary}
use Rattle.std.specs.List.{list_all, prefix_len}
use Rattle.std.proofs.lemmas.Bool.{cases_lt, cases_Bool}
use Rattle.std.proofs.lemmas.Bool.Decides.{nat_tests}
use Rattle.std.proofs.lemmas.List.{take-append-drop, length-take-le, length-append, length-drop, append_assoc, take_at, drop_at, get_or-append_right, get_or-take, get_or-drop, drop_more}
use Rattle.std.proofs.lemmas.List.Sums.{prefix_len_is, list_all-from_AllPass}
use Rattle.std.proofs.lemmas.List.Elements.{All-from_get_or, All-append, All-take, All-drop}
use Rattle.std.proofs.lemmas.List.Folds.{length-prefix_len, list_all_at}
use Rattle.trial_field.specs.Characters.{goes_on, first_char, last_char}
use Rattle.trial_field.specs.FieldText.{without_last}
use Rattle.trial_field.specs.Log.{HasNoZero}

-- where no character begins, the byte goes on
pub goes_on-inside : (text : List ℕ) (i : ℕ) → i < length text → ¬ (IsCharBoundary text i) →
    goes_on (get_or text i 0) ≡ true
goes_on-inside text i within inside =
    ⊎_elim (λ (small : get_or text i 0 < 128). absurd (inside ((omega arith), λ _ large. absurd (omega arith))))
    (λ (large : 128 ≤ get_or text i 0).
    ⊎_elim (λ (go : get_or text i 0 < 192). grind (arith, nat_tests))
    (λ (lead : 192 ≤ get_or text i 0). absurd (inside ((omega arith), λ _ _. lead)))
    (cases_lt (get_or text i 0) 192))
    (cases_lt (get_or text i 0) 128)

-- where a character begins, it doesn't
pub goes_on-boundary : (text : List ℕ) (i : ℕ) → i < length text → IsCharBoundary text i →
    goes_on (get_or text i 0) ≡ false
goes_on-boundary text i within at =
    ⊎_elim (λ (small : get_or text i 0 < 128). grind (arith, nat_tests))
    (λ (large : 128 ≤ get_or text i 0). let lead : 192 ≤ get_or text i 0 = at.1 within large in
    grind (arith, nat_tests))
    (cases_lt (get_or text i 0) 128)

-- the same, at a place that arithmetic names otherwise
pub goes_on-at : (text : List ℕ) (i place : ℕ) → i ≡ place → place < length text → IsCharBoundary text place →
    goes_on (get_or text i 0) ≡ false
goes_on-at text i place e within at = rw e (goes_on-boundary text place within at)

-- a byte from which all others go on begins the last character
pub last_char_is : (text : List ℕ) (n : ℕ) → n < length text → (0 < n → goes_on (get_or text n 0) ≡ false)
    → ((i : ℕ) → n < i → i < length text → goes_on (get_or text i 0) ≡ true) → length (last_char text) + n ≡ length text
last_char_is [] n within begins rest = absurd (omega arith)
last_char_is (b ∷ bs) zero within begins rest =
    let all : list_all goes_on bs ≡ true =
    list_all-from_AllPass goes_on bs
    (All-from_get_or (λ b. goes_on b ≡ true) bs 0 (λ k inside. rest (suc k) (omega arith) (omega arith))) in
    rw all (omega arith)
last_char_is (b ∷ bs) (suc n) within begins rest =
    let some : list_all goes_on bs ≡ false = list_all_at goes_on bs n 0 (omega arith) (begins (omega arith)) in
    let deeper : length (last_char bs) + n ≡ length bs =
    last_char_is bs n (omega arith) (λ _. begins (omega arith))
    (λ i above inside. rest (suc i) (omega arith) (omega arith)) in
    rw some (omega arith)

-- the character before the cursor begins at the nearest boundary
pub last_char_before : (text : List ℕ) (cursor place : ℕ) → 0 < cursor → cursor ≤ length text → place ≤ cursor - 1 →
    IsCharBoundary text place
    → ((i : ℕ) → place < i → i ≤ cursor - 1 → ¬ (IsCharBoundary text i)) →
    place + length (last_char (take cursor text)) ≡ cursor
last_char_before text cursor place some within below at nearest =
    let size : length (take cursor text) ≡ cursor = length-take-le cursor text within in
    let e : length (last_char (take cursor text)) + place ≡ length (take cursor text) =
    last_char_is (take cursor text) place (omega arith)
    (λ _. rw (get_or-take cursor text place 0 (omega arith)) (goes_on-boundary text place (omega arith) at))
    (λ i above inside. rw (get_or-take cursor text i 0 (omega arith))
    (goes_on-inside text i (omega arith) (nearest i above (omega arith)))) in
    omega arith

-- the character behind the cursor ends at the nearest boundary
pub first_char_behind : (text : List ℕ) (cursor place : ℕ) → cursor < length text → cursor + 1 ≤ place →
    IsCharBoundary text place
    → ((i : ℕ) → cursor + 1 ≤ i → i < place → ¬ (IsCharBoundary text i)) →
    place ≡ cursor + length (first_char (drop cursor text))
first_char_behind text cursor place within above at nearest =
    let n : ℕ = place - (cursor + 1) in
    let bs : List ℕ = drop (cursor + 1) text in
    let size : length bs ≡ length text - (cursor + 1) = length-drop (cursor + 1) text in
    let e : prefix_len goes_on bs ≡ n =
    prefix_len_is goes_on bs n 0 (omega (arith, at.0))
    (λ k inside. rw (get_or-drop (cursor + 1) text k 0)
    (goes_on-inside text (cursor + 1 + k) (omega (arith, at.0)) (nearest (cursor + 1 + k) (omega arith) (omega arith))))
    (λ inside. rw (get_or-drop (cursor + 1) text n 0)
    (goes_on-at text (cursor + 1 + n) place (omega arith) (omega (arith, at.0)) at)) in
    rw (drop_more text cursor 0 within) (omega (arith, length-prefix_len goes_on bs))

-- the last character stands at the end
pub last_char-ends : (text : List ℕ) → (front : List ℕ) × (text ≡ front ++ last_char text)
last_char-ends [] = ([], refl)
last_char-ends (b ∷ bs) =
    ⊎_elim (λ (all : list_all goes_on bs ≡ true). ([], rw all refl))
    (λ (some : list_all goes_on bs ≡ false).
    (b ∷ (last_char-ends bs).0, rw some (ap (λ r. b ∷ r) (last_char-ends bs).1)))
    (cases_Bool (list_all goes_on bs))

-- the first character stands at the beginning
first_char-begins : (text : List ℕ) → first_char text ++ drop (length (first_char text)) text ≡ text
first_char-begins [] = refl
first_char-begins (b ∷ bs) =
    rw (length-prefix_len goes_on bs) (ap (λ r. b ∷ r) (take-append-drop (prefix_len goes_on bs) bs))

-- a cursor that goes to where the last character before it begins
pub left_at : (text : List ℕ) (cursor place : ℕ) → cursor ≤ length text →
    place + length (last_char (take cursor text)) ≡ cursor
    → (take place text ≡ without_last (take cursor text))
    × (drop place text ≡ last_char (take cursor text) ++ drop cursor text)
left_at text cursor place within e =
    let before : List ℕ = take cursor text in
    let last : List ℕ = last_char before in
    let front : List ℕ = (last_char-ends before).0 in
    let parts : before ≡ front ++ last = (last_char-ends before).1 in
    let size : length before ≡ cursor = length-take-le cursor text within in
    let front_size : length front ≡ place = omega (arith, ap length parts, length-append front last) in
    let joined : text ≡ front ++ (last ++ drop cursor text) =
    sym (take-append-drop cursor text) ∙ ap (λ r. r ++ drop cursor text) parts
    ∙ append_assoc front last (drop cursor text) in
    let short : take (length before - length last) before ≡ front =
    ap (take (length before - length last)) parts
    ∙ take_at front last (length before - length last) (omega arith) in (
      ap (take place) joined ∙ take_at front (last ++ drop cursor text) place front_size ∙ sym short,
      ap (drop place) joined ∙ drop_at front (last ++ drop cursor text) place front_size,
    )

-- a cursor that goes to where the first character behind it ends
pub right_at : (text : List ℕ) (cursor place : ℕ) → cursor ≤ length text →
    place ≡ cursor + length (first_char (drop cursor text))
    → (take place text ≡ take cursor text ++ first_char (drop cursor text))
    × (drop place text ≡ drop (length (first_char (drop cursor text))) (drop cursor text))
right_at text cursor place within e =
    let before : List ℕ = take cursor text in
    let behind : List ℕ = drop cursor text in
    let first : List ℕ = first_char behind in
    let rest : List ℕ = drop (length first) behind in
    let size : length before ≡ cursor = length-take-le cursor text within in
    let joined : text ≡ (before ++ first) ++ rest =
    sym (take-append-drop cursor text) ∙ ap (λ r. before ++ r) (sym (first_char-begins behind))
    ∙ sym (append_assoc before first rest) in
    let front_size : length (before ++ first) ≡ place = omega (arith, length-append before first) in (
      ap (take place) joined ∙ take_at (before ++ first) rest place front_size,
      ap (drop place) joined
          ∙ drop_at (before ++ first) rest place front_size,
    )

-- after an insertion the cursor behind it stands at a boundary
pub boundary_behind : (text inserted : List ℕ) (cursor : ℕ) → IsCharBoundary text cursor
    → IsCharBoundary ((take cursor text ++ inserted) ++ drop cursor text) (cursor + length inserted)
boundary_behind text inserted cursor at =
    let before : List ℕ = take cursor text ++ inserted in
    let within : cursor ≤ length text = at.0 in
    let size : length before ≡ cursor + length inserted =
    length-append (take cursor text) inserted ∙ ap (λ n. n + length inserted) (length-take-le cursor text within) in
    let whole : length (before ++ drop cursor text) ≡ length text + length inserted =
    omega (arith, length-append before (drop cursor text), length-drop cursor text) in
    let same : get_or (before ++ drop cursor text) (cursor + length inserted) 0 ≡ get_or text cursor 0 =
    get_or-append_right before (drop cursor text) (cursor + length inserted) (cursor + length inserted) 0 size
    (omega arith)
    ∙ ap (λ n. get_or (drop cursor text) n 0) (omega arith) ∙ get_or-drop cursor text 0 0
    ∙ ap (λ n. get_or text n 0) (omega arith) in
    (omega arith, λ inside. rw same (at.1 (omega arith)))

-- an insertion of no zero byte leaves none
pub clean_with : (text inserted : List ℕ) (cursor : ℕ) → HasNoZero text → HasNoZero inserted →
    HasNoZero ((take cursor text ++ inserted) ++ drop cursor text)
clean_with text inserted cursor a b =
    let P : ℕ → Type 0 = λ x. 0 < x in
    All-append P (take cursor text ++ inserted) (drop cursor text)
    (All-append P (take cursor text) inserted (All-take P cursor text a) b) (All-drop P cursor text a)
