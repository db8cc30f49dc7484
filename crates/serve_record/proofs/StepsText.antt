-- The text of the steps, the oldest first
use Rattle.std.proofs.Common.{◌≡◌, ◌+◌, ◌-◌, ◌<◌, ◌≤◌, ◌++◌, ◌∷◌, [], ℕ, zero, suc, nat_eq, true, false, Bool, List, length, drop, Some, None, refl, sym, ap, ◌∙◌, arith, append-nil}
use Rattle.std.specs.Prelude.{nat_le}
use Rattle.std.proofs.lemmas.Bool.{eq-eqb, ne_eqb, eqb-false}
use Rattle.std.proofs.lemmas.List.{append_assoc}
use Rattle.std.specs.List.{flat_map}
use Rattle.broker_steps.specs.declared.limits.Limits.{Limits}
use Rattle.broker_steps.specs.declared.stamp.Stamp.{Stamp}
use Rattle.session_text.specs.declared.line.Line.TheVariants.{Header, End}
use Rattle.broker_model.specs.declared.journal.Entry.{Entry}
use Rattle.broker_model.specs.Long.{kept_at}
use Rattle.broker_model.specs.Recorded.{entry_at}
use Rattle.serve_record.specs.Recorded.{steps_text, text_line, recorded, entry_lines}
use Rattle.serve_record.specs.Lines.{lines_text, text_at, text_without, stamped_text}

-- the newest has the number of how many there are, and any other is among the older
newest : {A : Type 0} (x : A) (older : List A) (number : ℕ) → number ≡ length older + 1
    → entry_at (x ∷ older) number ≡ Some x
newest x older number is = rw (eq-eqb number (length older + 1) is) refl

not_newest : {A : Type 0} (x : A) (older : List A) (number : ℕ) → number ≤ length older
    → entry_at (x ∷ older) number ≡ entry_at older number
not_newest x older number few = rw (ne_eqb number (length older + 1) (λ e. absurd (omega arith))) refl

-- there is one with each number
is_there : {A : Type 0} (xs : List A) (number : ℕ) → 1 ≤ number → number ≤ length xs → entry_at xs number ≡ None → ⊥
is_there [] number first last none = absurd (omega arith)
is_there {A} (x ∷ older) number first last none =
    at (nat_eq number (length older + 1)) refl (λ few. is_there older number first few)
  where
    some_none : (y : A) → Some y ≡ None → ⊥
    some_none y e = cc

    less : (n m : ℕ) → n ≤ suc m → (n ≡ m + 1 → ⊥) → n ≤ m
    less n m le ne = omega arith

    at : (b : Bool) → nat_eq number (length older + 1) ≡ b
        → (number ≤ length older → entry_at older number ≡ None → ⊥) → ⊥
    at true e among = some_none x (sym (rw e refl) ∙ none)
    at false e among =
        let few = less number (length older) last (eqb-false number (length older + 1) e) in
        among few (sym (not_newest x older number few) ∙ none)

-- where none was let go, what is kept is all
pub kept_is : {A : Type 0} (kept_from : ℕ) (xs : List A) (number : ℕ) → kept_from ≡ 0 → 1 ≤ number
    → kept_at kept_from xs number ≡ entry_at xs number
kept_is kept_from xs number none first =
    let later : nat_le number kept_from ≡ false = grind (arith, none, first) in rw later refl

pub is_kept : {A : Type 0} (kept_from : ℕ) (xs : List A) (number : ℕ) → kept_from ≡ 0 → 1 ≤ number → number ≤ length xs
    → kept_at kept_from xs number ≡ None → ⊥
is_kept kept_from xs number none first last gone =
    is_there xs number first last (sym (kept_is kept_from xs number none first) ∙ gone)

-- the lines of the entry with k newer ones stand behind those of the older ones
pub one_more : (k : ℕ) (journal : List Entry) (stamps : List Stamp) → k < length journal
    → length stamps ≡ length journal
    → steps_text (drop (suc k) journal) (drop (suc k) stamps) ++ text_at journal stamps (length journal - k)
    ≡ steps_text (drop k journal) (drop k stamps)
one_more k [] stamps within each = absurd (omega arith)
one_more k (e ∷ older) [] within each = absurd (omega arith)
one_more zero (e ∷ older) (s ∷ before) within each =
    let number : suc (length older) - 0 ≡ suc (length older) = omega arith in
    ap (λ t. steps_text older before ++ t)
    (ap (λ n. text_at (e ∷ older) (s ∷ before) n) number
    ∙ ap (λ o. lines_text o (entry_at (s ∷ before) (suc (length older))))
    (newest e older (suc (length older)) (omega arith))
    ∙ ap (λ o. lines_text (Some e) o) (newest s before (suc (length older)) (omega arith)))
one_more (suc k) (e ∷ older) (s ∷ before) within each =
    let number : suc (length older) - suc k ≡ length older - k = omega arith in
    let few : length older - k ≤ length older = omega arith in
    let same : length before ≡ length older = omega arith in
    ap (λ n. steps_text (drop (suc k) older) (drop (suc k) before) ++ text_at (e ∷ older) (s ∷ before) n) number
    ∙ (ap (λ o. steps_text (drop (suc k) older) (drop (suc k) before)
    ++ lines_text o (entry_at (s ∷ before) (length older - k)))
    (not_newest e older (length older - k) few)
    ∙ (ap (λ o. steps_text (drop (suc k) older) (drop (suc k) before)
    ++ lines_text (entry_at older (length older - k)) o)
    (not_newest s before (length older - k) (omega arith))
    ∙ one_more k older before (omega arith) same))

-- the text of the older steps begins that of all
pub steps_begin : (k : ℕ) (journal : List Entry) (stamps : List Stamp) → length stamps ≡ length journal
    → (more : List ℕ) × (steps_text (drop k journal) (drop k stamps) ++ more ≡ steps_text journal stamps)
steps_begin zero journal stamps each = ([], append-nil (steps_text journal stamps))
steps_begin (suc k) [] [] each = ([], refl)
steps_begin (suc k) [] (s ∷ before) each = absurd (omega arith)
steps_begin (suc k) (e ∷ older) [] each = absurd (omega arith)
steps_begin (suc k) (e ∷ older) (s ∷ before) each =
    let begun = steps_begin k older before (omega arith) in
    let lines = flat_map (stamped_text s) (entry_lines e) in (
      begun.0 ++ lines,
      sym (append_assoc (steps_text (drop k older) (drop k before)) begun.0 lines) ∙ ap (λ t. t ++ lines) begun.1,
    )

-- the same behind the header
pub text_grows : (limits : Limits) (journal : List Entry) (stamps : List Stamp) (before : ℕ) → before < length journal
    → length stamps ≡ length journal
    → text_without limits (length journal - before) journal stamps ++ text_at journal stamps (before + 1)
    ≡ text_without limits (length journal - (before + 1)) journal stamps
text_grows limits journal stamps before within each =
    let k = length journal - (before + 1) in
    let newer : length journal - before ≡ suc k = omega arith in
    let number : before + 1 ≡ length journal - k = omega arith in
    let header = text_line (Header limits) in
    ap (λ n. text_without limits n journal stamps ++ text_at journal stamps (before + 1)) newer
    ∙ (ap (λ n. text_without limits (suc k) journal stamps ++ text_at journal stamps n) number
    ∙ (append_assoc header (steps_text (drop (suc k) journal) (drop (suc k) stamps))
    (text_at journal stamps (length journal - k))
    ∙ ap (λ t. header ++ t) (one_more k journal stamps (omega arith) each)))

-- it begins with the header alone, and is followed by the end
pub text_begins : (limits : Limits) (journal : List Entry) (stamps : List Stamp) → length stamps ≡ length journal
    → text_without limits (length journal) journal stamps ≡ text_line (Header limits)
text_begins limits journal stamps each =
    ap (λ t. text_line (Header limits) ++ t) (nothing journal stamps each) ∙ append-nil (text_line (Header limits))
  where
    nothing : (js : List Entry) (ss : List Stamp) → length ss ≡ length js →
        steps_text (drop (length js) js) (drop (length js) ss) ≡ []
    nothing [] [] e = refl
    nothing [] (s ∷ ss) e = absurd (omega arith)
    nothing (j ∷ js) [] e = absurd (omega arith)
    nothing (j ∷ js) (s ∷ ss) e = nothing js ss (omega arith)

pub text_ends : (limits : Limits) (journal : List Entry) (stamps : List Stamp) (newest : ℕ) → newest ≡ 0
    → text_without limits newest journal stamps ++ text_line End ≡ recorded limits journal stamps
text_ends limits journal stamps newest none =
    ap (λ n. text_without limits n journal stamps ++ text_line End) none
    ∙ append_assoc (text_line (Header limits)) (steps_text journal stamps) (text_line End)

-- it begins the whole
pub text_is_front : (limits : Limits) (journal : List Entry) (stamps : List Stamp) (newest : ℕ)
    → length stamps ≡ length journal
    → (more : List ℕ) × (text_without limits newest journal stamps ++ more ≡ recorded limits journal stamps)
text_is_front limits journal stamps newest each =
    let begun = steps_begin newest journal stamps each in
    let header = text_line (Header limits) in
    let older = steps_text (drop newest journal) (drop newest stamps) in (
      begun.0 ++ text_line End,
      append_assoc header older (begun.0 ++ text_line End)
          ∙ ap (λ t. header ++ t)
          (sym (append_assoc older begun.0 (text_line End)) ∙ ap (λ t. t ++ text_line End) begun.1),
    )
