-- Each line of a drawn script is a line of a script, and has no line feed.
use Rattle.std.proofs.Common.{◌≡◌, ℕ, zero, suc, ◌+◌, ◌-◌, ◌%◌, ◌/◌, ◌<◌, ◌≤◌, true, false, cond, eqb, [], ◌∷◌, map, get_or, refl, sym, ap, ◌∙◌, arith}
use Rattle.std.specs.List.{range_with_len}
use Rattle.std.specs.Str.{is_utf8, chars}
use Rattle.std.proofs.lemmas.List.FromFn.{get_or-map-range_with_len}
use Rattle.dict_method.specs.Texts.{IsText, is_text}
use Rattle.session_text.proofs.LinesSplit.{lacks, AllLack, IsOutside, decimal_lacks, hex_lacks, join_lacks, total, length-join}
use Rattle.session_text.proofs.WordKinds.{numbers}
use Rattle.trial_script.specs.declared.action.Action.{Action}
use Rattle.trial_script.specs.declared.action.Action.TheVariants as actions
use Rattle.trial_script.specs.declared.action.FieldEdit.TheVariants as edits
use Rattle.trial_script.specs.declared.line.Line.{Line}
use Rattle.trial_script.specs.declared.line.Line.TheVariants as lines
use Rattle.trial_script.specs.Words.{IsKeyWord}
use Rattle.trial_script.specs.Grammar.{line_words, spelling, HasParts, IsLine}
use Rattle.trial_script.specs.Scripts.{field_named}
use Rattle.trial_script.proofs.ScriptWords.{key_texts}
use Rattle.trial_gen.specs.Drawn.{letter, action_of, drawn, letter_line, field_count}

pub feed : IsOutside 10
feed = record { no_digit = λ h. omega arith; no_hex = refl; no_dash = refl }

-- ---- letters are texts

table : map (λ b. is_text (b ∷ [])) (range_with_len 97 26) ≡ map (λ b. true) (range_with_len 97 26)
unfolding is_utf8 chars lib.Utf8.encode
table = refl

letter_test : (v : ℕ) → v < 26 → is_text ((97 + v) ∷ []) ≡ true
letter_test v lt =
    sym (get_or-map-range_with_len (λ b. is_text (b ∷ [])) 97 26 v (97 + v) false lt refl)
    ∙ ap (λ ts. get_or ts v false) table
    ∙ get_or-map-range_with_len (λ b. true) 97 26 v (97 + v) false lt refl

letter_text : (v : ℕ) → v < 26 → IsText ((97 + v) ∷ [])
letter_text v lt = (letter_test v lt, bytes)
  where
    bytes : (i : ℕ) → get_or ((97 + v) ∷ []) i 0 < 256
    bytes zero = omega (arith, lt)
    bytes (suc i) = omega arith

pub letter_word : (v : ℕ) → v < 26 → IsKeyWord ((97 + v) ∷ [])
letter_word v lt = ((letter_text v lt, omega arith), omega arith)

-- ---- a line's words are short, and without a line feed

-- the line is one of a script, and has no line feed
pub record IsFine (line : Line) : Type 0 where
  pub is : IsLine line
  pub feedless : lacks 10 (spelling line) ≡ true

fine : (line : Line) → HasParts line → AllLack 10 (line_words line) → total (line_words line) ≤ 8400 → IsFine line
fine line parts words short = record {
  is = (parts, omega (arith, short, length-join (line_words line)));
  feedless = join_lacks 10 (line_words line) refl words;
}

pub header_fine : IsFine lines.Header
header_fine = fine lines.Header tt (refl, (refl, tt)) (omega arith)

pub end_fine : IsFine lines.End
end_fine = fine lines.End tt (refl, tt) (omega arith)

pub fields_fine : IsFine (lines.Fields field_count)
fields_fine =
    fine (lines.Fields field_count) (omega arith, omega arith) (refl, (decimal_lacks 10 feed 4 (omega arith), tt))
    (let few = numbers.short 4 (omega arith) in omega (arith, few))

pub letter_fine : (k : ℕ) → 1 ≤ k → k < 27 → IsFine (letter_line k)
letter_fine k low high =
    let same : 97 + (k - 1) ≡ 96 + k = omega (arith, low) in
    let word : IsKeyWord ((96 + k) ∷ []) =
    subst_text (96 + k) same (letter_word (k - 1) (omega (arith, low, high))) in
    fine (letter_line k) (omega (arith, high), word)
    (refl, (decimal_lacks 10 feed k (omega (arith, high)), (hex_lacks 10 feed ((96 + k) ∷ []) word.0.0.1, tt)))
    (let few = numbers.short k (omega (arith, high)) in let long = key_texts.short ((96 + k) ∷ []) word in
    omega (arith, few, long))
  where
    subst_text : (b : ℕ) → 97 + (k - 1) ≡ b → IsKeyWord ((97 + (k - 1)) ∷ []) → IsKeyWord (b ∷ [])
    subst_text b e h = rw (sym e) h

-- ---- actions

use_fine : (f : ℕ) → 1 ≤ f → f ≤ 4 → IsFine (lines.Act (actions.Use f))
use_fine f low high =
    fine (lines.Act (actions.Use f)) (low, omega (arith, high))
    (refl, (decimal_lacks 10 feed f (omega (arith, high)), tt))
    (let few = numbers.short f (omega (arith, high)) in omega (arith, few))

press_fine : (v : ℕ) → v < 26 → IsFine (lines.Act (actions.Press (1 + v)))
press_fine v lt =
    fine (lines.Act (actions.Press (1 + v))) (omega (arith, lt))
    (refl, (decimal_lacks 10 feed (1 + v) (omega (arith, lt)), tt))
    (let few = numbers.short (1 + v) (omega (arith, lt)) in omega (arith, few))

insert_fine : (f v : ℕ) → 1 ≤ f → f ≤ 4 → v < 26 → IsFine (lines.Act (actions.Edit f (edits.Insert (letter v))))
insert_fine f v low high lt =
    let word = letter_word v lt in
    fine (lines.Act (actions.Edit f (edits.Insert (letter v)))) ((low, omega (arith, high)), (word.0.0, omega arith))
    (refl, (decimal_lacks 10 feed f (omega (arith, high)), (hex_lacks 10 feed (letter v) word.0.0.1, tt)))
    (let few = numbers.short f (omega (arith, high)) in let long = key_texts.short (letter v) word in
    omega (arith, few, long))

rub_fine : (f : ℕ) → 1 ≤ f → f ≤ 4 → IsFine (lines.Act (actions.Edit f edits.Rub))
rub_fine f low high =
    fine (lines.Act (actions.Edit f edits.Rub)) ((low, omega (arith, high)), tt)
    (refl, (decimal_lacks 10 feed f (omega (arith, high)), tt))
    (let few = numbers.short f (omega (arith, high)) in omega (arith, few))

-- what holds of the four kinds holds of what is drawn
pub by_kind : (P : Action → Type 0) (kind f v : ℕ) → P (actions.Use f) → P (actions.Press (1 + v))
    → P (actions.Edit f (edits.Insert (letter v))) → P (actions.Edit f edits.Rub) → P (action_of kind f v)
by_kind P kind f v uses presses inserts rubs =
    elim (eqb kind 0) as
    (λ b. P (cond b (actions.Use f) (cond (eqb kind 1) (actions.Press (1 + v))
    (cond (eqb kind 2) (actions.Edit f (edits.Insert (letter v))) (actions.Edit f edits.Rub))))) [
      | true ↦ uses
      | false ↦ elim (eqb kind 1) as
          (λ b. P (cond b (actions.Press (1 + v))
          (cond (eqb kind 2) (actions.Edit f (edits.Insert (letter v))) (actions.Edit f edits.Rub)))) [
            | true ↦ presses
            | false ↦ elim (eqb kind 2) as
                (λ b. P (cond b (actions.Edit f (edits.Insert (letter v))) (actions.Edit f edits.Rub))) [
                  | true ↦ inserts
                  | false ↦ rubs
                ]
          ]
    ]

-- what is true of each action that is drawn
pub record IsDrawn (action : Action) : Type 0 where
  pub fine : IsFine (lines.Act action)
  pub named : field_named action ≤ 4

pub drawn_is : (word : ℕ) → IsDrawn (drawn word)
unfolding drawn
drawn_is word =
    let f = 1 + (word / 256) % 4 in
    let v = (word / 65536) % 26 in
    let low : 1 ≤ f = omega arith in
    let high : f ≤ 4 = omega arith in
    let lt : v < 26 = omega arith in
    by_kind IsDrawn (word % 4) f v
    (record { fine = use_fine f low high; named = high })
    (record { fine = press_fine v lt; named = omega arith })
    (record { fine = insert_fine f v low high lt; named = high })
    (record { fine = rub_fine f low high; named = high })
