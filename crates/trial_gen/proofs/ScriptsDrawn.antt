-- A drawn script is read as what was drawn.
use Rattle.std.proofs.Common.{◌≡◌, ℕ, zero, suc, ◌+◌, ◌<◌, ◌≤◌, Bool, true, false, not, eqb, leb, List, [], ◌∷◌, ◌++◌, length, map, Some, refl, ap, ◌∙◌, append_assoc, arith}
use Rattle.std.specs.Prelude.{◌&&◌}
use Rattle.std.specs.List.{AllByRecursion, range_with_len, slice_split}
use Rattle.std.proofs.lemmas.Bool.{and_parts, le-leb}
use Rattle.std.proofs.lemmas.List.{map-append}
use Rattle.std.proofs.lemmas.List.Splits.{slice_split_at, length-slice_split}
use Rattle.session_gen.specs.Generated.{word_after}
use Rattle.session_text.proofs.LinesSplit.{lacks, lacks_all}
use Rattle.trial_script.specs.declared.action.Action.{Action}
use Rattle.trial_script.specs.declared.line.Line.{Line}
use Rattle.trial_script.specs.declared.line.Line.TheVariants as lines
use Rattle.trial_script.specs.declared.rules.KeyRules.{KeyRules}
use Rattle.trial_script.specs.declared.script.Ending.TheVariants as endings
use Rattle.trial_script.specs.Grammar.{spelling}
use Rattle.trial_script.specs.Lines.{lines_of, lines_of_parts}
use Rattle.trial_script.specs.Reading.{line_of}
use Rattle.trial_script.specs.Rules.{no_rules, refuses_single, plus_single}
use Rattle.trial_script.specs.Scripts.{field_named, before_rest, actions_of, script_from, script_of, script_of_lines, with_actions}
use Rattle.trial_script.proofs.ScriptsReadBack.{reads_each}
use Rattle.trial_gen.specs.Laws.{ReadsAsDrawn}
use Rattle.trial_gen.specs.Drawn.{action_count, action_at, first_actions, letter_line, field_count, lines_text, letter_lines, action_lines, drawn_lines, script_text, letter_rules, drawn_script}
use Rattle.trial_gen.proofs.LinesDrawn.{IsFine, IsDrawn, header_fine, end_fine, fields_fine, letter_fine, drawn_is}

-- ---- the text falls into its lines

abbrev is_feed : ℕ → Bool
is_feed b = eqb b 10

parts_more : (x : List ℕ) (parts : List (List ℕ)) → 0 < length parts →
    lines_of_parts (x ∷ parts) ≡ x ∷ lines_of_parts parts
parts_more x [] some = absurd (omega (arith, some))
parts_more x (y ∷ parts) some = refl

one_line : (w rest : List ℕ) → lacks 10 w ≡ true → lines_of (w ++ 10 ∷ rest) ≡ w ∷ lines_of rest
unfolding lines_of
one_line w rest h =
    ap lines_of_parts (slice_split_at is_feed w 10 rest (lacks_all 10 w h) refl)
    ∙ parts_more w (slice_split is_feed rest) (let len = length-slice_split is_feed rest in omega (arith, len))

nothing : lines_of [] ≡ []
unfolding lines_of
nothing = refl

falls_apart : (ls : List Line) → AllByRecursion IsFine ls → lines_of (lines_text ls) ≡ map spelling ls
falls_apart [] h = nothing
falls_apart (l ∷ ls) h =
    ap lines_of (append_assoc (spelling l) (10 ∷ []) (lines_text ls))
    ∙ one_line (spelling l) (lines_text ls) h.0.feedless
    ∙ ap (λ rest. spelling l ∷ rest) (falls_apart ls h.1)

-- ---- keys

-- each key has a place, one after the other
places : KeyRules → List ℕ → Bool
places r [] = true
places r (k ∷ ks) = not (refuses_single r k) && places (plus_single r k ((96 + k) ∷ [])) ks

plus_letters : KeyRules → List ℕ → KeyRules
plus_letters r [] = r
plus_letters r (k ∷ ks) = plus_letters (plus_single r k ((96 + k) ∷ [])) ks

not_true : (b : Bool) → not b ≡ true → b ≡ false
not_true true e = cc
not_true false e = refl

letters_read : (ks : List ℕ) (r : KeyRules) (number : ℕ) (more : List (List ℕ))
    → AllByRecursion (λ k. IsFine (letter_line k)) ks → places r ks ≡ true
    → script_from r number (map spelling (map letter_line ks) ++ more)
    ≡ script_from (plus_letters r ks) (number + length ks) more
unfolding script_from places plus_letters
letters_read [] r number more each ok =
    let same : number ≡ number + 0 = omega arith in ap (λ n. script_from r n more) same
letters_read (k ∷ ks) r number more each ok =
    let (free, rest) = and_parts (not (refuses_single r k)) (places (plus_single r k ((96 + k) ∷ [])) ks) ok in
    let free_is : refuses_single r k ≡ false = not_true (refuses_single r k) free in
    let read : line_of (spelling (letter_line k)) ≡ Some (letter_line k) = reads_each (letter_line k) each.0.is in
    let same : number + 1 + length ks ≡ number + suc (length ks) = omega arith in
    rw (read, free_is)
    (letters_read ks (plus_single r k ((96 + k) ∷ [])) (number + 1) more each.1 rest
    ∙ ap (λ n. script_from (plus_letters (plus_single r k ((96 + k) ∷ [])) ks) n more) same)

all_placed : places no_rules (range_with_len 1 26) ≡ true
unfolding places
all_placed = refl

all_rules : plus_letters no_rules (range_with_len 1 26) ≡ letter_rules
unfolding plus_letters letter_rules
all_rules = refl

all_counted : length (range_with_len 1 26) ≡ 26
all_counted = refl

each_from : (P : ℕ → Type 0) (a n : ℕ) → ((k : ℕ) → a ≤ k → k < a + n → P k) → AllByRecursion P (range_with_len a n)
each_from P a zero h = tt
each_from P a (suc n) h = (
  h a (omega arith) (omega arith),
  each_from P (a + 1) n
      (λ k low high. h k (omega (arith, low)) (omega (arith, high))),
)

all_fine : AllByRecursion (λ k. IsFine (letter_line k)) (range_with_len 1 26)
all_fine = each_from (λ k. IsFine (letter_line k)) 1 26 (λ k low high. letter_fine k low (omega (arith, high)))

-- ---- actions

actions_read : (ds : List Action) (number : ℕ) → AllByRecursion IsDrawn ds
    → actions_of 4 number (map spelling (map lines.Act ds) ++ spelling lines.End ∷ [])
    ≡ record { actions = ds; ending = endings.End }
unfolding actions_of
actions_read [] number each = rw (reads_each lines.End end_fine.is) refl
actions_read (a ∷ ds) number each =
    let read : line_of (spelling (lines.Act a)) ≡ Some (lines.Act a) = reads_each (lines.Act a) each.0.fine.is in
    let named : leb (field_named a) 4 ≡ true = le-leb (field_named a) 4 each.0.named in
    rw (read, named) (ap (before_rest a) (actions_read ds (number + 1) each.1))

all_drawn : (n : ℕ) (ks : List ℕ) → AllByRecursion IsDrawn (map (action_at n) ks)
unfolding action_at
all_drawn n [] = tt
all_drawn n (k ∷ ks) = (drawn_is (word_after n k), all_drawn n ks)

-- ---- the whole

pub mapped : {X Y : Type 0} (P : Y → Type 0) (Q : X → Type 0) (f : X → Y) → ((x : X) → Q x → P (f x)) → (xs : List X)
    → AllByRecursion Q xs → AllByRecursion P (map f xs)
mapped P Q f h [] each = tt
mapped P Q f h (x ∷ xs) each = (h x each.0, mapped P Q f h xs each.1)

joined : {X : Type 0} (P : X → Type 0) (xs ys : List X) → AllByRecursion P xs → AllByRecursion P ys →
    AllByRecursion P (xs ++ ys)
joined P [] ys h i = i
joined P (x ∷ xs) ys h i = (h.0, joined P xs ys h.1 i)

lines_fine : (n : ℕ) → AllByRecursion IsFine (drawn_lines n)
unfolding drawn_lines letter_lines action_lines first_actions
lines_fine n =
    let acts = mapped IsFine IsDrawn lines.Act (λ a h. h.fine) (map (action_at n) (range_with_len 0 action_count))
    (all_drawn n (range_with_len 0 action_count)) in
    let keys = mapped IsFine (λ k. IsFine (letter_line k)) letter_line (λ k h. h) (range_with_len 1 26) all_fine in
    let last = joined IsFine (action_lines n action_count) (lines.End ∷ []) acts (end_fine, tt) in (
      header_fine,
      joined IsFine (letter_lines 26) (lines.Fields field_count ∷ (action_lines n action_count ++ lines.End ∷ []))
          keys (fields_fine, last),
    )

spelled_lines : (n : ℕ) → map spelling (drawn_lines n)
    ≡ spelling lines.Header
    ∷ (map spelling (map letter_line (range_with_len 1 26))
    ++ (spelling (lines.Fields field_count)
    ∷ (map spelling (map lines.Act (first_actions n action_count)) ++ spelling lines.End ∷ [])))
unfolding drawn_lines letter_lines action_lines
spelled_lines n =
    let acts = map lines.Act (first_actions n action_count) in
    ap (λ rest. spelling lines.Header ∷ rest)
    (map-append spelling (map letter_line (range_with_len 1 26)) (lines.Fields field_count ∷ (acts ++ lines.End ∷ []))
    ∙ ap (λ rest. map spelling (map letter_line (range_with_len 1 26)) ++ (spelling (lines.Fields field_count) ∷ rest))
    (map-append spelling acts (lines.End ∷ [])))

fields_read : (n : ℕ) (r : KeyRules) →
    script_from r 28 (spelling (lines.Fields field_count)
    ∷ (map spelling (map lines.Act (first_actions n action_count)) ++ spelling lines.End ∷ []))
    ≡ with_actions r 4 29 (record { actions = first_actions n action_count; ending = endings.End })
unfolding script_from first_actions
fields_read n r =
    let read : line_of (spelling (lines.Fields 4)) ≡ Some (lines.Fields 4) =
    reads_each (lines.Fields 4) fields_fine.is in
    rw read
    (ap (with_actions r 4 29)
    (actions_read (map (action_at n) (range_with_len 0 action_count)) 29 (all_drawn n (range_with_len 0 action_count))))

lines_read : (n : ℕ) → script_of_lines (map spelling (drawn_lines n)) ≡ drawn_script n
unfolding drawn_script
lines_read n =
    let later = spelling (lines.Fields field_count)
    ∷ (map spelling (map lines.Act (first_actions n action_count)) ++ spelling lines.End ∷ []) in
    ap script_of_lines (spelled_lines n)
    ∙ rw (reads_each lines.Header header_fine.is)
    (letters_read (range_with_len 1 26) no_rules 2 later all_fine all_placed
    ∙ ap (λ r. script_from r 28 later) all_rules ∙ fields_read n letter_rules)

pub reads : ReadsAsDrawn
unfolding script_of script_text
reads n = ap script_of_lines (falls_apart (drawn_lines n) (lines_fine n)) ∙ lines_read n
