-- The text of a drawn script grows line by line.
use Rattle.std.proofs.Common.{◌≡◌, ℕ, ◌+◌, List, [], ◌∷◌, ◌++◌, map, refl, sym, ap, ◌∙◌, append_assoc, arith}
use Rattle.std.specs.List.{range_with_len}
use Rattle.std.proofs.lemmas.List.{append-nil, map_push}
use Rattle.std.proofs.lemmas.List.FromFn.{map-range_with_len_more}
use Rattle.session_gen.specs.Generated.{word_after}
use Rattle.trial_script.specs.declared.line.Line.{Line}
use Rattle.trial_script.specs.declared.line.Line.TheVariants as lines
use Rattle.trial_gen.specs.Drawn.{drawn, action_count, action_at, first_actions, letter_line, field_count, line_text, lines_text, letter_lines, action_lines, drawn_lines, script_text}

pub text_append : (xs ys : List Line) → lines_text (xs ++ ys) ≡ lines_text xs ++ lines_text ys
text_append [] ys = refl
text_append (x ∷ xs) ys =
    ap (λ t. line_text x ++ t) (text_append xs ys) ∙ sym (append_assoc (line_text x) (lines_text xs) (lines_text ys))

text_push : (xs : List Line) (x : Line) → lines_text (xs ++ x ∷ []) ≡ lines_text xs ++ line_text x
text_push xs x = text_append xs (x ∷ []) ∙ ap (λ t. lines_text xs ++ t) (append-nil (line_text x))

-- one line more behind a text
grows : (before now after : List ℕ) (xs : List Line) (x : Line) → now ≡ before ++ lines_text xs → after ≡
    now ++ line_text x
    → after ≡ before ++ lines_text (xs ++ x ∷ [])
grows before now after xs x is more =
    more ∙ ap (λ t. t ++ line_text x) is ∙ append_assoc before (lines_text xs) (line_text x)
    ∙ ap (λ t. before ++ t) (sym (text_push xs x))

-- ---- keys

pub no_letters : (t : List ℕ) → t ≡ t ++ lines_text (letter_lines 0)
unfolding letter_lines
no_letters t = sym (append-nil t)

letters_more : (k : ℕ) → letter_lines (k + 1) ≡ letter_lines k ++ letter_line (k + 1) ∷ []
unfolding letter_lines
letters_more k = map-range_with_len_more letter_line 1 k (k + 1) (omega arith)

pub letter_grows : (before now after : List ℕ) (k : ℕ) → now ≡ before ++ lines_text (letter_lines k)
    → after ≡ now ++ line_text (letter_line (k + 1)) → after ≡ before ++ lines_text (letter_lines (k + 1))
letter_grows before now after k is more =
    grows before now after (letter_lines k) (letter_line (k + 1)) is more
    ∙ ap (λ ls. before ++ lines_text ls) (sym (letters_more k))

-- ---- actions

pub no_actions : (n : ℕ) (t : List ℕ) → t ≡ t ++ lines_text (action_lines n 0)
unfolding action_lines first_actions
no_actions n t = sym (append-nil t)

actions_more : (n made : ℕ) → action_lines n (made + 1) ≡ action_lines n made ++
    lines.Act (drawn (word_after n made)) ∷ []
unfolding action_lines first_actions action_at
actions_more n made =
    ap (map lines.Act) (map-range_with_len_more (action_at n) 0 made made (omega arith))
    ∙ map_push lines.Act (map (action_at n) (range_with_len 0 made)) (action_at n made)

pub action_grows : (n made word : ℕ) (before now after : List ℕ) → word ≡ word_after n made
    → now ≡ before ++ lines_text (action_lines n made) → after ≡ now ++ line_text (lines.Act (drawn word))
    → after ≡ before ++ lines_text (action_lines n (made + 1))
action_grows n made word before now after word-is is more =
    grows before now after (action_lines n made) (lines.Act (drawn (word_after n made))) is
    (more ∙ ap (λ w. now ++ line_text (lines.Act (drawn w))) word-is)
    ∙ ap (λ ls. before ++ lines_text ls) (sym (actions_more n made))

-- ---- the whole

regroup : (a b c d e : List ℕ) → (((a ++ b) ++ c) ++ d) ++ e ≡ a ++ (b ++ (c ++ (d ++ (e ++ []))))
regroup a b c d e =
    append_assoc ((a ++ b) ++ c) d e ∙ append_assoc (a ++ b) c (d ++ e) ∙ append_assoc a b (c ++ (d ++ e))
    ∙ ap (λ t. a ++ (b ++ (c ++ (d ++ t)))) (sym (append-nil e))

pub whole : (n : ℕ) →
    (((line_text lines.Header ++ lines_text (letter_lines 26)) ++ line_text (lines.Fields field_count))
    ++ lines_text (action_lines n action_count)) ++ line_text lines.End
    ≡ script_text n
unfolding drawn_lines script_text letter_lines action_lines
whole n =
    let a = line_text lines.Header in
    let c = line_text (lines.Fields field_count) in
    let d = action_lines n action_count in
    let later = d ++ lines.End ∷ [] in
    regroup a (lines_text (letter_lines 26)) c (lines_text d) (line_text lines.End)
    ∙ ap (λ t. a ++ (lines_text (letter_lines 26) ++ (c ++ t))) (sym (text_append d (lines.End ∷ [])))
    ∙ ap (λ t. a ++ t) (sym (text_append (letter_lines 26) (lines.Fields field_count ∷ later)))

-- the parts one behind the other
pub gathered : (n : ℕ) (first keys fields acts end : List ℕ) → first ≡ line_text lines.Header
    → keys ≡ first ++ lines_text (letter_lines 26) → fields ≡ keys ++ line_text (lines.Fields field_count)
    → acts ≡ fields ++ lines_text (action_lines n action_count) → end ≡ acts ++ line_text lines.End → end ≡
    script_text n
gathered n first keys fields acts end first-is keys-is fields-is acts-is end-is =
    end-is
    ∙ ap (λ t. t ++ line_text lines.End)
    (acts-is
    ∙ ap (λ t. t ++ lines_text (action_lines n action_count))
    (fields-is
    ∙ ap (λ t. t ++ line_text (lines.Fields field_count))
    (keys-is ∙ ap (λ t. t ++ lines_text (letter_lines 26)) first-is)))
    ∙ whole n
