-- The words that spell a line hold no space, and are read as that line.
use Rattle.std.proofs.Common.{◌≡◌, ℕ, List, [], ◌∷◌, length, Some, refl, arith}
use Rattle.std.proofs.lemmas.Bool.{le-leb}
use Rattle.session_text.specs.Words.{text_limit, cursor_text_limit}
use Rattle.session_text.specs.Reading.{line_limit}
use Rattle.session_text.proofs.LinesSplit.{AllLack}
use Rattle.session_text.proofs.WordKinds.{numbers, signeds, texts}
use Rattle.trial_script.specs.declared.action.Action.{Action}
use Rattle.trial_script.specs.declared.action.Action.TheVariants as actions
use Rattle.trial_script.specs.declared.action.FieldEdit.{FieldEdit}
use Rattle.trial_script.specs.declared.action.FieldEdit.TheVariants as edits
use Rattle.trial_script.specs.declared.line.Line.{Line}
use Rattle.trial_script.specs.declared.line.Line.TheVariants as lines
use Rattle.trial_script.specs.Words.{key_limit, word_key_limit}
use Rattle.trial_script.specs.Grammar.{line_words, action_words, IsAction, HasParts}
use Rattle.trial_script.specs.Reading.{one_word, header_of, two_words, three_words, compose_of, word_of, batch_of, seven_words, more_words, line_of_words}
use Rattle.trial_script.proofs.ScriptWords.{fields, choices, key_texts, keys_lack, keys_complete}

-- ---- no space

-- the words after the first hold no space
spaceless_edit : (f : ℕ) (edit : FieldEdit) → IsAction (actions.Edit f edit) →
    AllLack 32 (action_words (actions.Edit f edit))
spaceless_edit f (edits.Insert text) h = (refl, (fields.spaceless f h.0, ((texts line_limit).spaceless text h.1, tt)))
spaceless_edit f edits.Left h = (refl, (fields.spaceless f h.0, tt))
spaceless_edit f edits.Right h = (refl, (fields.spaceless f h.0, tt))
spaceless_edit f edits.Rub h = (refl, (fields.spaceless f h.0, tt))

spaceless_action : (action : Action) → IsAction action → AllLack 32 (action_words action)
spaceless_action (actions.Use f) h = (refl, (fields.spaceless f h, tt))
spaceless_action actions.Leave h = (refl, tt)
spaceless_action (actions.Press key) h = (refl, (numbers.spaceless key h, tt))
spaceless_action (actions.Batch b) h = (
  refl,
  (
    numbers.spaceless b.before h.before,
    (
      numbers.spaceless b.after h.after,
      (
        (texts text_limit).spaceless b.string h.string,
        (
          (texts cursor_text_limit).spaceless b.preedit h.preedit,
          (signeds.spaceless b.begin h.begin, (signeds.spaceless b.end h.end, tt)),
        ),
      ),
    ),
  ),
)
spaceless_action (actions.Edit f edit) h = spaceless_edit f edit h
spaceless_action (actions.Pause f) h = (refl, (fields.spaceless f h, tt))
spaceless_action (actions.Resume f) h = (refl, (fields.spaceless f h, tt))
spaceless_action (actions.Show f) h = (refl, (fields.spaceless f h, tt))

pub spaceless : (line : Line) → HasParts line → AllLack 32 (line_words line)
spaceless lines.Header h = (refl, (refl, tt))
spaceless (lines.Single key text) h = (refl, (numbers.spaceless key h.0, (key_texts.spaceless text h.1, tt)))
spaceless (lines.Compose text keys) h = (refl, (key_texts.spaceless text h.0, keys_lack keys h.1.each))
spaceless (lines.Word text keys) h = (refl, (key_texts.spaceless text h.0, keys_lack keys h.1.each))
spaceless (lines.Choose key n) h = (refl, (numbers.spaceless key h.0, (choices.spaceless n h.1, tt)))
spaceless (lines.Erase key) h = (refl, (numbers.spaceless key h, tt))
spaceless (lines.Fields n) h = (refl, (fields.spaceless n h, tt))
spaceless (lines.Act action) h = spaceless_action action h
spaceless lines.End h = (refl, tt)

-- ---- the words are read

edit_read : (f : ℕ) (edit : FieldEdit) → IsAction (actions.Edit f edit) →
    line_of_words (action_words (actions.Edit f edit)) ≡ Some (lines.Act (actions.Edit f edit))
unfolding line_of_words two_words three_words
edit_read f (edits.Insert text) h = rw (fields.complete f h.0, (texts line_limit).complete text h.1) refl
edit_read f edits.Left h = rw (fields.complete f h.0) refl
edit_read f edits.Right h = rw (fields.complete f h.0) refl
edit_read f edits.Rub h = rw (fields.complete f h.0) refl

action_read : (action : Action) → IsAction action → line_of_words (action_words action) ≡ Some (lines.Act action)
unfolding line_of_words one_word two_words more_words seven_words batch_of
action_read (actions.Use f) h = rw (fields.complete f h) refl
action_read actions.Leave h = refl
action_read (actions.Press key) h = rw (numbers.complete key h) refl
action_read (actions.Batch b) h =
    rw (numbers.complete b.before h.before)
    (rw (numbers.complete b.after h.after) (rw ((texts text_limit).complete b.string h.string)
    (rw ((texts cursor_text_limit).complete b.preedit h.preedit)
    (rw (signeds.complete b.begin h.begin) (rw (signeds.complete b.end h.end) refl)))))
action_read (actions.Edit f edit) h = edit_read f edit h
action_read (actions.Pause f) h = rw (fields.complete f h) refl
action_read (actions.Resume f) h = rw (fields.complete f h) refl
action_read (actions.Show f) h = rw (fields.complete f h) refl

-- two keys or more
compose_read : (text keys : List ℕ) → HasParts (lines.Compose text keys) →
    line_of_words (line_words (lines.Compose text keys)) ≡ Some (lines.Compose text keys)
unfolding line_of_words more_words compose_of
compose_read text [] h = absurd (let several = h.1.several in omega (arith, several))
compose_read text (a ∷ []) h = absurd (let several = h.1.several in omega (arith, several))
compose_read text (a ∷ b ∷ keys) h =
    rw (key_texts.complete text h.0)
    (rw (keys_complete (a ∷ b ∷ keys) h.1.each) (rw (le-leb (length (a ∷ b ∷ keys)) key_limit h.1.few) refl))

-- a key or more
word_read : (text keys : List ℕ) → HasParts (lines.Word text keys) →
    line_of_words (line_words (lines.Word text keys)) ≡ Some (lines.Word text keys)
unfolding line_of_words three_words more_words word_of
word_read text [] h = absurd (let some = h.1.some in omega (arith, some))
word_read text (a ∷ []) h = rw (key_texts.complete text h.0) (rw (keys_complete (a ∷ []) h.1.each) refl)
word_read text (a ∷ b ∷ keys) h =
    rw (key_texts.complete text h.0)
    (rw (keys_complete (a ∷ b ∷ keys) h.1.each) (rw (le-leb (length (a ∷ b ∷ keys)) word_key_limit h.1.few) refl))

pub words_read : (line : Line) → HasParts line → line_of_words (line_words line) ≡ Some line
unfolding line_of_words one_word two_words three_words header_of
words_read lines.Header h = refl
words_read (lines.Single key text) h = rw (numbers.complete key h.0) (rw (key_texts.complete text h.1) refl)
words_read (lines.Compose text keys) h = compose_read text keys h
words_read (lines.Word text keys) h = word_read text keys h
words_read (lines.Choose key n) h = rw (numbers.complete key h.0) (rw (choices.complete n h.1) refl)
words_read (lines.Erase key) h = rw (numbers.complete key h) refl
words_read (lines.Fields n) h = rw (fields.complete n h) refl
words_read (lines.Act action) h = action_read action h
words_read lines.End h = refl
