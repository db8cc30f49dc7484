-- What the bytes of a script's line read as.
use Rattle.std.specs.Prelude.{ℕ, ℤ, ◌==◌, nat_le, if◌then◌else◌, List, [], ◌∷◌, length, codes, Option, Some, None}
use Rattle.std.specs.List.{slice_split}
use Rattle.std.specs.Str.{bytes_eq}
use Rattle.session_text.specs.Words.{◌>>=◌, kept, text_limit, cursor_text_limit, number_of, count_of, signed_of, text_of}
use Rattle.session_text.specs.Reading.{line_limit}
use Rattle.trial_script.specs.declared.action.Action.TheVariants as actions
use Rattle.trial_script.specs.declared.action.FieldEdit.TheVariants as edits
use Rattle.trial_script.specs.declared.action.Edits.{Edits}
use Rattle.trial_script.specs.declared.line.Line.{Line}
use Rattle.trial_script.specs.declared.line.Line.TheVariants as lines
use Rattle.trial_script.specs.Words.{key_limit, word_key_limit, choice_limit, field_of, key_text_of, keys_of}

abbrev pub edits_of : ℕ → ℕ → List ℕ → List ℕ → ℤ → ℤ → Edits
edits_of before after string preedit begin end =
    record {
      before = before;
      after = after;
      string = string;
      preedit = preedit;
      begin = begin;
      end = end;
    }

unfoldable pub one_word : List ℕ → Option Line
one_word k =
    if bytes_eq k (codes "leave") then Some (lines.Act actions.Leave)
    else if bytes_eq k (codes "end") then Some lines.End
    else None

-- the form of a script
unfoldable pub header_of : List ℕ → Option Line
header_of form = if bytes_eq form (codes "1") then Some lines.Header else None

unfoldable pub two_words : List ℕ → List ℕ → Option Line
two_words k a =
    if bytes_eq k (codes "trial") then header_of a
    else if bytes_eq k (codes "fields") then field_of a >>= (λ n. Some (lines.Fields n))
    else if bytes_eq k (codes "use") then field_of a >>= (λ f. Some (lines.Act (actions.Use f)))
    else if bytes_eq k (codes "press")
    then number_of a >>= (λ key. Some (lines.Act (actions.Press key)))
    else if bytes_eq k (codes "erase") then number_of a >>= (λ key. Some (lines.Erase key))
    else if bytes_eq k (codes "left")
    then field_of a >>= (λ f. Some (lines.Act (actions.Edit f edits.Left)))
    else if bytes_eq k (codes "right")
    then field_of a >>= (λ f. Some (lines.Act (actions.Edit f edits.Right)))
    else if bytes_eq k (codes "rub")
    then field_of a >>= (λ f. Some (lines.Act (actions.Edit f edits.Rub)))
    else if bytes_eq k (codes "pause") then field_of a >>= (λ f. Some (lines.Act (actions.Pause f)))
    else if bytes_eq k (codes "resume")
    then field_of a >>= (λ f. Some (lines.Act (actions.Resume f)))
    else if bytes_eq k (codes "show") then field_of a >>= (λ f. Some (lines.Act (actions.Show f)))
    else None

-- what follows the name of a word: its text, and the keys
unfoldable pub word_of : List ℕ → List (List ℕ) → Option Line
word_of a words =
    key_text_of a >>=
    (λ text. kept (λ keys. nat_le (length keys) word_key_limit) (keys_of words) >>= (λ keys.
    Some (lines.Word text keys)))

-- a key that chooses, and its number
abbrev pub choose_of : List ℕ → List ℕ → Option Line
choose_of a b =
    number_of a >>= (λ key. count_of choice_limit b >>= (λ n. Some (lines.Choose key n)))

unfoldable pub three_words : List ℕ → List ℕ → List ℕ → Option Line
three_words k a b =
    if bytes_eq k (codes "single")
    then number_of a >>= (λ key. key_text_of b >>= (λ text. Some (lines.Single key text)))
    else if bytes_eq k (codes "choose") then choose_of a b
    else if bytes_eq k (codes "word") then word_of a (b ∷ [])
    else if bytes_eq k (codes "insert") then
    field_of a >>=
    (λ f. text_of line_limit b >>=
    (λ text. Some (lines.Act (actions.Edit f (edits.Insert text)))))
    else None

-- what follows the name of a sequence of keys: its text, and the keys
unfoldable pub compose_of : List ℕ → List (List ℕ) → Option Line
compose_of a words =
    key_text_of a >>=
    (λ text. kept (λ keys. nat_le (length keys) key_limit) (keys_of words) >>= (λ keys.
    Some (lines.Compose text keys)))

-- what follows the name of a batch
unfoldable pub batch_of : List ℕ → List ℕ → List ℕ → List ℕ → List ℕ → List ℕ → Option Line
batch_of a b c d e f =
    number_of a >>= (λ before. number_of b >>= (λ after.
    text_of text_limit c >>= (λ string. text_of cursor_text_limit d >>= (λ preedit.
    signed_of e >>= (λ begin. signed_of f >>= (λ end.
    Some (lines.Act (actions.Batch (edits_of before after string preedit begin end)))))))))

unfoldable pub seven_words : List ℕ → List ℕ → List (List ℕ) → Option Line
seven_words k a (b ∷ c ∷ d ∷ e ∷ f ∷ []) =
    if bytes_eq k (codes "batch") then batch_of a b c d e f else None
seven_words k a _ = None

-- four words or more, of which all but the first two are apart
unfoldable pub more_words : List ℕ → List ℕ → List (List ℕ) → Option Line
more_words k a words =
    if bytes_eq k (codes "compose") then compose_of a words
    else if bytes_eq k (codes "word") then word_of a words
    else seven_words k a words

-- the line of the words, the first of which names it
unfoldable pub line_of_words : List (List ℕ) → Option Line
line_of_words (k ∷ []) = one_word k
line_of_words (k ∷ a ∷ []) = two_words k a
line_of_words (k ∷ a ∷ b ∷ []) = three_words k a b
line_of_words (k ∷ a ∷ b ∷ c ∷ words) = more_words k a (b ∷ c ∷ words)
line_of_words _ = None

-- the line of the bytes, of which there are no more than the limit
unfoldable pub line_of : List ℕ → Option Line
line_of bytes =
    if nat_le (length bytes) line_limit then line_of_words (slice_split (λ b. b == 32) bytes)
    else None
