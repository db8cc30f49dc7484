-- Words that are read as a line are that line's.
use Rattle.std.proofs.Common.{◌≡◌, ℕ, true, false, leb, cond, List, [], ◌∷◌, length, Option, Some, None, refl, subst, ◌≤◌, arith}
use Rattle.std.specs.Prelude.{codes}
use Rattle.std.proofs.lemmas.Bool.{leb-true}
use Rattle.session_text.specs.Words.{◌>>=◌, kept, text_limit, cursor_text_limit}
use Rattle.session_text.specs.Reading.{line_limit}
use Rattle.session_text.proofs.TestsLetThrough.{arm}
use Rattle.session_text.proofs.WordsByKind.{IsRead, bound, made, read_alone, read_one, read_two}
use Rattle.session_text.proofs.WordKinds.{numbers, signeds, texts}
use Rattle.trial_script.specs.declared.action.Action.TheVariants as actions
use Rattle.trial_script.specs.declared.action.FieldEdit.TheVariants as edits
use Rattle.trial_script.specs.declared.line.Line.{Line}
use Rattle.trial_script.specs.declared.line.Line.TheVariants as lines
use Rattle.trial_script.specs.Words.{key_limit, word_key_limit, keys_of}
use Rattle.trial_script.specs.Grammar.{line_words, HasParts}
use Rattle.trial_script.specs.Reading.{edits_of, one_word, header_of, two_words, three_words, compose_of, word_of, batch_of, seven_words, more_words, line_of_words}
use Rattle.trial_script.proofs.ScriptWords.{AreRead, fields, choices, key_texts, keys_sound}

abbrev pub IsReadLine : List (List ℕ) → Line → Type 0
IsReadLine = IsRead line_words HasParts

one_sound : (k : List ℕ) (line : Line) → one_word k ≡ Some line → IsReadLine (k ∷ []) line
unfolding one_word
one_sound k line e =
    read_alone (codes "leave") (lines.Act actions.Leave) k _ line refl tt e (λ e.
    read_alone (codes "end") lines.End k _ line refl tt e (λ e. absurd (cc e)))

header_sound : (form : List ℕ) (line : Line) → header_of form ≡ Some line → IsReadLine (codes "trial" ∷ form ∷ []) line
unfolding header_of
header_sound form line e =
    arm form (codes "1") _ _ line e (λ is e. made _ lines.Header line e (rw is refl) tt) (λ e. absurd (cc e))

two_sound : (k a : List ℕ) (line : Line) → two_words k a ≡ Some line → IsReadLine (k ∷ a ∷ []) line
unfolding two_words
two_sound k a line e =
    arm k (codes "trial") (header_of a) _ line e (λ is e. rw is (header_sound a line e)) (λ e.
    read_one fields (codes "fields") lines.Fields k a _ line (λ n. refl) (λ n h. h) e (λ e.
    read_one fields (codes "use") (λ f. lines.Act (actions.Use f)) k a _ line (λ n. refl) (λ n h. h) e (λ e.
    read_one numbers (codes "press") (λ key. lines.Act (actions.Press key)) k a _ line (λ n. refl) (λ n h. h) e (λ e.
    read_one numbers (codes "erase") lines.Erase k a _ line (λ n. refl) (λ n h. h) e (λ e.
    read_one fields (codes "left") (λ f. lines.Act (actions.Edit f edits.Left)) k a _ line (λ n. refl)
    (λ n h. (h, tt)) e (λ e.
    read_one fields (codes "right") (λ f. lines.Act (actions.Edit f edits.Right)) k a _ line (λ n. refl)
    (λ n h. (h, tt)) e (λ e.
    read_one fields (codes "rub") (λ f. lines.Act (actions.Edit f edits.Rub)) k a _ line (λ n. refl)
    (λ n h. (h, tt)) e (λ e.
    read_one fields (codes "pause") (λ f. lines.Act (actions.Pause f)) k a _ line (λ n. refl) (λ n h. h) e (λ e.
    read_one fields (codes "resume") (λ f. lines.Act (actions.Resume f)) k a _ line (λ n. refl) (λ n h. h) e (λ e.
    read_one fields (codes "show") (λ f. lines.Act (actions.Show f)) k a _ line (λ n. refl) (λ n h. h) e
    (λ e. absurd (cc e))))))))))))

-- the keys behind a text, of which a line has so many
keys_read : (most : ℕ) (make : List ℕ → Line) (name a : List ℕ) (words : List (List ℕ)) (keys : Option (List ℕ))
    (line : Line) → keys_of words ≡ keys
    → ((ks : List ℕ) → AreRead words ks → length ks ≤ most → IsReadLine (name ∷ a ∷ words) (make ks))
    → (kept (λ keys. leb (length keys) most) keys >>= (λ keys. Some (make keys))) ≡ Some line →
    IsReadLine (name ∷ a ∷ words) line
keys_read most make name a words None line read is e = absurd (cc e)
keys_read most make name a words (Some keys) line read is e =
    elim (leb (length keys) most) as
    (λ t. leb (length keys) most ≡ t → (cond t (Some keys) None >>= (λ keys. Some (make keys))) ≡ Some line →
    IsReadLine (name ∷ a ∷ words) line) [
      | true ↦ λ few f. let same : make keys ≡ line = cc in
          subst (IsReadLine (name ∷ a ∷ words)) same
          (is keys (keys_sound words keys read) (leb-true (length keys) most few))
      | false ↦ λ few f. absurd (cc f)
    ] refl e

compose_sound : (a b c : List ℕ) (words : List (List ℕ)) (line : Line) → compose_of a (b ∷ c ∷ words) ≡ Some line →
    IsReadLine (codes "compose" ∷ a ∷ b ∷ c ∷ words) line
unfolding compose_of
compose_sound a b c words line e =
    bound key_texts a _ line e (λ text h is f.
    keys_read key_limit (lines.Compose text) (codes "compose") a (b ∷ c ∷ words) (keys_of (b ∷ c ∷ words)) line refl
    (λ ks known few. record {
      same = rw (is, known.same) refl;
      has_line = (
        h,
        record { several = let count = known.count in omega (arith, count); few = few; each = known.small },
      );
    }) f)

word_sound : (a b : List ℕ) (words : List (List ℕ)) (line : Line) → word_of a (b ∷ words) ≡ Some line →
    IsReadLine (codes "word" ∷ a ∷ b ∷ words) line
unfolding word_of
word_sound a b words line e =
    bound key_texts a _ line e (λ text h is f.
    keys_read word_key_limit (lines.Word text) (codes "word") a (b ∷ words) (keys_of (b ∷ words)) line refl
    (λ ks known few. record {
      same = rw (is, known.same) refl;
      has_line = (h, record { some = let count = known.count in omega (arith, count); few = few; each = known.small });
    }) f)

three_sound : (k a b : List ℕ) (line : Line) → three_words k a b ≡ Some line → IsReadLine (k ∷ a ∷ b ∷ []) line
unfolding three_words
three_sound k a b line e =
    read_two numbers key_texts (codes "single") lines.Single k a b _ line (λ key t. refl) (λ key t h i. (h, i)) e (λ e.
    read_two numbers choices (codes "choose") lines.Choose k a b _ line (λ key n. refl) (λ key n h i. (h, i)) e (λ e.
    arm k (codes "word") (word_of a (b ∷ [])) _ line e (λ is e. rw is (word_sound a b [] line e)) (λ e.
    read_two fields (texts line_limit) (codes "insert")
    (λ f t. lines.Act (actions.Edit f (edits.Insert t))) k a b _ line (λ f t. refl) (λ f t h i. (h, i)) e (λ e.
    absurd (cc e)))))

batch_sound : (a b c d f g : List ℕ) (line : Line) → batch_of a b c d f g ≡ Some line →
    IsReadLine (codes "batch" ∷ a ∷ b ∷ c ∷ d ∷ f ∷ g ∷ []) line
unfolding batch_of
batch_sound a b c d f g line e =
    bound numbers a _ line e
    (λ before h is1 e. bound numbers b _ line e
    (λ behind i is2 e. bound (texts text_limit) c _ line e (λ string j is3 e.
    bound (texts cursor_text_limit) d _ line e
    (λ preedit l is4 e. bound signeds f _ line e (λ begin m is5 e. bound signeds g _ line e (λ end n is6 e.
    made _ (lines.Act (actions.Batch (edits_of before behind string preedit begin end))) line e
    (rw (is1, is2, is3, is4, is5, is6) refl)
    (record { before = h; after = i; string = j; preedit = l; begin = m; end = n })))))))

more_sound : (k a : List ℕ) (ws : List (List ℕ)) (line : Line) → seven_words k a ws ≡ Some line →
    IsReadLine (k ∷ a ∷ ws) line
unfolding seven_words
more_sound k a [] line e = absurd (cc e)
more_sound k a (b ∷ []) line e = absurd (cc e)
more_sound k a (b ∷ c ∷ []) line e = absurd (cc e)
more_sound k a (b ∷ c ∷ d ∷ []) line e = absurd (cc e)
more_sound k a (b ∷ c ∷ d ∷ f ∷ []) line e = absurd (cc e)
more_sound k a (b ∷ c ∷ d ∷ f ∷ g ∷ []) line e =
    arm k (codes "batch") _ _ line e (λ is e. rw is (batch_sound a b c d f g line e)) (λ e. absurd (cc e))
more_sound k a (b ∷ c ∷ d ∷ f ∷ g ∷ w ∷ ws) line e = absurd (cc e)

pub words_sound : (ws : List (List ℕ)) (line : Line) → line_of_words ws ≡ Some line → IsReadLine ws line
unfolding line_of_words more_words
words_sound [] line e = absurd (cc e)
words_sound (k ∷ []) line e = one_sound k line e
words_sound (k ∷ a ∷ []) line e = two_sound k a line e
words_sound (k ∷ a ∷ b ∷ []) line e = three_sound k a b line e
words_sound (k ∷ a ∷ b ∷ c ∷ ws) line e =
    arm k (codes "compose") _ _ line e (λ is e. rw is (compose_sound a b c ws line e)) (λ e.
    arm k (codes "word") _ _ line e (λ is e. rw is (word_sound a b (c ∷ ws) line e))
    (λ e. more_sound k a (b ∷ c ∷ ws) line e))
