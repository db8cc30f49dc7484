-- Words that are read as a line of a session of form 1 are that line's.
use Rattle.std.proofs.Common.{◌≡◌, ℕ, List, [], ◌∷◌, Option, Some, None, refl}
use Rattle.std.specs.Prelude.{codes}
use Rattle.broker_steps.specs.declared.step.ShellStep.{ShellStep}
use Rattle.broker_steps.specs.declared.step.ShellStep.TheVariants as shells
use Rattle.session_text.specs.declared.line.Form.TheVariants.{Session}
use Rattle.session_text.specs.declared.line.Line.{Line}
use Rattle.session_text.specs.declared.line.Line.TheVariants as lines
use Rattle.session_text.specs.declared.line.SessionLine.TheVariants as sessions
use Rattle.broker_steps.specs.Ranges.{piece_limit, form_1_weight}
use Rattle.session_text.specs.Words.{rect, size}
use Rattle.session_text.specs.SessionGrammar.{shell_words, HasShellLine}
use Rattle.session_text.specs.SessionReading.{one_shell_word, three_shell_words, four_shell_words, five_shell_words, seven_shell_words, shell_of, in_session, one_session_word, two_session_words, three_session_words, four_session_words, header_of, session_of}
use Rattle.session_text.specs.Grammar.{line_words, IsLine}
use Rattle.session_text.proofs.TestsLetThrough.{arm}
use Rattle.session_text.proofs.WordsByKind.{IsRead, bound, made, read_alone, read_one, read_two}
use Rattle.session_text.proofs.WordKinds.{numbers, signeds, sizes, states, pieces, roles}
use Rattle.session_text.proofs.SpelledSteps.{piece_counts, old_entry_counts, store_counts}

-- ---- the shell's steps by the number of words

abbrev pub IsReadShell : List (List ℕ) → ShellStep → Type 0
IsReadShell = IsRead shell_words HasShellLine

one_shell : (k : List ℕ) (step : ShellStep) → one_shell_word k ≡ Some step → IsReadShell (k ∷ []) step
unfolding one_shell_word
one_shell k step e = read_alone (codes "unfocus") shells.Unfocus k _ step refl tt e (λ e. absurd (cc e))

three_shell : (k a b : List ℕ) (step : ShellStep) → three_shell_words k a b ≡ Some step →
    IsReadShell (k ∷ a ∷ b ∷ []) step
unfolding three_shell_words
three_shell k a b step e =
    read_two numbers numbers (codes "focus") shells.Focus k a b _ step (λ p i. refl) (λ p i h j. (h, j)) e (λ e.
    read_two sizes sizes (codes "screen") (λ w h. shells.Screen (size w h)) k a b _ step (λ w h. refl)
    (λ w h i j. (i, j)) e (λ e.
    read_two signeds signeds (codes "repeat") (λ r d. shells.Repeat (record { rate = r; delay = d })) k a b _ step
    (λ r d. refl) (λ r d h i. (h, i)) e (λ e. absurd (cc e))))

four_shell : (k a b c : List ℕ) (step : ShellStep) → four_shell_words k a b c ≡ Some step →
    IsReadShell (k ∷ a ∷ b ∷ c ∷ []) step
unfolding four_shell_words
four_shell k a b c step e =
    arm k (codes "key") _ _ step e (λ is e. bound numbers a _ step e
    (λ time h is1 e. bound numbers b _ step e (λ key i is2 e. bound states c _ step e (λ state j is3 e.
    made _ (shells.Key time key state) step e (rw (is, is1, is2, is3) refl) (h, i, j))))) (λ e.
    arm k (codes "keymap") _ _ step e (λ is e.
    bound numbers a _ step e (λ format h is1 e.
    bound numbers b _ step e (λ token i is2 e. bound numbers c _ step e (λ size j is3 e.
    made _ (shells.Keymap (record { format = format; token = token; size = size })) step e (rw (is, is1, is2, is3) refl)
    (h, i, j))))) (λ e. absurd (cc e)))

five_shell : (k a b c d : List ℕ) (step : ShellStep) → five_shell_words k a b c d ≡ Some step →
    IsReadShell (k ∷ a ∷ b ∷ c ∷ d ∷ []) step
unfolding five_shell_words
five_shell k a b c d step e =
    arm k (codes "mods") _ _ step e (λ is e. bound numbers a _ step e
    (λ depressed h is1 e. bound numbers b _ step e
    (λ latched i is2 e. bound numbers c _ step e (λ locked j is3 e. bound numbers d _ step e (λ group l is4 e.
    made _ (shells.Mods (record { depressed = depressed; latched = latched; locked = locked; group = group })) step e
    (rw (is, is1, is2, is3, is4) refl) (h, i, j, l)))))) (λ e. absurd (cc e))

seven_shell : (k a b c d f g : List ℕ) (step : ShellStep) → seven_shell_words k a b c d f g ≡ Some step →
    IsReadShell (k ∷ a ∷ b ∷ c ∷ d ∷ f ∷ g ∷ []) step
unfolding seven_shell_words
seven_shell k a b c d f g step e =
    arm k (codes "area") _ _ step e (λ is e. bound numbers a _ step e
    (λ p i is1 e. bound numbers b _ step e (λ q j is2 e.
    bound signeds c _ step e (λ x l is3 e. bound signeds d _ step e
    (λ y m is4 e. bound sizes f _ step e (λ w n is5 e. bound sizes g _ step e (λ h o is6 e.
    made _ (shells.Area p q (rect x y w h)) step e (rw (is, is1, is2, is3, is4, is5, is6) refl)
    (i, j, (l, m, n, o))))))))) (λ e. absurd (cc e))

pub shell_sound : (ws : List (List ℕ)) (step : ShellStep) → shell_of ws ≡ Some step → IsReadShell ws step
shell_sound [] step e = absurd (cc e)
shell_sound (k ∷ []) step e = one_shell k step e
shell_sound (k ∷ a ∷ []) step e = absurd (cc e)
shell_sound (k ∷ a ∷ b ∷ []) step e = three_shell k a b step e
shell_sound (k ∷ a ∷ b ∷ c ∷ []) step e = four_shell k a b c step e
shell_sound (k ∷ a ∷ b ∷ c ∷ d ∷ []) step e = five_shell k a b c d step e
shell_sound (k ∷ a ∷ b ∷ c ∷ d ∷ f ∷ []) step e = absurd (cc e)
shell_sound (k ∷ a ∷ b ∷ c ∷ d ∷ f ∷ g ∷ []) step e = seven_shell k a b c d f g step e
shell_sound (k ∷ a ∷ b ∷ c ∷ d ∷ f ∷ g ∷ w ∷ ws) step e = absurd (cc e)

-- ---- the lines of a session by the number of words

abbrev pub IsReadSession : List (List ℕ) → Line → Type 0
IsReadSession = IsRead (line_words Session) (IsLine Session)

shell_line : (ws : List (List ℕ)) (o : Option ShellStep) (line : Line) →
    ((step : ShellStep) → o ≡ Some step → IsReadShell ws step) → in_session o ≡ Some line → IsReadSession ws line
shell_line ws None line read e = absurd (cc e)
shell_line ws (Some step) line read e = let known =
    read step refl in made ws (lines.Session (sessions.Shell step)) line e known.same known.has_line

one_session : (k : List ℕ) (line : Line) → one_session_word k ≡ Some line → IsReadSession (k ∷ []) line
unfolding one_session_word
one_session k line e =
    read_alone (codes "end") lines.End k _ line refl tt e (λ e. shell_line _ (one_shell_word k) line (one_shell k) e)

two_session : (k a : List ℕ) (line : Line) → two_session_words k a ≡ Some line → IsReadSession (k ∷ a ∷ []) line
unfolding two_session_words
two_session k a line e =
    read_one roles (codes "join") (λ role. lines.Session (sessions.Join role)) k a _ line (λ role. refl)
    (λ role h. tt) e (λ e.
    read_one numbers (codes "gone") (λ p. lines.Session (sessions.Gone p)) k a _ line (λ p. refl) (λ p h. h) e
    (λ e. absurd (cc e)))

three_session : (k a b : List ℕ) (line : Line) → three_session_words k a b ≡ Some line →
    IsReadSession (k ∷ a ∷ b ∷ []) line
unfolding three_session_words
three_session k a b line e =
    read_two numbers (pieces piece_limit) (codes "bytes")
    (λ p bytes. lines.Session (sessions.Bytes p bytes)) k a b _ line (λ p bytes. refl)
    (λ p bytes h i. (h, i)) e (λ e.
    read_two numbers piece_counts (codes "take") (λ p n. lines.Session (sessions.Take p n)) k a b _ line (λ p n. refl)
    (λ p n h i. (h, i)) e (λ e.
    shell_line _ (three_shell_words k a b) line (three_shell k a b) e))

header_sound : (form a b : List ℕ) (line : Line) → header_of form a b ≡ Some line →
    IsReadSession (codes "session" ∷ form ∷ a ∷ b ∷ []) line
unfolding header_of
header_sound form a b line e =
    arm form (codes "1") _ _ line e (λ is e. bound old_entry_counts a _ line e
    (λ entries h is1 e. bound store_counts b _ line e (λ store i is2 e.
    made _ (lines.Header (record { entries = entries; store = store; weight = form_1_weight })) line e
    (rw (is, is1, is2) refl) (h, i, refl)))) (λ e. absurd (cc e))

four_session : (k a b c : List ℕ) (line : Line) → four_session_words k a b c ≡ Some line →
    IsReadSession (k ∷ a ∷ b ∷ c ∷ []) line
unfolding four_session_words
four_session k a b c line e =
    arm k (codes "session") (header_of a b c) _ line e (λ is e. rw is (header_sound a b c line e)) (λ e.
    shell_line _ (four_shell_words k a b c) line (four_shell k a b c) e)

pub session_sound : (ws : List (List ℕ)) (line : Line) → session_of ws ≡ Some line → IsReadSession ws line
session_sound [] line e = absurd (cc e)
session_sound (k ∷ []) line e = one_session k line e
session_sound (k ∷ a ∷ []) line e = two_session k a line e
session_sound (k ∷ a ∷ b ∷ []) line e = three_session k a b line e
session_sound (k ∷ a ∷ b ∷ c ∷ []) line e = four_session k a b c line e
session_sound (k ∷ a ∷ b ∷ c ∷ d ∷ ws) line e = let all =
    k ∷ a ∷ b ∷ c ∷ d ∷ ws in shell_line all (shell_of all) line (shell_sound all) e
