-- Words that are read as a line of form 2 or of a shell link are that line's.
use Rattle.std.proofs.Common.{◌≡◌, ℕ, ◌^◌, ◌<◌, leb, ◌&&◌, List, [], ◌∷◌, length, Option, Some, None, refl, subst}
use Rattle.std.specs.Prelude.{codes, map, All}
use Rattle.std.specs.Fmt.{decimal}
use Rattle.std.proofs.lemmas.Bool.{and_parts, leb-true}
use Rattle.std.proofs.lemmas.List.Elements.{All-nil, All-cons}
use Rattle.broker_steps.specs.declared.step.ShellStep.{ShellStep}
use Rattle.broker_steps.specs.declared.step.ShellStep.TheVariants as shells
use Rattle.broker_steps.specs.Ranges.{token_limit}
use Rattle.session_text.specs.declared.line.Form.TheVariants.{Session2}
use Rattle.session_text.specs.declared.line.Line.{Line}
use Rattle.session_text.specs.declared.line.Line.TheVariants as lines
use Rattle.session_text.specs.declared.line.SessionLine.{SessionLine}
use Rattle.session_text.specs.declared.line.SessionLine.TheVariants as sessions
use Rattle.session_text.specs.Words.{◌>>=◌, numbers_of}
use Rattle.session_text.specs.SessionGrammar.{shell_words, session_words, HasLinkLine, HasStampedLine, AreTokens}
use Rattle.session_text.specs.SessionReading.{session_of}
use Rattle.session_text.specs.StampedReading.{moment_of, link_of, tokens_of, tokens_line_of, plain_line, shell_line, behind_stamp, stamped_of, long_header_of, header_words_of, end_of, session_2_of}
use Rattle.session_text.specs.Grammar.{line_words, IsLine}
use Rattle.session_text.proofs.TestsLetThrough.{arm, kept_some}
use Rattle.session_text.proofs.WordsByKind.{IsRead, bound, made}
use Rattle.session_text.proofs.WordKinds.{numbers, long_numbers}
use Rattle.session_text.proofs.SpelledSteps.{old_shell, old_line, store_counts}
use Rattle.session_text.proofs.SpelledStamps.{entry_counts, weight_counts}
use Rattle.session_text.proofs.ReadSteps.{shell_sound, session_sound}

-- ---- a moment

abbrev pub IsReadLink : List (List ℕ) → ShellStep → Type 0
IsReadLink = IsRead shell_words HasLinkLine

moment_sound : (words : List (List ℕ)) (step : ShellStep) → moment_of words ≡ Some step →
    IsReadLink (codes "at" ∷ words) step
moment_sound [] step e = absurd (cc e)
moment_sound (t ∷ []) step e =
    bound long_numbers t _ step e (λ moment h is e. made _ (shells.At moment) step e (rw is refl) h)
moment_sound (t ∷ u ∷ words) step e = absurd (cc e)

pub link_sound : (ws : List (List ℕ)) (step : ShellStep) → link_of ws ≡ Some step → IsReadLink ws step
unfolding link_of
link_sound [] step e = absurd (cc e)
link_sound (k ∷ words) step e =
    arm k (codes "at") _ _ step e (λ is e. rw is (moment_sound words step e))
    (λ e. let read = shell_sound (k ∷ words) step e in
    record { same = read.same; has_line = old_shell step read.has_line })

-- ---- tokens

record AreNumbers (words : List (List ℕ)) (ns : List ℕ) : Type 0 where
  same : words ≡ map decimal ns
  small : All (λ n. n < 2 ^ 32) ns

numbers_after : (word : List ℕ) (words : List (List ℕ)) (all : List ℕ) (n : ℕ) → n < 2 ^ 32 → word ≡ decimal n
    → (o : Option (List ℕ)) → ((ns : List ℕ) → o ≡ Some ns → AreNumbers words ns) →
    (o >>= (λ ns. Some (n ∷ ns))) ≡ Some all
    → AreNumbers (word ∷ words) all
numbers_after word words all n small is None later read = absurd (cc read)
numbers_after word words all n small is (Some ns) later read =
    let known = later ns refl in
    let same : n ∷ ns ≡ all = cc in
    subst (AreNumbers (word ∷ words)) same
    (record { same = rw (is, known.same) refl; small = All-cons (λ n. n < 2 ^ 32) n ns small known.small })

numbers_sound : (words : List (List ℕ)) (all : List ℕ) → numbers_of words ≡ Some all → AreNumbers words all
unfolding numbers_of
numbers_sound [] all e = let is : [] ≡ all =
    cc in subst (AreNumbers []) is (record { same = refl; small = All-nil (λ n. n < 2 ^ 32) })
numbers_sound (word ∷ words) all e =
    bound numbers word (λ n. numbers_of words >>= (λ ns. Some (n ∷ ns))) all e (λ n small is f.
    numbers_after word words all n small is (numbers_of words) (λ ns. numbers_sound words ns) f)

tokens_sound : (words : List (List ℕ)) (tokens : List ℕ) → tokens_of words ≡ Some tokens →
    (words ≡ map decimal tokens) × AreTokens tokens
unfolding tokens_of
tokens_sound words tokens e =
    let (is, few) = kept_some (λ ts. leb 1 (length ts) && leb (length ts) token_limit) (numbers_of words) tokens e in
    let (some, within) = and_parts (leb 1 (length tokens)) (leb (length tokens) token_limit) few in
    let known = numbers_sound words tokens is in
    (known.same, ((leb-true 1 (length tokens) some, leb-true (length tokens) token_limit within), known.small))

-- ---- what stands behind a stamp

abbrev pub IsReadBehind : List (List ℕ) → SessionLine → Type 0
IsReadBehind = IsRead session_words HasStampedLine

tokens_after : (p : ℕ) (words : List (List ℕ)) (line : SessionLine) → p < 2 ^ 32 → (o : Option (List ℕ)) →
    tokens_of words ≡ o
    → (o >>= (λ tokens. Some (sessions.Tokens p tokens))) ≡ Some line →
    IsReadBehind (codes "tokens" ∷ decimal p ∷ words) line
tokens_after p words line small None is e = absurd (cc e)
tokens_after p words line small (Some tokens) is e =
    let known = tokens_sound words tokens is in
    made _ (sessions.Tokens p tokens) line e (rw known.0 refl) (small, known.1)

tokens_line_sound : (words : List (List ℕ)) (line : SessionLine) → tokens_line_of words ≡ Some line →
    IsReadBehind (codes "tokens" ∷ words) line
tokens_line_sound [] line e = absurd (cc e)
tokens_line_sound (p ∷ words) line e =
    bound numbers p _ line e (λ peer h is e. rw is (tokens_after peer words line h (tokens_of words) refl e))

shell_behind : (words : List (List ℕ)) (line : SessionLine) (o : Option ShellStep) → moment_of words ≡ o →
    shell_line o ≡ Some line → IsReadBehind (codes "at" ∷ words) line
shell_behind words line None is e = absurd (cc e)
shell_behind words line (Some step) is e = let read =
    moment_sound words step is in made _ (sessions.Shell step) line e read.same read.has_line

plain_behind : (ws : List (List ℕ)) (line : SessionLine) (o : Option Line) → session_of ws ≡ o →
    plain_line o ≡ Some line → IsReadBehind ws line
plain_behind ws line (Some (lines.Session found)) is e = let read =
    session_sound ws (lines.Session found) is in made ws found line e read.same (old_line found read.has_line)
plain_behind ws line None is e = absurd (cc e)
plain_behind ws line (Some (lines.Header limits)) is e = absurd (cc e)
plain_behind ws line (Some (lines.Act act)) is e = absurd (cc e)
plain_behind ws line (Some (lines.Stamped stamp found)) is e = absurd (cc e)
plain_behind ws line (Some (lines.Shell step)) is e = absurd (cc e)
plain_behind ws line (Some lines.End) is e = absurd (cc e)

behind_sound : (ws : List (List ℕ)) (line : SessionLine) → behind_stamp ws ≡ Some line → IsReadBehind ws line
unfolding behind_stamp
behind_sound [] line e = absurd (cc e)
behind_sound (k ∷ words) line e =
    arm k (codes "tokens") _ _ line e (λ is e. rw is (tokens_line_sound words line e)) (λ e.
    arm k (codes "at") _ _ line e (λ is e. rw is (shell_behind words line (moment_of words) refl e)) (λ e.
    plain_behind (k ∷ words) line (session_of (k ∷ words)) refl e))

-- ---- a line of form 2

abbrev pub IsReadSession2 : List (List ℕ) → Line → Type 0
IsReadSession2 = IsRead (line_words Session2) (IsLine Session2)

stamped_after : (moment author : ℕ) (words : List (List ℕ)) (line : Line) → moment < 2 ^ 64 → author < 2 ^ 64 →
    (o : Option SessionLine) → behind_stamp words ≡ o
    → (o >>= (λ found. Some (lines.Stamped (record { moment = moment; author = author }) found))) ≡ Some line →
    IsReadSession2 (decimal moment ∷ decimal author ∷ words) line
stamped_after moment author words line h i None is e = absurd (cc e)
stamped_after moment author words line h i (Some found) is e =
    let read = behind_sound words found is in
    made _ (lines.Stamped (record { moment = moment; author = author }) found) line e (rw read.same refl)
    ((h, i), read.has_line)

stamped_sound : (ws : List (List ℕ)) (line : Line) → stamped_of ws ≡ Some line → IsReadSession2 ws line
stamped_sound [] line e = absurd (cc e)
stamped_sound (m ∷ []) line e = absurd (cc e)
stamped_sound (m ∷ a ∷ words) line e =
    bound long_numbers m _ line e (λ moment h is e. bound long_numbers a _ line e (λ author i is' e.
    rw (is, is') (stamped_after moment author words line h i (behind_stamp words) refl e)))

long_header_sound : (form a b c : List ℕ) (line : Line) → long_header_of form a b c ≡ Some line →
    IsReadSession2 (codes "session" ∷ form ∷ a ∷ b ∷ c ∷ []) line
unfolding long_header_of
long_header_sound form a b c line e =
    arm form (codes "2") _ _ line e (λ is e. bound entry_counts a _ line e
    (λ entries h is1 e. bound store_counts b _ line e
    (λ store i is2 e. bound weight_counts c _ line e (λ weight j is3 e.
    made _ (lines.Header (record { entries = entries; store = store; weight = weight })) line e
    (rw (is, is1, is2, is3) refl) (h, i, j))))) (λ e. absurd (cc e))

header_sound : (words : List (List ℕ)) (line : Line) → header_words_of words ≡ Some line →
    IsReadSession2 (codes "session" ∷ words) line
header_sound [] line e = absurd (cc e)
header_sound (form ∷ []) line e = absurd (cc e)
header_sound (form ∷ a ∷ []) line e = absurd (cc e)
header_sound (form ∷ a ∷ b ∷ []) line e = absurd (cc e)
header_sound (form ∷ a ∷ b ∷ c ∷ []) line e = long_header_sound form a b c line e
header_sound (form ∷ a ∷ b ∷ c ∷ d ∷ words) line e = absurd (cc e)

end_sound : (words : List (List ℕ)) (line : Line) → end_of words ≡ Some line → IsReadSession2 (codes "end" ∷ words) line
end_sound [] line e = made _ lines.End line e refl tt
end_sound (w ∷ words) line e = absurd (cc e)

pub session_2_sound : (ws : List (List ℕ)) (line : Line) → session_2_of ws ≡ Some line → IsReadSession2 ws line
unfolding session_2_of
session_2_sound [] line e = absurd (cc e)
session_2_sound (k ∷ words) line e =
    arm k (codes "end") _ _ line e (λ is e. rw is (end_sound words line e)) (λ e.
    arm k (codes "session") _ _ line e (λ is e. rw is (header_sound words line e)) (λ e.
    stamped_sound (k ∷ words) line e))
