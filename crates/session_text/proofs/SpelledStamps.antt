-- Each line of form 2 or of a shell link: its words are words of a line, and they are read as that line.
use Rattle.std.proofs.Common.{◌≡◌, ℕ, ◌^◌, ◌<◌, true, false, List, [], ◌∷◌, length, Some, refl, ap, ◌∙◌, sym, arith}
use Rattle.std.specs.Prelude.{codes, map, All}
use Rattle.std.specs.Fmt.{decimal}
use Rattle.std.specs.Str.{bytes_eq}
use Rattle.std.proofs.lemmas.Bool.{le-leb}
use Rattle.std.proofs.lemmas.List.Elements.{All-head, All-tail}
use Rattle.std.proofs.lemmas.Slice.Eq.{bytes_eq-Decides}
use Rattle.broker_steps.specs.declared.limits.Limits.{Limits}
use Rattle.broker_steps.specs.declared.stamp.Stamp.{Stamp}
use Rattle.broker_steps.specs.declared.step.ShellStep.{ShellStep}
use Rattle.broker_steps.specs.declared.step.ShellStep.TheVariants as shells
use Rattle.broker_steps.specs.Ranges.{entry_limit, weight_limit, token_limit, IsWithin, IsLimits}
use Rattle.session_text.specs.declared.line.Line.TheVariants as lines
use Rattle.session_text.specs.declared.line.SessionLine.{SessionLine}
use Rattle.session_text.specs.declared.line.SessionLine.TheVariants as sessions
use Rattle.session_text.specs.Words.{count_of, numbers_of}
use Rattle.session_text.specs.SessionGrammar.{shell_words, session_words, long_header_words, stamped_words, HasLinkLine, HasStampedLine, AreTokens, IsStamp}
use Rattle.session_text.specs.StampedReading.{link_of, tokens_of, plain_line, behind_stamp, long_header_of, session_2_of}
use Rattle.session_text.proofs.LinesSplit.{lacks, IsOutside, decimal_lacks}
use Rattle.session_text.proofs.WordsByKind.{Parts, none, more, named, whole}
use Rattle.session_text.proofs.WordKinds.{Kind, numbers, long_numbers, counts}
use Rattle.session_text.proofs.SpelledSteps.{store_counts, line_fits, shell_complete, session_complete}

pub entry_counts : Kind (count_of entry_limit) decimal (IsWithin entry_limit) 10
entry_counts = counts entry_limit (omega arith)

pub weight_counts : Kind (count_of weight_limit) decimal (IsWithin weight_limit) 10
weight_counts = counts weight_limit (omega arith)

-- ---- the words of a line

pub stamped_parts : (stamp : Stamp) (line : SessionLine) → IsStamp stamp → HasStampedLine line →
    Parts (stamped_words stamp (session_words line))
stamped_parts stamp line s h =
    whole (stamped_words stamp (session_words line)) _
    (more long_numbers stamp.moment s.0 _ _ (more long_numbers stamp.author s.1 _ _ (line_fits line h)))
    (omega arith) (omega arith)

pub long_header_parts : (limits : Limits) → IsLimits limits → Parts (long_header_words limits)
long_header_parts limits h =
    let counted =
    more entry_counts limits.entries h.0 _ _
    (more store_counts limits.store h.1 _ _ (more weight_counts limits.weight h.2 _ _ none)) in
    named (codes "session") (codes "2" ∷ _) 35
    (record {
      spaceless = (refl, counted.spaceless);
      zeroless = (refl, counted.zeroless);
      within =
          omega (arith, counted.within);
    }) refl

-- ---- the words of a line are read as that line

pub link_complete : (step : ShellStep) → HasLinkLine step → link_of (shell_words step) ≡ Some step
unfolding link_of
link_complete (shells.Focus p i) h = shell_complete (shells.Focus p i) h
link_complete shells.Unfocus h = shell_complete shells.Unfocus h
link_complete (shells.Area p i r) h = shell_complete (shells.Area p i r) h
link_complete (shells.Screen z) h = shell_complete (shells.Screen z) h
link_complete (shells.Key time key state) h = shell_complete (shells.Key time key state) h
link_complete (shells.Mods mods) h = shell_complete (shells.Mods mods) h
link_complete (shells.Keymap keymap) h = shell_complete (shells.Keymap keymap) h
link_complete (shells.Repeat repeat) h = shell_complete (shells.Repeat repeat) h
link_complete (shells.At moment) h = rw (long_numbers.complete moment h) refl

numbers_complete : (ns : List ℕ) → All (λ n. n < 2 ^ 32) ns → numbers_of (map decimal ns) ≡ Some ns
unfolding numbers_of
numbers_complete [] h = refl
numbers_complete (n ∷ ns) h =
    rw (numbers.complete n (All-head (λ n. n < 2 ^ 32) n ns h))
    (rw (numbers_complete ns (All-tail (λ n. n < 2 ^ 32) n ns h)) refl)

tokens_complete : (tokens : List ℕ) → AreTokens tokens → tokens_of (map decimal tokens) ≡ Some tokens
unfolding tokens_of
tokens_complete tokens h =
    rw (numbers_complete tokens h.1, le-leb 1 (length tokens) h.0.0, le-leb (length tokens) token_limit h.0.1) refl

behind_complete : (line : SessionLine) → HasStampedLine line → behind_stamp (session_words line) ≡ Some line
unfolding behind_stamp
behind_complete (sessions.Join role) h = ap plain_line (session_complete (sessions.Join role) h)
behind_complete (sessions.Bytes p bytes) h = ap plain_line (session_complete (sessions.Bytes p bytes) h)
behind_complete (sessions.Gone p) h = ap plain_line (session_complete (sessions.Gone p) h)
behind_complete (sessions.Take p n) h = ap plain_line (session_complete (sessions.Take p n) h)
behind_complete (sessions.Tokens p tokens) h = rw (numbers.complete p h.0) (rw (tokens_complete tokens h.1) refl)
behind_complete (sessions.Shell (shells.Focus p i)) h =
    ap plain_line (session_complete (sessions.Shell (shells.Focus p i)) h)
behind_complete (sessions.Shell shells.Unfocus) h = ap plain_line (session_complete (sessions.Shell shells.Unfocus) h)
behind_complete (sessions.Shell (shells.Area p i r)) h =
    ap plain_line (session_complete (sessions.Shell (shells.Area p i r)) h)
behind_complete (sessions.Shell (shells.Screen z)) h =
    ap plain_line (session_complete (sessions.Shell (shells.Screen z)) h)
behind_complete (sessions.Shell (shells.Key time key state)) h =
    ap plain_line (session_complete (sessions.Shell (shells.Key time key state)) h)
behind_complete (sessions.Shell (shells.Mods mods)) h =
    ap plain_line (session_complete (sessions.Shell (shells.Mods mods)) h)
behind_complete (sessions.Shell (shells.Keymap keymap)) h =
    ap plain_line (session_complete (sessions.Shell (shells.Keymap keymap)) h)
behind_complete (sessions.Shell (shells.Repeat repeat)) h =
    ap plain_line (session_complete (sessions.Shell (shells.Repeat repeat)) h)
behind_complete (sessions.Shell (shells.At moment)) h = rw (long_numbers.complete moment h) refl

-- a number is none of the names, which have a byte that is in no number
letter : (b : ℕ) → IsOutside b → (n : ℕ) → n < 2 ^ 64 → (name : List ℕ) → lacks b name ≡ false →
    bytes_eq (decimal n) name ≡ false
letter b out n small name has =
    elim (bytes_eq (decimal n) name) as (λ v. bytes_eq (decimal n) name ≡ v → v ≡ false) [
      | true ↦ λ is.
          let same : decimal n ≡ name = (bytes_eq-Decides (decimal n) name).0 is in
          let lack : lacks b name ≡ true = ap (lacks b) (sym same) ∙ decimal_lacks b out n small in cc
      | false ↦ λ is. refl
    ] refl

-- the letter n
letter_n : IsOutside 110
letter_n = record { no_digit = λ h. omega arith; no_hex = refl; no_dash = refl }

pub stamped_complete : (stamp : Stamp) (line : SessionLine) → IsStamp stamp → HasStampedLine line →
    session_2_of (stamped_words stamp (session_words line)) ≡ Some (lines.Stamped stamp line)
unfolding session_2_of
stamped_complete stamp line s h =
    let no_end : bytes_eq (decimal stamp.moment) (codes "end") ≡ false =
    letter 110 letter_n stamp.moment s.0 (codes "end") refl in
    let no_header : bytes_eq (decimal stamp.moment) (codes "session") ≡ false =
    letter 110 letter_n stamp.moment s.0 (codes "session") refl in
    rw (no_end, no_header)
    (rw (long_numbers.complete stamp.moment s.0)
    (rw (long_numbers.complete stamp.author s.1) (rw (behind_complete line h) refl)))

pub long_header_complete : (limits : Limits) → IsLimits limits →
    session_2_of (long_header_words limits) ≡ Some (lines.Header limits)
unfolding session_2_of long_header_of
long_header_complete limits h =
    rw (entry_counts.complete limits.entries h.0)
    (rw (store_counts.complete limits.store h.1) (rw (weight_counts.complete limits.weight h.2) refl))

pub end_2_complete : session_2_of (codes "end" ∷ []) ≡ Some lines.End
unfolding session_2_of
end_2_complete = refl
