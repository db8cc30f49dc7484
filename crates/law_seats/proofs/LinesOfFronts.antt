-- The whole lines of a front of a text are a front of its lines, and tell a front of what the text tells.
use Rattle.std.proofs.Common.{◌≡◌, ℕ, Bool, true, false, ◌||◌, eqb, List, [], ◌∷◌, ◌++◌, take, drop, refl, sym, ap, subst, ◌∙◌, append_assoc}
use Rattle.std.specs.Prelude.{if◌then◌else◌}
use Rattle.std.specs.List.{list_any}
use Rattle.std.proofs.lemmas.Bool.{eqb-true}
use Rattle.std.proofs.lemmas.List.{take-append-drop}
use Rattle.lines_transcript.specs.Printed.{IsFront}
use Rattle.program_run.specs.Lines.{bytes_of, lines_of}
use Rattle.program_run.proofs.InputSplits.{bytes_both, lines_front}
use Rattle.law_seats.specs.SeatTexts.{told_lines, told_to}
use Rattle.law_seats.specs.SeatsFronts.{whole_lines}
use Rattle.law_seats.proofs.WholeTexts.{IsWhole, lines_both, told_of, whole_fed, whole_none}

-- ---- up to the last line feed

-- a line feed is among the bytes
abbrev has_feed : List ℕ → Bool
has_feed bytes = list_any (λ b. eqb b 10) bytes

none_whole : (bytes : List ℕ) → has_feed bytes ≡ false → whole_lines bytes ≡ []
none_whole [] e = refl
none_whole (b ∷ bytes) e = ap (λ (t : Bool). if t then b ∷ whole_lines bytes else []) e

-- they end with the line feed
ends_fed : (bytes : List ℕ) → has_feed bytes ≡ true → (w : List ℕ) × (whole_lines bytes ≡ w ++ 10 ∷ [])
ends_fed [] e = absurd (cc e)
ends_fed (b ∷ bytes) e =
    let here : whole_lines (b ∷ bytes) ≡ b ∷ whole_lines bytes =
    ap (λ (t : Bool). if t then b ∷ whole_lines bytes else []) e in
    elim (has_feed bytes) as (λ t. has_feed bytes ≡ t → (w : List ℕ) × (whole_lines (b ∷ bytes) ≡ w ++ 10 ∷ [])) [
      | true ↦ λ more.
          let rest = ends_fed bytes more in
          (b ∷ rest.0, here ∙ ap (λ (l : List ℕ). b ∷ l) rest.1)
      | false ↦ λ none.
          let test : eqb b 10 ≡ true = feed_first (eqb b 10) (has_feed bytes) e none in
          let feed : b ≡ 10 = eqb-true b 10 test in
          ([], here ∙ ap (λ (l : List ℕ). b ∷ l) (none_whole bytes none) ∙ ap (λ (x : ℕ). x ∷ []) feed)
    ] refl
  where
    feed_first : (s t : Bool) → (s || t) ≡ true → t ≡ false → s ≡ true
    feed_first true t e none = refl
    feed_first false t e none = absurd (cc (e, none))

whole_front : (bytes : List ℕ) → IsFront (whole_lines bytes) bytes
whole_front [] = ([], refl)
whole_front (b ∷ bytes) = by (has_feed (b ∷ bytes)) (whole_front bytes)
  where
    by : (t : Bool) → IsFront (whole_lines bytes) bytes →
        IsFront (if t then b ∷ whole_lines bytes else []) (b ∷ bytes)
    by true rest = (rest.0, ap (λ (l : List ℕ). b ∷ l) rest.1)
    by false rest = (b ∷ bytes, refl)

are_whole : (bytes : List ℕ) → IsWhole (whole_lines bytes)
are_whole bytes =
    elim (has_feed bytes) as (λ t. has_feed bytes ≡ t → IsWhole (whole_lines bytes)) [
      | true ↦ λ some. let fed = ends_fed bytes some in subst IsWhole (sym fed.1) (whole_fed fed.0)
      | false ↦ λ none. subst IsWhole (sym (none_whole bytes none)) whole_none
    ] refl

-- ---- fronts

pub front_both : (a b c : List ℕ) → IsFront a b → IsFront b c → IsFront a c
front_both a b c h k =
    (h.0 ++ k.0, sym (append_assoc a h.0 k.0) ∙ ap (λ (l : List ℕ). l ++ k.0) h.1 ∙ k.1)

take_front : (n : ℕ) (bytes : List ℕ) → IsFront (take n bytes) bytes
take_front n bytes = (drop n bytes, take-append-drop n bytes)

-- ---- what they tell

-- whole lines tell a front of what a text tells that goes on behind them
told_front : (seat : ℕ) (front rest : List ℕ) → IsWhole front → IsFront (told_to seat front) (told_to seat
    (front ++ rest))
unfolding told_to
told_front seat front rest h =
    let more : List (List ℕ) = lines_of false rest in
    let told : told_to seat front ≡ bytes_of (told_lines seat h.lines) =
    ap (told_to seat) h.is ∙ told_of seat h.lines h.lack in
    let all : told_to seat (front ++ rest) ≡ bytes_of (told_lines seat h.lines) ++ bytes_of (told_lines seat more) =
    ap (λ (l : List ℕ). told_to seat (l ++ rest)) h.is
    ∙ ap (λ (l : List (List ℕ)). bytes_of (told_lines seat l)) (lines_front false h.lines rest h.lack)
    ∙ ap bytes_of (lines_both seat h.lines more) ∙ bytes_both (told_lines seat h.lines) (told_lines seat more) in (
      bytes_of (told_lines seat more),
      ap (λ (l : List ℕ). l ++ bytes_of (told_lines seat more)) told ∙ sym all,
    )

pub told_of_front : (seat n : ℕ) (text : List ℕ) →
    IsFront (told_to seat (whole_lines (take n text))) (told_to seat text)
told_of_front seat n text =
    let whole : List ℕ = whole_lines (take n text) in
    let begins = front_both whole (take n text) text (whole_front (take n text)) (take_front n text) in
    subst (λ (t : List ℕ). IsFront (told_to seat whole) (told_to seat t)) begins.1
    (told_front seat whole begins.0 (are_whole (take n text)))
