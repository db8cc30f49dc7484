-- What lines give a seat is shorter than they are.
use Rattle.std.proofs.Common.{◌≡◌, ℕ, ◌+◌, ◌*◌, ◌<◌, ◌≤◌, Bool, true, false, eqb, leb, List, [], ◌∷◌, ◌++◌, length, Option, Some, None, refl, ap, subst, ◌∙◌, arith, length-append}
use Rattle.std.specs.Prelude.{codes, if◌then◌else◌}
use Rattle.std.specs.Fmt.{decimal}
use Rattle.std.specs.Str.{bytes_eq}
use Rattle.std.proofs.lemmas.Bool.{eqb-true, leb-true}
use Rattle.std.proofs.lemmas.List.Elements.{All-tail}
use Rattle.lines_transcript.specs.Seats.{seat_mark}
use Rattle.wio_core.specs.Lines.{LacksFeed}
use Rattle.program_run.specs.Lines.{size_of}
use Rattle.program_run.specs.Reading.{LackFeeds}
use Rattle.law_seats.specs.SeatTexts.{behind, either_line, given, gives, with_line}

-- ---- what stands behind a front

behind_by : (x b : ℕ) (front bytes rest : List ℕ) (t : Bool) → eqb b x ≡ t →
    (behind front bytes ≡ Some rest → bytes ≡ front ++ rest)
    → (if t then behind front bytes else None) ≡ Some rest → b ∷ bytes ≡ x ∷ (front ++ rest)
behind_by x b front bytes rest true test more e = let same : b ≡ x = eqb-true b x test in let later = more e in cc
behind_by x b front bytes rest false test more e = absurd (cc e)

behind_is : (front bytes rest : List ℕ) → behind front bytes ≡ Some rest → bytes ≡ front ++ rest
behind_is [] bytes rest e = cc
behind_is (x ∷ front) [] rest e = absurd (cc e)
behind_is (x ∷ front) (b ∷ bytes) rest e = behind_by x b front bytes rest (eqb b x) refl (behind_is front bytes rest) e

-- a line that bytes give is shorter than they are, and has no line feed if they have none
record IsShorter (raw rest : List ℕ) : Type 0 where
  size : length rest < length raw
  few : length raw ≤ 8400
  lack : LacksFeed raw → LacksFeed rest

lack_behind : (front rest : List ℕ) → LacksFeed (front ++ rest) → LacksFeed rest
lack_behind [] rest lack = lack
lack_behind (b ∷ front) rest lack = lack_behind front rest (All-tail (λ x. x ≡ 10 → ⊥) b (front ++ rest) lack)

shorter : (front raw rest : List ℕ) → 1 ≤ length front → length raw ≤ 8400 → behind front raw ≡ Some rest →
    IsShorter raw rest
shorter front raw rest some few e =
    let is = behind_is front raw rest e in
    record {
      size = omega (arith, some, ap length is, length-append front rest);
      few = few;
      lack = λ lack. lack_behind front rest (subst LacksFeed is lack);
    }

mark_some : (seat : ℕ) → 1 ≤ length (seat_mark seat)
mark_some seat = omega (arith, length-append (decimal seat) (32 ∷ []))

either_shorter : (seat : ℕ) (raw rest : List ℕ) (o : Option (List ℕ)) → length raw ≤ 8400 →
    behind (seat_mark seat) raw ≡ o
    → either_line o (behind (codes "all ") raw) ≡ Some rest → IsShorter raw rest
either_shorter seat raw rest (Some found) few is e =
    shorter (seat_mark seat) raw rest (mark_some seat) few (is ∙ e)
either_shorter seat raw rest None few is e = shorter (codes "all ") raw rest (omega arith) few e

gives_by : (seat : ℕ) (raw rest : List ℕ) (t : Bool) → leb (length raw) 8400 ≡ t
    → (if t then either_line (behind (seat_mark seat) raw) (behind (codes "all ") raw) else None) ≡ Some rest →
    IsShorter raw rest
gives_by seat raw rest true test e =
    either_shorter seat raw rest (behind (seat_mark seat) raw) (leb-true (length raw) 8400 test) refl e
gives_by seat raw rest false test e = absurd (cc e)

gives_shorter : (seat : ℕ) (raw rest : List ℕ) → gives seat raw ≡ Some rest → IsShorter raw rest
gives_shorter seat raw rest e = gives_by seat raw rest (leb (length raw) 8400) refl e

-- ---- the lines that are given

pub record AreShorter (lines given : List (List ℕ)) : Type 0 where
  pub size : size_of given + length given ≤ size_of lines
  pub few : size_of given ≤ 8400 * length given
  pub lack : LackFeeds lines → LackFeeds given

none_shorter : (lines : List (List ℕ)) → AreShorter lines []
none_shorter lines = record { size = omega arith; few = omega arith; lack = λ lack. tt }

with_shorter : (seat : ℕ) (raw : List ℕ) (lines given : List (List ℕ)) (o : Option (List ℕ)) → gives seat raw ≡ o
    → AreShorter lines given → AreShorter (raw ∷ lines) (with_line o given)
with_shorter seat raw lines given (Some rest) is h =
    let one = gives_shorter seat raw rest is in
    let a = one.size in
    let b = one.few in
    let c = h.size in
    let d = h.few in
    record { size = omega (arith, a, c); few = omega (arith, a, b, d); lack = λ lack. (one.lack lack.0, h.lack lack.1) }
with_shorter seat raw lines given None is h =
    let c = h.size in
    let d = h.few in
    record { size = omega (arith, c); few = d; lack = λ lack. h.lack lack.1 }

pub given_shorter : (seat : ℕ) (lines : List (List ℕ)) → AreShorter lines (given seat lines)
given_shorter seat [] = none_shorter []
given_shorter seat (raw ∷ lines) =
    by (bytes_eq raw (codes "end")) (with_shorter seat raw lines (given seat lines) (gives seat raw) refl
    (given_shorter seat lines))
  where
    by : (b : Bool) → AreShorter (raw ∷ lines) (with_line (gives seat raw) (given seat lines))
        → AreShorter (raw ∷ lines) (if b then [] else with_line (gives seat raw) (given seat lines))
    by true h = none_shorter (raw ∷ lines)
    by false h = h
