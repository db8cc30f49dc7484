-- Lines that decide nothing and whose output is within so many bytes, and how near to them a run reads.
use Rattle.std.proofs.Common.{◌≡◌, ℕ, ◌+◌, ◌-◌, ◌<◌, ◌≤◌, Bool, true, false, List, [], ◌∷◌, ◌++◌, length, take, Option, Some, None, refl, sym, ap, ◌∙◌, inl, inr, ◌⊎◌, arith, length-append}
use Rattle.std.specs.Prelude.{IfSome}
use Rattle.std.specs.Io.KnownBytes.{Appends}
use Rattle.std.proofs.Math.Seq.{take-append_seam}
use Rattle.program_run.specs.declared.last_line.LastLine.TheVariants as last
use Rattle.program_run.specs.Endings.{Answer, with_front, ending, long_line, is_long, shown}
use Rattle.program_run.specs.Lines.{lines_read, size_of}
use Rattle.program_run.specs.Scripts.{Follows}
use Rattle.program_run.specs.Reading.{LeadsOff}
use Rattle.program_run.specs.LineByLine.{ReachesNear}
use Rattle.program_run.proofs.InputSplits.{size_both}

-- no line of these decides, and with none of them the output is longer than so many bytes
pub record Within (answer : Bool → List (List ℕ) → Answer) (done : List (List ℕ)) (n : ℕ) : Type 0 where
  pub undecided : (before : List (List ℕ)) (line : List ℕ) (after : List (List ℕ)) → done ≡ before ++ line ∷ after
      → is_long (answer true (before ++ line ∷ [])).1 ≡ true
  pub said : (before : List (List ℕ)) (line : List ℕ) (after : List (List ℕ)) → done ≡ before ++ line ∷ after
      → length (shown (answer true (before ++ line ∷ []))) ≤ n

pub within_none : (answer : Bool → List (List ℕ) → Answer) → Within answer [] 0
within_none answer = record {
  undecided = λ before line after e. absurd (none before line after e);
  said = λ before line after e. absurd (none before line after e);
}
  where
    none : (before : List (List ℕ)) (line : List ℕ) (after : List (List ℕ)) → [] ≡ before ++ line ∷ after → ⊥
    none before line after e =
        let len : 0 ≡ length (before ++ line ∷ after) = ap length e in
        omega (arith, len, length-append before (line ∷ after))

-- what is shown of lines that decided nothing is their output
pub shown_of : (output : List ℕ) → shown (with_front output (ending last.Long)) ≡ output
shown_of output =
    let n : length (output ++ long_line) - length long_line ≡ length output =
    omega (arith, length-append output long_line) in
    ap (λ k. take k (output ++ long_line)) n ∙ take-append_seam output long_line

-- of two lists the first is a front of the second, or the other way round, with a line between
abbrev AreFronts : (a c : List (List ℕ)) (x : List ℕ) → Type 0
AreFronts a c x = ((m : List (List ℕ)) × (c ≡ a ++ m)) ⊎ ((m : List (List ℕ)) × (a ≡ c ++ x ∷ m))

-- so it is where a list falls into two parts in two ways
split_twice : (a b c : List (List ℕ)) (x : List ℕ) (d : List (List ℕ)) → a ++ b ≡ c ++ x ∷ d → AreFronts a c x
split_twice [] b c x d e = inl (c, refl)
split_twice (y ∷ a) b [] x d e = let same : y ≡ x = cc in inr (a, ap (λ z. z ∷ a) same)
split_twice (y ∷ a) b (z ∷ c) x d e =
    let same : y ≡ z = cc in
    let rest : a ++ b ≡ c ++ x ∷ d = cc in
    elim (split_twice a b c x d rest) [
      | inl m ↦ inl (m.0, ap (λ t. z ∷ t) m.1 ∙ ap (λ w. w ∷ (a ++ m.0)) (sym same))
      | inr m ↦ inr (m.0, ap (λ t. y ∷ t) m.1 ∙ ap (λ w. w ∷ (c ++ x ∷ m.0)) same)
    ]

-- a line of one more list stands in the list, or is the one more
at_the_end : (done : List (List ℕ)) (raw : List ℕ) (before : List (List ℕ)) (line : List ℕ)
    (after m : List (List ℕ)) → done ++ raw ∷ [] ≡ before ++ line ∷ after → before ≡ done ++ m
    → before ++ line ∷ [] ≡ done ++ raw ∷ []
at_the_end done raw before line [] m e is = sym e
at_the_end done raw before line (x ∷ after) m e is =
    absurd (omega (
      arith,
      ap length is,
      ap length e,
      length-append done m,
      length-append done (raw ∷ []),
      length-append before (line ∷ x ∷ after),
    ))

-- one line more was played
pub within_more : (answer : Bool → List (List ℕ) → Answer) (done : List (List ℕ)) (raw output : List ℕ) (n : ℕ)
    → Within answer done n → n ≤ length output → Follows answer (done ++ raw ∷ []) output
    → Within answer (done ++ raw ∷ []) (length output)
within_more answer done raw output n w le follows = record {
  undecided = λ before line after e. open_by before line after e (split_twice done (raw ∷ []) before line after e);
  said = λ before line after e. said_by before line after e (split_twice done (raw ∷ []) before line after e);
}
  where
    here : (before : List (List ℕ)) (line : List ℕ) (after m : List (List ℕ))
        → done ++ raw ∷ [] ≡ before ++ line ∷ after → before ≡ done ++ m
        → answer true (before ++ line ∷ []) ≡ with_front output (ending last.Long)
    here before line after m e is =
        ap (answer true) (at_the_end done raw before line after m e is) ∙ follows.undecided

    open_by : (before : List (List ℕ)) (line : List ℕ) (after : List (List ℕ))
        → done ++ raw ∷ [] ≡ before ++ line ∷ after → AreFronts done before line
        → is_long (answer true (before ++ line ∷ [])).1 ≡ true
    open_by before line after e (inl m) = ap (λ a. is_long a.1) (here before line after m.0 e m.1)
    open_by before line after e (inr m) = w.undecided before line m.0 m.1

    said_by : (before : List (List ℕ)) (line : List ℕ) (after : List (List ℕ))
        → done ++ raw ∷ [] ≡ before ++ line ∷ after → AreFronts done before line
        → length (shown (answer true (before ++ line ∷ []))) ≤ length output
    said_by before line after e (inl m) =
        let is = ap length (ap shown (here before line after m.0 e m.1) ∙ shown_of output) in omega (arith, is)
    said_by before line after e (inr m) = let old = w.said before line m.0 m.1 in omega (arith, old)

-- how near a run reads

reaches : (P : List (List ℕ) → Type 0) (base rest lines : List (List ℕ)) (read : List ℕ) → lines ≡ base ++ rest
    → length read ≤ size_of base + 16384
    → ((before : List (List ℕ)) (line : List ℕ) (after : List (List ℕ))
    → base ≡ before ++ line ∷ after → P (before ++ line ∷ []) → ⊥)
    → ReachesNear lines read P
reaches P base rest lines read e near none before line after split holds =
    elim (split_twice base rest before line after (sym e ∙ split)) [
      | inl m ↦ let more = ap size_of m.1 ∙ size_both base m.0 in omega (arith, more)
      | inr m ↦ absurd (none before line m.0 m.1 holds)
    ]

-- what was read is near to the line that decides, and to the first of which not all was written
pub record IsNear (limit : ℕ) (answer : Bool → List (List ℕ) → Answer) (lf held0 held : Option (List ℕ))
    (read : List ℕ) :
    Type 0 where
  pub deciding : IfSome lf (λ bytes.
      ReachesNear (lines_read limit bytes) read (λ lines. is_long (answer true lines).1 ≡ false))
  pub unwritten : IfSome lf (λ bytes. IfSome held0 (λ was. IfSome held (λ now.
      ReachesNear (lines_read limit bytes) read
      (λ lines. length now < length was + length (shown (answer true lines))))))

-- it is near to those of which so many bytes were written
pub is_near : {limit : ℕ} (answer : Bool → List (List ℕ) → Answer) (lf held0 held : Option (List ℕ))
    (base : List (List ℕ))
    (read gained : List ℕ) (n : ℕ) → LeadsOff limit lf base → IfSome lf (λ bytes. length read ≤ size_of base + 16384)
    → Within answer base n → Appends held0 held gained → n ≤ length gained → IsNear limit answer lf held0 held read
is_near {limit} answer lf held0 held base read gained n ahead near w grew enough = record {
  deciding = deciding lf ahead near;
  unwritten = unwritten lf ahead near held0 held grew;
}
  where
    deciding : (o : Option (List ℕ)) → LeadsOff limit o base → IfSome o (λ bytes. length read ≤ size_of base + 16384)
        → IfSome o (λ bytes. ReachesNear (lines_read limit bytes) read (λ lines. is_long (answer true lines).1 ≡ false))
    deciding None ahead near = tt
    deciding (Some bytes) ahead near =
        reaches (λ lines. is_long (answer true lines).1 ≡ false) base ahead.0 (lines_read limit bytes) read ahead.1 near
        (λ before line after e h. let other = w.undecided before line after e in cc)

    unwritten : (o : Option (List ℕ)) → LeadsOff limit o base → IfSome o (λ bytes. length read ≤ size_of base + 16384)
        → (a b : Option (List ℕ)) → Appends a b gained
        → IfSome o (λ bytes. IfSome a (λ was. IfSome b (λ now.
        ReachesNear (lines_read limit bytes) read
        (λ lines. length now < length was + length (shown (answer true lines))))))
    unwritten None ahead near a b grew = tt
    unwritten (Some bytes) ahead near None b grew = tt
    unwritten (Some bytes) ahead near (Some was) None grew = absurd grew
    unwritten (Some bytes) ahead near (Some was) (Some now) grew =
        reaches (λ lines. length now < length was + length (shown (answer true lines)))
        base ahead.0 (lines_read limit bytes) read ahead.1 near
        (λ before line after e h.
        let old = w.said before line after e in
        let len = ap length grew in
        absurd (omega (arith, len, length-append was gained)))
