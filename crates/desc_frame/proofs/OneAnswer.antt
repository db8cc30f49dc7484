-- Bytes have one answer at their front, and one frame.
use Rattle.std.proofs.Common.{◌≡◌, ℕ, ◌^◌, ◌/◌, ◌%◌, ◌<◌, ◌≤◌, inl, inr, List, [], ◌∷◌, ◌++◌, length, refl, sym, ap, ◌∙◌, suc, arith, length-append, append_assoc, All}
use Rattle.desc_frame.specs.declared.Got.TheVariants.{Bytes, End, Torn, BadFrame, ReadFault}
use Rattle.desc_frame.specs.Frames.{Frame, frame, IsFrame, IsShort, IsCutShort, header, spelled_tokens, spelling}
use Rattle.desc_frame.specs.Answers.{IsBadHeader, HasOneAnswer, HasOneFrame}
use Rattle.desc_frame.proofs.PartsAsOne.{length-spelled_tokens}

-- a header is that of its numbers alone
header-one : (n t m s : ℕ) (after behind : List ℕ) → n < 2 ^ 16 → t < 2 ^ 16 → m < 2 ^ 16 → s < 2 ^ 16 →
    header n t ++ after ≡ header m s ++ behind
    → (n ≡ m) × (t ≡ s) × (after ≡ behind)
header-one n t m s after behind fn ft fm fs is =
    let a : n % 256 ≡ m % 256 = cc in
    let b : n / 256 % 256 ≡ m / 256 % 256 = cc in
    let c : t % 256 ≡ s % 256 = cc in
    let d : t / 256 % 256 ≡ s / 256 % 256 = cc in
    (omega arith, omega arith, cc)

-- bytes that begin with a header within its limits
record Starts (n t : ℕ) (all rest : List ℕ) : Type 0 where
  n_fits : n < 2 ^ 16
  t_fits : t < 2 ^ 16
  is : all ≡ header n t ++ rest

same : (n t m s : ℕ) (all after behind : List ℕ) → Starts n t all after → Starts m s all behind →
    (n ≡ m) × (t ≡ s) × (after ≡ behind)
same n t m s all after behind p q =
    header-one n t m s after behind p.n_fits p.t_fits q.n_fits q.t_fits (sym p.is ∙ q.is)

frame_starts : (f : Frame) (all rest : List ℕ) → IsFrame f → all ≡ spelling f ++ rest →
    Starts (length f.bytes) (length f.tokens) all ((spelled_tokens f.tokens ++ f.bytes) ++ rest)
frame_starts f all rest limits is = record {
  n_fits = omega (arith, limits.limits.bytes);
  t_fits = omega (arith, limits.limits.tokens);
  is = is ∙ append_assoc (header (length f.bytes) (length f.tokens)) (spelled_tokens f.tokens ++ f.bytes) rest;
}

bad_starts : (n t : ℕ) (all bad rest : List ℕ) → IsBadHeader n t bad → all ≡ bad ++ rest → Starts n t all rest
bad_starts n t all bad rest is whole =
    record { n_fits = is.words.0; t_fits = is.words.1; is = whole ∙ ap (λ l. l ++ rest) is.bytes }

cut_starts : (all : List ℕ) (cut : IsCutShort all) → Starts cut.n cut.t all cut.rest
cut_starts all cut =
    record { n_fits = omega (arith, cut.limits.bytes); t_fits = omega (arith, cut.limits.tokens); is = cut.is }

starts_long : (n t : ℕ) (all rest : List ℕ) → Starts n t all rest → 4 ≤ length all
starts_long n t all rest starts = rw starts.is (omega arith)

-- a whole frame isn't short
frame_not_short : (f : Frame) (all rest : List ℕ) → IsFrame f → all ≡ spelling f ++ rest → IsShort all → ⊥
frame_not_short f all rest limits is (inl short) =
    omega (arith, starts_long _ _ all _ (frame_starts f all rest limits is))
frame_not_short f all rest limits is (inr cut) =
    let one = same _ _ _ _ all _ _ (frame_starts f all rest limits is) (cut_starts all cut) in
    let long = ap length one.2 in
    omega (
      arith,
      one.0,
      one.1,
      cut.short,
      long,
      length-append (spelled_tokens f.tokens ++ f.bytes) rest,
      length-append (spelled_tokens f.tokens) f.bytes,
      length-spelled_tokens f.tokens,
    )

-- nor is a bad header
bad_not_short : (n t : ℕ) (all bad rest : List ℕ) → IsBadHeader n t bad → all ≡ bad ++ rest → IsShort all → ⊥
bad_not_short n t all bad rest is whole (inl short) =
    omega (arith, starts_long n t all rest (bad_starts n t all bad rest is whole))
bad_not_short n t all bad rest is whole (inr cut) =
    let one = same _ _ _ _ all _ _ (bad_starts n t all bad rest is whole) (cut_starts all cut) in
    is.bad (rw (one.0, one.1) cut.limits)

-- nor a frame
frame_not_bad : (f : Frame) (n t : ℕ) (all bad rest after : List ℕ) → IsFrame f → all ≡ spelling f ++ after →
    IsBadHeader n t bad → all ≡ bad ++ rest → ⊥
frame_not_bad f n t all bad rest after limits spelled is whole =
    let one = same _ _ _ _ all _ _ (frame_starts f all after limits spelled) (bad_starts n t all bad rest is whole) in
    is.bad (rw (← one.0, ← one.1) limits.limits)

pub one_answer : HasOneAnswer
one_answer all (Bytes n t) (Bytes m s) (f, after, lf, nf, tf, isf) (g, behind, lg, ng, tg, isg) =
    let one = same _ _ _ _ all _ _ (frame_starts f all after lf isf) (frame_starts g all behind lg isg) in
    let first : n ≡ m = sym nf ∙ one.0 ∙ ng in
    let second : t ≡ s = sym tf ∙ one.1 ∙ tg in
    cc
one_answer all (Bytes n t) End (f, after, lf, nf, tf, isf) none =
    absurd (omega (arith, ap length none, starts_long _ _ all _ (frame_starts f all after lf isf)))
one_answer all (Bytes n t) (Torn m) (f, after, lf, nf, tf, isf) torn =
    absurd (frame_not_short f all after lf isf torn.2)
one_answer all (Bytes n t) (BadFrame m s) (f, after, lf, nf, tf, isf) (bad, rest, is, whole) =
    absurd (frame_not_bad f m s all bad rest after lf isf is whole)
one_answer all (Bytes n t) ReadFault begun never = absurd never
one_answer all End (Bytes n t) none (f, after, lf, nf, tf, isf) =
    absurd (omega (arith, ap length none, starts_long _ _ all _ (frame_starts f all after lf isf)))
one_answer all End End none nothing = refl
one_answer all End (Torn m) none torn = absurd (omega (arith, ap length none, torn.0, torn.1))
one_answer all End (BadFrame m s) none (bad, rest, is, whole) =
    absurd (omega (arith, ap length none, starts_long m s all rest (bad_starts m s all bad rest is whole)))
one_answer all End ReadFault none never = absurd never
one_answer all (Torn k) (Bytes n t) torn (f, after, lf, nf, tf, isf) =
    absurd (frame_not_short f all after lf isf torn.2)
one_answer all (Torn k) End torn none = absurd (omega (arith, ap length none, torn.0, torn.1))
one_answer all (Torn k) (Torn m) torn also = ap Torn (sym torn.1 ∙ also.1)
one_answer all (Torn k) (BadFrame m s) torn (bad, rest, is, whole) =
    absurd (bad_not_short m s all bad rest is whole torn.2)
one_answer all (Torn k) ReadFault torn never = absurd never
one_answer all (BadFrame m s) (Bytes n t) (bad, rest, is, whole) (f, after, lf, nf, tf, isf) =
    absurd (frame_not_bad f m s all bad rest after lf isf is whole)
one_answer all (BadFrame m s) End (bad, rest, is, whole) none =
    absurd (omega (arith, ap length none, starts_long m s all rest (bad_starts m s all bad rest is whole)))
one_answer all (BadFrame m s) (Torn k) (bad, rest, is, whole) torn =
    absurd (bad_not_short m s all bad rest is whole torn.2)
one_answer all (BadFrame n t) (BadFrame m s) (bad, rest, is, whole) (ill, after, also, all_is) =
    let one = same n t m s all rest after (bad_starts n t all bad rest is whole)
    (bad_starts m s all ill after also all_is) in
    let first = one.0 in
    let second = one.1 in
    cc
one_answer all (BadFrame m s) ReadFault begun never = absurd never
one_answer all ReadFault other never begun = absurd never

-- tokens are spelled by no others, where there are as many
tokens-one : (tokens others after behind : List ℕ) → length tokens ≡ length others →
    All (λ token. token < 2 ^ 32) tokens → All (λ token. token < 2 ^ 32) others
    → spelled_tokens tokens ++ after ≡ spelled_tokens others ++ behind → (tokens ≡ others) × (after ≡ behind)
tokens-one [] [] after behind long fits fit is = (refl, is)
tokens-one [] (y ∷ others) after behind long fits fit is = absurd (omega arith)
tokens-one (x ∷ tokens) [] after behind long fits fit is = absurd (omega arith)
tokens-one (x ∷ tokens) (y ∷ others) after behind long fits fit is =
    let fx : x < 2 ^ 32 = fits 0 0 (omega arith) in
    let fy : y < 2 ^ 32 = fit 0 0 (omega arith) in
    let a : x % 256 ≡ y % 256 = cc in
    let b : x / 256 % 256 ≡ y / 256 % 256 = cc in
    let c : x / 65536 % 256 ≡ y / 65536 % 256 = cc in
    let d : x / 16777216 % 256 ≡ y / 16777216 % 256 = cc in
    let first : x ≡ y = omega arith in
    let more : spelled_tokens tokens ++ after ≡ spelled_tokens others ++ behind = cc in
    let rest = tokens-one tokens others after behind (omega arith) (λ k e below. fits (suc k) e (omega arith))
    (λ k e below. fit (suc k) e (omega arith)) more in
    let second = rest.0 in
    (cc, rest.1)

-- lists of one length at the front of one list
front-one : (xs ys after behind : List ℕ) → length xs ≡ length ys → xs ++ after ≡ ys ++ behind →
    (xs ≡ ys) × (after ≡ behind)
front-one [] [] after behind long is = (refl, is)
front-one [] (y ∷ ys) after behind long is = absurd (omega arith)
front-one (x ∷ xs) [] after behind long is = absurd (omega arith)
front-one (x ∷ xs) (y ∷ ys) after behind long is =
    let first : x ≡ y = cc in
    let rest = front-one xs ys after behind (omega arith) cc in
    let second = rest.0 in
    (cc, rest.1)

pub one_frame : HasOneFrame
one_frame f g after behind lf lg is =
    let all = spelling f ++ after in
    let one = same _ _ _ _ all _ _ (frame_starts f all after lf refl) (frame_starts g all behind lg is) in
    let rest : spelled_tokens f.tokens ++ (f.bytes ++ after) ≡ spelled_tokens g.tokens ++ (g.bytes ++ behind) =
    sym (append_assoc (spelled_tokens f.tokens) f.bytes after) ∙ one.2
    ∙ append_assoc (spelled_tokens g.tokens) g.bytes behind in
    let tokens = tokens-one f.tokens g.tokens (f.bytes ++ after) (g.bytes ++ behind) one.1 lf.tokens lg.tokens rest in
    let bytes = front-one f.bytes g.bytes after behind one.0 tokens.1 in
    let first = tokens.0 in
    let second = bytes.0 in
    (ap (λ b. frame b f.tokens) second ∙ ap (λ t. frame g.bytes t) first, bytes.1)
