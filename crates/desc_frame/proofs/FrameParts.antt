-- The parts of a frame, one behind another.
use Rattle.std.proofs.Common.{◌≡◌, ℕ, ◌+◌, ◌-◌, ◌*◌, ◌<◌, ◌≤◌, List, [], ◌∷◌, ◌++◌, length, take, drop, slice_index, ◌/◌, ◌%◌, suc, length-append, length-drop, Option, Result, Ok, Err, OnErr, append_assoc, refl, sym, ap, ◌∙◌, subst, arith}
use Rattle.std.proofs.lemmas.List.{take-append-le, length-take-le}
use Rattle.std.proofs.Math.Seq.{take-append-add}
use Rattle.std.proofs.KnownBytes.{Appends-trans, Consumes-trans}
use borrow.Rule.Slice.PartMut.{put_mid, post_of}
use Rattle.std.specs.Io.KnownBytes.{Appends}
use Rattle.byteorder.specs.Endian.{little_bytes, little_number, IsRead}
use Rattle.desc_frame.specs.Frames.{header, spelled_tokens, spelling, frame}
use Rattle.desc_frame.specs.Answers.{Gave}
use Rattle.desc_frame.specs.Fills.{AreBytes}

-- what was given first, and then
pub Gave-trans : (g0 g1 g2 l0 l1 l2 : Option (List ℕ)) (first second : List ℕ) → Gave g0 g1 l0 l1 first →
    Gave g1 g2 l1 l2 second → Gave g0 g2 l0 l2 (first ++ second)
Gave-trans g0 g1 g2 l0 l1 l2 first second p q = record {
  given = Appends-trans g0 g1 g2 first second p.given q.given;
  left = Consumes-trans l0 l1 l2 first second p.left q.left;
}

-- the front of a part into which more was read
pub take-filled : (a n k : ℕ) (xs ys : List ℕ) → a ≤ length xs → n ≤ length ys →
    take (a + n) (put_mid a k xs ys) ≡ take a xs ++ take n ys
take-filled a n k xs ys within fits =
    let len : length (take a xs) ≡ a = length-take-le a xs within in
    subst (λ m. take (m + n) (take a xs ++ (ys ++ post_of a k xs)) ≡ take a xs ++ take n ys) len
    (take-append-add (take a xs) (ys ++ post_of a k xs) n
    ∙ ap (λ l. take a xs ++ l) (take-append-le n ys (post_of a k xs) fits))

-- and its length
pub length-filled : (a k : ℕ) (xs ys : List ℕ) → a ≤ length xs → length ys ≡ length xs - a → k ≡ length xs - a →
    length (put_mid a k xs ys) ≡ length xs
length-filled a k xs ys within same is =
    omega (
      arith,
      length-append (take a xs) (ys ++ post_of a k xs),
      length-append ys (post_of a k xs),
      length-take-le a xs within,
      length-drop k (drop a xs),
      length-drop a xs,
    )

two_bytes : (a b : ℕ) → a < 256 → b < 256 → little_bytes 2 (a + 256 * (b + 256 * 0)) ≡ a ∷ b ∷ []
two_bytes a b fa fb =
    let low : (a + 256 * (b + 256 * 0)) % 256 ≡ a = omega arith in
    let high : (a + 256 * (b + 256 * 0)) / 256 % 256 ≡ b = omega arith in
    cc

four_bytes : (a b c d : ℕ) → a < 256 → b < 256 → c < 256 → d < 256 →
    little_bytes 4 (a + 256 * (b + 256 * (c + 256 * (d + 256 * 0)))) ≡ a ∷ b ∷ c ∷ d ∷ []
four_bytes a b c d fa fb fc fd =
    let x : ℕ = a + 256 * (b + 256 * (c + 256 * (d + 256 * 0))) in
    let first : x % 256 ≡ a = omega arith in
    let second : x / 256 % 256 ≡ b = omega arith in
    let third : x / 65536 % 256 ≡ c = omega arith in
    let fourth : x / 16777216 % 256 ≡ d = omega arith in
    cc

-- the bytes of a header, read as its two numbers, are spelled by them
pub header-read : (xs : List ℕ) → length xs ≡ 4 → AreBytes xs →
    xs ≡ header (little_number 2 xs) (little_number 2 (take 2 (drop 2 xs)))
header-read [] is fits = absurd (omega arith)
header-read (a ∷ []) is fits = absurd (omega arith)
header-read (a ∷ b ∷ []) is fits = absurd (omega arith)
header-read (a ∷ b ∷ c ∷ []) is fits = absurd (omega arith)
header-read (a ∷ b ∷ c ∷ d ∷ []) is fits =
    let n = two_bytes a b (fits 0) (fits 1) in
    let t = two_bytes c d (fits 2) (fits 3) in
    sym (ap (λ l. l ++ little_bytes 2 (little_number 2 (c ∷ d ∷ []))) n ∙ ap (λ l. a ∷ b ∷ l) t)
header-read (a ∷ b ∷ c ∷ d ∷ e ∷ rest) is fits = absurd (omega arith)

-- bytes that are read as tokens are spelled by them
pub spelled_tokens-read : (tokens bytes : List ℕ) → length bytes ≡ 4 * length tokens → AreBytes bytes →
    IsRead little_number 4 bytes tokens → bytes ≡ spelled_tokens tokens
spelled_tokens-read [] [] is fits read = refl
spelled_tokens-read [] (a ∷ bytes) is fits read = absurd (omega arith)
spelled_tokens-read (token ∷ tokens) [] is fits read = absurd (omega arith)
spelled_tokens-read (token ∷ tokens) (a ∷ []) is fits read = absurd (omega arith)
spelled_tokens-read (token ∷ tokens) (a ∷ b ∷ []) is fits read = absurd (omega arith)
spelled_tokens-read (token ∷ tokens) (a ∷ b ∷ c ∷ []) is fits read = absurd (omega arith)
spelled_tokens-read (token ∷ tokens) (a ∷ b ∷ c ∷ d ∷ bytes) is fits read =
    let first = four_bytes a b c d (fits 0) (fits 1) (fits 2) (fits 3) in
    let token_is : token ≡ a + 256 * (b + 256 * (c + 256 * (d + 256 * 0))) = read 0 (omega arith) in
    let rest = spelled_tokens-read tokens bytes (omega arith) (λ i. fits (suc (suc (suc (suc i))))) (λ k below.
    let four : 4 * suc k ≡ suc (suc (suc (suc (4 * k)))) = omega arith in
    subst (λ m. slice_index tokens k ≡ little_number 4 (drop m (a ∷ b ∷ c ∷ d ∷ bytes))) four
    (read (suc k) (omega arith))) in
    sym (ap (λ l. l ++ spelled_tokens tokens) (ap (little_bytes 4) token_is ∙ first)
    ∙ ap (λ l. a ∷ b ∷ c ∷ d ∷ l) (sym rest))

pub OnErr-any : {T E P : Type 0} (r : Result T E) → P → OnErr r P
OnErr-any (Ok v) p = tt
OnErr-any (Err e) p = p

-- a sink gained a proper prefix of these bytes
abbrev pub GainsPrefix : Option (List ℕ) → Option (List ℕ) → List ℕ → Type 0
GainsPrefix before after bytes = (n : ℕ) × (n < length bytes) × Appends before after (take n bytes)

-- a proper prefix of what stands before a frame's bytes is one of the frame
pub GainsPrefix-head : (a b : Option (List ℕ)) (head bytes tokens : List ℕ) →
    head ≡ header (length bytes) (length tokens) ++ spelled_tokens tokens
    → GainsPrefix a b head → GainsPrefix a b (spelling (frame bytes tokens))
GainsPrefix-head a b head bytes tokens is (n, below, gained) =
    let whole : spelling (frame bytes tokens) ≡ head ++ bytes =
    sym (append_assoc (header (length bytes) (length tokens)) (spelled_tokens tokens) bytes)
    ∙ ap (λ l. l ++ bytes) (sym is) in (
      n,
      subst (λ l. n < length l) (sym whole) (omega (arith, length-append head bytes)),
      subst (λ l. Appends a b (take n l)) (sym whole)
          (subst (Appends a b) (sym (take-append-le n head bytes (omega arith))) gained),
    )

-- all that stands before a frame's bytes, and then a proper prefix of them, is one of the frame
pub GainsPrefix-bytes : (a b c : Option (List ℕ)) (head bytes tokens : List ℕ) →
    head ≡ header (length bytes) (length tokens) ++ spelled_tokens tokens
    → Appends a b head → GainsPrefix b c bytes → GainsPrefix a c (spelling (frame bytes tokens))
GainsPrefix-bytes a b c head bytes tokens is first (n, below, gained) =
    let whole : spelling (frame bytes tokens) ≡ head ++ bytes =
    sym (append_assoc (header (length bytes) (length tokens)) (spelled_tokens tokens) bytes)
    ∙ ap (λ l. l ++ bytes) (sym is) in (
      length head + n,
      subst (λ l. length head + n < length l) (sym whole) (omega (arith, length-append head bytes)),
      subst (λ l. Appends a c (take (length head + n) l)) (sym whole)
          (subst (Appends a c) (sym (take-append-add head bytes n))
          (Appends-trans a b c head (take n bytes) first gained)),
    )
