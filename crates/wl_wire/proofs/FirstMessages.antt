-- The messages that bytes begin with, by the first of them.
use Rattle.std.proofs.Common.{◌≡◌, ℕ, zero, suc, ◌+◌, ◌≤◌, Bool, true, false, leb, ◌&&◌, List, [], ◌∷◌, ◌++◌, length, take, drop, Option, Some, None, refl, sym, ap, ◌∙◌, arith, length-append, length-drop}
use Rattle.std.proofs.lemmas.List.{length-take-le, drop-drop}
use Rattle.std.proofs.lemmas.Bool.{and_parts, leb-true, le-leb, lt-leb}
use Rattle.wl_wire.specs.Messages.{size_of, is_good, is_whole, messages_within, messages, joined, behind, bad_size_at, bad_size, IsGoodSize, IsPartial, IsBad}
use Rattle.wl_wire.proofs.MessagesHoweverCut.{good_is, not_good}

-- a whole message has a header

pub record IsHeaded (bytes : List ℕ) : Type 0 where
  pub header : 8 ≤ length bytes
  pub size : 8 ≤ size_of bytes
  pub there : size_of bytes ≤ length bytes

pub headed : (bytes : List ℕ) → is_whole bytes ≡ true → IsHeaded bytes
headed bytes e =
    let (front, there) = and_parts (leb 8 (length bytes) && is_good (size_of bytes))
    (leb (size_of bytes) (length bytes)) e in
    let (header, good) = and_parts (leb 8 (length bytes)) (is_good (size_of bytes)) front in
    let (low, four) = and_parts (leb 8 (size_of bytes) && leb (size_of bytes) 4096) _ good in
    let (least, most) = and_parts (leb 8 (size_of bytes)) (leb (size_of bytes) 4096) low in
    record { header = leb-true _ _ header; size = leb-true _ _ least; there = leb-true _ _ there }

-- each fuel that reaches gives the same messages

within_none : (n : ℕ) (bytes : List ℕ) → is_whole bytes ≡ false → messages_within n bytes ≡ []
within_none zero bytes none = refl
within_none (suc n) bytes none = rw none refl

within_first : (n : ℕ) (bytes : List ℕ) → is_whole bytes ≡ true →
    messages_within (suc n) bytes ≡ take (size_of bytes) bytes ∷ messages_within n (drop (size_of bytes) bytes)
within_first n bytes whole = rw whole refl

empty_none : (bytes : List ℕ) → length bytes ≤ 0 → is_whole bytes ≡ false
empty_none [] l = refl
empty_none (x ∷ bytes) l = absurd (omega arith)

enough_by : (m n : ℕ) (bytes : List ℕ) (b : Bool) → is_whole bytes ≡ b → length bytes ≤ suc m → length bytes ≤ suc n →
    ((rest : List ℕ) → length rest ≤ m → length rest ≤ n → messages_within m rest ≡ messages_within n rest) →
    messages_within (suc m) bytes ≡ messages_within (suc n) bytes
enough_by m n bytes false e lm ln k = within_none (suc m) bytes e ∙ sym (within_none (suc n) bytes e)
enough_by m n bytes true e lm ln k =
    let h : IsHeaded bytes = headed bytes e in
    let size = h.size in
    let shorter : length (drop (size_of bytes) bytes) + size_of bytes ≡ length bytes =
    (let there = h.there in omega (arith, length-drop (size_of bytes) bytes)) in
    within_first m bytes e ∙ ap (λ (r : List (List ℕ)). take (size_of bytes) bytes ∷ r)
    (k (drop (size_of bytes) bytes) (omega arith) (omega arith))
    ∙ sym (within_first n bytes e)

enough : (m n : ℕ) (bytes : List ℕ) → length bytes ≤ m → length bytes ≤ n →
    messages_within m bytes ≡ messages_within n bytes
enough zero n bytes lm ln = sym (within_none n bytes (empty_none bytes lm))
enough (suc m) zero bytes lm ln = within_none (suc m) bytes (empty_none bytes ln)
enough (suc m) (suc n) bytes lm ln = enough_by m n bytes (is_whole bytes) refl lm ln (enough m n)

-- the first message and those of the rest, or none

pub messages_next : (bytes : List ℕ) → is_whole bytes ≡ true → messages bytes ≡ take (size_of bytes) bytes ∷ messages
    (drop (size_of bytes) bytes)
unfolding messages
messages_next bytes e =
    let rest : List ℕ = drop (size_of bytes) bytes in
    let shorter = length-drop (size_of bytes) bytes in
    enough (length bytes) (suc (length bytes)) bytes (omega arith) (omega arith) ∙ within_first (length bytes) bytes e
    ∙ ap (λ (r : List (List ℕ)). take (size_of bytes) bytes ∷ r)
    (enough (length bytes) (length rest) rest (omega arith) (omega arith))

pub messages_none : (bytes : List ℕ) → is_whole bytes ≡ false → messages bytes ≡ []
unfolding messages
messages_none bytes e = within_none (length bytes) bytes e

-- what stands behind them is what stands behind the rest's, or all bytes

pub behind_next : (bytes : List ℕ) → is_whole bytes ≡ true → behind bytes ≡ behind (drop (size_of bytes) bytes)
behind_next bytes e =
    let h : IsHeaded bytes = headed bytes e in
    let size : ℕ = size_of bytes in
    let first : List ℕ = take size bytes in
    let later : List ℕ = joined (messages (drop size bytes)) in
    let long : length (first ++ later) ≡ size + length later =
    length-append first later ∙ ap (λ n. n + length later) (length-take-le size bytes h.there) in
    ap (λ (ms : List (List ℕ)). drop (length (joined ms)) bytes) (messages_next bytes e) ∙ ap (λ n. drop n bytes) long
    ∙ sym (drop-drop (length later) size bytes)

pub behind_none : (bytes : List ℕ) → is_whole bytes ≡ false → behind bytes ≡ bytes
behind_none bytes e = ap (λ (ms : List (List ℕ)). drop (length (joined ms)) bytes) (messages_none bytes e)

bad_size_is : (bytes : List ℕ) → bad_size bytes ≡ bad_size_at (behind bytes)
unfolding bad_size
bad_size_is bytes = refl

pub bad_size_next : (bytes : List ℕ) → is_whole bytes ≡ true → bad_size bytes ≡ bad_size (drop (size_of bytes) bytes)
bad_size_next bytes e =
    bad_size_is bytes ∙ ap (λ (rest : List ℕ). bad_size_at rest) (behind_next bytes e)
    ∙ sym (bad_size_is (drop (size_of bytes) bytes))

pub bad_size_none : (bytes : List ℕ) → is_whole bytes ≡ false → bad_size bytes ≡ bad_size_at bytes
bad_size_none bytes e = bad_size_is bytes ∙ ap (λ (rest : List ℕ). bad_size_at rest) (behind_none bytes e)

-- which of the three the bytes begin with

pub whole_is : (bytes : List ℕ) → IsGoodSize (size_of bytes) → size_of bytes ≤ length bytes → is_whole bytes ≡ true
whole_is bytes good there =
    let least = good.0 in
    rw (
      le-leb 8 (length bytes) (omega arith),
      good_is (size_of bytes) good,
      le-leb (size_of bytes) (length bytes) there,
    ) refl

record NoFront (bytes : List ℕ) (bad : Option ℕ) : Type 0 where
  none : is_whole bytes ≡ false
  bad-is : bad_size_at bytes ≡ bad

part_by : (bytes : List ℕ) (b : Bool) → leb 8 (length bytes) ≡ b → IsPartial bytes → NoFront bytes None
part_by bytes true e part =
    let p = part (leb-true _ _ e) in
    let good = good_is (size_of bytes) p.0 in
    let short : leb (size_of bytes) (length bytes) ≡ false = lt-leb (size_of bytes) (length bytes) p.1 in
    record { none = rw (e, good, short) refl; bad-is = rw (e, good) refl }
part_by bytes false e part = record { none = rw e refl; bad-is = rw e refl }

pub part_none : (bytes : List ℕ) → IsPartial bytes → (is_whole bytes ≡ false) × (bad_size_at bytes ≡ None)
part_none bytes part = (let p = part_by bytes (leb 8 (length bytes)) refl part in (p.none, p.bad-is))

pub bad_none : (bytes : List ℕ) → IsBad bytes → (is_whole bytes ≡ false) × (bad_size_at bytes ≡ Some (size_of bytes))
bad_none bytes bad =
    let reach : leb 8 (length bytes) ≡ true = le-leb 8 (length bytes) bad.0 in
    let wrong : is_good (size_of bytes) ≡ false = not_good (size_of bytes) bad.1 in
    (rw (reach, wrong) refl, rw (reach, wrong) refl)

-- what is told of them

pub whole_tells : (bytes : List ℕ) (size : ℕ) → size ≡ size_of bytes → IsGoodSize size → size ≤ length bytes →
    (messages bytes ≡ take size bytes ∷ messages (drop size bytes)) × (bad_size bytes ≡ bad_size (drop size bytes))
whole_tells bytes size e good there =
    rw e (let whole = whole_is bytes (rw (sym e) good) (rw (sym e) there) in
    (messages_next bytes whole, bad_size_next bytes whole))

pub part_tells : (bytes : List ℕ) → IsPartial bytes → (messages bytes ≡ []) × (bad_size bytes ≡ None)
part_tells bytes part =
    let p = part_none bytes part in
    (messages_none bytes p.0, bad_size_none bytes p.0 ∙ p.1)

pub bad_tells : (bytes : List ℕ) → IsBad bytes → (messages bytes ≡ []) × (bad_size bytes ≡ Some (size_of bytes))
bad_tells bytes bad =
    let p = bad_none bytes bad in
    (messages_none bytes p.0, bad_size_none bytes p.0 ∙ p.1)
