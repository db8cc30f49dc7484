-- Cells under appending, taking and dropping.
use Rattle.std.proofs.Common.{◌≡◌, ℕ, ◌+◌, ◌-◌, ◌*◌, ◌<◌, ◌≤◌, Bool, true, false, nat_lt, ◌==◌, List, [], ◌∷◌, ◌++◌, length, map, take, drop, None, refl, sym, ap, ◌∙◌, subst, suc, add-one, arith}
use Prim.Native.Nat.{zero}
use Rattle.std.proofs.lemmas.Bool.Decides.{nat_tests}
use Rattle.std.specs.List.{cons_option}
use Rattle.out_store.specs.Queue.{Cell, token_at, cells_from, cells_of, bytes_of, tokens_of}
use Rattle.out_store.specs.Spacing.{IsSpaced}
use Rattle.out_store.specs.Ring.{begun_count}

-- tokens with their offsets moved up
abbrev pub raise : ℕ → List (ℕ × ℕ) → List (ℕ × ℕ)
raise n tokens = map (λ (entry : ℕ × ℕ). (entry.0 + n, entry.1)) tokens

pub length-cells_from : (at : ℕ) (bytes : List ℕ) (tokens : List (ℕ × ℕ)) →
    length (cells_from at bytes tokens) ≡ length bytes
length-cells_from at [] tokens = refl
length-cells_from at (byte ∷ rest) tokens = ap suc (length-cells_from (at + 1) rest tokens)

pub bytes_of-take : (n at : ℕ) (bytes : List ℕ) (tokens : List (ℕ × ℕ)) →
    bytes_of (take n (cells_from at bytes tokens)) ≡ take n bytes
bytes_of-take zero at bytes tokens = refl
bytes_of-take (suc n) at [] tokens = refl
bytes_of-take (suc n) at (byte ∷ rest) tokens = ap (λ l. byte ∷ l) (bytes_of-take n (at + 1) rest tokens)

pub drop-cells_from : (n at : ℕ) (bytes : List ℕ) (tokens : List (ℕ × ℕ)) →
    drop n (cells_from at bytes tokens) ≡ cells_from (at + n) (drop n bytes) tokens
drop-cells_from zero at bytes tokens = ap (λ k. cells_from k bytes tokens) {x = at} {y = at + 0} (omega arith)
drop-cells_from (suc n) at [] tokens = refl
drop-cells_from (suc n) at (byte ∷ rest) tokens =
    drop-cells_from n (at + 1) rest tokens ∙ ap (λ k. cells_from k (drop n rest) tokens) (omega arith)

pub cells_from-append : (at : ℕ) (a b : List ℕ) (tokens : List (ℕ × ℕ)) →
    cells_from at (a ++ b) tokens ≡ cells_from at a tokens ++ cells_from (at + length a) b tokens
cells_from-append at [] b tokens = ap (λ k. cells_from k b tokens) {x = at} {y = at + 0} (omega arith)
cells_from-append at (byte ∷ a) b tokens =
    ap (λ l. (byte, token_at at tokens) ∷ l)
    (cells_from-append (at + 1) a b tokens
    ∙ ap (λ k. cells_from (at + 1) a tokens ++ cells_from k b tokens) (omega arith))

-- a token below the offset isn't found at it
token_at-below : (at : ℕ) (entry : ℕ × ℕ) (rest : List (ℕ × ℕ)) → entry.0 < at →
    token_at at (entry ∷ rest) ≡ token_at at rest
token_at-below at entry rest below = grind (arith, nat_tests)

pub cells_from-below : (at : ℕ) (bytes : List ℕ) (entry : ℕ × ℕ) (rest : List (ℕ × ℕ)) → entry.0 < at →
    cells_from at bytes (entry ∷ rest) ≡ cells_from at bytes rest
cells_from-below at [] entry rest below = refl
cells_from-below at (byte ∷ bytes) entry rest below =
    let here = token_at-below at entry rest below in
    let more = cells_from-below (at + 1) bytes entry rest (omega arith) in
    cc

-- tokens that begin from a later offset on aren't found before it
token_at-before : (at from end : ℕ) (tokens : List (ℕ × ℕ)) → IsSpaced from tokens end → at < from →
    token_at at tokens ≡ None
token_at-before at from end [] spaced before = refl
token_at-before at from end (entry ∷ rest) spaced before =
    let more = token_at-before at (entry.0 + 16) end rest spaced.1 (omega (arith, spaced.0)) in
    grind (arith, nat_tests)

-- what is spaced from a place on is so from an earlier place on
pub IsSpaced-earlier : (from earlier end : ℕ) (tokens : List (ℕ × ℕ)) → IsSpaced from tokens end → earlier ≤ from →
    IsSpaced earlier tokens end
IsSpaced-earlier from earlier end [] spaced below = omega (arith, spaced)
IsSpaced-earlier from earlier end (entry ∷ rest) spaced below = (omega (arith, spaced.0), spaced.1)

-- sixteen bytes for each token fit before the end
pub IsSpaced-room : (from end : ℕ) (tokens : List (ℕ × ℕ)) → IsSpaced from tokens end → from + 16 * length tokens ≤ end
IsSpaced-room from end [] spaced = omega (arith, spaced)
IsSpaced-room from end (entry ∷ rest) spaced = omega (arith, spaced.0, IsSpaced-room (entry.0 + 16) end rest spaced.1)

-- few tokens begin within n bytes
pub begun_count-room : (n from end : ℕ) (tokens : List (ℕ × ℕ)) → IsSpaced from tokens end →
    16 * begun_count n tokens ≤ (n + 15) - from
begun_count-room n from end [] spaced = omega arith
begun_count-room n from end (entry ∷ rest) spaced =
    let more = begun_count-room n (entry.0 + 16) end rest spaced.1 in
    let here = spaced.0 in
    grind (arith, nat_tests)

-- without the tokens that begin before n, the rest are spaced from n on
pub IsSpaced-begun : (n from end : ℕ) (tokens : List (ℕ × ℕ)) → IsSpaced from tokens end → n ≤ end →
    IsSpaced n (drop (begun_count n tokens) tokens) end
IsSpaced-begun n from end [] spaced within = within
IsSpaced-begun n from end (entry ∷ rest) spaced within =
    split (nat_lt entry.0 n) refl (IsSpaced-begun n (entry.0 + 16) end rest spaced.1 within)
  where
    split : (b : Bool) → nat_lt entry.0 n ≡ b → IsSpaced n (drop (begun_count n rest) rest) end →
        IsSpaced n (drop (begun_count n (entry ∷ rest)) (entry ∷ rest)) end
    split true is more = rw is (rw add-one more)
    split false is more = rw is (grind (arith, nat_tests), spaced.1)

pub IsSpaced-raise : (n from end : ℕ) (tokens : List (ℕ × ℕ)) → IsSpaced from tokens end →
    IsSpaced (from + n) (raise n tokens) (end + n)
IsSpaced-raise n from end [] spaced = omega (arith, spaced)
IsSpaced-raise n from end (entry ∷ rest) spaced = (
  omega (arith, spaced.0),
  subst (λ k. IsSpaced k (raise n rest) (end + n)) {x = entry.0 + 16 + n} {y = entry.0 + n + 16} (omega arith)
      (IsSpaced-raise n (entry.0 + 16) end rest spaced.1),
)

pub IsSpaced-lower : (n from end : ℕ) (tokens : List (ℕ × ℕ)) → IsSpaced (from + n) (raise n tokens) (end + n) →
    IsSpaced from tokens end
IsSpaced-lower n from end [] spaced = omega (arith, spaced)
IsSpaced-lower n from end (entry ∷ rest) spaced =
    let more = subst (λ k. IsSpaced k (raise n rest) (end + n)) {x = entry.0 + n + 16} {y = entry.0 + 16 + n}
    (omega arith) spaced.1 in
    (omega (arith, spaced.0), IsSpaced-lower n (entry.0 + 16) end rest more)

-- the tokens of a second group behind those of a first
pub IsSpaced-append : (from m n : ℕ) (first second : List (ℕ × ℕ)) → IsSpaced from first m → IsSpaced 0 second n →
    IsSpaced from (first ++ raise m second) (m + n)
IsSpaced-append from m n [] second spaced more =
    let raised =
    subst (λ k. IsSpaced (0 + m) (raise m second) k) {x = n + m} {y = m + n} (omega arith)
    (IsSpaced-raise m 0 n second more) in
    IsSpaced-earlier (0 + m) from (m + n) (raise m second) raised (omega (arith, spaced))
IsSpaced-append from m n (entry ∷ rest) second spaced more =
    (spaced.0, IsSpaced-append (entry.0 + 16) m n rest second spaced.1 more)

-- offsets and tokens moved up together
token_at-raise : (at n : ℕ) (tokens : List (ℕ × ℕ)) → token_at (at + n) (raise n tokens) ≡ token_at at tokens
token_at-raise at n [] = refl
token_at-raise at n (entry ∷ rest) =
    let more = token_at-raise at n rest in
    grind (arith, nat_tests)

pub cells_from-raise : (at n : ℕ) (bytes : List ℕ) (tokens : List (ℕ × ℕ)) →
    cells_from (at + n) bytes (raise n tokens) ≡ cells_from at bytes tokens
cells_from-raise at n [] tokens = refl
cells_from-raise at n (byte ∷ bytes) tokens =
    let here = token_at-raise at n tokens in
    let more = ap (λ k. cells_from k bytes (raise n tokens)) {x = at + n + 1} {y = at + 1 + n} (omega arith)
    ∙ cells_from-raise (at + 1) n bytes tokens in
    cc

-- the tokens that begin before an offset aren't found from it on
pub cells_from-begun : (at : ℕ) (bytes : List ℕ) (tokens : List (ℕ × ℕ)) →
    cells_from at bytes tokens ≡ cells_from at bytes (drop (begun_count at tokens) tokens)
cells_from-begun at bytes [] = refl
cells_from-begun at bytes (entry ∷ rest) = split (nat_lt entry.0 at) refl (cells_from-begun at bytes rest)
  where
    split : (b : Bool) → nat_lt entry.0 at ≡ b →
        cells_from at bytes rest ≡ cells_from at bytes (drop (begun_count at rest) rest) →
        cells_from at bytes (entry ∷ rest) ≡ cells_from at bytes (drop (begun_count at (entry ∷ rest)) (entry ∷ rest))
    split true is more = rw is (rw add-one (cells_from-below at bytes entry rest (grind (arith, nat_tests)) ∙ more))
    split false is more = rw is refl

-- no token begins before the first offset
begun_count-before : (n from end : ℕ) (tokens : List (ℕ × ℕ)) → IsSpaced from tokens end → n ≤ from →
    begun_count n tokens ≡ 0
begun_count-before n from end [] spaced before = refl
begun_count-before n from end (entry ∷ rest) spaced before =
    let here = spaced.0 in
    grind (arith, nat_tests)

tokens_of-none : (n at : ℕ) (bytes : List ℕ) → tokens_of (take n (cells_from at bytes [])) ≡ []
tokens_of-none zero at bytes = refl
tokens_of-none (suc n) at [] = refl
tokens_of-none (suc n) at (byte ∷ bytes) = tokens_of-none n (at + 1) bytes

-- the tokens of the first n cells are those that begin before n
pub tokens_of-take : (n at end : ℕ) (bytes : List ℕ) (tokens : List (ℕ × ℕ)) → IsSpaced at tokens end →
    end ≤ at + length bytes
    → tokens_of (take n (cells_from at bytes tokens))
    ≡ map (λ entry. entry.1) (take (begun_count (at + n) tokens) tokens)
tokens_of-take n at end bytes [] spaced fits = tokens_of-none n at bytes
tokens_of-take zero at end bytes (entry ∷ rest) spaced fits =
    rw (begun_count-before (at + 0) at end (entry ∷ rest) spaced (omega arith))
tokens_of-take (suc n) at end [] (entry ∷ rest) spaced fits =
    absurd (omega (arith, spaced.0, IsSpaced-room (entry.0 + 16) end rest spaced.1))
tokens_of-take (suc n) at end (byte ∷ bytes) (entry ∷ rest) spaced fits =
    split (entry.0 == at) refl
    (λ later. tokens_of-take n (at + 1) end bytes (entry ∷ rest) (later, spaced.1) (omega (arith, fits)))
    (tokens_of-take n (at + 1) end bytes rest
    (IsSpaced-earlier (entry.0 + 16) (at + 1) end rest spaced.1 (omega (arith, spaced.0))) (omega (arith, fits)))
  where
    further : begun_count (at + suc n) (entry ∷ rest) ≡ begun_count (at + 1 + n) (entry ∷ rest)
    further = ap (λ k. begun_count k (entry ∷ rest)) {x = at + suc n} {y = at + 1 + n} (omega arith)

    split : (b : Bool) → (entry.0 == at) ≡ b
        → (at + 1 ≤ entry.0 →
        tokens_of (take n (cells_from (at + 1) bytes (entry ∷ rest)))
        ≡ map (λ entry. entry.1) (take (begun_count (at + 1 + n) (entry ∷ rest)) (entry ∷ rest)))
        → tokens_of (take n (cells_from (at + 1) bytes rest))
        ≡ map (λ entry. entry.1) (take (begun_count (at + 1 + n) rest) rest)
        → tokens_of (take (suc n) (cells_from at (byte ∷ bytes) (entry ∷ rest)))
        ≡ map (λ entry. entry.1) (take (begun_count (at + suc n) (entry ∷ rest)) (entry ∷ rest))
    split true is later more =
        let same : entry.0 ≡ at = grind (arith, nat_tests) in
        let begun : nat_lt entry.0 (at + suc n) ≡ true = grind (arith, nat_tests) in
        let behind =
        ap (λ (l : List Cell). tokens_of (take n l)) (cells_from-below (at + 1) bytes entry rest (omega arith)) in
        let counted =
        ap (λ k. map (λ (e : ℕ × ℕ). e.1) (take (begun_count k rest) rest)) {x = at + 1 + n} {y = at + suc n}
        (omega arith) in
        rw (is, begun, add-one (begun_count (at + suc n) rest)) (ap (λ l. entry.1 ∷ l) (behind ∙ more ∙ counted))
    split false is later more =
        let beyond : at + 1 ≤ entry.0 = let from = spaced.0 in grind (arith, nat_tests) in
        let none = token_at-before at (at + 1) end (entry ∷ rest) (beyond, spaced.1) (omega arith) in
        ap (λ o. cons_option o (tokens_of (take n (cells_from (at + 1) bytes (entry ∷ rest))))) none
        ∙ later beyond ∙ ap (λ k. map (λ (e : ℕ × ℕ). e.1) (take k (entry ∷ rest))) (sym further)

-- tokens that are listed from an offset on aren't found before it, so a first part has its own alone
token_at-append : (at m : ℕ) (first second : List (ℕ × ℕ)) → at < m →
    token_at at (first ++ raise m second) ≡ token_at at first
token_at-append at m [] [] below = refl
token_at-append at m [] (entry ∷ rest) below =
    let more = token_at-append at m [] rest below in
    grind (arith, nat_tests)
token_at-append at m (entry ∷ rest) second below =
    let more = token_at-append at m rest second below in
    grind (arith, nat_tests)

cells_from-first : (at m : ℕ) (bytes : List ℕ) (first second : List (ℕ × ℕ)) → at + length bytes ≤ m →
    cells_from at bytes (first ++ raise m second) ≡ cells_from at bytes first
cells_from-first at m [] first second fits = refl
cells_from-first at m (byte ∷ bytes) first second fits =
    let here = token_at-append at m first second (omega (arith, fits)) in
    let more = cells_from-first (at + 1) m bytes first second (omega (arith, fits)) in
    cc

-- the tokens of a first part aren't found behind it
cells_from-second : (from m : ℕ) (bytes : List ℕ) (first second : List (ℕ × ℕ)) → IsSpaced from first m →
    cells_from m bytes (first ++ second) ≡ cells_from m bytes second
cells_from-second from m bytes [] second spaced = refl
cells_from-second from m bytes (entry ∷ rest) second spaced =
    cells_from-below m bytes entry (rest ++ second) (omega (arith, IsSpaced-room (entry.0 + 16) m rest spaced.1))
    ∙ cells_from-second (entry.0 + 16) m bytes rest second spaced.1

-- cells of a first part, and of a second whose tokens are moved up behind it
pub cells_of-append : (a b : List ℕ) (first second : List (ℕ × ℕ)) → IsSpaced 0 first (length a)
    → cells_of (a ++ b) (first ++ raise (length a) second) ≡ cells_of a first ++ cells_of b second
cells_of-append a b first second spaced =
    let joined = cells_from-append 0 a b (first ++ raise (length a) second) in
    let front = cells_from-first 0 (length a) a first second (omega arith) in
    let back = cells_from-second 0 (length a) b first (raise (length a) second) spaced in
    let raised = cells_from-raise 0 (length a) b second in
    let same : 0 + length a ≡ length a = omega arith in
    cc
