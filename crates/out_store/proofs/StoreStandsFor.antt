-- What a store's fields stand for, as groups are put and pieces are taken.
use Rattle.std.proofs.Common.{◌≡◌, ℕ, ◌+◌, ◌-◌, ◌*◌, ◌%◌, ◌^◌, ◌<◌, ◌≤◌, Bool, ◌==◌, ◌↔◌, IsTrue, List, [], ◌∷◌, ◌++◌, length, map, take, drop, refl, sym, ap, ◌∙◌, subst, suc, arith, length-append}
use Rattle.std.proofs.lemmas.List.{length-take-le, length-map}
use Prim.Native.Nat.{zero}
use Rattle.std.proofs.lemmas.Bool.Decides.{nat_tests}
use Rattle.out_store.specs.declared.begins.Begin.{Begin}
use Rattle.out_store.specs.Queue.{Cell, cells_from, cells_of, tokens_of}
use Rattle.out_store.specs.Ring.{offsets, placed, begun_count}
use Rattle.out_store.specs.Spacing.{IsSpaced}
use Rattle.out_store.proofs.CellsMove.{raise, IsSpaced-room, IsSpaced-append, IsSpaced-begun, IsSpaced-lower, cells_of-append, cells_from-begun, cells_from-raise, drop-cells_from, tokens_of-take}
use Rattle.out_store.proofs.PlacesWrap.{offsets-append, offsets-placed, offsets-moves}

pub length-offsets : (front : ℕ) (begins : List Begin) → length (offsets front begins) ≡ length begins
length-offsets front [] = refl
length-offsets front (begin ∷ rest) = ap suc (length-offsets front rest)

pub offsets-drop : (front n : ℕ) (begins : List Begin) → offsets front (drop n begins) ≡ drop n (offsets front begins)
offsets-drop front zero begins = refl
offsets-drop front (suc n) [] = refl
offsets-drop front (suc n) (begin ∷ rest) = offsets-drop front n rest

tokens-offsets : (front n : ℕ) (begins : List Begin) →
    map (λ (b : Begin). b.token) (take n begins) ≡ map (λ (e : ℕ × ℕ). e.1) (take n (offsets front begins))
tokens-offsets front zero begins = refl
tokens-offsets front (suc n) [] = refl
tokens-offsets front (suc n) (begin ∷ rest) = ap (λ l. begin.token ∷ l) (tokens-offsets front n rest)

-- there is room for the tokens of every group that fits
pub tokens-fit : (front stored size capacity room : ℕ) (begins : List Begin) (tokens : List (ℕ × ℕ))
    → IsSpaced 0 (offsets front begins) stored → IsSpaced 0 tokens size → stored + size ≤ capacity →
    capacity < 16 * (room + 1) → length begins + length tokens ≤ room
tokens-fit front stored size capacity room begins tokens kept more fits wide =
    omega (
      arith,
      IsSpaced-room 0 stored (offsets front begins) kept,
      IsSpaced-room 0 size tokens more,
      length-offsets front begins,
    )

-- the offsets of the tokens that were kept, and of those that are added behind them
pub offsets-added : (front stored size : ℕ) (begins : List Begin) (tokens : List (ℕ × ℕ)) → front < 2 ^ 64 →
    stored + size < 2 ^ 64 → IsSpaced 0 tokens size
    → offsets front (begins ++ placed ((front + stored) % 2 ^ 64) tokens) ≡ offsets front begins ++ raise stored tokens
offsets-added front stored size begins tokens f fits more =
    offsets-append front begins (placed ((front + stored) % 2 ^ 64) tokens)
    ∙ ap (λ l. offsets front begins ++ l) (offsets-placed front stored 0 size tokens f fits more)

-- the offsets of the tokens that wait behind the first n bytes, from the new front
pub offsets-taken : (front n stored : ℕ) (begins : List Begin) → front < 2 ^ 64 →
    IsSpaced 0 (offsets front begins) stored → n ≤ stored
    → drop (begun_count n (offsets front begins)) (offsets front begins)
    ≡ raise n (offsets ((front + n) % 2 ^ 64) (drop (begun_count n (offsets front begins)) begins))
offsets-taken front n stored begins f kept within =
    let k = begun_count n (offsets front begins) in
    let same = offsets-drop front k begins in
    let rest = IsSpaced-begun n 0 stored (offsets front begins) kept within in
    sym same ∙ offsets-moves front n n stored (drop k begins) f (subst (λ l. IsSpaced n l stored) (sym same) rest)
    (omega arith)

-- and they are spaced
pub IsSpaced-taken : (front n stored : ℕ) (begins : List Begin) → front < 2 ^ 64 →
    IsSpaced 0 (offsets front begins) stored → n ≤ stored
    → IsSpaced 0 (offsets ((front + n) % 2 ^ 64) (drop (begun_count n (offsets front begins)) begins)) (stored - n)
IsSpaced-taken front n stored begins f kept within =
    let rest = IsSpaced-begun n 0 stored (offsets front begins) kept within in
    let left = offsets ((front + n) % 2 ^ 64) (drop (begun_count n (offsets front begins)) begins) in
    let moved : IsSpaced n (raise n left) stored =
    subst (λ l. IsSpaced n l stored) (offsets-taken front n stored begins f kept within) rest in
    let from = subst (λ k. IsSpaced k (raise n left) stored) {x = n} {y = 0 + n} (omega arith) moved in
    let whole = subst (λ k. IsSpaced (0 + n) (raise n left) k) {x = stored} {y = (stored - n) + n} (omega arith) from in
    IsSpaced-lower n 0 (stored - n) left whole

-- the cells behind the first n
pub cells_of-taken : (front n : ℕ) (bytes : List ℕ) (begins : List Begin) → front < 2 ^ 64 →
    IsSpaced 0 (offsets front begins) (length bytes) → n ≤ length bytes
    → cells_of (drop n bytes) (offsets ((front + n) % 2 ^ 64) (drop (begun_count n (offsets front begins)) begins))
    ≡ drop n (cells_of bytes (offsets front begins))
cells_of-taken front n bytes begins f kept within =
    let left = offsets ((front + n) % 2 ^ 64) (drop (begun_count n (offsets front begins)) begins) in
    let dropped = drop-cells_from n 0 bytes (offsets front begins) in
    let begun = cells_from-begun n (drop n bytes) (offsets front begins) in
    let moved = ap (λ l. cells_from n (drop n bytes) l) (offsets-taken front n (length bytes) begins f kept within) in
    let lowered = cells_from-raise 0 n (drop n bytes) left in
    let same : 0 + n ≡ n = omega arith in
    cc

-- the tokens of the first n cells are those of the first tokens of the ring
pub tokens_of-taken : (front n : ℕ) (bytes : List ℕ) (begins : List Begin) →
    IsSpaced 0 (offsets front begins) (length bytes)
    → map (λ (b : Begin). b.token) (take (begun_count n (offsets front begins)) begins)
    ≡ tokens_of (take n (cells_of bytes (offsets front begins)))
tokens_of-taken front n bytes begins kept =
    let taken = tokens_of-take n 0 (length bytes) bytes (offsets front begins) kept (omega arith) in
    let same : 0 + n ≡ n = omega arith in
    let ring = tokens-offsets front (begun_count n (offsets front begins)) begins in
    cc

-- a store is empty where its bytes are
pub is_empty-cells : (bytes : List ℕ) (tokens : List (ℕ × ℕ)) (cells : List Cell) (r : Bool) →
    cells_of bytes tokens ≡ cells → r ≡ (length bytes == 0)
    → IsTrue r ↔ (cells ≡ [])
is_empty-cells [] tokens cells r is empty = ((λ _. sym is), (λ _. empty))
is_empty-cells (byte ∷ rest) tokens cells r is empty = ((λ t. absurd (grind (arith, nat_tests))), (λ none. cc))

-- the tokens' offsets after a group was put are spaced among all the bytes
pub IsSpaced-put : (front stored : ℕ) (bytes group : List ℕ) (begins : List Begin) (tokens : List (ℕ × ℕ)) →
    front < 2 ^ 64 → stored ≡ length bytes → length bytes + length group < 2 ^ 64
    → IsSpaced 0 (offsets front begins) (length bytes) → IsSpaced 0 tokens (length group)
    → IsSpaced 0 (offsets front (begins ++ placed ((front + stored) % 2 ^ 64) tokens)) (length (bytes ++ group))
IsSpaced-put front stored bytes group begins tokens f is fits kept more =
    rw (is, offsets-added front (length bytes) (length group) begins tokens f fits more, length-append bytes group)
    (IsSpaced-append 0 (length bytes) (length group) (offsets front begins) tokens kept more)

-- the cells after a group was put
pub cells_of-put : (front stored : ℕ) (bytes group : List ℕ) (begins : List Begin) (tokens : List (ℕ × ℕ)) →
    front < 2 ^ 64 → stored ≡ length bytes → length bytes + length group < 2 ^ 64
    → IsSpaced 0 (offsets front begins) (length bytes) → IsSpaced 0 tokens (length group)
    → cells_of (bytes ++ group) (offsets front (begins ++ placed ((front + stored) % 2 ^ 64) tokens))
    ≡ cells_of bytes (offsets front begins) ++ cells_of group tokens
cells_of-put front stored bytes group begins tokens f is fits kept more =
    rw (is, offsets-added front (length bytes) (length group) begins tokens f fits more)
    (cells_of-append bytes group (offsets front begins) tokens kept)

begun_count-le : (n : ℕ) (tokens : List (ℕ × ℕ)) → begun_count n tokens ≤ length tokens
begun_count-le n [] = omega arith
begun_count-le n (entry ∷ rest) =
    let more = begun_count-le n rest in
    grind (arith, nat_tests)

-- and as many
pub length-tokens_of-taken : (front n : ℕ) (bytes : List ℕ) (begins : List Begin) →
    IsSpaced 0 (offsets front begins) (length bytes)
    → begun_count n (offsets front begins) ≡ length (tokens_of (take n (cells_of bytes (offsets front begins))))
length-tokens_of-taken front n bytes begins kept =
    let few : begun_count n (offsets front begins) ≤ length begins =
    omega (arith, begun_count-le n (offsets front begins), length-offsets front begins) in
    sym (length-take-le (begun_count n (offsets front begins)) begins few)
    ∙ sym (length-map (take (begun_count n (offsets front begins)) begins) (λ (b : Begin). b.token))
    ∙ ap length (tokens_of-taken front n bytes begins kept)
