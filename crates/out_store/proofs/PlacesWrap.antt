-- Places that count around 2^64, and the offsets that they stand for.
use Rattle.std.proofs.Common.{◌≡◌, ℕ, ◌+◌, ◌%◌, ◌^◌, ◌<◌, ◌≤◌, true, false, nat_lt, slice_get, slice_set, Some, None, List, [], ◌∷◌, ◌++◌, length, map, take, drop, refl, ap, subst, suc, arith}
use Prim.Native.Nat.{zero}
use Rattle.std.proofs.lemmas.Bool.Decides.{nat_tests}
use Rattle.out_store.specs.declared.begins.Begin.{Begin}
use Rattle.out_store.specs.Ring.{distance, offsets, placed, begun_count}
use Rattle.out_store.specs.Spacing.{IsSpaced}
use Rattle.out_store.proofs.CellsMove.{raise, IsSpaced-room}

-- as the front moves on by n, a place that is at least n past it is n nearer
pub distance-moves : (front place n : ℕ) → front < 2 ^ 64 → n ≤ distance front place →
    distance ((front + n) % 2 ^ 64) place + n ≡ distance front place
distance-moves front place n f within = omega arith

-- a place so far past the front is at that distance
pub distance-placed : (front stored at : ℕ) → front < 2 ^ 64 → stored + at < 2 ^ 64 →
    distance front (((front + stored) % 2 ^ 64 + at) % 2 ^ 64) ≡ at + stored
distance-placed front stored at f within = omega arith

-- the offsets from a front that moved on by n, where no token is nearer
pub offsets-moves : (front n from end : ℕ) (begins : List Begin) → front < 2 ^ 64 →
    IsSpaced from (offsets front begins) end → n ≤ from
    → offsets front begins ≡ raise n (offsets ((front + n) % 2 ^ 64) begins)
offsets-moves front n from end [] f spaced within = refl
offsets-moves front n from end (begin ∷ rest) f spaced within =
    let here = distance-moves front begin.place n f (omega (arith, spaced.0)) in
    let more = offsets-moves front n (distance front begin.place + 16) end rest f spaced.1 (omega (arith, spaced.0)) in
    cc

-- the offsets of a group's tokens as they are placed
pub offsets-placed : (front stored from end : ℕ) (tokens : List (ℕ × ℕ)) → front < 2 ^ 64 → stored + end < 2 ^ 64 →
    IsSpaced from tokens end
    → offsets front (placed ((front + stored) % 2 ^ 64) tokens) ≡ raise stored tokens
offsets-placed front stored from end [] f fits spaced = refl
offsets-placed front stored from end (entry ∷ rest) f fits spaced =
    let here = distance-placed front stored entry.0 f (omega (arith, IsSpaced-room (entry.0 + 16) end rest spaced.1)) in
    let more = offsets-placed front stored (entry.0 + 16) end rest f fits spaced.1 in
    cc

pub offsets-append : (front : ℕ) (first second : List Begin) →
    offsets front (first ++ second) ≡ offsets front first ++ offsets front second
offsets-append front [] second = refl
offsets-append front (begin ∷ rest) second =
    ap (λ l. (distance front begin.place, begin.token) ∷ l) (offsets-append front rest second)

-- the first token begins within n
pub begun_count-front : (front n : ℕ) (begins : List Begin) (begin : Begin) → Some begin ≡ slice_get begins 0 →
    distance front begin.place < n
    → begun_count n (offsets front begins) ≡ begun_count n (offsets front (drop 1 begins)) + 1
begun_count-front front n [] begin first within = cc
begun_count-front front n (head ∷ rest) begin first within =
    let same : begin ≡ head = cc in
    let near : distance front head.place < n = subst (λ (b : Begin). distance front b.place < n) same within in
    let test : nat_lt (distance front head.place) n ≡ true = grind (arith, nat_tests) in
    rw test refl

-- the first token begins behind n, so none begins within it
pub begun_count-beyond : (front n : ℕ) (begins : List Begin) (begin : Begin) → Some begin ≡ slice_get begins 0 →
    n ≤ distance front begin.place
    → begun_count n (offsets front begins) ≡ 0
begun_count-beyond front n [] begin first beyond = refl
begun_count-beyond front n (head ∷ rest) begin first beyond =
    let same : begin ≡ head = cc in
    let far : n ≤ distance front head.place = subst (λ (b : Begin). n ≤ distance front b.place) same beyond in
    let test : nat_lt (distance front head.place) n ≡ false = grind (arith, nat_tests) in
    rw test refl

-- no token is left
pub begun_count-none : (front n : ℕ) (begins : List Begin) → None ≡ slice_get begins 0 →
    begun_count n (offsets front begins) ≡ 0
begun_count-none front n [] none = refl
begun_count-none front n (head ∷ rest) none = cc

-- one more token is moved out
pub moved-more : (begins : List Begin) (begin : Begin) (out : List ℕ) (count : ℕ) →
    Some begin ≡ slice_get (drop count begins) 0 → count < length out
    → slice_set (map (λ (b : Begin). b.token) (take count begins) ++ drop count out) count begin.token
    ≡ map (λ (b : Begin). b.token) (take (suc count) begins) ++ drop (suc count) out
moved-more [] begin out zero first fits = cc
moved-more [] begin out (suc count) first fits = cc
moved-more (head ∷ rest) begin [] count first fits = absurd (omega arith)
moved-more (head ∷ rest) begin (old ∷ out) zero first fits =
    let same : begin ≡ head = cc in
    ap (λ (b : Begin). b.token ∷ out) same
moved-more (head ∷ rest) begin (old ∷ out) (suc count) first fits =
    ap (λ l. head.token ∷ l) (moved-more rest begin out count first (omega arith))
