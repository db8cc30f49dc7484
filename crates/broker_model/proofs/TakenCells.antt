-- The bytes and the tokens that are out for a peer are those of the cells.
use Rattle.std.proofs.Common.{◌≡◌, ℕ, ◌+◌, ◌≤◌, List, [], ◌∷◌, length, map, take, drop, Bool, true, false, ◌&&◌, nat_le, nat_lt, refl, sym, ap, ◌∙◌, add-one, arith, length-drop}
use Rattle.std.specs.Prelude.{filter}
use Rattle.std.proofs.lemmas.Bool.Decides.{nat_tests}
use Rattle.out_store.specs.Queue.{Cell, cells_from, bytes_of, tokens_of}
use Rattle.out_store.specs.Spacing.{IsSpaced}
use Rattle.out_store.specs.Ring.{begun_count}
use Rattle.out_store.proofs.CellsMove.{drop-cells_from, IsSpaced-begun, cells_from-begun, tokens_of-take}
use Rattle.broker_model.specs.Groups.{Token, pair_of}
use Rattle.broker_model.specs.Out.{Outgoing, stored, tokens_taken, out_for}
use Rattle.broker_model.specs.Stored.{cells_out, AreSpaced, BytesAreOut, TokensAreOut}
use Rattle.broker_model.proofs.StoresAreOut.{spaced_out}

-- bytes

bytes_from : (at : ℕ) (bytes : List ℕ) (tokens : List (ℕ × ℕ)) → bytes_of (cells_from at bytes tokens) ≡ bytes
bytes_from at [] tokens = refl
bytes_from at (byte ∷ rest) tokens = ap (λ (l : List ℕ). byte ∷ l) (bytes_from (at + 1) rest tokens)

pub bytes_out : (out : Outgoing) → bytes_of (cells_out out) ≡ stored out
bytes_out out =
    let pairs = map pair_of out.put.tokens in
    ap (λ (l : List Cell). bytes_of l) (drop-cells_from out.taken 0 out.put.bytes pairs)
    ∙ bytes_from (0 + out.taken) (drop out.taken out.put.bytes) pairs

pub bytes_are_out : BytesAreOut
bytes_are_out capacity journal p = bytes_out (out_for capacity journal p)

-- tokens by their offsets

-- those that lie from an offset on, within n bytes
abbrev among : ℕ → ℕ → List Token → List Token
among at n tokens = filter (λ t. nat_le at t.offset && nat_lt t.offset (at + n)) tokens

-- what is spaced up to an end is so up to a later one
spaced_further : (from end more : ℕ) (tokens : List (ℕ × ℕ)) → IsSpaced from tokens end → end ≤ more →
    IsSpaced from tokens more
spaced_further from end more [] spaced within = omega (arith, spaced, within)
spaced_further from end more (entry ∷ rest) spaced within =
    (spaced.0, spaced_further (entry.0 + 16) end more rest spaced.1 within)

-- no token begins before the first offset
none_begun : (n from end : ℕ) (tokens : List (ℕ × ℕ)) → IsSpaced from tokens end → n ≤ from → begun_count n tokens ≡ 0
none_begun n from end [] spaced before = refl
none_begun n from end (entry ∷ rest) spaced before =
    let here = spaced.0 in
    grind (arith, nat_tests)

among_from : (at n from end : ℕ) (tokens : List Token) → IsSpaced from (map pair_of tokens) end → at ≤ from →
    map (λ (t : Token). t.token) (among at n tokens)
    ≡ map (λ (e : ℕ × ℕ). e.1) (take (begun_count (at + n) (map pair_of tokens)) (map pair_of tokens))
among_from at n from end [] spaced before = refl
among_from at n from end (t ∷ rest) spaced before =
    split (nat_lt t.offset (at + n)) refl
    (among_from at n (t.offset + 16) end rest spaced.1 (omega (arith, spaced.0, before)))
  where
    reached : nat_le at t.offset ≡ true
    reached = let here = spaced.0 in grind (arith, nat_tests)

    split : (b : Bool) → nat_lt t.offset (at + n) ≡ b
        → map (λ (t : Token). t.token) (among at n rest)
        ≡ map (λ (e : ℕ × ℕ). e.1) (take (begun_count (at + n) (map pair_of rest)) (map pair_of rest))
        → map (λ (t : Token). t.token) (among at n (t ∷ rest))
        ≡ map (λ (e : ℕ × ℕ). e.1) (take (begun_count (at + n) (map pair_of (t ∷ rest))) (map pair_of (t ∷ rest)))
    split true is more =
        rw (reached, is, add-one (begun_count (at + n) (map pair_of rest))) (ap (λ (l : List ℕ). t.token ∷ l) more)
    split false is more =
        let beyond : at + n ≤ t.offset + 16 = grind (arith, nat_tests) in
        let none = none_begun (at + n) (t.offset + 16) end (map pair_of rest) spaced.1 beyond in
        rw (reached, is) (more ∙ ap (λ (k : ℕ). map (λ (e : ℕ × ℕ). e.1) (take k (map pair_of rest))) none)

-- those that begin before the offset aren't among them
among_begun : (at n from end : ℕ) (tokens : List Token) → IsSpaced from (map pair_of tokens) end →
    map (λ (t : Token). t.token) (among at n tokens)
    ≡ map (λ (e : ℕ × ℕ). e.1)
    (take (begun_count (at + n) (drop (begun_count at (map pair_of tokens)) (map pair_of tokens)))
    (drop (begun_count at (map pair_of tokens)) (map pair_of tokens)))
among_begun at n from end [] spaced = refl
among_begun at n from end (t ∷ rest) spaced =
    split (nat_lt t.offset at) refl (among_begun at n (t.offset + 16) end rest spaced.1)
  where
    split : (b : Bool) → nat_lt t.offset at ≡ b
        → map (λ (t : Token). t.token) (among at n rest)
        ≡ map (λ (e : ℕ × ℕ). e.1)
        (take (begun_count (at + n) (drop (begun_count at (map pair_of rest)) (map pair_of rest)))
        (drop (begun_count at (map pair_of rest)) (map pair_of rest)))
        → map (λ (t : Token). t.token) (among at n (t ∷ rest))
        ≡ map (λ (e : ℕ × ℕ). e.1)
        (take (begun_count (at + n) (drop (begun_count at (map pair_of (t ∷ rest))) (map pair_of (t ∷ rest))))
        (drop (begun_count at (map pair_of (t ∷ rest))) (map pair_of (t ∷ rest))))
    split true is more =
        let short : nat_le at t.offset ≡ false = grind (arith, nat_tests) in
        rw (short, is) (rw add-one more)
    split false is more =
        let reached : at ≤ t.offset = grind (arith, nat_tests) in
        rw is (among_from at n t.offset end (t ∷ rest) (omega arith, spaced.1) reached)

pub tokens_out : (n : ℕ) (out : Outgoing) → AreSpaced out.put →
    tokens_of (take n (cells_out out)) ≡ map (λ (t : Token). t.token) (tokens_taken n out)
tokens_out n out spaced =
    let pairs = map pair_of out.put.tokens in
    let bytes = drop out.taken out.put.bytes in
    let rest = drop (begun_count out.taken pairs) pairs in
    let end = out.taken + length bytes in
    let cells : cells_out out ≡ cells_from out.taken bytes rest =
    drop-cells_from out.taken 0 out.put.bytes pairs
    ∙ ap (λ (k : ℕ). cells_from k bytes pairs) {x = 0 + out.taken} {y = out.taken} (omega arith)
    ∙ cells_from-begun out.taken bytes pairs in
    let whole : IsSpaced 0 pairs end =
    spaced_further 0 (length out.put.bytes) end pairs spaced (omega (arith, length-drop out.taken out.put.bytes)) in
    ap (λ (l : List Cell). tokens_of (take n l)) cells
    ∙ tokens_of-take n out.taken end bytes rest (IsSpaced-begun out.taken 0 end pairs whole (omega arith)) (omega arith)
    ∙ sym (among_begun out.taken n 0 (length out.put.bytes) out.put.tokens spaced)

pub tokens_are_out : TokensAreOut
tokens_are_out capacity journal p n = tokens_out n (out_for capacity journal p) (spaced_out capacity journal p)
