-- A piece of a list that a read or a write moves.
use Rattle.std.proofs.Common.{◌≡◌, ℕ, ◌+◌, ◌≤◌, List, [], ◌++◌, length, take, drop, min, Option, Some, Result, Ok, Err, IfOk, sym, ap, ◌∙◌, subst, arith, take-append-drop, length-append}
use Rattle.std.proofs.lemmas.Grind.{common_steps}
use Rattle.std.proofs.Math.Seq.{take-add, take-append_seam}
use Rattle.std.specs.Io.KnownBytes.{Appends}
use Rattle.std.proofs.KnownBytes.{Appends-trans}
use Rattle.wio_core.specs.Io.{Reads, raised}
use Rattle.wio_core.specs.Memory.{SourceInMemory}

-- what a writer gained of a piece, and then of the rest of it
pub Appends-take : (a b c : Option (List ℕ)) (i n : ℕ) (s : List ℕ) → Appends a b (take i s) →
    Appends b c (take n (drop i s)) → Appends a c (take (i + n) s)
Appends-take a b c i n s p q = subst (Appends a c) (sym (take-add i n s)) (Appends-trans a b c _ _ p q)

-- the first n bytes of a buffer into which n bytes were written
take_written : (cut rest : List ℕ) (n : ℕ) → length cut ≡ n → take n (cut ++ rest) ≡ cut
take_written cut rest n e = subst (λ m. take m (cut ++ rest) ≡ cut) e (take-append_seam cut rest)

-- a read of the first n of what is left
pub Reads-front : (given left old : List ℕ) (n : ℕ) → n ≤ length left → n ≤ length old → (n ≡ 0 → drop n left ≡ [])
    → Reads (Some given) (Some (given ++ take n left)) (Some left) (Some (drop n left)) n (take n left ++ drop n old)
Reads-front given left old n is_left fits ended =
    let len : length (take n left) ≡ n = grind (arith, common_steps) in
    let front : take n (take n left ++ drop n old) ≡ take n left = take_written (take n left) (drop n old) n len in
    record {
      within = omega (arith, length-append (take n left) (drop n old), len);
      given = ap (λ l. given ++ l) (sym front);
      left = sym (ap (λ l. l ++ drop n left) front ∙ take-append-drop n left);
      end = ended;
    }

-- what a read of a source in memory says, in the words of every source
pub Reads-told : {E : Type 0} (r : Result ℕ E) (old new : SourceInMemory) (buf filled : List ℕ)
    → IfOk r (λ n. n ≡ min (min old.chunk (length buf)) (length old.left))
    → IfOk r (λ n. new
    ≡ record old { given = old.given ++ take n old.left; left = drop n old.left; calls = raised old.calls })
    → IfOk r (λ n. n ≡ 0 → new.left ≡ [])
    → IfOk r (λ n. filled ≡ take n old.left ++ drop n buf)
    → IfOk r (λ n. Reads (Some old.given) (Some new.given) (Some old.left) (Some new.left) n filled)
Reads-told (Err e) old new buf filled count ok end is = tt
Reads-told (Ok n) old new buf filled count ok end is =
    rw (ok, is) (Reads-front old.given old.left buf n (omega (arith, count)) (omega (arith, count))
    (λ none. sym (ap (λ (s : SourceInMemory). s.left) ok) ∙ end none))
