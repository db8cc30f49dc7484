-- What several reads took, one after another.
use Rattle.std.proofs.Common.{◌≡◌, ℕ, ◌+◌, ◌-◌, ◌≤◌, List, ◌++◌, length, Option, Some, None, sym, ap, ◌∙◌, arith, append_assoc, length-append}
use Rattle.std.specs.Io.KnownBytes.{Consumes}
use Rattle.std.proofs.KnownBytes.{Appends-trans}
use Rattle.wio_core.specs.Lines.{TookFrom, Gathers}

consumes_both : (a b c : Option (List ℕ)) (xs ys : List ℕ) → Consumes a b xs → Consumes b c ys → Consumes a c (xs ++ ys)
consumes_both None b c xs ys first next = tt
consumes_both (Some all) None c xs ys first next = absurd first
consumes_both (Some all) (Some rest) None xs ys first next = absurd next
consumes_both (Some all) (Some rest) (Some end) xs ys first next = first ∙ ap (λ l. xs ++ l) next
    ∙ sym (append_assoc xs ys end)

pub TookFrom-both : (given₀ given₁ given₂ left₀ left₁ left₂ : Option (List ℕ)) (xs ys : List ℕ)
    → TookFrom given₀ given₁ left₀ left₁ xs → TookFrom given₁ given₂ left₁ left₂ ys
    → TookFrom given₀ given₂ left₀ left₂ (xs ++ ys)
TookFrom-both given₀ given₁ given₂ left₀ left₁ left₂ xs ys first next = record {
  given = Appends-trans given₀ given₁ given₂ xs ys first.given next.given;
  left = consumes_both left₀ left₁ left₂ xs ys first.left next.left;
}

pub Gathers-both : (held₀ held₁ held₂ : List ℕ) (room₀ room₁ room₂ : Option ℕ) (xs ys : List ℕ)
    → Gathers held₀ held₁ room₀ room₁ xs → Gathers held₁ held₂ room₁ room₂ ys
    → Gathers held₀ held₂ room₀ room₂ (xs ++ ys)
Gathers-both held₀ held₁ held₂ None room₁ room₂ xs ys first next = record {
  held = next.held ∙ ap (λ l. l ++ ys) first.held ∙ append_assoc held₀ xs ys;
  room = rw first.room at next.room;
  within = tt;
}
Gathers-both held₀ held₁ held₂ (Some n) room₁ room₂ xs ys first next =
    let len : length (xs ++ ys) ≡ length xs + length ys = length-append xs ys in
    let room : room₂ ≡ Some (n - length xs - length ys) = rw first.room at next.room in
    let fits : length ys ≤ n - length xs = rw first.room at next.within in
    let count : n - length xs - length ys ≡ n - length (xs ++ ys) = omega (arith, len) in record {
      held = next.held ∙ ap (λ l. l ++ ys) first.held ∙ append_assoc held₀ xs ys;
      room = room ∙ ap (λ k. Some k) count;
      within = omega (arith, len, fits, first.within);
    }
