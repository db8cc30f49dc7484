-- What stands at the front of some bytes is one thing alone.
use Rattle.std.proofs.Common.{◌≡◌, ℕ, ◌+◌, List, ◌∷◌, ◌++◌, length, take, drop, get_or, arith, sym, ap, ◌∙◌, length-take, ◌⊎◌, inl, inr, subst, Option, Some, None, IfSome, true}
use Rattle.std.specs.Option.{is_some}
use Rattle.std.proofs.lemmas.Grind.{common_steps}
use Rattle.wio_core.specs.Lines.{IsOpen, HasLine, IsTooLong, IsFront}
use Rattle.wio_core.specs.declared.line_search.Front.{Front}
use Rattle.wio_core.specs.declared.line_search.Front.TheVariants as fronts

pub whole_not_open : (bytes : List ℕ) (n : ℕ) → HasLine bytes n → IsOpen bytes → ⊥
whole_not_open bytes n h begun =
    let long : length (take n bytes) ≡ n = let w = h.within in omega (arith, length-take n bytes) in
    let here : get_or bytes n 0 ≡ 10 =
    ap (λ l. get_or l n 0) h.line.split ∙ at_feed (take n bytes) (drop (n + 1) bytes) n long in
    begun.lacks n 0 h.within here
  where
    at_feed : (line rest : List ℕ) (n : ℕ) → length line ≡ n → get_or (line ++ 10 ∷ rest) n 0 ≡ 10
    at_feed line rest n e = grind (arith, common_steps)

pub long_not_open : (bytes : List ℕ) → IsTooLong bytes → IsOpen bytes → ⊥
long_not_open bytes h begun = let few = begun.few in let many = h.many in omega arith

-- a line stands there, or too many bytes for one
pub other_not_open : (front : Front) (bytes held : List ℕ) → bytes ≡ held → IsFront front bytes
    → ((n : ℕ) × (front ≡ fronts.Line n)) ⊎ (front ≡ fronts.Long) → IsOpen held → ⊥
other_not_open front bytes held same is (inl line) begun =
    whole_not_open bytes line.0 (subst (λ f. IsFront f bytes) line.1 is) (subst IsOpen (sym same) begun)
other_not_open front bytes held same is (inr long) begun =
    long_not_open bytes (subst (λ f. IsFront f bytes) long is) (subst IsOpen (sym same) begun)

-- the length of the line at the front is known
pub known_not_open : (known : Option ℕ) (bytes held : List ℕ) → bytes ≡ held → IfSome known (λ n. HasLine bytes n)
    → is_some known ≡ true → IsOpen held → ⊥
known_not_open None bytes held same is h begun = cc
known_not_open (Some n) bytes held same is h begun = whole_not_open bytes n is (subst IsOpen (sym same) begun)
