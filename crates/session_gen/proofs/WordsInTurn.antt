-- The generator's words come in their turn.
use Rattle.std.proofs.Common.{◌≡◌, ℕ, ◌+◌, refl, ◌∙◌, ap, add-one}
use Rattle.rand_core.specs.Pcg32Seed.{pcg32_seed}
use Rattle.rand_pcg.specs.Lcg.{Lcg}
use Rattle.rand_pcg.specs.Pcg.{pcg32, pcg32_of_seed}
use Rattle.session_gen.specs.Generated.{generator_after, word_after}

-- the generator of a number, before its first word
pub seeded : (n : ℕ) → pcg32_of_seed (pcg32_seed 16 n) ≡ generator_after n 0
unfolding generator_after
seeded n = refl

-- what a call of the generator gives is the word in its turn
pub word_is : (n k word : ℕ) (g later : Lcg) → g ≡ generator_after n k → (word, later) ≡ pcg32 g
    → word ≡ word_after n k
unfolding word_after
word_is n k word g later at gives = ap (λ (x : ℕ × Lcg). x.0) gives ∙ ap (λ (x : Lcg). (pcg32 x).0) at

-- and the generator then stands one word further
pub later_is : (n k word : ℕ) (g later : Lcg) → g ≡ generator_after n k → (word, later) ≡ pcg32 g
    → later ≡ generator_after n (k + 1)
unfolding generator_after
later_is n k word g later at gives =
    rw (add-one k) (ap (λ (x : ℕ × Lcg). x.1) gives ∙ ap (λ (x : Lcg). (pcg32 x).1) at)
