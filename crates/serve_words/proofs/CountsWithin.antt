-- A number that was read is from 1 to the greatest
use Rattle.std.proofs.Common.{◌≡◌, ◌&&◌, ℕ, Bool, true, false, if◌then◌else◌, nat_le, List, Option, Some, None, refl, arith}
use Rattle.std.proofs.lemmas.Grind.{common_steps}
use Rattle.broker_steps.specs.Ranges.{IsWithin}
use Rattle.session_text.specs.Words.{kept, count_of, number_of}

kept_passes : (test : ℕ → Bool) (o : Option ℕ) (n : ℕ) → kept test o ≡ Some n → test n ≡ true
kept_passes test None n is = absurd cc
kept_passes test (Some m) n is = at (test m) refl is
  where
    at : (b : Bool) → test m ≡ b → (if b then Some m else None) ≡ Some n → test n ≡ true
    at true passed e = cc
    at false failed e = absurd cc

within_of : (most n : ℕ) → (nat_le 1 n && nat_le n most) ≡ true → IsWithin most n
within_of most n is = grind (arith, common_steps)

pub count_within : (most : ℕ) (word : List ℕ) (n : ℕ) → count_of most word ≡ Some n → IsWithin most n
unfolding count_of
count_within most word n is = within_of most n (kept_passes (λ m. nat_le 1 m && nat_le m most) (number_of word) n is)
