-- The session of a number: its set-up, and then a step for each word of a generator that the number
-- seeds.
use Rattle.std.specs.Prelude.{ℕ, zero, suc, ◌-◌, unwrap_or}
use Rattle.std.specs.List.{slice_get}
use Rattle.rand_core.specs.Pcg32Seed.{pcg32_seed}
use Rattle.rand_pcg.specs.Lcg.{Lcg}
use Rattle.rand_pcg.specs.Pcg.{pcg32, pcg32_of_seed}
use Rattle.broker_steps.specs.declared.step.Step.{Step}
use Rattle.session_gen.specs.Setup.{setup}
use Rattle.session_gen.specs.Rows.{drawn}

-- the generator that the number seeds, behind so many words
unfoldable pub generator_after : ℕ → ℕ → Lcg
generator_after n zero = pcg32_of_seed (pcg32_seed 16 n)
generator_after n (suc words) = (pcg32 (generator_after n words)).1

-- the word that it gives then
unfoldable pub word_after : ℕ → ℕ → ℕ
word_after n words = (pcg32 (generator_after n words)).0

-- how many steps the set-up has: five joins and 28 messages
abbrev pub setup_count : ℕ
setup_count = 33

-- the step behind the first `made` ones, where d done events were put into the method's store so
-- far
unfoldable pub step_of : ℕ → ℕ → ℕ → Step
step_of n made d = unwrap_or (slice_get setup made) (drawn (word_after n (made - setup_count)) d)

-- how many steps a session has
abbrev pub step_count : ℕ
step_count = 20033

-- what a session is made from, and how many of its steps are made
pub record Progress : Type 0 where
  pub number : ℕ
  pub made : ℕ
