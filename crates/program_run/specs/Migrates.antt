-- The law of migration: what is written of a session replays as that session does.
use Rattle.std.specs.Prelude.{◌≡◌, ℕ, List, [], ◌∷◌, codes}
use Rattle.program_run.specs.declared.status.Status.TheVariants as status
use Rattle.program_run.specs.Run.{status_of, output_of}

-- the words of the two commands
abbrev pub migrate : List (List ℕ)
migrate = codes "migrate" ∷ []

abbrev pub replay : List (List ℕ)
replay = codes "replay" ∷ []

-- one input replays as the other: the same output, and the same status
pub record ReplaysAs (written input : List ℕ) : Type 0 where
  pub output : output_of replay written ≡ output_of replay input
  pub status : status_of replay written ≡ status_of replay input

-- what is written of any input for which the answer is Ok replays as that input does
abbrev pub Migrates : Type 0
Migrates = (input : List ℕ) → status_of migrate input ≡ status.Ok →
    ReplaysAs (output_of migrate input) input
