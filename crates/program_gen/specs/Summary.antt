-- The line that tells the counts of a generated session.
use Rattle.std.specs.Prelude.{ℕ, List, [], ◌∷◌, ◌++◌, codes}
use Rattle.std.specs.Fmt.{decimal}
use Rattle.std.specs.List.{join_with_byte}
use Rattle.program_gen.specs.declared.counts.Counts.{Counts}
use Rattle.program_gen.specs.Counts.{counts_of}

abbrev pub counts_words : ℕ → Counts → List (List ℕ)
counts_words n c =
    codes "gen" ∷ decimal n ∷ codes "entries" ∷ decimal c.entries ∷ codes "dones" ∷ decimal c.dones
    ∷ codes "activates" ∷ decimal c.activates ∷ codes "ends" ∷ decimal c.ends
    ∷ codes "queued" ∷ decimal c.queued ∷ []

-- the words, separated by one space
abbrev pub counts_line : ℕ → Counts → List ℕ
counts_line n c = join_with_byte 32 (counts_words n c)

-- the line of the session of n, with its line feed
unfoldable pub summary_of : ℕ → List ℕ
summary_of n = counts_line n (counts_of n) ++ 10 ∷ []
