-- What a generator keeps: the next word, and the generator behind it.
use Rattle.std.specs.Prelude.{◌≡◌, ◌+◌, ◌-◌, ◌≤◌}
use Rattle.session_gen.specs.Generated.{Progress, generator_after, word_after, setup_count, step_count}
use Rattle.session_gen.specs.declared.generator.Gen.TheInside.{Inside}

abbrev pub progress : Inside → Progress
progress g = record { number = g.number; made = g.made }

pub record IsKept (g : Inside) : Type 0 where
  pub few : g.made ≤ step_count
  pub word : g.word ≡ word_after g.number (g.made - setup_count)
  pub later : g.words ≡ generator_after g.number (g.made - setup_count + 1)
