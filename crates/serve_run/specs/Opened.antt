-- The doors that a server opens, and when
use Rattle.std.specs.Prelude.{◌≡◌, ◌⊎◌, ℕ, List, [], ◌∷◌, ◌++◌, length, map, reverse, take, Result, Err}
use Rattle.serve_net.specs.declared.door.Door.{Door}
use Rattle.serve_net.specs.declared.door.Door.TheVariants.{App, Method, Shell}
use Rattle.serve_run.specs.declared.stop.Stop.{Stop}
use Rattle.serve_run.specs.declared.stop.Stop.TheVariants as stops

-- in this order
abbrev pub all_doors : List Door
all_doors = App ∷ Method ∷ Shell ∷ []

-- the first so many, each opened once after so many links, the newest first, and those before
abbrev pub opened_first : (count links : ℕ) → List (Door × ℕ) → List (Door × ℕ)
opened_first count links before =
    reverse (map (λ (d : Door). (d, links)) (take count all_doors)) ++ before

-- Before a link came in all doors were opened, each once; or the first so many, where the next
-- couldn't be, and then no link came in.
pub record AreOpened (links links_after : List Door) (before after : List (Door × ℕ))
    (stop : Result (Unit {0}) Stop) : Type 0 where
  pub count : ℕ
  pub are : after ≡ opened_first count (length links) before
  pub all : (count ≡ 3) ⊎ ((stop ≡ Err stops.NetFault) × (links_after ≡ links))
