-- What acts tell goes to living or new objects, and names such objects alone.
use Rattle.std.specs.Prelude.{◌≡◌, ℕ, List, [], ◌∷◌, true, ◌⊎◌}
use Rattle.std.specs.List.{AllByRecursion}
use Rattle.relay_model.specs.declared.act.Act.{Act}
use Rattle.relay_model.specs.declared.act.Act.TheVariants as acts
use Rattle.relay_model.specs.declared.said.Told.{Told}
use Rattle.relay_model.specs.declared.said.Said.{Said}
use Rattle.relay_model.specs.declared.said.Said.TheVariants as said
use Rattle.relay_model.specs.Objects.{next, alive}
use Rattle.relay_model.specs.Idle.{history}
use Rattle.relay_model.specs.Told.{told}
use Rattle.broker_model.specs.declared.journal.Entry.{Entry}
use Rattle.broker_model.specs.Ids.{log_of}
use Rattle.broker_model.specs.Resolve.{past_of, resolve}
use Rattle.broker_model.specs.Out.{act_at}

-- the label is that of an object that is alive after a history, or that of the next act
abbrev pub IsLiving : List Act → ℕ → Type 0
IsLiving log x = (alive log x ≡ true) ⊎ (x ≡ next log)

-- the objects that an event names
abbrev pub named : Said → List ℕ
named (said.Enter surface) = surface ∷ []
named (said.Leave surface) = surface ∷ []
named (said.DeleteId label) = label ∷ []
named (said.Error object fault) = object ∷ []
named (said.Placed popup x y) = popup ∷ []
named _ = []

-- it is told to the shell or to such an object, and each object that it names is one
pub record IsOfLiving (log : List Act) (t : Told) : Type 0 where
  pub to : (t.to ≡ 0) ⊎ IsLiving log t.to
  pub names : AllByRecursion (IsLiving log) (named t.event)

-- an error is of the display of the peer that is told it, or of an object that is alive
abbrev pub ErrsOnLiving : List Act → Act → Type 0
ErrsOnLiving log (acts.Bad p fault x) = (x ≡ p) ⊎ (alive log x ≡ true)
ErrsOnLiving log _ = Unit {0}

-- so is each thing that an act tells, after any acts, if an error is
abbrev pub ActsTellLiving : Type 0
ActsTellLiving =
    (act : Act) (older : List Act) → ErrsOnLiving (history older) act →
    AllByRecursion (IsOfLiving (history older)) (told act older)

-- so is each thing that an entry of a journal tells
abbrev pub EntriesTellLiving : Type 0
EntriesTellLiving =
    (e : Entry) (older : List Entry) →
    AllByRecursion (IsOfLiving (log_of (past_of older))) (told (act_at e older) (resolve older))
