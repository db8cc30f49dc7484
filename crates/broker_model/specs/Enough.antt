-- What living objects were made as is enough to tell each entry.
use Rattle.std.specs.Prelude.{◌≡◌, ℕ, ◌+◌, List, ◌∷◌, ◌++◌, length, filter, Bool, false, not, ◌==◌}
use Rattle.std.specs.List.{AllByRecursion}
use Rattle.relay_model.specs.declared.act.Act.{Act}
use Rattle.relay_model.specs.declared.act.Act.TheVariants as acts
use Rattle.relay_model.specs.declared.said.Told.{Told}
use Rattle.relay_model.specs.Objects.{alive}
use Rattle.relay_model.specs.Told.{told}
use Rattle.broker_model.specs.declared.journal.Entry.{Entry}
use Rattle.broker_model.specs.Ids.{Made, log_of, made_as}
use Rattle.broker_model.specs.Groups.{message_of, group_for}
use Rattle.broker_model.specs.Resolve.{past_of, resolve, means}
use Rattle.broker_model.specs.Out.{act_at, act_now}
use Rattle.broker_model.specs.Living.{IsLiving, named}

-- what is kept of what was made finds under the label of each living or new object what all that
-- was made finds there, and nothing more under the shell's
pub record IsEnough (log : List Act) (made kept : List Made) : Type 0 where
  pub shell : made_as kept 0 ≡ made_as made 0
  pub living : (x : ℕ) → IsLiving log x → made_as kept x ≡ made_as made x

-- it goes to the same object, under the same message, and names the same objects
pub record IsAlike (made kept : List Made) (t : Told) : Type 0 where
  pub to : made_as kept t.to ≡ made_as made t.to
  pub message : message_of kept t.event ≡ message_of made t.event
  pub names : AllByRecursion (λ x. made_as kept x ≡ made_as made x) (named t.event)

-- so does each of these, and each peer is told the same
pub record AreAlike (made kept : List Made) (ts : List Told) : Type 0 where
  pub each : AllByRecursion (IsAlike made kept) ts
  pub groups : (p : ℕ) → group_for kept p ts ≡ group_for made p ts

-- whatever is kept that is enough tells each entry as all that was made does
abbrev pub EnoughTellsAll : Type 0
EnoughTellsAll =
    (e : Entry) (older : List Entry) (kept : List Made) →
    IsEnough (log_of (past_of older)) (past_of (e ∷ older)).made kept →
    AreAlike (past_of (e ∷ older)).made kept (told (act_at e older) (resolve older))

-- what an entry makes under an id
abbrev pub made_at : Entry → List Entry → List Made
made_at e older = (means e (length older + 1) (past_of older)).made

-- those whose objects are alive after a history
abbrev pub living : List Act → List Made → List Made
living log made = filter (λ (m : Made). alive log m.label) made

-- those of a journal that are alive after it
abbrev pub living_of : List Entry → List Made
living_of journal = living (log_of (past_of journal)) (past_of journal).made

-- a drop names the object, or its peer ends
abbrev pub ended_by : Act → Made → Bool
ended_by (acts.Drop x) m = x == m.label
ended_by (acts.Gone p cause) m = m.peer == p
ended_by _ m = false

-- The living ones and what the entry makes are enough to tell it. Those of them that are alive
-- after it are all that then live, so what is dead after an entry can be let go for good; of those
-- that were alive before it the ones go that it drops, and all of a peer that it ends.
pub record IsLetGo (e : Entry) (older : List Entry) : Type 0 where
  pub enough : IsEnough (log_of (past_of older)) (past_of (e ∷ older)).made
      (made_at e older ++ living_of older)
  pub later : living_of (e ∷ older)
      ≡ living (log_of (past_of (e ∷ older))) (made_at e older ++ living_of older)
  pub goes : living (log_of (past_of (e ∷ older))) (living_of older)
      ≡ filter (λ (m : Made). not (ended_by (act_now e older) m)) (living_of older)

-- so it is with each entry
abbrev pub DeadCanGo : Type 0
DeadCanGo = (e : Entry) (older : List Entry) → IsLetGo e older
