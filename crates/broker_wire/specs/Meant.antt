-- What a message means by the table of its sender's objects.
use Rattle.std.specs.Prelude.{◌≡◌, ℕ, ◌+◌, option_map}
use Rattle.std.specs.FinMap as map
use Rattle.broker_model.specs.Objects.{Objects}
use Rattle.broker_wire.specs.declared.meaning.Meaning as declared
use Rattle.broker_model.specs.Ids.{Made, Past, object_at, number_live}
use Rattle.broker_model.specs.Resolve.{Meaning, made_new}
use Rattle.broker_wire.specs.Asked.{asked}

-- the table has the live objects of the peer p under their ids, with its display, and no others
pub record IsTableOf (past : Past) (p : ℕ) (table : Objects) : Type 0 where
  pub by_id : (id : ℕ) →
      map.get table.under id
      ≡ option_map (λ (m : Made). (m.interface, m.label)) (object_at past p id)
  pub count : map.len table.under ≡ number_live past p + 1

-- the same meaning, of the entry n of the peer p
abbrev pub meant : (p n : ℕ) → declared.Meaning → Meaning
meant p n m = record { act = m.act; made = made_new p n (option_map asked m.made) }
