-- What an application is owed: the groups that were put for its fields.
use Rattle.std.specs.Prelude.{◌≡◌, ℕ, List, [], ◌∷◌, ◌++◌, ◌&&◌, ◌==◌, if◌then◌else◌, Option, Some, None, Ok}
use Rattle.std.specs.List.{AllByRecursion}
use Rattle.wl_proto.specs.Rows.{Message}
use Rattle.relay_model.specs.declared.said.Said.{Said}
use Rattle.relay_model.specs.declared.said.Said.TheVariants as said
use Rattle.relay_model.specs.Hold.{holder}
use Rattle.relay_model.specs.Activation.{fresh}
use Rattle.relay_model.specs.Batch.{group_of}
use Rattle.broker_model.specs.declared.journal.Entry.{Entry}
use Rattle.broker_model.specs.Ids.{Made, log_of, made_as}
use Rattle.broker_model.specs.Groups.{message_of}
use Rattle.broker_model.specs.Resolve.{past_of}
use Rattle.broker_model.specs.Out.{act_now}
use Rattle.broker_model.specs.Queued.{is_put_for}
use Rattle.audit_fields.specs.Heard.{Heard}

-- the group of a batch for the field with this label, which its peer made under this id
pub record FieldGroup : Type 0 where
  pub field : ℕ
  pub id : ℕ
  pub group : List Said

-- the group that the newest entry tells the holder f, where it relays a batch, the peer p made the
-- field, and what the entry tells that peer is put
abbrev pub group_to : ℕ → Entry → List Entry → (p f : ℕ) → Option Made → List FieldGroup
group_to capacity e older p f None = []
group_to capacity e older p f (Some m) =
    (if fresh (act_now e older) (log_of (past_of older)) && (m.peer == p)
    && is_put_for capacity e older (Some p)
    then record {
      field = f;
      id = m.id;
      group = group_of (act_now e older) (log_of (past_of older)) f;
    } ∷ []
    else [])

-- the same, where a field holds the seat
abbrev pub group_now : ℕ → Entry → List Entry → ℕ → Option ℕ → List FieldGroup
group_now capacity e older p None = []
group_now capacity e older p (Some f) =
    group_to capacity e older p f (made_as (past_of (e ∷ older)).made f)

-- the groups of whole batches that were put for the fields of the peer with the label p, in order
abbrev pub groups_put : ℕ → List Entry → ℕ → List FieldGroup
groups_put capacity [] p = []
groups_put capacity (e ∷ older) p =
    groups_put capacity older p
    ++ group_now capacity e older p (holder (log_of (past_of older)))

-- those of the field f
abbrev pub of_field : ℕ → List FieldGroup → List (List Said)
of_field f [] = []
of_field f (g ∷ more) = (if g.field == f then g.group ∷ of_field f more else of_field f more)

-- an event by its object's id, as a text input reads it
abbrev pub said_heard : ℕ → Option Message → List Heard
said_heard id None = []
said_heard id (Some m) = record { id = id; reading = Ok m } ∷ []

-- a group by its field's id, event by event
abbrev pub group_heard : ℕ → List Said → List Heard
group_heard id [] = []
group_heard id (event ∷ more) = said_heard id (message_of [] event) ++ group_heard id more

abbrev pub groups_heard : List FieldGroup → List Heard
groups_heard [] = []
groups_heard (g ∷ more) = group_heard g.id g.group ++ groups_heard more

-- the event is one that a done applies
abbrev pub IsEdit : Said → Type 0
IsEdit (said.Preedit text begin end) = Unit {0}
IsEdit (said.CommitString text) = Unit {0}
IsEdit (said.Delete before after) = Unit {0}
IsEdit _ = ⊥

-- the group is whole: edits, and then its one done
pub record IsWhole (g : FieldGroup) : Type 0 where
  pub edits : List Said
  pub count : ℕ
  pub is : g.group ≡ edits ++ said.FieldDone count ∷ []
  pub each : AllByRecursion IsEdit edits
