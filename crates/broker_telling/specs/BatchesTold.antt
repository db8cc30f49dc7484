-- What acts tell an object of the edits and the dones of batches.
use Rattle.std.specs.Prelude.{◌≡◌, ℕ, List, [], ◌∷◌, ◌++◌, map, filter, ◌==◌, ◌&&◌, Bool, true, false}
use Rattle.std.specs.List.{flat_map}
use Rattle.relay_model.specs.declared.act.Act.{Act}
use Rattle.relay_model.specs.declared.said.Told.{Told}
use Rattle.relay_model.specs.declared.said.Said.{Said}
use Rattle.relay_model.specs.declared.said.Said.TheVariants as said
use Rattle.relay_model.specs.Batch.{relayed}
use Rattle.relay_model.specs.Idle.{history}
use Rattle.relay_model.specs.Told.{told}

-- an edit of a field's text, or the done that ends a batch
abbrev pub is_of_batch : Said → Bool
is_of_batch (said.Delete before after) = true
is_of_batch (said.CommitString text) = true
is_of_batch (said.Preedit text begin end) = true
is_of_batch (said.FieldDone count) = true
is_of_batch _ = false

-- it is told to the object f
abbrev pub is_batch_for : ℕ → Told → Bool
is_batch_for f t = is_of_batch t.event && (t.to == f)

-- those that are told to the object f, in order
abbrev pub batches_for : ℕ → List Told → List Said
batches_for f ts = map (λ (t : Told). t.event) (filter (is_batch_for f) ts)

-- those that the acts of a list, the newest first, tell it, in order
abbrev pub batches_told : List Act → ℕ → List Said
batches_told [] f = []
batches_told (act ∷ older) f = batches_told older f ++ batches_for f (told act older)

-- the events of groups, one group behind the other
abbrev pub in_turn : List (List Said) → List Said
in_turn groups = flat_map (λ (group : List Said). group) groups

-- They are the whole batches that are relayed to it, in order and once each, and nothing else: for
-- every list of acts, and every object.
abbrev pub BatchesAreRelayed : Type 0
BatchesAreRelayed = (acts : List Act) (f : ℕ) →
    batches_told acts f ≡ in_turn (relayed (history acts) f)
