-- What happened to a field: the rest of its log, and by the events that came.
use Rattle.std.specs.Prelude.{List, [], ◌∷◌, ◌++◌}
use Rattle.wl_proto.specs.declared.event.Event.{Event}
use Rattle.trial_field.specs.Log.{Batch}
use Rattle.client_side.specs.FieldState.{new_state, after_event, logged}
use Rattle.client_side.specs.Happenings.{Happening, edited, batch, entered, left}

-- the rest of it, in order: batches, enters and leaves
abbrev pub told_in : List Happening → List Happening
told_in [] = []
told_in (edited edit ∷ older) = told_in older
told_in (batch edits serial ∷ older) = told_in older ++ batch edits serial ∷ []
told_in (entered ∷ older) = told_in older ++ entered ∷ []
told_in (left ∷ older) = told_in older ++ left ∷ []

-- the edits that wait for their done after an event
abbrev pub waiting_after : Event → Batch → Batch
waiting_after event waiting = (after_event event (record new_state { pending = waiting })).pending

-- what events make happen to a field, in order, where such edits wait
abbrev pub happenings : List Event → Batch → List Happening
happenings [] waiting = []
happenings (event ∷ more) waiting =
    logged event waiting [] ++ happenings more (waiting_after event waiting)
