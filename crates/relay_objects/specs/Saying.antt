-- What fields and the serving method are told of a focus, a hold and a batch.
use Rattle.std.specs.Prelude.{ℕ, List, [], ◌∷◌, ◌++◌, map, ◌&&◌, if◌then◌else◌, Option, Some, None, nat_abs}
use Rattle.relay_model.specs.declared.said.Told.{Told}
use Rattle.relay_model.specs.declared.said.Said.{Said}
use Rattle.relay_model.specs.declared.said.Said.TheVariants as said
use Rattle.relay_model.specs.Objects.{is_at}
use Rattle.relay_model.specs.Batch.{Batch, deletion_said, string_said, preedit_said}
use Rattle.relay_model.specs.Told.{to}
use Rattle.field_state.specs.Calls as field
use Rattle.field_state.specs.Stands.{Kept}
use Rattle.relay_objects.specs.declared.object.Object.{Object}
use Rattle.relay_objects.specs.declared.listed.LiveField.{LiveField}
use Rattle.relay_objects.specs.Objects.{is_field_in}

-- what each field of the peer is told
abbrev pub said_to : Said → Option ℕ → List Object → List Told
said_to say peer [] = []
said_to say peer (o ∷ os) =
    (if is_field_in (Some o) && is_at peer o.peer then to o.label say ∷ said_to say peer os
    else said_to say peer os)

-- the event for each of these fields
abbrev pub told_each : Said → List LiveField → List Told
told_each say ws = map (λ w. to w.label say) ws

-- the current state of a field
abbrev pub current_of : Option Kept → field.State
current_of None = field.initial
current_of (Some kept) = kept.current

-- the text of a surrounding text, if it is set
abbrev pub text_around : Option field.Surrounding → List ℕ
text_around None = []
text_around (Some around) = around.text

-- the surrounding text and its cause, if it is set
abbrev pub around_told : ℕ → Option field.Surrounding → ℕ → List Told
around_told m None cause = []
around_told m (Some around) cause =
    to m (said.Surrounding around.text (nat_abs around.cursor) (nat_abs around.anchor))
    ∷ to m (said.ChangeCause cause) ∷ []

-- the state, and the done that ends it
abbrev pub state_told : ℕ → field.State → List Told
state_told m c =
    around_told m c.surrounding c.cause
    ++ (to m (said.ContentType c.content.0 c.content.1) ∷ to m said.MethodDone ∷ [])

-- a hold begins
abbrev pub activate_told : field.State → Option ℕ → List Told
activate_told c None = []
activate_told c (Some m) = to m said.Activate ∷ state_told m c

-- the state of the holder changed
abbrev pub update_told : field.State → Option ℕ → List Told
update_told c None = []
update_told c (Some m) = state_told m c

-- a hold ends
abbrev pub deactivate_told : Option ℕ → List Told
deactivate_told None = []
deactivate_told (Some m) = to m said.Deactivate ∷ to m said.MethodDone ∷ []

-- a batch: its deletion, its string and its preedit, each unless it is empty, and the done with the
-- count of the commits
abbrev pub group_told : Batch → ℕ → ℕ → List Told
group_told b count h =
    map (to h) (deletion_said b.deletion) ++
    (map (to h) (string_said b.string)
    ++ (map (to h) (preedit_said b.preedit) ++ to h (said.FieldDone count) ∷ []))
