-- What the relay keeps, and what it finds there.
use Rattle.std.specs.Prelude.{ℕ, List, Bool, not, ◌&&◌, Option, Some, None, is_some}
use Rattle.popup_place.specs.declared.geometry.Size.{Size}
use Rattle.relay_model.specs.Objects.{is_same}
use Rattle.edit_batch.specs.Calls.{LastEdits}
use Rattle.field_state.specs.Calls as field
use Rattle.kbd_grab.specs.Keyboard.{Keyboard}
use Rattle.relay_objects.specs.declared.object.Object.{Object}
use Rattle.relay_objects.specs.Objects.{find, is_peer_in, is_field_in, owner_in, field_in, field_at}
pub use Rattle.relay_objects.specs.Saying.{current_of}

-- what the relay keeps
pub record State : Type 0 where
  pub acts : ℕ
  pub objects : List Object
  pub focus : Option ℕ
  pub holder : Option ℕ
  pub serving : Option ℕ
  pub edits : LastEdits
  pub active : Bool
  pub dones : ℕ
  pub since : ℕ
  pub screen : Size
  pub keys : Keyboard

-- the peer of an object that may be there
abbrev pub owner_at : List Object → Option ℕ → Option ℕ
owner_at objects None = None
owner_at objects (Some x) = owner_in (find objects x)

-- the peer whose surface has the focus
abbrev pub focused_in : State → Option ℕ
focused_in s = owner_at s.objects s.focus

abbrev pub entered_in : State → ℕ → Bool
entered_in s f =
    is_field_in (find s.objects f) && is_same (owner_in (find s.objects f)) (focused_in s)

-- an object that may be dropped
abbrev pub is_thing_in : Option Object → Bool
is_thing_in o = is_some o && not (is_peer_in o)

-- the current state of the field f
abbrev pub state_of : State → ℕ → field.State
state_of s f = current_of (field_in (find s.objects f))

-- the current state of the holder
abbrev pub holder_state : State → field.State
holder_state s = current_of (field_at s.objects s.holder)
