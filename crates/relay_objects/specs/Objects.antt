-- Words on the objects that the relay keeps.
use Rattle.std.specs.Prelude.{ℕ, pos, List, [], ◌∷◌, Bool, true, false, not, ◌==◌, if◌then◌else◌, Option, Some, None}
use Rattle.std.specs.List.{list_any}
use Rattle.popup_place.specs.declared.geometry.Rect.{Rect}
use Rattle.relay_model.specs.declared.act.Act.{Act}
use Rattle.relay_model.specs.declared.act.Act.TheVariants as acts
use Rattle.relay_model.specs.Objects.{is_at}
use Rattle.field_state.specs.Stands.{Kept}
use Rattle.field_state.specs.Changes as change
use Rattle.relay_objects.specs.declared.object.Object.{Object}
use Rattle.relay_objects.specs.declared.object.Kind.{Kind}
use Rattle.relay_objects.specs.declared.object.Kind.TheVariants.{Peer, Surface, Field, Method, Popup, Grab, Thing, Board}

-- the object with the label
abbrev pub find : List Object → ℕ → Option Object
find [] x = None
find (o ∷ os) x = (if o.label == x then Some o else find os x)

abbrev pub is_peer_kind : Kind → Bool
is_peer_kind Peer = true
is_peer_kind _ = false

abbrev pub is_surface_kind : Kind → Bool
is_surface_kind (Surface area) = true
is_surface_kind _ = false

abbrev pub is_field_kind : Kind → Bool
is_field_kind (Field kept) = true
is_field_kind _ = false

abbrev pub is_method_kind : Kind → Bool
is_method_kind Method = true
is_method_kind _ = false

abbrev pub is_peer_in : Option Object → Bool
is_peer_in None = false
is_peer_in (Some o) = is_peer_kind o.kind

abbrev pub is_surface_in : Option Object → Bool
is_surface_in None = false
is_surface_in (Some o) = is_surface_kind o.kind

abbrev pub is_field_in : Option Object → Bool
is_field_in None = false
is_field_in (Some o) = is_field_kind o.kind

abbrev pub is_method_in : Option Object → Bool
is_method_in None = false
is_method_in (Some o) = is_method_kind o.kind

-- the peer of an object
abbrev pub owner_in : Option Object → Option ℕ
owner_in None = None
owner_in (Some o) = Some o.peer

abbrev pub field_of_kind : Kind → Option Kept
field_of_kind (Field kept) = Some kept
field_of_kind _ = None

-- what a field keeps
abbrev pub field_in : Option Object → Option Kept
field_in None = None
field_in (Some o) = field_of_kind o.kind

-- the field that may be named
abbrev pub field_at : List Object → Option ℕ → Option Kept
field_at objects None = None
field_at objects (Some x) = field_in (find objects x)

abbrev pub count_of_field : Option Kept → ℕ
count_of_field None = 0
count_of_field (Some kept) = kept.count

-- the count of a field's commits
abbrev pub count_in : Option Object → ℕ
count_in o = count_of_field (field_in o)

-- no place and no size
abbrev pub no_area : Rect
no_area = record { x = pos 0; y = pos 0; width = pos 0; height = pos 0 }

abbrev pub area_of_kind : Kind → Rect
area_of_kind (Surface area) = area
area_of_kind _ = no_area

-- the place and the size of a surface on the screen
abbrev pub area_in : Option Object → Rect
area_in None = no_area
area_in (Some o) = area_of_kind o.kind

-- the surface of a popup
abbrev pub surface_of_kind : Kind → Option ℕ
surface_of_kind (Popup method surface) = Some surface
surface_of_kind _ = None

-- a popup has the surface
abbrev pub has_popup_in : List Object → ℕ → Bool
has_popup_in objects s = list_any (λ o. is_at (surface_of_kind o.kind) s) objects

abbrev pub not_label : ℕ → Object → Bool
not_label x o = not (o.label == x)

abbrev pub not_peer : ℕ → Object → Bool
not_peer p o = not (o.peer == p)

-- what a request other than a commit makes of its field
abbrev pub asked : Act → Kept → Kept
asked (acts.Enable f) kept = change.enabled kept
asked (acts.Disable f) kept = change.disabled kept
asked (acts.Surround f text cursor anchor) kept = change.surrounded text cursor anchor kept
asked (acts.Cause f cause) kept = change.caused cause kept
asked (acts.Content f hint purpose) kept = change.typed hint purpose kept
asked (acts.Cursor f rect) kept = change.placed rect kept
asked _ kept = kept

-- what a change of fields makes of a kind
abbrev pub changed : (Kept → Kept) → Kind → Kind
changed change (Field kept) = Field (change kept)
changed change Peer = Peer
changed change (Surface area) = Surface area
changed change Method = Method
changed change (Popup method surface) = Popup method surface
changed change (Grab method) = Grab method
changed change Thing = Thing
changed change Board = Board

-- the act is a request of the field f
abbrev pub requested : ℕ → Act → Object → Object
requested f act o = (if o.label == f then record o { kind = changed (asked act) o.kind } else o)

-- the focus is the peer's now
abbrev pub refocused : Option ℕ → Object → Object
refocused peer o = record o { kind = changed (change.focused (is_at peer o.peer)) o.kind }

-- the field f has committed once more, and took the seat from another field that may be named
abbrev pub committed : ℕ → (displaced : Option ℕ) → Object → Object
committed f displaced o =
    (if o.label == f then record o { kind = changed change.committed o.kind }
    else (if is_at displaced o.label then record o { kind = changed change.displaced o.kind }
    else o))

abbrev pub kind_placed : Rect → Kind → Kind
kind_placed rect (Surface area) = Surface rect
kind_placed rect Peer = Peer
kind_placed rect (Field kept) = Field kept
kind_placed rect Method = Method
kind_placed rect (Popup method surface) = Popup method surface
kind_placed rect (Grab method) = Grab method
kind_placed rect Thing = Thing
kind_placed rect Board = Board

-- the surface t is there on the screen
abbrev pub placed_at : ℕ → Rect → Object → Object
placed_at t rect o = (if o.label == t then record o { kind = kind_placed rect o.kind } else o)
