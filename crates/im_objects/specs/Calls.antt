-- What an id and a label name, by looking back over the calls on a table, the newest first.
use Rattle.std.specs.Prelude.{ℕ, ◌+◌, ◌-◌, List, [], ◌∷◌, Bool, false, not, ◌&&◌, ◌==◌, Option, Some, None, is_some, if◌then◌else◌}
use Rattle.wl_proto.specs.declared.interface.Interface.{Interface}

-- an object was made under an id, or an id was to be dropped; the display's is made first
pub data Call : Type 0 where
  Make : (id : ℕ) (interface : Interface) (label : ℕ) → Call
  Drop : (id : ℕ) → Call

-- the object has this label
abbrev pub has_label : (label : ℕ) → Option (Interface × ℕ) → Bool
has_label label None = false
has_label label (Some object) = label == object.1

-- the object under the id: the last that was made under it, unless the id was dropped since; the
-- display's never is
abbrev pub object_under : List Call → (id : ℕ) → Option (Interface × ℕ)
object_under [] id = None
object_under (Make at interface label ∷ older) id =
    (if id == at then Some (interface, label) else object_under older id)
object_under (Drop at ∷ older) id =
    (if not (at == 1) && id == at then None else object_under older id)

-- to drop the id has an effect: an object is under it, and it isn't the display's
abbrev pub takes_effect : List Call → (id : ℕ) → Bool
takes_effect calls id = not (id == 1) && is_some (object_under calls id)

-- the id of the object with this label: the last under which one was made with it, unless that
-- object was dropped since
abbrev pub id_of : List Call → (label : ℕ) → Option ℕ
id_of [] label = None
id_of (Make id interface other ∷ older) label =
    (if label == other then Some id else id_of older label)
id_of (Drop id ∷ older) label =
    (if not (id == 1) && has_label label (object_under older id) then None else id_of older label)

-- how many objects are live, the display with them
abbrev pub number_live : List Call → ℕ
number_live [] = 0
number_live (Make id interface label ∷ older) =
    (if is_some (object_under older id) then number_live older else number_live older + 1)
number_live (Drop id ∷ older) =
    (if takes_effect older id then number_live older - 1 else number_live older)
