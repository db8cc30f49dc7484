-- What a change makes of an object.
use Rattle.std.specs.Prelude.{ℕ, ◌==◌, Option, if◌then◌else◌}
use Rattle.popup_place.specs.declared.geometry.Rect.{Rect}
use Rattle.relay_model.specs.Objects.{is_at}
use Rattle.field_state.specs.Stands.{Kept}
use Rattle.field_state.specs.Changes as change
use Rattle.relay_objects.specs.declared.change.Change.{Change}
use Rattle.relay_objects.specs.declared.change.Change.TheVariants.{Ask, Focus, Commit, Displace, Area}
use Rattle.relay_objects.specs.declared.object.Object.{Object}
use Rattle.relay_objects.specs.declared.object.Kind.{Kind}
use Rattle.relay_objects.specs.Fits.{FitsMessage, FindsRoom}
use Rattle.relay_objects.specs.Objects.{asked, changed, kind_placed}

-- a request's text is one that a message can carry, and finds memory
abbrev pub FitsChange : Change → (room : Option (Unit {0})) → Type 0
FitsChange (Ask act) room = FitsMessage act.now × FindsRoom act.now room
FitsChange (Focus peer) room = Unit {0}
FitsChange Commit room = Unit {0}
FitsChange Displace room = Unit {0}
FitsChange (Area rect) room = Unit {0}

-- what a field keeps after the change, its peer given
abbrev pub field_after : Change → ℕ → Kept → Kept
field_after (Ask act) p = asked act.now
field_after (Focus peer) p = change.focused (is_at peer p)
field_after Commit p = change.committed
field_after Displace p = change.displaced
field_after (Area rect) p = λ kept. kept

abbrev pub area_after : Change → Rect → Rect
area_after (Ask act) area = area
area_after (Focus peer) area = area
area_after Commit area = area
area_after Displace area = area
area_after (Area rect) area = rect

abbrev pub kind_after : Change → ℕ → Kind → Kind
kind_after (Ask act) p = changed (asked act.now)
kind_after (Focus peer) p = changed (change.focused (is_at peer p))
kind_after Commit p = changed change.committed
kind_after Displace p = changed change.displaced
kind_after (Area rect) p = kind_placed rect

-- the object after the change
abbrev pub changed_by : Change → Object → Object
changed_by c o = record o { kind = kind_after c o.peer o.kind }

-- the change is of the object x alone
abbrev pub changed_at : ℕ → Change → Object → Object
changed_at x c o = (if o.label == x then changed_by c o else o)
