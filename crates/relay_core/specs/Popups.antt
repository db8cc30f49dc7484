-- What popups and the shell are told of places.
use Rattle.std.specs.Prelude.{ℕ, ℤ, pos, List, [], ◌&&◌, if◌then◌else◌, Option, Some, None, is_some}
use Rattle.std.specs.List.{flat_map}
use Rattle.popup_place.specs.declared.geometry.Rect.{Rect}
use Rattle.popup_place.specs.Popup.{place_of}
use Rattle.relay_model.specs.declared.said.Told.{Told}
use Rattle.relay_model.specs.Objects.{is_at}
use Rattle.relay_model.specs.Popups.{corner, size_of, place_told}
use Rattle.relay_objects.specs.declared.object.Object.{Object}
use Rattle.relay_objects.specs.declared.object.Kind.{Kind}
use Rattle.relay_objects.specs.declared.object.Kind.TheVariants.{Popup}
use Rattle.relay_objects.specs.declared.listed.LivePopup.{LivePopup}
use Rattle.relay_objects.specs.Objects.{find, area_in}
use Rattle.relay_core.specs.State.{State, holder_state}

-- the cursor rectangle of the holder, where it is set
abbrev pub cursor_in : State → Option Rect
cursor_in s = (holder_state s).rect

abbrev pub corner_at : State → Option ℕ → ℤ × ℤ
corner_at s None = (pos 0, pos 0)
corner_at s (Some t) = corner (area_in (find s.objects t))

-- the corner of the focused surface on the screen
abbrev pub origin_in : State → ℤ × ℤ
origin_in s = corner_at s s.focus

-- a popup of the method m on the surface t, where it is shown beside the rectangle
abbrev pub shown_told : State → Rect → ℕ → ℕ → ℕ → List Told
shown_told s rect x m t =
    (if is_at s.serving m && is_some (find s.objects t) then
    place_told x (place_of s.screen (origin_in s) rect (size_of (area_in (find s.objects t))))
    else [])

-- the same of a popup that lives
abbrev pub live_told : State → Rect → LivePopup → List Told
live_told s rect w = shown_told s rect w.label w.method w.surface

abbrev pub kind_told : State → Rect → ℕ → Kind → List Told
kind_told s rect x (Popup m t) = shown_told s rect x m t
kind_told s rect x _ = []

-- what is told of an object, if it is a popup that is shown beside the rectangle
abbrev pub popup_told : State → Rect → Object → List Told
popup_told s rect o = kind_told s rect o.label o.kind

abbrev pub popups_beside : State → Option Rect → List Told
popups_beside s None = []
popups_beside s (Some rect) = flat_map (popup_told s rect) s.objects

-- what is told of each popup, by rising label
abbrev pub popups_told : State → List Told
popups_told s = popups_beside s (cursor_in s)

-- the same, where the field f holds
abbrev pub popups_where_holds : ℕ → State → List Told
popups_where_holds f s = (if is_at s.holder f then popups_told s else [])

abbrev pub popup_beside : State → Option Rect → Option Object → List Told
popup_beside s None o = []
popup_beside s (Some rect) None = []
popup_beside s (Some rect) (Some o) = popup_told s rect o

-- what is told of the popup that the act made
abbrev pub new_popup_told : State → List Told
new_popup_told s = popup_beside s (cursor_in s) (find s.objects s.acts)
