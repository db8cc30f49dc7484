-- The popups that are shown, and where.
use Rattle.std.specs.Prelude.{ℕ, ℤ, pos, List, [], ◌∷◌, Bool, ◌&&◌, ◌==◌, if◌then◌else◌, Option, Some, None, is_some}
use Rattle.std.specs.List.{flat_map}
use Rattle.popup_place.specs.declared.geometry.Rect.{Rect}
use Rattle.popup_place.specs.declared.geometry.Size.{Size}
use Rattle.popup_place.specs.declared.popup.Placed.{Placed}
use Rattle.popup_place.specs.Popup.{place_of}
use Rattle.relay_model.specs.declared.act.Act.{Act}
use Rattle.relay_model.specs.declared.act.Act.TheVariants.{Area, Screen}
use Rattle.relay_model.specs.declared.said.Told.{Told}
use Rattle.relay_model.specs.declared.said.Said.TheVariants as said
use Rattle.relay_model.specs.Events.{to}
use Rattle.relay_model.specs.Objects.{is_same, method_of, surface_of, popups}
use Rattle.relay_model.specs.Focus.{where_alive, focus}
use Rattle.relay_model.specs.Hold.{holder}
use Rattle.relay_model.specs.Current.{current}
use Rattle.relay_model.specs.Activation.{serving}

-- the place and the size of the surface s on the screen: the last that the shell gave, else 0
abbrev pub area : List Act → ℕ → Rect
area [] s = record { x = pos 0; y = pos 0; width = pos 0; height = pos 0 }
area (Area t rect ∷ older) s = (if t == s then rect else area older s)
area (_ ∷ older) s = area older s

-- the size of the screen: the last that the shell gave, else 0 by 0
abbrev pub screen : List Act → Size
screen [] = record { width = pos 0; height = pos 0 }
screen (Screen size ∷ older) = size
screen (_ ∷ older) = screen older

abbrev pub rect_of : List Act → Option ℕ → Option Rect
rect_of log None = None
rect_of log (Some h) = (current log h).rect

-- the cursor rectangle of the field that holds the seat, where it is set
abbrev pub cursor : List Act → Option Rect
cursor log = rect_of log (holder log)

abbrev pub corner : Rect → ℤ × ℤ
corner rect = (rect.x, rect.y)

abbrev pub size_of : Rect → Size
size_of rect = record { width = rect.width; height = rect.height }

abbrev pub corner_of : List Act → Option ℕ → ℤ × ℤ
corner_of log None = (pos 0, pos 0)
corner_of log (Some s) = corner (area log s)

-- the corner of the focused surface on the screen
abbrev pub origin : List Act → ℤ × ℤ
origin log = corner_of log (focus log)

-- where a popup on the surface s stands beside the cursor rectangle
abbrev pub place : List Act → ℕ → Rect → Placed
place log s rect = place_of (screen log) (origin log) rect (size_of (area log s))

-- the surface of the popup x, where it is alive, x too, and x's method serves
abbrev pub ready_surface : List Act → ℕ → Option ℕ
ready_surface log x =
    (if is_same (method_of log x) (serving log) then where_alive log (surface_of log x) else None)

-- the popup x is shown: it is ready, and a field holds whose rectangle is set
abbrev pub popup_shown : List Act → ℕ → Bool
popup_shown log x = is_some (ready_surface log x) && is_some (cursor log)

-- the popup is told where the cursor rectangle is, and the shell where the popup stands
abbrev pub place_told : ℕ → Placed → List Told
place_told x placed =
    to x (said.PopupRect placed.seen.x placed.seen.y placed.seen.width placed.seen.height)
    ∷ to 0 (said.Placed x placed.x placed.y)
    ∷ []

abbrev pub told_where : List Act → ℕ → Option ℕ → Option Rect → List Told
told_where log x None rect = []
told_where log x (Some s) None = []
told_where log x (Some s) (Some rect) = place_told x (place log s rect)

-- what is told of the popup x, where it is shown
abbrev pub popup_told : List Act → ℕ → List Told
popup_told log x = told_where log x (ready_surface log x) (cursor log)

-- what is told of each popup, by rising label
abbrev pub each_popup : List Act → List Told
each_popup log = flat_map (popup_told log) (popups log)
