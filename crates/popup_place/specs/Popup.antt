-- where a popup stands beside the cursor rectangle of the focused surface; larger numbers are
-- further right and down
use Rattle.std.specs.Prelude.{ℤ, pos, ◌+ℤ◌, ◌-ℤ◌, Bool, ◌&&◌, if◌then◌else◌, int_le}
use Rattle.std.specs.Int.{int_min, int_max, w32, saturate_signed}
use Rattle.popup_place.specs.declared.geometry.Rect.{Rect}
use Rattle.popup_place.specs.declared.geometry.Size.{Size}
use Rattle.popup_place.specs.declared.popup.Placed.{Placed}

-- the cursor rectangle's left edge on the screen: the surface's corner and the rectangle's
abbrev pub left : (origin : ℤ × ℤ) → Rect → ℤ
left origin rect = origin.0 +ℤ rect.x

-- its top edge on the screen
abbrev pub top : (origin : ℤ × ℤ) → Rect → ℤ
top origin rect = origin.1 +ℤ rect.y

-- under: the popup begins where the cursor rectangle ends
abbrev pub under : (origin : ℤ × ℤ) → Rect → ℤ
under origin rect = top origin rect +ℤ rect.height

-- above: the popup ends where the cursor rectangle begins
abbrev pub above : (origin : ℤ × ℤ) → Rect → Size → ℤ
above origin rect size = top origin rect -ℤ size.height

-- a popup whose top edge is at `y` fits where nothing of it is above or below the screen
abbrev pub fits : (screen : Size) → Size → (y : ℤ) → Bool
fits screen size y = int_le (pos 0) y && int_le (y +ℤ size.height) screen.height

-- of the two: under where that fits, else above where that fits, else under
abbrev pub y_of : (screen : Size) → Size → (under above : ℤ) → ℤ
y_of screen size under above =
    if fits screen size under then under else (if fits screen size above then above else under)

-- at the cursor rectangle's left edge, or as far left of it as the screen's right edge asks, and 0
-- where that is negative
abbrev pub x_of : (screen : Size) → Size → (left : ℤ) → ℤ
x_of screen size left = int_max (int_min left (screen.width -ℤ size.width)) (pos 0)

-- the cursor rectangle from a corner of the popup at (x, y), cut to the range of i32
abbrev pub seen_from : (x y : ℤ) (origin : ℤ × ℤ) → Rect → Rect
seen_from x y origin rect = record {
  x = saturate_signed w32 (left origin rect -ℤ x);
  y = saturate_signed w32 (top origin rect -ℤ y);
  width = rect.width;
  height = rect.height;
}

-- the rule: the popup's place, and what the popup is told
abbrev pub place_of : (screen : Size) (origin : ℤ × ℤ) → Rect → Size → Placed
place_of screen origin rect size =
    let x = x_of screen size (left origin rect) in
    let y = y_of screen size (under origin rect) (above origin rect size) in
    record { x = x; y = y; seen = seen_from x y origin rect }
