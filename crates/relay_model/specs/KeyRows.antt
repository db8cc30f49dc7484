-- Worked rows of keys and popups: what each act of a list tells, by the definitions.
use Rattle.std.specs.Prelude.{◌≡◌, ℕ, zero, suc, pos, negsuc, List, [], ◌∷◌}
use Rattle.popup_place.specs.declared.geometry.Rect.{Rect}
use Rattle.popup_place.specs.declared.geometry.Size.{Size}
use Rattle.relay_model.specs.declared.act.Act.{Act}
use Rattle.relay_model.specs.declared.act.Act.TheVariants as acts
use Rattle.relay_model.specs.declared.said.Said.TheVariants as said
use Rattle.relay_model.specs.Keys.{Keymap, Repeat, Mods}
use Rattle.relay_model.specs.Told.{to, told_each}

-- the modifiers with these masks and this layout
abbrev pub mods : (depressed latched locked group : ℕ) → Mods
mods depressed latched locked group =
    record { depressed = depressed; latched = latched; locked = locked; group = group }

-- the keymap with this format, token and size
abbrev pub keymap : (format token size : ℕ) → Keymap
keymap format token size = record { format = format; token = token; size = size }

-- 25 keys a second, the first after 600 milliseconds
abbrev pub repeat : Repeat
repeat = record { rate = pos 25; delay = pos 600 }

abbrev pub rect : ℕ → ℕ → ℕ → ℕ → Rect
rect x y width height = record { x = pos x; y = pos y; width = pos width; height = pos height }

abbrev pub size : ℕ → ℕ → Size
size width height = record { width = pos width; height = pos height }

-- a key goes where its press went, and a press to the grab that stands
abbrev pub Routing : Type 0
Routing =
    told_each []
    (acts.Peer
    ∷ acts.Method 1
    ∷ acts.Key 5 30 1
    ∷ acts.Grab 2
    ∷ acts.Key 6 30 0
    ∷ acts.Key 7 31 1
    ∷ acts.Key 8 31 0
    ∷ [])
    ≡ ([]
    ∷ []
    ∷ (to 0 (said.Pass 5 30 1) ∷ [])
    ∷ []
    ∷ (to 0 (said.Pass 6 30 0) ∷ [])
    ∷ (to 4 (said.Key 6 7 31 1) ∷ [])
    ∷ (to 4 (said.Key 7 8 31 0) ∷ [])
    ∷ [])

-- a key that was pressed under a grab which fell before the release
abbrev pub ReleasedAfterTheGrab : Type 0
ReleasedAfterTheGrab =
    told_each []
    (acts.Peer
    ∷ acts.Method 1
    ∷ acts.Grab 2
    ∷ acts.Key 5 30 1
    ∷ acts.Drop 3
    ∷ acts.Key 6 30 0
    ∷ acts.Key 7 30 1
    ∷ [])
    ≡ ([]
    ∷ []
    ∷ []
    ∷ (to 3 (said.Key 4 5 30 1) ∷ [])
    ∷ (to 1 (said.DeleteId 3) ∷ [])
    ∷ []
    ∷ (to 0 (said.Pass 7 30 1) ∷ [])
    ∷ [])

-- a grab is told the keyboard as it is when it stands, and one beside it never stands
abbrev pub GrabsInTurn : Type 0
GrabsInTurn =
    told_each []
    (acts.Peer
    ∷ acts.Method 1
    ∷ acts.Mods (mods 1 2 3 4)
    ∷ acts.Keymap (keymap 1 7 90)
    ∷ acts.Repeat repeat
    ∷ acts.Grab 2
    ∷ acts.Mods (mods 5 6 7 8)
    ∷ acts.Grab 2
    ∷ acts.Drop 6
    ∷ acts.Key 5 30 1
    ∷ acts.Grab 2
    ∷ [])
    ≡ ([]
    ∷ []
    ∷ []
    ∷ []
    ∷ []
    ∷ (to 6 (said.Keymap (keymap 1 7 90)) ∷ to 6 (said.Repeat repeat)
    ∷ to 6 (said.Mods 6 (mods 1 2 3 4)) ∷ [])
    ∷ (to 6 (said.Mods 7 (mods 5 6 7 8)) ∷ [])
    ∷ []
    ∷ (to 1 (said.DeleteId 6) ∷ [])
    ∷ (to 0 (said.Pass 5 30 1) ∷ [])
    ∷ (to 11 (said.Keymap (keymap 1 7 90)) ∷ to 11 (said.Repeat repeat)
    ∷ to 11 (said.Mods 11 (mods 5 6 7 8)) ∷ [])
    ∷ [])

-- a popup that fits above the cursor rectangle
abbrev pub Placement : Type 0
Placement =
    told_each []
    (acts.Peer
    ∷ acts.Surface 1
    ∷ acts.Field 1
    ∷ acts.Peer
    ∷ acts.Surface 4
    ∷ acts.Method 4
    ∷ acts.Screen (size 1000 800)
    ∷ acts.Area 2 (rect 100 200 900 600)
    ∷ acts.Area 5 (rect 0 0 200 100)
    ∷ acts.Focus 2
    ∷ acts.Enable 3
    ∷ acts.Cursor 3 (rect 850 560 2 20)
    ∷ acts.Commit 3
    ∷ acts.Popup 6 5
    ∷ [])
    ≡ ([]
    ∷ []
    ∷ []
    ∷ []
    ∷ []
    ∷ []
    ∷ []
    ∷ []
    ∷ []
    ∷ (to 3 (said.Enter 2) ∷ [])
    ∷ []
    ∷ []
    ∷ (to 6 said.Activate ∷ to 6 (said.ContentType 0 0) ∷ to 6 said.MethodDone ∷ [])
    ∷ (to 14 (said.PopupRect (pos 150) (pos 100) (pos 2) (pos 20))
    ∷ to 0 (said.Placed 14 (pos 800) (pos 660)) ∷ [])
    ∷ [])

-- two popups, on surfaces in the other order, told by rising label
abbrev pub TwoPopups : Type 0
TwoPopups =
    told_each []
    (acts.Peer
    ∷ acts.Surface 1
    ∷ acts.Field 1
    ∷ acts.Method 1
    ∷ acts.Surface 1
    ∷ acts.Surface 1
    ∷ acts.Screen (size 400 300)
    ∷ acts.Area 5 (rect 0 0 100 50)
    ∷ acts.Popup 4 6
    ∷ acts.Popup 4 5
    ∷ acts.Focus 2
    ∷ acts.Enable 3
    ∷ acts.Cursor 3 (rect 10 20 2 8)
    ∷ acts.Commit 3
    ∷ acts.Area 2 (rect 330 250 60 40)
    ∷ [])
    ≡ ([]
    ∷ []
    ∷ []
    ∷ []
    ∷ []
    ∷ []
    ∷ []
    ∷ []
    ∷ []
    ∷ []
    ∷ (to 3 (said.Enter 2) ∷ [])
    ∷ []
    ∷ []
    ∷ (to 4 said.Activate
    ∷ to 4 (said.ContentType 0 0)
    ∷ to 4 said.MethodDone
    ∷ to 9 (said.PopupRect (pos 0) (negsuc 7) (pos 2) (pos 8))
    ∷ to 0 (said.Placed 9 (pos 10) (pos 28))
    ∷ to 10 (said.PopupRect (pos 0) (negsuc 7) (pos 2) (pos 8))
    ∷ to 0 (said.Placed 10 (pos 10) (pos 28))
    ∷ [])
    ∷ (to 9 (said.PopupRect (pos 0) (negsuc 7) (pos 2) (pos 8))
    ∷ to 0 (said.Placed 9 (pos 340) (pos 278))
    ∷ to 10 (said.PopupRect (pos 40) (pos 50) (pos 2) (pos 8))
    ∷ to 0 (said.Placed 10 (pos 300) (pos 220))
    ∷ [])
    ∷ [])

-- the surface of a popup is dropped
abbrev pub PopupWithoutSurface : Type 0
PopupWithoutSurface =
    told_each []
    (acts.Peer
    ∷ acts.Surface 1
    ∷ acts.Field 1
    ∷ acts.Method 1
    ∷ acts.Surface 1
    ∷ acts.Popup 4 5
    ∷ acts.Focus 2
    ∷ acts.Enable 3
    ∷ acts.Cursor 3 (rect 10 20 2 8)
    ∷ acts.Commit 3
    ∷ acts.Screen (size 400 300)
    ∷ acts.Drop 5
    ∷ acts.Screen (size 200 100)
    ∷ [])
    ≡ ([]
    ∷ []
    ∷ []
    ∷ []
    ∷ []
    ∷ []
    ∷ (to 3 (said.Enter 2) ∷ [])
    ∷ []
    ∷ []
    ∷ (to 4 said.Activate
    ∷ to 4 (said.ContentType 0 0)
    ∷ to 4 said.MethodDone
    ∷ to 6 (said.PopupRect (pos 10) (negsuc 7) (pos 2) (pos 8))
    ∷ to 0 (said.Placed 6 (pos 0) (pos 28))
    ∷ [])
    ∷ (to 6 (said.PopupRect (pos 0) (negsuc 7) (pos 2) (pos 8))
    ∷ to 0 (said.Placed 6 (pos 10) (pos 28)) ∷ [])
    ∷ (to 1 (said.DeleteId 5) ∷ [])
    ∷ []
    ∷ [])

-- enabled again, a field has no rectangle, and no popup is shown
abbrev pub RectangleReset : Type 0
RectangleReset =
    told_each []
    (acts.Peer
    ∷ acts.Surface 1
    ∷ acts.Field 1
    ∷ acts.Method 1
    ∷ acts.Surface 1
    ∷ acts.Popup 4 5
    ∷ acts.Focus 2
    ∷ acts.Enable 3
    ∷ acts.Cursor 3 (rect 10 20 2 8)
    ∷ acts.Commit 3
    ∷ acts.Enable 3
    ∷ acts.Commit 3
    ∷ acts.Screen (size 400 300)
    ∷ [])
    ≡ ([]
    ∷ []
    ∷ []
    ∷ []
    ∷ []
    ∷ []
    ∷ (to 3 (said.Enter 2) ∷ [])
    ∷ []
    ∷ []
    ∷ (to 4 said.Activate
    ∷ to 4 (said.ContentType 0 0)
    ∷ to 4 said.MethodDone
    ∷ to 6 (said.PopupRect (pos 10) (negsuc 7) (pos 2) (pos 8))
    ∷ to 0 (said.Placed 6 (pos 0) (pos 28))
    ∷ [])
    ∷ []
    ∷ (to 4 said.Activate ∷ to 4 (said.ContentType 0 0) ∷ to 4 said.MethodDone ∷ [])
    ∷ []
    ∷ [])

-- a popup on a surface that has one isn't made; a popup outlives its method
abbrev pub PopupBesidePopup : Type 0
PopupBesidePopup =
    told_each []
    (acts.Peer
    ∷ acts.Surface 1
    ∷ acts.Method 1
    ∷ acts.Popup 3 2
    ∷ acts.Popup 3 2
    ∷ acts.Drop 4
    ∷ acts.Drop 5
    ∷ acts.Popup 3 2
    ∷ acts.Drop 3
    ∷ acts.Drop 8
    ∷ [])
    ≡ ([]
    ∷ []
    ∷ []
    ∷ []
    ∷ []
    ∷ (to 1 (said.DeleteId 4) ∷ [])
    ∷ []
    ∷ []
    ∷ (to 1 (said.DeleteId 3) ∷ [])
    ∷ (to 1 (said.DeleteId 8) ∷ [])
    ∷ [])

-- presses of so many keys
abbrev pub presses : ℕ → List Act
presses zero = []
presses (suc n) = acts.Key 0 n 1 ∷ presses n

-- with 64 keys down the press of another is refused, so its release passes
abbrev pub TooManyKeys : Type 0
TooManyKeys =
    told_each (presses 64)
    (acts.Key 1 64 1
    ∷ acts.Key 2 64 0
    ∷ acts.Key 3 5 1
    ∷ acts.Key 4 5 0
    ∷ acts.Key 5 64 1
    ∷ [])
    ≡ ([]
    ∷ (to 0 (said.Pass 2 64 0) ∷ [])
    ∷ (to 0 (said.Pass 3 5 1) ∷ [])
    ∷ (to 0 (said.Pass 4 5 0) ∷ [])
    ∷ (to 0 (said.Pass 5 64 1) ∷ [])
    ∷ [])
