-- Idle acts, which change nothing and tell nothing.
use Rattle.std.specs.Prelude.{ℕ, ℤ, pos, negsuc, List, [], ◌∷◌, length, Bool, true, false, not, ◌&&◌, ◌||◌, ◌==◌, nat_le, nat_lt, if◌then◌else◌, slice_index, is_none}
use Rattle.popup_place.specs.declared.geometry.Rect.{Rect}
use Rattle.relay_model.specs.declared.act.Act.{Act}
use Rattle.relay_model.specs.declared.act.Act.TheVariants as acts
use Rattle.relay_model.specs.Objects.{is_at, is_field, is_surface, is_method, is_peer, is_board, alive, has_popup}
use Rattle.relay_model.specs.Focus.{focus, entered}
use Rattle.relay_model.specs.Keys.{is_refused}
use Rattle.relay_model.specs.Boards.{sends, board_refused}

-- the offset is that of a character's first byte, or the text's end
abbrev pub is_boundary : List ℕ → ℕ → Bool
is_boundary text n =
    (n == length text)
    || (nat_lt n (length text)
    && (nat_lt (slice_index text n) 128 || nat_le 192 (slice_index text n)))

-- a cursor or an anchor that a text can have (zwp_text_input_v3.set_surrounding_text)
abbrev pub is_place : List ℕ → ℤ → Bool
is_place text (pos n) = is_boundary text n
is_place text (negsuc n) = false

-- the number is 0 or more
abbrev pub is_not_negative : ℤ → Bool
is_not_negative (pos n) = true
is_not_negative (negsuc n) = false

-- a rectangle that a field can have (zwp_text_input_v3.set_cursor_rectangle)
abbrev pub is_sized : Rect → Bool
is_sized rect = is_not_negative rect.width && is_not_negative rect.height

-- The act does something. The objects that it names are alive and of its kind. A focus moves the
-- focus. A request of a field other than commit and drop comes while the field is entered. The
-- cursor and the anchor of a surrounding text are at the beginning of a character of it or at its
-- end. No side of a rectangle is negative. The surface of a new popup has no popup. A press isn't
-- refused. A board that sends keys or modifiers has had a keymap. A step that takes bytes for a
-- peer does nothing on the seat, so it stands in the log as Idle.
abbrev pub is_live : Act → List Act → Bool
is_live acts.Peer older = true
is_live (acts.Gone p cause) older = is_peer older p
is_live (acts.Surface p) older = is_peer older p
is_live (acts.Field p) older = is_peer older p
is_live (acts.Method p) older = is_peer older p
is_live (acts.Popup m s) older =
    is_method older m && (is_surface older s && not (has_popup older s))
is_live (acts.Grab m) older = is_method older m
is_live (acts.Drop x) older = alive older x && not (is_peer older x)
is_live (acts.Focus s) older = is_surface older s && not (is_at (focus older) s)
is_live acts.Unfocus older = not (is_none (focus older))
is_live (acts.Area s rect) older = is_surface older s
is_live (acts.Screen size) older = true
is_live (acts.Enable f) older = entered older f
is_live (acts.Disable f) older = entered older f
is_live (acts.Surround f text cursor anchor) older =
    entered older f && is_place text cursor && is_place text anchor
is_live (acts.Cause f cause) older = entered older f
is_live (acts.Content f hint purpose) older = entered older f
is_live (acts.Cursor f rect) older = entered older f && is_sized rect
is_live (acts.Commit f) older = is_field older f
is_live (acts.MString m text) older = is_method older m
is_live (acts.MPreedit m text begin end) older = is_method older m
is_live (acts.MDelete m before after) older = is_method older m
is_live (acts.MCommit m serial) older = is_method older m
is_live (acts.Key time key state) older = not (is_refused older key state)
is_live (acts.Mods mods) older = true
is_live (acts.Keymap keymap) older = true
is_live (acts.Repeat repeat) older = true
is_live (acts.Registry p role) older = is_peer older p
is_live (acts.Sync p) older = is_peer older p
is_live (acts.Seat p) older = is_peer older p
is_live (acts.Thing p) older = is_peer older p
is_live (acts.Bad p fault x) older = is_peer older p
is_live (acts.VBoard p) older = is_peer older p
is_live (acts.VKeymap v keymap) older = is_board older v
is_live (acts.VKey v time key state) older = sends older v && not (board_refused older v key state)
is_live (acts.VMods v mods) older = sends older v
is_live (acts.Took p bytes) older = false
is_live acts.Idle older = false

-- the act, or Idle in its place
abbrev pub cleaned : Act → List Act → Act
cleaned act older = (if is_live act older then act else acts.Idle)

-- a list of acts, the newest first, with Idle in the place of each act that was idle at its number:
-- a history
abbrev pub history : List Act → List Act
history [] = []
history (act ∷ older) = cleaned act (history older) ∷ history older
