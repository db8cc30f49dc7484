-- The focus, and the fields that are entered.
use Rattle.std.specs.Prelude.{ℕ, max, List, [], ◌∷◌, Bool, ◌&&◌, if◌then◌else◌, Option, Some, None}
use Rattle.relay_model.specs.declared.act.Act.{Act}
use Rattle.relay_model.specs.declared.act.Act.TheVariants.{Focus, Unfocus}
use Rattle.relay_model.specs.Objects.{next, is_same, alive, peer_of, is_field}

-- the surface of the last focus act, where no unfocus came since
abbrev pub last_focus : List Act → Option ℕ
last_focus [] = None
last_focus (Focus s ∷ older) = Some s
last_focus (Unfocus ∷ older) = None
last_focus (_ ∷ older) = last_focus older

abbrev pub where_alive : List Act → Option ℕ → Option ℕ
where_alive log None = None
where_alive log (Some s) = (if alive log s then Some s else None)

-- the surface that has the focus: that of the last focus act, while it is alive
abbrev pub focus : List Act → Option ℕ
focus log = where_alive log (last_focus log)

-- the number of the last focus act
abbrev pub focus_since : List Act → ℕ
focus_since [] = 0
focus_since (Focus s ∷ older) = next older
focus_since (_ ∷ older) = focus_since older

abbrev pub peer_at : List Act → Option ℕ → Option ℕ
peer_at log None = None
peer_at log (Some s) = peer_of log s

-- the peer of the surface that has the focus
abbrev pub focused_peer : List Act → Option ℕ
focused_peer log = peer_at log (focus log)

-- the field is alive, and its peer's surface has the focus (zwp_text_input_v3.enter)
abbrev pub entered : List Act → ℕ → Bool
entered log f = is_field log f && is_same (peer_of log f) (focused_peer log)

-- since when a field is entered: the later of the act that gave the focus and the field's own
-- making
abbrev pub entered_since : List Act → ℕ → ℕ
entered_since log f = max (focus_since log) f
