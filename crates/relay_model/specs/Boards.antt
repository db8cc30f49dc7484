-- Virtual keyboards: where the keys go that methods send of their own (zwp_virtual_keyboard_v1).
-- The keys of each board are counted by themselves.
use Rattle.std.specs.Prelude.{ℕ, List, [], ◌∷◌, Bool, false, not, ◌&&◌, ◌||◌, ◌==◌, nat_lt, if◌then◌else◌, Option, None}
use Rattle.std.specs.List.{count_by}
use Rattle.relay_model.specs.declared.act.Act.{Act}
use Rattle.relay_model.specs.declared.act.Act.TheVariants.{VKeymap, VKey}
use Rattle.relay_model.specs.Objects.{is_same, peer_of, is_board}
use Rattle.relay_model.specs.Focus.{peer_at}
use Rattle.relay_model.specs.Keys.{Goes, ToShell, Refused, standing, is_press, with_key, to_standing, as_first}

-- the board v has had a keymap
abbrev pub had_keymap : List Act → ℕ → Bool
had_keymap [] v = false
had_keymap (VKeymap b keymap ∷ older) v = b == v || had_keymap older v
had_keymap (_ ∷ older) v = had_keymap older v

-- the live board v has had a keymap: it may send keys and modifiers
abbrev pub sends : List Act → ℕ → Bool
sends log v = is_board log v && had_keymap log v

-- the grab that stands, unless it is of the board's own peer
abbrev pub grab_for : List Act → ℕ → Option ℕ
grab_for log v =
    (if is_same (peer_at log (standing log)) (peer_of log v) then None else standing log)

-- the keys that were pressed on the board v, each once
abbrev pub board_pressed : List Act → ℕ → List ℕ
board_pressed [] v = []
board_pressed (VKey b time key state ∷ older) v =
    (if b == v && is_press state then with_key key (board_pressed older v)
    else board_pressed older v)
board_pressed (_ ∷ older) v = board_pressed older v

-- the key is down on the board v: its last act there pressed it
abbrev pub board_down : List Act → ℕ → ℕ → Bool
board_down [] v key = false
board_down (VKey b time k state ∷ older) v key =
    (if b == v && key == k then is_press state else board_down older v key)
board_down (_ ∷ older) v key = board_down older v key

-- how many keys are down on the board v
abbrev pub board_number : List Act → ℕ → ℕ
board_number log v = count_by (board_down log v) (board_pressed log v)

-- the act presses a key that is up on the board v
abbrev pub first_on_board : List Act → ℕ → ℕ → ℕ → Bool
first_on_board log v key state = is_press state && not (board_down log v key)

-- of a key that is down on the board v: the grab that its first press went to since it was last up,
-- none where that passed to the shell
abbrev pub board_went : List Act → ℕ → ℕ → Option ℕ
board_went [] v key = None
board_went (VKey b time k state ∷ older) v key =
    (if b == v && key == k && first_on_board older v key state then grab_for older v
    else board_went older v key)
board_went (_ ∷ older) v key = board_went older v key

-- where a key of the board v goes: one that is down to where its first press went, a release of
-- another to the shell, a first press to the grab that stands and isn't of the board's peer, else
-- to the shell, and it is refused where 64 keys are down on the board
abbrev pub board_route : List Act → ℕ → ℕ → ℕ → Goes
board_route log v key state =
    (if board_down log v key then as_first log (board_went log v key)
    else (if not (is_press state) then ToShell
    else (if nat_lt (board_number log v) 64 then to_standing (grab_for log v) else Refused)))

-- the press is refused: 64 keys are down on the board v, and this is another
abbrev pub board_refused : List Act → ℕ → ℕ → ℕ → Bool
board_refused log v key state =
    first_on_board log v key state && not (nat_lt (board_number log v) 64)
