-- what a `VKeys` shows: the live boards, and the lists of calls that they stand for
use Rattle.std.specs.Prelude.{refl, ◌≡◌, ℕ, List, [], Bool, false, not, ◌&&◌, Option, Some, None, IsSomeAnd, if◌then◌else◌, ◌≢◌}
use Rattle.std.specs.Option.{option_map}
use Rattle.std.specs.Ordering.{nat_cmp}
use Rattle.std.specs.FinMap as map
use Rattle.std.specs.Coded.{Coded, code_by, coded×, coded_option, coded_bool, coded_ℕ}
use Rattle.kbd_grab.specs.declared.keyboard.Route.{Route}
use Rattle.kbd_grab.specs.Keys as keyboard
use Rattle.kbd_grab.specs.Keys.{to_standing}
use Rattle.kbd_grab.specs.Keyboard.{DownKeys, routed_at, turned_at, refused_at}
use Rattle.virt_keys.specs.Routes.{Call, peer_of, had_keymap, of_another, own_calls}

pub record Board : Type 0 where
  pub peer : ℕ
  pub has_keymap : Bool
  -- the keys that are down, each with the grab that its first press went to, none where it passed
  -- to the shell
  pub down : DownKeys

-- the live boards by their labels
abbrev pub Boards : Type 0
Boards = map.FinMap nat_cmp Board

-- a board is stored as the pair of its peer with the pair of the rest
abbrev pub board_code : Coded Board
board_code =
    code_by (ℕ × (Bool × DownKeys))
    (coded× coded_ℕ (coded× coded_bool (map.code coded_ℕ (coded_option coded_ℕ))))
    (λ b. (b.peer, (b.has_keymap, b.down)))
    (λ p. record { peer = p.0; has_keymap = p.1.0; down = p.1.1 })
    (λ _. refl)

-- a board as it is made
abbrev pub new_board : (peer : ℕ) → Board
new_board peer = record { peer = peer; has_keymap = false; down = map.empty }

-- there is a board, and it was given a keymap
abbrev pub keymap_at : Option Board → Bool
keymap_at None = false
keymap_at (Some board) = board.has_keymap

-- where a press (true) or a release goes, while a grab with its peer stands or none
abbrev pub routed : Board → (key : ℕ) (pressed : Bool) (grab : Option (ℕ × ℕ)) → Route
routed board key pressed grab =
    routed_at (map.get board.down key) (of_another (Some board.peer) grab)
    (option_map (λ g. g.0) grab)
    (map.len board.down) pressed

-- the board after it
abbrev pub turned : Board → (key : ℕ) (pressed : Bool) (grab : Option (ℕ × ℕ)) → Board
turned board key pressed grab =
    record board {
      down = turned_at (map.get board.down key)
          (of_another (Some board.peer) grab) board.down key pressed;
    }

-- there is a board that was given a keymap, and it doesn't refuse the press or release
abbrev pub takes_at : Option Board → (key : ℕ) (pressed : Bool) → Bool
takes_at None key pressed = false
takes_at (Some board) key pressed =
    board.has_keymap && not (refused_at (map.get board.down key) (map.len board.down) pressed)

-- where modifiers go
abbrev pub mods_routed : Board → (grab : Option (ℕ × ℕ)) → Route
mods_routed board grab = to_standing (of_another (Some board.peer) grab)

-- the key is down, and its first press went to a grab that doesn't stand
abbrev pub IsElsewhere : (here : Option (Option ℕ)) (standing : Option ℕ) → Type 0
IsElsewhere here standing = IsSomeAnd here (λ went. IsSomeAnd went (λ label. standing ≢ Some label))

-- the keys that are down are those that these calls, the newest first, leave down on one keyboard
pub record AreDown (calls : List keyboard.Call) (down : DownKeys) : Type 0 where
  pub keys : (key : ℕ) → map.get down key
      ≡ (if keyboard.is_down calls key then Some (keyboard.first_went calls key) else None)
  pub number : map.len down ≡ keyboard.number_down calls

-- the live board is what these calls, the newest first, make of it
pub record IsMade (calls : List Call) (label : ℕ) (board : Board) : Type 0 where
  pub peer : peer_of calls label ≡ Some board.peer
  pub keymap : had_keymap calls label ≡ board.has_keymap
  pub down : AreDown (own_calls calls label) board.down

-- after these calls no live board has the label
pub record IsNone (calls : List Call) (label : ℕ) : Type 0 where
  pub peer : peer_of calls label ≡ None
  pub keymap : had_keymap calls label ≡ false
  pub down : own_calls calls label ≡ []

abbrev pub IsAfter : List Call → (label : ℕ) → Option Board → Type 0
IsAfter calls label None = IsNone calls label
IsAfter calls label (Some board) = IsMade calls label board

-- the boards are what these calls, the newest first, make of them
pub record StandsFor (calls : List Call) (boards : Boards) : Type 0 where
  pub each : (label : ℕ) → IsAfter calls label (map.get boards label)
