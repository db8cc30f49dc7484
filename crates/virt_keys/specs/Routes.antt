-- where the keys and modifiers of boards go, by looking back over the calls that were made for
-- them, the newest first
use Rattle.std.specs.Prelude.{ℕ, List, [], ◌∷◌, Bool, false, not, ◌||◌, ◌==◌, nat_lt, if◌then◌else◌, Option, Some, None}
use Rattle.std.specs.Option.{option_map}
use Rattle.kbd_grab.specs.declared.keyboard.Route.{Route}
use Rattle.kbd_grab.specs.declared.keyboard.Route.TheVariants.{Pass, TooMany}
use Rattle.kbd_grab.specs.Keys as keyboard
use Rattle.kbd_grab.specs.Keys.{to_standing, as_first}

-- a board is made for a peer or ends; it is given a keymap; a key of it is pressed (true) or
-- released, while a grab with its peer stands or none; a peer ends, with its boards
pub data Call : Type 0 where
  Make : (board peer : ℕ) → Call
  Drop : (board : ℕ) → Call
  Keymap : (board : ℕ) → Call
  Key : (board key : ℕ) (pressed : Bool) (grab : Option (ℕ × ℕ)) → Call
  Gone : (peer : ℕ) → Call

-- a board of this peer, if it is there, is of that one
abbrev pub is_of : Option ℕ → (peer : ℕ) → Bool
is_of None peer = false
is_of (Some p) peer = p == peer

-- the peer of a live board
abbrev pub peer_of : List Call → (board : ℕ) → Option ℕ
peer_of [] board = None
peer_of (Make b peer ∷ older) board = (if board == b then Some peer else peer_of older board)
peer_of (Drop b ∷ older) board = (if board == b then None else peer_of older board)
peer_of (Gone peer ∷ older) board =
    (if is_of (peer_of older board) peer then None else peer_of older board)
peer_of (_ ∷ older) board = peer_of older board

-- the live board was given a keymap
abbrev pub had_keymap : List Call → (board : ℕ) → Bool
had_keymap [] board = false
had_keymap (Drop b ∷ older) board = (if board == b then false else had_keymap older board)
had_keymap (Keymap b ∷ older) board = board == b || had_keymap older board
had_keymap (Gone peer ∷ older) board =
    (if is_of (peer_of older board) peer then false else had_keymap older board)
had_keymap (_ ∷ older) board = had_keymap older board

-- of the standing grab and its peer: the grab, where its peer isn't the board's
abbrev pub of_another : (peer : Option ℕ) → (grab : Option (ℕ × ℕ)) → Option ℕ
of_another None grab = None
of_another (Some peer) None = None
of_another (Some peer) (Some grab) = (if grab.1 == peer then None else Some grab.0)

-- that this grab stands, or none, as a call on a keyboard
abbrev pub standing_call : Option ℕ → keyboard.Call
standing_call None = keyboard.Call.Fall
standing_call (Some label) = keyboard.Call.Stand label

-- The board as a keyboard by itself, on which at each press or release the standing grab stands
-- where its peer isn't the board's: the calls on it, the newest first, none where the board isn't
-- live.
abbrev pub own_calls : List Call → (board : ℕ) → List keyboard.Call
own_calls [] board = []
own_calls (Drop b ∷ older) board = (if board == b then [] else own_calls older board)
own_calls (Gone peer ∷ older) board =
    (if is_of (peer_of older board) peer then [] else own_calls older board)
own_calls (Key b key pressed grab ∷ older) board =
    (if board == b
    then keyboard.Call.Key key pressed ∷ standing_call (of_another (peer_of older board) grab)
    ∷ own_calls older board
    else own_calls older board)
own_calls (_ ∷ older) board = own_calls older board

-- the key is down on the board
abbrev pub is_down : List Call → (board key : ℕ) → Bool
is_down calls board key = keyboard.is_down (own_calls calls board) key

-- how many keys are down on the board
abbrev pub number_down : List Call → (board : ℕ) → ℕ
number_down calls board = keyboard.number_down (own_calls calls board)

-- of a key that is down on the board: the grab that its first press went to, none where it passed
-- to the shell
abbrev pub first_went : List Call → (board key : ℕ) → Option ℕ
first_went calls board key = keyboard.first_went (own_calls calls board) key

-- where a press (true) or a release goes: a key that is down where its first press went, and
-- nowhere where that is a grab that doesn't stand; a release of another to the shell; a first press
-- to the standing grab where its peer isn't the board's, else to the shell, and it is refused where
-- 64 keys are down on the board
abbrev pub key_route : List Call → (board key : ℕ) (pressed : Bool) (grab : Option (ℕ × ℕ)) → Route
key_route calls board key pressed grab =
    (if is_down calls board key
    then as_first (option_map (λ g. g.0) grab) (first_went calls board key)
    else (if not pressed then Pass
    else (if nat_lt (number_down calls board) 64
    then to_standing (of_another (peer_of calls board) grab) else TooMany)))

-- the press is refused: 64 keys are down on the board, and this is another
abbrev pub is_refused : List Call → (board key : ℕ) (pressed : Bool) → Bool
is_refused calls board key pressed = keyboard.is_refused (own_calls calls board) key pressed

-- where modifiers go: to the standing grab where its peer isn't the board's, else to the shell
abbrev pub mods_route : List Call → (board : ℕ) (grab : Option (ℕ × ℕ)) → Route
mods_route calls board grab = to_standing (of_another (peer_of calls board) grab)
