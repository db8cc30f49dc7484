-- The boards as the relay keeps them: what an act makes of them, and where goes what they send.
use Rattle.std.specs.Prelude.{refl, ◌≡◌, ℕ, ◌+◌, ◌<◌, List, [], Bool, true, false, ◌&&◌, ◌==◌, if◌then◌else◌, Option, Some, None}
use Rattle.std.specs.FinMap as map
use Rattle.std.specs.Coded.{Coded, code_by, coded×, coded_option, coded_ℕ}
use Rattle.relay_model.specs.declared.act.Act.{Act}
use Rattle.relay_model.specs.declared.act.Act.TheVariants as acts
use Rattle.relay_model.specs.declared.said.Told.{Told}
use Rattle.relay_model.specs.Objects.{is_at}
use Rattle.relay_model.specs.Keys.{is_press}
use Rattle.kbd_grab.specs.declared.keyboard.Route.{Route}
use Rattle.virt_keys.specs.Boards.{Board, new_board, routed, turned, mods_routed}
pub use Rattle.virt_keys.specs.PeerBoards.{unless_of}
use Rattle.relay_objects.specs.Objects.{find, is_peer_in}
use Rattle.relay_objects.specs.Keyboard.{key_told, board_mods_told}
use Rattle.virt_keys.specs.Boards as virt
use Rattle.relay_core.specs.State.{State, owner_at}

-- the boards by their labels, and the label of one that was made ahead and isn't there yet
pub record Boards : Type 0 where
  pub keys : virt.Boards
  pub ahead : Option ℕ

-- boards are stored as the pair of their fields
abbrev pub boards_code : Coded Boards
boards_code =
    code_by (virt.Boards × Option ℕ)
    (coded× (map.code coded_ℕ virt.board_code) (coded_option coded_ℕ))
    (λ b. (b.keys, b.ahead))
    (λ p. record { keys = p.0; ahead = p.1 })
    (λ _. refl)

-- the board with the label, where it lives; one that was made ahead doesn't yet
abbrev pub live_board : Boards → ℕ → Option Board
live_board b v = (if is_at b.ahead v then None else map.get b.keys v)

-- the board lives and has had a keymap
abbrev pub may_send : Option Board → Bool
may_send None = false
may_send (Some o) = o.has_keymap

-- the board is given a keymap
abbrev pub with_keymap : Option Board → Option Board
with_keymap None = None
with_keymap (Some o) = Some (record o { has_keymap = true })

-- a key of the board is pressed or released, where it has had a keymap
abbrev pub key_turned : (key : ℕ) (pressed : Bool) (grab : Option (ℕ × ℕ)) → Option Board →
    Option Board
key_turned key pressed grab None = None
key_turned key pressed grab (Some o) = Some (if o.has_keymap then turned o key pressed grab else o)

-- where that goes
abbrev pub key_sent : (key : ℕ) (pressed : Bool) (grab : Option (ℕ × ℕ)) → Option Board →
    Option Route
key_sent key pressed grab None = None
key_sent key pressed grab (Some o) =
    (if o.has_keymap then Some (routed o key pressed grab) else None)

-- where modifiers of the board go, where it has had a keymap
abbrev pub mods_sent : (grab : Option (ℕ × ℕ)) → Option Board → Option Route
mods_sent grab None = None
mods_sent grab (Some o) = (if o.has_keymap then Some (mods_routed o grab) else None)

abbrev pub grab_with : (grab peer : Option ℕ) → Option (ℕ × ℕ)
grab_with None peer = None
grab_with (Some g) None = None
grab_with (Some g) (Some p) = Some (g, p)

-- the grab that stands, with its peer
abbrev pub grab_in : State → Option (ℕ × ℕ)
grab_in s = grab_with s.keys.standing (owner_at s.objects s.keys.standing)

-- the live board v after an act
abbrev pub board_after : Act → State → Boards → ℕ → Option Board
board_after (acts.VBoard p) s b v =
    (if is_peer_in (find s.objects p) && (s.acts + 1 == v) then Some (new_board p)
    else live_board b v)
board_after (acts.VKeymap x keymap) s b v =
    (if x == v then with_keymap (live_board b v) else live_board b v)
board_after (acts.VKey x time key state) s b v =
    (if x == v then key_turned key (is_press state) (grab_in s) (live_board b v)
    else live_board b v)
board_after (acts.Drop x) s b v = (if x == v then None else live_board b v)
board_after (acts.Gone p cause) s b v =
    (if is_peer_in (find s.objects p) then unless_of p (live_board b v) else live_board b v)
board_after _ s b v = live_board b v

-- where goes what the act's board sends, if it sends something
abbrev pub sent_by : Act → State → Boards → Option Route
sent_by (acts.VKey x time key state) s b =
    key_sent key (is_press state) (grab_in s) (live_board b x)
sent_by (acts.VMods x mods) s b = mods_sent (grab_in s) (live_board b x)
sent_by _ s b = None

-- what the act with the number tells of it
abbrev pub sent_told : Act → ℕ → Option Route → List Told
sent_told (acts.VKey x time key state) n (Some route) = key_told n time key state route
sent_told (acts.VMods x mods) n (Some route) = board_mods_told n mods route
sent_told _ n _ = []

-- the act changes boards, or tells where goes what they send; no other act has to do with them
abbrev pub is_for_boards : Act → Bool
is_for_boards (acts.VBoard p) = true
is_for_boards (acts.VKeymap v keymap) = true
is_for_boards (acts.VKey v time key state) = true
is_for_boards (acts.VMods v mods) = true
is_for_boards (acts.Drop x) = true
is_for_boards (acts.Gone p cause) = true
is_for_boards _ = false

-- a board of the peer was made ahead, under the label of the act that comes next
pub record IsAhead (peer : ℕ) (s : State) (b : Boards) : Type 0 where
  pub label : b.ahead ≡ Some (s.acts + 1)
  pub board : map.get b.keys (s.acts + 1) ≡ Some (new_board peer)

-- what the act needs of boards is made; the last act of all is never taken
abbrev pub HasBoard : Act → State → Boards → Type 0
HasBoard (acts.VBoard p) s b = s.acts < 4294967295 → IsAhead p s b
HasBoard _ s b = Unit {0}
