-- What holds of what is said of keys, and of acts without effect.
use Rattle.std.specs.Prelude.{◌≡◌, ◌⊎◌, ℕ, List, [], ◌∷◌, Bool, true, false, ◌==◌, if◌then◌else◌, Option, Some, None, is_some}
use Rattle.std.specs.Option.{option_map}
use Rattle.relay_model.specs.declared.act.Act.{Act}
use Rattle.relay_model.specs.declared.act.Act.TheVariants as acts
use Rattle.relay_model.specs.Keys.{Goes, ToGrab, ToShell, Nowhere, Refused, standing, grab_stands, is_press, is_down, first_went, key_route}
use Rattle.relay_model.specs.Boards.{board_route}
use Rattle.relay_model.specs.Idle.{history, is_live}
use Rattle.wl_proto.specs.declared.interface.Interface.{Interface}
use Rattle.wl_proto.specs.declared.interface.Interface.TheVariants as interface
use Rattle.wl_proto.specs.Grammar.{Value}
use Rattle.wl_proto.specs.Rows.{request_kinds}
use Rattle.broker_model.specs.Requests.{Argument, arguments_of}
use Rattle.broker_model.specs.declared.journal.Entry.{Entry}
use Rattle.broker_model.specs.Resolve.{resolve}
use Rattle.broker_model.specs.Out.{act_at}
use Rattle.lines_explained.specs.declared.key_way.KeyWay.{KeyWay}
use Rattle.lines_explained.specs.declared.key_way.KeyWay.TheVariants as ways
use Rattle.lines_explained.specs.KeyWay.{key_before, way_past, way_of}
use Rattle.lines_explained.specs.Lack.{reason, lack_holds}
use Rattle.lines_explained.specs.Journals.{was_passed, was_put}

-- what is said of the newest entry's key, if it sends one
abbrev pub key_way_at : ℕ → Entry → List Entry → Option KeyWay
key_way_at capacity e older =
    option_map (λ sent. way_of sent (was_passed e older) (was_put capacity e older))
    (key_before (act_at e older) (resolve older))

-- by the route of the key, whether a group was put, and the grab that stands
abbrev pub way_by : Goes → (of_board put : Bool) → Option ℕ → KeyWay
way_by (ToGrab g) of_board true grab = ways.ToGrab g
way_by (ToGrab g) of_board false grab = ways.Nowhere grab
way_by ToShell of_board put grab = way_past of_board grab
way_by Nowhere of_board put grab = ways.Nowhere grab
way_by Refused of_board put grab = ways.Nowhere grab

-- a key of the seat's keyboard that isn't refused is said to go where its route leads; to a grab only
-- where the group that tells it was put
abbrev pub KeysRouted : Type 0
KeysRouted =
    (capacity : ℕ) (e : Entry) (older : List Entry) (time key state : ℕ) →
    act_at e older ≡ acts.Key time key state →
    is_live (acts.Key time key state) (history (resolve older)) ≡ true →
    key_way_at capacity e older
    ≡ Some (way_by (key_route (history (resolve older)) key state) false
    (was_put capacity e older) (standing (history (resolve older))))

-- and so is a key of a board
abbrev pub BoardKeysRouted : Type 0
BoardKeysRouted =
    (capacity : ℕ) (e : Entry) (older : List Entry) (v time key state : ℕ) →
    act_at e older ≡ acts.VKey v time key state →
    is_live (acts.VKey v time key state) (history (resolve older)) ≡ true →
    key_way_at capacity e older
    ≡ Some (way_by (board_route (history (resolve older)) v key state) true
    (was_put capacity e older) (standing (history (resolve older))))

-- the key is down, and its first press passed to the shell; or it is up, and this is a release
abbrev pub HasNoPress : List Act → (key state : ℕ) → Type 0
HasNoPress log key state =
    ((is_down log key ≡ true) × (first_went log key ≡ None))
    ⊎ ((is_down log key ≡ false) × (is_press state ≡ false))

-- a key passes by the grab that stands only where that did not get its press
abbrev pub PastHasNoPress : Type 0
PastHasNoPress =
    (log : List Act) (key state g : ℕ) → standing log ≡ Some g →
    key_route log key state ≡ ToShell → HasNoPress log key state

-- a key goes nowhere only where the grab that got its press stands no more
abbrev pub NowhereHasFallen : Type 0
NowhereHasFallen =
    (log : List Act) (key state : ℕ) → key_route log key state ≡ Nowhere →
    (g : ℕ) × (first_went log key ≡ Some g) × (grab_stands log g ≡ false)

-- the interface of an object argument of a request with the opcode
abbrev pub interface_named : (opcode : ℕ) → Interface
interface_named opcode = (if opcode == 4 then interface.Surface else interface.Seat)

-- each of these arguments is an object of that interface
abbrev pub AllNamed : (opcode : ℕ) → List Argument → Type 0
AllNamed opcode [] = Unit {0}
AllNamed opcode (a ∷ rest) = (a.interface ≡ interface_named opcode) × AllNamed opcode rest

-- each object argument of a request that is read is a surface where its opcode is 4, else a seat
abbrev pub ArgumentsNamed : Type 0
ArgumentsNamed =
    (i : Interface) (opcode : ℕ) (vs : List Value) → is_some (request_kinds i opcode) ≡ true →
    AllNamed opcode (arguments_of i opcode vs)

-- the reason that is given of an act without effect holds
abbrev pub LacksHold : Type 0
LacksHold =
    (act : Act) (log : List Act) → is_live act log ≡ false →
    lack_holds (reason act log) act log ≡ true
