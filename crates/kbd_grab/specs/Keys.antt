-- where keys go, by looking back over the calls that a grab's keyboard has had, the newest first
use Rattle.std.specs.Prelude.{◌≡◌, ℕ, List, [], ◌∷◌, Bool, true, false, not, ◌&&◌, ◌||◌, ◌==◌, nat_lt, if◌then◌else◌, Option, Some, None}
use Rattle.std.specs.List.{count_by, list_any}
use Rattle.kbd_grab.specs.declared.keyboard.Keymap.{Keymap}
use Rattle.kbd_grab.specs.declared.keyboard.Mods.{Mods}
use Rattle.kbd_grab.specs.declared.keyboard.Repeat.{Repeat}
use Rattle.kbd_grab.specs.declared.keyboard.Route.{Route}
use Rattle.kbd_grab.specs.declared.keyboard.Route.TheVariants.{ToGrab, Pass, Nowhere, TooMany}

-- a grab stands or falls, a key is pressed (true) or released, the shell tells its keymap, repeat
-- or modifiers
pub data Call : Type 0 where
  Stand : (label : ℕ) → Call
  Fall : Call
  Key : (key : ℕ) (pressed : Bool) → Call
  TellKeymap : Keymap → Call
  TellRepeat : Repeat → Call
  TellMods : Mods → Call

-- the grab that stands: the last that stood up and hasn't fallen
abbrev pub grab_standing : List Call → Option ℕ
grab_standing [] = None
grab_standing (Stand label ∷ older) = Some label
grab_standing (Fall ∷ older) = None
grab_standing (_ ∷ older) = grab_standing older

-- the keys that were pressed, each once
abbrev pub pressed_keys : List Call → List ℕ
pressed_keys [] = []
pressed_keys (Key key true ∷ older) =
    (if list_any (λ k. key == k) (pressed_keys older) then pressed_keys older
    else key ∷ pressed_keys older)
pressed_keys (_ ∷ older) = pressed_keys older

-- a key is down where it has a press that wasn't refused and no release since; a press is refused
-- where the key is up and 64 keys are down
abbrev pub is_down : List Call → ℕ → Bool
is_down [] key = false
is_down (Key k true ∷ older) key =
    (if key == k then is_down older key || nat_lt (count_by (is_down older) (pressed_keys older)) 64
    else is_down older key)
is_down (Key k false ∷ older) key = (if key == k then false else is_down older key)
is_down (_ ∷ older) key = is_down older key

-- how many keys are down
abbrev pub number_down : List Call → ℕ
number_down calls = count_by (is_down calls) (pressed_keys calls)

-- of a key that is down: the grab that stood at its first press since it was last up, none where
-- that passed to the shell
abbrev pub first_went : List Call → ℕ → Option ℕ
first_went [] key = None
first_went (Key k true ∷ older) key =
    (if key == k && not (is_down older key) then grab_standing older else first_went older key)
first_went (_ ∷ older) key = first_went older key

-- to the grab that stands, else to the shell
abbrev pub to_standing : (standing : Option ℕ) → Route
to_standing None = Pass
to_standing (Some label) = ToGrab label

-- where the first press went, and nowhere where that is a grab that doesn't stand
abbrev pub as_first : (standing went : Option ℕ) → Route
as_first standing None = Pass
as_first None (Some label) = Nowhere
as_first (Some standing) (Some label) = (if standing == label then ToGrab label else Nowhere)

-- where a press (true) or a release of a key goes after these calls
abbrev pub key_route : List Call → (key : ℕ) (pressed : Bool) → Route
key_route calls key pressed =
    (if is_down calls key then as_first (grab_standing calls) (first_went calls key)
    else (if not pressed then Pass
    else (if nat_lt (number_down calls) 64 then to_standing (grab_standing calls) else TooMany)))

-- the press is refused: 64 keys are down, and this is another
abbrev pub is_refused : List Call → (key : ℕ) (pressed : Bool) → Bool
is_refused calls key pressed =
    (pressed && not (is_down calls key)) && not (nat_lt (number_down calls) 64)

-- what the shell told last, if it did
abbrev pub told_keymap : List Call → Option Keymap
told_keymap [] = None
told_keymap (TellKeymap map ∷ older) = Some map
told_keymap (_ ∷ older) = told_keymap older

abbrev pub told_repeat : List Call → Option Repeat
told_repeat [] = None
told_repeat (TellRepeat repeat ∷ older) = Some repeat
told_repeat (_ ∷ older) = told_repeat older

abbrev pub told_mods : List Call → Option Mods
told_mods [] = None
told_mods (TellMods mods ∷ older) = Some mods
told_mods (_ ∷ older) = told_mods older

-- a grab of this label stood at some time
abbrev pub stood : List Call → (label : ℕ) → Bool
stood [] label = false
stood (Stand other ∷ older) label = other == label || stood older label
stood (_ ∷ older) label = stood older label

-- each grab stood up where none stood, and for the first time
abbrev pub EachStandsOnce : List Call → Type 0
EachStandsOnce [] = Unit {0}
EachStandsOnce (Stand label ∷ older) =
    (grab_standing older ≡ None) × (stood older label ≡ false) × EachStandsOnce older
EachStandsOnce (_ ∷ older) = EachStandsOnce older

-- of a key that is down: a grab fell since its first press
abbrev pub fell_since : List Call → (key : ℕ) → Bool
fell_since [] key = false
fell_since (Fall ∷ older) key = true
fell_since (Key k true ∷ older) key =
    (if key == k && not (is_down older key) then false else fell_since older key)
fell_since (_ ∷ older) key = fell_since older key

-- where the first press went, and nowhere where that is a grab that fell since
abbrev pub unless_fell : (fell : Bool) (went : Option ℕ) → Route
unless_fell fell None = Pass
unless_fell true (Some label) = Nowhere
unless_fell false (Some label) = ToGrab label
