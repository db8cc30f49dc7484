-- The keys of the seat's keyboard, and the grab that has them.
use Rattle.std.specs.Prelude.{ℕ, List, [], ◌∷◌, Bool, false, not, ◌&&◌, ◌==◌, nat_lt, if◌then◌else◌, Option, Some, None, is_none}
use Rattle.std.specs.List.{count_by, list_any}
use Rattle.relay_model.specs.declared.act.Act.{Act}
use Rattle.relay_model.specs.declared.act.Act.TheVariants as acts
pub use Rattle.kbd_grab.specs.declared.keyboard.Keymap.{Keymap}
pub use Rattle.kbd_grab.specs.declared.keyboard.Repeat.{Repeat}
pub use Rattle.kbd_grab.specs.declared.keyboard.Mods.{Mods}
use Rattle.relay_model.specs.Objects.{next, is_at, is_same, method_of}
use Rattle.relay_model.specs.Activation.{serving}

-- the grab stands on, where it is alive and its method serves
abbrev pub stands_on : List Act → Option ℕ → Option ℕ
stands_on log None = None
stands_on log (Some g) = (if is_same (method_of log g) (serving log) then Some g else None)

-- the grab that stands: one that the serving method made while none stood; one made while another
-- stands never does
abbrev pub standing : List Act → Option ℕ
standing [] = None
standing (acts.Grab m ∷ older) =
    (if is_none (standing older) && is_at (serving older) m then Some (next older)
    else standing older)
standing (act ∷ older) = stands_on (act ∷ older) (standing older)

-- the grab g stands
abbrev pub grab_stands : List Act → ℕ → Bool
grab_stands log g = is_at (standing log) g

-- a key's state is that of a press (wl_keyboard.key_state)
abbrev pub is_press : ℕ → Bool
is_press state = state == 1

abbrev pub with_key : ℕ → List ℕ → List ℕ
with_key key keys = (if list_any (λ k. key == k) keys then keys else key ∷ keys)

-- the keys that were pressed, each once
abbrev pub pressed_keys : List Act → List ℕ
pressed_keys [] = []
pressed_keys (acts.Key time key state ∷ older) =
    (if is_press state then with_key key (pressed_keys older) else pressed_keys older)
pressed_keys (_ ∷ older) = pressed_keys older

-- the key is down: its last act pressed it
abbrev pub is_down : List Act → ℕ → Bool
is_down [] key = false
is_down (acts.Key time k state ∷ older) key =
    (if key == k then is_press state else is_down older key)
is_down (_ ∷ older) key = is_down older key

-- how many keys are down
abbrev pub number_down : List Act → ℕ
number_down log = count_by (is_down log) (pressed_keys log)

-- the act presses a key that is up
abbrev pub is_first_press : List Act → ℕ → ℕ → Bool
is_first_press log key state = is_press state && not (is_down log key)

-- of a key that is down: the grab that stood at its first press since it was last up, none where
-- that passed to the shell
abbrev pub first_went : List Act → ℕ → Option ℕ
first_went [] key = None
first_went (acts.Key time k state ∷ older) key =
    (if key == k && is_first_press older key state then standing older else first_went older key)
first_went (_ ∷ older) key = first_went older key

-- where a press or a release of a key goes
pub data Goes : Type 0 where
  ToGrab : (grab : ℕ) → Goes
  ToShell Nowhere Refused : Goes

-- to the grab that stands, else to the shell
abbrev pub to_standing : Option ℕ → Goes
to_standing None = ToShell
to_standing (Some g) = ToGrab g

-- where the first press went, and nowhere where that is a grab that doesn't stand
abbrev pub as_first : List Act → Option ℕ → Goes
as_first log None = ToShell
as_first log (Some g) = (if grab_stands log g then ToGrab g else Nowhere)

-- where the key goes: a key that is down to where its first press went, a release of another to the
-- shell, a first press to the grab that stands, and it is refused where 64 keys are down
abbrev pub key_route : List Act → ℕ → ℕ → Goes
key_route log key state =
    (if is_down log key then as_first log (first_went log key)
    else (if not (is_press state) then ToShell
    else (if nat_lt (number_down log) 64 then to_standing (standing log) else Refused)))

-- the press is refused: 64 keys are down, and this is another
abbrev pub is_refused : List Act → ℕ → ℕ → Bool
is_refused log key state = is_first_press log key state && not (nat_lt (number_down log) 64)

-- the keymap that the shell told last
abbrev pub last_keymap : List Act → Option Keymap
last_keymap [] = None
last_keymap (acts.Keymap keymap ∷ older) = Some keymap
last_keymap (_ ∷ older) = last_keymap older

-- the repeat that the shell told last
abbrev pub last_repeat : List Act → Option Repeat
last_repeat [] = None
last_repeat (acts.Repeat repeat ∷ older) = Some repeat
last_repeat (_ ∷ older) = last_repeat older

-- the modifiers that the shell told last
abbrev pub last_mods : List Act → Option Mods
last_mods [] = None
last_mods (acts.Mods mods ∷ older) = Some mods
last_mods (_ ∷ older) = last_mods older
