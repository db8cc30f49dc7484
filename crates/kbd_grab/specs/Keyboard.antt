-- what a `Grab` shows: one value, and the lists of calls that it stands for
use Rattle.std.specs.Prelude.{refl, ◌≡◌, ℕ, ℤ, List, Bool, true, false, not, ◌&&◌, nat_lt, is_none, if◌then◌else◌, Option, Some, None}
use Rattle.std.specs.Ordering.{nat_cmp}
use Rattle.std.specs.FinMap as map
use Rattle.std.specs.Coded.{Coded, code_by, coded×, coded_option, coded_ℕ, coded_ℤ}
use Rattle.kbd_grab.specs.declared.keyboard.Keymap.{Keymap}
use Rattle.kbd_grab.specs.declared.keyboard.Mods.{Mods}
use Rattle.kbd_grab.specs.declared.keyboard.Repeat.{Repeat}
use Rattle.kbd_grab.specs.declared.keyboard.Route.{Route}
use Rattle.kbd_grab.specs.declared.keyboard.Route.TheVariants.{Pass, TooMany}
use Rattle.kbd_grab.specs.Keys.{Call, as_first, to_standing, grab_standing, is_down, number_down, first_went, told_keymap, told_repeat, told_mods}

-- the keys that are down, each with the grab that stood at its first press, none where that passed
-- to the shell
abbrev pub DownKeys : Type 0
DownKeys = map.FinMap nat_cmp (Option ℕ)

pub record Keyboard : Type 0 where
  -- the grab that stands
  pub standing : Option ℕ
  pub down : DownKeys
  -- what the shell told last
  pub keymap : Option Keymap
  pub repeat : Option Repeat
  pub mods : Option Mods

-- a keymap is stored as the pair of its format with the pair of its other numbers
abbrev pub keymap_code : Coded Keymap
keymap_code =
    code_by (ℕ × (ℕ × ℕ)) (coded× coded_ℕ (coded× coded_ℕ coded_ℕ))
    (λ k. (k.format, (k.token, k.size)))
    (λ p. record { format = p.0; token = p.1.0; size = p.1.1 })
    (λ _. refl)

-- a repeat is stored as the pair of its numbers
abbrev pub repeat_code : Coded Repeat
repeat_code =
    code_by (ℤ × ℤ) (coded× coded_ℤ coded_ℤ)
    (λ r. (r.rate, r.delay))
    (λ p. record { rate = p.0; delay = p.1 })
    (λ _. refl)

-- modifiers are stored as two pairs
abbrev pub mods_code : Coded Mods
mods_code =
    code_by ((ℕ × ℕ) × (ℕ × ℕ)) (coded× (coded× coded_ℕ coded_ℕ) (coded× coded_ℕ coded_ℕ))
    (λ m. ((m.depressed, m.latched), (m.locked, m.group)))
    (λ p. record { depressed = p.0.0; latched = p.0.1; locked = p.1.0; group = p.1.1 })
    (λ _. refl)

-- a keyboard is stored as pairs of its fields
abbrev pub keyboard_code : Coded Keyboard
keyboard_code =
    code_by ((Option ℕ × DownKeys) × (Option Keymap × (Option Repeat × Option Mods)))
    (coded× (coded× (coded_option coded_ℕ) (map.code coded_ℕ (coded_option coded_ℕ)))
    (coded× (coded_option keymap_code)
    (coded× (coded_option repeat_code) (coded_option mods_code))))
    (λ k. ((k.standing, k.down), (k.keymap, (k.repeat, k.mods))))
    (λ p. record {
      standing = p.0.0;
      down = p.0.1;
      keymap = p.1.0;
      repeat = p.1.1.0;
      mods = p.1.1.1;
    })
    (λ _. refl)

-- the keyboard is what these calls, the newest first, make of it
pub record StandsFor (calls : List Call) (keyboard : Keyboard) : Type 0 where
  pub grab : keyboard.standing ≡ grab_standing calls
  pub keys : (key : ℕ) →
      map.get keyboard.down key ≡ (if is_down calls key then Some (first_went calls key) else None)
  pub number : map.len keyboard.down ≡ number_down calls
  pub last_keymap : keyboard.keymap ≡ told_keymap calls
  pub last_repeat : keyboard.repeat ≡ told_repeat calls
  pub last_mods : keyboard.mods ≡ told_mods calls

-- the keys that are down after a press (true) or a release of a key, by where it went if it is down
abbrev pub turned_at : (here : Option (Option ℕ)) (standing : Option ℕ) → DownKeys →
    (key : ℕ) (pressed : Bool) → DownKeys
turned_at (Some went) standing down key true = down
turned_at (Some went) standing down key false = map.remove down key
turned_at None standing down key true =
    (if nat_lt (map.len down) 64 then map.insert down key standing else down)
turned_at None standing down key false = down

abbrev pub turned : Keyboard → (key : ℕ) (pressed : Bool) → DownKeys
turned keyboard key pressed =
    turned_at (map.get keyboard.down key) keyboard.standing keyboard.down key pressed

-- where that press or release goes, with so many keys down
abbrev pub answer_at : (here : Option (Option ℕ)) (standing : Option ℕ) (number : ℕ)
    (pressed : Bool) → Route
answer_at (Some went) standing number pressed = as_first standing went
answer_at None standing number true = (if nat_lt number 64 then to_standing standing else TooMany)
answer_at None standing number false = Pass

-- the same of any list of held keys: a first press goes to the grab `opens`, or to the shell,
-- another key as its first press, where `standing` stands
abbrev pub routed_at : (here : Option (Option ℕ)) (opens standing : Option ℕ) (number : ℕ)
    (pressed : Bool) → Route
routed_at (Some went) opens standing number pressed = as_first standing went
routed_at None opens standing number true =
    (if nat_lt number 64 then to_standing opens else TooMany)
routed_at None opens standing number false = Pass

-- whether a press is refused, with so many keys down
abbrev pub refused_at : (here : Option (Option ℕ)) (number : ℕ) (pressed : Bool) → Bool
refused_at here number pressed = (pressed && is_none here) && not (nat_lt number 64)
