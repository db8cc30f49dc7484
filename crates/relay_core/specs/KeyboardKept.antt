-- What a relay keeps of the keyboard, in the words of the definitions.
use Rattle.std.specs.Prelude.{◌≡◌, ℕ, List, if◌then◌else◌, Some, None}
use Rattle.std.specs.FinMap as map
use Rattle.kbd_grab.specs.Keyboard.{Keyboard}
use Rattle.relay_model.specs.declared.act.Act.{Act}
use Rattle.relay_model.specs.Keys.{standing, is_down, first_went, number_down, last_keymap, last_repeat, last_mods}

-- each part of the keyboard is a definition's value at the end of a history
pub record KeepsKeyboard (keyboard : Keyboard) (log : List Act) : Type 0 where
  pub grab : keyboard.standing ≡ standing log
  -- a key is kept while it is down, with the grab that stood at its first press
  pub down : (key : ℕ) →
      map.get keyboard.down key ≡ (if is_down log key then Some (first_went log key) else None)
  pub number : map.len keyboard.down ≡ number_down log
  pub keymap : keyboard.keymap ≡ last_keymap log
  pub repeat : keyboard.repeat ≡ last_repeat log
  pub mods : keyboard.mods ≡ last_mods log
