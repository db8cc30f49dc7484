-- What a grab and the shell are told of keys.
use Rattle.std.specs.Prelude.{ℕ, List, [], ◌∷◌, ◌++◌, Option, Some, None}
use Rattle.relay_model.specs.declared.said.Told.{Told}
use Rattle.relay_model.specs.declared.said.Said.TheVariants as said
use Rattle.relay_model.specs.Told.{to}
use Rattle.kbd_grab.specs.Keyboard.{Keyboard}
use Rattle.kbd_grab.specs.declared.keyboard.Keymap.{Keymap}
use Rattle.kbd_grab.specs.declared.keyboard.Mods.{Mods}
use Rattle.kbd_grab.specs.declared.keyboard.Repeat.{Repeat}
use Rattle.kbd_grab.specs.declared.keyboard.Route.{Route}
use Rattle.kbd_grab.specs.declared.keyboard.Route.TheVariants.{ToGrab, Pass, Nowhere, TooMany}

abbrev pub keymap_told : ℕ → Option Keymap → List Told
keymap_told g None = []
keymap_told g (Some keymap) = to g (said.Keymap keymap) ∷ []

abbrev pub repeat_told : ℕ → Option Repeat → List Told
repeat_told g None = []
repeat_told g (Some repeat) = to g (said.Repeat repeat) ∷ []

abbrev pub mods_told : ℕ → Option Mods → List Told
mods_told g None = []
mods_told g (Some mods) = to g (said.Mods g mods) ∷ []

-- what the grab g is told that stands from its making on
abbrev pub keyboard_told : ℕ → Keyboard → List Told
keyboard_told g keys =
    keymap_told g keys.keymap ++ (repeat_told g keys.repeat ++ mods_told g keys.mods)

-- a key that takes this route
abbrev pub key_told : ℕ → ℕ → ℕ → ℕ → Route → List Told
key_told n time key state (ToGrab g) = to g (said.Key n time key state) ∷ []
key_told n time key state Pass = to 0 (said.Pass time key state) ∷ []
key_told n time key state Nowhere = []
key_told n time key state TooMany = []

-- modifiers of a board that take this route
abbrev pub board_mods_told : ℕ → Mods → Route → List Told
board_mods_told n mods (ToGrab g) = to g (said.Mods n mods) ∷ []
board_mods_told n mods Pass = to 0 (said.VMods mods) ∷ []
board_mods_told n mods Nowhere = []
board_mods_told n mods TooMany = []
