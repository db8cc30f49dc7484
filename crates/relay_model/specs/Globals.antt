-- The globals that a peer is offered.
use Rattle.std.specs.Prelude.{ℕ, List, [], ◌∷◌, map}
use Rattle.wl_proto.specs.declared.interface.Interface.{Interface}
use Rattle.wl_proto.specs.declared.interface.Interface.TheVariants.{Compositor, Seat, TextInputManager, InputMethodManager, VirtualKeyboardManager}
use Rattle.relay_model.specs.declared.role.Role.{Role}
use Rattle.relay_model.specs.declared.role.Role.TheVariants.{App, Method, Keyed}
use Rattle.relay_model.specs.declared.said.Told.{Told}
use Rattle.relay_model.specs.declared.said.Said.TheVariants as said
use Rattle.relay_model.specs.Events.{to}

-- the names that a peer of the role is offered, rising, each with its interface
abbrev pub offered : Role → List (ℕ × Interface)
offered App = (1, Compositor) ∷ (2, Seat) ∷ (3, TextInputManager) ∷ []
offered Method = (1, Compositor) ∷ (2, Seat) ∷ (4, InputMethodManager) ∷ []
offered Keyed =
    (1, Compositor) ∷ (2, Seat) ∷ (4, InputMethodManager) ∷ (5, VirtualKeyboardManager) ∷ []

-- a registry is told a global, all of which have version 1
abbrev pub global_told : ℕ → ℕ × Interface → Told
global_told registry offer = to registry (said.Global offer.0 offer.1 1)

-- what a new registry is told
abbrev pub globals_told : ℕ → Role → List Told
globals_told registry role = map (global_told registry) (offered role)
