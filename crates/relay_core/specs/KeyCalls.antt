-- What the acts of a history call on the seat's keyboard.
use Rattle.std.specs.Prelude.{ℕ, List, [], ◌∷◌, ◌++◌, ◌&&◌, if◌then◌else◌, Option, is_some, is_none}
use Rattle.kbd_grab.specs.declared.keyboard.Route.{Route}
use Rattle.kbd_grab.specs.declared.keyboard.Route.TheVariants as routes
use Rattle.kbd_grab.specs.Keys.{Call}
use Rattle.kbd_grab.specs.Keys.Call.{Stand, Fall, Key, TellKeymap, TellRepeat, TellMods}
use Rattle.relay_model.specs.declared.act.Act.{Act}
use Rattle.relay_model.specs.declared.act.Act.TheVariants as acts
use Rattle.relay_model.specs.Objects.{next, is_at}
use Rattle.relay_model.specs.Keys.{Goes, ToGrab, ToShell, Nowhere, Refused, is_press, standing}

-- the grab that the act made stands
abbrev pub stand_calls : ℕ → Option ℕ → List Call
stand_calls n after = (if is_at after n then Stand n ∷ [] else [])

-- a grab stood before the act, and none after it
abbrev pub fall_calls : Option ℕ → Option ℕ → List Call
fall_calls before after = (if is_some before && is_none after then Fall ∷ [] else [])

-- what an act calls after a history
abbrev pub calls_of : Act → List Act → List Call
calls_of (acts.Grab m) older = stand_calls (next older) (standing (acts.Grab m ∷ older))
calls_of (acts.Key time key state) older = Key key (is_press state) ∷ []
calls_of (acts.Mods mods) older = TellMods mods ∷ []
calls_of (acts.Keymap keymap) older = TellKeymap keymap ∷ []
calls_of (acts.Repeat repeat) older = TellRepeat repeat ∷ []
calls_of act older = fall_calls (standing older) (standing (act ∷ older))

-- the calls of a history, the newest first
abbrev pub key_calls : List Act → List Call
key_calls [] = []
key_calls (act ∷ older) = calls_of act older ++ key_calls older

-- the same in the keyboard's words
abbrev pub route_of : Goes → Route
route_of (ToGrab g) = routes.ToGrab g
route_of ToShell = routes.Pass
route_of Nowhere = routes.Nowhere
route_of Refused = routes.TooMany
