-- Acts that say nothing of the screen and the keyboard.
use Rattle.std.proofs.Common.{◌≡◌, ℕ, ℤ, List, ◌∷◌, refl, sym, subst}
use Rattle.popup_place.specs.declared.geometry.Rect.{Rect}
use Rattle.relay_model.specs.declared.act.Act.{Act}
use Rattle.relay_model.specs.declared.act.Act.TheVariants as acts
use Rattle.relay_model.specs.declared.act.EndCause.{EndCause}
use Rattle.relay_model.specs.declared.fault.Fault.{Fault}
use Rattle.relay_model.specs.declared.role.Role.{Role}
use Rattle.relay_model.specs.Focus.{where_alive}
use Rattle.relay_model.specs.Activation.{serving}
use Rattle.relay_model.specs.Keys.{Keymap, Mods, stands_on, standing}
use Rattle.relay_model.specs.Popups.{area, screen}
use Rattle.kbd_grab.specs.Keyboard.{Keyboard, StandsFor}
use Rattle.relay_core.specs.KeyCalls.{fall_calls, calls_of, key_calls}
use Rattle.relay_core.proofs.GrabLaws.{KeepsAll, standing_steady}
use Rattle.relay_core.proofs.KeyCalls.{calls_steady}

-- An act that says nothing of the screen and the keyboard.
pub record IsCalm (act : Act) : Type 0 where
  pub areas : (log : List Act) (x : ℕ) → area (act ∷ log) x ≡ area log x
  pub screens : (log : List Act) → screen (act ∷ log) ≡ screen log
  pub calls : (log : List Act) → calls_of act log ≡ fall_calls (standing log) (standing (act ∷ log))
  pub grabs : (log : List Act) → standing (act ∷ log) ≡ stands_on (act ∷ log) (standing log)

-- the keyboard is as it was, where the same grab stands
pub keys_stay : (act : Act) (log : List Act) (keys : Keyboard) → IsCalm act → standing (act ∷ log) ≡ standing log →
    StandsFor (key_calls log) keys →
    StandsFor (key_calls (act ∷ log)) keys
keys_stay act log keys k e h = subst (λ calls. StandsFor calls keys) (sym (calls_steady act log (k.calls log) e)) h

pub keys_same : (act : Act) (log : List Act) (keys : Keyboard) → IsCalm act →
    serving (act ∷ log) ≡ where_alive (act ∷ log) (serving log) → KeepsAll act →
    StandsFor (key_calls log) keys → StandsFor (key_calls (act ∷ log)) keys
keys_same act log keys k s a h = keys_stay act log keys k (standing_steady act log (k.grabs log) s a) h

-- the same for an act of the screen
pub board_same : (act : Act) (log : List Act) (keys : Keyboard) →
    calls_of act log ≡ fall_calls (standing log) (standing (act ∷ log)) →
    standing (act ∷ log) ≡ stands_on (act ∷ log) (standing log) →
    serving (act ∷ log) ≡ where_alive (act ∷ log) (serving log) → KeepsAll act →
    StandsFor (key_calls log) keys → StandsFor (key_calls (act ∷ log)) keys
board_same act log keys c g s a h =
    subst (λ calls. StandsFor calls keys) (sym (calls_steady act log c (standing_steady act log g s a))) h

pub peer_calm : IsCalm acts.Peer
peer_calm = record { areas = λ log x. refl; screens = λ log. refl; calls = λ log. refl; grabs = λ log. refl }

pub surface_calm : (p : ℕ) → IsCalm (acts.Surface p)
surface_calm p = record { areas = λ log x. refl; screens = λ log. refl; calls = λ log. refl; grabs = λ log. refl }

pub field_calm : (p : ℕ) → IsCalm (acts.Field p)
field_calm p = record { areas = λ log x. refl; screens = λ log. refl; calls = λ log. refl; grabs = λ log. refl }

pub method_calm : (p : ℕ) → IsCalm (acts.Method p)
method_calm p = record { areas = λ log x. refl; screens = λ log. refl; calls = λ log. refl; grabs = λ log. refl }

pub popup_calm : (m t : ℕ) → IsCalm (acts.Popup m t)
popup_calm m t = record { areas = λ log x. refl; screens = λ log. refl; calls = λ log. refl; grabs = λ log. refl }

pub drop_calm : (x : ℕ) → IsCalm (acts.Drop x)
drop_calm x = record { areas = λ log x. refl; screens = λ log. refl; calls = λ log. refl; grabs = λ log. refl }

pub gone_calm : (p : ℕ) (cause : EndCause) → IsCalm (acts.Gone p cause)
gone_calm p cause = record { areas = λ log x. refl; screens = λ log. refl; calls = λ log. refl; grabs = λ log. refl }

pub focus_calm : (t : ℕ) → IsCalm (acts.Focus t)
focus_calm t = record { areas = λ log x. refl; screens = λ log. refl; calls = λ log. refl; grabs = λ log. refl }

pub unfocus_calm : IsCalm acts.Unfocus
unfocus_calm = record { areas = λ log x. refl; screens = λ log. refl; calls = λ log. refl; grabs = λ log. refl }

pub enable_calm : (f : ℕ) → IsCalm (acts.Enable f)
enable_calm f = record { areas = λ log x. refl; screens = λ log. refl; calls = λ log. refl; grabs = λ log. refl }

pub disable_calm : (f : ℕ) → IsCalm (acts.Disable f)
disable_calm f = record { areas = λ log x. refl; screens = λ log. refl; calls = λ log. refl; grabs = λ log. refl }

pub surround_calm : (f : ℕ) (text : List ℕ) (cursor anchor : ℤ) → IsCalm (acts.Surround f text cursor anchor)
surround_calm f text cursor anchor =
    record { areas = λ log x. refl; screens = λ log. refl; calls = λ log. refl; grabs = λ log. refl }

pub cause_calm : (f cause : ℕ) → IsCalm (acts.Cause f cause)
cause_calm f cause = record { areas = λ log x. refl; screens = λ log. refl; calls = λ log. refl; grabs = λ log. refl }

pub content_calm : (f hint purpose : ℕ) → IsCalm (acts.Content f hint purpose)
content_calm f hint purpose =
    record { areas = λ log x. refl; screens = λ log. refl; calls = λ log. refl; grabs = λ log. refl }

pub cursor_calm : (f : ℕ) (rect : Rect) → IsCalm (acts.Cursor f rect)
cursor_calm f rect = record { areas = λ log x. refl; screens = λ log. refl; calls = λ log. refl; grabs = λ log. refl }

pub commit_calm : (f : ℕ) → IsCalm (acts.Commit f)
commit_calm f = record { areas = λ log x. refl; screens = λ log. refl; calls = λ log. refl; grabs = λ log. refl }

pub string_calm : (m : ℕ) (text : List ℕ) → IsCalm (acts.MString m text)
string_calm m text = record { areas = λ log x. refl; screens = λ log. refl; calls = λ log. refl; grabs = λ log. refl }

pub preedit_calm : (m : ℕ) (text : List ℕ) (begin end : ℤ) → IsCalm (acts.MPreedit m text begin end)
preedit_calm m text begin end =
    record { areas = λ log x. refl; screens = λ log. refl; calls = λ log. refl; grabs = λ log. refl }

pub delete_calm : (m before after : ℕ) → IsCalm (acts.MDelete m before after)
delete_calm m before after =
    record { areas = λ log x. refl; screens = λ log. refl; calls = λ log. refl; grabs = λ log. refl }

pub mcommit_calm : (m serial : ℕ) → IsCalm (acts.MCommit m serial)
mcommit_calm m serial =
    record { areas = λ log x. refl; screens = λ log. refl; calls = λ log. refl; grabs = λ log. refl }

pub registry_calm : (p : ℕ) (role : Role) → IsCalm (acts.Registry p role)
registry_calm p role = record { areas = λ log y. refl; screens = λ log. refl; calls = λ log. refl; grabs = λ log. refl }

pub sync_calm : (p : ℕ) → IsCalm (acts.Sync p)
sync_calm p = record { areas = λ log y. refl; screens = λ log. refl; calls = λ log. refl; grabs = λ log. refl }

pub seat_calm : (p : ℕ) → IsCalm (acts.Seat p)
seat_calm p = record { areas = λ log y. refl; screens = λ log. refl; calls = λ log. refl; grabs = λ log. refl }

pub thing_calm : (p : ℕ) → IsCalm (acts.Thing p)
thing_calm p = record { areas = λ log y. refl; screens = λ log. refl; calls = λ log. refl; grabs = λ log. refl }

pub bad_calm : (p : ℕ) (fault : Fault) (x : ℕ) → IsCalm (acts.Bad p fault x)
bad_calm p fault x = record { areas = λ log y. refl; screens = λ log. refl; calls = λ log. refl; grabs = λ log. refl }

pub vboard_calm : (p : ℕ) → IsCalm (acts.VBoard p)
vboard_calm p = record { areas = λ log y. refl; screens = λ log. refl; calls = λ log. refl; grabs = λ log. refl }

pub vkeymap_calm : (v : ℕ) (keymap : Keymap) → IsCalm (acts.VKeymap v keymap)
vkeymap_calm v keymap =
    record { areas = λ log y. refl; screens = λ log. refl; calls = λ log. refl; grabs = λ log. refl }

pub vkey_calm : (v time key state : ℕ) → IsCalm (acts.VKey v time key state)
vkey_calm v time key state =
    record { areas = λ log y. refl; screens = λ log. refl; calls = λ log. refl; grabs = λ log. refl }

pub vmods_calm : (v : ℕ) (mods : Mods) → IsCalm (acts.VMods v mods)
vmods_calm v mods = record { areas = λ log y. refl; screens = λ log. refl; calls = λ log. refl; grabs = λ log. refl }

pub idle_calm : IsCalm acts.Idle
idle_calm = record { areas = λ log x. refl; screens = λ log. refl; calls = λ log. refl; grabs = λ log. refl }
