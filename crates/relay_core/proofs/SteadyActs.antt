-- Acts that move no focus and take no object, and what they leave.
use Rattle.std.proofs.Common.{◌≡◌, ℕ, ℤ, List, ◌∷◌, true, false, Option, Some, None, ap, refl, ◌∙◌}
use Rattle.std.specs.Prelude.{◌&&◌, if◌then◌else◌, is_some, is_none}
use Rattle.popup_place.specs.declared.geometry.Rect.{Rect}
use Rattle.popup_place.specs.declared.geometry.Size.{Size}
use Rattle.relay_model.specs.declared.act.Act.{Act}
use Rattle.relay_model.specs.declared.act.Act.TheVariants as acts
use Rattle.relay_model.specs.declared.act.EndCause.{EndCause}
use Rattle.relay_model.specs.declared.fault.Fault.{Fault}
use Rattle.relay_model.specs.declared.role.Role.{Role}
use Rattle.relay_model.specs.Objects.{is_at}
use Rattle.relay_model.specs.Keys.{Keymap, Mods, Repeat}
use Rattle.relay_model.specs.Hold.{holder, kept, begins_hold}
use Rattle.relay_model.specs.Popups.{area}
use Rattle.relay_model.specs.Activation.{Notice, Deactivates, makes_serving, updates, notice}
use Rattle.relay_model.proofs.ActsOrIdle.{IsHistory}
use Rattle.relay_model.proofs.FocusLaws.{IsSteady, object_same, entered_same, entered_since_same}
use Rattle.relay_model.proofs.HoldLaws.{kept_same}
use Rattle.relay_core.proofs.HistoryEntries.{AllMove}
use Rattle.relay_core.proofs.KeptFields.{IsSilent, field_left}
use Rattle.relay_core.proofs.EntriesMove.{stays, touch_none}

pub peer_steady : IsSteady acts.Peer
peer_steady = record { keeps = λ x o. refl; last = λ log. refl; since = λ log. refl }

pub surface_steady : (p : ℕ) → IsSteady (acts.Surface p)
surface_steady p = record { keeps = λ x o. refl; last = λ log. refl; since = λ log. refl }

pub field_steady : (p : ℕ) → IsSteady (acts.Field p)
field_steady p = record { keeps = λ x o. refl; last = λ log. refl; since = λ log. refl }

pub method_steady : (p : ℕ) → IsSteady (acts.Method p)
method_steady p = record { keeps = λ x o. refl; last = λ log. refl; since = λ log. refl }

pub string_steady : (m : ℕ) (text : List ℕ) → IsSteady (acts.MString m text)
string_steady m text = record { keeps = λ x o. refl; last = λ log. refl; since = λ log. refl }

pub preedit_steady : (m : ℕ) (text : List ℕ) (begin end : ℤ) → IsSteady (acts.MPreedit m text begin end)
preedit_steady m text begin end = record { keeps = λ x o. refl; last = λ log. refl; since = λ log. refl }

pub delete_steady : (m before after : ℕ) → IsSteady (acts.MDelete m before after)
delete_steady m before after = record { keeps = λ x o. refl; last = λ log. refl; since = λ log. refl }

pub mcommit_steady : (m serial : ℕ) → IsSteady (acts.MCommit m serial)
mcommit_steady m serial = record { keeps = λ x o. refl; last = λ log. refl; since = λ log. refl }

pub popup_steady : (m t : ℕ) → IsSteady (acts.Popup m t)
popup_steady m t = record { keeps = λ x o. refl; last = λ log. refl; since = λ log. refl }

pub grab_steady : (m : ℕ) → IsSteady (acts.Grab m)
grab_steady m = record { keeps = λ x o. refl; last = λ log. refl; since = λ log. refl }

pub area_steady : (t : ℕ) (rect : Rect) → IsSteady (acts.Area t rect)
area_steady t rect = record { keeps = λ x o. refl; last = λ log. refl; since = λ log. refl }

pub screen_steady : (size : Size) → IsSteady (acts.Screen size)
screen_steady size = record { keeps = λ x o. refl; last = λ log. refl; since = λ log. refl }

pub key_steady : (time key state : ℕ) → IsSteady (acts.Key time key state)
key_steady time key state = record { keeps = λ x o. refl; last = λ log. refl; since = λ log. refl }

pub mods_steady : (mods : Mods) → IsSteady (acts.Mods mods)
mods_steady mods = record { keeps = λ x o. refl; last = λ log. refl; since = λ log. refl }

pub keymap_steady : (keymap : Keymap) → IsSteady (acts.Keymap keymap)
keymap_steady keymap = record { keeps = λ x o. refl; last = λ log. refl; since = λ log. refl }

pub repeat_steady : (repeat : Repeat) → IsSteady (acts.Repeat repeat)
repeat_steady repeat = record { keeps = λ x o. refl; last = λ log. refl; since = λ log. refl }

pub registry_steady : (p : ℕ) (role : Role) → IsSteady (acts.Registry p role)
registry_steady p role = record { keeps = λ y o. refl; last = λ log. refl; since = λ log. refl }

pub sync_steady : (p : ℕ) → IsSteady (acts.Sync p)
sync_steady p = record { keeps = λ y o. refl; last = λ log. refl; since = λ log. refl }

pub seat_steady : (p : ℕ) → IsSteady (acts.Seat p)
seat_steady p = record { keeps = λ y o. refl; last = λ log. refl; since = λ log. refl }

pub thing_steady : (p : ℕ) → IsSteady (acts.Thing p)
thing_steady p = record { keeps = λ y o. refl; last = λ log. refl; since = λ log. refl }

pub bad_steady : (p : ℕ) (fault : Fault) (x : ℕ) → IsSteady (acts.Bad p fault x)
bad_steady p fault x = record { keeps = λ y o. refl; last = λ log. refl; since = λ log. refl }

pub vboard_steady : (p : ℕ) → IsSteady (acts.VBoard p)
vboard_steady p = record { keeps = λ y o. refl; last = λ log. refl; since = λ log. refl }

pub vkeymap_steady : (v : ℕ) (keymap : Keymap) → IsSteady (acts.VKeymap v keymap)
vkeymap_steady v keymap = record { keeps = λ y o. refl; last = λ log. refl; since = λ log. refl }

pub vkey_steady : (v time key state : ℕ) → IsSteady (acts.VKey v time key state)
vkey_steady v time key state = record { keeps = λ y o. refl; last = λ log. refl; since = λ log. refl }

pub vmods_steady : (v : ℕ) (mods : Mods) → IsSteady (acts.VMods v mods)
vmods_steady v mods = record { keeps = λ y o. refl; last = λ log. refl; since = λ log. refl }

pub idle_steady : IsSteady acts.Idle
idle_steady = record { keeps = λ x o. refl; last = λ log. refl; since = λ log. refl }

-- acts that say nothing of fields

pub peer_silent : IsSilent acts.Peer
peer_silent =
    record {
      words = λ f rest. refl;
      sets = λ f rest. refl;
      counts = λ log f. refl;
      begins = λ log. refl;
      commits = λ f. refl;
    }

pub surface_silent : (p : ℕ) → IsSilent (acts.Surface p)
surface_silent p =
    record {
      words = λ f rest. refl;
      sets = λ f rest. refl;
      counts = λ log f. refl;
      begins = λ log. refl;
      commits = λ f. refl;
    }

pub field_silent : (p : ℕ) → IsSilent (acts.Field p)
field_silent p =
    record {
      words = λ f rest. refl;
      sets = λ f rest. refl;
      counts = λ log f. refl;
      begins = λ log. refl;
      commits = λ f. refl;
    }

pub method_silent : (p : ℕ) → IsSilent (acts.Method p)
method_silent p =
    record {
      words = λ f rest. refl;
      sets = λ f rest. refl;
      counts = λ log f. refl;
      begins = λ log. refl;
      commits = λ f. refl;
    }

pub string_silent : (m : ℕ) (text : List ℕ) → IsSilent (acts.MString m text)
string_silent m text =
    record {
      words = λ f rest. refl;
      sets = λ f rest. refl;
      counts = λ log f. refl;
      begins = λ log. refl;
      commits = λ f. refl;
    }

pub preedit_silent : (m : ℕ) (text : List ℕ) (begin end : ℤ) → IsSilent (acts.MPreedit m text begin end)
preedit_silent m text begin end =
    record {
      words = λ f rest. refl;
      sets = λ f rest. refl;
      counts = λ log f. refl;
      begins = λ log. refl;
      commits = λ f. refl;
    }

pub delete_silent : (m before after : ℕ) → IsSilent (acts.MDelete m before after)
delete_silent m before after =
    record {
      words = λ f rest. refl;
      sets = λ f rest. refl;
      counts = λ log f. refl;
      begins = λ log. refl;
      commits = λ f. refl;
    }

pub mcommit_silent : (m serial : ℕ) → IsSilent (acts.MCommit m serial)
mcommit_silent m serial =
    record {
      words = λ f rest. refl;
      sets = λ f rest. refl;
      counts = λ log f. refl;
      begins = λ log. refl;
      commits = λ f. refl;
    }

pub unfocus_silent : IsSilent acts.Unfocus
unfocus_silent =
    record {
      words = λ f rest. refl;
      sets = λ f rest. refl;
      counts = λ log f. refl;
      begins = λ log. refl;
      commits = λ f. refl;
    }

pub drop_silent : (x : ℕ) → IsSilent (acts.Drop x)
drop_silent x =
    record {
      words = λ f rest. refl;
      sets = λ f rest. refl;
      counts = λ log f. refl;
      begins = λ log. refl;
      commits = λ f. refl;
    }

pub gone_silent : (p : ℕ) (cause : EndCause) → IsSilent (acts.Gone p cause)
gone_silent p cause =
    record {
      words = λ f rest. refl;
      sets = λ f rest. refl;
      counts = λ log f. refl;
      begins = λ log. refl;
      commits = λ f. refl;
    }

pub popup_silent : (m t : ℕ) → IsSilent (acts.Popup m t)
popup_silent m t =
    record {
      words = λ f rest. refl;
      sets = λ f rest. refl;
      counts = λ log f. refl;
      begins = λ log. refl;
      commits = λ f. refl;
    }

pub grab_silent : (m : ℕ) → IsSilent (acts.Grab m)
grab_silent m =
    record {
      words = λ f rest. refl;
      sets = λ f rest. refl;
      counts = λ log f. refl;
      begins = λ log. refl;
      commits = λ f. refl;
    }

pub area_silent : (t : ℕ) (rect : Rect) → IsSilent (acts.Area t rect)
area_silent t rect =
    record {
      words = λ f rest. refl;
      sets = λ f rest. refl;
      counts = λ log f. refl;
      begins = λ log. refl;
      commits = λ f. refl;
    }

pub screen_silent : (size : Size) → IsSilent (acts.Screen size)
screen_silent size =
    record {
      words = λ f rest. refl;
      sets = λ f rest. refl;
      counts = λ log f. refl;
      begins = λ log. refl;
      commits = λ f. refl;
    }

pub key_silent : (time key state : ℕ) → IsSilent (acts.Key time key state)
key_silent time key state =
    record {
      words = λ f rest. refl;
      sets = λ f rest. refl;
      counts = λ log f. refl;
      begins = λ log. refl;
      commits = λ f. refl;
    }

pub mods_silent : (mods : Mods) → IsSilent (acts.Mods mods)
mods_silent mods =
    record {
      words = λ f rest. refl;
      sets = λ f rest. refl;
      counts = λ log f. refl;
      begins = λ log. refl;
      commits = λ f. refl;
    }

pub keymap_silent : (keymap : Keymap) → IsSilent (acts.Keymap keymap)
keymap_silent keymap =
    record {
      words = λ f rest. refl;
      sets = λ f rest. refl;
      counts = λ log f. refl;
      begins = λ log. refl;
      commits = λ f. refl;
    }

pub repeat_silent : (repeat : Repeat) → IsSilent (acts.Repeat repeat)
repeat_silent repeat =
    record {
      words = λ f rest. refl;
      sets = λ f rest. refl;
      counts = λ log f. refl;
      begins = λ log. refl;
      commits = λ f. refl;
    }

pub registry_silent : (p : ℕ) (role : Role) → IsSilent (acts.Registry p role)
registry_silent p role =
    record {
      words = λ f rest. refl;
      sets = λ f rest. refl;
      counts = λ log f. refl;
      begins = λ log. refl;
      commits = λ f. refl;
    }

pub sync_silent : (p : ℕ) → IsSilent (acts.Sync p)
sync_silent p =
    record {
      words = λ f rest. refl;
      sets = λ f rest. refl;
      counts = λ log f. refl;
      begins = λ log. refl;
      commits = λ f. refl;
    }

pub seat_silent : (p : ℕ) → IsSilent (acts.Seat p)
seat_silent p =
    record {
      words = λ f rest. refl;
      sets = λ f rest. refl;
      counts = λ log f. refl;
      begins = λ log. refl;
      commits = λ f. refl;
    }

pub thing_silent : (p : ℕ) → IsSilent (acts.Thing p)
thing_silent p =
    record {
      words = λ f rest. refl;
      sets = λ f rest. refl;
      counts = λ log f. refl;
      begins = λ log. refl;
      commits = λ f. refl;
    }

pub bad_silent : (p : ℕ) (fault : Fault) (x : ℕ) → IsSilent (acts.Bad p fault x)
bad_silent p fault x =
    record {
      words = λ f rest. refl;
      sets = λ f rest. refl;
      counts = λ log f. refl;
      begins = λ log. refl;
      commits = λ f. refl;
    }

pub vboard_silent : (p : ℕ) → IsSilent (acts.VBoard p)
vboard_silent p =
    record {
      words = λ f rest. refl;
      sets = λ f rest. refl;
      counts = λ log f. refl;
      begins = λ log. refl;
      commits = λ f. refl;
    }

pub vkeymap_silent : (v : ℕ) (keymap : Keymap) → IsSilent (acts.VKeymap v keymap)
vkeymap_silent v keymap =
    record {
      words = λ f rest. refl;
      sets = λ f rest. refl;
      counts = λ log f. refl;
      begins = λ log. refl;
      commits = λ f. refl;
    }

pub vkey_silent : (v time key state : ℕ) → IsSilent (acts.VKey v time key state)
vkey_silent v time key state =
    record {
      words = λ f rest. refl;
      sets = λ f rest. refl;
      counts = λ log f. refl;
      begins = λ log. refl;
      commits = λ f. refl;
    }

pub vmods_silent : (v : ℕ) (mods : Mods) → IsSilent (acts.VMods v mods)
vmods_silent v mods =
    record {
      words = λ f rest. refl;
      sets = λ f rest. refl;
      counts = λ log f. refl;
      begins = λ log. refl;
      commits = λ f. refl;
    }

pub idle_silent : IsSilent acts.Idle
idle_silent =
    record {
      words = λ f rest. refl;
      sets = λ f rest. refl;
      counts = λ log f. refl;
      begins = λ log. refl;
      commits = λ f. refl;
    }

-- all entries stay as they were
pub all_stay : (act : Act) (log : List Act) → IsHistory log → IsSteady act → IsSilent act →
    ((x : ℕ) → area (act ∷ log) x ≡ area log x) →
    holder (act ∷ log) ≡ kept act log (holder log) → AllMove act log (λ e. e) (λ _. true)
all_stay act log i k q a h =
    λ x l. stays (λ e. e) act log x (object_same act log x k l)
    (touch_none act log x (a x)
    (field_left act log x q l (entered_same act log x i k l) (entered_since_same act log x k)
    (ap (λ o. is_at o x) (h ∙ kept_same act log i k))))

no_end : (x : Option ℕ) → (is_some x && is_none x) ≡ false
no_end None = refl
no_end (Some y) = refl

-- nothing is said of the hold
pub notice_quiet : (act : Act) (log : List Act) → begins_hold act log ≡ false → makes_serving act log ≡ false →
    updates act log ≡ false →
    holder (act ∷ log) ≡ holder log → notice act log ≡ None
notice_quiet act log a b c d = rw (d, a, b, c, no_end (holder log)) refl

-- what is said where a hold ends
abbrev pub ended : Option ℕ → Option Notice
ended None = None
ended (Some h) = Some Deactivates

if_ended : (h : Option ℕ) → (if is_some h && true then Some Deactivates else None) ≡ ended h
if_ended None = refl
if_ended (Some h) = refl

pub notice_ended : (act : Act) (log : List Act) → begins_hold act log ≡ false → makes_serving act log ≡ false →
    updates act log ≡ false →
    holder (act ∷ log) ≡ None → notice act log ≡ ended (holder log)
notice_ended act log a b c d = rw (d, a, b, c) (if_ended (holder log))
