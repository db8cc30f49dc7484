-- Acts that only sessions have: registries, syncs, bound globals and refused messages.
use Rattle.std.proofs.Common.{◌≡◌, ℕ, ◌+◌, List, [], ◌∷◌, ◌++◌, length, false, Some, None, ap, refl, sym, ◌∙◌}
use Rattle.relay_model.specs.declared.act.Act.{Act}
use Rattle.relay_model.specs.declared.act.Act.TheVariants as acts
use Rattle.relay_model.specs.declared.fault.Fault.{Fault}
use Rattle.relay_model.specs.declared.role.Role.{Role}
use Rattle.relay_model.specs.declared.said.Said.TheVariants as said
use Rattle.relay_model.specs.Objects as model
use Rattle.relay_model.specs.Objects.{ThingKind, BoardKind, owner, object}
use Rattle.relay_model.specs.Focus.{where_alive}
use Rattle.relay_model.specs.Hold.{kept, holder}
use Rattle.relay_model.specs.Activation.{serving, makes_serving, updates, notice}
use Rattle.relay_model.specs.Globals.{globals_told}
use Rattle.relay_model.specs.Keys.{Keymap, Mods}
use Rattle.relay_model.specs.Told.{to, leaves, enters, own, synced, told_by}
use Rattle.relay_model.proofs.ActsOrIdle.{IsHistory}
use Rattle.relay_model.proofs.FocusLaws.{IsSteady, focus_same}
use Rattle.relay_model.proofs.HoldLaws.{kept_same}
use Rattle.relay_model.proofs.ActivationLaws.{serving_same}
use Rattle.relay_objects.specs.declared.object.Kind.TheVariants.{Thing, Board}
use Rattle.relay_core.specs.Machine.{State, counted, made}
use Rattle.relay_core.specs.Stands.{Stands, entries}
use Rattle.relay_core.proofs.ActsLeaveScreen.{IsCalm, keys_same, registry_calm, sync_calm, seat_calm, thing_calm, bad_calm, vboard_calm, vkeymap_calm, vkey_calm, vmods_calm}
use Rattle.relay_core.proofs.KeyActsStand.{says_own}
use Rattle.relay_core.proofs.KeptFields.{IsSilent}
use Rattle.relay_core.proofs.EntriesMove.{something_new, entries_stay, entries_same}
use Rattle.relay_core.proofs.ServiceIsKept.{LeavesEdits, served_notified}
use Rattle.relay_core.proofs.SteadyActs.{registry_steady, sync_steady, seat_steady, thing_steady, bad_steady, vboard_steady, vkeymap_steady, vkey_steady, vmods_steady, vboard_silent, vkeymap_silent, vkey_silent, vmods_silent, registry_silent, sync_silent, seat_silent, thing_silent, bad_silent, all_stay, notice_quiet}
use Rattle.relay_core.proofs.SteadyActsStand.{one_more}

-- An act that says nothing of the focus, of fields, of methods, of the screen and of the keyboard.
pub record IsAside (act : Act) : Type 0 where
  pub steady : IsSteady act
  pub silent : IsSilent act
  pub calm : IsCalm act
  pub holds : (log : List Act) → holder (act ∷ log) ≡ kept act log (holder log)
  pub serves : (log : List Act) → serving (act ∷ log) ≡ where_alive (act ∷ log) (serving log)
  pub serving_new : (log : List Act) → makes_serving act log ≡ false
  pub updating : (log : List Act) → updates act log ≡ false
  pub edits : LeavesEdits act
  pub leaving : (log : List Act) → leaves act log ≡ []
  pub entering : (log : List Act) → enters act log ≡ []

pub registry_aside : (p : ℕ) (role : Role) → IsAside (acts.Registry p role)
registry_aside p role = record {
  steady = registry_steady p role;
  silent = registry_silent p role;
  calm = registry_calm p role;
  holds = λ log. refl;
  serves = λ log. refl;
  serving_new = λ log. refl;
  updating = λ log. refl;
  edits = λ m rest. refl;
  leaving = λ log. refl;
  entering = λ log. refl;
}

pub sync_aside : (p : ℕ) → IsAside (acts.Sync p)
sync_aside p = record {
  steady = sync_steady p;
  silent = sync_silent p;
  calm = sync_calm p;
  holds = λ log. refl;
  serves = λ log. refl;
  serving_new = λ log. refl;
  updating = λ log. refl;
  edits = λ m rest. refl;
  leaving = λ log. refl;
  entering = λ log. refl;
}

pub seat_aside : (p : ℕ) → IsAside (acts.Seat p)
seat_aside p = record {
  steady = seat_steady p;
  silent = seat_silent p;
  calm = seat_calm p;
  holds = λ log. refl;
  serves = λ log. refl;
  serving_new = λ log. refl;
  updating = λ log. refl;
  edits = λ m rest. refl;
  leaving = λ log. refl;
  entering = λ log. refl;
}

pub thing_aside : (p : ℕ) → IsAside (acts.Thing p)
thing_aside p = record {
  steady = thing_steady p;
  silent = thing_silent p;
  calm = thing_calm p;
  holds = λ log. refl;
  serves = λ log. refl;
  serving_new = λ log. refl;
  updating = λ log. refl;
  edits = λ m rest. refl;
  leaving = λ log. refl;
  entering = λ log. refl;
}

pub bad_aside : (p : ℕ) (fault : Fault) (x : ℕ) → IsAside (acts.Bad p fault x)
bad_aside p fault x = record {
  steady = bad_steady p fault x;
  silent = bad_silent p fault x;
  calm = bad_calm p fault x;
  holds = λ log. refl;
  serves = λ log. refl;
  serving_new = λ log. refl;
  updating = λ log. refl;
  edits = λ m rest. refl;
  leaving = λ log. refl;
  entering = λ log. refl;
}

pub vboard_aside : (p : ℕ) → IsAside (acts.VBoard p)
vboard_aside p = record {
  steady = vboard_steady p;
  silent = vboard_silent p;
  calm = vboard_calm p;
  holds = λ log. refl;
  serves = λ log. refl;
  serving_new = λ log. refl;
  updating = λ log. refl;
  edits = λ m rest. refl;
  leaving = λ log. refl;
  entering = λ log. refl;
}

pub vkeymap_aside : (v : ℕ) (keymap : Keymap) → IsAside (acts.VKeymap v keymap)
vkeymap_aside v keymap = record {
  steady = vkeymap_steady v keymap;
  silent = vkeymap_silent v keymap;
  calm = vkeymap_calm v keymap;
  holds = λ log. refl;
  serves = λ log. refl;
  serving_new = λ log. refl;
  updating = λ log. refl;
  edits = λ m rest. refl;
  leaving = λ log. refl;
  entering = λ log. refl;
}

pub vkey_aside : (v time key state : ℕ) → IsAside (acts.VKey v time key state)
vkey_aside v time key state = record {
  steady = vkey_steady v time key state;
  silent = vkey_silent v time key state;
  calm = vkey_calm v time key state;
  holds = λ log. refl;
  serves = λ log. refl;
  serving_new = λ log. refl;
  updating = λ log. refl;
  edits = λ m rest. refl;
  leaving = λ log. refl;
  entering = λ log. refl;
}

pub vmods_aside : (v : ℕ) (mods : Mods) → IsAside (acts.VMods v mods)
vmods_aside v mods = record {
  steady = vmods_steady v mods;
  silent = vmods_silent v mods;
  calm = vmods_calm v mods;
  holds = λ log. refl;
  serves = λ log. refl;
  serving_new = λ log. refl;
  updating = λ log. refl;
  edits = λ m rest. refl;
  leaving = λ log. refl;
  entering = λ log. refl;
}

held_aside : (act : Act) (log : List Act) → IsHistory log → IsAside act → holder (act ∷ log) ≡ holder log
held_aside act log i k = k.holds log ∙ kept_same act log i k.steady

quiet_aside : (act : Act) (log : List Act) → IsHistory log → IsAside act → notice act log ≡ None
quiet_aside act log i k =
    notice_quiet act log (k.silent.begins log) (k.serving_new log) (k.updating log) (held_aside act log i k)

-- one that makes no object
pub stands_aside : (s : State) (log : List Act) (act : Act) → IsHistory log → IsAside act →
    model.made act (length log + 1) (owner (object log (model.maker act))) ≡ None → Stands s log →
    Stands (counted s) (act ∷ log)
stands_aside s log act i k n h = record {
  acts_now = one_more s act log h;
  objects_now =
      h.objects_now
      ∙ sym (entries_same act log (all_stay act log i k.steady k.silent (k.calm.areas log) (k.holds log)) n);
  focus_now = h.focus_now ∙ sym (focus_same act log i k.steady);
  holder_now = h.holder_now ∙ sym (held_aside act log i k);
  served_now =
      served_notified s act log None h.served_now (serving_same act log (k.serves log) k.steady)
      (quiet_aside act log i k) k.edits;
  screen_now = h.screen_now ∙ sym (k.calm.screens log);
  keys_now = keys_same act log s.keys k.calm (k.serves log) k.steady.keeps h.keys_now;
}

-- one that makes a thing
pub stands_thing : (s : State) (log : List Act) (act : Act) (p : ℕ) → IsHistory log → IsAside act →
    model.made act (length log + 1) (owner (object log (model.maker act)))
    ≡ Some (record { kind = ThingKind; peer = p }) → Stands s log →
    Stands (made p Thing (counted s)) (act ∷ log)
stands_thing s log act p i k n h = record {
  acts_now = one_more s act log h;
  objects_now =
      ap (λ n. s.objects ++ record { label = n + 1; peer = p; kind = Thing } ∷ []) h.acts_now ∙
      ap (λ os. os ++ record { label = length log + 1; peer = p; kind = Thing } ∷ []) h.objects_now ∙
      sym (entries_stay act log (all_stay act log i k.steady k.silent (k.calm.areas log) (k.holds log)) ∙
      ap (λ es. entries log ++ es) (something_new act log (record { kind = ThingKind; peer = p }) n));
  focus_now = h.focus_now ∙ sym (focus_same act log i k.steady);
  holder_now = h.holder_now ∙ sym (held_aside act log i k);
  served_now =
      served_notified s act log None h.served_now (serving_same act log (k.serves log) k.steady)
      (quiet_aside act log i k) k.edits;
  screen_now = h.screen_now ∙ sym (k.calm.screens log);
  keys_now = keys_same act log s.keys k.calm (k.serves log) k.steady.keeps h.keys_now;
}

-- one that makes a board
pub stands_board_made : (s : State) (log : List Act) (p : ℕ) → IsHistory log → Stands s log →
    Stands (made p Board (counted s)) (acts.VBoard p ∷ log)
stands_board_made s log p i h =
    let act : Act = acts.VBoard p in
    let k : IsAside act = vboard_aside p in
    record {
      acts_now = one_more s act log h;
      objects_now =
          ap (λ n. s.objects ++ record { label = n + 1; peer = p; kind = Board } ∷ []) h.acts_now ∙
          ap (λ os. os ++ record { label = length log + 1; peer = p; kind = Board } ∷ []) h.objects_now ∙
          sym (entries_stay act log (all_stay act log i k.steady k.silent (k.calm.areas log) (k.holds log)) ∙
          ap (λ es. entries log ++ es) (something_new act log (record { kind = BoardKind; peer = p }) refl));
      focus_now = h.focus_now ∙ sym (focus_same act log i k.steady);
      holder_now = h.holder_now ∙ sym (held_aside act log i k);
      served_now =
          served_notified s act log None h.served_now (serving_same act log (k.serves log) k.steady)
          (quiet_aside act log i k) k.edits;
      screen_now = h.screen_now ∙ sym (k.calm.screens log);
      keys_now = keys_same act log s.keys k.calm (k.serves log) k.steady.keeps h.keys_now;
    }

-- it tells its own events alone
pub says_aside : (act : Act) (log : List Act) → IsHistory log → IsAside act → own act log ≡ told_by act log
says_aside act log i k = says_own act log (quiet_aside act log i k) (k.leaving log) (k.entering log)

pub says_registry : (s : State) (log : List Act) (p : ℕ) (role : Role) → IsHistory log → Stands s log →
    globals_told (s.acts + 1) role ≡ told_by (acts.Registry p role) log
says_registry s log p role i h =
    ap (λ n. globals_told (n + 1) role) h.acts_now ∙ says_aside (acts.Registry p role) log i (registry_aside p role)

pub says_sync : (s : State) (log : List Act) (p : ℕ) → IsHistory log → Stands s log →
    synced (s.acts + 1) p ≡ told_by (acts.Sync p) log
says_sync s log p i h = ap (λ n. synced (n + 1) p) h.acts_now ∙ says_aside (acts.Sync p) log i (sync_aside p)

pub says_seat : (s : State) (log : List Act) (p : ℕ) → IsHistory log → Stands s log →
    to (s.acts + 1) (said.Capabilities 0) ∷ [] ≡ told_by (acts.Seat p) log
says_seat s log p i h =
    ap (λ n. to (n + 1) (said.Capabilities 0) ∷ []) h.acts_now ∙ says_aside (acts.Seat p) log i (seat_aside p)
