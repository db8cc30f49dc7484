-- Acts on the keyboard, and the screen: the relay stands for the history with them, and told what they tell.
use Rattle.std.proofs.Common.{◌≡◌, ℕ, ◌+◌, ◌≤◌, List, [], ◌∷◌, ◌++◌, length, map, Bool, true, false, Option, Some, None, ap, refl, sym, subst, ◌∙◌, arith}
use Rattle.std.specs.Prelude.{◌&&◌, if◌then◌else◌, is_none}
use Rattle.std.proofs.lemmas.Bool.{ne_eqb, eq-eqb}
use Rattle.std.proofs.lemmas.List.{map-append}
use Rattle.popup_place.specs.declared.geometry.Rect.{Rect}
use Rattle.popup_place.specs.declared.geometry.Size.{Size}
use Rattle.relay_model.specs.declared.act.Act.{Act}
use Rattle.relay_model.specs.declared.act.Act.TheVariants as acts
use Rattle.relay_model.specs.declared.said.Said.TheVariants as said
use Rattle.relay_model.specs.Objects as model
use Rattle.relay_model.specs.Objects.{Kind, PopupKind, GrabKind, is_at, owner, object, peer_of}
use Rattle.relay_model.specs.Focus.{where_alive}
use Rattle.relay_model.specs.Hold.{kept, holder}
use Rattle.relay_model.specs.Activation.{serving, makes_serving, updates, notice}
use Rattle.relay_model.specs.Keys as keys
use Rattle.relay_model.specs.Keys.{Keymap, Mods, Repeat, Goes, ToGrab, ToShell, Nowhere, Refused, standing, is_press, is_refused, key_route, last_keymap, last_repeat, last_mods}
use Rattle.relay_model.specs.Popups.{area, screen}
use Rattle.relay_model.specs.Told.{to, to_grab, leaves, enters, own, keymap_said, repeat_said, mods_said, keyboard_said, key_told as key_said, to_method, told_by}
use Rattle.relay_model.proofs.ActsOrIdle.{IsHistory}
use Rattle.relay_model.proofs.FocusLaws.{IsSteady, focus_same, object_same, entered_same, entered_since_same}
use Rattle.relay_model.proofs.HoldLaws.{kept_same}
use Rattle.relay_model.proofs.ActivationLaws.{serving_same}
use Rattle.kbd_grab.specs.Keyboard.{Keyboard, StandsFor, turned}
use Rattle.relay_objects.specs.declared.object.Kind.{Kind as KeptKind}
use Rattle.relay_objects.specs.declared.object.Kind.TheVariants.{Popup, Grab}
use Rattle.relay_core.specs.KeyCalls.{key_calls, route_of}
use Rattle.relay_objects.specs.Objects.{find, owner_in, placed_at}
use Rattle.relay_objects.specs.Keyboard.{keymap_told, repeat_told, mods_told, keyboard_told, key_told}
use Rattle.relay_core.specs.Machine.{State, counted, made_for, made_by, stands_now, grabbed, keyed, route_in, moved}
use Rattle.relay_core.specs.Stands.{Stands, entries, kind_of}
use Rattle.relay_core.proofs.KeyboardAfterActs.{standing_is, keys_grabbed, keys_turned, keymap_stands, repeat_stands, mods_stands, route_is, refused_goes, refused_turns}
use Rattle.relay_core.proofs.ActsLeaveScreen.{keys_same, board_same, popup_calm}
use Rattle.relay_core.proofs.HistoryEntries.{AllMove, eqb_sym}
use Rattle.relay_core.proofs.LookUpsFind.{finds_owner}
use Rattle.relay_core.proofs.GrabLaws.{standing_within}
use Rattle.relay_core.proofs.KeptFields.{IsSilent, field_left}
use Rattle.relay_core.proofs.KeyCalls.{calls_keymap, calls_repeat, calls_mods}
use Rattle.relay_core.proofs.EntriesMove.{stays, touch_placed, something_new, entries_stay, entries_touched, entries_same}
use Rattle.relay_core.proofs.ServiceIsKept.{LeavesEdits, served_notified}
use Rattle.relay_core.proofs.SteadyActs.{popup_steady, grab_steady, area_steady, screen_steady, key_steady, mods_steady, keymap_steady, repeat_steady, popup_silent, grab_silent, area_silent, screen_silent, key_silent, mods_silent, keymap_silent, repeat_silent, all_stay, notice_quiet}
use Rattle.relay_core.proofs.SteadyActsStand.{one_more, stands_idle}
use Rattle.relay_core.proofs.ActsTell.{says_idle, method_quiet}

-- objects that a method makes

-- An act that makes an object of this kind for the method m, and says nothing of fields, of the method and of the
-- screen.
record IsMaking (act : Act) (m : ℕ) (kind : Kind) : Type 0 where
  steady : IsSteady act
  silent : IsSilent act
  new : (log : List Act) →
      model.made act (length log + 1) (owner (object log (model.maker act))) ≡ model.made_for kind (peer_of log m)
  areas : (log : List Act) (x : ℕ) → area (act ∷ log) x ≡ area log x
  screens : (log : List Act) → screen (act ∷ log) ≡ screen log
  holds : (log : List Act) → holder (act ∷ log) ≡ kept act log (holder log)
  serves : (log : List Act) → serving (act ∷ log) ≡ where_alive (act ∷ log) (serving log)
  serving_new : (log : List Act) → makes_serving act log ≡ false
  updating : (log : List Act) → updates act log ≡ false
  edits : LeavesEdits act

stands_made : (s : State) (log : List Act) (act : Act) (m : ℕ) (kind : Kind) (made_kind : KeptKind) (keys : Keyboard)
    (o : Option ℕ) → IsHistory log →
    IsMaking act m kind → peer_of log m ≡ o → kind_of (act ∷ log) (length log + 1) kind ≡ made_kind →
    StandsFor (key_calls (act ∷ log)) keys → Stands s log →
    Stands (record (made_for o made_kind (counted s)) { keys = keys }) (act ∷ log)
stands_made s log act m kind made_kind keys None i k e d q h =
    let held : holder (act ∷ log) ≡ holder log = k.holds log ∙ kept_same act log i k.steady in
    record {
      acts_now = one_more s act log h;
      objects_now =
          h.objects_now
          ∙ sym (entries_same act log (all_stay act log i k.steady k.silent (k.areas log) (k.holds log))
          (k.new log ∙ ap (model.made_for kind) e));
      focus_now = h.focus_now ∙ sym (focus_same act log i k.steady);
      holder_now = h.holder_now ∙ sym held;
      served_now = served_notified s act log None h.served_now (serving_same act log (k.serves log) k.steady)
          (notice_quiet act log (k.silent.begins log) (k.serving_new log) (k.updating log) held) k.edits;
      screen_now = h.screen_now ∙ sym (k.screens log);
      keys_now = q;
    }
stands_made s log act m kind made_kind keys (Some p) i k e d q h =
    let held : holder (act ∷ log) ≡ holder log = k.holds log ∙ kept_same act log i k.steady in
    record {
      acts_now = one_more s act log h;
      objects_now =
          ap (λ n. s.objects ++ record { label = n + 1; peer = p; kind = made_kind } ∷ []) h.acts_now ∙
          ap (λ os. os ++ record { label = length log + 1; peer = p; kind = made_kind } ∷ []) h.objects_now ∙
          sym (entries_stay act log (all_stay act log i k.steady k.silent (k.areas log) (k.holds log)) ∙
          ap (λ es. entries log ++ es)
          (something_new act log (record { kind = kind; peer = p }) (k.new log ∙ ap (model.made_for kind) e) ∙
          ap (λ v. record { label = length log + 1; peer = p; kind = v } ∷ []) d));
      focus_now = h.focus_now ∙ sym (focus_same act log i k.steady);
      holder_now = h.holder_now ∙ sym held;
      served_now = served_notified s act log None h.served_now (serving_same act log (k.serves log) k.steady)
          (notice_quiet act log (k.silent.begins log) (k.serving_new log) (k.updating log) held) k.edits;
      screen_now = h.screen_now ∙ sym (k.screens log);
      keys_now = q;
    }

popup_making : (m t : ℕ) → IsMaking (acts.Popup m t) m (PopupKind m t)
popup_making m t = record {
  steady = popup_steady m t;
  silent = popup_silent m t;
  new = λ log. refl;
  areas = λ log x. refl;
  screens = λ log. refl;
  holds = λ log. refl;
  serves = λ log. refl;
  serving_new = λ log. refl;
  updating = λ log. refl;
  edits = λ k rest. refl;
}

grab_making : (m : ℕ) → IsMaking (acts.Grab m) m (GrabKind m)
grab_making m = record {
  steady = grab_steady m;
  silent = grab_silent m;
  new = λ log. refl;
  areas = λ log x. refl;
  screens = λ log. refl;
  holds = λ log. refl;
  serves = λ log. refl;
  serving_new = λ log. refl;
  updating = λ log. refl;
  edits = λ k rest. refl;
}

keys_made : (o : Option ℕ) (kind : KeptKind) (s : State) →
    record (made_for o kind s) { keys = s.keys } ≡ made_for o kind s
keys_made None kind s = refl
keys_made (Some p) kind s = refl

pub stands_popup : (s : State) (log : List Act) (m t : ℕ) → IsHistory log → Stands s log →
    Stands (made_by m (Popup m t) (counted s)) (acts.Popup m t ∷ log)
stands_popup s log m t i h =
    subst (λ r. Stands r (acts.Popup m t ∷ log)) (keys_made (owner_in (find s.objects m)) (Popup m t) (counted s))
    (stands_made s log (acts.Popup m t) m (PopupKind m t) (Popup m t) s.keys (owner_in (find s.objects m)) i
    (popup_making m t) (sym (finds_owner s log m h)) refl
    (keys_same (acts.Popup m t) log s.keys (popup_calm m t) refl (λ x o. refl) h.keys_now) h)

-- where a grab stands at its making
stands_now_is : (s : State) (log : List Act) (m : ℕ) → Stands s log →
    stands_now m (counted s) ≡ (is_none (standing log) && is_at (serving log) m)
stands_now_is s log m h =
    ap (λ o. is_none o && is_at s.serving m) (standing_is s log h)
    ∙ ap (λ o. is_none (standing log) && is_at o m) h.served_now.serving_now

pub stands_grab : (s : State) (log : List Act) (m : ℕ) → IsHistory log → Stands s log →
    Stands (grabbed m (counted s)) (acts.Grab m ∷ log)
stands_grab s log m i h =
    let b : Bool = stands_now m (counted s) in
    let keys : StandsFor (key_calls (acts.Grab m ∷ log))
    (if b then record s.keys { standing = Some (s.acts + 1) } else s.keys) =
    subst (λ n. StandsFor (key_calls (acts.Grab m ∷ log))
    (if b then record s.keys { standing = Some (n + 1) } else s.keys)) (sym h.acts_now)
    (keys_grabbed log s.keys m b h.keys_now (stands_now_is s log m h)) in
    stands_made s log (acts.Grab m) m (GrabKind m) (Grab m) _ (owner_in (find s.objects m)) i (grab_making m)
    (sym (finds_owner s log m h)) refl keys h

-- the screen

area_moves : (log : List Act) (t : ℕ) (rect : Rect) → IsHistory log →
    AllMove (acts.Area t rect) log (placed_at t rect) (λ _. true)
area_moves log t rect i =
    λ x l. stays (placed_at t rect) (acts.Area t rect) log x
    (object_same (acts.Area t rect) log x (area_steady t rect) l)
    (touch_placed t rect (acts.Area t rect) log x (ap (λ b. if b then rect else area log x) (eqb_sym t x))
    (field_left (acts.Area t rect) log x (area_silent t rect) l
    (entered_same (acts.Area t rect) log x i (area_steady t rect) l)
    (entered_since_same (acts.Area t rect) log x (area_steady t rect))
    (ap (λ o. is_at o x) (kept_same (acts.Area t rect) log i (area_steady t rect)))))

pub stands_area : (s : State) (log : List Act) (t : ℕ) (rect : Rect) → IsHistory log → Stands s log →
    Stands (record (counted s) { objects = map (placed_at t rect) s.objects }) (acts.Area t rect ∷ log)
stands_area s log t rect i h = record {
  acts_now = one_more s (acts.Area t rect) log h;
  objects_now =
      ap (map (placed_at t rect)) h.objects_now
      ∙ sym (entries_touched (acts.Area t rect) log (placed_at t rect) (area_moves log t rect i) refl);
  focus_now = h.focus_now ∙ sym (focus_same (acts.Area t rect) log i (area_steady t rect));
  holder_now = h.holder_now ∙ sym (kept_same (acts.Area t rect) log i (area_steady t rect));
  served_now =
      served_notified s (acts.Area t rect) log None h.served_now
      (serving_same (acts.Area t rect) log refl (area_steady t rect))
      (notice_quiet (acts.Area t rect) log refl refl refl (kept_same (acts.Area t rect) log i (area_steady t rect)))
      (λ m rest. refl);
  screen_now = h.screen_now;
  keys_now = board_same (acts.Area t rect) log s.keys refl refl refl (λ x o. refl) h.keys_now;
}

pub stands_screen : (s : State) (log : List Act) (size : Size) → IsHistory log → Stands s log →
    Stands (record (counted s) { screen = size }) (acts.Screen size ∷ log)
stands_screen s log size i h = record {
  acts_now = one_more s (acts.Screen size) log h;
  objects_now =
      h.objects_now
      ∙ sym (entries_same (acts.Screen size) log
      (all_stay (acts.Screen size) log i (screen_steady size) (screen_silent size) (λ x. refl) refl) refl);
  focus_now = h.focus_now ∙ sym (focus_same (acts.Screen size) log i (screen_steady size));
  holder_now = h.holder_now ∙ sym (kept_same (acts.Screen size) log i (screen_steady size));
  served_now =
      served_notified s (acts.Screen size) log None h.served_now
      (serving_same (acts.Screen size) log refl (screen_steady size))
      (notice_quiet (acts.Screen size) log refl refl refl (kept_same (acts.Screen size) log i (screen_steady size)))
      (λ m rest. refl);
  screen_now = refl;
  keys_now = board_same (acts.Screen size) log s.keys refl refl refl (λ x o. refl) h.keys_now;
}

-- the keyboard

-- An act that changes the keyboard alone.
record IsBoard (act : Act) : Type 0 where
  steady : IsSteady act
  silent : IsSilent act
  new : (log : List Act) → model.made act (length log + 1) (owner (object log (model.maker act))) ≡ None
  areas : (log : List Act) (x : ℕ) → area (act ∷ log) x ≡ area log x
  screens : (log : List Act) → screen (act ∷ log) ≡ screen log
  holds : (log : List Act) → holder (act ∷ log) ≡ kept act log (holder log)
  serves : (log : List Act) → serving (act ∷ log) ≡ where_alive (act ∷ log) (serving log)
  serving_new : (log : List Act) → makes_serving act log ≡ false
  updating : (log : List Act) → updates act log ≡ false
  edits : LeavesEdits act

stands_board : (s : State) (log : List Act) (act : Act) (keys : Keyboard) → IsHistory log → IsBoard act →
    StandsFor (key_calls (act ∷ log)) keys → Stands s log →
    Stands (record (counted s) { keys = keys }) (act ∷ log)
stands_board s log act keys i k q h =
    let held : holder (act ∷ log) ≡ holder log = k.holds log ∙ kept_same act log i k.steady in
    record {
      acts_now = one_more s act log h;
      objects_now =
          h.objects_now
          ∙ sym (entries_same act log (all_stay act log i k.steady k.silent (k.areas log) (k.holds log)) (k.new log));
      focus_now = h.focus_now ∙ sym (focus_same act log i k.steady);
      holder_now = h.holder_now ∙ sym held;
      served_now = served_notified s act log None h.served_now (serving_same act log (k.serves log) k.steady)
          (notice_quiet act log (k.silent.begins log) (k.serving_new log) (k.updating log) held) k.edits;
      screen_now = h.screen_now ∙ sym (k.screens log);
      keys_now = q;
    }

key_board : (time key state : ℕ) → IsBoard (acts.Key time key state)
key_board time key state = record {
  steady = key_steady time key state;
  silent = key_silent time key state;
  new = λ log. refl;
  areas = λ log x. refl;
  screens = λ log. refl;
  holds = λ log. refl;
  serves = λ log. refl;
  serving_new = λ log. refl;
  updating = λ log. refl;
  edits = λ m rest. refl;
}

mods_board : (mods : Mods) → IsBoard (acts.Mods mods)
mods_board mods = record {
  steady = mods_steady mods;
  silent = mods_silent mods;
  new = λ log. refl;
  areas = λ log x. refl;
  screens = λ log. refl;
  holds = λ log. refl;
  serves = λ log. refl;
  serving_new = λ log. refl;
  updating = λ log. refl;
  edits = λ m rest. refl;
}

keymap_board : (keymap : Keymap) → IsBoard (acts.Keymap keymap)
keymap_board keymap = record {
  steady = keymap_steady keymap;
  silent = keymap_silent keymap;
  new = λ log. refl;
  areas = λ log x. refl;
  screens = λ log. refl;
  holds = λ log. refl;
  serves = λ log. refl;
  serving_new = λ log. refl;
  updating = λ log. refl;
  edits = λ m rest. refl;
}

repeat_board : (repeat : Repeat) → IsBoard (acts.Repeat repeat)
repeat_board repeat = record {
  steady = repeat_steady repeat;
  silent = repeat_silent repeat;
  new = λ log. refl;
  areas = λ log x. refl;
  screens = λ log. refl;
  holds = λ log. refl;
  serves = λ log. refl;
  serving_new = λ log. refl;
  updating = λ log. refl;
  edits = λ m rest. refl;
}

pub stands_key : (s : State) (log : List Act) (time key state : ℕ) → IsHistory log → Stands s log →
    Stands (keyed key state (counted s)) (acts.Key time key state ∷ log)
stands_key s log time key state i h =
    stands_board s log (acts.Key time key state) _ i (key_board time key state)
    (keys_turned log s.keys time key state h.keys_now) h

-- a press that is refused leaves all as it was
pub stands_refused : (s : State) (log : List Act) (time key state : ℕ) → IsHistory log →
    is_refused log key state ≡ true → Stands s log →
    Stands (keyed key state (counted s)) (acts.Idle ∷ log)
stands_refused s log time key state i r h =
    let same : turned s.keys key (is_press state) ≡ s.keys.down = refused_turns s.keys log key state i h.keys_now r in
    subst (λ d. Stands (record (counted s) { keys = record s.keys { down = d } }) (acts.Idle ∷ log)) (sym same)
    (stands_idle s log i h)

pub stands_mods : (s : State) (log : List Act) (mods : Mods) → IsHistory log → Stands s log →
    Stands (moved (acts.Mods mods) (counted s)) (acts.Mods mods ∷ log)
stands_mods s log mods i h =
    stands_board s log (acts.Mods mods) _ i (mods_board mods)
    (mods_stands (key_calls log) s.keys mods h.keys_now) h

pub stands_keymap : (s : State) (log : List Act) (keymap : Keymap) → IsHistory log → Stands s log →
    Stands (moved (acts.Keymap keymap) (counted s)) (acts.Keymap keymap ∷ log)
stands_keymap s log keymap i h =
    stands_board s log (acts.Keymap keymap) _ i (keymap_board keymap)
    (keymap_stands (key_calls log) s.keys keymap h.keys_now) h

pub stands_repeat : (s : State) (log : List Act) (repeat : Repeat) → IsHistory log → Stands s log →
    Stands (moved (acts.Repeat repeat) (counted s)) (acts.Repeat repeat ∷ log)
stands_repeat s log repeat i h =
    stands_board s log (acts.Repeat repeat) _ i (repeat_board repeat)
    (repeat_stands (key_calls log) s.keys repeat h.keys_now) h

-- what they tell

pub says_own : (act : Act) (log : List Act) → notice act log ≡ None → leaves act log ≡ [] → enters act log ≡ [] →
    own act log ≡ told_by act log
says_own act log q a b =
    let c : to_method act log (serving (act ∷ log)) ≡ [] = method_quiet act log (serving (act ∷ log)) q in
    sym (ap (λ ts. ts ++ (to_method act log (serving (act ∷ log)) ++ (enters act log ++ own act log))) a ∙
    ap (λ ts. ts ++ (enters act log ++ own act log)) c ∙ ap (λ ts. ts ++ own act log) b)

board_quiet : (act : Act) (log : List Act) → IsHistory log → IsBoard act → notice act log ≡ None
board_quiet act log i k =
    notice_quiet act log (k.silent.begins log) (k.serving_new log) (k.updating log)
    (k.holds log ∙ kept_same act log i k.steady)

pub key_route_told : (n time key state : ℕ) (g : Goes) →
    key_told n time key state (route_of g) ≡ key_said n time key state g
key_route_told n time key state (ToGrab g) = refl
key_route_told n time key state ToShell = refl
key_route_told n time key state Nowhere = refl
key_route_told n time key state Refused = refl

pub says_key : (s : State) (log : List Act) (time key state : ℕ) → IsHistory log → Stands s log →
    key_told (s.acts + 1) time key state (route_in key state (counted s)) ≡ told_by (acts.Key time key state) log
says_key s log time key state i h =
    ap (λ n. key_told (n + 1) time key state (route_in key state (counted s))) h.acts_now ∙
    ap (key_told (length log + 1) time key state) (route_is s log key state i h)
    ∙ key_route_told (length log + 1) time key state (key_route log key state) ∙
    says_own (acts.Key time key state) log
    (board_quiet (acts.Key time key state) log i (key_board time key state)) refl refl

pub says_refused : (s : State) (log : List Act) (time key state : ℕ) → IsHistory log → is_refused log key state ≡ true →
    Stands s log →
    key_told (s.acts + 1) time key state (route_in key state (counted s)) ≡ told_by acts.Idle log
says_refused s log time key state i r h =
    ap (key_told (s.acts + 1) time key state)
    (route_is s log key state i h ∙ ap route_of (refused_goes log key state r)) ∙ says_idle log i

pub says_mods : (s : State) (log : List Act) (mods : Mods) → IsHistory log → Stands s log →
    to_grab s.keys.standing (said.Mods (s.acts + 1) mods) ≡ told_by (acts.Mods mods) log
says_mods s log mods i h =
    ap (λ o. to_grab o (said.Mods (s.acts + 1) mods)) (standing_is s log h) ∙
    ap (λ n. to_grab (standing log) (said.Mods (n + 1) mods)) h.acts_now ∙
    says_own (acts.Mods mods) log (board_quiet (acts.Mods mods) log i (mods_board mods)) refl refl

pub says_keymap : (s : State) (log : List Act) (keymap : Keymap) → IsHistory log → Stands s log →
    to_grab s.keys.standing (said.Keymap keymap) ≡ told_by (acts.Keymap keymap) log
says_keymap s log keymap i h =
    ap (λ o. to_grab o (said.Keymap keymap)) (standing_is s log h) ∙
    says_own (acts.Keymap keymap) log (board_quiet (acts.Keymap keymap) log i (keymap_board keymap)) refl refl

pub says_repeat : (s : State) (log : List Act) (repeat : Repeat) → IsHistory log → Stands s log →
    to_grab s.keys.standing (said.Repeat repeat) ≡ told_by (acts.Repeat repeat) log
says_repeat s log repeat i h =
    ap (λ o. to_grab o (said.Repeat repeat)) (standing_is s log h) ∙
    says_own (acts.Repeat repeat) log (board_quiet (acts.Repeat repeat) log i (repeat_board repeat)) refl refl

-- a grab that stands is told the keyboard

keymap_is : (g : ℕ) (o : Option keys.Keymap) → keymap_told g o ≡ map (to g) (keymap_said o)
keymap_is g None = refl
keymap_is g (Some k) = refl

repeat_is : (g : ℕ) (o : Option keys.Repeat) → repeat_told g o ≡ map (to g) (repeat_said o)
repeat_is g None = refl
repeat_is g (Some r) = refl

mods_is : (g : ℕ) (o : Option keys.Mods) → mods_told g o ≡ map (to g) (mods_said g o)
mods_is g None = refl
mods_is g (Some m) = refl

keyboard_is : (s : State) (log : List Act) (g : ℕ) → Stands s log →
    keyboard_told g s.keys ≡ map (to g) (keyboard_said g log)
keyboard_is s log g h =
    let a : keymap_told g s.keys.keymap ≡ map (to g) (keymap_said (last_keymap log)) =
    ap (keymap_told g) (h.keys_now.last_keymap ∙ calls_keymap log) ∙ keymap_is g (last_keymap log) in
    let b : repeat_told g s.keys.repeat ≡ map (to g) (repeat_said (last_repeat log)) =
    ap (repeat_told g) (h.keys_now.last_repeat ∙ calls_repeat log) ∙ repeat_is g (last_repeat log) in
    let c : mods_told g s.keys.mods ≡ map (to g) (mods_said g (last_mods log)) =
    ap (mods_told g) (h.keys_now.last_mods ∙ calls_mods log) ∙ mods_is g (last_mods log) in
    ap (λ ts. ts ++ (repeat_told g s.keys.repeat ++ mods_told g s.keys.mods)) a ∙
    ap (λ ts. map (to g) (keymap_said (last_keymap log)) ++ (ts ++ mods_told g s.keys.mods)) b ∙
    ap (λ ts. map (to g) (keymap_said (last_keymap log)) ++ (map (to g) (repeat_said (last_repeat log)) ++ ts)) c ∙
    sym (map-append (to g) (keymap_said (last_keymap log))
    (repeat_said (last_repeat log) ++ mods_said g (last_mods log)) ∙
    ap (λ ts. map (to g) (keymap_said (last_keymap log)) ++ ts)
    (map-append (to g) (repeat_said (last_repeat log)) (mods_said g (last_mods log))))

-- the new grab stands exactly where the relay lets it
grab_new : (log : List Act) (m : ℕ) (o : Option ℕ) (b : Bool) → standing log ≡ o → is_at (serving log) m ≡ b →
    (is_none o && b) ≡ is_at (standing (acts.Grab m ∷ log)) (length log + 1)
grab_new log m None true e k = rw (e, k, eq-eqb (length log + 1) (length log + 1) refl) refl
grab_new log m None false e k =
    sym (ap (λ o. is_at (if is_none o && is_at (serving log) m then Some (length log + 1) else o) (length log + 1)) e ∙
    ap (λ b. is_at (if b then Some (length log + 1) else None) (length log + 1)) k)
grab_new log m (Some g) b e k =
    let low : g ≤ length log = standing_within log g e in
    sym (ap (λ o. is_at (if is_none o && is_at (serving log) m then Some (length log + 1) else o) (length log + 1)) e ∙
    ne_eqb g (length log + 1) (λ q. omega arith))

pub says_grab : (s : State) (log : List Act) (m : ℕ) → IsHistory log → Stands s log →
    (if stands_now m (counted s) then keyboard_told (s.acts + 1) s.keys else []) ≡ told_by (acts.Grab m) log
says_grab s log m i h =
    ap (λ b. if b then keyboard_told (s.acts + 1) s.keys else [])
    (stands_now_is s log m h ∙ grab_new log m (standing log) (is_at (serving log) m) refl refl) ∙
    ap (λ n. if is_at (standing (acts.Grab m ∷ log)) (length log + 1) then keyboard_told (n + 1) s.keys else [])
    h.acts_now ∙
    ap (λ ts. if is_at (standing (acts.Grab m ∷ log)) (length log + 1) then ts else [])
    (keyboard_is s log (length log + 1) h) ∙
    says_own (acts.Grab m) log
    (notice_quiet (acts.Grab m) log refl refl refl (kept_same (acts.Grab m) log i (grab_steady m))) refl refl
