-- That the calls of a history make of the keyboard what the history says.
use Rattle.std.proofs.Common.{◌≡◌, ℕ, ◌+◌, ◌≤◌, ◌<◌, List, [], ◌∷◌, ◌++◌, length, Bool, true, false, Option, Some, None, ap, refl, sym, ◌∙◌, arith, ◌⊎◌, inl, inr}
use Rattle.std.specs.Prelude.{◌==◌, ◌&&◌, ◌||◌, not, nat_lt, if◌then◌else◌, is_some, is_none}
use Rattle.std.specs.List.{count_by}
use Rattle.std.proofs.lemmas.Bool.{ne_eqb, eq-eqb, eqb-true}
use Rattle.kbd_grab.specs.declared.keyboard.Route.TheVariants as routes
use Rattle.kbd_grab.specs.Keys as board
use Rattle.kbd_grab.specs.Keys.{Call}
use Rattle.kbd_grab.specs.Keys.Call.{Stand, Fall, Key, TellKeymap, TellRepeat, TellMods}
use Rattle.kbd_grab.proofs.KeysCounted.{count_everywhere}
use Rattle.relay_model.specs.declared.act.Act.{Act}
use Rattle.relay_model.specs.declared.act.Act.TheVariants as acts
use Rattle.relay_model.specs.declared.act.EndCause.{EndCause}
use Rattle.relay_model.specs.Focus.{peer_at}
use Rattle.relay_model.specs.Objects.{is_at, is_same, next, method_of}
use Rattle.relay_model.specs.Activation.{serving}
use Rattle.relay_model.specs.Keys.{ToGrab, ToShell, Nowhere, Refused, stands_on, standing, is_press, with_key, is_down, number_down, pressed_keys, first_went, to_standing, as_first, key_route, is_refused, last_keymap, last_repeat, last_mods}
use Rattle.relay_model.proofs.ActsOrIdle.{IsHistory, live}
use Rattle.relay_model.proofs.FocusLaws.{and_false}
use Rattle.relay_core.specs.KeyCalls.{route_of, calls_of, stand_calls, fall_calls, key_calls}
use Rattle.relay_core.proofs.GrabLaws.{standing_steady, standing_within, standing_dropped, standing_gone, standing_new}

-- the calls of a history

grab_beyond : (o : Option ℕ) (n : ℕ) → ((g : ℕ) → o ≡ Some g → g ≤ n) → is_at o (n + 1) ≡ false
grab_beyond None n w = refl
grab_beyond (Some g) n w = let k : g ≤ n = w g refl in ne_eqb g (n + 1) (λ e. omega arith)

stand_by : (m n : ℕ) (o : Option ℕ) (b : Bool) (before : List Call) → is_at o (n + 1) ≡ false →
    board.grab_standing before ≡ o →
    board.grab_standing (stand_calls (n + 1) (if is_none o && b then Some (n + 1) else o) ++ before)
    ≡ (if is_none o && b then Some (n + 1) else o)
stand_by m n None true before h e = rw (eq-eqb (n + 1) (n + 1) refl) refl
stand_by m n None false before h e = e
stand_by m n (Some g) b before h e = rw h e

stands_or_falls : (log : List Act) (o : Option ℕ) → (stands_on log o ≡ o) ⊎ (stands_on log o ≡ None)
stands_or_falls log None = inl refl
stands_or_falls log (Some g) = at (is_same (method_of log g) (serving log))
  where
    at : (b : Bool) → ((if b then Some g else None) ≡ Some g) ⊎ ((if b then Some g else None) ≡ None)
    at true = inl refl
    at false = inr refl

fall_by : (o after : Option ℕ) (before : List Call) → (after ≡ o) ⊎ (after ≡ None) → board.grab_standing before ≡ o →
    board.grab_standing (fall_calls o after ++ before) ≡ after
fall_by None None before k e = e
fall_by None (Some h) before (inl d) e = cc
fall_by None (Some h) before (inr d) e = cc
fall_by (Some g) None before k e = refl
fall_by (Some g) (Some h) before (inl d) e = e ∙ sym d
fall_by (Some g) (Some h) before (inr d) e = cc

-- a grab that stands on is no call
pub fall_none : (o : Option ℕ) → fall_calls o o ≡ []
fall_none None = refl
fall_none (Some g) = refl

-- where the grab may have fallen
pub fall_if : (b : Bool) (o : Option ℕ) →
    fall_calls o (if b then None else o) ≡ (if is_some o && b then Fall ∷ [] else [])
fall_if true None = refl
fall_if true (Some g) = refl
fall_if false None = refl
fall_if false (Some g) = refl

-- the calls leave the grab that stands
pub calls_standing : (log : List Act) → board.grab_standing (key_calls log) ≡ standing log
calls_standing [] = refl
calls_standing (acts.Grab m ∷ older) =
    stand_by m (length older) (standing older) (is_at (serving older) m) (key_calls older)
    (grab_beyond (standing older) (length older) (standing_within older)) (calls_standing older)
calls_standing (acts.Key time key state ∷ older) =
    calls_standing older ∙ sym (standing_steady (acts.Key time key state) older refl refl (λ x o. refl))
calls_standing (acts.Mods mods ∷ older) =
    calls_standing older ∙ sym (standing_steady (acts.Mods mods) older refl refl (λ x o. refl))
calls_standing (acts.Keymap keymap ∷ older) =
    calls_standing older ∙ sym (standing_steady (acts.Keymap keymap) older refl refl (λ x o. refl))
calls_standing (acts.Repeat repeat ∷ older) =
    calls_standing older ∙ sym (standing_steady (acts.Repeat repeat) older refl refl (λ x o. refl))
calls_standing (act ∷ older) =
    fall_by (standing older) (standing (act ∷ older)) (key_calls older) (stands_or_falls (act ∷ older) (standing older))
    (calls_standing older)

-- what the acts call that may move the grab that stands

pub calls_steady : (act : Act) (log : List Act) → calls_of act log ≡ fall_calls (standing log) (standing (act ∷ log)) →
    standing (act ∷ log) ≡ standing log → key_calls (act ∷ log) ≡ key_calls log
calls_steady act log c s = rw (c, s, fall_none (standing log)) refl

pub calls_dropped : (x : ℕ) (log : List Act) →
    key_calls (acts.Drop x ∷ log)
    ≡ (if is_some (standing log) && (is_at (standing log) x || is_at (serving log) x) then Fall ∷ [] else [])
    ++ key_calls log
calls_dropped x log =
    rw (standing_dropped x log, fall_if (is_at (standing log) x || is_at (serving log) x) (standing log)) refl

pub calls_gone : (p : ℕ) (cause : EndCause) (log : List Act) →
    key_calls (acts.Gone p cause ∷ log)
    ≡ (if is_some (standing log) && is_at (peer_at log (standing log)) p then Fall ∷ [] else []) ++ key_calls log
calls_gone p cause log =
    rw (standing_gone p cause log, fall_if (is_at (peer_at log (standing log)) p) (standing log)) refl

stand_if : (o : Option ℕ) (b : Bool) (n : ℕ) → is_at o n ≡ false →
    stand_calls n (if is_none o && b then Some n else o) ≡ (if is_none o && b then Stand n ∷ [] else [])
stand_if None true n h = rw (eq-eqb n n refl) refl
stand_if None false n h = refl
stand_if (Some g) b n h = rw h refl

pub calls_grabbed : (m : ℕ) (log : List Act) →
    key_calls (acts.Grab m ∷ log)
    ≡ (if is_none (standing log) && is_at (serving log) m then Stand (length log + 1) ∷ [] else []) ++ key_calls log
calls_grabbed m log =
    ap (λ cs. cs ++ key_calls log)
    (stand_if (standing log) (is_at (serving log) m) (length log + 1)
    (grab_beyond (standing log) (length log) (standing_within log)))

-- a call that may be made, and that the question doesn't see
unseen : {A : Type 0} (ask : List Call → A) (b : Bool) (said : Call) (before : List Call) →
    ask (said ∷ before) ≡ ask before →
    ask ((if b then said ∷ [] else []) ++ before) ≡ ask before
unseen ask true said before e = e
unseen ask false said before e = refl

pub press_same : (b : Bool) (key : ℕ) (before : List Call) (keys : List ℕ) → board.pressed_keys before ≡ keys →
    board.pressed_keys (Key key b ∷ before) ≡ (if b then with_key key keys else keys)
press_same true key before keys e = rw e refl
press_same false key before keys e = e

calls_pressed : (log : List Act) → board.pressed_keys (key_calls log) ≡ pressed_keys log
calls_pressed [] = refl
calls_pressed (acts.Grab m ∷ older) =
    unseen board.pressed_keys _ (Stand (next older)) (key_calls older) refl ∙ calls_pressed older
calls_pressed (acts.Key time key state ∷ older) =
    press_same (is_press state) key (key_calls older) (pressed_keys older) (calls_pressed older)
calls_pressed (acts.Mods mods ∷ older) = calls_pressed older
calls_pressed (acts.Keymap keymap ∷ older) = calls_pressed older
calls_pressed (acts.Repeat repeat ∷ older) = calls_pressed older
calls_pressed (act ∷ older) = unseen board.pressed_keys _ Fall (key_calls older) refl ∙ calls_pressed older

-- the keys of the calls are down that are down after the acts
abbrev pub SameDown : List Call → List Act → Type 0
SameDown before log = (key : ℕ) → board.is_down before key ≡ is_down log key

number_same : (log : List Act) → SameDown (key_calls log) log → board.number_down (key_calls log) ≡ number_down log
number_same log same =
    ap (count_by (board.is_down (key_calls log))) (calls_pressed log)
    ∙ count_everywhere (is_down log) (board.is_down (key_calls log)) same (pressed_keys log)

roomy : (down room : Bool) → not (not down && not room) ≡ true → (down || room) ≡ true
roomy true room h = refl
roomy false true h = refl
roomy false false h = cc

pressed_by : (b : Bool) (k key : ℕ) (before : List Call) (older : List Act) → SameDown before older →
    board.number_down before ≡ number_down older →
    not ((b && not (is_down older k)) && not (nat_lt (number_down older) 64)) ≡ true →
    board.is_down (Key k b ∷ before) key ≡ (if key == k then b else is_down older key)
pressed_by true k key before older same number room = at (key == k) refl
  where
    at : (c : Bool) → (key == k) ≡ c →
        (if c then board.is_down before key || nat_lt (board.number_down before) 64 else board.is_down before key)
        ≡ (if c then true else is_down older key)
    at true e = rw (eqb-true key k e, same k, number) (roomy (is_down older k) (nat_lt (number_down older) 64) room)
    at false e = same key
pressed_by false k key before older same number room = at (key == k)
  where
    at : (c : Bool) → (if c then false else board.is_down before key) ≡ (if c then false else is_down older key)
    at true = refl
    at false = same key

pub calls_down : (log : List Act) → IsHistory log → SameDown (key_calls log) log
calls_down [] h key = refl
calls_down (acts.Grab m ∷ older) h key =
    unseen (λ cs. board.is_down cs key) _ (Stand (next older)) (key_calls older) refl ∙ calls_down older h.1 key
calls_down (acts.Key time k state ∷ older) h key =
    let same : SameDown (key_calls older) older = calls_down older h.1 in
    pressed_by (is_press state) k key (key_calls older) older same (number_same older same)
    (live (acts.Key time k state) older h.0 (λ (d : acts.Key time k state ≡ acts.Idle). cc))
calls_down (acts.Mods mods ∷ older) h key = calls_down older h.1 key
calls_down (acts.Keymap keymap ∷ older) h key = calls_down older h.1 key
calls_down (acts.Repeat repeat ∷ older) h key = calls_down older h.1 key
calls_down (act ∷ older) h key =
    unseen (λ cs. board.is_down cs key) _ Fall (key_calls older) refl ∙ calls_down older h.1 key

pub calls_number : (log : List Act) → IsHistory log → board.number_down (key_calls log) ≡ number_down log
calls_number log h = number_same log (calls_down log h)

went_by : (b : Bool) (k key : ℕ) (before : List Call) (older : List Act) →
    board.is_down before key ≡ is_down older key →
    board.grab_standing before ≡ standing older → board.first_went before key ≡ first_went older key →
    board.first_went (Key k b ∷ before) key
    ≡ (if key == k && (b && not (is_down older key)) then standing older else first_went older key)
went_by true k key before older down stands went = rw (down, stands, went) refl
went_by false k key before older down stands went = rw (went, and_false (key == k)) refl

pub calls_went : (log : List Act) → IsHistory log → (key : ℕ) →
    board.first_went (key_calls log) key ≡ first_went log key
calls_went [] h key = refl
calls_went (acts.Grab m ∷ older) h key =
    unseen (λ cs. board.first_went cs key) _ (Stand (next older)) (key_calls older) refl ∙ calls_went older h.1 key
calls_went (acts.Key time k state ∷ older) h key =
    went_by (is_press state) k key (key_calls older) older (calls_down older h.1 key) (calls_standing older)
    (calls_went older h.1 key)
calls_went (acts.Mods mods ∷ older) h key = calls_went older h.1 key
calls_went (acts.Keymap keymap ∷ older) h key = calls_went older h.1 key
calls_went (acts.Repeat repeat ∷ older) h key = calls_went older h.1 key
calls_went (act ∷ older) h key =
    unseen (λ cs. board.first_went cs key) _ Fall (key_calls older) refl ∙ calls_went older h.1 key

first_stands : (stands : Option ℕ) (g : ℕ) →
    board.as_first stands (Some g) ≡ route_of (if is_at stands g then ToGrab g else Nowhere)
first_stands None g = refl
first_stands (Some h) g = at (h == g)
  where
    at : (b : Bool) → (if b then routes.ToGrab g else routes.Nowhere) ≡ route_of (if b then ToGrab g else Nowhere)
    at true = refl
    at false = refl

first_shell : (stands : Option ℕ) → board.as_first stands None ≡ routes.Pass
first_shell None = refl
first_shell (Some h) = refl

pub first_route : (log : List Act) (went : Option ℕ) → board.as_first (standing log) went ≡ route_of (as_first log went)
first_route log None = first_shell (standing log)
first_route log (Some g) = first_stands (standing log) g

standing_route : (stands : Option ℕ) → board.to_standing stands ≡ route_of (to_standing stands)
standing_route None = refl
standing_route (Some g) = refl

route_by : (down pressed room : Bool) (log : List Act) (went : Option ℕ) →
    (if down then board.as_first (standing log) went
    else (if not pressed then routes.Pass
    else (if room then board.to_standing (standing log) else routes.TooMany)))
    ≡ route_of (if down then as_first log went
    else (if not pressed then ToShell
    else (if room then to_standing (standing log) else Refused)))
route_by true pressed room log went = first_route log went
route_by false false room log went = refl
route_by false true true log went = standing_route (standing log)
route_by false true false log went = refl

-- the keyboard's route is where the key goes
pub calls_route : (log : List Act) → IsHistory log → (key state : ℕ) →
    board.key_route (key_calls log) key (is_press state) ≡ route_of (key_route log key state)
calls_route log h key state =
    rw (calls_down log h key, calls_standing log, calls_went log h key, calls_number log h)
    (route_by (is_down log key) (is_press state) (nat_lt (number_down log) 64) log (first_went log key))

-- what the shell told last

pub calls_keymap : (log : List Act) → board.told_keymap (key_calls log) ≡ last_keymap log
calls_keymap [] = refl
calls_keymap (acts.Grab m ∷ older) =
    unseen board.told_keymap _ (Stand (next older)) (key_calls older) refl ∙ calls_keymap older
calls_keymap (acts.Key time k state ∷ older) = calls_keymap older
calls_keymap (acts.Mods mods ∷ older) = calls_keymap older
calls_keymap (acts.Keymap keymap ∷ older) = refl
calls_keymap (acts.Repeat repeat ∷ older) = calls_keymap older
calls_keymap (act ∷ older) = unseen board.told_keymap _ Fall (key_calls older) refl ∙ calls_keymap older

pub calls_repeat : (log : List Act) → board.told_repeat (key_calls log) ≡ last_repeat log
calls_repeat [] = refl
calls_repeat (acts.Grab m ∷ older) =
    unseen board.told_repeat _ (Stand (next older)) (key_calls older) refl ∙ calls_repeat older
calls_repeat (acts.Key time k state ∷ older) = calls_repeat older
calls_repeat (acts.Mods mods ∷ older) = calls_repeat older
calls_repeat (acts.Keymap keymap ∷ older) = calls_repeat older
calls_repeat (acts.Repeat repeat ∷ older) = refl
calls_repeat (act ∷ older) = unseen board.told_repeat _ Fall (key_calls older) refl ∙ calls_repeat older

pub calls_mods : (log : List Act) → board.told_mods (key_calls log) ≡ last_mods log
calls_mods [] = refl
calls_mods (acts.Grab m ∷ older) =
    unseen board.told_mods _ (Stand (next older)) (key_calls older) refl ∙ calls_mods older
calls_mods (acts.Key time k state ∷ older) = calls_mods older
calls_mods (acts.Mods mods ∷ older) = refl
calls_mods (acts.Keymap keymap ∷ older) = calls_mods older
calls_mods (acts.Repeat repeat ∷ older) = calls_mods older
calls_mods (act ∷ older) = unseen board.told_mods _ Fall (key_calls older) refl ∙ calls_mods older

-- no act of a history is a refused press
pub never_refused : (log : List Act) (time key state : ℕ) → IsHistory (acts.Key time key state ∷ log) →
    is_refused log key state ≡ false
never_refused log time key state h =
    at (is_refused log key state)
    (live (acts.Key time key state) log h.0 (λ (d : acts.Key time key state ≡ acts.Idle). cc))
  where
    at : (b : Bool) → not b ≡ true → b ≡ false
    at true e = cc
    at false e = refl

-- each grab stands once

stood_by : (b : Bool) (n x : ℕ) (before : List Call) → n < x → board.stood before x ≡ false →
    board.stood ((if b then Stand n ∷ [] else []) ++ before) x ≡ false
stood_by true n x before l h = rw (ne_eqb n x (λ e. omega arith)) h
stood_by false n x before l h = h

not_stood : (log : List Act) (x : ℕ) → length log < x → board.stood (key_calls log) x ≡ false
not_stood [] x l = refl
not_stood (acts.Grab m ∷ older) x l =
    stood_by _ (length older + 1) x (key_calls older) (omega arith) (not_stood older x (omega arith))
not_stood (acts.Key time k state ∷ older) x l = not_stood older x (omega arith)
not_stood (acts.Mods mods ∷ older) x l = not_stood older x (omega arith)
not_stood (acts.Keymap keymap ∷ older) x l = not_stood older x (omega arith)
not_stood (acts.Repeat repeat ∷ older) x l = not_stood older x (omega arith)
not_stood (act ∷ older) x l =
    unseen (λ cs. board.stood cs x) _ Fall (key_calls older) refl ∙ not_stood older x (omega arith)

stands_once : (b : Bool) (n : ℕ) (before : List Call) → board.EachStandsOnce before →
    (b ≡ true → board.grab_standing before ≡ None) →
    board.stood before n ≡ false → board.EachStandsOnce ((if b then Stand n ∷ [] else []) ++ before)
stands_once true n before h k l = (k refl, l, h)
stands_once false n before h k l = h

falls_once : (b : Bool) (before : List Call) → board.EachStandsOnce before →
    board.EachStandsOnce ((if b then Fall ∷ [] else []) ++ before)
falls_once true before h = h
falls_once false before h = h

pub calls_once : (log : List Act) → board.EachStandsOnce (key_calls log)
calls_once [] = tt
calls_once (acts.Grab m ∷ older) =
    stands_once _ (length older + 1) (key_calls older) (calls_once older)
    (λ e. calls_standing older ∙ (standing_new m older e).0)
    (not_stood older (length older + 1) (omega arith))
calls_once (acts.Key time k state ∷ older) = calls_once older
calls_once (acts.Mods mods ∷ older) = calls_once older
calls_once (acts.Keymap keymap ∷ older) = calls_once older
calls_once (acts.Repeat repeat ∷ older) = calls_once older
calls_once (act ∷ older) = falls_once _ (key_calls older) (calls_once older)
