-- An act tells nothing with an opcode of a field's batch but the batch that it commits.
use Rattle.std.proofs.Common.{◌≡◌, ℕ, List, [], ◌∷◌, ◌++◌, map, Bool, true, false, Option, Some, None, refl, sym, ap, ◌∙◌}
use Rattle.std.specs.Prelude.{◌==◌, if◌then◌else◌, is_some, filter}
use Rattle.std.specs.List.{AllByRecursion}
use Rattle.std.proofs.lemmas.List.{append_assoc}
use Rattle.session_text.specs.Rect.{Rect}
use Rattle.relay_model.specs.declared.act.Act.{Act}
use Rattle.relay_model.specs.declared.act.Act.TheVariants as acts
use Rattle.relay_model.specs.declared.said.Told.{Told}
use Rattle.relay_model.specs.declared.said.Said.{Said}
use Rattle.relay_model.specs.declared.said.Said.TheVariants as said
use Rattle.relay_model.specs.Objects.{next, is_at, peer_of, fields, popups}
use Rattle.relay_model.specs.Focus.{focus, entered}
use Rattle.relay_model.specs.Hold.{holder}
use Rattle.relay_model.specs.Current.{State, Around, current}
use Rattle.relay_model.specs.Activation.{Notice, Activates, Updates, Deactivates, serving, notice, fresh}
use Rattle.relay_model.specs.Keys as keys
use Rattle.relay_model.specs.Keys.{Goes, ToGrab, ToShell, Nowhere, Refused, key_route, standing, last_keymap, last_repeat, last_mods}
use Rattle.relay_model.specs.Boards.{board_route, grab_for}
use Rattle.relay_model.specs.Popups.{cursor, ready_surface, told_where, popup_told, each_popup}
use Rattle.relay_model.specs.Globals.{offered, global_told}
use Rattle.relay_model.specs.Told.{to, leave, enter, each_entered, leaves, around_said, state_said, holders_state, notice_said, to_method, enters_new, enters, to_holder, deleted, key_told, keymap_said, repeat_said, mods_said, keyboard_said, to_grab, board_mods_told, synced, own, told_by}
use Rattle.broker_model.specs.Ids.{Made, made_as}
use Rattle.broker_model.specs.Groups.{message_of}
use Rattle.broker_model.proofs.EachElement.{either_way, each_of, each_append, each_map, each_flat}
use Rattle.audit_fields.specs.Heard.{Heard}
use Rattle.law_audit.specs.FieldGroups.{said_heard}

-- ---- the events of a batch

-- it is none of the four that a batch has
abbrev pub IsOther : Said → Type 0
IsOther (said.Preedit text begin end) = ⊥
IsOther (said.CommitString text) = ⊥
IsOther (said.Delete before after) = ⊥
IsOther (said.FieldDone serial) = ⊥
IsOther _ = Unit {0}

-- one of the four is heard under its field's id
abbrev pub field_heard : ℕ → Said → List Heard
field_heard id (said.Preedit text begin end) = said_heard id (message_of [] (said.Preedit text begin end))
field_heard id (said.CommitString text) = said_heard id (message_of [] (said.CommitString text))
field_heard id (said.Delete before after) = said_heard id (message_of [] (said.Delete before after))
field_heard id (said.FieldDone serial) = said_heard id (message_of [] (said.FieldDone serial))
field_heard id _ = []

-- what the peer p hears of an event, if it goes to an object of it
abbrev pub event_heard : ℕ → Said → Option Made → List Heard
event_heard p event None = []
event_heard p event (Some m) = if m.peer == p then field_heard m.id event else []

abbrev pub told_heard : List Made → ℕ → List Told → List Heard
told_heard made p [] = []
told_heard made p (t ∷ ts) = event_heard p t.event (made_as made t.to) ++ told_heard made p ts

pub told-append : (made : List Made) (p : ℕ) (xs ys : List Told) →
    told_heard made p (xs ++ ys) ≡ told_heard made p xs ++ told_heard made p ys
told-append made p [] ys = refl
told-append made p (x ∷ xs) ys =
    ap (λ (r : List Heard). event_heard p x.event (made_as made x.to) ++ r) (told-append made p xs ys)
    ∙ sym (append_assoc (event_heard p x.event (made_as made x.to)) (told_heard made p xs) (told_heard made p ys))

other_heard : (id : ℕ) (event : Said) → IsOther event → field_heard id event ≡ []
other_heard id (said.Preedit text begin end) h = absurd h
other_heard id (said.CommitString text) h = absurd h
other_heard id (said.Delete before after) h = absurd h
other_heard id (said.FieldDone serial) h = absurd h
other_heard id _ h = refl

other_event : (p : ℕ) (event : Said) (o : Option Made) → IsOther event → event_heard p event o ≡ []
other_event p event None h = refl
other_event p event (Some m) h = by (m.peer == p)
  where
    by : (b : Bool) → (if b then field_heard m.id event else []) ≡ []
    by true = other_heard m.id event h
    by false = refl

abbrev AreOther : List Told → Type 0
AreOther ts = AllByRecursion (λ t. IsOther t.event) ts

others_heard : (made : List Made) (p : ℕ) (ts : List Told) → AreOther ts → told_heard made p ts ≡ []
others_heard made p [] h = refl
others_heard made p (t ∷ ts) h =
    ap (λ (l : List Heard). l ++ told_heard made p ts) (other_event p t.event (made_as made t.to) h.0)
    ∙ others_heard made p ts h.1

-- ---- what else an act tells

to_one : (x : ℕ) (events : List Said) → AllByRecursion IsOther events → AreOther (map (to x) events)
to_one x events h = each_map (λ t. IsOther t.event) (to x) events h

entered_others : (say : ℕ → ℕ → Told) (log : List Act) (o : Option ℕ) → ((s x : ℕ) → IsOther (say s x).event) →
    AreOther (each_entered say log o)
entered_others say log None h = tt
entered_others say log (Some s) h =
    each_map (λ t. IsOther t.event) (say s) (filter (entered log) (fields log))
    (each_of (λ x. IsOther (say s x).event) (filter (entered log) (fields log)) (λ x. h s x))

leaves_others : (act : Act) (log : List Act) → AreOther (leaves act log)
leaves_others (acts.Focus s) log = entered_others leave log (focus log) (λ t x. tt)
leaves_others acts.Unfocus log = entered_others leave log (focus log) (λ t x. tt)
leaves_others _ log = tt

new_others : (x : ℕ) (now : List Act) (o : Option ℕ) → AreOther (enters_new now x o)
new_others x now None = tt
new_others x now (Some s) = either_way AreOther (entered now x) (enter s x ∷ []) [] (tt, tt) tt

enters_others : (act : Act) (log : List Act) → AreOther (enters act log)
enters_others (acts.Focus s) log =
    entered_others enter (acts.Focus s ∷ log) (focus (acts.Focus s ∷ log)) (λ t x. tt)
enters_others (acts.Field p) log = new_others (next log) (acts.Field p ∷ log) (focus (acts.Field p ∷ log))
enters_others _ log = tt

around_others : (o : Option Around) (cause : ℕ) → AllByRecursion IsOther (around_said o cause)
around_others None cause = tt
around_others (Some around) cause = (tt, (tt, tt))

state_others : (s : State) → AllByRecursion IsOther (state_said s)
state_others s = each_append IsOther (around_said s.surrounding s.cause) _ (around_others s.surrounding s.cause)
    (tt, (tt, tt))

holders_others : (log : List Act) (o : Option ℕ) → AllByRecursion IsOther (holders_state log o)
holders_others log None = tt
holders_others log (Some h) = state_others (current log h)

notice_others : (log : List Act) (o : Option Notice) → AllByRecursion IsOther (notice_said log o)
notice_others log None = tt
notice_others log (Some Activates) = (tt, holders_others log (holder log))
notice_others log (Some Updates) = holders_others log (holder log)
notice_others log (Some Deactivates) = (tt, (tt, tt))

method_others : (act : Act) (log : List Act) (o : Option ℕ) → AreOther (to_method act log o)
method_others act log None = tt
method_others act log (Some m) =
    to_one m (notice_said (act ∷ log) (notice act log)) (notice_others (act ∷ log) (notice act log))

where_others : (x : ℕ) (log : List Act) (s : Option ℕ) (o : Option Rect) → AreOther (told_where log x s o)
where_others x log None o = tt
where_others x log (Some s) None = tt
where_others x log (Some s) (Some rect) = (tt, (tt, tt))

popup_others : (log : List Act) (x : ℕ) → AreOther (popup_told log x)
popup_others log x = where_others x log (ready_surface log x) (cursor log)

popups_others : (log : List Act) → AreOther (each_popup log)
popups_others log =
    each_flat (λ t. IsOther t.event) (popup_told log) (popups log)
    (each_of (λ x. AreOther (popup_told log x)) (popups log) (λ x. popup_others log x))

keymap_others : (o : Option keys.Keymap) → AllByRecursion IsOther (keymap_said o)
keymap_others None = tt
keymap_others (Some keymap) = (tt, tt)

repeat_others : (o : Option keys.Repeat) → AllByRecursion IsOther (repeat_said o)
repeat_others None = tt
repeat_others (Some repeat) = (tt, tt)

mods_others : (n : ℕ) (o : Option keys.Mods) → AllByRecursion IsOther (mods_said n o)
mods_others n None = tt
mods_others n (Some mods) = (tt, tt)

keyboard_others : (n : ℕ) (log : List Act) → AllByRecursion IsOther (keyboard_said n log)
keyboard_others n log =
    each_append IsOther (keymap_said (last_keymap log)) _ (keymap_others (last_keymap log))
    (each_append IsOther (repeat_said (last_repeat log)) _ (repeat_others (last_repeat log))
    (mods_others n (last_mods log)))

key_others : (n time key state : ℕ) (goes : Goes) → AreOther (key_told n time key state goes)
key_others n time key state (ToGrab g) = (tt, tt)
key_others n time key state ToShell = (tt, tt)
key_others n time key state Nowhere = tt
key_others n time key state Refused = tt

grab_others : (o : Option ℕ) (event : Said) → IsOther event → AreOther (to_grab o event)
grab_others None event h = tt
grab_others (Some g) event h = (h, tt)

board_others : (n : ℕ) (mods : keys.Mods) (o : Option ℕ) → AreOther (board_mods_told n mods o)
board_others n mods None = (tt, tt)
board_others n mods (Some g) = (tt, tt)

deleted_others : (x : ℕ) (o : Option ℕ) → AreOther (deleted x o)
deleted_others x None = tt
deleted_others x (Some q) = (tt, tt)

-- ---- the whole

-- the batch that the act commits, told to the holder
abbrev pub batch_told : Act → List Act → List Told
batch_told act log = if fresh act log then to_holder act log (holder log) else []

own_heard : (made : List Made) (p : ℕ) (act : Act) (log : List Act) →
    told_heard made p (own act log) ≡ told_heard made p (batch_told act log)
own_heard made p (acts.MCommit m serial) log = refl
own_heard made p (acts.Method q) log =
    others_heard made p _
    (either_way AreOther (is_some (serving log)) (to (next log) said.Unavailable ∷ []) [] (tt, tt) tt)
own_heard made p (acts.Popup m s) log = others_heard made p _ (popup_others (acts.Popup m s ∷ log) (next log))
own_heard made p (acts.Grab m) log =
    others_heard made p _ (either_way AreOther (is_at (standing (acts.Grab m ∷ log)) (next log))
    (map (to (next log)) (keyboard_said (next log) log)) []
    (to_one (next log) (keyboard_said (next log) log) (keyboard_others (next log) log)) tt)
own_heard made p (acts.Drop x) log = others_heard made p _ (deleted_others x (peer_of log x))
own_heard made p (acts.Area s rect) log = others_heard made p _ (popups_others (acts.Area s rect ∷ log))
own_heard made p (acts.Screen size) log = others_heard made p _ (popups_others (acts.Screen size ∷ log))
own_heard made p (acts.Commit g) log =
    others_heard made p _
    (either_way AreOther (is_at (holder (acts.Commit g ∷ log)) g) (each_popup (acts.Commit g ∷ log)) []
    (popups_others (acts.Commit g ∷ log)) tt)
own_heard made p (acts.Key time key state) log =
    others_heard made p _ (key_others (next log) time key state (key_route log key state))
own_heard made p (acts.Mods mods) log =
    others_heard made p _ (grab_others (standing log) (said.Mods (next log) mods) tt)
own_heard made p (acts.Keymap keymap) log =
    others_heard made p _ (grab_others (standing log) (said.Keymap keymap) tt)
own_heard made p (acts.Repeat repeat) log =
    others_heard made p _ (grab_others (standing log) (said.Repeat repeat) tt)
own_heard made p (acts.VKey v time key state) log =
    others_heard made p _ (key_others (next log) time key state (board_route log v key state))
own_heard made p (acts.VMods v mods) log = others_heard made p _ (board_others (next log) mods (grab_for log v))
own_heard made p (acts.Registry q role) log =
    others_heard made p _ (each_map (λ t. IsOther t.event) (global_told (next log)) (offered role)
    (each_of (λ offer. IsOther (global_told (next log) offer).event) (offered role) (λ offer. tt)))
own_heard made p (acts.Sync q) log = others_heard made p (synced (next log) q) (tt, (tt, tt))
own_heard made p (acts.Seat q) log = others_heard made p (to (next log) (said.Capabilities 0) ∷ []) (tt, tt)
own_heard made p (acts.Bad q fault x) log = others_heard made p (to q (said.Error x fault) ∷ []) (tt, tt)
own_heard made p _ log = refl

-- what a peer hears of its fields in what an act tells is what it hears in that batch
pub batch_heard : (made : List Made) (p : ℕ) (act : Act) (log : List Act) →
    told_heard made p (told_by act log) ≡ told_heard made p (batch_told act log)
batch_heard made p act log =
    let method : List Told = to_method act log (serving (act ∷ log)) in
    told-append made p (leaves act log) (method ++ (enters act log ++ own act log))
    ∙ ap (λ (l : List Heard). l ++ told_heard made p (method ++ (enters act log ++ own act log)))
    (others_heard made p (leaves act log) (leaves_others act log))
    ∙ told-append made p method (enters act log ++ own act log)
    ∙ ap (λ (l : List Heard). l ++ told_heard made p (enters act log ++ own act log))
    (others_heard made p method (method_others act log (serving (act ∷ log))))
    ∙ told-append made p (enters act log) (own act log)
    ∙ ap (λ (l : List Heard). l ++ told_heard made p (own act log))
    (others_heard made p (enters act log) (enters_others act log))
    ∙ own_heard made p act log
