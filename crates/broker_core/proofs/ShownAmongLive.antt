-- What acts tell the shell: keys that pass, by acts of keys alone, and where live popups are, by other acts alone.
use Rattle.std.proofs.Common.{◌≡◌, ℕ, List, [], ◌∷◌, length, Bool, true, Option, Some, None, ap, refl, ◌++◌, false, ap₂}
use Rattle.std.specs.Prelude.{◌==◌, ◌&&◌, if◌then◌else◌, is_some, filter, not}
use Rattle.std.specs.List.{AllByRecursion}
use Rattle.relay_model.specs.declared.act.Act.{Act}
use Rattle.relay_model.specs.declared.act.Act.TheVariants as acts
use Rattle.relay_model.specs.declared.said.Told.{Told}
use Rattle.relay_model.specs.declared.said.Said.{Said}
use Rattle.relay_model.specs.declared.said.Said.TheVariants as said
use Rattle.relay_model.specs.Objects.{Object, next, is_at, is_same, method_in, surface_in, object, alive, peer_of, fields, popups}
use Rattle.relay_model.specs.Focus.{where_alive, focus, entered}
use Rattle.relay_model.specs.Hold.{holder}
use Rattle.relay_model.specs.Current.{State, Around, current}
use Rattle.relay_model.specs.Activation.{Notice, Activates, Updates, Deactivates, serving, notice, fresh}
use Rattle.relay_model.specs.Batch.{Batch, Deletion, Preedit, deletion_said, string_said, preedit_said, is_no_preedit, batch, commit_count, group, group_of}
use Rattle.relay_model.specs.Keys as keys
use Rattle.relay_model.specs.Keys.{standing, last_keymap, last_repeat, last_mods, Goes, ToGrab, ToShell, Nowhere, Refused, key_route, is_refused}
use Rattle.relay_model.specs.Boards.{sends, board_route, board_refused, grab_for}
use Rattle.relay_model.specs.Popups.{cursor, ready_surface, told_where, popup_told, each_popup}
use Rattle.relay_model.specs.Globals.{offered, global_told}
use Rattle.relay_model.specs.Told.{to, leave, enter, each_entered, leaves, around_said, state_said, holders_state, notice_said, to_method, enters_new, enters, to_holder, deleted, keymap_said, repeat_said, mods_said, keyboard_said, to_grab, own, told_by, key_told, told, board_mods_told}
use Rattle.broker_model.proofs.EachElement.{either_way, each_of, each_append, each_map, each_flat}
use Rattle.relay_model.specs.Idle.{is_live, cleaned, history}
use Rattle.broker_model.specs.Ids.{Made, made_as}
use Rattle.broker_model.specs.Groups.{id_of}
use Rattle.broker_audience.specs.Lives.{Numbered}
use Rattle.broker_core.specs.Watched.{Watched, shown, shown_by}
use Rattle.broker_core.specs.Watched.Watched.{Placed}
use Rattle.broker_core.proofs.PopupNumbers.{IsNumberKept}

-- no key that passes, and where a popup is only while it is alive
abbrev pub IsShown : List Act → Said → Type 0
IsShown log (said.Pass time key state) = ⊥
IsShown log (said.VMods mods) = ⊥
IsShown log (said.Placed popup x y) = alive log popup ≡ true
IsShown log _ = Unit {0}

abbrev AreSaid : List Act → List Said → Type 0
AreSaid log events = AllByRecursion (IsShown log) events

abbrev IsTold : List Act → Told → Type 0
IsTold log t = IsShown log t.event

abbrev pub AreShown : List Act → List Told → Type 0
AreShown log ts = AllByRecursion (IsTold log) ts

-- the act is no key
abbrev pub IsNoKey : Act → Type 0
IsNoKey (acts.Key time key state) = ⊥
IsNoKey (acts.VKey v time key state) = ⊥
IsNoKey (acts.VMods v mods) = ⊥
IsNoKey _ = Unit {0}

-- the state of the holder

around_shown : (log : List Act) (o : Option Around) (cause : ℕ) → AreSaid log (around_said o cause)
around_shown log None cause = tt
around_shown log (Some around) cause = (tt, (tt, tt))

state_shown : (log : List Act) (s : State) → AreSaid log (state_said s)
state_shown log s =
    each_append (IsShown log) (around_said s.surrounding s.cause) _ (around_shown log s.surrounding s.cause)
    (tt, (tt, tt))

holder_shown : (log now : List Act) (o : Option ℕ) → AreSaid log (holders_state now o)
holder_shown log now None = tt
holder_shown log now (Some f) = state_shown log (current now f)

notice_shown : (log now : List Act) (o : Option Notice) → AreSaid log (notice_said now o)
notice_shown log now None = tt
notice_shown log now (Some Activates) = (tt, holder_shown log now (holder now))
notice_shown log now (Some Updates) = holder_shown log now (holder now)
notice_shown log now (Some Deactivates) = (tt, (tt, tt))

pub method_shown : (log : List Act) (act : Act) (older : List Act) (o : Option ℕ) → AreShown log (to_method act older o)
method_shown log act older None = tt
method_shown log act older (Some m) =
    each_map (IsTold log) (to m) (notice_said (act ∷ older) (notice act older))
    (notice_shown log (act ∷ older) (notice act older))

-- a batch

string_shown : (log : List Act) (text : List ℕ) → AreSaid log (string_said text)
string_shown log text = either_way (AreSaid log) (length text == 0) [] (said.CommitString text ∷ []) tt (tt, tt)

preedit_shown : (log : List Act) (p : Preedit) → AreSaid log (preedit_said p)
preedit_shown log p = either_way (AreSaid log) (is_no_preedit p) [] (said.Preedit p.text p.begin p.end ∷ []) tt (tt, tt)

deletion_shown : (log : List Act) (d : Deletion) → AreSaid log (deletion_said d)
deletion_shown log d =
    either_way (AreSaid log) ((d.before == 0) && (d.after == 0)) [] (said.Delete d.before d.after ∷ []) tt (tt, tt)

group_shown : (log : List Act) (b : Batch) (count : ℕ) → AreSaid log (group b count)
group_shown log b count =
    each_append (IsShown log) (deletion_said b.deletion) _ (deletion_shown log b.deletion)
    (each_append (IsShown log) (string_said b.string) _ (string_shown log b.string)
    (each_append (IsShown log) (preedit_said b.preedit) (said.FieldDone count ∷ []) (preedit_shown log b.preedit)
    (tt, tt)))

batch_said : (log : List Act) (act : Act) (older : List Act) (f : ℕ) → AreSaid log (group_of act older f)
batch_said log (acts.MCommit m serial) older f = group_shown log (batch older m) (commit_count older f)
batch_said log _ older f = tt

batch_shown : (log : List Act) (act : Act) (older : List Act) (o : Option ℕ) → AreShown log (to_holder act older o)
batch_shown log act older None = tt
batch_shown log act older (Some f) = each_map (IsTold log) (to f) (group_of act older f) (batch_said log act older f)

-- fields that are left or entered

entered_shown : (log : List Act) (say : ℕ → ℕ → Told) (now : List Act) (o : Option ℕ) →
    ((s f : ℕ) → IsTold log (say s f)) → AreShown log (each_entered say now o)
entered_shown log say now None h = tt
entered_shown log say now (Some s) h =
    each_map (IsTold log) (say s) (filter (entered now) (fields now))
    (each_of (λ f. IsTold log (say s f)) (filter (entered now) (fields now)) (h s))

leaves_shown : (log : List Act) (act : Act) (older : List Act) → AreShown log (leaves act older)
leaves_shown log (acts.Focus s) older = entered_shown log leave older (focus older) (λ t f. tt)
leaves_shown log acts.Unfocus older = entered_shown log leave older (focus older) (λ t f. tt)
leaves_shown log _ older = tt

new_shown : (log now : List Act) (f : ℕ) (o : Option ℕ) → AreShown log (enters_new now f o)
new_shown log now f None = tt
new_shown log now f (Some s) = either_way (AreShown log) (entered now f) (enter s f ∷ []) [] (tt, tt) tt

enters_shown : (log : List Act) (act : Act) (older : List Act) → AreShown log (enters act older)
enters_shown log (acts.Focus s) older =
    entered_shown log enter (acts.Focus s ∷ older) (focus (acts.Focus s ∷ older)) (λ t f. tt)
enters_shown log (acts.Field p) older = new_shown log (acts.Field p ∷ older) (next older) (focus (acts.Field p ∷ older))
enters_shown log _ older = tt

-- popups

ready_alive : (log : List Act) (x s : ℕ) (o : Option Object) → object log x ≡ o → ready_surface log x ≡ Some s →
    is_some o ≡ true
ready_alive log x s None e r =
    let none : ready_surface log x ≡ None =
    ap (λ (o : Option Object). (if is_same (method_in o) (serving log) then where_alive log (surface_in o) else None)) e
    in
    cc
ready_alive log x s (Some o) e r = refl

where_shown : (log : List Act) (x : ℕ) (s : Option ℕ) → ready_surface log x ≡ s →
    AreShown log (told_where log x s (cursor log))
where_shown log x None r = tt
where_shown log x (Some s) r =
    elim (cursor log) as (λ rect. AreShown log (told_where log x (Some s) rect)) [
      | None ↦ tt
      | Some rect ↦ (tt, (ready_alive log x s (object log x) refl r, tt))
    ]

popup_shown : (log : List Act) (x : ℕ) → AreShown log (popup_told log x)
popup_shown log x = where_shown log x (ready_surface log x) refl

popups_shown : (log : List Act) → AreShown log (each_popup log)
popups_shown log =
    each_flat (IsTold log) (popup_told log) (popups log)
    (each_of (λ x. AreShown log (popup_told log x)) (popups log) (λ x. popup_shown log x))

-- the keyboard

keymap_shown : (log : List Act) (o : Option keys.Keymap) → AreSaid log (keymap_said o)
keymap_shown log None = tt
keymap_shown log (Some k) = (tt, tt)

repeat_shown : (log : List Act) (o : Option keys.Repeat) → AreSaid log (repeat_said o)
repeat_shown log None = tt
repeat_shown log (Some r) = (tt, tt)

mods_shown : (log : List Act) (n : ℕ) (o : Option keys.Mods) → AreSaid log (mods_said n o)
mods_shown log n None = tt
mods_shown log n (Some m) = (tt, tt)

keyboard_shown : (log : List Act) (n : ℕ) (older : List Act) → AreSaid log (keyboard_said n older)
keyboard_shown log n older =
    each_append (IsShown log) (keymap_said (last_keymap older)) _ (keymap_shown log (last_keymap older))
    (each_append (IsShown log) (repeat_said (last_repeat older)) (mods_said n (last_mods older))
    (repeat_shown log (last_repeat older))
    (mods_shown log n (last_mods older)))

grab_shown : (log : List Act) (o : Option ℕ) (event : Said) → IsShown log event → AreShown log (to_grab o event)
grab_shown log None event h = tt
grab_shown log (Some g) event h = (h, tt)

-- all

deleted_shown : (log : List Act) (x : ℕ) (o : Option ℕ) → AreShown log (deleted x o)
deleted_shown log x None = tt
deleted_shown log x (Some p) = (tt, tt)

shown_if : (log : List Act) (b : Bool) (ts : List Told) → AreShown log ts → AreShown log (if b then ts else [])
shown_if log b ts h = either_way (AreShown log) b ts [] h tt

own_shown : (act : Act) (older : List Act) → IsNoKey act → AreShown (act ∷ older) (own act older)
own_shown (acts.Method p) older k = shown_if (acts.Method p ∷ older) (is_some (serving older)) _ (tt, tt)
own_shown (acts.Popup m s) older k = popup_shown (acts.Popup m s ∷ older) (next older)
own_shown (acts.Grab m) older k =
    shown_if (acts.Grab m ∷ older) (is_at (standing (acts.Grab m ∷ older)) (next older)) _
    (each_map (IsTold (acts.Grab m ∷ older)) (to (next older)) (keyboard_said (next older) older)
    (keyboard_shown (acts.Grab m ∷ older) (next older) older))
own_shown (acts.Drop x) older k = deleted_shown (acts.Drop x ∷ older) x (peer_of older x)
own_shown (acts.Area s rect) older k = popups_shown (acts.Area s rect ∷ older)
own_shown (acts.Screen size) older k = popups_shown (acts.Screen size ∷ older)
own_shown (acts.Commit f) older k =
    shown_if (acts.Commit f ∷ older) (is_at (holder (acts.Commit f ∷ older)) f) _ (popups_shown (acts.Commit f ∷ older))
own_shown (acts.MCommit m serial) older k =
    shown_if (acts.MCommit m serial ∷ older) (fresh (acts.MCommit m serial) older) _
    (batch_shown (acts.MCommit m serial ∷ older) (acts.MCommit m serial) older (holder older))
own_shown (acts.Key time key state) older k = absurd k
own_shown (acts.VKey v time key state) older k = absurd k
own_shown (acts.VMods v mods) older k = absurd k
own_shown (acts.Mods mods) older k =
    grab_shown (acts.Mods mods ∷ older) (standing older) (said.Mods (next older) mods) tt
own_shown (acts.Keymap keymap) older k =
    grab_shown (acts.Keymap keymap ∷ older) (standing older) (said.Keymap keymap) tt
own_shown (acts.Repeat repeat) older k =
    grab_shown (acts.Repeat repeat ∷ older) (standing older) (said.Repeat repeat) tt
own_shown (acts.Registry p role) older k =
    each_map (IsTold (acts.Registry p role ∷ older)) (global_told (next older)) (offered role)
    (each_of (λ offer. IsTold (acts.Registry p role ∷ older) (global_told (next older) offer)) (offered role)
    (λ offer. tt))
own_shown (acts.Sync p) older k = (tt, (tt, tt))
own_shown (acts.Seat p) older k = (tt, tt)
own_shown (acts.Bad p fault x) older k = (tt, tt)
own_shown _ older k = tt

pub all_shown : (act : Act) (older : List Act) → IsNoKey act → AreShown (act ∷ older) (told_by act older)
all_shown act older k =
    each_append (IsTold (act ∷ older)) (leaves act older) _ (leaves_shown (act ∷ older) act older)
    (each_append (IsTold (act ∷ older)) (to_method act older (serving (act ∷ older))) _
    (method_shown (act ∷ older) act older (serving (act ∷ older)))
    (each_append (IsTold (act ∷ older)) (enters act older) (own act older) (enters_shown (act ∷ older) act older)
    (own_shown act older k)))

-- What the shell is told names the peers of live popups alone: it is the same among those who are alive as among all
-- that joined.

-- a popup that it places is alive
abbrev pub PlacesLive : List Act → Said → Type 0
PlacesLive log (said.Placed popup x y) = alive log popup ≡ true
PlacesLive log _ = Unit {0}

abbrev pub AllPlaceLive : List Act → List Told → Type 0
AllPlaceLive log ts = AllByRecursion (λ (t : Told). PlacesLive log t.event) ts

-- where no key is among what is shown

places_live : (log : List Act) (event : Said) → IsShown log event → PlacesLive log event
places_live log (said.Placed popup x y) h = h
places_live log (said.Pass time key state) h = absurd h
places_live log (said.VMods mods) h = absurd h
places_live log _ h = tt

all_place_live : (log : List Act) (ts : List Told) → AreShown log ts → AllPlaceLive log ts
all_place_live log [] h = tt
all_place_live log (t ∷ rest) h = (places_live log t.event h.0, all_place_live log rest h.1)

-- a key, wherever it goes
key_places : (log : List Act) (at time key state : ℕ) (goes : Goes) → AllPlaceLive log (key_told at time key state goes)
key_places log at time key state (ToGrab g) = (tt, tt)
key_places log at time key state ToShell = (tt, tt)
key_places log at time key state Nowhere = tt
key_places log at time key state Refused = tt

by_key : (older : List Act) (time key state : ℕ) (b : Bool) →
    AllPlaceLive ((if b then acts.Key time key state else acts.Idle) ∷ older)
    (told_by (if b then acts.Key time key state else acts.Idle) older)
by_key older time key state true =
    let act : Act = acts.Key time key state in
    each_append (λ (t : Told). PlacesLive (act ∷ older) t.event) (to_method act older (serving (act ∷ older)))
    (key_told (next older) time key state (key_route older key state))
    (all_place_live (act ∷ older) _ (method_shown (act ∷ older) act older (serving (act ∷ older))))
    (key_places (act ∷ older) (next older) time key state (key_route older key state))
by_key older time key state false = all_place_live (acts.Idle ∷ older) _ (all_shown acts.Idle older tt)

-- the same of a board
by_board_key : (older : List Act) (v time key state : ℕ) (b : Bool) →
    AllPlaceLive ((if b then acts.VKey v time key state else acts.Idle) ∷ older)
    (told_by (if b then acts.VKey v time key state else acts.Idle) older)
by_board_key older v time key state true =
    let act : Act = acts.VKey v time key state in
    each_append (λ (t : Told). PlacesLive (act ∷ older) t.event) (to_method act older (serving (act ∷ older)))
    (key_told (next older) time key state (board_route older v key state))
    (all_place_live (act ∷ older) _ (method_shown (act ∷ older) act older (serving (act ∷ older))))
    (key_places (act ∷ older) (next older) time key state (board_route older v key state))
by_board_key older v time key state false = all_place_live (acts.Idle ∷ older) _ (all_shown acts.Idle older tt)

mods_places : (log : List Act) (at : ℕ) (mods : keys.Mods) (o : Option ℕ) → AllPlaceLive log (board_mods_told at mods o)
mods_places log at mods None = (tt, tt)
mods_places log at mods (Some g) = (tt, tt)

by_board_mods : (older : List Act) (v : ℕ) (mods : keys.Mods) (b : Bool) →
    AllPlaceLive ((if b then acts.VMods v mods else acts.Idle) ∷ older)
    (told_by (if b then acts.VMods v mods else acts.Idle) older)
by_board_mods older v mods true =
    let act : Act = acts.VMods v mods in
    each_append (λ (t : Told). PlacesLive (act ∷ older) t.event) (to_method act older (serving (act ∷ older)))
    (board_mods_told (next older) mods (grab_for older v))
    (all_place_live (act ∷ older) _ (method_shown (act ∷ older) act older (serving (act ∷ older))))
    (mods_places (act ∷ older) (next older) mods (grab_for older v))
by_board_mods older v mods false = all_place_live (acts.Idle ∷ older) _ (all_shown acts.Idle older tt)

-- any other act
by_other : (act : Act) (older : List Act) → IsNoKey act →
    AllPlaceLive (cleaned act older ∷ older) (told_by (cleaned act older) older)
by_other act older h =
    all_place_live (cleaned act older ∷ older) _
    (all_shown (cleaned act older) older (either_way IsNoKey (is_live act older) act acts.Idle h tt))

told_places : (act : Act) (log : List Act) → AllPlaceLive (cleaned act (history log) ∷ history log) (told act log)
told_places (acts.Key time key state) log =
    by_key (history log) time key state (not (is_refused (history log) key state))
told_places (acts.VKey v time key state) log =
    by_board_key (history log) v time key state (sends (history log) v && not (board_refused (history log) v key state))
told_places (acts.VMods v mods) log = by_board_mods (history log) v mods (sends (history log) v)
told_places act log = by_other act (history log) tt

-- so the numbers are the same

event_same : (n : ℕ) (log : List Act) (made : List Made) (peers live : List Numbered) (event : Said) →
    IsNumberKept log made peers live → PlacesLive log event → shown n made peers event ≡ shown n made live event
event_same n log made peers live (said.Placed popup x y) k h =
    ap (λ (q : ℕ). Placed n q (id_of (made_as made popup)) x y ∷ []) (k popup h)
event_same n log made peers live _ k h = refl

each_same : (n : ℕ) (log : List Act) (made : List Made) (peers live : List Numbered) (ts : List Told) →
    IsNumberKept log made peers live → AllPlaceLive log ts → shown_by n made peers ts ≡ shown_by n made live ts
each_same n log made peers live [] k h = refl
each_same n log made peers live (t ∷ rest) k h =
    ap₂ (λ (a b : List Watched). a ++ b) (event_same n log made peers live t.event k h.0)
    (each_same n log made peers live rest k h.1)

pub same_shown : (n : ℕ) (act : Act) (log : List Act) (made : List Made) (peers live : List Numbered) →
    IsNumberKept (cleaned act (history log) ∷ history log) made peers live →
    shown_by n made peers (told act log) ≡ shown_by n made live (told act log)
same_shown n act log made peers live k =
    each_same n (cleaned act (history log) ∷ history log) made peers live (told act log) k (told_places act log)
