-- Of what an act tells only the last frees an id: what a drop and a sync tell.
use Rattle.std.proofs.Common.{◌≡◌, ℕ, List, [], ◌∷◌, ◌++◌, map, Bool, true, false, Option, Some, None, refl}
use Rattle.std.specs.Prelude.{◌==◌, ◌&&◌, length, filter, is_some}
use Rattle.std.specs.List.{AllByRecursion}
use Rattle.relay_model.specs.Rect.{Rect}
use Rattle.relay_model.specs.declared.act.Act.{Act}
use Rattle.relay_model.specs.declared.act.Act.TheVariants as acts
use Rattle.relay_model.specs.declared.said.Told.{Told}
use Rattle.relay_model.specs.declared.said.Said.{Said}
use Rattle.relay_model.specs.declared.said.Said.TheVariants as said
use Rattle.relay_model.specs.Objects.{next, is_at}
use Rattle.relay_model.specs.Focus.{focus, entered}
use Rattle.relay_model.specs.Hold.{holder}
use Rattle.relay_model.specs.Current.{Around, State, current}
use Rattle.relay_model.specs.Activation.{Notice, Activates, Updates, Deactivates, serving, notice, fresh}
use Rattle.relay_model.specs.Batch.{Batch, batch, is_no_preedit, deletion_said, string_said, preedit_said, group, commit_count}
use Rattle.relay_model.specs.Keys as keys
use Rattle.relay_model.specs.Keys.{Goes, ToGrab, ToShell, Nowhere, Refused, key_route, standing, last_keymap, last_repeat, last_mods}
use Rattle.relay_model.specs.Boards.{board_route, grab_for}
use Rattle.relay_model.specs.Popups.{cursor, told_where, popup_told, each_popup, ready_surface}
use Rattle.relay_model.specs.Globals.{offered, global_told}
use Rattle.relay_model.specs.Told.{to, leave, enter, each_entered, leaves, around_said, state_said, holders_state, notice_said, to_method, enters_new, enters, to_holder, key_told, keymap_said, repeat_said, mods_said, keyboard_said, to_grab, board_mods_told, own, told_by}
use Rattle.relay_model.specs.Objects.{fields, popups}
use Rattle.broker_model.proofs.EachElement.{either_way, each_of, each_append, each_map, each_flat}

abbrev pub is_delete : Said → Bool
is_delete (said.DeleteId x) = true
is_delete _ = false

-- it frees no id
abbrev pub Keeps : Told → Type 0
Keeps t = is_delete t.event ≡ false

abbrev pub AllKeep : List Told → Type 0
AllKeep ts = AllByRecursion Keeps ts

abbrev AreOther : List Said → Type 0
AreOther ss = AllByRecursion (λ s. is_delete s ≡ false) ss

all_to : (x : ℕ) (ss : List Said) → AreOther ss → AllKeep (map (to x) ss)
all_to x [] h = tt
all_to x (s ∷ ss) h = (h.0, all_to x ss h.1)

entered_keep : (say : ℕ → ℕ → Told) (now : List Act) (o : Option ℕ) → ((s f : ℕ) → Keeps (say s f)) →
    AllKeep (each_entered say now o)
entered_keep say now None h = tt
entered_keep say now (Some s) h =
    each_map Keeps (say s) (filter (entered now) (fields now))
    (each_of (λ f. Keeps (say s f)) (filter (entered now) (fields now)) (h s))

leaves_keep : (act : Act) (log : List Act) → AllKeep (leaves act log)
leaves_keep (acts.Focus s) log = entered_keep leave log (focus log) (λ s f. refl)
leaves_keep acts.Unfocus log = entered_keep leave log (focus log) (λ s f. refl)
leaves_keep _ log = tt

new_keeps : (now : List Act) (f : ℕ) (o : Option ℕ) → AllKeep (enters_new now f o)
new_keeps now f None = tt
new_keeps now f (Some s) = either_way AllKeep (entered now f) (enter s f ∷ []) [] (refl, tt) tt

enters_keep : (act : Act) (log : List Act) → AllKeep (enters act log)
enters_keep (acts.Focus s) log = entered_keep enter (acts.Focus s ∷ log) (focus (acts.Focus s ∷ log)) (λ s f. refl)
enters_keep (acts.Field p) log = new_keeps (acts.Field p ∷ log) (next log) (focus (acts.Field p ∷ log))
enters_keep _ log = tt

around_other : (o : Option Around) (cause : ℕ) → AreOther (around_said o cause)
around_other None cause = tt
around_other (Some around) cause = (refl, (refl, tt))

state_other : (s : State) → AreOther (state_said s)
state_other s =
    each_append (λ x. is_delete x ≡ false) (around_said s.surrounding s.cause) _ (around_other s.surrounding s.cause)
    (refl, (refl, tt))

holders_other : (log : List Act) (o : Option ℕ) → AreOther (holders_state log o)
holders_other log None = tt
holders_other log (Some h) = state_other (current log h)

notice_other : (log : List Act) (o : Option Notice) → AreOther (notice_said log o)
notice_other log None = tt
notice_other log (Some Activates) = (refl, holders_other log (holder log))
notice_other log (Some Updates) = holders_other log (holder log)
notice_other log (Some Deactivates) = (refl, (refl, tt))

method_keeps : (act : Act) (log : List Act) (o : Option ℕ) → AllKeep (to_method act log o)
method_keeps act log None = tt
method_keeps act log (Some m) =
    all_to m (notice_said (act ∷ log) (notice act log)) (notice_other (act ∷ log) (notice act log))

where_keeps : (log : List Act) (x : ℕ) (o : Option ℕ) (rect : Option Rect) → AllKeep (told_where log x o rect)
where_keeps log x None rect = tt
where_keeps log x (Some s) None = tt
where_keeps log x (Some s) (Some rect) = (refl, (refl, tt))

popups_keep : (log : List Act) → AllKeep (each_popup log)
popups_keep log =
    each_flat Keeps (popup_told log) (popups log)
    (each_of (λ x. AllKeep (popup_told log x)) (popups log)
    (λ x. where_keeps log x (ready_surface log x) (cursor log)))

keymap_other : (o : Option keys.Keymap) → AreOther (keymap_said o)
keymap_other None = tt
keymap_other (Some keymap) = (refl, tt)

repeat_other : (o : Option keys.Repeat) → AreOther (repeat_said o)
repeat_other None = tt
repeat_other (Some repeat) = (refl, tt)

mods_other : (n : ℕ) (o : Option keys.Mods) → AreOther (mods_said n o)
mods_other n None = tt
mods_other n (Some mods) = (refl, tt)

keyboard_other : (n : ℕ) (log : List Act) → AreOther (keyboard_said n log)
keyboard_other n log =
    each_append (λ x. is_delete x ≡ false) (keymap_said (last_keymap log)) _ (keymap_other (last_keymap log))
    (each_append (λ x. is_delete x ≡ false) (repeat_said (last_repeat log)) (mods_said n (last_mods log))
    (repeat_other (last_repeat log)) (mods_other n (last_mods log)))

grab_keeps : (o : Option ℕ) (event : Said) → is_delete event ≡ false → AllKeep (to_grab o event)
grab_keeps None event h = tt
grab_keeps (Some g) event h = (h, tt)

key_keeps : (n time key state : ℕ) (goes : Goes) → AllKeep (key_told n time key state goes)
key_keeps n time key state (ToGrab g) = (refl, tt)
key_keeps n time key state ToShell = (refl, tt)
key_keeps n time key state Nowhere = tt
key_keeps n time key state Refused = tt

mods_keep : (n : ℕ) (mods : keys.Mods) (o : Option ℕ) → AllKeep (board_mods_told n mods o)
mods_keep n mods None = (refl, tt)
mods_keep n mods (Some g) = (refl, tt)

group_other : (b : Batch) (n : ℕ) → AreOther (group b n)
group_other b n =
    each_append (λ x. is_delete x ≡ false) (deletion_said b.deletion) _
    (either_way AreOther ((b.deletion.before == 0) && (b.deletion.after == 0)) []
    (said.Delete b.deletion.before b.deletion.after ∷ []) tt (refl, tt))
    (each_append (λ x. is_delete x ≡ false) (string_said b.string) _
    (either_way AreOther (length b.string == 0) [] (said.CommitString b.string ∷ []) tt (refl, tt))
    (each_append (λ x. is_delete x ≡ false) (preedit_said b.preedit) _
    (either_way AreOther (is_no_preedit b.preedit) []
    (said.Preedit b.preedit.text b.preedit.begin b.preedit.end ∷ []) tt (refl, tt))
    (refl, tt)))

holder_keeps : (m serial : ℕ) (log : List Act) (o : Option ℕ) → AllKeep (to_holder (acts.MCommit m serial) log o)
holder_keeps m serial log None = tt
holder_keeps m serial log (Some h) =
    all_to h (group (batch log m) (commit_count log h)) (group_other (batch log m) (commit_count log h))

-- the act is none that frees an id
abbrev pub is_freeing : Act → Bool
is_freeing (acts.Drop x) = true
is_freeing (acts.Sync p) = true
is_freeing _ = false

own_keeps : (act : Act) (log : List Act) → is_freeing act ≡ false → AllKeep (own act log)
own_keeps (acts.Drop x) log h = cc
own_keeps (acts.Sync p) log h = cc
own_keeps (acts.Method p) log h =
    either_way AllKeep (is_some (serving log)) (to (next log) said.Unavailable ∷ []) [] (refl, tt) tt
own_keeps (acts.Popup m s) log h =
    where_keeps (acts.Popup m s ∷ log) (next log) (ready_surface (acts.Popup m s ∷ log) (next log))
    (cursor (acts.Popup m s ∷ log))
own_keeps (acts.Grab m) log h =
    either_way AllKeep (is_at (standing (acts.Grab m ∷ log)) (next log)) _ []
    (all_to (next log) (keyboard_said (next log) log) (keyboard_other (next log) log)) tt
own_keeps (acts.Area s rect) log h = popups_keep (acts.Area s rect ∷ log)
own_keeps (acts.Screen size) log h = popups_keep (acts.Screen size ∷ log)
own_keeps (acts.Commit f) log h =
    either_way AllKeep (is_at (holder (acts.Commit f ∷ log)) f) _ [] (popups_keep (acts.Commit f ∷ log)) tt
own_keeps (acts.MCommit m serial) log h =
    either_way AllKeep (fresh (acts.MCommit m serial) log) _ [] (holder_keeps m serial log (holder log)) tt
own_keeps (acts.Key time key state) log h = key_keeps (next log) time key state (key_route log key state)
own_keeps (acts.Mods mods) log h = grab_keeps (standing log) (said.Mods (next log) mods) refl
own_keeps (acts.Keymap keymap) log h = grab_keeps (standing log) (said.Keymap keymap) refl
own_keeps (acts.Repeat repeat) log h = grab_keeps (standing log) (said.Repeat repeat) refl
own_keeps (acts.VKey v time key state) log h = key_keeps (next log) time key state (board_route log v key state)
own_keeps (acts.VMods v mods) log h = mods_keep (next log) mods (grab_for log v)
own_keeps (acts.Registry p role) log h =
    each_map Keeps (global_told (next log)) (offered role)
    (each_of (λ offer. Keeps (global_told (next log) offer)) (offered role) (λ offer. refl))
own_keeps (acts.Seat p) log h = (refl, tt)
own_keeps (acts.Bad p fault x) log h = (refl, tt)
own_keeps _ log h = tt

-- what comes before an act's own events
abbrev pub before_own : Act → List Act → List Told
before_own act log = leaves act log ++ (to_method act log (serving (act ∷ log)) ++ enters act log)

pub before_keeps : (act : Act) (log : List Act) → AllKeep (before_own act log)
before_keeps act log =
    each_append Keeps (leaves act log) _ (leaves_keep act log)
    (each_append Keeps (to_method act log (serving (act ∷ log))) (enters act log)
    (method_keeps act log (serving (act ∷ log))) (enters_keep act log))

pub told_keeps : (act : Act) (log : List Act) → is_freeing act ≡ false → AllKeep (told_by act log)
told_keeps act log h =
    each_append Keeps (leaves act log) _ (leaves_keep act log)
    (each_append Keeps (to_method act log (serving (act ∷ log))) _ (method_keeps act log (serving (act ∷ log)))
    (each_append Keeps (enters act log) (own act log) (enters_keep act log) (own_keeps act log h)))
