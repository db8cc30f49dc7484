-- A peer's display is told only what acts of the peer's own tell: a sync, a drop, a message that is refused.
use Rattle.std.proofs.Common.{◌≡◌, ℕ, List, [], ◌∷◌, map, Bool, true, false, Option, Some, None, refl, ◌⊎◌, inl, inr}
use Rattle.std.specs.Prelude.{◌==◌, ◌&&◌, length, filter, is_some}
use Rattle.std.specs.List.{AllByRecursion}
use Rattle.popup_place.specs.declared.geometry.Rect.{Rect}
use Rattle.relay_model.specs.declared.act.Act.{Act}
use Rattle.relay_model.specs.declared.act.Act.TheVariants as acts
use Rattle.relay_model.specs.declared.said.Told.{Told}
use Rattle.relay_model.specs.declared.said.Said.{Said}
use Rattle.relay_model.specs.declared.said.Said.TheVariants as said
use Rattle.relay_model.specs.Objects.{next, is_at, peer_of, fields, popups}
use Rattle.relay_model.specs.Focus.{focus, entered}
use Rattle.relay_model.specs.Hold.{holder}
use Rattle.relay_model.specs.Current.{Around, State, current}
use Rattle.relay_model.specs.Activation.{Notice, Activates, Updates, Deactivates, serving, notice, fresh}
use Rattle.relay_model.specs.Batch.{Batch, batch, is_no_preedit, deletion_said, string_said, preedit_said, group, commit_count}
use Rattle.relay_model.specs.Keys as keys
use Rattle.relay_model.specs.Keys.{Goes, ToGrab, ToShell, Nowhere, Refused, key_route, standing, last_keymap, last_repeat, last_mods}
use Rattle.relay_model.specs.Boards.{board_route, grab_for}
use Rattle.relay_model.specs.Popups.{cursor, told_where, popup_told, each_popup, ready_surface}
use Rattle.relay_model.specs.Globals.{offered, global_told}
use Rattle.relay_model.specs.Told.{to, leave, enter, each_entered, leaves, around_said, state_said, holders_state, notice_said, to_method, enters_new, enters, to_holder, deleted, key_told, keymap_said, repeat_said, mods_said, keyboard_said, to_grab, board_mods_told, own, told_by}
use Rattle.broker_model.proofs.EachElement.{either_way, each_of, each_append, each_map, each_flat}

-- the event is one of a display
abbrev pub is_of_display : Said → Bool
is_of_display (said.DeleteId x) = true
is_of_display (said.Error x fault) = true
is_of_display _ = false

-- it is no event of a display, or goes to another than p
abbrev pub Spares : ℕ → Told → Type 0
Spares p t = (is_of_display t.event ≡ false) ⊎ (t.to ≡ p → ⊥)

abbrev pub AllSpare : ℕ → List Told → Type 0
AllSpare p ts = AllByRecursion (Spares p) ts

abbrev AreOther : List Said → Type 0
AreOther ss = AllByRecursion (λ s. is_of_display s ≡ false) ss

all_to : (p x : ℕ) (ss : List Said) → AreOther ss → AllSpare p (map (to x) ss)
all_to p x [] h = tt
all_to p x (s ∷ ss) h = (inl h.0, all_to p x ss h.1)

entered_spare : (p : ℕ) (say : ℕ → ℕ → Told) (now : List Act) (o : Option ℕ) →
    ((s f : ℕ) → is_of_display (say s f).event ≡ false) → AllSpare p (each_entered say now o)
entered_spare p say now None h = tt
entered_spare p say now (Some s) h =
    each_map (Spares p) (say s) (filter (entered now) (fields now))
    (each_of (λ f. Spares p (say s f)) (filter (entered now) (fields now)) (λ f. inl (h s f)))

leaves_spare : (p : ℕ) (act : Act) (log : List Act) → AllSpare p (leaves act log)
leaves_spare p (acts.Focus s) log = entered_spare p leave log (focus log) (λ s f. refl)
leaves_spare p acts.Unfocus log = entered_spare p leave log (focus log) (λ s f. refl)
leaves_spare p _ log = tt

new_spares : (p : ℕ) (now : List Act) (f : ℕ) (o : Option ℕ) → AllSpare p (enters_new now f o)
new_spares p now f None = tt
new_spares p now f (Some s) = either_way (AllSpare p) (entered now f) (enter s f ∷ []) [] (inl refl, tt) tt

enters_spare : (p : ℕ) (act : Act) (log : List Act) → AllSpare p (enters act log)
enters_spare p (acts.Focus s) log =
    entered_spare p enter (acts.Focus s ∷ log) (focus (acts.Focus s ∷ log)) (λ s f. refl)
enters_spare p (acts.Field q) log = new_spares p (acts.Field q ∷ log) (next log) (focus (acts.Field q ∷ log))
enters_spare p _ log = tt

around_other : (o : Option Around) (cause : ℕ) → AreOther (around_said o cause)
around_other None cause = tt
around_other (Some around) cause = (refl, (refl, tt))

state_other : (s : State) → AreOther (state_said s)
state_other s =
    each_append (λ x. is_of_display x ≡ false) (around_said s.surrounding s.cause) _
    (around_other s.surrounding s.cause) (refl, (refl, tt))

holders_other : (log : List Act) (o : Option ℕ) → AreOther (holders_state log o)
holders_other log None = tt
holders_other log (Some h) = state_other (current log h)

notice_other : (log : List Act) (o : Option Notice) → AreOther (notice_said log o)
notice_other log None = tt
notice_other log (Some Activates) = (refl, holders_other log (holder log))
notice_other log (Some Updates) = holders_other log (holder log)
notice_other log (Some Deactivates) = (refl, (refl, tt))

method_spares : (p : ℕ) (act : Act) (log : List Act) (o : Option ℕ) → AllSpare p (to_method act log o)
method_spares p act log None = tt
method_spares p act log (Some m) =
    all_to p m (notice_said (act ∷ log) (notice act log)) (notice_other (act ∷ log) (notice act log))

where_spares : (p : ℕ) (log : List Act) (x : ℕ) (o : Option ℕ) (rect : Option Rect) →
    AllSpare p (told_where log x o rect)
where_spares p log x None rect = tt
where_spares p log x (Some s) None = tt
where_spares p log x (Some s) (Some rect) = (inl refl, (inl refl, tt))

popups_spare : (p : ℕ) (log : List Act) → AllSpare p (each_popup log)
popups_spare p log =
    each_flat (Spares p) (popup_told log) (popups log)
    (each_of (λ x. AllSpare p (popup_told log x)) (popups log)
    (λ x. where_spares p log x (ready_surface log x) (cursor log)))

keymap_other : (o : Option keys.Keymap) → AreOther (keymap_said o)
keymap_other None = tt
keymap_other (Some keymap) = (refl, tt)

repeat_other : (o : Option keys.Repeat) → AreOther (repeat_said o)
repeat_other None = tt
repeat_other (Some repeat) = (refl, tt)

mods_other : (n : ℕ) (o : Option keys.Mods) → AreOther (mods_said n o)
mods_other n None = tt
mods_other n (Some mods) = (refl, tt)

keyboard_other : (n : ℕ) (log : List Act) → AreOther (keyboard_said n log)
keyboard_other n log =
    each_append (λ x. is_of_display x ≡ false) (keymap_said (last_keymap log)) _ (keymap_other (last_keymap log))
    (each_append (λ x. is_of_display x ≡ false) (repeat_said (last_repeat log)) (mods_said n (last_mods log))
    (repeat_other (last_repeat log)) (mods_other n (last_mods log)))

grab_spares : (p : ℕ) (o : Option ℕ) (event : Said) → is_of_display event ≡ false → AllSpare p (to_grab o event)
grab_spares p None event h = tt
grab_spares p (Some g) event h = (inl h, tt)

key_spares : (p n time key state : ℕ) (goes : Goes) → AllSpare p (key_told n time key state goes)
key_spares p n time key state (ToGrab g) = (inl refl, tt)
key_spares p n time key state ToShell = (inl refl, tt)
key_spares p n time key state Nowhere = tt
key_spares p n time key state Refused = tt

mods_spare : (p n : ℕ) (mods : keys.Mods) (o : Option ℕ) → AllSpare p (board_mods_told n mods o)
mods_spare p n mods None = (inl refl, tt)
mods_spare p n mods (Some g) = (inl refl, tt)

group_other : (b : Batch) (n : ℕ) → AreOther (group b n)
group_other b n =
    each_append (λ x. is_of_display x ≡ false) (deletion_said b.deletion) _
    (either_way AreOther ((b.deletion.before == 0) && (b.deletion.after == 0)) []
    (said.Delete b.deletion.before b.deletion.after ∷ []) tt (refl, tt))
    (each_append (λ x. is_of_display x ≡ false) (string_said b.string) _
    (either_way AreOther (length b.string == 0) [] (said.CommitString b.string ∷ []) tt (refl, tt))
    (each_append (λ x. is_of_display x ≡ false) (preedit_said b.preedit) _
    (either_way AreOther (is_no_preedit b.preedit) []
    (said.Preedit b.preedit.text b.preedit.begin b.preedit.end ∷ []) tt (refl, tt))
    (refl, tt)))

holder_spares : (p m serial : ℕ) (log : List Act) (o : Option ℕ) →
    AllSpare p (to_holder (acts.MCommit m serial) log o)
holder_spares p m serial log None = tt
holder_spares p m serial log (Some h) =
    all_to p h (group (batch log m) (commit_count log h)) (group_other (batch log m) (commit_count log h))

deleted_spares : (p x : ℕ) (o : Option ℕ) → (o ≡ Some p → ⊥) → AllSpare p (deleted x o)
deleted_spares p x None h = tt
deleted_spares p x (Some q) h = (inr (λ e. (let s : q ≡ p = e in h (rw s refl))), tt)

-- the act isn't one of the peer p that tells its display something: a drop of what is p's, its sync, its refused
-- message
abbrev pub IsNotOf : ℕ → List Act → Act → Type 0
IsNotOf p log (acts.Drop x) = peer_of log x ≡ Some p → ⊥
IsNotOf p log (acts.Sync q) = q ≡ p → ⊥
IsNotOf p log (acts.Bad q fault x) = q ≡ p → ⊥
IsNotOf p log _ = Unit {0}

own_spares : (p : ℕ) (act : Act) (log : List Act) → IsNotOf p log act → AllSpare p (own act log)
own_spares p (acts.Drop x) log h = deleted_spares p x (peer_of log x) h
own_spares p (acts.Sync q) log h = (inl refl, (inr h, tt))
own_spares p (acts.Bad q fault x) log h = (inr h, tt)
own_spares p (acts.Method q) log h =
    either_way (AllSpare p) (is_some (serving log)) (to (next log) said.Unavailable ∷ []) [] (inl refl, tt) tt
own_spares p (acts.Popup m s) log h =
    where_spares p (acts.Popup m s ∷ log) (next log) (ready_surface (acts.Popup m s ∷ log) (next log))
    (cursor (acts.Popup m s ∷ log))
own_spares p (acts.Grab m) log h =
    either_way (AllSpare p) (is_at (standing (acts.Grab m ∷ log)) (next log)) _ []
    (all_to p (next log) (keyboard_said (next log) log) (keyboard_other (next log) log)) tt
own_spares p (acts.Area s rect) log h = popups_spare p (acts.Area s rect ∷ log)
own_spares p (acts.Screen size) log h = popups_spare p (acts.Screen size ∷ log)
own_spares p (acts.Commit f) log h =
    either_way (AllSpare p) (is_at (holder (acts.Commit f ∷ log)) f) _ [] (popups_spare p (acts.Commit f ∷ log)) tt
own_spares p (acts.MCommit m serial) log h =
    either_way (AllSpare p) (fresh (acts.MCommit m serial) log) _ [] (holder_spares p m serial log (holder log)) tt
own_spares p (acts.Key time key state) log h = key_spares p (next log) time key state (key_route log key state)
own_spares p (acts.Mods mods) log h = grab_spares p (standing log) (said.Mods (next log) mods) refl
own_spares p (acts.Keymap keymap) log h = grab_spares p (standing log) (said.Keymap keymap) refl
own_spares p (acts.Repeat repeat) log h = grab_spares p (standing log) (said.Repeat repeat) refl
own_spares p (acts.VKey v time key state) log h =
    key_spares p (next log) time key state (board_route log v key state)
own_spares p (acts.VMods v mods) log h = mods_spare p (next log) mods (grab_for log v)
own_spares p (acts.Registry q role) log h =
    each_map (Spares p) (global_told (next log)) (offered role)
    (each_of (λ offer. Spares p (global_told (next log) offer)) (offered role) (λ offer. inl refl))
own_spares p (acts.Seat q) log h = (inl refl, tt)
own_spares p _ log h = tt

-- another's act spares the display of p
pub act_spares : (p : ℕ) (act : Act) (log : List Act) → IsNotOf p log act → AllSpare p (told_by act log)
act_spares p act log h =
    each_append (Spares p) (leaves act log) _ (leaves_spare p act log)
    (each_append (Spares p) (to_method act log (serving (act ∷ log))) _
    (method_spares p act log (serving (act ∷ log)))
    (each_append (Spares p) (enters act log) (own act log) (enters_spare p act log) (own_spares p act log h)))
