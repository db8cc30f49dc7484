-- Acts that tell no field of a batch, an enter or a leave, but a field that they make
use Rattle.std.proofs.Common.{◌≡◌, ℕ, List, [], ◌∷◌, map, Bool, true, false, Option, Some, None, refl}
use Rattle.std.specs.Prelude.{◌==◌, is_some}
use Rattle.std.specs.List.{AllByRecursion, list_any}
use Rattle.wl_proto.specs.declared.interface.Interface.{Interface}
use Rattle.wl_proto.specs.declared.interface.Interface.TheVariants as interface
use Rattle.wl_proto.specs.Grammar.{Value, word, signed, text, token}
use Rattle.relay_model.specs.Rect.{Rect}
use Rattle.relay_model.specs.declared.act.Act.{Act}
use Rattle.relay_model.specs.declared.act.Act.TheVariants as acts
use Rattle.relay_model.specs.declared.role.Role.{Role}
use Rattle.relay_model.specs.declared.role.Role.TheVariants as roles
use Rattle.relay_model.specs.declared.said.Told.{Told}
use Rattle.relay_model.specs.declared.said.Said.{Said}
use Rattle.relay_model.specs.declared.said.Said.TheVariants as said
use Rattle.relay_model.specs.Objects.{next, is_at, peer_of, popups}
use Rattle.relay_model.specs.Focus.{focus, entered}
use Rattle.relay_model.specs.Hold.{holder}
use Rattle.relay_model.specs.Current.{Around, current}
use Rattle.relay_model.specs.Activation.{Notice, Activates, Updates, Deactivates, serving, notice}
use Rattle.relay_model.specs.Keys as keys
use Rattle.relay_model.specs.Keys.{Goes, ToGrab, ToShell, Nowhere, Refused, key_route, standing, last_keymap, last_repeat, last_mods}
use Rattle.relay_model.specs.Boards.{board_route, grab_for}
use Rattle.relay_model.specs.Popups.{cursor, ready_surface, told_where, popup_told, each_popup}
use Rattle.relay_model.specs.Globals.{offered, global_told}
use Rattle.relay_model.specs.Idle.{is_live, cleaned, history}
use Rattle.relay_model.specs.Told.{to, enter, leaves, around_said, holders_state, notice_said, to_method, enters_new, enters, deleted, key_told, keymap_said, repeat_said, mods_said, keyboard_said, to_grab, board_mods_told, own, told_by, told}
use Rattle.broker_model.specs.Requests.{surround, cause, content, cursor as cursor_by, keymap, key, modifiers, bind, rows}
use Rattle.broker_model.proofs.EachElement.{either_way, each_of, each_append, each_map, each_flat}

-- ---- acts

-- the focus moves, or a batch is committed
abbrev pub is_wild : Act → Bool
is_wild (acts.Focus s) = true
is_wild acts.Unfocus = true
is_wild (acts.MCommit m serial) = true
is_wild _ = false

abbrev pub IsCalm : Act → Type 0
IsCalm act = is_wild act ≡ false

surround_calm : (x : ℕ) (vs : List Value) → IsCalm (surround x vs)
surround_calm x (text t ∷ signed a ∷ signed b ∷ []) = refl
surround_calm x _ = refl

cause_calm : (x : ℕ) (vs : List Value) → IsCalm (cause x vs)
cause_calm x (word n ∷ []) = refl
cause_calm x _ = refl

content_calm : (x : ℕ) (vs : List Value) → IsCalm (content x vs)
content_calm x (word a ∷ word b ∷ []) = refl
content_calm x _ = refl

cursor_calm : (x : ℕ) (vs : List Value) → IsCalm (cursor_by x vs)
cursor_calm x (signed a ∷ signed b ∷ signed c ∷ signed d ∷ []) = refl
cursor_calm x _ = refl

keymap_calm : (x : ℕ) (vs : List Value) → IsCalm (keymap x vs)
keymap_calm x (word a ∷ token t ∷ word b ∷ []) = refl
keymap_calm x _ = refl

key_calm : (x : ℕ) (vs : List Value) → IsCalm (key x vs)
key_calm x (word a ∷ word b ∷ word c ∷ []) = refl
key_calm x _ = refl

modifiers_calm : (x : ℕ) (vs : List Value) → IsCalm (modifiers x vs)
modifiers_calm x (word a ∷ word b ∷ word c ∷ word d ∷ []) = refl
modifiers_calm x _ = refl

bind_calm : (p : ℕ) (vs : List Value) → IsCalm (bind p vs)
bind_calm p (word n ∷ vs) = either_way IsCalm (n == 2) (acts.Seat p) (acts.Thing p) refl refl
bind_calm p _ = refl

-- requests to anything but an input method are calm
pub rows_calm : (p x : ℕ) (role : Role) (at : ℕ → ℕ) (i : Interface) (vs : List Value) →
    (i ≡ interface.InputMethod → ⊥) → list_any is_wild (rows p x role at i vs) ≡ false
rows_calm p x role at interface.Registry vs other = rw (bind_calm p vs) refl
rows_calm p x role at interface.TextInput vs other =
    rw (surround_calm x vs, cause_calm x vs, content_calm x vs, cursor_calm x vs) refl
rows_calm p x role at interface.InputMethod vs other = absurd (other refl)
rows_calm p x role at interface.VirtualKeyboard vs other =
    rw (keymap_calm x vs, key_calm x vs, modifiers_calm x vs) refl
rows_calm p x role at _ vs other = refl

-- ---- what they tell

-- an event that is told so: an enter to the object n alone, and nothing else of a field's text
abbrev pub IsCalmSaid : ℕ → ℕ → Said → Type 0
IsCalmSaid n x (said.Enter surface) = x ≡ n
IsCalmSaid n x (said.Leave surface) = ⊥
IsCalmSaid n x (said.Preedit t begin end) = ⊥
IsCalmSaid n x (said.CommitString t) = ⊥
IsCalmSaid n x (said.Delete before after) = ⊥
IsCalmSaid n x (said.FieldDone count) = ⊥
IsCalmSaid n x _ = Unit {0}

abbrev pub IsCalmTold : ℕ → Told → Type 0
IsCalmTold n t = IsCalmSaid n t.to t.event

abbrev AllCalm : ℕ → List Told → Type 0
AllCalm n ts = AllByRecursion (IsCalmTold n) ts

abbrev AllSaid : ℕ → ℕ → List Said → Type 0
AllSaid n x es = AllByRecursion (IsCalmSaid n x) es

around_calm : (n x : ℕ) (o : Option Around) (why : ℕ) → AllSaid n x (around_said o why)
around_calm n x None why = tt
around_calm n x (Some around) why = (tt, (tt, tt))

holder_calm : (n x : ℕ) (log : List Act) (o : Option ℕ) → AllSaid n x (holders_state log o)
holder_calm n x log None = tt
holder_calm n x log (Some f) =
    each_append (IsCalmSaid n x) (around_said (current log f).surrounding (current log f).cause)
    (said.ContentType (current log f).content.hint (current log f).content.purpose ∷ said.MethodDone ∷ [])
    (around_calm n x (current log f).surrounding (current log f).cause) (tt, (tt, tt))

notice_calm : (n x : ℕ) (log : List Act) (o : Option Notice) → AllSaid n x (notice_said log o)
notice_calm n x log None = tt
notice_calm n x log (Some Activates) = (tt, holder_calm n x log (holder log))
notice_calm n x log (Some Updates) = holder_calm n x log (holder log)
notice_calm n x log (Some Deactivates) = (tt, (tt, tt))

method_calm : (n : ℕ) (act : Act) (log : List Act) (o : Option ℕ) → AllCalm n (to_method act log o)
method_calm n act log None = tt
method_calm n act log (Some m) =
    each_map (IsCalmTold n) (to m) (notice_said (act ∷ log) (notice act log))
    (notice_calm n m (act ∷ log) (notice act log))

leaves_calm : (n : ℕ) (act : Act) (log : List Act) → IsCalm act → AllCalm n (leaves act log)
leaves_calm n (acts.Focus s) log a = cc
leaves_calm n acts.Unfocus log a = cc
leaves_calm n _ log a = tt

new_calm : (n : ℕ) (log : List Act) (o : Option ℕ) → AllCalm n (enters_new log n o)
new_calm n log None = tt
new_calm n log (Some s) = either_way (AllCalm n) (entered log n) (enter s n ∷ []) [] (refl, tt) tt

enters_calm : (act : Act) (log : List Act) → IsCalm act → AllCalm (next log) (enters act log)
enters_calm (acts.Focus s) log a = cc
enters_calm (acts.Field p) log a = new_calm (next log) (acts.Field p ∷ log) (focus (acts.Field p ∷ log))
enters_calm _ log a = tt

where_calm : (n : ℕ) (log : List Act) (x : ℕ) (s : Option ℕ) (o : Option Rect) → AllCalm n (told_where log x s o)
where_calm n log x None o = tt
where_calm n log x (Some s) None = tt
where_calm n log x (Some s) (Some rect) = (tt, (tt, tt))

popup_told_calm : (n : ℕ) (log : List Act) (x : ℕ) → AllCalm n (popup_told log x)
popup_told_calm n log x = where_calm n log x (ready_surface log x) (cursor log)

popups_calm : (n : ℕ) (log : List Act) → AllCalm n (each_popup log)
popups_calm n log =
    each_flat (IsCalmTold n) (popup_told log) (popups log)
    (each_of (λ x. AllCalm n (popup_told log x)) (popups log) (λ x. popup_told_calm n log x))

keymap_said_calm : (n x : ℕ) (o : Option keys.Keymap) → AllSaid n x (keymap_said o)
keymap_said_calm n x None = tt
keymap_said_calm n x (Some k) = (tt, tt)

repeat_calm : (n x : ℕ) (o : Option keys.Repeat) → AllSaid n x (repeat_said o)
repeat_calm n x None = tt
repeat_calm n x (Some r) = (tt, tt)

mods_calm : (n x serial : ℕ) (o : Option keys.Mods) → AllSaid n x (mods_said serial o)
mods_calm n x serial None = tt
mods_calm n x serial (Some m) = (tt, tt)

keyboard_calm : (n x serial : ℕ) (log : List Act) → AllSaid n x (keyboard_said serial log)
keyboard_calm n x serial log =
    each_append (IsCalmSaid n x) (keymap_said (last_keymap log)) _ (keymap_said_calm n x (last_keymap log))
    (each_append (IsCalmSaid n x) (repeat_said (last_repeat log)) (mods_said serial (last_mods log))
    (repeat_calm n x (last_repeat log)) (mods_calm n x serial (last_mods log)))

key_told_calm : (n serial time code state : ℕ) (goes : Goes) → AllCalm n (key_told serial time code state goes)
key_told_calm n serial time code state (ToGrab g) = (tt, tt)
key_told_calm n serial time code state ToShell = (tt, tt)
key_told_calm n serial time code state Nowhere = tt
key_told_calm n serial time code state Refused = tt

board_mods_calm : (n serial : ℕ) (mods : keys.Mods) (o : Option ℕ) → AllCalm n (board_mods_told serial mods o)
board_mods_calm n serial mods None = (tt, tt)
board_mods_calm n serial mods (Some g) = (tt, tt)

grab_calm : (n : ℕ) (o : Option ℕ) (event : Said) → ((g : ℕ) → IsCalmSaid n g event) → AllCalm n (to_grab o event)
grab_calm n None event h = tt
grab_calm n (Some g) event h = (h g, tt)

deleted_calm : (n x : ℕ) (o : Option ℕ) → AllCalm n (deleted x o)
deleted_calm n x None = tt
deleted_calm n x (Some p) = (tt, tt)

globals_calm : (n registry : ℕ) (role : Role) → AllCalm n (map (global_told registry) (offered role))
globals_calm n registry roles.App = (tt, (tt, (tt, tt)))
globals_calm n registry roles.Method = (tt, (tt, (tt, tt)))
globals_calm n registry roles.Keyed = (tt, (tt, (tt, (tt, tt))))

own_calm : (n : ℕ) (act : Act) (log : List Act) → IsCalm act → AllCalm n (own act log)
own_calm n (acts.Method p) log a =
    either_way (AllCalm n) (is_some (serving log)) (to (next log) said.Unavailable ∷ []) [] (tt, tt) tt
own_calm n (acts.Popup m s) log a = popup_told_calm n (acts.Popup m s ∷ log) (next log)
own_calm n (acts.Grab m) log a =
    either_way (AllCalm n) (is_at (standing (acts.Grab m ∷ log)) (next log))
    (map (to (next log)) (keyboard_said (next log) log)) []
    (each_map (IsCalmTold n) (to (next log)) (keyboard_said (next log) log)
    (keyboard_calm n (next log) (next log) log))
    tt
own_calm n (acts.Drop x) log a = deleted_calm n x (peer_of log x)
own_calm n (acts.Area s rect) log a = popups_calm n (acts.Area s rect ∷ log)
own_calm n (acts.Screen size) log a = popups_calm n (acts.Screen size ∷ log)
own_calm n (acts.Commit f) log a =
    either_way (AllCalm n) (is_at (holder (acts.Commit f ∷ log)) f) (each_popup (acts.Commit f ∷ log)) []
    (popups_calm n (acts.Commit f ∷ log)) tt
own_calm n (acts.MCommit m serial) log a = cc
own_calm n (acts.Key time code state) log a = key_told_calm n (next log) time code state (key_route log code state)
own_calm n (acts.Mods mods) log a = grab_calm n (standing log) (said.Mods (next log) mods) (λ g. tt)
own_calm n (acts.Keymap map) log a = grab_calm n (standing log) (said.Keymap map) (λ g. tt)
own_calm n (acts.Repeat repeat) log a = grab_calm n (standing log) (said.Repeat repeat) (λ g. tt)
own_calm n (acts.VKey v time code state) log a =
    key_told_calm n (next log) time code state (board_route log v code state)
own_calm n (acts.VMods v mods) log a = board_mods_calm n (next log) mods (grab_for log v)
own_calm n (acts.Registry p role) log a = globals_calm n (next log) role
own_calm n (acts.Sync p) log a = (tt, (tt, tt))
own_calm n (acts.Seat p) log a = (tt, tt)
own_calm n (acts.Bad p fault x) log a = (tt, tt)
own_calm n _ log a = tt

by_calm : (act : Act) (log : List Act) → IsCalm act → AllCalm (next log) (told_by act log)
by_calm act log a =
    each_append (IsCalmTold (next log)) (leaves act log) _ (leaves_calm (next log) act log a)
    (each_append (IsCalmTold (next log)) (to_method act log (serving (act ∷ log))) _
    (method_calm (next log) act log (serving (act ∷ log)))
    (each_append (IsCalmTold (next log)) (enters act log) (own act log) (enters_calm act log a)
    (own_calm (next log) act log a)))

-- a calm act tells no more than that
pub told_calm : (act : Act) (log : List Act) → IsCalm act →
    AllByRecursion (IsCalmTold (next (history log))) (told act log)
told_calm act log a =
    by_calm (cleaned act (history log)) (history log)
    (either_way IsCalm (is_live act (history log)) act acts.Idle a refl)
