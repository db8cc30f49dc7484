-- Where the shell says no keymap, none is told.
use Rattle.std.proofs.Common.{◌≡◌, ℕ, ◌+◌, List, [], ◌∷◌, ◌++◌, length, map, Bool, true, false, ◌&&◌, Option, Some, None, refl, sym, subst}
use Rattle.std.specs.Prelude.{◌==◌, if◌then◌else◌, is_some, filter, Result, Ok, Err}
use Rattle.std.specs.List.{AllByRecursion, list_any}
use Rattle.wl_proto.specs.declared.interface.Interface.{Interface}
use Rattle.wl_proto.specs.declared.interface.Interface.TheVariants as interface
use Rattle.wl_proto.specs.declared.refuse.Refuse.{Refuse}
use Rattle.wl_proto.specs.Grammar.{Value, word, signed, text, token}
use Rattle.wl_proto.specs.Reading.{request_reading}
use Rattle.wl_proto.specs.Rows.{Message}
use Rattle.relay_objects.specs.Rect.{Rect}
use Rattle.relay_model.specs.declared.act.Act.{Act}
use Rattle.relay_model.specs.declared.act.Act.TheVariants as acts
use Rattle.relay_model.specs.declared.fault.Fault.{Fault}
use Rattle.relay_model.specs.declared.role.Role.{Role}
use Rattle.relay_model.specs.declared.role.Role.TheVariants as roles
use Rattle.relay_model.specs.declared.said.Told.{Told}
use Rattle.relay_model.specs.declared.said.Said.{Said}
use Rattle.relay_model.specs.declared.said.Said.TheVariants as said
use Rattle.relay_model.specs.Objects.{next, is_at, peer_of, fields, popups}
use Rattle.relay_model.specs.Focus.{focus, entered}
use Rattle.relay_model.specs.Hold.{holder}
use Rattle.relay_model.specs.Current.{Around, current}
use Rattle.relay_model.specs.Activation.{Notice, Activates, Updates, Deactivates, serving, notice, fresh}
use Rattle.relay_model.specs.Batch.{Batch, batch, commit_count, deletion_said, string_said, is_no_preedit, preedit_said, group}
use Rattle.relay_model.specs.Keys as keys
use Rattle.relay_model.specs.Keys.{Goes, ToGrab, ToShell, Nowhere, Refused, key_route, standing, last_keymap, last_repeat, last_mods}
use Rattle.relay_model.specs.Boards.{board_route, grab_for}
use Rattle.relay_model.specs.Popups.{cursor, ready_surface, told_where, popup_told, each_popup}
use Rattle.relay_model.specs.Globals.{offered, global_told}
use Rattle.relay_model.specs.Idle.{is_live, cleaned, history}
use Rattle.relay_model.specs.Told.{to, leave, enter, each_entered, leaves, around_said, holders_state, notice_said, to_method, enters_new, enters, to_holder, deleted, key_told, keymap_said, repeat_said, mods_said, keyboard_said, to_grab, board_mods_told, own, told_by, told}
use Rattle.broker_steps.specs.declared.step.ShellStep.{ShellStep}
use Rattle.broker_steps.specs.declared.step.ShellStep.TheVariants as shell
use Rattle.broker_model.specs.declared.journal.Entry.{Entry}
use Rattle.broker_model.specs.declared.journal.Entry.TheVariants as entries
use Rattle.broker_model.specs.Ids.{Made, Joined, Past, peer_at, object_at}
use Rattle.broker_model.specs.Requests.{surround, cause, content, cursor as cursor_by, string, preedit, delete, commit, keymap, key, modifiers, popup, bind, rows}
use Rattle.broker_model.specs.Refusals.{request_fault}
use Rattle.broker_model.specs.Resolve.{Meaning, label_at, of_request, of_reading, of_message, of_peer, surface_at, on_surface, shell_act, past_of, resolve}
use Rattle.broker_model.specs.Out.{act_at}
use Rattle.broker_model.proofs.EachElement.{either_way, each_of, each_append, each_map, each_flat}
use Rattle.broker_model.proofs.LivePeersJoined.{plain_row}
use Rattle.trial_laws.proofs.TrialSteps.{IsOfShell, HasShell}

-- ---- acts

abbrev pub is_keymap : Act → Bool
is_keymap (acts.Keymap keymap) = true
is_keymap _ = false

abbrev pub IsPlainAct : Act → Type 0
IsPlainAct act = is_keymap act ≡ false

surround_plain : (x : ℕ) (vs : List Value) → IsPlainAct (surround x vs)
surround_plain x (text t ∷ signed a ∷ signed b ∷ []) = refl
surround_plain x _ = refl

cause_plain : (x : ℕ) (vs : List Value) → IsPlainAct (cause x vs)
cause_plain x (word n ∷ []) = refl
cause_plain x _ = refl

content_plain : (x : ℕ) (vs : List Value) → IsPlainAct (content x vs)
content_plain x (word a ∷ word b ∷ []) = refl
content_plain x _ = refl

cursor_plain : (x : ℕ) (vs : List Value) → IsPlainAct (cursor_by x vs)
cursor_plain x (signed a ∷ signed b ∷ signed c ∷ signed d ∷ []) = refl
cursor_plain x _ = refl

string_plain : (x : ℕ) (vs : List Value) → IsPlainAct (string x vs)
string_plain x (text t ∷ []) = refl
string_plain x _ = refl

preedit_plain : (x : ℕ) (vs : List Value) → IsPlainAct (preedit x vs)
preedit_plain x (text t ∷ signed a ∷ signed b ∷ []) = refl
preedit_plain x _ = refl

delete_plain : (x : ℕ) (vs : List Value) → IsPlainAct (delete x vs)
delete_plain x (word a ∷ word b ∷ []) = refl
delete_plain x _ = refl

commit_plain : (x : ℕ) (vs : List Value) → IsPlainAct (commit x vs)
commit_plain x (word n ∷ []) = refl
commit_plain x _ = refl

keymap_plain : (x : ℕ) (vs : List Value) → IsPlainAct (keymap x vs)
keymap_plain x (word a ∷ token t ∷ word b ∷ []) = refl
keymap_plain x _ = refl

key_plain : (x : ℕ) (vs : List Value) → IsPlainAct (key x vs)
key_plain x (word a ∷ word b ∷ word c ∷ []) = refl
key_plain x _ = refl

modifiers_plain : (x : ℕ) (vs : List Value) → IsPlainAct (modifiers x vs)
modifiers_plain x (word a ∷ word b ∷ word c ∷ word d ∷ []) = refl
modifiers_plain x _ = refl

popup_plain : (at : ℕ → ℕ) (x : ℕ) (vs : List Value) → IsPlainAct (popup at x vs)
popup_plain at x (word a ∷ word b ∷ []) = refl
popup_plain at x _ = refl

bind_plain : (p : ℕ) (vs : List Value) → IsPlainAct (bind p vs)
bind_plain p (word n ∷ vs) = either_way IsPlainAct (n == 2) (acts.Seat p) (acts.Thing p) refl refl
bind_plain p _ = refl

rows_plain : (p x : ℕ) (role : Role) (at : ℕ → ℕ) (i : Interface) (vs : List Value) →
    list_any is_keymap (rows p x role at i vs) ≡ false
rows_plain p x role at interface.Registry vs = rw (bind_plain p vs) refl
rows_plain p x role at interface.TextInput vs =
    rw (surround_plain x vs, cause_plain x vs, content_plain x vs, cursor_plain x vs) refl
rows_plain p x role at interface.InputMethod vs =
    rw (string_plain x vs, preedit_plain x vs, delete_plain x vs, commit_plain x vs, popup_plain at x vs) refl
rows_plain p x role at interface.VirtualKeyboard vs =
    rw (keymap_plain x vs, key_plain x vs, modifiers_plain x vs) refl
rows_plain p x role at _ vs = refl

request_plain : (past : Past) (n : ℕ) (peer : Joined) (x : ℕ) (m : Message) (o : Option Fault) →
    IsPlainAct (of_request past n peer x m o).act
request_plain past n peer x m (Some f) = refl
request_plain past n peer x m None =
    plain_row is_keymap (rows peer.label x peer.role (label_at past peer.label) m.interface m.values) m.opcode refl
    (rows_plain peer.label x peer.role (label_at past peer.label) m.interface m.values)

reading_plain : (past : Past) (n : ℕ) (peer : Joined) (x : ℕ) (r : Result Message Refuse) →
    IsPlainAct (of_reading past n peer x r).act
reading_plain past n peer x (Err e) = refl
reading_plain past n peer x (Ok m) =
    request_plain past n peer x m (request_fault past peer.label x peer.role (label_at past peer.label) m)

message_plain : (past : Past) (n : ℕ) (peer : Joined) (opcode : ℕ) (body : List ℕ) (o : Option Made) →
    IsPlainAct (of_message past n peer opcode body o).act
message_plain past n peer opcode body None = refl
message_plain past n peer opcode body (Some x) =
    reading_plain past n peer x.label (request_reading x.interface opcode (past.waiting peer.label) body)

peer_plain : (o : Option Joined) (f : Joined → Meaning) → ((peer : Joined) → IsPlainAct (f peer).act) →
    IsPlainAct (of_peer o f).act
peer_plain None f h = refl
peer_plain (Some peer) f h = h peer

surface_plain : (o : Option ℕ) (f : ℕ → Act) → ((s : ℕ) → IsPlainAct (f s)) → IsPlainAct (on_surface o f)
surface_plain None f h = refl
surface_plain (Some s) f h = h s

shell_plain : (past : Past) (step : ShellStep) → IsOfShell step → IsPlainAct (shell_act past step)
shell_plain past (shell.Focus q id) h =
    surface_plain (surface_at past (peer_at past q) id) (λ s. acts.Focus s) (λ s. refl)
shell_plain past shell.Unfocus h = refl
shell_plain past (shell.Key time key state) h = refl
shell_plain past _ h = absurd h

pub act_plain : (e : Entry) (older : List Entry) → HasShell e → IsPlainAct (act_at e older)
act_plain (entries.Join role) older h = refl
act_plain (entries.Message q id opcode body) older h =
    peer_plain (peer_at (past_of older) q)
    (λ peer. of_message (past_of older) (length older + 1) peer opcode body (object_at (past_of older) peer.label id))
    (λ peer. message_plain (past_of older) (length older + 1) peer opcode body
    (object_at (past_of older) peer.label id))
act_plain (entries.Tokens q tokens) older h = refl
act_plain (entries.BadSize q head) older h = peer_plain (peer_at (past_of older) q) _ (λ peer. refl)
act_plain (entries.End q why) older h = peer_plain (peer_at (past_of older) q) _ (λ peer. refl)
act_plain (entries.Shell step) older h = shell_plain (past_of older) step h
act_plain (entries.Took q bytes) older h = peer_plain (peer_at (past_of older) q) _ (λ peer. refl)

pub all_plain : (journal : List Entry) → AllByRecursion HasShell journal → AllByRecursion IsPlainAct (resolve journal)
all_plain [] h = tt
all_plain (e ∷ older) h = (act_plain e older h.0, all_plain older h.1)

-- ---- what they tell

abbrev pub IsPlain : Said → Type 0
IsPlain (said.Keymap keymap) = ⊥
IsPlain _ = Unit {0}

abbrev pub IsPlainTold : Told → Type 0
IsPlainTold t = IsPlain t.event

abbrev AllPlain : List Said → Type 0
AllPlain events = AllByRecursion IsPlain events

abbrev AllPlainTold : List Told → Type 0
AllPlainTold ts = AllByRecursion IsPlainTold ts

around_plain : (o : Option Around) (cause : ℕ) → AllPlain (around_said o cause)
around_plain None cause = tt
around_plain (Some around) cause = (tt, (tt, tt))

holder_plain : (log : List Act) (o : Option ℕ) → AllPlain (holders_state log o)
holder_plain log None = tt
holder_plain log (Some f) =
    each_append IsPlain (around_said (current log f).surrounding (current log f).cause)
    (said.ContentType (current log f).content.hint (current log f).content.purpose ∷ said.MethodDone ∷ [])
    (around_plain (current log f).surrounding (current log f).cause) (tt, (tt, tt))

notice_plain : (log : List Act) (o : Option Notice) → AllPlain (notice_said log o)
notice_plain log None = tt
notice_plain log (Some Activates) = (tt, holder_plain log (holder log))
notice_plain log (Some Updates) = holder_plain log (holder log)
notice_plain log (Some Deactivates) = (tt, (tt, tt))

method_plain : (act : Act) (log : List Act) (o : Option ℕ) → AllPlainTold (to_method act log o)
method_plain act log None = tt
method_plain act log (Some m) =
    each_map IsPlainTold (to m) (notice_said (act ∷ log) (notice act log)) (notice_plain (act ∷ log) (notice act log))

group_plain : (b : Batch) (count : ℕ) → AllPlain (group b count)
group_plain b count =
    each_append IsPlain (deletion_said b.deletion) _
    (either_way AllPlain ((b.deletion.before == 0) && (b.deletion.after == 0)) []
    (said.Delete b.deletion.before b.deletion.after ∷ []) tt (tt, tt))
    (each_append IsPlain (string_said b.string) _
    (either_way AllPlain (length b.string == 0) [] (said.CommitString b.string ∷ []) tt (tt, tt))
    (each_append IsPlain (preedit_said b.preedit) (said.FieldDone count ∷ [])
    (either_way AllPlain (is_no_preedit b.preedit) []
    (said.Preedit b.preedit.text b.preedit.begin b.preedit.end ∷ []) tt (tt, tt)) (tt, tt)))

batch_plain : (m serial : ℕ) (log : List Act) (o : Option ℕ) → AllPlainTold (to_holder (acts.MCommit m serial) log o)
batch_plain m serial log None = tt
batch_plain m serial log (Some f) =
    each_map IsPlainTold (to f) (group (batch log m) (commit_count log f))
    (group_plain (batch log m) (commit_count log f))

entered_plain : (say : ℕ → ℕ → Told) (log : List Act) (o : Option ℕ) → ((s f : ℕ) → IsPlainTold (say s f)) →
    AllPlainTold (each_entered say log o)
entered_plain say log None h = tt
entered_plain say log (Some s) h =
    each_map IsPlainTold (say s) (filter (entered log) (fields log))
    (each_of (λ f. IsPlainTold (say s f)) (filter (entered log) (fields log)) (h s))

leaves_plain : (act : Act) (log : List Act) → AllPlainTold (leaves act log)
leaves_plain (acts.Focus s) log = entered_plain leave log (focus log) (λ t f. tt)
leaves_plain acts.Unfocus log = entered_plain leave log (focus log) (λ t f. tt)
leaves_plain _ log = tt

new_plain : (log : List Act) (f : ℕ) (o : Option ℕ) → AllPlainTold (enters_new log f o)
new_plain log f None = tt
new_plain log f (Some s) = either_way AllPlainTold (entered log f) (enter s f ∷ []) [] (tt, tt) tt

enters_plain : (act : Act) (log : List Act) → AllPlainTold (enters act log)
enters_plain (acts.Focus s) log = entered_plain enter (acts.Focus s ∷ log) (focus (acts.Focus s ∷ log)) (λ t f. tt)
enters_plain (acts.Field p) log = new_plain (acts.Field p ∷ log) (next log) (focus (acts.Field p ∷ log))
enters_plain _ log = tt

where_plain : (log : List Act) (x : ℕ) (s : Option ℕ) (o : Option Rect) → AllPlainTold (told_where log x s o)
where_plain log x None o = tt
where_plain log x (Some s) None = tt
where_plain log x (Some s) (Some rect) = (tt, (tt, tt))

popup_told_plain : (log : List Act) (x : ℕ) → AllPlainTold (popup_told log x)
popup_told_plain log x = where_plain log x (ready_surface log x) (cursor log)

popups_plain : (log : List Act) → AllPlainTold (each_popup log)
popups_plain log =
    each_flat IsPlainTold (popup_told log) (popups log)
    (each_of (λ x. AllPlainTold (popup_told log x)) (popups log) (λ x. popup_told_plain log x))

last_none : (log : List Act) → AllByRecursion IsPlainAct log → last_keymap log ≡ None
last_none [] h = refl
last_none (acts.Keymap keymap ∷ older) h = (let no : true ≡ false = h.0 in cc)
last_none (_ ∷ older) h = last_none older h.1

repeat_plain : (o : Option keys.Repeat) → AllPlain (repeat_said o)
repeat_plain None = tt
repeat_plain (Some r) = (tt, tt)

mods_plain : (n : ℕ) (o : Option keys.Mods) → AllPlain (mods_said n o)
mods_plain n None = tt
mods_plain n (Some m) = (tt, tt)

keyboard_plain : (n : ℕ) (log : List Act) → AllByRecursion IsPlainAct log → AllPlain (keyboard_said n log)
keyboard_plain n log h =
    subst (λ (o : Option keys.Keymap). AllPlain (keymap_said o
    ++ (repeat_said (last_repeat log) ++ mods_said n (last_mods log)))) (sym (last_none log h))
    (each_append IsPlain (repeat_said (last_repeat log)) (mods_said n (last_mods log))
    (repeat_plain (last_repeat log)) (mods_plain n (last_mods log)))

key_told_plain : (n time key state : ℕ) (goes : Goes) → AllPlainTold (key_told n time key state goes)
key_told_plain n time key state (ToGrab g) = (tt, tt)
key_told_plain n time key state ToShell = (tt, tt)
key_told_plain n time key state Nowhere = tt
key_told_plain n time key state Refused = tt

board_mods_plain : (n : ℕ) (mods : keys.Mods) (o : Option ℕ) → AllPlainTold (board_mods_told n mods o)
board_mods_plain n mods None = (tt, tt)
board_mods_plain n mods (Some g) = (tt, tt)

grab_plain : (o : Option ℕ) (event : Said) → IsPlain event → AllPlainTold (to_grab o event)
grab_plain None event h = tt
grab_plain (Some g) event h = (h, tt)

deleted_plain : (x : ℕ) (o : Option ℕ) → AllPlainTold (deleted x o)
deleted_plain x None = tt
deleted_plain x (Some p) = (tt, tt)

globals_plain : (registry : ℕ) (role : Role) → AllPlainTold (map (global_told registry) (offered role))
globals_plain registry roles.App = (tt, (tt, (tt, tt)))
globals_plain registry roles.Method = (tt, (tt, (tt, tt)))
globals_plain registry roles.Keyed = (tt, (tt, (tt, (tt, tt))))

own_plain : (act : Act) (log : List Act) → IsPlainAct act → AllByRecursion IsPlainAct log → AllPlainTold (own act log)
own_plain (acts.Method p) log a h =
    either_way AllPlainTold (is_some (serving log)) (to (next log) said.Unavailable ∷ []) [] (tt, tt) tt
own_plain (acts.Popup m s) log a h = popup_told_plain (acts.Popup m s ∷ log) (next log)
own_plain (acts.Grab m) log a h =
    either_way AllPlainTold (is_at (standing (acts.Grab m ∷ log)) (next log))
    (map (to (next log)) (keyboard_said (next log) log)) []
    (each_map IsPlainTold (to (next log)) (keyboard_said (next log) log) (keyboard_plain (next log) log h))
    tt
own_plain (acts.Drop x) log a h = deleted_plain x (peer_of log x)
own_plain (acts.Area s rect) log a h = popups_plain (acts.Area s rect ∷ log)
own_plain (acts.Screen size) log a h = popups_plain (acts.Screen size ∷ log)
own_plain (acts.Commit f) log a h =
    either_way AllPlainTold (is_at (holder (acts.Commit f ∷ log)) f) (each_popup (acts.Commit f ∷ log)) []
    (popups_plain (acts.Commit f ∷ log)) tt
own_plain (acts.MCommit m serial) log a h =
    either_way AllPlainTold (fresh (acts.MCommit m serial) log)
    (to_holder (acts.MCommit m serial) log (holder log)) [] (batch_plain m serial log (holder log)) tt
own_plain (acts.Key time key state) log a h = key_told_plain (next log) time key state (key_route log key state)
own_plain (acts.Mods mods) log a h = grab_plain (standing log) (said.Mods (next log) mods) tt
own_plain (acts.Keymap keymap) log a h = (let no : true ≡ false = a in cc)
own_plain (acts.Repeat repeat) log a h = grab_plain (standing log) (said.Repeat repeat) tt
own_plain (acts.VKey v time key state) log a h =
    key_told_plain (next log) time key state (board_route log v key state)
own_plain (acts.VMods v mods) log a h = board_mods_plain (next log) mods (grab_for log v)
own_plain (acts.Registry p role) log a h = globals_plain (next log) role
own_plain (acts.Sync p) log a h = (tt, (tt, tt))
own_plain (acts.Seat p) log a h = (tt, tt)
own_plain (acts.Bad p fault x) log a h = (tt, tt)
own_plain _ log a h = tt

by_plain : (act : Act) (log : List Act) → IsPlainAct act → AllByRecursion IsPlainAct log →
    AllPlainTold (told_by act log)
by_plain act log a h =
    each_append IsPlainTold (leaves act log) _ (leaves_plain act log)
    (each_append IsPlainTold (to_method act log (serving (act ∷ log))) _
    (method_plain act log (serving (act ∷ log)))
    (each_append IsPlainTold (enters act log) (own act log) (enters_plain act log) (own_plain act log a h)))

if_plain : (b : Bool) (act : Act) → IsPlainAct act → IsPlainAct (if b then act else acts.Idle)
if_plain b act h = either_way IsPlainAct b act acts.Idle h refl

history_plain : (log : List Act) → AllByRecursion IsPlainAct log → AllByRecursion IsPlainAct (history log)
history_plain [] h = tt
history_plain (act ∷ older) h = (if_plain (is_live act (history older)) act h.0, history_plain older h.1)

pub told_plain : (act : Act) (log : List Act) → IsPlainAct act → AllByRecursion IsPlainAct log →
    AllByRecursion IsPlainTold (told act log)
told_plain act log a h =
    by_plain (cleaned act (history log)) (history log) (if_plain (is_live act (history log)) act a)
    (history_plain log h)
