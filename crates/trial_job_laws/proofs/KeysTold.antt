-- Where nobody says a key, none is told.
use Rattle.std.proofs.Common.{◌≡◌, ℕ, ◌+◌, List, [], ◌∷◌, length, map, Bool, true, false, ◌&&◌, Option, Some, None, refl, sym, ◌∙◌}
use Rattle.std.specs.Prelude.{◌==◌, is_some, filter, Result, Ok, Err}
use Rattle.std.specs.List.{AllByRecursion, list_any}
use Rattle.wl_proto.specs.declared.interface.Interface.{Interface}
use Rattle.wl_proto.specs.declared.interface.Interface.TheVariants as interface
use Rattle.wl_proto.specs.declared.refuse.Refuse.{Refuse}
use Rattle.wl_proto.specs.Grammar.{Value, word, signed, text}
use Rattle.wl_proto.specs.Reading.{request_reading}
use Rattle.wl_proto.specs.Rows.{Message}
use Rattle.relay_model.specs.Rect.{Rect}
use Rattle.relay_model.specs.declared.act.Act.{Act}
use Rattle.relay_model.specs.declared.act.Act.TheVariants as acts
use Rattle.relay_model.specs.declared.fault.Fault.{Fault}
use Rattle.relay_model.specs.declared.role.Role.{Role}
use Rattle.relay_model.specs.declared.role.Role.TheVariants as roles
use Rattle.relay_model.specs.declared.said.Told.{Told}
use Rattle.relay_model.specs.declared.said.Said.{Said}
use Rattle.relay_model.specs.declared.said.Said.TheVariants as said
use Rattle.relay_model.specs.Objects.{next, is_at, peer_of, fields, popups}
use Rattle.relay_model.specs.Focus.{focus, entered}
use Rattle.relay_model.specs.Hold.{holder}
use Rattle.relay_model.specs.Current.{Around, current}
use Rattle.relay_model.specs.Activation.{Notice, Activates, Updates, Deactivates, serving, notice, fresh}
use Rattle.relay_model.specs.Batch.{Batch, batch, commit_count, deletion_said, string_said, is_no_preedit, preedit_said, group}
use Rattle.relay_model.specs.Keys as keys
use Rattle.relay_model.specs.Keys.{standing, last_keymap, last_repeat, last_mods}
use Rattle.relay_model.specs.Boards.{grab_for}
use Rattle.relay_model.specs.Popups.{cursor, ready_surface, told_where, popup_told, each_popup}
use Rattle.relay_model.specs.Globals.{offered, global_told}
use Rattle.relay_model.specs.Idle.{is_live, cleaned, history}
use Rattle.relay_model.specs.Told.{to, leave, enter, each_entered, leaves, around_said, holders_state, notice_said, to_method, enters_new, enters, to_holder, deleted, keymap_said, repeat_said, mods_said, keyboard_said, to_grab, board_mods_told, own, told_by, told}
use Rattle.broker_model.specs.declared.journal.Entry.{Entry}
use Rattle.broker_model.specs.declared.journal.Entry.TheVariants as entries
use Rattle.broker_model.specs.Ids.{Made, Joined, Past, log_of, peer_at, object_at}
use Rattle.broker_model.specs.Requests.{surround, cause, content, cursor as cursor_by, string, preedit, delete, commit, popup, bind, rows}
use Rattle.broker_model.specs.Refusals.{request_fault}
use Rattle.broker_model.specs.Resolve.{Meaning, label_at, of_request, of_reading, of_message, of_peer, past_of, resolve}
use Rattle.broker_model.specs.Out.{act_at}
use Rattle.broker_model.proofs.EachElement.{either_way, each_of, each_append, each_map, each_flat}
use Rattle.broker_model.proofs.LivePeersJoined.{plain_row}
use Rattle.broker_model.proofs.IdsAreNames.{IsIn, found}
use Rattle.trial_laws.proofs.ClientIds.{reading_interface}
use Rattle.trial_job_laws.specs.ShellTold.{is_order}

-- ---- acts

-- the shell or a board says a key
abbrev pub is_key : Act → Bool
is_key (acts.Key time key state) = true
is_key (acts.VKey v time key state) = true
is_key _ = false

abbrev pub IsMute : Act → Type 0
IsMute act = is_key act ≡ false

surround_mute : (x : ℕ) (vs : List Value) → IsMute (surround x vs)
surround_mute x (text t ∷ signed a ∷ signed b ∷ []) = refl
surround_mute x _ = refl

cause_mute : (x : ℕ) (vs : List Value) → IsMute (cause x vs)
cause_mute x (word n ∷ []) = refl
cause_mute x _ = refl

content_mute : (x : ℕ) (vs : List Value) → IsMute (content x vs)
content_mute x (word a ∷ word b ∷ []) = refl
content_mute x _ = refl

cursor_mute : (x : ℕ) (vs : List Value) → IsMute (cursor_by x vs)
cursor_mute x (signed a ∷ signed b ∷ signed c ∷ signed d ∷ []) = refl
cursor_mute x _ = refl

string_mute : (x : ℕ) (vs : List Value) → IsMute (string x vs)
string_mute x (text t ∷ []) = refl
string_mute x _ = refl

preedit_mute : (x : ℕ) (vs : List Value) → IsMute (preedit x vs)
preedit_mute x (text t ∷ signed a ∷ signed b ∷ []) = refl
preedit_mute x _ = refl

delete_mute : (x : ℕ) (vs : List Value) → IsMute (delete x vs)
delete_mute x (word a ∷ word b ∷ []) = refl
delete_mute x _ = refl

commit_mute : (x : ℕ) (vs : List Value) → IsMute (commit x vs)
commit_mute x (word n ∷ []) = refl
commit_mute x _ = refl

popup_mute : (at : ℕ → ℕ) (x : ℕ) (vs : List Value) → IsMute (popup at x vs)
popup_mute at x (word a ∷ word b ∷ []) = refl
popup_mute at x _ = refl

bind_mute : (p : ℕ) (vs : List Value) → IsMute (bind p vs)
bind_mute p (word n ∷ vs) = either_way IsMute (n == 2) (acts.Seat p) (acts.Thing p) refl refl
bind_mute p _ = refl

rows_mute : (p x : ℕ) (role : Role) (at : ℕ → ℕ) (i : Interface) (vs : List Value) →
    (i ≡ interface.VirtualKeyboard → ⊥) → list_any is_key (rows p x role at i vs) ≡ false
rows_mute p x role at interface.Registry vs other = rw (bind_mute p vs) refl
rows_mute p x role at interface.TextInput vs other =
    rw (surround_mute x vs, cause_mute x vs, content_mute x vs, cursor_mute x vs) refl
rows_mute p x role at interface.InputMethod vs other =
    rw (string_mute x vs, preedit_mute x vs, delete_mute x vs, commit_mute x vs, popup_mute at x vs) refl
rows_mute p x role at interface.VirtualKeyboard vs other = absurd (other refl)
rows_mute p x role at _ vs other = refl

request_mute : (past : Past) (n : ℕ) (peer : Joined) (x : ℕ) (m : Message) (o : Option Fault) →
    (m.interface ≡ interface.VirtualKeyboard → ⊥) → IsMute (of_request past n peer x m o).act
request_mute past n peer x m (Some f) other = refl
request_mute past n peer x m None other =
    plain_row is_key (rows peer.label x peer.role (label_at past peer.label) m.interface m.values) m.opcode refl
    (rows_mute peer.label x peer.role (label_at past peer.label) m.interface m.values other)

reading_mute : (past : Past) (n : ℕ) (peer : Joined) (x : Made) (opcode : ℕ) (body : List ℕ)
    (r : Result Message Refuse) → (x.interface ≡ interface.VirtualKeyboard → ⊥) →
    request_reading x.interface opcode (past.waiting peer.label) body ≡ r →
    IsMute (of_reading past n peer x.label r).act
reading_mute past n peer x opcode body (Err e) other q = refl
reading_mute past n peer x opcode body (Ok m) other q =
    request_mute past n peer x.label m (request_fault past peer.label x.label peer.role (label_at past peer.label) m)
    (λ s. other (sym (reading_interface x.interface opcode (past.waiting peer.label) body m q) ∙ s))

-- the peer has no board
abbrev pub HasNoBoard : List Made → ℕ → Type 0
HasNoBoard made p = (m : Made) → IsIn made m → m.peer ≡ p → m.interface ≡ interface.VirtualKeyboard → ⊥

message_mute : (past : Past) (n : ℕ) (peer : Joined) (id opcode : ℕ) (body : List ℕ) (o : Option Made) →
    HasNoBoard past.made peer.label → object_at past peer.label id ≡ o →
    IsMute (of_message past n peer opcode body o).act
message_mute past n peer id opcode body None none e = refl
message_mute past n peer id opcode body (Some x) none e =
    let f = found (log_of past) past.made peer.label id x e in
    reading_mute past n peer x opcode body _ (none x f.among f.peer) refl

peer_mute : (o : Option Joined) (f : Joined → Meaning) → ((peer : Joined) → o ≡ Some peer → IsMute (f peer).act) →
    IsMute (of_peer o f).act
peer_mute None f h = refl
peer_mute (Some peer) f h = h peer refl

-- nobody has one
abbrev pub HaveNoBoard : List Entry → Type 0
HaveNoBoard journal =
    (k : ℕ) (peer : Joined) → peer_at (past_of journal) k ≡ Some peer → HasNoBoard (past_of journal).made peer.label

act_mute : (e : Entry) (older : List Entry) → is_order e ≡ false → HaveNoBoard older → IsMute (act_at e older)
act_mute (entries.Join role) older h none = refl
act_mute (entries.Message q id opcode body) older h none =
    peer_mute (peer_at (past_of older) q)
    (λ peer. of_message (past_of older) (length older + 1) peer opcode body (object_at (past_of older) peer.label id))
    (λ peer joined. message_mute (past_of older) (length older + 1) peer id opcode body
    (object_at (past_of older) peer.label id) (none q peer joined) refl)
act_mute (entries.Tokens q tokens) older h none = refl
act_mute (entries.BadSize q head) older h none = peer_mute (peer_at (past_of older) q) _ (λ peer j. refl)
act_mute (entries.End q why) older h none = peer_mute (peer_at (past_of older) q) _ (λ peer j. refl)
act_mute (entries.Shell step) older h none = cc
act_mute (entries.Took q bytes) older h none = peer_mute (peer_at (past_of older) q) _ (λ peer j. refl)

-- ---- what they tell

abbrev pub IsNoKey : Said → Type 0
IsNoKey (said.Key serial time key state) = ⊥
IsNoKey _ = Unit {0}

abbrev pub IsKeyless : Told → Type 0
IsKeyless t = IsNoKey t.event

abbrev AllSaid : List Said → Type 0
AllSaid events = AllByRecursion IsNoKey events

abbrev AllKeyless : List Told → Type 0
AllKeyless ts = AllByRecursion IsKeyless ts

around_mute : (o : Option Around) (cause : ℕ) → AllSaid (around_said o cause)
around_mute None cause = tt
around_mute (Some around) cause = (tt, (tt, tt))

holder_mute : (log : List Act) (o : Option ℕ) → AllSaid (holders_state log o)
holder_mute log None = tt
holder_mute log (Some f) =
    each_append IsNoKey (around_said (current log f).surrounding (current log f).cause)
    (said.ContentType (current log f).content.hint (current log f).content.purpose ∷ said.MethodDone ∷ [])
    (around_mute (current log f).surrounding (current log f).cause) (tt, (tt, tt))

notice_mute : (log : List Act) (o : Option Notice) → AllSaid (notice_said log o)
notice_mute log None = tt
notice_mute log (Some Activates) = (tt, holder_mute log (holder log))
notice_mute log (Some Updates) = holder_mute log (holder log)
notice_mute log (Some Deactivates) = (tt, (tt, tt))

method_mute : (act : Act) (log : List Act) (o : Option ℕ) → AllKeyless (to_method act log o)
method_mute act log None = tt
method_mute act log (Some m) =
    each_map IsKeyless (to m) (notice_said (act ∷ log) (notice act log)) (notice_mute (act ∷ log) (notice act log))

group_mute : (b : Batch) (count : ℕ) → AllSaid (group b count)
group_mute b count =
    each_append IsNoKey (deletion_said b.deletion) _
    (either_way AllSaid ((b.deletion.before == 0) && (b.deletion.after == 0)) []
    (said.Delete b.deletion.before b.deletion.after ∷ []) tt (tt, tt))
    (each_append IsNoKey (string_said b.string) _
    (either_way AllSaid (length b.string == 0) [] (said.CommitString b.string ∷ []) tt (tt, tt))
    (each_append IsNoKey (preedit_said b.preedit) (said.FieldDone count ∷ [])
    (either_way AllSaid (is_no_preedit b.preedit) []
    (said.Preedit b.preedit.text b.preedit.begin b.preedit.end ∷ []) tt (tt, tt)) (tt, tt)))

batch_mute : (m serial : ℕ) (log : List Act) (o : Option ℕ) → AllKeyless (to_holder (acts.MCommit m serial) log o)
batch_mute m serial log None = tt
batch_mute m serial log (Some f) =
    each_map IsKeyless (to f) (group (batch log m) (commit_count log f))
    (group_mute (batch log m) (commit_count log f))

entered_mute : (say : ℕ → ℕ → Told) (log : List Act) (o : Option ℕ) → ((s f : ℕ) → IsKeyless (say s f)) →
    AllKeyless (each_entered say log o)
entered_mute say log None h = tt
entered_mute say log (Some s) h =
    each_map IsKeyless (say s) (filter (entered log) (fields log))
    (each_of (λ f. IsKeyless (say s f)) (filter (entered log) (fields log)) (h s))

leaves_mute : (act : Act) (log : List Act) → AllKeyless (leaves act log)
leaves_mute (acts.Focus s) log = entered_mute leave log (focus log) (λ t f. tt)
leaves_mute acts.Unfocus log = entered_mute leave log (focus log) (λ t f. tt)
leaves_mute _ log = tt

new_mute : (log : List Act) (f : ℕ) (o : Option ℕ) → AllKeyless (enters_new log f o)
new_mute log f None = tt
new_mute log f (Some s) = either_way AllKeyless (entered log f) (enter s f ∷ []) [] (tt, tt) tt

enters_mute : (act : Act) (log : List Act) → AllKeyless (enters act log)
enters_mute (acts.Focus s) log = entered_mute enter (acts.Focus s ∷ log) (focus (acts.Focus s ∷ log)) (λ t f. tt)
enters_mute (acts.Field p) log = new_mute (acts.Field p ∷ log) (next log) (focus (acts.Field p ∷ log))
enters_mute _ log = tt

where_mute : (log : List Act) (x : ℕ) (s : Option ℕ) (o : Option Rect) → AllKeyless (told_where log x s o)
where_mute log x None o = tt
where_mute log x (Some s) None = tt
where_mute log x (Some s) (Some rect) = (tt, (tt, tt))

popup_told_mute : (log : List Act) (x : ℕ) → AllKeyless (popup_told log x)
popup_told_mute log x = where_mute log x (ready_surface log x) (cursor log)

popups_mute : (log : List Act) → AllKeyless (each_popup log)
popups_mute log =
    each_flat IsKeyless (popup_told log) (popups log)
    (each_of (λ x. AllKeyless (popup_told log x)) (popups log) (λ x. popup_told_mute log x))

keymap_mute : (o : Option keys.Keymap) → AllSaid (keymap_said o)
keymap_mute None = tt
keymap_mute (Some k) = (tt, tt)

repeat_mute : (o : Option keys.Repeat) → AllSaid (repeat_said o)
repeat_mute None = tt
repeat_mute (Some r) = (tt, tt)

mods_mute : (n : ℕ) (o : Option keys.Mods) → AllSaid (mods_said n o)
mods_mute n None = tt
mods_mute n (Some m) = (tt, tt)

keyboard_mute : (n : ℕ) (log : List Act) → AllSaid (keyboard_said n log)
keyboard_mute n log =
    each_append IsNoKey (keymap_said (last_keymap log)) _ (keymap_mute (last_keymap log))
    (each_append IsNoKey (repeat_said (last_repeat log)) (mods_said n (last_mods log))
    (repeat_mute (last_repeat log)) (mods_mute n (last_mods log)))

board_mods_mute : (n : ℕ) (mods : keys.Mods) (o : Option ℕ) → AllKeyless (board_mods_told n mods o)
board_mods_mute n mods None = (tt, tt)
board_mods_mute n mods (Some g) = (tt, tt)

grab_mute : (o : Option ℕ) (event : Said) → IsNoKey event → AllKeyless (to_grab o event)
grab_mute None event h = tt
grab_mute (Some g) event h = (h, tt)

deleted_mute : (x : ℕ) (o : Option ℕ) → AllKeyless (deleted x o)
deleted_mute x None = tt
deleted_mute x (Some p) = (tt, tt)

globals_mute : (registry : ℕ) (role : Role) → AllKeyless (map (global_told registry) (offered role))
globals_mute registry roles.App = (tt, (tt, (tt, tt)))
globals_mute registry roles.Method = (tt, (tt, (tt, tt)))
globals_mute registry roles.Keyed = (tt, (tt, (tt, (tt, tt))))

own_mute : (act : Act) (log : List Act) → IsMute act → AllKeyless (own act log)
own_mute (acts.Method p) log a =
    either_way AllKeyless (is_some (serving log)) (to (next log) said.Unavailable ∷ []) [] (tt, tt) tt
own_mute (acts.Popup m s) log a = popup_told_mute (acts.Popup m s ∷ log) (next log)
own_mute (acts.Grab m) log a =
    either_way AllKeyless (is_at (standing (acts.Grab m ∷ log)) (next log))
    (map (to (next log)) (keyboard_said (next log) log)) []
    (each_map IsKeyless (to (next log)) (keyboard_said (next log) log) (keyboard_mute (next log) log))
    tt
own_mute (acts.Drop x) log a = deleted_mute x (peer_of log x)
own_mute (acts.Area s rect) log a = popups_mute (acts.Area s rect ∷ log)
own_mute (acts.Screen size) log a = popups_mute (acts.Screen size ∷ log)
own_mute (acts.Commit f) log a =
    either_way AllKeyless (is_at (holder (acts.Commit f ∷ log)) f) (each_popup (acts.Commit f ∷ log)) []
    (popups_mute (acts.Commit f ∷ log)) tt
own_mute (acts.MCommit m serial) log a =
    either_way AllKeyless (fresh (acts.MCommit m serial) log)
    (to_holder (acts.MCommit m serial) log (holder log)) [] (batch_mute m serial log (holder log)) tt
own_mute (acts.Key time key state) log a = cc
own_mute (acts.Mods mods) log a = grab_mute (standing log) (said.Mods (next log) mods) tt
own_mute (acts.Keymap keymap) log a = grab_mute (standing log) (said.Keymap keymap) tt
own_mute (acts.Repeat repeat) log a = grab_mute (standing log) (said.Repeat repeat) tt
own_mute (acts.VKey v time key state) log a = cc
own_mute (acts.VMods v mods) log a = board_mods_mute (next log) mods (grab_for log v)
own_mute (acts.Registry p role) log a = globals_mute (next log) role
own_mute (acts.Sync p) log a = (tt, (tt, tt))
own_mute (acts.Seat p) log a = (tt, tt)
own_mute (acts.Bad p fault x) log a = (tt, tt)
own_mute _ log a = tt

by_mute : (act : Act) (log : List Act) → IsMute act → AllKeyless (told_by act log)
by_mute act log a =
    each_append IsKeyless (leaves act log) _ (leaves_mute act log)
    (each_append IsKeyless (to_method act log (serving (act ∷ log))) _
    (method_mute act log (serving (act ∷ log)))
    (each_append IsKeyless (enters act log) (own act log) (enters_mute act log) (own_mute act log a)))

-- so an entry that is no order tells no key, where nobody has a board
pub tells_no_key : (e : Entry) (older : List Entry) → is_order e ≡ false → HaveNoBoard older →
    AllByRecursion IsKeyless (told (act_at e older) (resolve older))
tells_no_key e older h none =
    let act : Act = act_at e older in
    let log : List Act = resolve older in
    by_mute (cleaned act (history log)) (history log)
    (either_way IsMute (is_live act (history log)) act acts.Idle (act_mute e older h none) refl)
