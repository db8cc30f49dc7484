-- Events whose texts are short are messages that fit.
use Rattle.std.proofs.Common.{◌≤◌, List, length, arith, ℕ, [], ◌∷◌, Bool, Option, Some, None}
use Rattle.std.specs.Prelude.{IfSome, ◌==◌, ◌&&◌, nat_le, if◌then◌else◌, is_some, filter, unwrap_or}
use Rattle.wl_proto.specs.declared.interface.Interface.{Interface}
use Rattle.wl_proto.specs.declared.interface.Interface.TheVariants as interface
use Rattle.wl_proto.specs.Names.{name_of}
use Rattle.wl_proto.specs.Spelling.{message_len}
use Rattle.relay_model.specs.declared.fault.Fault.{Fault}
use Rattle.relay_model.specs.declared.fault.Fault.TheVariants as faults
use Rattle.relay_model.specs.declared.said.Said.{Said}
use Rattle.relay_model.specs.declared.said.Said.TheVariants as said
use Rattle.relay_model.specs.Faults.{text_of}
use Rattle.broker_model.specs.Ids.{Made}
use Rattle.broker_model.specs.Groups.{message_of}
use Rattle.std.specs.List.{AllByRecursion}
use Rattle.relay_model.specs.declared.act.Act.{Act}
use Rattle.relay_model.specs.declared.act.Act.TheVariants as acts
use Rattle.relay_model.specs.declared.said.Told.{Told}
use Rattle.relay_model.specs.Objects.{next, is_at, peer_of, fields, popups}
use Rattle.relay_model.specs.Focus.{focus, entered}
use Rattle.relay_model.specs.Hold.{holder}
use Rattle.relay_model.specs.Current.{State, Around, between, last_surrounding, current}
use Rattle.relay_model.specs.Activation.{Notice, Activates, Updates, Deactivates, serving, notice, begun, fresh}
use Rattle.relay_model.specs.Batch.{Deletion, Preedit, Batch, no_preedit, string_by, last_string, preedit_by, last_preedit, batch, commit_count, deletion_said, string_said, is_no_preedit, preedit_said, group}
use Rattle.relay_model.specs.Keys as keys
use Rattle.relay_model.specs.Keys.{Goes, ToGrab, ToShell, Nowhere, Refused, key_route, standing, last_keymap, last_repeat, last_mods}
use Rattle.relay_model.specs.Boards.{board_route, grab_for}
use Rattle.relay_model.specs.Popups.{cursor, ready_surface, told_where, popup_told, each_popup}
use Rattle.relay_model.specs.Globals.{offered, global_told}
use Rattle.relay_model.specs.Idle.{is_live, cleaned, history}
use Rattle.relay_model.specs.Told.{to, leave, enter, each_entered, leaves, around_said, state_said, holders_state, notice_said, to_method, enters_new, enters, to_holder, deleted, key_told, keymap_said, repeat_said, mods_said, keyboard_said, to_grab, own, told_by, told, board_mods_told}
use Rattle.relay_objects.specs.Fits.{FitsMessage}
use Rattle.broker_audience.specs.Tells.{IsShort}
use Rattle.broker_model.proofs.EachElement.{either_way, each_of, each_weaker, each_append, each_map, each_flat}

-- a text of an event has at most 4,083 bytes, or 4,075 beside two numbers
abbrev pub HasShort : Said → Type 0
HasShort (said.Preedit text begin end) = length text ≤ 4075
HasShort (said.CommitString text) = length text ≤ 4083
HasShort (said.Surrounding text cursor anchor) = length text ≤ 4075
HasShort _ = Unit {0}

name_short : (i : Interface) → length (name_of i) ≤ 64
name_short interface.Display = omega arith
name_short interface.Registry = omega arith
name_short interface.Callback = omega arith
name_short interface.Compositor = omega arith
name_short interface.Surface = omega arith
name_short interface.Seat = omega arith
name_short interface.TextInputManager = omega arith
name_short interface.TextInput = omega arith
name_short interface.InputMethodManager = omega arith
name_short interface.InputMethod = omega arith
name_short interface.InputPopupSurface = omega arith
name_short interface.KeyboardGrab = omega arith
name_short interface.VirtualKeyboardManager = omega arith
name_short interface.VirtualKeyboard = omega arith

fault_short : (fault : Fault) → length (text_of fault) ≤ 64
fault_short faults.Size = omega arith
fault_short faults.Object = omega arith
fault_short faults.Opcode = omega arith
fault_short faults.Malformed = omega arith
fault_short faults.Argument = omega arith
fault_short faults.NewId = omega arith
fault_short faults.TooMany = omega arith
fault_short faults.Bind = omega arith
fault_short faults.Capability = omega arith
fault_short faults.Role = omega arith
fault_short faults.NoKeymap = omega arith

-- such an event's message has at most 4096 bytes
pub short_said : (event : Said) → HasShort event → (made : List Made) →
    IfSome (message_of made event) (λ m. message_len m ≤ 4096)
short_said (said.Preedit text begin end) h made = omega arith
short_said (said.CommitString text) h made = omega arith
short_said (said.Surrounding text cursor anchor) h made = omega arith
short_said (said.Global name i version) h made = let n : length (name_of i) ≤ 64 = name_short i in omega arith
short_said (said.Error object fault) h made = let n : length (text_of fault) ≤ 64 = fault_short fault in omega arith
short_said (said.Pass time key state) h made = tt
short_said (said.VMods mods) h made = tt
short_said (said.Placed popup x y) h made = tt
short_said _ h made = omega arith

-- All that acts tell whose texts fit a message are messages that fit.

abbrev HasShortEvent : Told → Type 0
HasShortEvent t = HasShort t.event

abbrev AreShort : List Told → Type 0
AreShort ts = AllByRecursion HasShortEvent ts

-- idle acts have no texts

fits_if : (b : Bool) (act : Act) → FitsMessage act → FitsMessage (if b then act else acts.Idle)
fits_if b act h = either_way FitsMessage b act acts.Idle h tt

pub fits_history : (acts : List Act) → AllByRecursion FitsMessage acts → AllByRecursion FitsMessage (history acts)
fits_history [] h = tt
fits_history (act ∷ older) h = (fits_if (is_live act (history older)) act h.0, fits_history older h.1)

-- the surrounding text that a field set

abbrev AroundFits : Option Around → Type 0
AroundFits None = Unit {0}
AroundFits (Some around) = length around.text ≤ 4075

fits_surrounding : (from until : ℕ) (log : List Act) (f : ℕ) → AllByRecursion FitsMessage log →
    AroundFits (last_surrounding from until log f)
fits_surrounding from until [] f h = tt
fits_surrounding from until (acts.Surround g text cursor anchor ∷ older) f h =
    either_way AroundFits (between from until older g f)
    (Some (record { text = text; cursor = cursor; anchor = anchor })) (last_surrounding from until older f)
    h.0 (fits_surrounding from until older f h.1)
fits_surrounding from until (_ ∷ older) f h = fits_surrounding from until older f h.1

-- the string and the preedit of a batch

abbrev StringFits : List ℕ → Type 0
StringFits text = length text ≤ 4083

string_after : (act : Act) (m : ℕ) (rest : List ℕ) → FitsMessage act → StringFits rest →
    StringFits (string_by act m rest)
string_after (acts.MString n text) m rest h k = either_way StringFits (n == m) text rest h k
string_after (acts.MCommit n serial) m rest h k = either_way StringFits (n == m) [] rest (omega arith) k
string_after _ m rest h k = k

fits_string : (from : ℕ) (log : List Act) (m : ℕ) → AllByRecursion FitsMessage log → StringFits (last_string from log m)
fits_string from [] m h = omega arith
fits_string from (act ∷ older) m h =
    either_way StringFits (nat_le (next older) from) [] (string_by act m (last_string from older m)) (omega arith)
    (string_after act m (last_string from older m) h.0 (fits_string from older m h.1))

abbrev PreeditFits : Preedit → Type 0
PreeditFits p = length p.text ≤ 4075

preedit_after : (act : Act) (m : ℕ) (rest : Preedit) → FitsMessage act → PreeditFits rest →
    PreeditFits (preedit_by act m rest)
preedit_after (acts.MPreedit n text begin end) m rest h k =
    either_way PreeditFits (n == m) (record { text = text; begin = begin; end = end }) rest h k
preedit_after (acts.MCommit n serial) m rest h k = either_way PreeditFits (n == m) no_preedit rest (omega arith) k
preedit_after _ m rest h k = k

fits_preedit : (from : ℕ) (log : List Act) (m : ℕ) → AllByRecursion FitsMessage log →
    PreeditFits (last_preedit from log m)
fits_preedit from [] m h = omega arith
fits_preedit from (act ∷ older) m h =
    either_way PreeditFits (nat_le (next older) from) no_preedit (preedit_by act m (last_preedit from older m))
    (omega arith)
    (preedit_after act m (last_preedit from older m) h.0 (fits_preedit from older m h.1))

-- the state of the holder

around_short : (o : Option Around) (cause : ℕ) → AroundFits o → AllByRecursion HasShort (around_said o cause)
around_short None cause h = tt
around_short (Some around) cause h = (h, (tt, tt))

state_short : (s : State) → AroundFits s.surrounding → AllByRecursion HasShort (state_said s)
state_short s h =
    each_append HasShort (around_said s.surrounding s.cause) _ (around_short s.surrounding s.cause h) (tt, (tt, tt))

holder_short : (log : List Act) (o : Option ℕ) → AllByRecursion FitsMessage log →
    AllByRecursion HasShort (holders_state log o)
holder_short log None h = tt
holder_short log (Some f) h = state_short (current log f) (fits_surrounding _ _ log f h)

notice_short : (log : List Act) (o : Option Notice) → AllByRecursion FitsMessage log →
    AllByRecursion HasShort (notice_said log o)
notice_short log None h = tt
notice_short log (Some Activates) h = (tt, holder_short log (holder log) h)
notice_short log (Some Updates) h = holder_short log (holder log) h
notice_short log (Some Deactivates) h = (tt, (tt, tt))

method_short : (act : Act) (log : List Act) (o : Option ℕ) → FitsMessage act → AllByRecursion FitsMessage log →
    AreShort (to_method act log o)
method_short act log None h k = tt
method_short act log (Some m) h k =
    each_map HasShortEvent (to m) (notice_said (act ∷ log) (notice act log))
    (notice_short (act ∷ log) (notice act log) (h, k))

-- a batch

string_short : (text : List ℕ) → StringFits text → AllByRecursion HasShort (string_said text)
string_short text h =
    either_way (AllByRecursion HasShort) (length text == 0) [] (said.CommitString text ∷ []) tt (h, tt)

preedit_short : (p : Preedit) → PreeditFits p → AllByRecursion HasShort (preedit_said p)
preedit_short p h =
    either_way (AllByRecursion HasShort) (is_no_preedit p) [] (said.Preedit p.text p.begin p.end ∷ []) tt (h, tt)

deletion_short : (d : Deletion) → AllByRecursion HasShort (deletion_said d)
deletion_short d =
    either_way (AllByRecursion HasShort) ((d.before == 0) && (d.after == 0)) [] (said.Delete d.before d.after ∷ []) tt
    (tt, tt)

group_short : (b : Batch) (count : ℕ) → StringFits b.string → PreeditFits b.preedit →
    AllByRecursion HasShort (group b count)
group_short b count h k =
    each_append HasShort (deletion_said b.deletion) _ (deletion_short b.deletion)
    (each_append HasShort (string_said b.string) _ (string_short b.string h)
    (each_append HasShort (preedit_said b.preedit) (said.FieldDone count ∷ []) (preedit_short b.preedit k) (tt, tt)))

batch_short : (m serial : ℕ) (log : List Act) (o : Option ℕ) → AllByRecursion FitsMessage log →
    AreShort (to_holder (acts.MCommit m serial) log o)
batch_short m serial log None h = tt
batch_short m serial log (Some f) h =
    each_map HasShortEvent (to f) (group (batch log m) (commit_count log f))
    (group_short (batch log m) (commit_count log f) (fits_string (unwrap_or (begun log) 0) log m h)
    (fits_preedit (unwrap_or (begun log) 0) log m h))

-- what has no text

entered_short : (say : ℕ → ℕ → Told) (log : List Act) (o : Option ℕ) → ((s f : ℕ) → HasShortEvent (say s f)) →
    AreShort (each_entered say log o)
entered_short say log None h = tt
entered_short say log (Some s) h =
    each_map HasShortEvent (say s) (filter (entered log) (fields log))
    (each_of (λ f. HasShortEvent (say s f)) (filter (entered log) (fields log)) (h s))

leaves_short : (act : Act) (log : List Act) → AreShort (leaves act log)
leaves_short (acts.Focus s) log = entered_short leave log (focus log) (λ t f. tt)
leaves_short acts.Unfocus log = entered_short leave log (focus log) (λ t f. tt)
leaves_short _ log = tt

new_short : (log : List Act) (f : ℕ) (o : Option ℕ) → AreShort (enters_new log f o)
new_short log f None = tt
new_short log f (Some s) = either_way (AllByRecursion HasShortEvent) (entered log f) (enter s f ∷ []) [] (tt, tt) tt

enters_short : (act : Act) (log : List Act) → AreShort (enters act log)
enters_short (acts.Focus s) log = entered_short enter (acts.Focus s ∷ log) (focus (acts.Focus s ∷ log)) (λ t f. tt)
enters_short (acts.Field p) log = new_short (acts.Field p ∷ log) (next log) (focus (acts.Field p ∷ log))
enters_short _ log = tt

where_short : (log : List Act) (x : ℕ) (s : Option ℕ) → AreShort (told_where log x s (cursor log))
where_short log x None = tt
where_short log x (Some s) =
    elim (cursor log) as (λ rect. AreShort (told_where log x (Some s) rect)) [
      | None ↦ tt
      | Some rect ↦ (tt, (tt, tt))
    ]

popup_short : (log : List Act) (x : ℕ) → AreShort (popup_told log x)
popup_short log x = where_short log x (ready_surface log x)

popups_short : (log : List Act) → AreShort (each_popup log)
popups_short log =
    each_flat HasShortEvent (popup_told log) (popups log)
    (each_of (λ x. AreShort (popup_told log x)) (popups log) (λ x. popup_short log x))

keymap_short : (o : Option keys.Keymap) → AllByRecursion HasShort (keymap_said o)
keymap_short None = tt
keymap_short (Some k) = (tt, tt)

repeat_short : (o : Option keys.Repeat) → AllByRecursion HasShort (repeat_said o)
repeat_short None = tt
repeat_short (Some r) = (tt, tt)

mods_short : (n : ℕ) (o : Option keys.Mods) → AllByRecursion HasShort (mods_said n o)
mods_short n None = tt
mods_short n (Some m) = (tt, tt)

keyboard_short : (n : ℕ) (log : List Act) → AllByRecursion HasShort (keyboard_said n log)
keyboard_short n log =
    each_append HasShort (keymap_said (last_keymap log)) _ (keymap_short (last_keymap log))
    (each_append HasShort (repeat_said (last_repeat log)) (mods_said n (last_mods log)) (repeat_short (last_repeat log))
    (mods_short n (last_mods log)))

deleted_short : (x : ℕ) (o : Option ℕ) → AreShort (deleted x o)
deleted_short x None = tt
deleted_short x (Some p) = (tt, tt)

key_short : (n time key state : ℕ) (goes : Goes) → AreShort (key_told n time key state goes)
key_short n time key state (ToGrab g) = (tt, tt)
key_short n time key state ToShell = (tt, tt)
key_short n time key state Nowhere = tt
key_short n time key state Refused = tt

board_mods_short : (n : ℕ) (mods : keys.Mods) (o : Option ℕ) → AreShort (board_mods_told n mods o)
board_mods_short n mods None = (tt, tt)
board_mods_short n mods (Some g) = (tt, tt)

grab_short : (o : Option ℕ) (event : Said) → HasShort event → AreShort (to_grab o event)
grab_short None event h = tt
grab_short (Some g) event h = (h, tt)

-- all

short_if : (b : Bool) (ts : List Told) → AreShort ts → AreShort (if b then ts else [])
short_if b ts h = either_way (AllByRecursion HasShortEvent) b ts [] h tt

own_short : (act : Act) (log : List Act) → AllByRecursion FitsMessage log → AreShort (own act log)
own_short (acts.Method p) log h = short_if (is_some (serving log)) _ (tt, tt)
own_short (acts.Popup m s) log h = popup_short (acts.Popup m s ∷ log) (next log)
own_short (acts.Grab m) log h =
    short_if (is_at (standing (acts.Grab m ∷ log)) (next log)) _
    (each_map HasShortEvent (to (next log)) (keyboard_said (next log) log) (keyboard_short (next log) log))
own_short (acts.Drop x) log h = deleted_short x (peer_of log x)
own_short (acts.Area s rect) log h = popups_short (acts.Area s rect ∷ log)
own_short (acts.Screen size) log h = popups_short (acts.Screen size ∷ log)
own_short (acts.Commit f) log h =
    short_if (is_at (holder (acts.Commit f ∷ log)) f) _ (popups_short (acts.Commit f ∷ log))
own_short (acts.MCommit m serial) log h =
    short_if (fresh (acts.MCommit m serial) log) _ (batch_short m serial log (holder log) h)
own_short (acts.Key time key state) log h = key_short (next log) time key state (key_route log key state)
own_short (acts.Mods mods) log h = grab_short (standing log) (said.Mods (next log) mods) tt
own_short (acts.Keymap keymap) log h = grab_short (standing log) (said.Keymap keymap) tt
own_short (acts.Repeat repeat) log h = grab_short (standing log) (said.Repeat repeat) tt
own_short (acts.VKey v time key state) log h = key_short (next log) time key state (board_route log v key state)
own_short (acts.VMods v mods) log h = board_mods_short (next log) mods (grab_for log v)
own_short (acts.Registry p role) log h =
    each_map HasShortEvent (global_told (next log)) (offered role)
    (each_of (λ offer. HasShortEvent (global_told (next log) offer)) (offered role) (λ offer. tt))
own_short (acts.Sync p) log h = (tt, (tt, tt))
own_short (acts.Seat p) log h = (tt, tt)
own_short (acts.Bad p fault x) log h = (tt, tt)
own_short _ log h = tt

short_told : (act : Act) (log : List Act) → FitsMessage act → AllByRecursion FitsMessage log →
    AreShort (told_by act log)
short_told act log h k =
    each_append HasShortEvent (leaves act log) _ (leaves_short act log)
    (each_append HasShortEvent (to_method act log (serving (act ∷ log))) _
    (method_short act log (serving (act ∷ log)) h k)
    (each_append HasShortEvent (enters act log) (own act log) (enters_short act log) (own_short act log k)))

-- each message of what an act tells has at most 4096 bytes, where the texts of the act and of those before it fit
pub all_short : (act : Act) (acts : List Act) → FitsMessage act → AllByRecursion FitsMessage acts →
    AllByRecursion IsShort (told act acts)
all_short act acts h k =
    each_weaker HasShortEvent IsShort (told act acts) (λ t s. short_said t.event s)
    (short_told (cleaned act (history acts)) (history acts) (fits_if (is_live act (history acts)) act h)
    (fits_history acts k))
