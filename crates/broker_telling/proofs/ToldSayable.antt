-- What acts tell that can be said can be said: all of it, or what edits a batch and has numbers of our own.
use Rattle.std.proofs.Common.{ℕ, ℤ, pos, negsuc, List, [], ◌∷◌, length, map, Bool, true, false, ◌&&◌, Option, Some, None, arith}
use Rattle.std.specs.Prelude.{◌==◌, is_some, filter, unwrap_or, nat_le, nat_abs}
use Rattle.std.specs.Int.{w32, saturate_signed}
use Rattle.std.specs.List.{AllByRecursion}
use Rattle.std.proofs.Math.Facts.{Fits-nat_abs}
use Rattle.wl_wire.proofs.TextsKnown.{is_text-nil}
use Rattle.relay_model.specs.Rect.{Rect}
use Rattle.relay_model.specs.declared.act.Act.{Act}
use Rattle.relay_model.specs.declared.act.Act.TheVariants as acts
use Rattle.relay_model.specs.declared.said.Told.{Told}
use Rattle.relay_model.specs.declared.said.Said.{Said}
use Rattle.relay_model.specs.declared.said.Said.TheVariants as said
use Rattle.relay_model.specs.declared.role.Role.{Role}
use Rattle.relay_model.specs.declared.role.Role.TheVariants as roles
use Rattle.relay_model.specs.Objects.{next, is_at, peer_of, fields, popups}
use Rattle.relay_model.specs.Focus.{focus, entered}
use Rattle.relay_model.specs.Hold.{holder}
use Rattle.relay_model.specs.Current.{State, Around, ContentType, between, last_surrounding, last_cause, last_content, last_rect, current}
use Rattle.relay_model.specs.Activation.{Notice, Activates, Updates, Deactivates, serving, notice, begun, fresh}
use Rattle.relay_model.specs.Batch.{Deletion, Preedit, Batch, no_deletion, no_preedit, deletion_by, last_deletion, string_by, last_string, preedit_by, last_preedit, batch, commit_count, deletion_said, string_said, is_no_preedit, preedit_said, group}
use Rattle.relay_model.specs.Keys as keys
use Rattle.relay_model.specs.Keys.{Goes, ToGrab, ToShell, Nowhere, Refused, key_route, standing, last_keymap, last_repeat, last_mods}
use Rattle.relay_model.specs.Boards.{board_route, grab_for}
use Rattle.relay_model.specs.Popups.{cursor, rect_of, place, ready_surface, told_where, popup_told, each_popup}
use Rattle.relay_model.specs.Globals.{offered, global_told}
use Rattle.relay_model.specs.Idle.{is_live, cleaned, history}
use Rattle.relay_model.specs.Told.{to, leave, enter, each_entered, leaves, around_said, state_said, holders_state, notice_said, to_method, enters_new, enters, to_holder, deleted, key_told, keymap_said, repeat_said, mods_said, keyboard_said, to_grab, board_mods_told, own, told_by, told}
use Rattle.broker_model.proofs.EachElement.{either_way, each_of, each_append, each_map, each_flat}
use Rattle.broker_telling.specs.Sayable.{IsWord, IsInt, IsText, HasInts, HasWords, IsKeymap, IsRepeat}
use Rattle.broker_telling.proofs.ActsCanBeSaid.{When, when, when_then, Says, says_if, says_history}

-- the event can be said, if all are asked or it is one of a batch or has numbers of our own
abbrev pub CanSay : Bool → Said → Type 0
CanSay all (said.Preedit text begin end) = IsText text × IsInt begin × IsInt end
CanSay all (said.CommitString text) = IsText text
CanSay all (said.Delete before after) = IsWord before × IsWord after
CanSay all (said.FieldDone serial) = IsWord serial
CanSay all (said.Surrounding text cursor anchor) = When all (IsText text × IsWord cursor × IsWord anchor)
CanSay all (said.ChangeCause cause) = When all (IsWord cause)
CanSay all (said.ContentType hint purpose) = When all (IsWord hint × IsWord purpose)
CanSay all (said.PopupRect x y width height) = When all (IsInt x × IsInt y × IsInt width × IsInt height)
CanSay all (said.Keymap keymap) = When all (IsKeymap keymap)
CanSay all (said.Key serial time key state) = When all (IsWord serial × IsWord time × IsWord key × IsWord state)
CanSay all (said.Mods serial mods) = When all (IsWord serial × HasWords mods)
CanSay all (said.Repeat repeat) = When all (IsRepeat repeat)
CanSay all (said.Global name i version) = IsWord name × IsWord version
CanSay all (said.CallbackDone value) = IsWord value
CanSay all (said.Capabilities value) = IsWord value
CanSay all _ = Unit {0}

abbrev pub CanSayEvent : Bool → Told → Type 0
CanSayEvent all t = CanSay all t.event

abbrev CanSayAll : Bool → List Told → Type 0
CanSayAll all ts = AllByRecursion (CanSayEvent all) ts

abbrev AllSay : Bool → List Act → Type 0
AllSay all log = AllByRecursion (Says all) log

-- ---- the state of the holder

abbrev AroundSays : Bool → Option Around → Type 0
AroundSays all None = Unit {0}
AroundSays all (Some around) = When all (IsText around.text × IsInt around.cursor × IsInt around.anchor)

says_surrounding : (all : Bool) (from until : ℕ) (log : List Act) (f : ℕ) → AllSay all log →
    AroundSays all (last_surrounding from until log f)
says_surrounding all from until [] f h = tt
says_surrounding all from until (acts.Surround g text cursor anchor ∷ older) f h =
    either_way (AroundSays all) (between from until older g f)
    (Some (record { text = text; cursor = cursor; anchor = anchor }))
    (last_surrounding from until older f) h.0 (says_surrounding all from until older f h.1)
says_surrounding all from until (_ ∷ older) f h = says_surrounding all from until older f h.1

abbrev WordSays : Bool → ℕ → Type 0
WordSays all n = When all (IsWord n)

zero_says : (all : Bool) → WordSays all 0
zero_says all = when all (IsWord 0) (omega arith)

says_cause : (all : Bool) (from until : ℕ) (log : List Act) (f : ℕ) → AllSay all log →
    WordSays all (last_cause from until log f)
says_cause all from until [] f h = zero_says all
says_cause all from until (acts.Cause g cause ∷ older) f h =
    either_way (WordSays all) (between from until older g f) cause (last_cause from until older f) h.0
    (says_cause all from until older f h.1)
says_cause all from until (_ ∷ older) f h = says_cause all from until older f h.1

abbrev ContentSays : Bool → ContentType → Type 0
ContentSays all content = When all (IsWord content.hint × IsWord content.purpose)

says_content : (all : Bool) (from until : ℕ) (log : List Act) (f : ℕ) → AllSay all log →
    ContentSays all (last_content from until log f)
says_content all from until [] f h = when all (IsWord 0 × IsWord 0) (omega arith, omega arith)
says_content all from until (acts.Content g hint purpose ∷ older) f h =
    either_way (ContentSays all) (between from until older g f) (record { hint = hint; purpose = purpose })
    (last_content from until older f)
    h.0 (says_content all from until older f h.1)
says_content all from until (_ ∷ older) f h = says_content all from until older f h.1

abbrev RectSays : Bool → Option Rect → Type 0
RectSays all None = Unit {0}
RectSays all (Some rect) = When all (HasInts rect)

says_rect : (all : Bool) (from until : ℕ) (log : List Act) (f : ℕ) → AllSay all log →
    RectSays all (last_rect from until log f)
says_rect all from until [] f h = tt
says_rect all from until (acts.Cursor g rect ∷ older) f h =
    either_way (RectSays all) (between from until older g f) (Some rect) (last_rect from until older f) h.0
    (says_rect all from until older f h.1)
says_rect all from until (_ ∷ older) f h = says_rect all from until older f h.1

size_word : (z : ℤ) → IsInt z → IsWord (nat_abs z)
size_word z h = (let f = Fits-nat_abs {w = w32} {w' = w32} tt h in omega (arith, f))

around_says : (all : Bool) (o : Option Around) (cause : ℕ) → AroundSays all o → WordSays all cause →
    AllByRecursion (CanSay all) (around_said o cause)
around_says all None cause h k = tt
around_says all (Some around) cause h k = (
  when_then all (IsText around.text × IsInt around.cursor × IsInt around.anchor)
      (IsText around.text × IsWord (nat_abs around.cursor) × IsWord (nat_abs around.anchor))
      (λ p. (p.0, size_word around.cursor p.1, size_word around.anchor p.2)) h,
  (k, tt),
)

state_says : (all : Bool) (s : State) → AroundSays all s.surrounding → WordSays all s.cause →
    ContentSays all s.content →
    AllByRecursion (CanSay all) (state_said s)
state_says all s h k c =
    each_append (CanSay all) (around_said s.surrounding s.cause)
    (said.ContentType s.content.hint s.content.purpose ∷ said.MethodDone ∷ [])
    (around_says all s.surrounding s.cause h k) (c, (tt, tt))

holder_says : (all : Bool) (log : List Act) (o : Option ℕ) → AllSay all log →
    AllByRecursion (CanSay all) (holders_state log o)
holder_says all log None h = tt
holder_says all log (Some f) h =
    state_says all (current log f) (says_surrounding all _ _ log f h) (says_cause all _ _ log f h)
    (says_content all _ _ log f h)

notice_says : (all : Bool) (log : List Act) (o : Option Notice) → AllSay all log →
    AllByRecursion (CanSay all) (notice_said log o)
notice_says all log None h = tt
notice_says all log (Some Activates) h = (tt, holder_says all log (holder log) h)
notice_says all log (Some Updates) h = holder_says all log (holder log) h
notice_says all log (Some Deactivates) h = (tt, (tt, tt))

method_says : (all : Bool) (act : Act) (log : List Act) (o : Option ℕ) → AllSay all (act ∷ log) →
    CanSayAll all (to_method act log o)
method_says all act log None h = tt
method_says all act log (Some m) h =
    each_map (CanSayEvent all) (to m) (notice_said (act ∷ log) (notice act log))
    (notice_says all (act ∷ log) (notice act log) h)

-- ---- a batch

abbrev pub DeletionSays : Deletion → Type 0
DeletionSays d = IsWord d.before × IsWord d.after

deletion_after : (all : Bool) (act : Act) (m : ℕ) (rest : Deletion) → Says all act → DeletionSays rest →
    DeletionSays (deletion_by act m rest)
deletion_after all (acts.MDelete n before after) m rest h k = either_way DeletionSays (n == m)
    (record { before = before; after = after }) rest h k
deletion_after all (acts.MCommit n serial) m rest h k = either_way DeletionSays (n == m) no_deletion rest
    (omega arith, omega arith) k
deletion_after all _ m rest h k = k

says_deletion : (all : Bool) (from : ℕ) (log : List Act) (m : ℕ) → AllSay all log →
    DeletionSays (last_deletion from log m)
says_deletion all from [] m h = (omega arith, omega arith)
says_deletion all from (act ∷ older) m h =
    either_way DeletionSays (nat_le (next older) from) no_deletion (deletion_by act m (last_deletion from older m))
    (omega arith, omega arith)
    (deletion_after all act m (last_deletion from older m) h.0 (says_deletion all from older m h.1))

no_text : IsText []
no_text = is_text-nil

string_after : (all : Bool) (act : Act) (m : ℕ) (rest : List ℕ) → Says all act → IsText rest →
    IsText (string_by act m rest)
string_after all (acts.MString n text) m rest h k = either_way IsText (n == m) text rest h k
string_after all (acts.MCommit n serial) m rest h k = either_way IsText (n == m) [] rest no_text k
string_after all _ m rest h k = k

says_string : (all : Bool) (from : ℕ) (log : List Act) (m : ℕ) → AllSay all log → IsText (last_string from log m)
says_string all from [] m h = no_text
says_string all from (act ∷ older) m h =
    either_way IsText (nat_le (next older) from) [] (string_by act m (last_string from older m)) no_text
    (string_after all act m (last_string from older m) h.0 (says_string all from older m h.1))

abbrev pub PreeditSays : Preedit → Type 0
PreeditSays p = IsText p.text × IsInt p.begin × IsInt p.end

no_preedit_says : PreeditSays no_preedit
no_preedit_says = (no_text, omega arith, omega arith)

preedit_after : (all : Bool) (act : Act) (m : ℕ) (rest : Preedit) → Says all act → PreeditSays rest →
    PreeditSays (preedit_by act m rest)
preedit_after all (acts.MPreedit n text begin end) m rest h k =
    either_way PreeditSays (n == m) (record { text = text; begin = begin; end = end }) rest h k
preedit_after all (acts.MCommit n serial) m rest h k = either_way PreeditSays (n == m) no_preedit rest no_preedit_says k
preedit_after all _ m rest h k = k

says_preedit : (all : Bool) (from : ℕ) (log : List Act) (m : ℕ) → AllSay all log → PreeditSays (last_preedit from log m)
says_preedit all from [] m h = no_preedit_says
says_preedit all from (act ∷ older) m h =
    either_way PreeditSays (nat_le (next older) from) no_preedit
    (preedit_by act m (last_preedit from older m)) no_preedit_says
    (preedit_after all act m (last_preedit from older m) h.0 (says_preedit all from older m h.1))

-- the batch and its count
pub record BatchSays (b : Batch) (count : ℕ) : Type 0 where
  pub deletion : DeletionSays b.deletion
  pub string : IsText b.string
  pub preedit : PreeditSays b.preedit
  pub count-is : IsWord count

pub says_batch : (all : Bool) (log : List Act) (m f : ℕ) → AllSay all log → BatchSays (batch log m) (commit_count log f)
says_batch all log m f h = record {
  deletion = says_deletion all (unwrap_or (begun log) 0) log m h;
  string = says_string all (unwrap_or (begun log) 0) log m h;
  preedit = says_preedit all (unwrap_or (begun log) 0) log m h;
  count-is = omega arith;
}

group_says : (all : Bool) (b : Batch) (count : ℕ) → BatchSays b count → AllByRecursion (CanSay all) (group b count)
group_says all b count h =
    each_append (CanSay all) (deletion_said b.deletion) _
    (either_way (AllByRecursion (CanSay all)) ((b.deletion.before == 0) && (b.deletion.after == 0)) []
    (said.Delete b.deletion.before b.deletion.after ∷ []) tt (h.deletion, tt))
    (each_append (CanSay all) (string_said b.string) _
    (either_way (AllByRecursion (CanSay all)) (length b.string == 0) [] (said.CommitString b.string ∷ []) tt
    (h.string, tt))
    (each_append (CanSay all) (preedit_said b.preedit) (said.FieldDone count ∷ [])
    (either_way (AllByRecursion (CanSay all)) (is_no_preedit b.preedit) []
    (said.Preedit b.preedit.text b.preedit.begin b.preedit.end ∷ []) tt (h.preedit, tt)) (h.count-is, tt)))

batch_says : (all : Bool) (m serial : ℕ) (log : List Act) (o : Option ℕ) → AllSay all log →
    CanSayAll all (to_holder (acts.MCommit m serial) log o)
batch_says all m serial log None h = tt
batch_says all m serial log (Some f) h =
    each_map (CanSayEvent all) (to f) (group (batch log m) (commit_count log f))
    (group_says all (batch log m) (commit_count log f) (says_batch all log m f h))

-- ---- fields and popups

entered_says : (all : Bool) (say : ℕ → ℕ → Told) (log : List Act) (o : Option ℕ) →
    ((s f : ℕ) → CanSayEvent all (say s f)) →
    CanSayAll all (each_entered say log o)
entered_says all say log None h = tt
entered_says all say log (Some s) h =
    each_map (CanSayEvent all) (say s) (filter (entered log) (fields log))
    (each_of (λ f. CanSayEvent all (say s f)) (filter (entered log) (fields log)) (h s))

leaves_says : (all : Bool) (act : Act) (log : List Act) → CanSayAll all (leaves act log)
leaves_says all (acts.Focus s) log = entered_says all leave log (focus log) (λ t f. tt)
leaves_says all acts.Unfocus log = entered_says all leave log (focus log) (λ t f. tt)
leaves_says all _ log = tt

new_says : (all : Bool) (log : List Act) (f : ℕ) (o : Option ℕ) → CanSayAll all (enters_new log f o)
new_says all log f None = tt
new_says all log f (Some s) = either_way (AllByRecursion (CanSayEvent all)) (entered log f) (enter s f ∷ []) []
    (tt, tt) tt

enters_says : (all : Bool) (act : Act) (log : List Act) → CanSayAll all (enters act log)
enters_says all (acts.Focus s) log = entered_says all enter (acts.Focus s ∷ log) (focus (acts.Focus s ∷ log))
    (λ t f. tt)
enters_says all (acts.Field p) log = new_says all (acts.Field p ∷ log) (next log) (focus (acts.Field p ∷ log))
enters_says all _ log = tt

cursor_says : (all : Bool) (log : List Act) (o : Option ℕ) → AllSay all log → RectSays all (rect_of log o)
cursor_says all log None h = tt
cursor_says all log (Some f) h = says_rect all _ _ log f h

cut_int : (z : ℤ) → IsInt (saturate_signed w32 z)
cut_int (pos n) = omega arith
cut_int (negsuc n) = omega arith

where_says : (all : Bool) (log : List Act) (x : ℕ) (s : Option ℕ) (o : Option Rect) → RectSays all o →
    CanSayAll all (told_where log x s o)
where_says all log x None o h = tt
where_says all log x (Some s) None h = tt
where_says all log x (Some s) (Some rect) h =
    let seen : Rect = (place log s rect).seen in
    (when_then all (HasInts rect) (HasInts seen) (λ p. (cut_int _, cut_int _, p.2, p.3)) h, (tt, tt))

popup_says : (all : Bool) (log : List Act) (x : ℕ) → AllSay all log → CanSayAll all (popup_told log x)
popup_says all log x h = where_says all log x (ready_surface log x) (cursor log) (cursor_says all log (holder log) h)

popups_says : (all : Bool) (log : List Act) → AllSay all log → CanSayAll all (each_popup log)
popups_says all log h =
    each_flat (CanSayEvent all) (popup_told log) (popups log)
    (each_of (λ x. CanSayAll all (popup_told log x)) (popups log) (λ x. popup_says all log x h))

-- ---- keys

abbrev KeymapSays : Bool → Option keys.Keymap → Type 0
KeymapSays all None = Unit {0}
KeymapSays all (Some keymap) = When all (IsKeymap keymap)

says_keymap : (all : Bool) (log : List Act) → AllSay all log → KeymapSays all (last_keymap log)
says_keymap all [] h = tt
says_keymap all (acts.Keymap keymap ∷ older) h = h.0
says_keymap all (_ ∷ older) h = says_keymap all older h.1

keymap_says : (all : Bool) (o : Option keys.Keymap) → KeymapSays all o → AllByRecursion (CanSay all) (keymap_said o)
keymap_says all None h = tt
keymap_says all (Some k) h = (h, tt)

abbrev RepeatSays : Bool → Option keys.Repeat → Type 0
RepeatSays all None = Unit {0}
RepeatSays all (Some repeat) = When all (IsRepeat repeat)

says_repeat : (all : Bool) (log : List Act) → AllSay all log → RepeatSays all (last_repeat log)
says_repeat all [] h = tt
says_repeat all (acts.Repeat repeat ∷ older) h = h.0
says_repeat all (_ ∷ older) h = says_repeat all older h.1

repeat_says : (all : Bool) (o : Option keys.Repeat) → RepeatSays all o → AllByRecursion (CanSay all) (repeat_said o)
repeat_says all None h = tt
repeat_says all (Some r) h = (h, tt)

abbrev ModsSay : Bool → Option keys.Mods → Type 0
ModsSay all None = Unit {0}
ModsSay all (Some mods) = When all (HasWords mods)

says_mods : (all : Bool) (log : List Act) → AllSay all log → ModsSay all (last_mods log)
says_mods all [] h = tt
says_mods all (acts.Mods mods ∷ older) h = h.0
says_mods all (_ ∷ older) h = says_mods all older h.1

-- both hold where all are asked
when_both : (all : Bool) (A B : Type 0) → When all A → When all B → When all (A × B)
when_both true A B h k = (h, k)
when_both false A B h k = tt

mods_say : (all : Bool) (n : ℕ) (o : Option keys.Mods) → WordSays all n → ModsSay all o →
    AllByRecursion (CanSay all) (mods_said n o)
mods_say all n None w h = tt
mods_say all n (Some m) w h = (when_both all (IsWord n) (HasWords m) w h, tt)

keyboard_says : (all : Bool) (n : ℕ) (log : List Act) → WordSays all n → AllSay all log →
    AllByRecursion (CanSay all) (keyboard_said n log)
keyboard_says all n log w h =
    each_append (CanSay all) (keymap_said (last_keymap log)) _
    (keymap_says all (last_keymap log) (says_keymap all log h))
    (each_append (CanSay all) (repeat_said (last_repeat log)) (mods_said n (last_mods log))
    (repeat_says all (last_repeat log) (says_repeat all log h))
    (mods_say all n (last_mods log) w (says_mods all log h)))

key_says : (all : Bool) (n time key state : ℕ) (goes : Goes) → WordSays all n →
    When all (IsWord time × IsWord key × IsWord state) →
    CanSayAll all (key_told n time key state goes)
key_says true n time key state (ToGrab g) w h = ((w, h.0, h.1, h.2), tt)
key_says false n time key state (ToGrab g) w h = (tt, tt)
key_says all n time key state ToShell w h = (tt, tt)
key_says all n time key state Nowhere w h = tt
key_says all n time key state Refused w h = tt

board_mods_say : (all : Bool) (n : ℕ) (mods : keys.Mods) (o : Option ℕ) → WordSays all n → When all (HasWords mods) →
    CanSayAll all (board_mods_told n mods o)
board_mods_say all n mods None w h = (tt, tt)
board_mods_say all n mods (Some g) w h = (when_both all (IsWord n) (HasWords mods) w h, tt)

grab_says : (all : Bool) (o : Option ℕ) (event : Said) → CanSay all event → CanSayAll all (to_grab o event)
grab_says all None event h = tt
grab_says all (Some g) event h = (h, tt)

-- ---- all

deleted_says : (all : Bool) (x : ℕ) (o : Option ℕ) → CanSayAll all (deleted x o)
deleted_says all x None = tt
deleted_says all x (Some p) = (tt, tt)

globals_say : (all : Bool) (registry : ℕ) (role : Role) → CanSayAll all (map (global_told registry) (offered role))
globals_say all registry roles.App =
    ((omega arith, omega arith), ((omega arith, omega arith), ((omega arith, omega arith), tt)))
globals_say all registry roles.Method =
    ((omega arith, omega arith), ((omega arith, omega arith), ((omega arith, omega arith), tt)))
globals_say all registry roles.Keyed = (
  (omega arith, omega arith),
  ((omega arith, omega arith), ((omega arith, omega arith), ((omega arith, omega arith), tt))),
)

own_says : (all : Bool) (act : Act) (log : List Act) → WordSays all (next log) → AllSay all (act ∷ log) →
    CanSayAll all (own act log)
own_says all (acts.Method p) log w h =
    either_way (AllByRecursion (CanSayEvent all)) (is_some (serving log)) (to (next log) said.Unavailable ∷ []) []
    (tt, tt) tt
own_says all (acts.Popup m s) log w h = popup_says all (acts.Popup m s ∷ log) (next log) h
own_says all (acts.Grab m) log w h =
    either_way (AllByRecursion (CanSayEvent all)) (is_at (standing (acts.Grab m ∷ log)) (next log))
    (map (to (next log)) (keyboard_said (next log) log)) []
    (each_map (CanSayEvent all) (to (next log)) (keyboard_said (next log) log) (keyboard_says all (next log) log w h.1))
    tt
own_says all (acts.Drop x) log w h = deleted_says all x (peer_of log x)
own_says all (acts.Area s rect) log w h = popups_says all (acts.Area s rect ∷ log) h
own_says all (acts.Screen size) log w h = popups_says all (acts.Screen size ∷ log) h
own_says all (acts.Commit f) log w h =
    either_way (AllByRecursion (CanSayEvent all)) (is_at (holder (acts.Commit f ∷ log)) f)
    (each_popup (acts.Commit f ∷ log)) []
    (popups_says all (acts.Commit f ∷ log) h) tt
own_says all (acts.MCommit m serial) log w h =
    either_way (AllByRecursion (CanSayEvent all)) (fresh (acts.MCommit m serial) log)
    (to_holder (acts.MCommit m serial) log (holder log)) []
    (batch_says all m serial log (holder log) h.1) tt
own_says all (acts.Key time key state) log w h = key_says all (next log) time key state (key_route log key state) w h.0
own_says all (acts.Mods mods) log w h =
    grab_says all (standing log) (said.Mods (next log) mods) (when_both all (IsWord (next log)) (HasWords mods) w h.0)
own_says all (acts.Keymap keymap) log w h = grab_says all (standing log) (said.Keymap keymap) h.0
own_says all (acts.Repeat repeat) log w h = grab_says all (standing log) (said.Repeat repeat) h.0
own_says all (acts.VKey v time key state) log w h =
    key_says all (next log) time key state (board_route log v key state) w h.0
own_says all (acts.VMods v mods) log w h = board_mods_say all (next log) mods (grab_for log v) w h.0
own_says all (acts.Registry p role) log w h = globals_say all (next log) role
own_says all (acts.Sync p) log w h = (omega arith, (tt, tt))
own_says all (acts.Seat p) log w h = (omega arith, tt)
own_says all (acts.Bad p fault x) log w h = (tt, tt)
own_says all _ log w h = tt

by_says : (all : Bool) (act : Act) (log : List Act) → WordSays all (next log) → AllSay all (act ∷ log) →
    CanSayAll all (told_by act log)
by_says all act log w h =
    each_append (CanSayEvent all) (leaves act log) _ (leaves_says all act log)
    (each_append (CanSayEvent all) (to_method act log (serving (act ∷ log))) _
    (method_says all act log (serving (act ∷ log)) h)
    (each_append (CanSayEvent all) (enters act log) (own act log) (enters_says all act log) (own_says all act log w h)))

-- each thing that an act tells can be said where the acts can, and the act's number
pub told_says : (all : Bool) (act : Act) (acts : List Act) → When all (IsWord (next (history acts))) →
    AllByRecursion (Says all) (act ∷ acts) →
    AllByRecursion (CanSayEvent all) (told act acts)
told_says all act acts w h =
    by_says all (cleaned act (history acts)) (history acts) w
    (says_if all (is_live act (history acts)) act h.0, says_history all acts h.1)
