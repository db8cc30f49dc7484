-- What a field's client sends is one of bytes, where its edits and the texts that it hears are.
use Rattle.std.proofs.Common.{ℕ, ◌+◌, ◌-◌, Bool, true, false, List, [], ◌∷◌, ◌++◌, length, take, drop}
use Rattle.std.specs.Prelude.{if◌then◌else◌, nat_le, take_while}
use Rattle.std.specs.List.{AllByRecursion, list_all}
use Rattle.std.specs.Option.{option_copied}
use Rattle.wl_proto.specs.declared.event.Event.{Event}
use Rattle.wl_proto.specs.declared.event.Event.TheVariants as events
use Rattle.trial_field.specs.Characters.{goes_on, first_char, last_char}
use Rattle.trial_field.specs.Log.{Batch, Entry, inserted, went_left, went_right, rubbed, done}
use Rattle.trial_field.specs.FieldText.{FieldText, text_limit, whole, insert, can_delete, delete, edit_by, after}
use Rattle.client_side.specs.Messages.{Sent, spelled}
use Rattle.client_side.specs.Happenings.{Happening, edited, batch, entered, left as went_out}
use Rattle.client_side.specs.Window.{window_begin, window_of}
use Rattle.client_side.specs.FieldSends.{surrounding, change_sent, enable_sent}
use Rattle.client_side.specs.FieldLog.{Field, text_after, sent_for}
use Rattle.client_side.specs.FieldState.{State, happens, text_or_empty, after_event}
use Rattle.trial_laws.proofs.EachByte.{EachByte, both_bytes, take_bytes, drop_bytes, HasByteText, message_each}

-- ---- texts

while_bytes : (p : ℕ → Bool) (xs : List ℕ) → EachByte xs → EachByte (take_while p xs)
while_bytes p xs h = take_bytes _ xs h

first_bytes : (xs : List ℕ) → EachByte xs → EachByte (first_char xs)
first_bytes [] h = tt
first_bytes (x ∷ xs) h = (h.0, while_bytes goes_on xs h.1)

last_bytes : (xs : List ℕ) → EachByte xs → EachByte (last_char xs)
last_bytes [] h = tt
last_bytes (x ∷ xs) h = by (list_all goes_on xs) (last_bytes xs h.1)
  where
    by : (b : Bool) → EachByte (last_char xs) → EachByte (if b then x ∷ xs else last_char xs)
    by true k = h
    by false k = k

abbrev pub AreTextBytes : FieldText → Type 0
AreTextBytes t = EachByte t.before × EachByte t.behind

where_bytes : (b : Bool) (s t : FieldText) → AreTextBytes s → AreTextBytes t → AreTextBytes (if b then s else t)
where_bytes true s t h k = h
where_bytes false s t h k = k

insert_bytes : (text : List ℕ) (t : FieldText) → EachByte text → AreTextBytes t → AreTextBytes (insert text t)
insert_bytes text t e h =
    where_bytes (nat_le (length (whole t) + length text) text_limit) (record t { before = t.before ++ text }) t
    (both_bytes t.before text h.0 e, h.1) h

delete_bytes : (before behind : ℕ) (t : FieldText) → AreTextBytes t → AreTextBytes (delete before behind t)
delete_bytes before behind t h =
    where_bytes (can_delete before behind t)
    (record t { before = take (length t.before - before) t.before; behind = drop behind t.behind }) t
    (take_bytes (length t.before - before) t.before h.0, drop_bytes behind t.behind h.1) h

edit_bytes : (b : Batch) (t : FieldText) → EachByte b.string → AreTextBytes t → AreTextBytes (edit_by b t)
edit_bytes b t e h =
    let i = insert_bytes b.string (delete b.before b.after (record t { preedit = [] })) e
    (delete_bytes b.before b.after (record t { preedit = [] }) (h.0, h.1)) in
    (i.0, i.1)

-- the texts of an edit are of bytes
abbrev pub IsByteEdit : Entry → Type 0
IsByteEdit (inserted text) = EachByte text
IsByteEdit (done b) = EachByte b.string
IsByteEdit _ = Unit {0}

after_bytes : (e : Entry) (t : FieldText) → IsByteEdit e → AreTextBytes t → AreTextBytes (after e t)
after_bytes (inserted text) t e h = insert_bytes text t e h
after_bytes went_left t e h =
    (take_bytes _ t.before h.0, both_bytes (last_char t.before) t.behind (last_bytes t.before h.0) h.1)
after_bytes went_right t e h =
    (both_bytes t.before (first_char t.behind) h.0 (first_bytes t.behind h.1), drop_bytes _ t.behind h.1)
after_bytes rubbed t e h = (take_bytes _ t.before h.0, h.1)
after_bytes (done b) t e h = edit_bytes b t e h

abbrev pub IsByteHappening : Happening → Type 0
IsByteHappening (edited edit) = IsByteEdit edit
IsByteHappening (batch b serial) = EachByte b.string
IsByteHappening _ = Unit {0}

text_bytes : (h : Happening) (t : FieldText) → IsByteHappening h → AreTextBytes t → AreTextBytes (text_after h t)
text_bytes (edited edit) t e k = after_bytes edit t e k
text_bytes (batch b serial) t e k = edit_bytes b t e k
text_bytes entered t e k = k
text_bytes went_out t e k = (k.0, k.1)

-- ---- what is sent

abbrev pub AreByteSent : List Sent → Type 0
AreByteSent ss = AllByRecursion (λ s. AllByRecursion HasByteText s.message.values) ss

pub spelled_bytes : (ss : List Sent) → AreByteSent ss → EachByte (spelled ss)
spelled_bytes [] h = tt
spelled_bytes (s ∷ more) h = both_bytes _ (spelled more) (message_each s.object s.message h.0) (spelled_bytes more h.1)

window_bytes : (t : FieldText) → AreTextBytes t → EachByte (window_of t)
window_bytes t h =
    take_bytes _ (drop (window_begin (whole t) (length t.before)) (whole t))
    (drop_bytes (window_begin (whole t) (length t.before)) (whole t) (both_bytes t.before t.behind h.0 h.1))

surrounding_bytes : (t : FieldText) → AreTextBytes t → AllByRecursion HasByteText (surrounding t).message.values
unfolding surrounding
surrounding_bytes t h = (window_bytes t h, (tt, (tt, tt)))

change_bytes : (cause : ℕ) (t : FieldText) → AreTextBytes t → AreByteSent (change_sent cause t)
change_bytes cause t h = (surrounding_bytes t h, ((tt, tt), (tt, tt)))

enable_bytes : (t : FieldText) → AreTextBytes t → AreByteSent (enable_sent t)
enable_bytes t h = (tt, (surrounding_bytes t h, ((tt, (tt, tt)), ((tt, (tt, (tt, (tt, tt)))), (tt, tt)))))

where_sent : (b : Bool) (ss : List Sent) → AreByteSent ss → AreByteSent (if b then ss else [])
where_sent true ss h = h
where_sent false ss h = tt

for_bytes : (h : Happening) (f : Field) → IsByteHappening h → AreTextBytes f.text → AreByteSent (sent_for h f)
for_bytes (edited edit) f e k = where_sent _ (change_sent 1 (after edit f.text))
    (change_bytes 1 (after edit f.text) (after_bytes edit f.text e k))
for_bytes (batch b serial) f e k =
    where_sent _ (change_sent 0 (after (done b) f.text))
    (change_bytes 0 (after (done b) f.text) (edit_bytes b f.text e k))
for_bytes entered f e k = enable_bytes f.text k
for_bytes went_out f e k = tt

-- ---- the client

pub record AreFieldBytes (s : State) : Type 0 where
  pub text : AreTextBytes s.field.text
  pub pending : EachByte s.pending.string
  pub out : EachByte s.to_send

pub happens_bytes : (h : Happening) (s : State) → IsByteHappening h → AreFieldBytes s → AreFieldBytes (happens h s)
happens_bytes h s e k = record {
  text = text_bytes h s.field.text e k.text;
  pending = k.pending;
  out = both_bytes s.to_send (spelled (sent_for h s.field)) k.out
      (spelled_bytes (sent_for h s.field) (for_bytes h s.field e k.text));
}

-- the string of an event is of bytes
abbrev pub IsByteEvent : Event → Type 0
IsByteEvent (events.CommitString t) = EachByte (text_or_empty (option_copied t))
IsByteEvent _ = Unit {0}

pub event_bytes : (event : Event) (s : State) → IsByteEvent event → AreFieldBytes s →
    AreFieldBytes (after_event event s)
event_bytes (events.Enter surface) s e k = happens_bytes entered s tt k
event_bytes (events.Leave surface) s e k = happens_bytes went_out s tt k
event_bytes (events.PreeditString t begin end) s e k = record { text = k.text; pending = k.pending; out = k.out }
event_bytes (events.CommitString t) s e k = record { text = k.text; pending = e; out = k.out }
event_bytes (events.DeleteSurroundingText before behind) s e k =
    record { text = k.text; pending = k.pending; out = k.out }
event_bytes (events.TextInputDone serial) s e k =
    (let h = happens_bytes (batch s.pending serial) s k.pending k in
    record { text = h.text; pending = tt; out = h.out })
event_bytes _ s e k = k
