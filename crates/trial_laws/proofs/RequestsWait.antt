-- What a field's client has to send, once its set-up is sent, are short requests to its text input.
use Rattle.std.proofs.Common.{◌≡◌, ℕ, zero, suc, ◌+◌, ◌-◌, ◌^◌, ◌≤◌, ◌<◌, min, Bool, true, false, List, [], ◌∷◌, ◌++◌, length, drop, Option, Some, None, refl, sym, ap, subst, ◌∙◌, arith, inl, inr}
use Rattle.std.specs.Prelude.{if◌then◌else◌}
use Rattle.std.proofs.lemmas.List.{length-take}
use Rattle.wl_wire.specs.Messages.{IsMessage, id_of, messages}
use Rattle.wl_proto.specs.declared.event.Event.{Event}
use Rattle.wl_proto.specs.declared.event.Event.TheVariants as events
use Rattle.wl_proto.specs.Spelling.{message_len, message_bytes}
use Rattle.wl_proto.proofs.WrittenIsWhole.{written_whole}
use Rattle.trial_field.specs.Characters.{is_boundary}
use Rattle.trial_field.specs.FieldText.{FieldText, whole}
use Rattle.client_side.specs.Messages.{Sent, spelled}
use Rattle.client_side.specs.Events.{field_objects}
use Rattle.client_side.specs.Client.{Client}
use Rattle.client_side.specs.Happenings.{Happening, edited, batch, entered, left}
use Rattle.client_side.specs.Window.{last_boundary, window_begin, window_end, window_of}
use Rattle.client_side.specs.FieldSends.{surrounding, change_sent, enable_sent}
use Rattle.client_side.specs.FieldLog.{Field, sent_for}
use Rattle.client_side.specs.FieldState.{State, happens, after_event}
use Rattle.client_side.proofs.SpelledInTurn.{spelled-append}
use Rattle.trial_run.specs.Hearing.{event_in, heard_next, heard, bytes_heard, received}
use Rattle.trial_run.proofs.FirstMessages.{first_is}
use Rattle.trial_laws.proofs.PhasesKeep.{IsAmong}

-- ---- messages that are spelled

-- the request is short
pub record IsShortSent (s : Sent) : Type 0 where
  pub object : s.object < 2 ^ 32
  pub opcode : s.message.opcode < 2 ^ 16
  pub size : message_len s.message ≤ 4096

abbrev pub AreShortSent : List Sent → Type 0
AreShortSent [] = Unit {0}
AreShortSent (s ∷ more) = IsShortSent s × AreShortSent more

abbrev pub bytes_of : Sent → List ℕ
bytes_of s = message_bytes s.object s.message

abbrev pub bytes_each : List Sent → List (List ℕ)
bytes_each [] = []
bytes_each (s ∷ more) = bytes_of s ∷ bytes_each more

pub sent_whole : (s : Sent) → IsShortSent s → IsMessage (bytes_of s)
sent_whole s h = (written_whole s.object s.message h.object h.opcode h.size).0

pub no_messages : messages [] ≡ []
unfolding messages
no_messages = refl

-- they are found again
pub messages_spelled : (ss : List Sent) → AreShortSent ss → messages (spelled ss) ≡ bytes_each ss
messages_spelled [] h = no_messages
messages_spelled (s ∷ more) h =
    first_is (bytes_of s) (spelled more) (sent_whole s h.0)
    ∙ ap (λ (ms : List (List ℕ)). bytes_of s ∷ ms) (messages_spelled more h.1)

-- ---- requests to the text input

pub record IsToInput (s : Sent) : Type 0 where
  pub object : s.object ≡ 7
  pub short : IsShortSent s

abbrev pub AreToInput : List Sent → Type 0
AreToInput [] = Unit {0}
AreToInput (s ∷ more) = IsToInput s × AreToInput more

are_short : (ss : List Sent) → AreToInput ss → AreShortSent ss
are_short [] h = tt
are_short (s ∷ more) h = (h.0.short, are_short more h.1)

pub inputs-append : (a b : List Sent) → AreToInput a → AreToInput b → AreToInput (a ++ b)
inputs-append [] b h k = k
inputs-append (s ∷ a) b h k = (h.0, inputs-append a b h.1 k)

-- the bytes are such requests
pub record AreInputs (bytes : List ℕ) : Type 0 where
  pub requests : List Sent
  pub is : bytes ≡ spelled requests
  pub each : AreToInput requests

pub none_wait : AreInputs []
none_wait = record { requests = []; is = refl; each = tt }

among_inputs : (ss : List Sent) (m : List ℕ) → AreToInput ss → IsAmong (bytes_each ss) m → id_of m ≡ 7
among_inputs [] m h i = absurd i
among_inputs (s ∷ more) m h (inl e) =
    ap id_of (sym e)
    ∙ (written_whole s.object s.message h.0.short.object h.0.short.opcode h.0.short.size).1 ∙ h.0.object
among_inputs (s ∷ more) m h (inr i) = among_inputs more m h.1 i

-- each message goes to the text input
pub waits_for_input : (bytes m : List ℕ) → AreInputs bytes → IsAmong (messages bytes) m → id_of m ≡ 7
waits_for_input bytes m a i =
    among_inputs a.requests m a.each
    (subst (λ (ms : List (List ℕ)). IsAmong ms m)
    (ap messages a.is ∙ messages_spelled a.requests (are_short a.requests a.each)) i)

-- ---- what a field sends

last_within : (text : List ℕ) (n : ℕ) → last_boundary text n ≤ n
last_within text zero = omega arith
last_within text (suc n) = by (is_boundary text (suc n)) (last_within text n)
  where
    by : (b : Bool) → last_boundary text n ≤ n → (if b then suc n else last_boundary text n) ≤ suc n
    by true h = omega arith
    by false h = omega arith

end_within : (text : List ℕ) (begin : ℕ) → window_end text begin ≤ begin + 4000
unfolding window_end
end_within text begin = (let l = last_within text (min (begin + 4000) (length text)) in omega arith)

window_short : (t : FieldText) → length (window_of t) ≤ 4000
window_short t =
    let begin : ℕ = window_begin (whole t) (length t.before) in
    let end : ℕ = window_end (whole t) begin in
    let e : end ≤ begin + 4000 = end_within (whole t) begin in
    let l = length-take (end - begin) (drop begin (whole t)) in
    omega arith

surrounding_to : (t : FieldText) → IsToInput (surrounding t)
unfolding surrounding
surrounding_to t = (let w = window_short t in record {
  object = refl;
  short = record { object = omega arith; opcode = omega arith; size = omega arith };
})

change_to : (cause : ℕ) (t : FieldText) → AreToInput (change_sent cause t)
change_to cause t = (
  surrounding_to t,
  (
    record { object = refl; short = record { object = omega arith; opcode = omega arith; size = omega arith } },
    (record { object = refl; short = record { object = omega arith; opcode = omega arith; size = omega arith } }, tt),
  ),
)

enable_to : (t : FieldText) → AreToInput (enable_sent t)
enable_to t = (
  record { object = refl; short = record { object = omega arith; opcode = omega arith; size = omega arith } },
  (
    surrounding_to t,
    (
      record { object = refl; short = record { object = omega arith; opcode = omega arith; size = omega arith } },
      (
        record { object = refl; short = record { object = omega arith; opcode = omega arith; size = omega arith } },
        (
          record { object = refl; short = record { object = omega arith; opcode = omega arith; size = omega arith } },
          tt,
        ),
      ),
    ),
  ),
)

where_sent : (b : Bool) (ss : List Sent) → AreToInput ss → AreToInput (if b then ss else [])
where_sent true ss h = h
where_sent false ss h = tt

pub for_to : (h : Happening) (f : Field) → AreToInput (sent_for h f)
for_to (edited edit) f = where_sent _ (change_sent 1 _) (change_to 1 _)
for_to (batch edits serial) f = where_sent _ (change_sent 0 _) (change_to 0 _)
for_to entered f = enable_to f.text
for_to left f = tt

-- whatever happens
pub happens_waits : (h : Happening) (s : State) → AreInputs s.to_send → AreInputs (happens h s).to_send
happens_waits h s a = record {
  requests = a.requests ++ sent_for h s.field;
  is = ap (λ (b : List ℕ). b ++ spelled (sent_for h s.field)) a.is
      ∙ sym (spelled-append a.requests (sent_for h s.field));
  each = inputs-append a.requests (sent_for h s.field) a.each (for_to h s.field);
}

event_waits : (event : Event) (s : State) → AreInputs s.to_send → AreInputs (after_event event s).to_send
event_waits (events.Enter surface) s a = happens_waits entered s a
event_waits (events.Leave surface) s a = happens_waits left s a
event_waits (events.PreeditString t begin end) s a = a
event_waits (events.CommitString t) s a = a
event_waits (events.DeleteSurroundingText before behind) s a = a
event_waits (events.TextInputDone serial) s a = happens_waits (batch s.pending serial) s a
event_waits _ s a = a

next_waits : (o : Option Event) (ms : List (List ℕ)) (s : State) →
    ((u : State) → AreInputs u.to_send → AreInputs (heard after_event field_objects ms u).state.to_send) →
    AreInputs s.to_send → AreInputs (heard_next after_event o s (heard after_event field_objects ms)).state.to_send
next_waits None ms s k a = a
next_waits (Some event) ms s k a = k (after_event event s) (event_waits event s a)

heard_waits : (ms : List (List ℕ)) (s : State) → AreInputs s.to_send →
    AreInputs (heard after_event field_objects ms s).state.to_send
heard_waits [] s a = a
heard_waits (m ∷ ms) s a = next_waits (event_in field_objects m) ms s (λ u b. heard_waits ms u b) a

-- and whatever piece comes
pub received_waits : (piece : List ℕ) (c : Client State) → AreInputs c.state.to_send →
    AreInputs (received after_event field_objects piece c).state.to_send
unfolding received
received_waits piece c a = by c.is_bad
  where
    by : (b : Bool) →
        AreInputs (if b then c else bytes_heard after_event field_objects (c.held ++ piece) c.state).state.to_send
    by true = a
    by false = heard_waits (messages (c.held ++ piece)) c.state a
