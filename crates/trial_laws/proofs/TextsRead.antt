-- The texts of events that clients hear are texts of the protocol, so they are of bytes.
use Rattle.std.proofs.Common.{◌≡◌, ℕ, ℤ, ◌-◌, true, cond, ltb, eqb, ◌&&◌, get_or, List, [], ◌∷◌, length, take, drop, Option, Some, None, Result, Ok, Err, refl, sym, ap, subst, inl, inr}
use Rattle.std.specs.List.{AllByRecursion}
use Rattle.std.proofs.lemmas.Bool.{and_parts}
use Rattle.std.proofs.lemmas.Option.{cond_some}
use Rattle.wl_wire.specs.Texts.{is_text}
use Rattle.wl_wire.specs.Messages.{id_of, opcode_of, body_of}
use Rattle.wl_wire.specs.Reading.{◌>>=◌, padded, word_at, int_at, text_at as text_behind, string_behind, string_at}
use Rattle.wl_wire.proofs.ArgumentsReadBack.{guard, some_is, bound, chosen}
use Rattle.wl_proto.specs.declared.interface.Interface.{Interface}
use Rattle.wl_proto.specs.declared.table.Kind.{Kind}
use Rattle.wl_proto.specs.declared.table.Kind.TheVariants.{Uint, Int, Object, NewId, Text, TextOrNull, Descriptor}
use Rattle.wl_proto.specs.declared.refuse.Refuse.{Refuse}
use Rattle.wl_proto.specs.declared.event.Event.{Event}
use Rattle.wl_proto.specs.declared.event.Event.TheVariants as events
use Rattle.wl_proto.specs.Grammar.{Value, word, signed, text, token, string_value}
use Rattle.wl_proto.specs.Rows.{Message, event_kinds, event_message}
use Rattle.wl_proto.specs.Reading.{first_of, text_at, value_at, values_at, event_reading}
use Rattle.client_side.specs.Events.{object_in}
use Rattle.trial_run.specs.Hearing.{event_read, event_to, event_in}
use Rattle.trial_run.proofs.EventsBack.{event_back}
use Rattle.broker_telling.proofs.ValuesSound.{reads_values}
use Rattle.trial_laws.proofs.EachByte.{text_of_bytes}
use Rattle.trial_laws.proofs.FieldBytes.{IsByteEvent}

-- ---- the values that are read

abbrev HasText : Value → Type 0
HasText (text t) = is_text t ≡ true
HasText _ = Unit {0}

behind_text : (len : ℕ) (bytes t rest : List ℕ) → text_behind len bytes ≡ Some (t, rest) → is_text t ≡ true
unfolding text_behind
behind_text len bytes t rest e =
    let k = len - 1 in
    let body = take k bytes in
    let test = eqb (get_or bytes k 0) 0 && is_text body in
    let g = guard (ltb (length bytes) (padded len)) (cond test (Some (body, drop (padded len) bytes)) None)
    (t, rest) e in
    let (passed, pair) = cond_some test (body, drop (padded len) bytes) (t, rest) g.1 in
    subst (λ (l : List ℕ). is_text l ≡ true) (ap (λ (p : List ℕ × List ℕ). p.0) pair)
    (and_parts (eqb (get_or bytes k 0) 0) (is_text body) passed).1

abbrev kept : List ℕ × List ℕ → Option (Option (List ℕ) × List ℕ)
kept t = Some (Some t.0, t.1)

string_text : (bytes : List ℕ) (s : Option (List ℕ)) (rest : List ℕ) → string_at bytes ≡ Some (s, rest) →
    HasText (string_value s)
unfolding string_at string_behind
string_text bytes s rest e =
    let (w, was, then) = bound (word_at bytes) (λ w. string_behind w.0 w.1) (s, rest) e in
    elim (chosen (eqb w.0 0) (Some (None, w.1)) (text_behind w.0 w.1 >>= kept) (Some (s, rest)) then) [
      | inl h ↦
          subst (λ (p : Option (List ℕ) × List ℕ). HasText (string_value p.0)) (some_is (None, w.1) (s, rest) h.1) tt
      | inr h ↦
          (let (t, found, made) = bound (text_behind w.0 w.1) kept (s, rest) h.1 in
          subst (λ (p : Option (List ℕ) × List ℕ). HasText (string_value p.0)) (some_is (Some t.0, t.1) (s, rest) made)
          (behind_text w.0 w.1 t.0 t.1 found))
    ]

abbrev At : Type 0
At = Value × List ℕ

abbrev as_word : ℕ × List ℕ → Option At
as_word w = Some (word w.0, w.1)

abbrev as_signed : ℤ × List ℕ → Option At
as_signed w = Some (signed w.0, w.1)

abbrev as_text : List ℕ × List ℕ → Option At
as_text t = Some (text t.0, t.1)

abbrev as_string : Option (List ℕ) × List ℕ → Option At
as_string s = Some (string_value s.0, s.1)

abbrev not_null : Option (List ℕ) × List ℕ → Option (List ℕ × List ℕ)
not_null s = s.0 >>= (λ t. Some (t, s.1))

some_text : (o : Option (List ℕ)) (left t rest : List ℕ) → not_null (o, left) ≡ Some (t, rest) →
    HasText (string_value o) → HasText (text t)
some_text None left t rest e h = absurd cc
some_text (Some u) left t rest e h =
    subst (λ (p : List ℕ × List ℕ). is_text p.0 ≡ true) (some_is (u, left) (t, rest) e) h

text_at_text : (bytes t rest : List ℕ) → text_at bytes ≡ Some (t, rest) → HasText (text t)
unfolding text_at
text_at_text bytes t rest e =
    let (s, was, made) = bound (string_at bytes) not_null (t, rest) e in
    some_text s.0 s.1 t rest made (string_text bytes s.0 s.1 was)

word_text : (bytes : List ℕ) (v : Value) (rest : List ℕ) → (word_at bytes >>= as_word) ≡ Some (v, rest) → HasText v
word_text bytes v rest e =
    let (w, was, made) = bound (word_at bytes) as_word (v, rest) e in
    subst (λ (p : At). HasText p.0) (some_is (word w.0, w.1) (v, rest) made) tt

value_text : (tokens : List ℕ) (k : Kind) (bytes : List ℕ) (v : Value) (rest : List ℕ) →
    value_at tokens k bytes ≡ Some (v, rest) → HasText v
value_text tokens Uint bytes v rest e = word_text bytes v rest e
value_text tokens Object bytes v rest e = word_text bytes v rest e
value_text tokens NewId bytes v rest e = word_text bytes v rest e
value_text tokens Int bytes v rest e =
    let (w, was, made) = bound (int_at bytes) as_signed (v, rest) e in
    subst (λ (p : At). HasText p.0) (some_is (signed w.0, w.1) (v, rest) made) tt
value_text tokens Text bytes v rest e =
    let (t, was, made) = bound (text_at bytes) as_text (v, rest) e in
    subst (λ (p : At). HasText p.0) (some_is (text t.0, t.1) (v, rest) made) (text_at_text bytes t.0 t.1 was)
value_text tokens TextOrNull bytes v rest e =
    let (s, was, made) = bound (string_at bytes) as_string (v, rest) e in
    subst (λ (p : At). HasText p.0) (some_is (string_value s.0, s.1) (v, rest) made) (string_text bytes s.0 s.1 was)
value_text tokens Descriptor bytes v rest e =
    let f : ℕ → Option At = λ t. Some (token t, bytes) in
    let (t, was, made) = bound (first_of tokens) f (v, rest) e in
    subst (λ (p : At). HasText p.0) (some_is (token t, bytes) (v, rest) made) tt

values_text : (tokens : List ℕ) (ks : List Kind) (bytes : List ℕ) (vs : List Value) →
    values_at tokens ks bytes ≡ Some vs → AllByRecursion HasText vs
values_text tokens [] bytes vs e =
    let (none, is) = cond_some (eqb (length bytes) 0) [] vs e in
    subst (λ (l : List Value). AllByRecursion HasText l) is tt
values_text tokens (k ∷ ks) bytes vs e =
    let more : At → Option (List Value) = λ v. values_at tokens ks v.1 >>= (λ ws. Some (v.0 ∷ ws)) in
    let (v, was, then) = bound (value_at tokens k bytes) more vs e in
    let with : List Value → Option (List Value) = λ ws. Some (v.0 ∷ ws) in
    let (ws, were, made) = bound (values_at tokens ks v.1) with vs then in
    subst (λ (l : List Value). AllByRecursion HasText l) (some_is (v.0 ∷ ws) vs made)
    (value_text tokens k bytes v.0 v.1 was, values_text tokens ks v.1 ws were)

event_texts : (i : Interface) (n : ℕ) (tokens body : List ℕ) (m : Message) → event_reading i n tokens body ≡ Ok m →
    AllByRecursion HasText m.values
unfolding event_reading
event_texts i n tokens body m e =
    reads_values (λ (vs : List Value). AllByRecursion HasText vs) event_kinds i n tokens body m
    (λ ks vs r q. values_text tokens ks body vs q) e

-- ---- events

byte_event : (e : Event) → AllByRecursion HasText (event_message e).values → IsByteEvent e
byte_event (events.CommitString None) h = tt
byte_event (events.CommitString (Some t)) h = text_of_bytes t.now h.0
byte_event _ h = tt

-- the event that a message spells has a string of bytes
pub heard_event : (objects : List Interface) (m : List ℕ) (e : Event) → event_in objects m ≡ Some e → IsByteEvent e
heard_event objects m e h = by (object_in objects (id_of m)) h
  where
    read : (r : Result Message Refuse) → ((x : Message) → r ≡ Ok x → AllByRecursion HasText x.values) →
        event_read r ≡ Some e → IsByteEvent e
    read (Err f) t k = cc
    read (Ok x) t k =
        byte_event e (subst (λ (y : Message). AllByRecursion HasText y.values) (sym (event_back x e k)) (t x refl))

    by : (o : Option Interface) → event_to o m ≡ Some e → IsByteEvent e
    by None k = cc
    by (Some i) k =
        read (event_reading i (opcode_of m) [] (body_of m)) (λ x r. event_texts i (opcode_of m) [] (body_of m) x r) k
