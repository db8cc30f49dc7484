-- What is computed of two streams is whether one is like the other.
use Rattle.std.proofs.Common.{◌≡◌, ℕ, Bool, true, false, List, [], ◌∷◌, ◌++◌, Option, Some, None, Result, Ok, Err, refl, sym, ap, subst, ◌∙◌}
use Rattle.std.specs.Prelude.{◌==◌, ◌&&◌, if◌then◌else◌, is_none, IsOk}
use Rattle.std.specs.List.{AllByRecursion}
use Rattle.std.specs.Bool.{Decides}
use Rattle.std.specs.Ordering.{int_eq}
use Rattle.std.specs.Str.{bytes_eq}
use Rattle.std.proofs.lemmas.Bool.Decides.{Decides-and, Decides-like, Decides-eqb, Decides-int_eq}
use Rattle.std.proofs.lemmas.Slice.Eq.{bytes_eq-Decides}
use Rattle.wl_proto.specs.Messages.{id_of, opcode_of, body_of, messages, bad_size}
use Rattle.wl_proto.specs.declared.interface.Interface.{Interface}
use Rattle.wl_proto.specs.declared.interface.Interface.TheVariants.{TextInput}
use Rattle.wl_proto.specs.declared.refuse.Refuse.{Refuse}
use Rattle.wl_proto.specs.declared.table.Kind.{Kind}
use Rattle.wl_proto.specs.Grammar.{Value, word, signed, text, null, token}
use Rattle.wl_proto.specs.Rows.{Message, message, event_kinds}
use Rattle.wl_proto.specs.Reading.{by_row, all_read, event_reading, values_at}
use Rattle.broker_model.specs.declared.journal.Entry.{Entry}
use Rattle.broker_model.specs.Ids.{Joined}
use Rattle.audit_fields.specs.Heard.{Heard, heard, heard_in, is_field_opcode, IsWell, IsLike}
use Rattle.audit_fields.specs.Gathering.{is_app}
use Rattle.audit_run.specs.Judged.{IsGoodFor, journal_of, owed, peer_of, sent}
use Rattle.audit_run.specs.Verdict.{same_value, same_values, is_text_input, same_message, same_reading, is_front, is_like, is_good_for, GoodIsComputed}

both : (a b : Bool) → (a && b) ≡ true → (a ≡ true) × (b ≡ true)
both true true e = (refl, refl)
both true false e = cc
both false b e = cc

all_true : (a b : Bool) → a ≡ true → b ≡ true → (a && b) ≡ true
all_true true b h k = k
all_true false b h k = h

-- ---- values

value_decides : (v w : Value) → Decides (same_value v w) (v ≡ w)
value_decides (word a) (word b) = Decides-like (a == b) (λ e. ap word e) (λ e. cc) (Decides-eqb a b)
value_decides (signed a) (signed b) = Decides-like (int_eq a b) (λ e. ap signed e) (λ e. cc) (Decides-int_eq a b)
value_decides (text a) (text b) = Decides-like (bytes_eq a b) (λ e. ap text e) (λ e. cc) (bytes_eq-Decides a b)
value_decides null null = (λ e. refl, λ e. refl)
value_decides (token a) (token b) = Decides-like (a == b) (λ e. ap token e) (λ e. cc) (Decides-eqb a b)
value_decides _ _ = (λ e. cc, λ e. cc)

values_decide : (vs ws : List Value) → Decides (same_values vs ws) (vs ≡ ws)
values_decide [] [] = (λ e. refl, λ e. refl)
values_decide [] (w ∷ ws) = (λ e. cc, λ e. cc)
values_decide (v ∷ vs) [] = (λ e. cc, λ e. cc)
values_decide (v ∷ vs) (w ∷ ws) =
    Decides-like (same_value v w && same_values vs ws) joins parts
    (Decides-and (same_value v w) (same_values vs ws) (value_decides v w) (values_decide vs ws))
  where
    joins : (v ≡ w) × (vs ≡ ws) → v ∷ vs ≡ w ∷ ws
    joins p = (let a = p.0 in let b = p.1 in cc)

    parts : v ∷ vs ≡ w ∷ ws → (v ≡ w) × (vs ≡ ws)
    parts e = (cc, cc)

-- ---- messages to a text input

text_input : (i : Interface) → is_text_input i ≡ true → i ≡ TextInput
text_input TextInput e = refl
text_input _ e = cc

same_parts : (i j : Interface) (a b : ℕ) (vs ws : List Value) → i ≡ j → a ≡ b → vs ≡ ws →
    message i a vs ≡ message j b ws
same_parts i j a b vs ws h k l = cc

message_same : (m n : Message) → same_message m n ≡ true → m ≡ n
message_same m n e =
    let parts = both (is_text_input m.interface && is_text_input n.interface)
    ((m.opcode == n.opcode) && same_values m.values n.values) e in
    let kinds = both (is_text_input m.interface) (is_text_input n.interface) parts.0 in
    let rest = both (m.opcode == n.opcode) (same_values m.values n.values) parts.1 in
    same_parts m.interface n.interface m.opcode n.opcode m.values n.values
    (text_input m.interface kinds.0 ∙ sym (text_input n.interface kinds.1))
    ((Decides-eqb m.opcode n.opcode).0 rest.0) ((values_decide m.values n.values).0 rest.1)

message_self : (m : Message) → is_text_input m.interface ≡ true → same_message m m ≡ true
message_self m t =
    all_true (is_text_input m.interface && is_text_input m.interface)
    ((m.opcode == m.opcode) && same_values m.values m.values)
    (all_true (is_text_input m.interface) (is_text_input m.interface) t t)
    (all_true (m.opcode == m.opcode) (same_values m.values m.values) ((Decides-eqb m.opcode m.opcode).1 refl)
    ((values_decide m.values m.values).1 refl))

-- what is read of a text input's event is one
abbrev ToTextInput : Result Message Refuse → Type 0
ToTextInput (Ok m) = is_text_input m.interface ≡ true
ToTextInput (Err why) = Unit {0}

read_by : (n : ℕ) (o : Option (List Value)) → ToTextInput (all_read TextInput n o)
read_by n (Some vs) = refl
read_by n None = tt

row_by : (n : ℕ) (body : List ℕ) (o : Option (List Kind)) → ToTextInput (by_row TextInput n [] body o)
row_by n body (Some ks) = read_by n (values_at [] ks body)
row_by n body None = tt

reading_by : (n : ℕ) (body : List ℕ) → ToTextInput (event_reading TextInput n [] body)
unfolding event_reading
reading_by n body = row_by n body (event_kinds TextInput n)

abbrev AreToTextInput : List Heard → Type 0
AreToTextInput hs = AllByRecursion (λ (h : Heard). ToTextInput h.reading) hs

heard_each : (ms : List (List ℕ)) → AreToTextInput (heard_in ms)
heard_each [] = tt
heard_each (m ∷ ms) = by (is_field_opcode (opcode_of m)) (heard_each ms)
  where
    by : (b : Bool) → AreToTextInput (heard_in ms) →
        AreToTextInput ((if b then record {
          id = id_of m;
          reading = event_reading TextInput (opcode_of m) [] (body_of m);
        } ∷ [] else []) ++ heard_in ms)
    by true more = (reading_by (opcode_of m) (body_of m), more)
    by false more = more

heard_all : (bytes : List ℕ) → AreToTextInput (heard bytes)
unfolding heard
heard_all bytes = heard_each (messages bytes)

-- ---- fronts

reading_same : (r s : Result Message Refuse) → same_reading r s ≡ true → IsOk r × (r ≡ s)
reading_same (Ok m) (Ok n) e = (refl, let same = message_same m n e in cc)
reading_same (Ok m) (Err why) e = cc
reading_same (Err why) s e = cc

reading_self : (r : Result Message Refuse) → IsOk r → ToTextInput r → same_reading r r ≡ true
reading_self (Ok m) h t = message_self m t
reading_self (Err why) h t = cc

record IsFrontOf (hs ts : List Heard) : Type 0 where
  well : AllByRecursion IsWell hs
  rest : List Heard
  is : ts ≡ hs ++ rest

front_is : (hs ts : List Heard) → is_front hs ts ≡ true → IsFrontOf hs ts
front_is [] ts e = record { well = tt; rest = ts; is = refl }
front_is (h ∷ hs) [] e = cc
front_is (h ∷ hs) (t ∷ ts) e =
    let parts = both (h.id == t.id) (same_reading h.reading t.reading && is_front hs ts) e in
    let more = both (same_reading h.reading t.reading) (is_front hs ts) parts.1 in
    let reads = reading_same h.reading t.reading more.0 in
    let later = front_is hs ts more.1 in
    let same : h ≡ t = by h.id t.id h.reading t.reading ((Decides-eqb h.id t.id).0 parts.0) reads.1 in
    record {
      well = (reads.0, later.well);
      rest = later.rest;
      is = (let a = later.is in cc);
    }
  where
    by : (a b : ℕ) (r s : Result Message Refuse) → a ≡ b → r ≡ s →
        (let x : Heard = record { id = a; reading = r } in x) ≡ record { id = b; reading = s }
    by a b r s i j = cc

is_front_of : (hs rest : List Heard) → AreToTextInput hs → AllByRecursion IsWell hs → is_front hs (hs ++ rest) ≡ true
is_front_of [] rest t w = refl
is_front_of (h ∷ hs) rest t w =
    all_true (h.id == h.id) (same_reading h.reading h.reading && is_front hs (hs ++ rest))
    ((Decides-eqb h.id h.id).1 refl)
    (all_true (same_reading h.reading h.reading) (is_front hs (hs ++ rest)) (reading_self h.reading w.0 t.0)
    (is_front_of hs rest t.1 w.1))

-- ---- streams

none_is : (o : Option ℕ) → is_none o ≡ true → o ≡ None
none_is None e = refl
none_is (Some n) e = cc

like_is : (told sent : List ℕ) → is_like told sent ≡ true → IsLike told sent
like_is told sent e =
    let parts = both (is_none (bad_size sent)) (is_front (heard sent) (heard told)) e in
    let front = front_is (heard sent) (heard told) parts.1 in
    record { sized = none_is (bad_size sent) parts.0; well = front.well; rest = front.rest; front = front.is }

is_like_of : (told sent : List ℕ) → IsLike told sent → is_like told sent ≡ true
is_like_of told sent l =
    all_true (is_none (bad_size sent)) (is_front (heard sent) (heard told)) (ap is_none l.sized)
    (subst (λ (ts : List Heard). is_front (heard sent) ts ≡ true) (sym l.front)
    (is_front_of (heard sent) l.rest (heard_all sent) l.well))

-- ---- lines

good_for_is : (journal : List Entry) (o : Option Joined) (all : List ℕ) → is_good_for journal o all ≡ true →
    IsGoodFor journal o all
good_for_is journal None all e = tt
good_for_is journal (Some peer) all e = by (is_app peer.role) e
  where
    by : (b : Bool) → (if b then is_like (owed journal peer) all else true) ≡ true → b ≡ true →
        IsLike (owed journal peer) all
    by true e is = like_is (owed journal peer) all e
    by false e is = cc

is_good_for_of : (journal : List Entry) (o : Option Joined) (all : List ℕ) → IsGoodFor journal o all →
    is_good_for journal o all ≡ true
is_good_for_of journal None all g = refl
is_good_for_of journal (Some peer) all g = by (is_app peer.role) g
  where
    by : (b : Bool) → (b ≡ true → IsLike (owed journal peer) all) →
        (if b then is_like (owed journal peer) all else true) ≡ true
    by true g = is_like_of (owed journal peer) all (g refl)
    by false g = refl

pub good_computed : GoodIsComputed
good_computed q bytes lines = (
  good_for_is (journal_of lines) (peer_of lines q) (sent lines q ++ bytes),
  is_good_for_of (journal_of lines) (peer_of lines q) (sent lines q ++ bytes),
)
