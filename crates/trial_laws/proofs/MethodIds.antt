-- The objects of the method's peer are those that its client knows.
use Rattle.std.proofs.Common.{◌≡◌, ℕ, ◌+◌, ◌≤◌, Bool, true, false, ◌&&◌, List, [], ◌∷◌, ◌++◌, length, Option, Some, None, Result, Ok, Err, refl, sym, ap, subst, ◌∙◌, arith, append_assoc, inl, inr, ◌⊎◌}
use Rattle.std.specs.Prelude.{◌==◌, if◌then◌else◌}
use Rattle.std.specs.List.{AllByRecursion}
use Rattle.std.specs.Str.{is_utf8, chars}
use lib.Utf8.{encode}
use Rattle.std.proofs.lemmas.Bool.{eq-eqb, ne_eqb}
use Rattle.std.proofs.lemmas.Option.{same_Some}
use Rattle.wl_proto.specs.declared.interface.Interface.{Interface}
use Rattle.wl_proto.specs.declared.interface.Interface.TheVariants.{Registry, Seat, InputMethodManager, InputMethod, InputPopupSurface, KeyboardGrab}
use Rattle.wl_proto.specs.declared.event.Event.TheVariants as events
use Rattle.wl_proto.specs.declared.table.Kind.{Kind}
use Rattle.wl_proto.specs.declared.table.Kind.TheVariants.{Uint, Object, NewId, Text}
use Rattle.wl_proto.specs.declared.refuse.Refuse.{Refuse}
use Rattle.wl_proto.specs.Grammar.{Value, word}
use Rattle.wl_proto.specs.Rows.{Message, message, request_kinds}
use Rattle.wl_proto.specs.Reading.{values_at, all_read, by_row, request_reading}
use Rattle.wl_proto.specs.Spelling.{spelling, message_len}
use Rattle.wl_proto.specs.Spelled.{AreTokens, AreOfKinds}
use Rattle.wl_proto.proofs.ValuesReadBack.{values_complete, spelled_once}
use Rattle.relay_model.specs.declared.role.Role.{Role}
use Rattle.relay_model.specs.declared.fault.Fault.{Fault}
use Rattle.trial_field.specs.Log.{Batch}
use Rattle.client_side.specs.Events.{object_in, method_objects}
use Rattle.client_side.specs.Messages.{Sent, method_setup}
use Rattle.client_side.specs.MethodSends.{is_zero, deletion_sent, string_sent, preedit_sent, batch_sent}
use Rattle.client_side.specs.MethodLog.{Happening, came, committed, Typist, batch_with, given_sent, press_sent, sent_for, typist_of, sends_of}
use Rattle.broker_model.specs.declared.journal.Entry.{Entry}
use Rattle.broker_model.specs.declared.journal.Entry.TheVariants as entries
use Rattle.broker_model.specs.Ids.{Made, Joined, Past, log_of, peer_in, peer_at, object_at}
use Rattle.broker_model.specs.Requests.{Argument, argument, new_of}
use Rattle.broker_model.specs.Refusals.{request_fault}
use Rattle.broker_model.specs.Resolve.{label_at, made_new, of_request, of_reading, of_message, of_peer, means, past_of, with_joined}
use Rattle.broker_model.proofs.EachElement.{each_append}
use Rattle.broker_model.proofs.IdsAreNames.{IsIn, found}
use Rattle.broker_model.proofs.LivePeersJoined.{joined_stays}
use Rattle.broker_model.proofs.TablesNameObjects.{stranger}
use Rattle.trial_run.specs.declared.typist.TrialTypist.{TrialTypist}
use Rattle.trial_run.specs.Typists.{gives, meanings_of}
use Rattle.trial_laws.proofs.ClientIds.{either, AreOthers, IsOfOther, entry_others}
use Rattle.trial_laws.proofs.FieldFollowed.{same_or_not}
use Rattle.trial_laws.specs.TypedLogs.{is_step_of, steps_by, step_of_request, steps_of, requests_of}

-- ---- requests

-- Where the request is read to its object, it makes an object that the client knows, or none.
pub record IsSafe (s : Sent) : Type 0 where
  pub object : object_in method_objects s.object ≡ Some s.message.interface
  pub new : (tokens : List ℕ) (m : Message) →
      request_reading s.message.interface s.message.opcode tokens (spelling s.message.values) ≡ Ok m →
      (a : Argument) → new_of m.interface m.opcode m.values ≡ Some a →
      object_in method_objects a.id ≡ Some a.interface

abbrev pub AreSafe : List Sent → Type 0
AreSafe ss = AllByRecursion IsSafe ss

-- the row of a request that is read
request_row : (i : Interface) (n : ℕ) (tokens body : List ℕ) (m : Message) → request_reading i n tokens body ≡ Ok m →
    (m.interface ≡ i) × (m.opcode ≡ n)
unfolding request_reading
request_row i n tokens body m e = by (request_kinds i n) e
  where
    read : (o : Option (List Value)) → all_read i n o ≡ Ok m → (m.interface ≡ i) × (m.opcode ≡ n)
    read None h = cc
    read (Some vs) h =
        (let same : message i n vs ≡ m = cc in
        (ap (λ (x : Message). x.interface) (sym same), ap (λ (x : Message). x.opcode) (sym same)))

    by : (o : Option (List _)) → by_row i n tokens body o ≡ Ok m → (m.interface ≡ i) × (m.opcode ≡ n)
    by None h = cc
    by (Some ks) h = read (values_at tokens ks body) h

not_made : (b : Bool) (o : Option Argument) → b ≡ false → (if b then o else None) ≡ None
not_made true o e = cc
not_made false o e = refl

-- edits and commits of the input method make none
no_new : (n : ℕ) (vs : List Value) → n ≤ 3 → new_of InputMethod n vs ≡ None
no_new n (word id ∷ word surface ∷ []) l =
    not_made (n == 4) (Some (argument InputPopupSurface id)) (ne_eqb n 4 (λ e. absurd (omega arith)))
no_new n (word id ∷ []) l =
    not_made (n == 5) (Some (argument KeyboardGrab id)) (ne_eqb n 5 (λ e. absurd (omega arith)))
no_new n _ l = refl

to_method_safe : (n : ℕ) (vs : List Value) → n ≤ 3 →
    IsSafe (record { object = 5; message = message InputMethod n vs })
to_method_safe n vs l = record {
  object = refl;
  new = λ tokens m e a h.
      (let row = request_row InputMethod n tokens (spelling vs) m e in
      let none : new_of m.interface m.opcode m.values ≡ None =
      ap (λ (i : Interface). new_of i m.opcode m.values) row.0
      ∙ no_new m.opcode m.values (subst (λ k. k ≤ 3) (sym row.1) l) in
      absurd (let no : None ≡ Some a = sym none ∙ h in cc));
}

-- ---- batches

where_safe : (b : Bool) (ss : List Sent) → AreSafe ss → AreSafe (if b then [] else ss)
where_safe true ss h = tt
where_safe false ss h = h

batch_safe : (b : Batch) (serial : ℕ) → AreSafe (batch_sent b serial)
batch_safe b serial =
    each_append IsSafe (deletion_sent b.before b.after) _
    (where_safe ((b.before == 0) && (b.after == 0)) (_ ∷ []) (to_method_safe 2 _ (omega arith), tt))
    (each_append IsSafe (string_sent b.string) _
    (where_safe (length b.string == 0) (_ ∷ []) (to_method_safe 0 _ (omega arith), tt))
    (each_append IsSafe (preedit_sent b.preedit b.begin b.end) _
    (where_safe ((length b.preedit == 0) && (is_zero b.begin && is_zero b.end)) (_ ∷ [])
    (to_method_safe 1 _ (omega arith), tt))
    (to_method_safe 3 _ (omega arith), tt)))

given_safe : (o : Option (List ℕ × List ℕ)) (dones : ℕ) → AreSafe (given_sent o dones)
given_safe None dones = tt
given_safe (Some batch) dones = batch_safe (batch_with batch.0 batch.1) dones

for_safe : (h : Happening) (t : Typist TrialTypist) → AreSafe (sent_for meanings_of h t)
for_safe (came (events.Key serial time key state)) t = by (state == 1)
  where
    by : (b : Bool) → AreSafe (if b then press_sent meanings_of key t else [])
    by true = given_safe (gives key t.typing) t.dones
    by false = tt
for_safe (came event) t = tt
for_safe (committed b) t = batch_safe b t.dones

sends_safe : (first : TrialTypist) (log : List Happening) → AreSafe (sends_of meanings_of first log)
sends_safe first [] = tt
sends_safe first (h ∷ older) =
    each_append IsSafe (sends_of meanings_of first older) (sent_for meanings_of h (typist_of meanings_of first older))
    (sends_safe first older) (for_safe h (typist_of meanings_of first older))

-- ---- the set-up

-- the request is read back as it is, and what it makes the client knows
record IsMaking (s : Sent) : Type 0 where
  object : object_in method_objects s.object ≡ Some s.message.interface
  kinds : List Kind
  row : request_kinds s.message.interface s.message.opcode ≡ Some kinds
  fit : AreOfKinds kinds s.message.values
  plain : (tokens : List ℕ) → AreTokens tokens s.message.values
  size : message_len s.message ≤ 4096
  makes : Argument
  new : new_of s.message.interface s.message.opcode s.message.values ≡ Some makes
  there : object_in method_objects makes.id ≡ Some makes.interface

reads_back : (s : Sent) (tokens : List ℕ) → IsMaking s →
    request_reading s.message.interface s.message.opcode tokens (spelling s.message.values) ≡ Ok s.message
unfolding request_reading
reads_back s tokens h =
    ap (by_row s.message.interface s.message.opcode tokens (spelling s.message.values)) h.row
    ∙ ap (all_read s.message.interface s.message.opcode)
    (values_complete tokens h.kinds s.message.values (spelling s.message.values)
    (spelled_once h.kinds s.message.values h.fit (let size = h.size in omega arith)) (h.plain tokens))

making_safe : (s : Sent) → IsMaking s → IsSafe s
making_safe s h = record {
  object = h.object;
  new = λ tokens m e a n.
      (let read : (let o : Result Message Refuse = Ok s.message in o) ≡ Ok m = sym (reads_back s tokens h) ∙ e in
      let same : s.message ≡ m = cc in
      let made : new_of s.message.interface s.message.opcode s.message.values ≡ Some a =
      ap (λ (x : Message). new_of x.interface x.opcode x.values) same ∙ n in
      subst (λ (x : Argument). object_in method_objects x.id ≡ Some x.interface)
      (same_Some h.makes a (sym h.new ∙ made)) h.there);
}

setup_safe : AreSafe method_setup
unfolding is_utf8 chars encode
setup_safe = (
  making_safe _ (record {
    object = refl;
    kinds = NewId ∷ [];
    row = refl;
    fit = (omega arith, tt);
    plain = λ tokens. (tt, tt);
    size = omega arith;
    makes = argument Registry 2;
    new = refl;
    there = refl;
  }),
  (
    making_safe _ (record {
      object = refl;
      kinds = Uint ∷ Text ∷ Uint ∷ NewId ∷ [];
      row = refl;
      fit = (omega arith, (refl, (omega arith, (omega arith, tt))));
      plain = λ tokens. (tt, (tt, (tt, (tt, tt))));
      size = omega arith;
      makes = argument Seat 3;
      new = refl;
      there = refl;
    }),
    (
      making_safe _ (record {
        object = refl;
        kinds = Uint ∷ Text ∷ Uint ∷ NewId ∷ [];
        row = refl;
        fit = (omega arith, (refl, (omega arith, (omega arith, tt))));
        plain = λ tokens. (tt, (tt, (tt, (tt, tt))));
        size = omega arith;
        makes = argument InputMethodManager 4;
        new = refl;
        there = refl;
      }),
      (
        making_safe _ (record {
          object = refl;
          kinds = Object ∷ NewId ∷ [];
          row = refl;
          fit = (omega arith, (omega arith, tt));
          plain = λ tokens. (tt, (tt, tt));
          size = omega arith;
          makes = argument InputMethod 5;
          new = refl;
          there = refl;
        }),
        (
          making_safe _ (record {
            object = refl;
            kinds = NewId ∷ [];
            row = refl;
            fit = (omega arith, tt);
            plain = λ tokens. (tt, tt);
            size = omega arith;
            makes = argument KeyboardGrab 6;
            new = refl;
            there = refl;
          }),
          tt,
        ),
      ),
    ),
  ),
)

pub requests_safe : (first : TrialTypist) (log : List Happening) → AreSafe (requests_of first log)
requests_safe first log =
    each_append IsSafe method_setup (sends_of meanings_of first log) setup_safe (sends_safe first log)

-- ---- the steps of a journal

-- a step of the method's peer is that of such a request
pub record IsRequest (e : Entry) : Type 0 where
  pub request : Sent
  pub is : e ≡ step_of_request 1 request
  pub safe : IsSafe request

abbrev pub IsKnownStep : Entry → Type 0
IsKnownStep e = is_step_of 1 e ≡ true → IsRequest e

-- the same head, and the same tail
pub head_is : (x y : Entry) (xs ys : List Entry) → x ∷ xs ≡ y ∷ ys → x ≡ y
head_is x y xs ys q = cc

tail_is : (x y : Entry) (xs ys : List Entry) → x ∷ xs ≡ y ∷ ys → xs ≡ ys
tail_is x y xs ys q = cc

in_steps : (xs : List Entry) (e : Entry) (rest : List Entry) (ss : List Sent) → xs ++ e ∷ rest ≡ steps_of 1 ss →
    AreSafe ss → IsRequest e
in_steps [] e rest [] q h = cc
in_steps [] e rest (s ∷ ss) q h =
    record { request = s; is = head_is e (step_of_request 1 s) rest (steps_of 1 ss) q; safe = h.0 }
in_steps (x ∷ xs) e rest [] q h = cc
in_steps (x ∷ xs) e rest (s ∷ ss) q h = in_steps xs e rest ss
    (tail_is x (step_of_request 1 s) (xs ++ e ∷ rest) (steps_of 1 ss) q) h.1

pub known_steps : (journal rest : List Entry) (ss : List Sent) → steps_by journal 1 ++ rest ≡ steps_of 1 ss →
    AreSafe ss → AllByRecursion IsKnownStep journal
known_steps [] rest ss q h = tt
known_steps (e ∷ older) rest ss q h = (
  λ is. in_steps (steps_by older 1) e rest ss
      (ap (λ (b : Bool). steps_by older 1 ++ ((if b then e ∷ [] else []) ++ rest)) (sym is) ∙ parts) h,
  known_steps older ((if is_step_of 1 e then e ∷ [] else []) ++ rest) ss parts h,
)
  where
    parts : steps_by older 1 ++ ((if is_step_of 1 e then e ∷ [] else []) ++ rest) ≡ steps_of 1 ss
    parts = sym (append_assoc (steps_by older 1) (if is_step_of 1 e then e ∷ [] else []) rest) ∙ q

-- ---- what the peer made

-- each of its objects is of the interface that the client knows it by
abbrev pub AreKnown : List Made → ℕ → Type 0
AreKnown made p = (m : Made) → IsIn made m → m.peer ≡ p → object_in method_objects m.id ≡ Some m.interface

more_known : (new made : List Made) (p : ℕ) → AreKnown new p → AreKnown made p → AreKnown (new ++ made) p
more_known new made p h k m i e = by (either new made m i)
  where
    by : IsIn new m ⊎ IsIn made m → object_in method_objects m.id ≡ Some m.interface
    by (inl j) = h m j e
    by (inr j) = k m j e

others_known : (new : List Made) (p : ℕ) → AreOthers p new → AreKnown new p
others_known new p h m i e = absurd (h m i e)

none_known : (p : ℕ) → AreKnown [] p
none_known p m i e = absurd i

one_known : (p id n : ℕ) (i : Interface) → object_in method_objects id ≡ Some i →
    AreKnown (record { peer = p; id = id; label = n; interface = i } ∷ []) p
one_known p id n i h m (inl e) s =
    subst (λ (x : Made). object_in method_objects x.id ≡ Some x.interface) e h
one_known p id n i h m (inr j) s = absurd j

argument_known : (p n : ℕ) (o : Option Argument) →
    ((a : Argument) → o ≡ Some a → object_in method_objects a.id ≡ Some a.interface) → AreKnown (made_new p n o) p
argument_known p n None h = none_known p
argument_known p n (Some a) h = one_known p a.id n a.interface (h a refl)

request_known : (past : Past) (n : ℕ) (peer : Joined) (x : ℕ) (r : Message) (o : Option Fault) →
    ((a : Argument) → new_of r.interface r.opcode r.values ≡ Some a →
    object_in method_objects a.id ≡ Some a.interface) →
    AreKnown (of_request past n peer x r o).made peer.label
request_known past n peer x r (Some f) h = none_known peer.label
request_known past n peer x r None h = argument_known peer.label n (new_of r.interface r.opcode r.values) h

reading_known : (past : Past) (n : ℕ) (peer : Joined) (x : ℕ) (r : Result Message Refuse) →
    ((m : Message) → r ≡ Ok m → (a : Argument) → new_of m.interface m.opcode m.values ≡ Some a →
    object_in method_objects a.id ≡ Some a.interface) →
    AreKnown (of_reading past n peer x r).made peer.label
reading_known past n peer x (Err f) h = none_known peer.label
reading_known past n peer x (Ok m) h =
    request_known past n peer x m (request_fault past peer.label x peer.role (label_at past peer.label) m) (h m refl)

message_known : (past : Past) (n : ℕ) (peer : Joined) (s : Sent) (o : Option Made) → IsSafe s →
    AreKnown past.made peer.label → object_at past peer.label s.object ≡ o →
    AreKnown (of_message past n peer s.message.opcode (spelling s.message.values) o).made peer.label
message_known past n peer s None h k e = none_known peer.label
message_known past n peer s (Some x) h k e =
    let f = found (log_of past) past.made peer.label s.object x e in
    let there : object_in method_objects s.object ≡ Some x.interface =
    subst (λ id. object_in method_objects id ≡ Some x.interface) f.under (k x f.among f.peer) in
    let same : s.message.interface ≡ x.interface = same_Some s.message.interface x.interface (sym h.object ∙ there) in
    let tokens : List ℕ = past.waiting peer.label in
    reading_known past n peer x.label (request_reading x.interface s.message.opcode tokens (spelling s.message.values))
    (λ m r a w. h.new tokens m
    (ap (λ (i : Interface). request_reading i s.message.opcode tokens (spelling s.message.values)) same ∙ r) a w)

-- one more entry

other_step : (e : Entry) (older : List Entry) (peer : Joined) → peer_at (past_of older) 1 ≡ Some peer →
    IsOfOther 1 e → AreKnown (means e (length older + 1) (past_of older)).made peer.label
other_step e older peer j o =
    others_known (means e (length older + 1) (past_of older)).made peer.label (entry_others e older 1 peer j o)

step_known : (e : Entry) (older : List Entry) (peer : Joined) → peer_at (past_of older) 1 ≡ Some peer →
    IsKnownStep e → AreKnown (past_of older).made peer.label →
    AreKnown (means e (length older + 1) (past_of older)).made peer.label
step_known (entries.Message q id opcode body) older peer j h k = by (same_or_not q 1)
  where
    e : Entry
    e = entries.Message q id opcode body

    by : (q ≡ 1) ⊎ (q ≡ 1 → ⊥) → AreKnown (means e (length older + 1) (past_of older)).made peer.label
    by (inr d) = other_step e older peer j d
    by (inl is) =
        let r : IsRequest e = h (eq-eqb q 1 is) in
        let s : Sent = r.request in
        let past : Past = past_of older in
        let n : ℕ = length older + 1 in
        let made : AreKnown (means (step_of_request 1 s) n past).made peer.label =
        subst (λ (o : Option Joined). AreKnown (of_peer o
        (λ other. of_message past n other s.message.opcode (spelling s.message.values)
        (object_at past other.label s.object))).made peer.label) (sym j)
        (message_known past n peer s (object_at past peer.label s.object) r.safe k refl) in
        subst (λ (x : Entry). AreKnown (means x n past).made peer.label) (sym r.is) made
step_known (entries.Join role) older peer j h k = other_step (entries.Join role) older peer j tt
step_known (entries.Tokens q tokens) older peer j h k = other_step (entries.Tokens q tokens) older peer j tt
step_known (entries.BadSize q head) older peer j h k = other_step (entries.BadSize q head) older peer j tt
step_known (entries.End q why) older peer j h k = other_step (entries.End q why) older peer j tt
step_known (entries.Shell step) older peer j h k = other_step (entries.Shell step) older peer j tt
step_known (entries.Took q bytes) older peer j h k = other_step (entries.Took q bytes) older peer j tt

-- the first peer, where none joined before it
first_join : (e : Entry) (n : ℕ) (joined : List Joined) (peer : Joined) → peer_in joined 1 ≡ None →
    peer_in (with_joined e n joined) 1 ≡ Some peer → (role : Role) × (e ≡ entries.Join role) × (peer.label ≡ n)
first_join (entries.Join role) n [] peer a b =
    (role, refl, ap (λ (x : Joined). x.label) (sym (same_Some (record { label = n; role = role }) peer b)))
first_join (entries.Join role) n (x ∷ xs) peer a b = cc
first_join (entries.Message q id opcode body) n joined peer a b = cc
first_join (entries.Tokens q tokens) n joined peer a b = cc
first_join (entries.BadSize q head) n joined peer a b = cc
first_join (entries.End q why) n joined peer a b = cc
first_join (entries.Shell step) n joined peer a b = cc
first_join (entries.Took q bytes) n joined peer a b = cc

pub all_known : (journal : List Entry) (peer : Joined) → peer_at (past_of journal) 1 ≡ Some peer →
    AllByRecursion IsKnownStep journal → AreKnown (past_of journal).made peer.label
all_known [] peer j h = cc
all_known (e ∷ older) peer j h = by (peer_at (past_of older) 1) refl (λ p k. all_known older p k h.1)
  where
    by : (o : Option Joined) → peer_at (past_of older) 1 ≡ o →
        ((p : Joined) → peer_at (past_of older) 1 ≡ Some p → AreKnown (past_of older).made p.label) →
        AreKnown (past_of (e ∷ older)).made peer.label
    by (Some p) q k =
        let same : p ≡ peer =
        same_Some p peer (sym (joined_stays e (length older + 1) (past_of older).joined 1 p q) ∙ j) in
        subst (λ (x : Joined). AreKnown (past_of (e ∷ older)).made x.label) same
        (more_known (means e (length older + 1) (past_of older)).made (past_of older).made p.label
        (step_known e older p q h.0 (k p q)) (k p q))
    by None q k =
        let n : ℕ = length older + 1 in
        let first = first_join e n (past_of older).joined peer q j in
        let label : peer.label ≡ n = first.2 in
        let new : List Made = (means (entries.Join first.0) n (past_of older)).made in
        subst (λ (x : Entry). AreKnown ((means x n (past_of older)).made ++ (past_of older).made) peer.label)
        (sym first.1)
        (more_known new (past_of older).made peer.label
        (subst (λ m. AreKnown new m) (sym label) (one_known n 1 n _ refl))
        (λ m i s. absurd (stranger older peer.label (omega arith) m i s)))
