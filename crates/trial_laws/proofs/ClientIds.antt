-- What a field's peer makes has the ids that its client knows, each once.
use Rattle.std.proofs.Common.{◌≡◌, ℕ, zero, suc, ◌+◌, ◌≤◌, List, [], ◌∷◌, ◌++◌, length, Option, Some, None, Result, Ok, Err, refl, sym, ap, subst, ◌∙◌, arith, inl, inr, ◌⊎◌}
use Rattle.std.proofs.lemmas.Option.{same_Some}
use Rattle.wl_proto.specs.declared.interface.Interface.{Interface}
use Rattle.wl_proto.specs.declared.interface.Interface.TheVariants as interface
use Rattle.wl_proto.specs.declared.refuse.Refuse.{Refuse}
use Rattle.wl_proto.specs.Grammar.{Value}
use Rattle.wl_proto.specs.Rows.{Message, message, request_kinds}
use Rattle.wl_proto.specs.Reading.{values_at, all_read, by_row, request_reading}
use Rattle.relay_model.specs.declared.role.Role.{Role}
use Rattle.relay_model.specs.declared.fault.Fault.{Fault}
use Rattle.broker_model.specs.declared.journal.Entry.{Entry}
use Rattle.broker_model.specs.declared.journal.Entry.TheVariants as entries
use Rattle.broker_model.specs.Ids.{Made, Joined, Past, log_of, peer_at, object_at}
use Rattle.broker_model.specs.Requests.{Argument, new_of}
use Rattle.broker_model.specs.Refusals.{request_fault}
use Rattle.broker_model.specs.Resolve.{Meaning, label_at, made_new, of_request, of_reading, of_message, of_peer, means, past_of}
use Rattle.broker_model.specs.Settle.{due, with_end, settled, settle, number_alive}
use Rattle.broker_model.proofs.IdsAreNames.{IsIn, found}
use Rattle.broker_model.proofs.LabelsRiseByNumber.{label_within, one_number}
use Rattle.broker_model.proofs.TablesNameObjects.{stranger}
use Rattle.client_side.specs.Events.{object_in, field_objects}

-- ---- a peer's objects

-- ids up to n, each of one object, of the interface that the client knows it by
pub record AreOwn (made : List Made) (p n : ℕ) : Type 0 where
  pub within : (m : Made) → IsIn made m → m.peer ≡ p → m.id ≤ n
  pub known : (m : Made) → IsIn made m → m.peer ≡ p → object_in field_objects m.id ≡ Some m.interface
  pub once : (a b : Made) → IsIn made a → IsIn made b → a.peer ≡ p → b.peer ≡ p → a.id ≡ b.id → a.label ≡ b.label

-- none of these is the peer's
abbrev pub AreOthers : ℕ → List Made → Type 0
AreOthers p new = (m : Made) → IsIn new m → m.peer ≡ p → ⊥

pub either : (xs ys : List Made) (m : Made) → IsIn (xs ++ ys) m → IsIn xs m ⊎ IsIn ys m
either [] ys m i = inr i
either (x ∷ xs) ys m (inl e) = inl (inl e)
either (x ∷ xs) ys m (inr i) = more (either xs ys m i)
  where
    more : IsIn xs m ⊎ IsIn ys m → IsIn (x ∷ xs) m ⊎ IsIn ys m
    more (inl j) = inl (inr j)
    more (inr j) = inr j

old_one : (new made : List Made) (p : ℕ) (m : Made) → AreOthers p new → m.peer ≡ p → IsIn (new ++ made) m → IsIn made m
old_one new made p m none e i = by (either new made m i)
  where
    by : IsIn new m ⊎ IsIn made m → IsIn made m
    by (inl j) = absurd (none m j e)
    by (inr j) = j

-- what others make changes nothing
pub others_made : (new made : List Made) (p n : ℕ) → AreOthers p new → AreOwn made p n → AreOwn (new ++ made) p n
others_made new made p n none own = record {
  within = λ m i e. own.within m (old_one new made p m none e i) e;
  known = λ m i e. own.known m (old_one new made p m none e i) e;
  once = λ a b i j e f. own.once a b (old_one new made p a none e i) (old_one new made p b none f j) e f;
}

more_ids : (made : List Made) (p n : ℕ) → AreOwn made p n → AreOwn made p (n + 1)
more_ids made p n own = record {
  within = λ m i e. (let w = own.within m i e in omega arith);
  known = own.known;
  once = own.once;
}

-- one object under the next id
pub next_made : (m : Made) (made : List Made) (p n : ℕ) → m.id ≡ n + 1 →
    object_in field_objects m.id ≡ Some m.interface →
    AreOwn made p n → AreOwn (m ∷ made) p (n + 1)
next_made m made p n id known own = record { within = within; known = is_known; once = once }
  where
    within : (x : Made) → IsIn (m ∷ made) x → x.peer ≡ p → x.id ≤ n + 1
    within x (inl s) e = (let same : x.id ≡ n + 1 = ap (λ (y : Made). y.id) (sym s) ∙ id in omega arith)
    within x (inr i) e = (let w = own.within x i e in omega arith)

    is_known : (x : Made) → IsIn (m ∷ made) x → x.peer ≡ p → object_in field_objects x.id ≡ Some x.interface
    is_known x (inl s) e = subst (λ (y : Made). object_in field_objects y.id ≡ Some y.interface) s known
    is_known x (inr i) e = own.known x i e

    once : (a b : Made) → IsIn (m ∷ made) a → IsIn (m ∷ made) b → a.peer ≡ p → b.peer ≡ p → a.id ≡ b.id →
        a.label ≡ b.label
    once a b (inl s) (inl t) e f same = ap (λ (y : Made). y.label) (sym s ∙ t)
    once a b (inl s) (inr j) e f same =
        absurd (let w = own.within b j f in let x : a.id ≡ n + 1 = ap (λ (y : Made). y.id) (sym s) ∙ id in omega arith)
    once a b (inr i) (inl t) e f same =
        absurd (let w = own.within a i e in let x : b.id ≡ n + 1 = ap (λ (y : Made). y.id) (sym t) ∙ id in omega arith)
    once a b (inr i) (inr j) e f same = own.once a b i j e f same

-- ---- what a message makes

new_peer : (q n : ℕ) (o : Option Argument) (m : Made) → IsIn (made_new q n o) m → m.peer ≡ q
new_peer q n None m i = absurd i
new_peer q n (Some a) m (inl e) = ap (λ (y : Made). y.peer) (sym e)
new_peer q n (Some a) m (inr i) = absurd i

request_peer : (past : Past) (n : ℕ) (peer : Joined) (x : ℕ) (r : Message) (o : Option Fault) (m : Made) →
    IsIn (of_request past n peer x r o).made m → m.peer ≡ peer.label
request_peer past n peer x r (Some f) m i = absurd i
request_peer past n peer x r None m i = new_peer peer.label n (new_of r.interface r.opcode r.values) m i

reading_peer : (past : Past) (n : ℕ) (peer : Joined) (x : ℕ) (r : Result Message Refuse) (m : Made) →
    IsIn (of_reading past n peer x r).made m → m.peer ≡ peer.label
reading_peer past n peer x (Err e) m i = absurd i
reading_peer past n peer x (Ok r) m i =
    request_peer past n peer x r (request_fault past peer.label x peer.role (label_at past peer.label) r) m i

message_peer : (past : Past) (n : ℕ) (peer : Joined) (opcode : ℕ) (body : List ℕ) (o : Option Made) (m : Made) →
    IsIn (of_message past n peer opcode body o).made m → m.peer ≡ peer.label
message_peer past n peer opcode body None m i = absurd i
message_peer past n peer opcode body (Some x) m i =
    reading_peer past n peer x.label (request_reading x.interface opcode (past.waiting peer.label) body) m i

-- what a request was read by
pub reading_interface : (i : Interface) (n : ℕ) (tokens body : List ℕ) (m : Message) →
    request_reading i n tokens body ≡ Ok m →
    m.interface ≡ i
unfolding request_reading
reading_interface i n tokens body m e = by (request_kinds i n) e
  where
    read : (o : Option (List Value)) → all_read i n o ≡ Ok m → m.interface ≡ i
    read None h = cc
    read (Some vs) h = (let same : message i n vs ≡ m = cc in ap (λ (x : Message). x.interface) (sym same))

    by : (o : Option (List _)) → by_row i n tokens body o ≡ Ok m → m.interface ≡ i
    by None h = cc
    by (Some ks) h = read (values_at tokens ks body) h

-- a message to the text input makes nothing

input_new : (i : Interface) (opcode : ℕ) (vs : List Value) → i ≡ interface.TextInput → new_of i opcode vs ≡ None
input_new i opcode vs e = ap (λ (j : Interface). new_of j opcode vs) e

input_request : (past : Past) (n : ℕ) (peer : Joined) (x : ℕ) (r : Message) (o : Option Fault) →
    r.interface ≡ interface.TextInput → (of_request past n peer x r o).made ≡ []
input_request past n peer x r (Some f) e = refl
input_request past n peer x r None e =
    ap (λ (a : Option Argument). made_new peer.label n a) (input_new r.interface r.opcode r.values e)

input_reading : (past : Past) (n : ℕ) (peer : Joined) (x : ℕ) (i : Interface) (opcode : ℕ) (body : List ℕ)
    (r : Result Message Refuse) → i ≡ interface.TextInput →
    request_reading i opcode (past.waiting peer.label) body ≡ r →
    (of_reading past n peer x r).made ≡ []
input_reading past n peer x i opcode body (Err f) e h = refl
input_reading past n peer x i opcode body (Ok m) e h =
    input_request past n peer x m (request_fault past peer.label x peer.role (label_at past peer.label) m)
    (reading_interface i opcode (past.waiting peer.label) body m h ∙ e)

input_message : (past : Past) (n bound : ℕ) (peer : Joined) (opcode : ℕ) (body : List ℕ) (o : Option Made) →
    AreOwn past.made peer.label bound → object_at past peer.label 7 ≡ o →
    (of_message past n peer opcode body o).made ≡ []
input_message past n bound peer opcode body None own e = refl
input_message past n bound peer opcode body (Some x) own e =
    let f = found (log_of past) past.made peer.label 7 x e in
    let k : object_in field_objects 7 ≡ Some x.interface =
    subst (λ id. object_in field_objects id ≡ Some x.interface) f.under (own.known x f.among f.peer) in
    input_reading past n peer x.label x.interface opcode body
    (request_reading x.interface opcode (past.waiting peer.label) body)
    (sym (same_Some interface.TextInput x.interface k)) refl

-- ---- what an entry makes

of_none : (o : Option Joined) (f : Joined → Meaning) → ((peer : Joined) → (f peer).made ≡ []) → (of_peer o f).made ≡ []
of_none None f h = refl
of_none (Some peer) f h = h peer

pub of_is : (o : Option Joined) (f : Joined → Meaning) (peer : Joined) → o ≡ Some peer → of_peer o f ≡ f peer
of_is o f peer e = ap (λ (x : Option Joined). of_peer x f) e

empty_others : (p : ℕ) (new : List Made) → new ≡ [] → AreOthers p new
empty_others p new e m i h = subst (λ (l : List Made). IsIn l m → ⊥) (sym e) (λ j. absurd j) i

-- the entry isn't a message of the peer with the number q
abbrev pub IsOfOther : ℕ → Entry → Type 0
IsOfOther q (entries.Message n id opcode body) = n ≡ q → ⊥
IsOfOther q _ = Unit {0}

message_others : (older : List Entry) (q n id opcode : ℕ) (body : List ℕ) (peer : Joined) (o : Option Joined) →
    peer_at (past_of older) q ≡ Some peer → (n ≡ q → ⊥) → peer_at (past_of older) n ≡ o →
    AreOthers peer.label (of_peer o
    (λ other. of_message (past_of older) (length older + 1) other opcode body (object_at (past_of older)
    other.label id))).made
message_others older q n id opcode body peer None e d h m i s = absurd i
message_others older q n id opcode body peer (Some other) e d h m i s =
    d (one_number older n q other peer h e
    (sym (message_peer (past_of older) (length older + 1) other opcode body
    (object_at (past_of older) other.label id) m i) ∙ s))

join_others : (role : Role) (older : List Entry) (q : ℕ) (peer : Joined) → peer_at (past_of older) q ≡ Some peer →
    AreOthers peer.label (means (entries.Join role) (length older + 1) (past_of older)).made
join_others role older q peer h m (inl e) s =
    (let w = label_within older q peer h in
    let same : length older + 1 ≡ peer.label = ap (λ (y : Made). y.peer) e ∙ s in absurd (omega arith))
join_others role older q peer h m (inr i) s = absurd i

pub entry_others : (e : Entry) (older : List Entry) (q : ℕ) (peer : Joined) → peer_at (past_of older) q ≡ Some peer →
    IsOfOther q e → AreOthers peer.label (means e (length older + 1) (past_of older)).made
entry_others (entries.Join role) older q peer h d = join_others role older q peer h
entry_others (entries.Message n id opcode body) older q peer h d =
    message_others older q n id opcode body peer (peer_at (past_of older) n) h d refl
entry_others (entries.Tokens n tokens) older q peer h d = λ m i s. absurd i
entry_others (entries.BadSize n head) older q peer h d =
    empty_others peer.label _ (of_none (peer_at (past_of older) n) _ (λ other. refl))
entry_others (entries.End n why) older q peer h d =
    empty_others peer.label _ (of_none (peer_at (past_of older) n) _ (λ other. refl))
entry_others (entries.Shell step) older q peer h d = λ m i s. absurd i
entry_others (entries.Took n bytes) older q peer h d =
    empty_others peer.label _ (of_none (peer_at (past_of older) n) _ (λ other. refl))

-- ---- the ends that follow

end_made : (journal : List Entry) (o : Option ℕ) → (past_of (with_end journal o)).made ≡ (past_of journal).made
end_made journal None = refl
end_made journal (Some q) =
    ap (λ (new : List Made). new ++ (past_of journal).made)
    (of_none (peer_at (past_of journal) q) _ (λ other. refl))

settled_made : (capacity fuel : ℕ) (journal : List Entry) →
    (past_of (settled capacity fuel journal)).made ≡ (past_of journal).made
settled_made capacity zero journal = refl
settled_made capacity (suc n) journal =
    settled_made capacity n (with_end journal (due capacity journal)) ∙ end_made journal (due capacity journal)

pub step_made : (capacity : ℕ) (e : Entry) (journal : List Entry) →
    (past_of (settle capacity (e ∷ journal))).made
    ≡ (means e (length journal + 1) (past_of journal)).made ++ (past_of journal).made
step_made capacity e journal = settled_made capacity (number_alive (e ∷ journal)) (e ∷ journal)

pub others_step : (capacity : ℕ) (e : Entry) (journal : List Entry) (q n : ℕ) (peer : Joined) →
    peer_at (past_of journal) q ≡ Some peer → IsOfOther q e → AreOwn (past_of journal).made peer.label n →
    AreOwn (past_of (settle capacity (e ∷ journal))).made peer.label n
others_step capacity e journal q n peer h d own =
    subst (λ (l : List Made). AreOwn l peer.label n) (sym (step_made capacity e journal))
    (others_made (means e (length journal + 1) (past_of journal)).made (past_of journal).made peer.label n
    (entry_others e journal q peer h d) own)

-- a message of the peer to its text input
pub input_step : (capacity q opcode n : ℕ) (body : List ℕ) (journal : List Entry) (peer : Joined) →
    peer_at (past_of journal) q ≡ Some peer → AreOwn (past_of journal).made peer.label n →
    AreOwn (past_of (settle capacity (entries.Message q 7 opcode body ∷ journal))).made peer.label n
input_step capacity q opcode n body journal peer h own =
    let past : Past = past_of journal in
    let e : Entry = entries.Message q 7 opcode body in
    let none : (means e (length journal + 1) past).made ≡ [] =
    ap (λ (m : Meaning). m.made) (of_is (peer_at past q)
    (λ other. of_message past (length journal + 1) other opcode body (object_at past other.label 7)) peer h)
    ∙ input_message past (length journal + 1) n peer opcode body (object_at past peer.label 7) own refl in
    subst (λ (l : List Made). AreOwn l peer.label n)
    (sym (step_made capacity e journal ∙ ap (λ (new : List Made). new ++ past.made) none)) own

-- a peer that just joined has its display alone
pub join_step : (capacity : ℕ) (role : Role) (journal : List Entry) →
    AreOwn (past_of (settle capacity (entries.Join role ∷ journal))).made (length journal + 1) 1
join_step capacity role journal =
    let p : ℕ = length journal + 1 in
    let none : AreOwn (past_of journal).made p 0 = record {
      within = λ m i e. absurd (stranger journal p (omega arith) m i e);
      known = λ m i e. absurd (stranger journal p (omega arith) m i e);
      once = λ a b i j e f. absurd (stranger journal p (omega arith) a i e);
    } in
    subst (λ (l : List Made). AreOwn l p 1) (sym (step_made capacity (entries.Join role) journal))
    (next_made (record { peer = p; id = 1; label = p; interface = interface.Display })
    (past_of journal).made p 0 refl refl none)
