-- The ids under which peers make objects have 32 bits.
use Rattle.std.proofs.Common.{◌≡◌, ℕ, ◌+◌, Bool, true, false, List, [], ◌∷◌, ◌++◌, length, Option, Some, None, Result, Ok, Err, refl, subst, arith, inl, inr}
use Rattle.std.specs.Prelude.{◌==◌, if◌then◌else◌}
use Rattle.std.proofs.lemmas.Option.{same_Some}
use Rattle.wl_wire.specs.Texts.{IsBytes}
use Rattle.wl_proto.specs.declared.interface.Interface.{Interface}
use Rattle.wl_proto.specs.declared.interface.Interface.TheVariants as interface
use Rattle.wl_proto.specs.declared.refuse.Refuse.{Refuse}
use Rattle.wl_proto.specs.Grammar.{Value, word, text}
use Rattle.wl_proto.specs.Reading.{request_reading}
use Rattle.wl_proto.specs.Rows.{Message}
use Rattle.relay_model.specs.declared.fault.Fault.{Fault}
use Rattle.broker_model.specs.declared.journal.Entry.{Entry}
use Rattle.broker_model.specs.declared.journal.Entry.TheVariants as entries
use Rattle.broker_model.specs.Ids.{Made, Joined, Past, peer_at, object_at, made_as}
use Rattle.broker_model.specs.Groups.{id_of}
use Rattle.broker_model.specs.Requests.{Argument, new_of}
use Rattle.broker_model.specs.Refusals.{request_fault}
use Rattle.broker_model.specs.Resolve.{Meaning, label_at, made_new, of_request, of_reading, of_message, of_peer, means, past_of}
use Rattle.broker_model.proofs.IdsAreNames.{IsIn, made_with}
use Rattle.broker_telling.specs.Sayable.{IsWord, HasBytes, AreBytes}
use Rattle.broker_telling.proofs.ValuesSound.{AreSound, request_sound}

named_small : (i : Interface) (id : ℕ) (new : Argument) →
    (let o : Option Argument = Some (record { id = id; interface = i }) in o ≡ Some new) →
    IsWord id → IsWord new.id
named_small i id new e h =
    let a : Argument = record { id = id; interface = i } in subst (λ (x : Argument). IsWord x.id) (same_Some a new e) h

chosen_small : (b : Bool) (i : Interface) (id : ℕ) (new : Argument) →
    (if b then Some (record { id = id; interface = i }) else None) ≡ Some new →
    IsWord id → IsWord new.id
chosen_small true i id new e h = named_small i id new e h
chosen_small false i id new e h = cc

-- what a request names anew is an argument of it
new_small : (i : Interface) (opcode : ℕ) (vs : List Value) (new : Argument) → new_of i opcode vs ≡ Some new →
    AreSound vs → IsWord new.id
new_small interface.Display opcode (word id ∷ []) new e h = named_small _ id new e h.0
new_small interface.Registry opcode
    (word name ∷ text t ∷ word version ∷ word id ∷ []) new e h = named_small _ id new e h.1.1.1.0
new_small interface.Compositor opcode (word id ∷ []) new e h = named_small _ id new e h.0
new_small interface.Seat opcode (word id ∷ []) new e h = named_small _ id new e h.0
new_small interface.TextInputManager opcode (word id ∷ word seat ∷ []) new e h = named_small _ id new e h.0
new_small interface.InputMethodManager opcode (word seat ∷ word id ∷ []) new e h = named_small _ id new e h.1.0
new_small interface.VirtualKeyboardManager opcode (word seat ∷ word id ∷ []) new e h = named_small _ id new e h.1.0
new_small interface.InputMethod opcode (word id ∷ word surface ∷ []) new e h = chosen_small (opcode == 4) _ id new e h.0
new_small interface.InputMethod opcode (word id ∷ []) new e h = chosen_small (opcode == 5) _ id new e h.0
new_small _ opcode vs new e h = cc

-- each id has 32 bits
abbrev pub AreSmall : List Made → Type 0
AreSmall made = (m : Made) → IsIn made m → IsWord m.id

made_small : (p n : ℕ) (o : Option Argument) → ((new : Argument) → o ≡ Some new → IsWord new.id) →
    AreSmall (made_new p n o)
made_small p n None h m i = absurd i
made_small p n (Some new) h m (inl e) = subst (λ (y : Made). IsWord y.id) e (h new refl)
made_small p n (Some new) h m (inr i) = absurd i

request_small : (past : Past) (n : ℕ) (peer : Joined) (x : ℕ) (r : Message) (o : Option Fault) → AreSound r.values →
    AreSmall (of_request past n peer x r o).made
request_small past n peer x r (Some f) h m i = absurd i
request_small past n peer x r None h m i =
    made_small peer.label n (new_of r.interface r.opcode r.values)
    (λ new e. new_small r.interface r.opcode r.values new e h) m i

reading_small : (past : Past) (n : ℕ) (peer : Joined) (x : ℕ) (r : Result Message Refuse) →
    ((m : Message) → r ≡ Ok m → AreSound m.values) →
    AreSmall (of_reading past n peer x r).made
reading_small past n peer x (Err f) h m i = absurd i
reading_small past n peer x (Ok r) h m i =
    request_small past n peer x r (request_fault past peer.label x peer.role (label_at past peer.label) r)
    (h r refl) m i

message_small : (past : Past) (n : ℕ) (peer : Joined) (opcode : ℕ) (body : List ℕ) (o : Option Made) → IsBytes body →
    AreSmall (of_message past n peer opcode body o).made
message_small past n peer opcode body None h m i = absurd i
message_small past n peer opcode body (Some x) h m i =
    reading_small past n peer x.label (request_reading x.interface opcode (past.waiting peer.label) body)
    (λ r e. request_sound x.interface opcode (past.waiting peer.label) body r h e) m i

peer_small : (o : Option Joined) (f : Joined → Meaning) → ((peer : Joined) → AreSmall (f peer).made) →
    AreSmall (of_peer o f).made
peer_small None f h m i = absurd i
peer_small (Some peer) f h m i = h peer m i

entry_small : (e : Entry) (n : ℕ) (past : Past) → HasBytes e → AreSmall (means e n past).made
entry_small (entries.Join role) n past h m (inl e) = subst (λ (y : Made). IsWord y.id) e (omega arith)
entry_small (entries.Join role) n past h m (inr i) = absurd i
entry_small (entries.Message q id opcode body) n past h m i =
    peer_small (peer_at past q) (λ peer. of_message past n peer opcode body (object_at past peer.label id))
    (λ peer. message_small past n peer opcode body (object_at past peer.label id) h) m i
entry_small (entries.Tokens q tokens) n past h m i = absurd i
entry_small (entries.BadSize q head) n past h m i = peer_small (peer_at past q) _ (λ peer x j. absurd j) m i
entry_small (entries.End q why) n past h m i = peer_small (peer_at past q) _ (λ peer x j. absurd j) m i
entry_small (entries.Shell step) n past h m i = absurd i
entry_small (entries.Took q bytes) n past h m i = peer_small (peer_at past q) _ (λ peer x j. absurd j) m i

small_both : (xs ys : List Made) → AreSmall xs → AreSmall ys → AreSmall (xs ++ ys)
small_both [] ys h k m i = k m i
small_both (x ∷ xs) ys h k m (inl e) = h m (inl e)
small_both (x ∷ xs) ys h k m (inr i) = small_both xs ys (λ y j. h y (inr j)) k m i

pub all_small : (journal : List Entry) → AreBytes journal → AreSmall (past_of journal).made
all_small [] h m i = absurd i
all_small (e ∷ older) h m i =
    small_both (means e (length older + 1) (past_of older)).made (past_of older).made
    (entry_small e (length older + 1) (past_of older) h.0) (all_small older h.1) m i

-- the id of each label has 32 bits
pub id_small : (made : List Made) (label : ℕ) → AreSmall made → IsWord (id_of (made_as made label))
id_small made label h = by (made_as made label) refl
  where
    by : (o : Option Made) → made_as made label ≡ o → IsWord (id_of o)
    by None e = omega arith
    by (Some m) e = h m (made_with made label m e).among
