-- What is put for the method's peer are messages that spell events to the objects of its client, where the shell gave
-- no keymap
use Rattle.std.proofs.Common.{ℕ, ◌+◌, ◌^◌, ◌<◌, List, [], ◌∷◌, ◌++◌, length, arith}
use Rattle.std.specs.Prelude.{IfSome}
use Rattle.std.specs.List.{AllByRecursion}
use Rattle.relay_model.specs.declared.said.Told.{Told}
use Rattle.relay_model.specs.Told.{told}
use Rattle.client_side.specs.Events.{method_objects}
use Rattle.broker_model.specs.declared.journal.Entry.{Entry}
use Rattle.broker_model.specs.Groups.{message_of}
use Rattle.broker_model.specs.Ids.{Made}
use Rattle.broker_model.specs.Out.{act_at, out_for}
use Rattle.broker_model.specs.Resolve.{means, past_of, resolve}
use Rattle.broker_model.proofs.IdsAreNames.{IsIn, made_with}
use Rattle.broker_telling.specs.Sayable.{AreHeld}
use Rattle.broker_telling.specs.ToldRead.{IsWritable, IsReadAs, IsToldRead}
use Rattle.broker_telling.proofs.IdsSmall.{AreSmall, all_small}
use Rattle.broker_telling.proofs.MessagesTold.{TellsSo, told_each}
use Rattle.broker_telling.proofs.MessagesPut.{entry_messages, ArePut, put_messages}
use Rattle.broker_telling.proofs.ToldIsRead.{all_bytes, each_two, told_read, told_writable}
use Rattle.trial_laws.proofs.FieldsReadAll.{in_older}
use Rattle.trial_laws.proofs.GroupsHeard.{where_some}
use Rattle.trial_laws.proofs.MethodIds.{AreKnown}
use Rattle.trial_laws.proofs.NoKeymaps.{IsPlainAct, IsPlainTold, told_plain}
use Rattle.trial_laws.proofs.ToldHeard.{IsEvent, message_event}
use Rattle.trial_job_laws.proofs.PutHeard.{IsEventful, eventful}

-- a journal that a program can hold, in which the peer has the objects of the method's client
pub record IsHeldWith (p : ℕ) (journal : List Entry) : Type 0 where
  pub known : AreKnown (past_of journal).made p
  pub held : AreHeld journal
  pub few : length journal < 2 ^ 32

held_before : (p : ℕ) (e : Entry) (older : List Entry) → IsHeldWith p (e ∷ older) → IsHeldWith p older
held_before p e older a = record {
  known = λ m i s. a.known m (in_older (means e (length older + 1) (past_of older)).made (past_of older).made m i) s;
  held = a.held.1;
  few = (let few = a.few in omega arith);
}

-- so is what it begins with
pub held_base : (p : ℕ) (newer base : List Entry) → IsHeldWith p (newer ++ base) → IsHeldWith p base
held_base p [] base a = a
held_base p (e ∷ newer) base a = held_base p newer base (held_before p e (newer ++ base) a)

-- and the shell gave no keymap
pub record Asks (p : ℕ) (journal : List Entry) : Type 0 where
  pub stands : IsHeldWith p journal
  pub plain : AllByRecursion IsPlainAct (resolve journal)

asks_before : (p : ℕ) (e : Entry) (older : List Entry) → Asks p (e ∷ older) → Asks p older
asks_before p e older a = record { stands = held_before p e older a.stands; plain = a.plain.1 }

record IsFit (made : List Made) (t : Told) : Type 0 where
  read : IsToldRead made t
  write : IfSome (message_of made t.event) IsWritable
  plain : IsPlainTold t

told_eventful : (p : ℕ) (journal : List Entry) → IsHeldWith p journal → (t : Told) → IsFit (past_of journal).made t →
    TellsSo (past_of journal).made p (IsEventful method_objects) t
told_eventful p journal a t f m is own x q =
    let made : List Made = (past_of journal).made in
    let small : AreSmall made = all_small journal (all_bytes journal a.held) in
    let among : IsIn made m = (made_with made t.to m is).among in
    let r : IsReadAs m x = where_some (IsReadAs m) (message_of made t.event) x q (f.read m is) in
    eventful method_objects m x (small m among) (a.known m among own)
    (where_some IsWritable (message_of made t.event) x q f.write) r.interface r
    (where_some IsEvent (message_of made t.event) x q (message_event made t.event f.plain))

entry_eventful : (p : ℕ) (e : Entry) (older : List Entry) → Asks p (e ∷ older) →
    AllByRecursion (IsEventful method_objects) (entry_messages e older p)
entry_eventful p e older a =
    let made : List Made = (past_of (e ∷ older)).made in
    let ts : List Told = told (act_at e older) (resolve older) in
    let h = a.stands in
    told_each made p (IsEventful method_objects) ts
    (each_two (λ t. IsToldRead made t × IfSome (message_of made t.event) IsWritable) IsPlainTold
    (TellsSo made p (IsEventful method_objects)) ts
    (λ t k plain. told_eventful p (e ∷ older) h t (record { read = k.0; write = k.1; plain = plain }))
    (each_two (IsToldRead made) (λ t. IfSome (message_of made t.event) IsWritable)
    (λ t. IsToldRead made t × IfSome (message_of made t.event) IsWritable) ts (λ t r w. (r, w))
    (told_read e older h.held h.few) (told_writable e older h.held h.few))
    (told_plain (act_at e older) (resolve older) a.plain.0 a.plain.1))

pub put_eventful : (capacity : ℕ) (journal : List Entry) (p : ℕ) → Asks p journal →
    ArePut (IsEventful method_objects) (out_for capacity journal p).put.bytes
put_eventful capacity journal p a =
    put_messages (IsEventful method_objects) (Asks p) p (asks_before p) (entry_eventful p) capacity journal a
