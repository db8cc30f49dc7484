-- What is put for a field's peer are messages that spell events to the objects of its client
use Rattle.std.proofs.Common.{◌≡◌, ℕ, zero, suc, ◌+◌, ◌^◌, ◌<◌, false, List, [], ◌∷◌, length, Option, Some, None, refl, sym, ap, subst, ◌∙◌, arith}
use Rattle.std.specs.List.{AllByRecursion}
use Rattle.std.proofs.lemmas.Option.{same_Some}
use Rattle.wl_wire.specs.Messages.{IsMessage, AreMessages, id_of, opcode_of, body_of}
use Rattle.wl_proto.specs.declared.interface.Interface.{Interface}
use Rattle.wl_proto.specs.declared.interface.Interface.TheVariants.{Display, Registry, Compositor, Seat, TextInputManager, Surface, TextInput}
use Rattle.wl_proto.specs.declared.event.Event.{Event}
use Rattle.wl_proto.specs.Rows.{Message, event_kinds}
use Rattle.wl_proto.specs.Spelling.{message_bytes}
use Rattle.wl_proto.specs.Spelled.{IsRead, Spelled}
use Rattle.wl_proto.proofs.ValuesReadBack.{spelled_once}
use Rattle.wl_proto.proofs.WrittenIsWhole.{written_whole}
use Rattle.relay_model.specs.declared.said.Told.{Told}
use Rattle.relay_model.specs.Told.{told}
use Rattle.broker_model.specs.declared.journal.Entry.{Entry}
use Rattle.broker_model.specs.Groups.{message_of}
use Rattle.broker_model.specs.Ids.{Made}
use Rattle.broker_model.specs.Out.{act_at, out_for}
use Rattle.broker_model.specs.Resolve.{means, past_of, resolve}
use Rattle.broker_model.proofs.IdsAreNames.{IsIn, made_with}
use Rattle.broker_telling.specs.Tells.{IsShort}
use Rattle.broker_core.proofs.ActTextsFit.{act_fits}
use Rattle.broker_core.proofs.ToldMessagesFit.{all_short}
use Rattle.client_side.specs.Events.{object_in, field_objects, IsEventOf, IsEventTo}
use Rattle.trial_run.specs.Events.{event_of}
use Rattle.trial_run.proofs.EventsBack.{event_back}
use Rattle.broker_telling.specs.Sayable.{AreBytes}
use Rattle.broker_telling.specs.ToldRead.{IsWritable, IsForIts, IsReadAs}
use Rattle.broker_telling.proofs.ToldSayable.{CanSayEvent, told_says}
use Rattle.broker_telling.proofs.ToldKinds.{event_kind, message_kind, told_to_its_kind}
use Rattle.broker_telling.proofs.IdsSmall.{AreSmall, all_small, id_small}
use Rattle.broker_telling.proofs.EventsWritable.{IsAsked, writable, IsFieldKind, fields_asked}
use Rattle.broker_telling.proofs.WritableRead.{writable_read}
use Rattle.broker_telling.proofs.ToldIsRead.{each_two}
use Rattle.broker_telling.proofs.MessagesTold.{TellsSo, told_each}
use Rattle.broker_telling.proofs.MessagesPut.{entry_messages, ArePut, put_messages}
use Rattle.trial_laws.proofs.BatchesRelayed.{AreShortBodies, all_fit}
use Rattle.trial_laws.proofs.ClientIds.{AreOwn}
use Rattle.trial_laws.proofs.FieldsReadAll.{bytes_say, in_older, IsPlain, plain_event}
use Rattle.trial_laws.proofs.GroupsHeard.{SpellsOne, IsSpelled, where_some}
use Rattle.trial_job_laws.proofs.EventsRead.{is_read}

-- the bytes are a message that spells an event to an object of the client
pub record IsEventful (objects : List Interface) (m : List ℕ) : Type 0 where
  pub whole : IsMessage m
  pub event : Event
  pub is : IsEventOf (object_in objects (id_of m)) m event

-- ---- one thing that is told

is_kind : (i j : Interface) → i ≡ j → IsFieldKind i → IsFieldKind j
is_kind i j e f = subst IsFieldKind e f

known_kind : (id : ℕ) (i : Interface) → object_in field_objects id ≡ Some i → IsFieldKind i
known_kind zero i e = cc
known_kind (suc zero) i e = is_kind Display i (same_Some Display i e) tt
known_kind (suc (suc zero)) i e = is_kind Registry i (same_Some Registry i e) tt
known_kind (suc (suc (suc zero))) i e = is_kind Compositor i (same_Some Compositor i e) tt
known_kind (suc (suc (suc (suc zero)))) i e = is_kind Seat i (same_Some Seat i e) tt
known_kind (suc (suc (suc (suc (suc zero))))) i e = is_kind TextInputManager i (same_Some TextInputManager i e) tt
known_kind (suc (suc (suc (suc (suc (suc zero)))))) i e = is_kind Surface i (same_Some Surface i e) tt
known_kind (suc (suc (suc (suc (suc (suc (suc zero))))))) i e = is_kind TextInput i (same_Some TextInput i e) tt
known_kind (suc (suc (suc (suc (suc (suc (suc (suc n)))))))) i e = cc

spells_by : (x : Message) (o : Option Event) → event_of x ≡ o → SpellsOne o → (e : Event) × (event_of x ≡ Some e)
spells_by x None q s = absurd s
spells_by x (Some e) q s = (e, q)

-- a message to an object that the client knows spells an event
pub eventful : (objects : List Interface) (object : Made) (x : Message) → object.id < 2 ^ 32 →
    object_in objects object.id ≡ Some object.interface → IsWritable x → x.interface ≡ object.interface →
    IsReadAs object x → IsPlain x → IsEventful objects (message_bytes object.id x)
eventful objects object x low known w same r p =
    let bytes : List ℕ = message_bytes object.id x in
    let e = spells_by x (event_of x) refl p.1 in
    let written = written_whole object.id x low w.opcode w.size in
    let kinds : event_kinds object.interface (opcode_of bytes) ≡ Some w.row =
    ap (λ n. event_kinds object.interface n) r.opcode
    ∙ ap (λ (i : Interface). event_kinds i x.opcode) (sym same) ∙ w.is in
    let read : IsRead (event_kinds object.interface (opcode_of bytes)) object.interface (opcode_of bytes) []
    (body_of bytes) x =
    record {
      interface-is = same;
      opcode-is = sym r.opcode;
      row = w.row;
      row-is = kinds;
      spelled = subst (Spelled w.row x.values) (sym written.3)
          (spelled_once w.row x.values w.kinds (let size = w.size in omega arith));
      tokens-are = p.0;
    } in
    let there : object_in objects (id_of bytes) ≡ Some object.interface =
    ap (object_in objects) r.to ∙ known in
    record {
      whole = r.whole;
      event = e.0;
      is = subst (λ (o : Option Interface). IsEventTo o (opcode_of bytes) (body_of bytes) e.0) (sym there)
          (subst (λ (y : Message). IsRead (event_kinds object.interface (opcode_of bytes)) object.interface
          (opcode_of bytes) [] (body_of bytes) y) (sym (event_back x e.0 e.1)) read);
    }

-- ---- all that is put

record Asks (p : ℕ) (journal : List Entry) : Type 0 where
  own : AreOwn (past_of journal).made p 7
  short : AreShortBodies journal
  bytes : AreBytes journal

asks_before : (p : ℕ) (e : Entry) (older : List Entry) → Asks p (e ∷ older) → Asks p older
asks_before p e older a =
    let new : List Made = (means e (length older + 1) (past_of older)).made in
    let made : List Made = (past_of older).made in
    record {
      own = record {
        within = λ m i s. a.own.within m (in_older new made m i) s;
        known = λ m i s. a.own.known m (in_older new made m i) s;
        once = λ x y i j s t q. a.own.once x y (in_older new made x i) (in_older new made y j) s t q;
      };
      short = a.short.1;
      bytes = a.bytes.1;
    }

told_eventful : (p : ℕ) (journal : List Entry) → Asks p journal → (t : Told) → CanSayEvent false t → IsShort t →
    IsForIts (past_of journal).made t → TellsSo (past_of journal).made p (IsEventful field_objects) t
told_eventful p journal a t c s its m is own x q =
    let made : List Made = (past_of journal).made in
    let small : AreSmall made = all_small journal a.bytes in
    let among : IsIn made m = (made_with made t.to m is).among in
    let known : object_in field_objects m.id ≡ Some m.interface = a.own.known m among own in
    let same : x.interface ≡ m.interface =
    where_some (λ (y : Message). y.interface ≡ m.interface) (message_of made t.event) x q (its m is) in
    let kind : event_kind t.event ≡ Some x.interface =
    where_some (λ (y : Message). event_kind t.event ≡ Some y.interface) (message_of made t.event) x q
    (message_kind made t.event) in
    let asked : IsAsked false t.event =
    fields_asked false t.event m.interface (kind ∙ ap (λ (i : Interface). Some i) same)
    (known_kind m.id m.interface known) in
    let write : IsWritable x =
    where_some IsWritable (message_of made t.event) x q
    (writable false made t.event (λ label. id_small made label small) c asked (s made)) in
    eventful field_objects m x (small m among) known write same (writable_read m x (small m among) write same)
    (where_some IsPlain (message_of made t.event) x q (plain_event made t.event asked))

entry_eventful : (p : ℕ) (e : Entry) (older : List Entry) → Asks p (e ∷ older) →
    AllByRecursion (IsEventful field_objects) (entry_messages e older p)
entry_eventful p e older a =
    let made : List Made = (past_of (e ∷ older)).made in
    let ts : List Told = told (act_at e older) (resolve older) in
    told_each made p (IsEventful field_objects) ts
    (each_two (λ t. CanSayEvent false t × IsShort t) (IsForIts made) (TellsSo made p (IsEventful field_objects)) ts
    (λ t k its. told_eventful p (e ∷ older) a t k.0 k.1 its)
    (each_two (CanSayEvent false) IsShort (λ t. CanSayEvent false t × IsShort t) ts (λ t c s. (c, s))
    (told_says false (act_at e older) (resolve older) tt (bytes_say (e ∷ older) a.bytes))
    (all_short (act_at e older) (resolve older) (act_fits e older a.short.0) (all_fit older a.short.1)))
    (told_to_its_kind e older))

pub put_eventful : (capacity : ℕ) (journal : List Entry) (p : ℕ) → AreOwn (past_of journal).made p 7 →
    AreShortBodies journal → AreBytes journal → ArePut (IsEventful field_objects) (out_for capacity journal p).put.bytes
put_eventful capacity journal p own short bytes =
    put_messages (IsEventful field_objects) (Asks p) p (asks_before p) (entry_eventful p) capacity journal
    (record { own = own; short = short; bytes = bytes })

pub eventful_whole : (objects : List Interface) (ms : List (List ℕ)) → AllByRecursion (IsEventful objects) ms →
    AreMessages ms
eventful_whole objects [] h = tt
eventful_whole objects (m ∷ ms) h = (h.0.whole, eventful_whole objects ms h.1)

pub eventful_spelled : (ms : List (List ℕ)) → AllByRecursion (IsEventful field_objects) ms → IsSpelled ms
eventful_spelled [] h = tt
eventful_spelled (m ∷ ms) h = (
  subst SpellsOne (sym (is_read (object_in field_objects (id_of m)) m h.0.event h.0.is)) tt,
  eventful_spelled ms h.1,
)
