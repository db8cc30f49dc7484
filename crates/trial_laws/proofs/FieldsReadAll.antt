-- A field's client reads all that its peer is told, where the bodies of all messages are bytes.
use Rattle.std.proofs.Common.{◌≡◌, ℕ, zero, suc, ◌+◌, Bool, true, false, List, [], ◌∷◌, ◌++◌, length, take, drop, Option, Some, refl, sym, ap, subst, ◌∙◌, arith, length-append, inr}
use Rattle.std.specs.Prelude.{IfSome}
use Rattle.std.specs.List.{AllByRecursion}
use Rattle.std.proofs.lemmas.List.{append_assoc, take-append-drop}
use Rattle.std.proofs.lemmas.Option.{same_Some}
use Rattle.wl_wire.specs.Messages.{IsMessage, AreMessages, messages, joined}
use Rattle.wl_proto.specs.declared.interface.Interface.{Interface}
use Rattle.wl_proto.specs.declared.interface.Interface.TheVariants as interface
use Rattle.wl_proto.specs.Rows.{Message}
use Rattle.wl_proto.specs.Spelling.{message_bytes}
use Rattle.wl_proto.specs.Spelled.{AreTokens}
use Rattle.relay_model.specs.declared.said.Told.{Told}
use Rattle.relay_model.specs.declared.said.Said.{Said}
use Rattle.relay_model.specs.declared.said.Said.TheVariants as said
use Rattle.relay_model.specs.Told.{told}
use Rattle.broker_model.specs.declared.journal.Entry.{Entry}
use Rattle.broker_model.specs.declared.journal.Entry.TheVariants as entries
use Rattle.broker_model.specs.Ids.{Made}
use Rattle.broker_model.specs.Groups.{message_of}
use Rattle.broker_model.specs.Out.{act_at, out_for}
use Rattle.broker_model.specs.Resolve.{means, past_of, resolve}
use Rattle.broker_model.proofs.IdsAreNames.{IsIn, made_with}
use Rattle.broker_telling.specs.Tells.{IsShort}
use Rattle.broker_core.proofs.ActTextsFit.{act_fits}
use Rattle.broker_core.proofs.ToldMessagesFit.{all_short}
use Rattle.client_side.specs.Client.{Client}
use Rattle.client_side.specs.Events.{object_in, field_objects}
use Rattle.client_side.specs.FieldState.{State}
use Rattle.trial_field.specs.Log as logs
use Rattle.trial_run.specs.Events.{event_of}
use Rattle.trial_run.specs.Hearing.{event_read, event_to, event_in}
use Rattle.trial_run.proofs.FirstMessages.{found_first}
use Rattle.broker_telling.specs.Sayable.{HasBytes, AreBytes}
use Rattle.broker_telling.specs.ToldRead.{IsWritable, IsForIts, IsReadAs}
use Rattle.broker_telling.proofs.ValuesSound.{request_sound}
use Rattle.broker_telling.proofs.ActsCanBeSaid.{Says}
use Rattle.broker_telling.proofs.ActsSayable.{EntrySays, sound_says, act_says}
use Rattle.broker_telling.proofs.ToldSayable.{CanSayEvent, told_says}
use Rattle.broker_telling.proofs.ToldKinds.{event_kind, message_kind, told_to_its_kind}
use Rattle.broker_telling.proofs.IdsSmall.{AreSmall, all_small, id_small}
use Rattle.broker_telling.proofs.EventsWritable.{IsAsked, writable, IsFieldKind, fields_asked}
use Rattle.broker_telling.proofs.WritableRead.{writable_read}
use Rattle.broker_telling.proofs.ToldIsRead.{each_two}
use Rattle.broker_telling.proofs.MessagesTold.{TellsSo, told_each}
use Rattle.broker_telling.proofs.MessagesPut.{entry_messages, ArePut, put_messages}
use Rattle.trial_laws.specs.FieldLogs.{events_in}
use Rattle.trial_laws.proofs.HeardInPieces.{HasHeard}
use Rattle.trial_laws.proofs.GroupsHeard.{SpellsOne, IsSpelled, spelled_on}
use Rattle.trial_laws.proofs.GroupsRead.{some_bytes}
use Rattle.trial_laws.proofs.ClientIds.{AreOwn}
use Rattle.trial_laws.proofs.BatchesRelayed.{AreShortBodies, all_fit, messages_joined}

-- ---- the acts of batches can be said

says_so : (e : Entry) (older : List Entry) → HasBytes e → EntrySays false e older
says_so (entries.Message q id opcode body) older h =
    λ peer x joined there m r. sound_says false m
    (request_sound x.interface opcode ((past_of older).waiting peer.label) body m h r)
says_so (entries.Shell step) older h = tt
says_so _ older h = tt

pub bytes_say : (journal : List Entry) → AreBytes journal → AllByRecursion (Says false) (resolve journal)
bytes_say [] h = tt
bytes_say (e ∷ older) h = (act_says false e older (says_so e older h.0), bytes_say older h.1)

-- ---- what a field's objects are told

is_kind : (i j : Interface) → (let o : Option Interface = Some j in o ≡ Some i) → IsFieldKind j → IsFieldKind i
is_kind i j e f = subst IsFieldKind (same_Some j i e) f

known_kind : (id : ℕ) (i : Interface) → object_in field_objects id ≡ Some i → IsFieldKind i
known_kind zero i e = cc
known_kind (suc zero) i e = is_kind i interface.Display e tt
known_kind (suc (suc zero)) i e = is_kind i interface.Registry e tt
known_kind (suc (suc (suc zero))) i e = is_kind i interface.Compositor e tt
known_kind (suc (suc (suc (suc zero)))) i e = is_kind i interface.Seat e tt
known_kind (suc (suc (suc (suc (suc zero))))) i e = is_kind i interface.TextInputManager e tt
known_kind (suc (suc (suc (suc (suc (suc zero)))))) i e = is_kind i interface.Surface e tt
known_kind (suc (suc (suc (suc (suc (suc (suc zero))))))) i e = is_kind i interface.TextInput e tt
known_kind (suc (suc (suc (suc (suc (suc (suc (suc n)))))))) i e = cc

-- the message has no token, and is an event
abbrev pub IsPlain : Message → Type 0
IsPlain x = AreTokens [] x.values × SpellsOne (event_of x)

not_asked : {A : Type 0} → false ≡ true → A
not_asked e = cc

pub plain_event : (made : List Made) (event : Said) → IsAsked false event → IfSome (message_of made event) IsPlain
plain_event made (said.Enter surface) a = ((tt, tt), tt)
plain_event made (said.Leave surface) a = ((tt, tt), tt)
plain_event made (said.Preedit t begin end) a = ((tt, (tt, (tt, tt))), tt)
plain_event made (said.CommitString t) a = ((tt, tt), tt)
plain_event made (said.Delete before after) a = ((tt, (tt, tt)), tt)
plain_event made (said.FieldDone serial) a = ((tt, tt), tt)
plain_event made said.Activate a = (tt, tt)
plain_event made said.Deactivate a = (tt, tt)
plain_event made (said.Surrounding t cursor anchor) a = not_asked a
plain_event made (said.ChangeCause cause) a = not_asked a
plain_event made (said.ContentType hint purpose) a = not_asked a
plain_event made said.MethodDone a = (tt, tt)
plain_event made said.Unavailable a = (tt, tt)
plain_event made (said.PopupRect x y width height) a = not_asked a
plain_event made (said.Keymap keymap) a = not_asked a
plain_event made (said.Key serial time key state) a = not_asked a
plain_event made (said.Mods serial mods) a = not_asked a
plain_event made (said.Repeat repeat) a = not_asked a
plain_event made (said.Global name i version) a = ((tt, (tt, (tt, tt))), tt)
plain_event made (said.CallbackDone value) a = ((tt, tt), tt)
plain_event made (said.DeleteId label) a = ((tt, tt), tt)
plain_event made (said.Capabilities value) a = ((tt, tt), tt)
plain_event made (said.Error object fault) a = ((tt, (tt, (tt, tt))), tt)
plain_event made (said.Pass time key state) a = tt
plain_event made (said.VMods mods) a = tt
plain_event made (said.Placed popup x y) a = tt

where_some : {A : Type 0} (P : A → Type 0) (o : Option A) (x : A) → o ≡ Some x → IfSome o P → P x
where_some P o x e h = subst (λ (u : Option _). IfSome u P) e h

-- the bytes are a message that the client reads
abbrev IsReadWhole : List ℕ → Type 0
IsReadWhole bytes = IsMessage bytes × SpellsOne (event_in field_objects bytes)

object_reads : (m : Made) (x : Message) → object_in field_objects m.id ≡ Some m.interface → IsReadAs m x → IsPlain x →
    IsReadWhole (message_bytes m.id x)
object_reads m x known r p =
    let bytes : List ℕ = message_bytes m.id x in
    let e : event_in field_objects bytes ≡ event_of x =
    ap (λ id. event_to (object_in field_objects id) bytes) r.to ∙ ap (λ (o : Option Interface). event_to o bytes) known
    ∙ ap event_read (r.reads [] p.0) in
    (r.whole, subst SpellsOne (sym e) p.1)

tells_read : (journal : List Entry) (p : ℕ) → AreOwn (past_of journal).made p 7 → AreBytes journal → (t : Told) →
    CanSayEvent false t → IsShort t →
    IsForIts (past_of journal).made t → TellsSo (past_of journal).made p IsReadWhole t
tells_read journal p h bytes t c s its m is own x q =
    let made : List Made = (past_of journal).made in
    let small : AreSmall made = all_small journal bytes in
    let among : IsIn made m = (made_with made t.to m is).among in
    let known : object_in field_objects m.id ≡ Some m.interface = h.known m among own in
    let same : x.interface ≡ m.interface =
    where_some (λ (y : Message). y.interface ≡ m.interface) (message_of made t.event) x q (its m is) in
    let kind : event_kind t.event ≡ Some x.interface =
    where_some (λ (y : Message). event_kind t.event ≡ Some y.interface) (message_of made t.event) x q
    (message_kind made t.event) in
    let asked : IsAsked false t.event =
    fields_asked false t.event m.interface (kind ∙ ap (λ (i : Interface). Some i) same)
    (known_kind m.id m.interface known) in
    let write : IsWritable x =
    where_some IsWritable (message_of made t.event) x q
    (writable false made t.event (λ label. id_small made label small) c asked (s made)) in
    object_reads m x known (writable_read m x (small m among) write same)
    (where_some IsPlain (message_of made t.event) x q (plain_event made t.event asked))

-- ---- all that is put

record Asks (p : ℕ) (journal : List Entry) : Type 0 where
  own : AreOwn (past_of journal).made p 7
  short : AreShortBodies journal
  bytes : AreBytes journal

pub in_older : (new made : List Made) (m : Made) → IsIn made m → IsIn (new ++ made) m
in_older [] made m i = i
in_older (x ∷ new) made m i = inr (in_older new made m i)

pub own_before : (new made : List Made) (p n : ℕ) → AreOwn (new ++ made) p n → AreOwn made p n
own_before new made p n own = record {
  within = λ m i s. own.within m (in_older new made m i) s;
  known = λ m i s. own.known m (in_older new made m i) s;
  once = λ a b i j s t q. own.once a b (in_older new made a i) (in_older new made b j) s t q;
}

asks_before : (p : ℕ) (e : Entry) (older : List Entry) → Asks p (e ∷ older) → Asks p older
asks_before p e older a = record {
  own = own_before (means e (length older + 1) (past_of older)).made (past_of older).made p 7 a.own;
  short = a.short.1;
  bytes = a.bytes.1;
}

entry_read : (p : ℕ) (e : Entry) (older : List Entry) → Asks p (e ∷ older) →
    AllByRecursion IsReadWhole (entry_messages e older p)
entry_read p e older a =
    let made : List Made = (past_of (e ∷ older)).made in
    let ts : List Told = told (act_at e older) (resolve older) in
    told_each made p IsReadWhole ts
    (each_two (λ t. CanSayEvent false t × IsShort t) (IsForIts made) (TellsSo made p IsReadWhole) ts
    (λ t k its. tells_read (e ∷ older) p a.own a.bytes t k.0 k.1 its)
    (each_two (CanSayEvent false) IsShort (λ t. CanSayEvent false t × IsShort t) ts (λ t c s. (c, s))
    (told_says false (act_at e older) (resolve older) tt (bytes_say (e ∷ older) a.bytes))
    (all_short (act_at e older) (resolve older) (act_fits e older a.short.0) (all_fit older a.short.1)))
    (told_to_its_kind e older))

-- what is put for the peer are messages that its client reads
pub record IsAllRead (bytes : List ℕ) : Type 0 where
  pub messages : List (List ℕ)
  pub is : bytes ≡ joined messages
  pub whole : AreMessages messages
  pub spelled : IsSpelled messages

each_spelled : (ms : List (List ℕ)) → AllByRecursion IsReadWhole ms → IsSpelled ms
each_spelled [] h = tt
each_spelled (m ∷ ms) h = (h.0.1, each_spelled ms h.1)

each_whole : (ms : List (List ℕ)) → AllByRecursion IsReadWhole ms → AreMessages ms
each_whole [] h = tt
each_whole (m ∷ ms) h = (h.0.0, each_whole ms h.1)

pub put_read : (capacity : ℕ) (journal : List Entry) (p : ℕ) → AreOwn (past_of journal).made p 7 →
    AreShortBodies journal → AreBytes journal →
    IsAllRead (out_for capacity journal p).put.bytes
put_read capacity journal p own short bytes =
    let put : ArePut IsReadWhole (out_for capacity journal p).put.bytes =
    put_messages IsReadWhole (Asks p) p (asks_before p) (entry_read p) capacity journal
    (record { own = own; short = short; bytes = bytes }) in
    record {
      messages = put.messages;
      is = put.is;
      whole = each_whole put.messages put.each;
      spelled = each_spelled put.messages put.each;
    }

-- ---- the client

-- who took a front of what is read heard all of that
pub reads_all : (put : List ℕ) (n : ℕ) (c : Client State) (own : List logs.Entry) → IsAllRead put →
    HasHeard (take n put) c own → c.is_bad ≡ false
reads_all put n c own r h = by c.is_bad refl
  where
    by : (b : Bool) → c.is_bad ≡ b → b ≡ false
    by false e = refl
    by true e =
        let x = some_bytes in
        let all : events_in (messages put) ≡ events_in (messages (take n put)) =
        ap (λ (l : List ℕ). events_in (messages l)) (sym (take-append-drop n put)) ∙ h.stuck e (drop n put) in
        let more : events_in (messages (put ++ x.0)) ≡ events_in (messages (take n put)) =
        ap (λ (l : List ℕ). events_in (messages (l ++ x.0))) (sym (take-append-drop n put))
        ∙ ap (λ (l : List ℕ). events_in (messages l)) (append_assoc (take n put) (drop n put) x.0)
        ∙ h.stuck e (drop n put ++ x.0) in
        let found : messages put ≡ r.messages = ap messages r.is ∙ messages_joined r.messages r.whole in
        let parts : events_in (messages (put ++ x.0)) ≡ events_in r.messages ++ events_in (messages x.0) =
        ap (λ (l : List ℕ). events_in (messages (l ++ x.0))) r.is
        ∙ ap events_in (found_first r.messages x.0 r.whole) ∙ spelled_on r.messages r.spelled (messages x.0) in
        let longer : length (events_in r.messages ++ events_in (messages x.0)) ≡ length (events_in r.messages) =
        ap length (sym parts ∙ more ∙ sym all ∙ ap events_in found) in
        let sum : length (events_in r.messages ++ events_in (messages x.0))
        ≡ length (events_in r.messages) + length (events_in (messages x.0)) =
        length-append (events_in r.messages) (events_in (messages x.0)) in
        let some : length (events_in (messages x.0)) ≡ length (x.1 ∷ x.2) = ap length x.3 in
        absurd (omega arith)
