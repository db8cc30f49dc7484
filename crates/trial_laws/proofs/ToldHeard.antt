-- What a journal tells the method's peer, its client hears, event for event.
use Rattle.std.proofs.Common.{◌≡◌, ℕ, ◌+◌, ◌^◌, ◌<◌, Bool, true, false, List, [], ◌∷◌, ◌++◌, length, Option, Some, None, refl, sym, ap, subst, ◌∙◌, arith}
use Rattle.std.specs.Prelude.{◌==◌, if◌then◌else◌, IfSome}
use Rattle.std.specs.List.{AllByRecursion}
use Rattle.std.proofs.lemmas.List.{append-nil}
use Rattle.std.proofs.lemmas.Bool.{eqb-true}
use Rattle.wl_wire.specs.Messages.{IsMessage, AreMessages, messages, joined}
use Rattle.wl_proto.specs.declared.interface.Interface.{Interface}
use Rattle.wl_proto.specs.declared.event.Event.{Event}
use Rattle.wl_proto.specs.Rows.{Message}
use Rattle.wl_proto.specs.Spelling.{message_bytes}
use Rattle.wl_proto.specs.Spelled.{AreTokens}
use Rattle.relay_model.specs.declared.said.Told.{Told}
use Rattle.relay_model.specs.declared.said.Said.{Said}
use Rattle.relay_model.specs.declared.said.Said.TheVariants as said
use Rattle.relay_model.specs.Told.{told}
use Rattle.client_side.specs.Events.{object_in, method_objects}
use Rattle.broker_model.specs.declared.journal.Entry.{Entry}
use Rattle.broker_model.specs.Ids.{Made, made_as}
use Rattle.broker_model.specs.Groups.{message_of, followed_by}
use Rattle.broker_model.specs.Resolve.{means, past_of, resolve}
use Rattle.broker_model.specs.Out.{Outgoing, act_at, group_at, fits, before_group, out_for}
use Rattle.broker_model.proofs.IdsAreNames.{made_with}
use Rattle.trial_run.specs.Events.{event_of}
use Rattle.trial_run.specs.Hearing.{event_read, event_to, event_in}
use Rattle.broker_telling.specs.Sayable.{AreHeld}
use Rattle.broker_telling.specs.ToldRead.{IsReadAs, IsToldRead}
use Rattle.broker_telling.proofs.MessagesTold.{told_messages, piece_messages, joined_both}
use Rattle.broker_telling.proofs.MessagesPut.{entry_messages, entry_bytes}
use Rattle.broker_telling.proofs.ToldIsRead.{told_read}
use Rattle.trial_laws.specs.FieldLogs.{then_events}
use Rattle.trial_laws.proofs.BatchesRelayed.{messages_joined}
use Rattle.trial_laws.proofs.FieldsReadAll.{in_older}
use Rattle.trial_laws.proofs.GroupsHeard.{SpellsOne}
use Rattle.trial_laws.specs.TypedLogs.{events_in}
use Rattle.trial_laws.specs.ToldEvents.{event_said, event_for, events_for, events_told}
use Rattle.trial_laws.proofs.MethodIds.{AreKnown}
use Rattle.trial_laws.proofs.NoKeymaps.{IsPlain, IsPlainTold, all_plain, act_plain, told_plain}
use Rattle.trial_laws.proofs.TrialSteps.{HasShell}

-- ---- messages that are heard

-- each message is whole, and spells its event
abbrev pub AreHeardAs : List (List ℕ) → List Event → Type 0
AreHeardAs [] [] = Unit {0}
AreHeardAs (m ∷ ms) (event ∷ events) =
    IsMessage m × (event_in method_objects m ≡ Some event) × AreHeardAs ms events
AreHeardAs _ _ = ⊥

heard-append : (ms ns : List (List ℕ)) (es fs : List Event) → AreHeardAs ms es → AreHeardAs ns fs →
    AreHeardAs (ms ++ ns) (es ++ fs)
heard-append [] ns [] fs h k = k
heard-append [] ns (e ∷ es) fs h k = absurd h
heard-append (m ∷ ms) ns [] fs h k = absurd h
heard-append (m ∷ ms) ns (e ∷ es) fs h k = (h.0, h.1, heard-append ms ns es fs h.2 k)

pub heard_whole : (ms : List (List ℕ)) (es : List Event) → AreHeardAs ms es → AreMessages ms
heard_whole [] es h = tt
heard_whole (m ∷ ms) [] h = absurd h
heard_whole (m ∷ ms) (e ∷ es) h = (h.0, heard_whole ms es h.2)

-- they are heard, and what stands behind them
pub heard_then : (ms : List (List ℕ)) (es : List Event) (more : List (List ℕ)) → AreHeardAs ms es →
    events_in (ms ++ more) ≡ es ++ events_in more
heard_then [] [] more h = refl
heard_then [] (e ∷ es) more h = absurd h
heard_then (m ∷ ms) [] more h = absurd h
heard_then (m ∷ ms) (e ∷ es) more h =
    ap (λ (o : Option Event). then_events o (events_in (ms ++ more))) h.1
    ∙ ap (λ (l : List Event). e ∷ l) (heard_then ms es more h.2)

-- ---- one thing that is told

-- the message needs no token, and is an event
abbrev pub IsEvent : Message → Type 0
IsEvent x = AreTokens [] x.values × SpellsOne (event_of x)

pub message_event : (made : List Made) (event : Said) → IsPlain event → IfSome (message_of made event) IsEvent
message_event made (said.Enter surface) a = ((tt, tt), tt)
message_event made (said.Leave surface) a = ((tt, tt), tt)
message_event made (said.Preedit t begin end) a = ((tt, (tt, (tt, tt))), tt)
message_event made (said.CommitString t) a = ((tt, tt), tt)
message_event made (said.Delete before after) a = ((tt, (tt, tt)), tt)
message_event made (said.FieldDone serial) a = ((tt, tt), tt)
message_event made said.Activate a = (tt, tt)
message_event made said.Deactivate a = (tt, tt)
message_event made (said.Surrounding t cursor anchor) a = ((tt, (tt, (tt, tt))), tt)
message_event made (said.ChangeCause cause) a = ((tt, tt), tt)
message_event made (said.ContentType hint purpose) a = ((tt, (tt, tt)), tt)
message_event made said.MethodDone a = (tt, tt)
message_event made said.Unavailable a = (tt, tt)
message_event made (said.PopupRect x y width height) a = ((tt, (tt, (tt, (tt, tt)))), tt)
message_event made (said.Keymap keymap) a = absurd a
message_event made (said.Key serial time key state) a = ((tt, (tt, (tt, (tt, tt)))), tt)
message_event made (said.Mods serial mods) a = ((tt, (tt, (tt, (tt, (tt, tt))))), tt)
message_event made (said.Repeat repeat) a = ((tt, (tt, tt)), tt)
message_event made (said.Global name i version) a = ((tt, (tt, (tt, tt))), tt)
message_event made (said.CallbackDone value) a = ((tt, tt), tt)
message_event made (said.DeleteId label) a = ((tt, tt), tt)
message_event made (said.Capabilities value) a = ((tt, tt), tt)
message_event made (said.Error object fault) a = ((tt, (tt, (tt, tt))), tt)
message_event made (said.Pass time key state) a = tt
message_event made (said.VMods mods) a = tt
message_event made (said.Placed popup x y) a = tt

one_heard : (bytes : List ℕ) (x : Message) (o : Option Event) → event_of x ≡ o → SpellsOne o → IsMessage bytes →
    event_in method_objects bytes ≡ event_of x → AreHeardAs (bytes ∷ []) (then_events o [])
one_heard bytes x None q s w e = absurd s
one_heard bytes x (Some event) q s w e = (w, e ∙ q, tt)

pub object_hears : (object : Made) (x : Message) → object_in method_objects object.id ≡ Some object.interface →
    IsReadAs object x → IsEvent x → AreHeardAs (message_bytes object.id x ∷ []) (event_said (Some x))
object_hears object x known r p =
    let bytes : List ℕ = message_bytes object.id x in
    let e : event_in method_objects bytes ≡ event_of x =
    ap (λ id. event_to (object_in method_objects id) bytes) r.to
    ∙ ap (λ (o : Option Interface). event_to o bytes) known ∙ ap event_read (r.reads [] p.0) in
    one_heard bytes x (event_of x) refl p.1 r.whole e

piece_heard : (made : List Made) (p : ℕ) (event : Said) (o : Option Made) →
    ((object : Made) → o ≡ Some object → object.peer ≡ p → object_in method_objects object.id ≡ Some object.interface) →
    ((object : Made) → o ≡ Some object → IfSome (message_of made event) (IsReadAs object)) → IsPlain event →
    AreHeardAs (piece_messages made p event o) (event_for made p event o)
piece_heard made p event None known reads plain = tt
piece_heard made p event (Some object) known reads plain =
    by (object.peer == p) refl (message_of made event) refl (reads object refl) (message_event made event plain)
  where
    by : (b : Bool) → (object.peer == p) ≡ b → (m : Option Message) → message_of made event ≡ m →
        IfSome m (IsReadAs object) → IfSome m IsEvent →
        AreHeardAs (piece_messages made p event (Some object)) (event_for made p event (Some object))
    by false e m q r i = rw e tt
    by true e None q r i = rw (e, q) tt
    by true e (Some x) q r i = rw (e, q) (object_hears object x (known object refl (eqb-true object.peer p e)) r i)

told_heard : (made : List Made) (p : ℕ) (ts : List Told) → AreKnown made p → AllByRecursion (IsToldRead made) ts →
    AllByRecursion IsPlainTold ts → AreHeardAs (told_messages made p ts) (events_for made p ts)
told_heard made p [] known reads plain = tt
told_heard made p (t ∷ ts) known reads plain =
    heard-append (piece_messages made p t.event (made_as made t.to)) (told_messages made p ts)
    (event_for made p t.event (made_as made t.to)) (events_for made p ts)
    (piece_heard made p t.event (made_as made t.to)
    (λ object is peer. known object (made_with made t.to object is).among peer) reads.0 plain.0)
    (told_heard made p ts known reads.1 plain.1)

-- ---- all that is put

-- the journal can be held, says no keymap, and has fewer than 2^32 entries
pub record IsSaid (journal : List Entry) : Type 0 where
  pub held : AreHeld journal
  pub shells : AllByRecursion HasShell journal
  pub few : length journal < 2 ^ 32

entry_heard : (e : Entry) (older : List Entry) (p : ℕ) → AreKnown (past_of (e ∷ older)).made p → IsSaid (e ∷ older) →
    AreHeardAs (entry_messages e older p)
    (events_for (past_of (e ∷ older)).made p (told (act_at e older) (resolve older)))
entry_heard e older p known h =
    told_heard (past_of (e ∷ older)).made p (told (act_at e older) (resolve older)) known
    (told_read e older h.held h.few)
    (told_plain (act_at e older) (resolve older) (act_plain e older h.shells.0) (all_plain older h.shells.1))

-- the bytes are messages that spell these events
pub record SpellsAll (bytes : List ℕ) (events : List Event) : Type 0 where
  pub messages : List (List ℕ)
  pub is : bytes ≡ joined messages
  pub heard : AreHeardAs messages events

spells_more : (bytes more : List ℕ) (events later : List Event) (ms : List (List ℕ)) → more ≡ joined ms →
    AreHeardAs ms later → SpellsAll bytes events → SpellsAll (bytes ++ more) (events ++ later)
spells_more bytes more events later ms is h k = record {
  messages = k.messages ++ ms;
  is = ap (λ (l : List ℕ). l ++ more) k.is ∙ ap (λ (l : List ℕ). joined k.messages ++ l) is
      ∙ sym (joined_both k.messages ms);
  heard = heard-append k.messages ms events later k.heard h;
}

pub put_heard : (capacity : ℕ) (journal : List Entry) (p : ℕ) → AreKnown (past_of journal).made p → IsSaid journal →
    SpellsAll (out_for capacity journal p).put.bytes (events_told capacity journal p)
put_heard capacity [] p known h = record { messages = []; is = refl; heard = tt }
put_heard capacity (e ∷ older) p known h =
    by (fits capacity (group_at e older p) (before_group e older p (out_for capacity older p)))
    (put_heard capacity older p (λ m i s. known m (in_older (means e (length older + 1) (past_of older)).made
    (past_of older).made m i) s)
    (record { held = h.held.1; shells = h.shells.1; few = (let few = h.few in omega arith) }))
  where
    out : Outgoing
    out = before_group e older p (out_for capacity older p)

    by : (b : Bool) → SpellsAll (out_for capacity older p).put.bytes (events_told capacity older p) →
        SpellsAll (if b then record out { put = followed_by out.put (group_at e older p) }
        else record out { choked = true }).put.bytes
        (events_told capacity older p ++ (if b then events_for (past_of (e ∷ older)).made p
        (told (act_at e older) (resolve older)) else []))
    by false k =
        subst (λ (l : List Event). SpellsAll (out_for capacity older p).put.bytes l)
        (sym (append-nil (events_told capacity older p))) k
    by true k =
        spells_more (out_for capacity older p).put.bytes (group_at e older p).bytes (events_told capacity older p)
        (events_for (past_of (e ∷ older)).made p (told (act_at e older) (resolve older)))
        (entry_messages e older p) (entry_bytes e older p) (entry_heard e older p known h) k

pub spelled_events : (bytes : List ℕ) (events : List Event) → SpellsAll bytes events →
    events_in (messages bytes) ≡ events
spelled_events bytes events h =
    ap events_in (ap messages h.is ∙ messages_joined h.messages (heard_whole h.messages events h.heard))
    ∙ ap events_in (sym (append-nil h.messages)) ∙ heard_then h.messages events [] h.heard ∙ append-nil events
