-- What a field's client hears in the messages of groups.
use Rattle.std.proofs.Common.{◌≡◌, ℕ, zero, suc, ◌≤◌, List, [], ◌∷◌, ◌++◌, Option, Some, None, Result, Ok, Err, refl, sym, ap, subst, ◌∙◌, arith, inl, inr, ◌⊎◌}
use Rattle.std.specs.Prelude.{IfSome}
use Rattle.std.specs.List.{AllByRecursion}
use Rattle.std.proofs.lemmas.List.{append-nil, append_assoc}
use Rattle.std.proofs.lemmas.Option.{same_Some}
use Rattle.wl_wire.specs.Messages.{IsMessage, id_of, opcode_of, body_of}
use Rattle.wl_proto.specs.declared.interface.Interface.{Interface}
use Rattle.wl_proto.specs.declared.interface.Interface.TheVariants as interface
use Rattle.wl_proto.specs.declared.refuse.Refuse.{Refuse}
use Rattle.wl_proto.specs.declared.event.Event.{Event}
use Rattle.wl_proto.specs.declared.event.Event.TheVariants as events
use Rattle.wl_proto.specs.Grammar.{Value}
use Rattle.wl_proto.specs.Rows.{Message, message, event_kinds, event_message}
use Rattle.wl_proto.specs.Reading.{values_at, all_read, by_row, event_reading}
use Rattle.wl_proto.specs.Spelling.{message_bytes, message_len}
use Rattle.wl_proto.proofs.WrittenIsWhole.{written_whole}
use Rattle.relay_model.specs.declared.said.Said.{Said}
use Rattle.relay_model.specs.declared.said.Said.TheVariants as said
use Rattle.relay_model.specs.declared.said.Told.{Told}
use Rattle.trial_field.specs.Log.{Batch, no_edits}
use Rattle.client_side.specs.Events.{object_in, field_objects}
use Rattle.client_side.specs.Happenings.{Happening, edited, batch, entered, left}
use Rattle.client_side.specs.FieldState.{logged}
use Rattle.broker_model.specs.Ids.{Made}
use Rattle.broker_model.specs.Groups.{message_of}
use Rattle.broker_telling.specs.Tells.{IsShort}
use Rattle.trial_run.specs.Hearing.{event_read, event_to, event_in}
use Rattle.trial_run.proofs.EventsBack.{event_back}
use Rattle.trial_laws.specs.FieldLogs.{then_events, events_in, waiting_after, happenings}
use Rattle.trial_laws.specs.RelayedBatches.{batches_in, IsFrontOf}
use Rattle.trial_laws.proofs.HeardInPieces.{waiting, happenings-append, waiting-append}

-- ---- lists of messages

-- the message spells an event
abbrev pub SpellsOne : Option Event → Type 0
SpellsOne None = ⊥
SpellsOne (Some event) = Unit {0}

-- all do, or behind one that does not nothing is heard
abbrev pub IsSpelled : List (List ℕ) → Type 0
IsSpelled [] = Unit {0}
IsSpelled (m ∷ ms) = SpellsOne (event_in field_objects m) × IsSpelled ms

abbrev pub IsStopped : List (List ℕ) → Type 0
IsStopped ms = (more : List (List ℕ)) → events_in (ms ++ more) ≡ events_in ms

next_on : (m : List ℕ) (ms more : List (List ℕ)) (o : Option Event) → event_in field_objects m ≡ o → SpellsOne o →
    events_in (ms ++ more) ≡ events_in ms ++ events_in more →
    then_events o (events_in (ms ++ more)) ≡ then_events o (events_in ms) ++ events_in more
next_on m ms more None e h k = absurd h
next_on m ms more (Some event) e h k = ap (λ (l : List Event). event ∷ l) k

pub spelled_on : (ms : List (List ℕ)) → IsSpelled ms → (more : List (List ℕ)) →
    events_in (ms ++ more) ≡ events_in ms ++ events_in more
spelled_on [] h more = refl
spelled_on (m ∷ ms) h more = next_on m ms more (event_in field_objects m) refl h.0 (spelled_on ms h.1 more)

spelled-append : (xs ys : List (List ℕ)) → IsSpelled xs → IsSpelled ys → IsSpelled (xs ++ ys)
spelled-append [] ys h k = k
spelled-append (x ∷ xs) ys h k = (h.0, spelled-append xs ys h.1 k)

pub spelled_left : (xs ys : List (List ℕ)) → IsSpelled (xs ++ ys) → IsSpelled xs
spelled_left [] ys h = tt
spelled_left (x ∷ xs) ys h = (h.0, spelled_left xs ys h.1)

spelled_right : (xs ys : List (List ℕ)) → IsSpelled (xs ++ ys) → IsSpelled ys
spelled_right [] ys h = h
spelled_right (x ∷ xs) ys h = spelled_right xs ys h.1

next_either : (m : List ℕ) (ms : List (List ℕ)) (o : Option Event) → event_in field_objects m ≡ o →
    IsSpelled ms ⊎ IsStopped ms → IsSpelled (m ∷ ms) ⊎ IsStopped (m ∷ ms)
next_either m ms None e k = inr (λ more.
    ap (λ (x : Option Event). then_events x (events_in (ms ++ more))) e
    ∙ ap (λ (x : Option Event). then_events x (events_in ms)) (sym e))
next_either m ms (Some event) e (inl k) = inl (subst SpellsOne (sym e) tt, k)
next_either m ms (Some event) e (inr k) = inr (λ more.
    ap (λ (x : Option Event). then_events x (events_in (ms ++ more))) e
    ∙ ap (λ (l : List Event). event ∷ l) (k more)
    ∙ ap (λ (x : Option Event). then_events x (events_in ms)) (sym e))

pub either_heard : (ms : List (List ℕ)) → IsSpelled ms ⊎ IsStopped ms
either_heard [] = inl tt
either_heard (m ∷ ms) = next_either m ms (event_in field_objects m) refl (either_heard ms)

-- what stands at the front of messages is heard at the front
pub front_heard : (ms more : List (List ℕ)) → IsFrontOf (events_in ms) (events_in (ms ++ more))
front_heard ms more = by (either_heard ms)
  where
    by : IsSpelled ms ⊎ IsStopped ms → IsFrontOf (events_in ms) (events_in (ms ++ more))
    by (inl k) = record { rest = events_in more; is = sym (spelled_on ms k more) }
    by (inr k) = record { rest = []; is = append-nil (events_in ms) ∙ sym (k more) }

pub batches-append : (xs ys : List Happening) → batches_in (xs ++ ys) ≡ batches_in xs ++ batches_in ys
batches-append [] ys = refl
batches-append (edited edit ∷ xs) ys = batches-append xs ys
batches-append (batch edits serial ∷ xs) ys = ap (λ (l : List Happening). batch edits serial ∷ l) (batches-append xs ys)
batches-append (entered ∷ xs) ys = batches-append xs ys
batches-append (left ∷ xs) ys = batches-append xs ys

pub front_batches : (ms more : List (List ℕ)) →
    IsFrontOf (batches_in (happenings (events_in ms) no_edits))
    (batches_in (happenings (events_in (ms ++ more)) no_edits))
front_batches ms more =
    let f = front_heard ms more in
    record {
      rest = batches_in (happenings f.rest (waiting (events_in ms) no_edits));
      is =
          sym (batches-append (happenings (events_in ms) no_edits)
          (happenings f.rest (waiting (events_in ms) no_edits)))
          ∙ ap batches_in (sym (happenings-append (events_in ms) f.rest no_edits))
          ∙ ap (λ (l : List Event). batches_in (happenings l no_edits)) f.is;
    }

-- ---- what messages tell, one group behind the other

-- the messages tell these batches, and no edits wait; or the client stopped after the first of them
pub record TellsAll (ms : List (List ℕ)) (told : List Happening) : Type 0 where
  pub spelled : IsSpelled ms
  pub waits : waiting (events_in ms) no_edits ≡ no_edits
  pub is : batches_in (happenings (events_in ms) no_edits) ≡ told

pub record TellsFront (ms : List (List ℕ)) (told : List Happening) : Type 0 where
  pub stopped : IsStopped ms
  pub front : IsFrontOf (batches_in (happenings (events_in ms) no_edits)) told

abbrev pub Tells : List (List ℕ) → List Happening → Type 0
Tells ms told = TellsAll ms told ⊎ TellsFront ms told

pub tells_nothing : Tells [] []
tells_nothing = inl (record { spelled = tt; waits = refl; is = refl })

pub tells_front : (ms : List (List ℕ)) (told : List Happening) → Tells ms told →
    IsFrontOf (batches_in (happenings (events_in ms) no_edits)) told
tells_front ms told (inl g) = record { rest = []; is = append-nil _ ∙ g.is }
tells_front ms told (inr s) = s.front

-- a group tells its own batches, behind which no edits wait
abbrev pub GroupOf : List (List ℕ) → List Happening → Type 0
GroupOf gs own =
    (batches_in (happenings (events_in gs) no_edits) ≡ own)
    × (IsSpelled gs → waiting (events_in gs) no_edits ≡ no_edits)

pub tells_more : (ms gs : List (List ℕ)) (told own : List Happening) → Tells ms told → GroupOf gs own →
    Tells (ms ++ gs) (told ++ own)
tells_more ms gs told own (inr s) g = inr (record {
  stopped = λ more.
      ap events_in (append_assoc ms gs more) ∙ s.stopped (gs ++ more) ∙ sym (s.stopped gs);
  front = (let f = s.front in record {
    rest = f.rest ++ own;
    is =
        ap (λ (l : List Event). batches_in (happenings l no_edits) ++ (f.rest ++ own)) (s.stopped gs)
        ∙ sym (append_assoc (batches_in (happenings (events_in ms) no_edits)) f.rest own)
        ∙ ap (λ (l : List Happening). l ++ own) f.is;
  });
})
tells_more ms gs told own (inl k) g = by (either_heard gs)
  where
    all : events_in (ms ++ gs) ≡ events_in ms ++ events_in gs
    all = spelled_on ms k.spelled gs

    batches : batches_in (happenings (events_in (ms ++ gs)) no_edits) ≡ told ++ own
    batches =
        ap (λ (l : List Event). batches_in (happenings l no_edits)) all
        ∙ ap batches_in (happenings-append (events_in ms) (events_in gs) no_edits)
        ∙ batches-append (happenings (events_in ms) no_edits) (happenings (events_in gs)
        (waiting (events_in ms) no_edits))
        ∙ ap (λ (w : Batch). batches_in (happenings (events_in ms) no_edits)
        ++ batches_in (happenings (events_in gs) w)) k.waits
        ∙ ap (λ (l : List Happening). l ++ batches_in (happenings (events_in gs) no_edits)) k.is
        ∙ ap (λ (l : List Happening). told ++ l) g.0

    by : IsSpelled gs ⊎ IsStopped gs → Tells (ms ++ gs) (told ++ own)
    by (inl s) = inl (record {
      spelled = spelled-append ms gs k.spelled s;
      waits =
          ap (λ (l : List Event). waiting l no_edits) all
          ∙ waiting-append (events_in ms) (events_in gs) no_edits ∙ ap (waiting (events_in gs)) k.waits ∙ g.1 s;
      is = batches;
    })
    by (inr s) = inr (record {
      stopped = λ more.
          ap events_in (append_assoc ms gs more) ∙ spelled_on ms k.spelled (gs ++ more)
          ∙ ap (λ (l : List Event). events_in ms ++ l) (s more) ∙ sym all;
      front = record { rest = []; is = append-nil _ ∙ batches };
    })

-- ---- messages that tell no batch

-- no batch comes, and what waits stays
abbrev IsStill : Event → Type 0
IsStill e = (w : Batch) → (batches_in (logged e w []) ≡ []) × (waiting_after e w ≡ w)

still_event : (e : Event) → ((event_message e).interface ≡ interface.TextInput → (event_message e).opcode ≤ 1) →
    IsStill e
still_event (events.PreeditString t begin end) h = λ w. absurd (let l = h refl in omega arith)
still_event (events.CommitString t) h = λ w. absurd (let l = h refl in omega arith)
still_event (events.DeleteSurroundingText before behind) h = λ w. absurd (let l = h refl in omega arith)
still_event (events.TextInputDone serial) h = λ w. absurd (let l = h refl in omega arith)
still_event (events.Enter surface) h = λ w. (refl, refl)
still_event (events.Leave surface) h = λ w. (refl, refl)
still_event _ h = λ w. (refl, refl)

-- which message an event is
record IsEventAt (m : List ℕ) (e : Event) : Type 0 where
  there : object_in field_objects (id_of m) ≡ Some (event_message e).interface
  opcode : (event_message e).opcode ≡ opcode_of m

event_row : (i : Interface) (n : ℕ) (body : List ℕ) (x : Message) → event_reading i n [] body ≡ Ok x →
    (x.interface ≡ i) × (x.opcode ≡ n)
unfolding event_reading
event_row i n body x e = by (event_kinds i n) e
  where
    read : (o : Option (List Value)) → all_read i n o ≡ Ok x → (x.interface ≡ i) × (x.opcode ≡ n)
    read None h = cc
    read (Some vs) h =
        (let same : message i n vs ≡ x = cc in
        (ap (λ (y : Message). y.interface) (sym same), ap (λ (y : Message). y.opcode) (sym same)))

    by : (o : Option (List _)) → by_row i n [] body o ≡ Ok x → (x.interface ≡ i) × (x.opcode ≡ n)
    by None h = cc
    by (Some ks) h = read (values_at [] ks body) h

event_at : (m : List ℕ) (e : Event) → event_in field_objects m ≡ Some e → IsEventAt m e
event_at m e h = by (object_in field_objects (id_of m)) refl h
  where
    read : (i : Interface) (r : Result Message Refuse) → object_in field_objects (id_of m) ≡ Some i →
        event_reading i (opcode_of m) [] (body_of m) ≡ r → event_read r ≡ Some e → IsEventAt m e
    read i (Err f) o q k = cc
    read i (Ok x) o q k =
        let row = event_row i (opcode_of m) (body_of m) x q in
        let same : event_message e ≡ x = event_back x e k in
        record {
          there = o ∙ ap Some (sym row.0 ∙ ap (λ (y : Message). y.interface) (sym same));
          opcode = ap (λ (y : Message). y.opcode) same ∙ row.1;
        }

    by : (o : Option Interface) → object_in field_objects (id_of m) ≡ o → event_to o m ≡ Some e → IsEventAt m e
    by None o k = cc
    by (Some i) o k = read i (event_reading i (opcode_of m) [] (body_of m)) o refl k

pub input_id : (id : ℕ) (i : Interface) → i ≡ interface.TextInput → object_in field_objects id ≡ Some i → id ≡ 7
input_id zero i s e = cc
input_id (suc zero) i s e = cc
input_id (suc (suc zero)) i s e = cc
input_id (suc (suc (suc zero))) i s e = cc
input_id (suc (suc (suc (suc zero)))) i s e = cc
input_id (suc (suc (suc (suc (suc zero))))) i s e = cc
input_id (suc (suc (suc (suc (suc (suc zero)))))) i s e = cc
input_id (suc (suc (suc (suc (suc (suc (suc zero))))))) i s e = refl
input_id (suc (suc (suc (suc (suc (suc (suc (suc n)))))))) i s e = cc

-- to the text input it says at most that it is entered or left
abbrev pub IsStillMessage : List ℕ → Type 0
IsStillMessage m = id_of m ≡ 7 → opcode_of m ≤ 1

still_message : (m : List ℕ) (e : Event) → IsStillMessage m → event_in field_objects m ≡ Some e → IsStill e
still_message m e h k =
    let at = event_at m e k in
    still_event e (λ s. subst (λ n. n ≤ 1) (sym at.opcode) (h (input_id (id_of m)
    (event_message e).interface s at.there)))

still_next : (m : List ℕ) (ms : List (List ℕ)) (w : Batch) (o : Option Event) → event_in field_objects m ≡ o →
    ((e : Event) → o ≡ Some e → IsStill e) →
    (batches_in (happenings (events_in ms) w) ≡ []) × (waiting (events_in ms) w ≡ w) →
    (batches_in (happenings (then_events o (events_in ms)) w) ≡ []) × (waiting (then_events o (events_in ms)) w ≡ w)
still_next m ms w None q h k = (refl, refl)
still_next m ms w (Some e) q h k =
    let s = h e refl w in (
      batches-append (logged e w []) (happenings (events_in ms) (waiting_after e w))
          ∙ ap (λ (l : List Happening). l ++ batches_in (happenings (events_in ms) (waiting_after e w))) s.0
          ∙ ap (λ (u : Batch). batches_in (happenings (events_in ms) u)) s.1 ∙ k.0,
      ap (waiting (events_in ms)) s.1 ∙ k.1,
    )

still_all : (ms : List (List ℕ)) (w : Batch) → AllByRecursion IsStillMessage ms →
    (batches_in (happenings (events_in ms) w) ≡ []) × (waiting (events_in ms) w ≡ w)
still_all [] w h = (refl, refl)
still_all (m ∷ ms) w h =
    still_next m ms w (event_in field_objects m) refl (λ e q. still_message m e h.0 q) (still_all ms w h.1)

-- such messages are a group of no batch
pub still_group : (ms : List (List ℕ)) → AllByRecursion IsStillMessage ms → GroupOf ms []
still_group ms h = (let s = still_all ms no_edits h in (s.0, λ k. s.1))

-- ---- a done behind messages

done_event : (e : Event) → (event_message e).interface ≡ interface.TextInput → (event_message e).opcode ≡ 5 →
    (w : Batch) → waiting_after e w ≡ no_edits
done_event (events.TextInputDone serial) i n w = refl
done_event (events.Enter surface) i n w = absurd (omega arith)
done_event (events.Leave surface) i n w = absurd (omega arith)
done_event (events.PreeditString t begin end) i n w = absurd (omega arith)
done_event (events.CommitString t) i n w = absurd (omega arith)
done_event (events.DeleteSurroundingText before behind) i n w = absurd (omega arith)
done_event _ i n w = cc

-- behind the done of a group that is heard whole no edits wait
pub done_waits : (ms : List (List ℕ)) (d : List ℕ) → id_of d ≡ 7 → opcode_of d ≡ 5 → IsSpelled (ms ++ d ∷ []) →
    waiting (events_in (ms ++ d ∷ [])) no_edits ≡ no_edits
done_waits ms d i n s = by (event_in field_objects d) refl (spelled_right ms (d ∷ []) s).0
  where
    by : (o : Option Event) → event_in field_objects d ≡ o → SpellsOne o →
        waiting (events_in (ms ++ d ∷ [])) no_edits ≡ no_edits
    by None q h = absurd h
    by (Some e) q h =
        let at = event_at d e q in
        let seven : object_in field_objects 7 ≡ Some (event_message e).interface =
        subst (λ id. object_in field_objects id ≡ Some (event_message e).interface) i at.there in
        let input : (event_message e).interface ≡ interface.TextInput =
        sym (same_Some interface.TextInput (event_message e).interface seven) in
        ap (λ (l : List Event). waiting l no_edits) (spelled_on ms (spelled_left ms (d ∷ []) s) (d ∷ []))
        ∙ waiting-append (events_in ms) (events_in (d ∷ [])) no_edits
        ∙ ap (λ (o : Option Event). waiting (then_events o []) (waiting (events_in ms) no_edits)) q
        ∙ done_event e input (at.opcode ∙ n) (waiting (events_in ms) no_edits)

-- ---- the header of a message that is told

opcode_small : (made : List Made) (event : Said) → IfSome (message_of made event) (λ m. m.opcode ≤ 6)
opcode_small made (said.Pass time key state) = tt
opcode_small made (said.VMods mods) = tt
opcode_small made (said.Placed popup x y) = tt
opcode_small made _ = omega arith

pub where_some : {A : Type 0} (P : A → Type 0) (o : Option A) (x : A) → o ≡ Some x → IfSome o P → P x
where_some P o x e h = subst (λ (u : Option _). IfSome u P) e h

-- the header and the body of such a message
pub record IsHeaded (id : ℕ) (x : Message) : Type 0 where
  pub whole : IsMessage (message_bytes id x)
  pub id-is : id_of (message_bytes id x) ≡ id
  pub opcode-is : opcode_of (message_bytes id x) ≡ x.opcode

pub headed : (made : List Made) (id : ℕ) (t : Told) (x : Message) → id ≤ 7 → IsShort t →
    message_of made t.event ≡ Some x →
    IsHeaded id x
headed made id t x low s e =
    let small : x.opcode ≤ 6 = where_some (λ (m : Message). m.opcode ≤ 6) (message_of made t.event)
    x e (opcode_small made t.event) in
    let size : message_len x ≤ 4096 = where_some (λ (m : Message). message_len m ≤ 4096) (message_of made t.event)
    x e (s made) in
    let w = written_whole id x (omega arith) (omega arith) size in
    record { whole = w.0; id-is = w.1; opcode-is = w.2 }
