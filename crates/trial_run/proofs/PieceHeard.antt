-- A client that accepts a piece, or refuses it, heard what the definitions say.
use Rattle.std.proofs.Common.{◌≡◌, ℕ, Bool, true, false, ◌||◌, List, [], ◌∷◌, ◌++◌, length, take, drop, Option, Some, None, Result, Ok, Err, refl, sym, ap, subst, ◌∙◌}
use Rattle.std.specs.Prelude.{if◌then◌else◌}
use Rattle.std.proofs.Common.{inl, inr}
use Rattle.std.proofs.lemmas.List.{drop_at, append-nil, take_at}
use Rattle.wl_wire.specs.Texts.{IsBytes}
use Rattle.wl_wire.specs.Messages.{IsMessage, id_of, opcode_of, body_of, messages, joined, AreMessages}
use Rattle.wl_wire.proofs.ArgumentsReadBack.{IsBytes-drop, IsBytes-take}
use Rattle.wl_proto.specs.declared.interface.Interface.{Interface}
use Rattle.wl_proto.specs.declared.refuse.Refuse.{Refuse}
use Rattle.wl_proto.specs.declared.event.Event.{Event}
use Rattle.wl_proto.specs.Rows.{Message, message, event_kinds, event_message}
use Rattle.wl_proto.specs.Reading.{by_row, all_read, event_reading}
use Rattle.wl_proto.specs.Spelled.{IsRead}
use Rattle.wl_proto.proofs.ValuesReadBack.{values_complete}
use Rattle.wl_proto.proofs.MessagesReadBack.{answers}
use Rattle.client_side.specs.Events.{object_in, IsEventIn, IsEventOf, AreEvents}
use Rattle.client_side.specs.Client.{Client, Step, after_all, IsWrong, Accepts, GoesWrong, Refuses}
use Rattle.trial_run.specs.Events.{event_of}
use Rattle.trial_run.specs.Hearing.{event_read, event_to, event_in, Heard, heard_next, heard, behind, has_bad_size, bytes_heard, received}
use Rattle.trial_run.proofs.FirstMessages.{first_is, found_first}
use Rattle.trial_run.proofs.FrontOfBytes.{partial_none, partial_good, bad_none, bad_is}
use Rattle.trial_run.proofs.EventsBack.{event_back}
use Rattle.trial_run.proofs.EventsKnown.{KnowsEvents}

-- ---- one message

-- what a body spells, it reads as
pub reading_is : (i : Interface) (n : ℕ) (body : List ℕ) (m : Message) → IsRead (event_kinds i n) i n [] body m →
    event_reading i n [] body ≡ Ok m
unfolding event_reading
reading_is i n body m r =
    let same : message i n m.values ≡ m =
    ap (λ (j : Interface). message j n m.values) (sym r.interface-is)
    ∙ ap (λ k. message m.interface k m.values) (sym r.opcode-is) in
    ap (by_row i n [] body) r.row-is
    ∙ ap (all_read i n) (values_complete [] r.row m.values body r.spelled r.tokens-are)
    ∙ ap (λ (x : Message). let o : Result Message Refuse = Ok x in o) same

-- and what it reads as, it spells
read_is : (i : Interface) (n : ℕ) (body : List ℕ) (m : Message) → IsBytes body → event_reading i n [] body ≡ Ok m →
    IsRead (event_kinds i n) i n [] body m
unfolding event_reading
read_is i n body m fits e = answers (λ (x : Message). x) (event_kinds i n) i n [] body (Ok m) fits e

-- an event that the message spells is the one that is heard, or does the same
record IsHeard {S : Type 0} (step : Step S) (o : Option Interface) (m : List ℕ) (e : Event) : Type 0 where
  other : Event
  is : event_to o m ≡ Some other
  same : (s : S) → step other s ≡ step e s

is_heard : {S : Type 0} (step : Step S) → KnowsEvents step → (o : Option Interface) (m : List ℕ) (e : Event) →
    IsEventOf o m e → IsHeard step o m e
is_heard step knows None m e is = absurd is
is_heard step knows (Some i) m e is =
    let k = knows e in
    record {
      other = k.0;
      is = ap event_read (reading_is i (opcode_of m) (body_of m) (event_message e) is) ∙ k.1;
      same = k.2;
    }

-- where it spells none, none is heard
none_heard : (o : Option Interface) (m : List ℕ) → IsBytes m → ((e : Event) → IsEventOf o m e → ⊥) → event_to o m ≡ None
none_heard None m fits none = refl
none_heard (Some i) m fits none = by (event_reading i (opcode_of m) [] (body_of m)) refl
  where
    spells : (x : Message) (e : Event) → event_reading i (opcode_of m) [] (body_of m) ≡ Ok x → event_of x ≡ Some e →
        IsEventIn i (opcode_of m) (body_of m) e
    spells x e r h =
        subst (λ (y : Message). IsRead (event_kinds i (opcode_of m)) i (opcode_of m) [] (body_of m) y)
        (sym (event_back x e h)) (read_is i (opcode_of m) (body_of m) x (IsBytes-drop 8 m fits) r)

    by_event : (x : Message) (h : Option Event) → event_reading i (opcode_of m) [] (body_of m) ≡ Ok x → event_of x ≡ h →
        h ≡ None
    by_event x None r e = refl
    by_event x (Some event) r e = absurd (none event (spells x event r e))

    by : (r : Result Message Refuse) → event_reading i (opcode_of m) [] (body_of m) ≡ r →
        event_read (event_reading i (opcode_of m) [] (body_of m)) ≡ None
    by (Ok x) r = ap event_read r ∙ by_event x (event_of x) r refl
    by (Err f) r = ap event_read r

-- ---- the messages in turn

are_messages : (objects : List Interface) (ms : List (List ℕ)) (events : List Event) → AreEvents objects ms events →
    AreMessages ms
are_messages objects [] [] are = tt
are_messages objects (m ∷ ms) (e ∷ events) are = (are.0, are_messages objects ms events are.2)
are_messages objects [] (e ∷ events) are = absurd are
are_messages objects (m ∷ ms) [] are = absurd are

-- all events are heard, and then what follows
all_heard : {S : Type 0} (step : Step S) → KnowsEvents step → (objects : List Interface) (ms : List (List ℕ))
    (events : List Event) (more : List (List ℕ)) (s : S) → AreEvents objects ms events →
    heard step objects (ms ++ more) s ≡ heard step objects more (after_all step events s)
all_heard step knows objects [] [] more s are = refl
all_heard step knows objects (m ∷ ms) (e ∷ events) more s are =
    let h = is_heard step knows (object_in objects (id_of m)) m e are.1 in
    ap (λ (o : Option Event). heard_next step o s (heard step objects (ms ++ more))) h.is
    ∙ ap (heard step objects (ms ++ more)) (h.same s)
    ∙ all_heard step knows objects ms events more (step e s) are.2
all_heard step knows objects [] (e ∷ events) more s are = absurd are
all_heard step knows objects (m ∷ ms) [] more s are = absurd are

-- ---- a piece

-- a client by what is heard, what stands behind the messages, and whether a bad size does
abbrev client_by : {S : Type 0} → List ℕ → Heard S → List ℕ → Bool → Client S
client_by bytes h rest bad = record {
  state = h.state;
  held = if h.is_bad || bad then bytes else rest;
  is_bad = h.is_bad || bad;
}

module _ {S : Type 0} (step : Step S) (knows : KnowsEvents step) (objects : List Interface) (old new : Client S)
    (piece : List ℕ) (was_good : old.is_bad ≡ false) where
  is_received : received step objects piece old ≡ bytes_heard step objects (old.held ++ piece) old.state
  unfolding received
  is_received = ap (λ (b : Bool). if b then old else bytes_heard step objects (old.held ++ piece) old.state) was_good

  -- by the events at the front, what stands behind the messages, and whether a bad size does
  by_parts : (ms : List (List ℕ)) (h : Heard S) (rest : List ℕ) (bad : Bool) →
      messages (old.held ++ piece) ≡ ms → heard step objects ms old.state ≡ h → behind (old.held ++ piece) ≡ rest →
      has_bad_size rest ≡ bad →
      received step objects piece old ≡ client_by (old.held ++ piece) h rest bad
  by_parts ms h rest bad a b c d =
      is_received
      ∙ ap (λ (x : List (List ℕ)). client_by (old.held ++ piece) (heard step objects x old.state)
      (behind (old.held ++ piece)) (has_bad_size (behind (old.held ++ piece)))) a
      ∙ ap (λ (x : Heard S). client_by (old.held ++ piece) x (behind (old.held ++ piece))
      (has_bad_size (behind (old.held ++ piece)))) b
      ∙ ap (λ (x : List ℕ). client_by (old.held ++ piece) h x (has_bad_size x)) c
      ∙ ap (client_by (old.held ++ piece) h rest) d

  pub accepted : Accepts objects step old new piece → new ≡ received step objects piece old
  accepted a =
      let t = a.takes in
      let each = are_messages objects t.messages t.events t.are in
      let rest = new.held in
      let found : messages (old.held ++ piece) ≡ t.messages =
      ap messages t.front ∙ found_first t.messages rest each
      ∙ ap (λ (r : List (List ℕ)). t.messages ++ r) (partial_none rest a.partial) ∙ append-nil t.messages in
      let left : behind (old.held ++ piece) ≡ rest =
      ap (λ (ms : List (List ℕ)). drop (length (joined ms)) (old.held ++ piece)) found
      ∙ ap (drop (length (joined t.messages))) t.front ∙ drop_at (joined t.messages) rest _ refl in
      let told : heard step objects t.messages old.state ≡ record { state = new.state; is_bad = false } =
      ap (λ (ms : List (List ℕ)). heard step objects ms old.state) (sym (append-nil t.messages))
      ∙ all_heard step knows objects t.messages t.events [] old.state t.are
      ∙ ap (λ (s : S). let h : Heard S = record { state = s; is_bad = false } in h) (sym t.state-is) in
      let parts = by_parts t.messages (record { state = new.state; is_bad = false }) rest false found told left
      (partial_good rest a.partial) in
      sym (parts ∙ ap (λ (b : Bool). let c : Client S = record { state = new.state; held = rest; is_bad = b } in c)
      (sym a.good))

  wrong : (g : GoesWrong objects step old.state new.state (old.held ++ piece)) → IsBytes (old.held ++ piece) →
      received step objects piece old ≡ record { state = new.state; held = old.held ++ piece; is_bad = true }
  wrong g fits = by g.wrong
    where
      each : AreMessages g.takes.messages
      each = are_messages objects g.takes.messages g.takes.events g.takes.are

      front : old.held ++ piece ≡ joined g.takes.messages ++ g.rest
      front = g.takes.front

      told : (more : List (List ℕ)) →
          heard step objects (g.takes.messages ++ more) old.state ≡ heard step objects more new.state
      told more =
          all_heard step knows objects g.takes.messages g.takes.events more old.state g.takes.are
          ∙ ap (heard step objects more) (sym g.takes.state-is)

      by : IsWrong objects g.rest →
          received step objects piece old ≡ record { state = new.state; held = old.held ++ piece; is_bad = true }
      by (inl bad) =
          let found : messages (old.held ++ piece) ≡ g.takes.messages ++ [] =
          ap messages front ∙ found_first g.takes.messages g.rest each
          ∙ ap (λ (r : List (List ℕ)). g.takes.messages ++ r) (bad_none g.rest bad) in
          let left : behind (old.held ++ piece) ≡ g.rest =
          ap (λ (ms : List (List ℕ)). drop (length (joined ms)) (old.held ++ piece))
          (found ∙ append-nil g.takes.messages)
          ∙ ap (drop (length (joined g.takes.messages))) front ∙ drop_at (joined g.takes.messages) g.rest _ refl in
          by_parts (g.takes.messages ++ []) (record { state = new.state; is_bad = false }) g.rest true found (told [])
          left (bad_is g.rest bad)
      by (inr w) =
          let m : List ℕ = w.0 in
          let later : List ℕ = w.1 in
          let whole : IsMessage m = w.3 in
          let found : messages (old.held ++ piece) ≡ g.takes.messages ++ m ∷ messages later =
          ap messages front ∙ found_first g.takes.messages g.rest each
          ∙ ap (λ (r : List ℕ). g.takes.messages ++ messages r) w.2
          ∙ ap (λ (r : List (List ℕ)). g.takes.messages ++ r) (first_is m later whole) in
          let rest_fits : IsBytes g.rest =
          subst IsBytes (ap (drop (length (joined g.takes.messages))) front
          ∙ drop_at (joined g.takes.messages) g.rest _ refl)
          (IsBytes-drop (length (joined g.takes.messages)) (old.held ++ piece) fits) in
          let m_fits : IsBytes m =
          subst IsBytes (ap (λ (r : List ℕ). take (length m) r) w.2 ∙ take_at m later (length m) refl)
          (IsBytes-take (length m) g.rest rest_fits) in
          let none : event_in objects m ≡ None = none_heard (object_in objects (id_of m)) m m_fits w.4 in
          let stops : heard step objects (m ∷ messages later) new.state ≡ record { state = new.state; is_bad = true } =
          ap (λ (o : Option Event). heard_next step o new.state (heard step objects (messages later))) none in
          by_parts (g.takes.messages ++ m ∷ messages later) (record { state = new.state; is_bad = true })
          (behind (old.held ++ piece)) (has_bad_size (behind (old.held ++ piece))) found
          (told (m ∷ messages later) ∙ stops) refl refl

  pub refused : Refuses objects step old new piece → new ≡ received step objects piece old
  refused r =
      sym (wrong r.goes_wrong (subst IsBytes r.held r.bytes)
      ∙ ap (λ (x : List ℕ). let c : Client S = record { state = new.state; held = x; is_bad = true } in c) (sym r.held)
      ∙ ap (λ (b : Bool). let c : Client S = record { state = new.state; held = new.held; is_bad = b } in c)
      (sym r.bad))

-- a client that was bad stays as it is
pub stays_bad : {S : Type 0} (step : Step S) (objects : List Interface) (old : Client S) (piece : List ℕ) →
    old.is_bad ≡ true → received step objects piece old ≡ old
unfolding received
stays_bad step objects old piece e =
    ap (λ b. if b then old else bytes_heard step objects (old.held ++ piece) old.state) e

-- what the client answered

pub heard_ok : {S : Type 0} (step : Step S) → KnowsEvents step → (objects : List Interface) (old new : Client S)
    (piece : List ℕ) → (old.is_bad ≡ true → ⊥) → Accepts objects step old new piece →
    new ≡ received step objects piece old
heard_ok step knows objects old new piece good a = by old.is_bad refl
  where
    by : (b : Bool) → old.is_bad ≡ b → new ≡ received step objects piece old
    by true e = absurd (good e)
    by false e = accepted step knows objects old new piece e a

pub heard_bad : {S : Type 0} (step : Step S) → KnowsEvents step → (objects : List Interface) (old new : Client S)
    (piece : List ℕ) → (old.is_bad ≡ false → Refuses objects step old new piece) → (old.is_bad ≡ true → new ≡ old) →
    new ≡ received step objects piece old
heard_bad step knows objects old new piece bad stays = by old.is_bad refl
  where
    by : (b : Bool) → old.is_bad ≡ b → new ≡ received step objects piece old
    by true e = stays e ∙ sym (stays_bad step objects old piece e)
    by false e = refused step knows objects old new piece e (bad e)
