-- Events are taken one behind the other.
use Rattle.std.proofs.Common.{◌≡◌, ℕ, ◌+◌, ◌≤◌, List, [], ◌∷◌, ◌++◌, length, take, drop, refl, sym, ◌∙◌, ap, subst, inr, arith, length-drop}
use Rattle.std.proofs.lemmas.List.{append-nil, append_assoc, take-append-drop, drop-drop}
use Rattle.wl_proto.specs.declared.interface.Interface.{Interface}
use Rattle.wl_proto.specs.declared.event.Event.{Event}
use Rattle.wl_wire.specs.Messages.{IsMessage, id_of, joined}
use Rattle.wl_wire.specs.Fronts.{IsFrontMessage}
use Rattle.client_side.specs.Events.{object_in, IsEventTo, IsEventOf, AreEvents}
use Rattle.client_side.specs.Client.{Step, after_all, Takes, IsWrong, GoesWrong}

are-append : (objects : List Interface) (ms : List (List ℕ)) (events : List Event) (m : List ℕ) (event : Event)
    → AreEvents objects ms events → IsMessage m → IsEventOf (object_in objects (id_of m)) m event
    → AreEvents objects (ms ++ m ∷ []) (events ++ event ∷ [])
are-append objects [] [] m event are whole is = (whole, is, tt)
are-append objects (x ∷ ms) (e ∷ events) m event are whole is =
    (are.0, are.1, are-append objects ms events m event are.2 whole is)
are-append objects [] (e ∷ events) m event are whole is = absurd are
are-append objects (x ∷ ms) [] m event are whole is = absurd are

joined-append : (ms : List (List ℕ)) (m : List ℕ) → joined (ms ++ m ∷ []) ≡ joined ms ++ m
joined-append [] m = append-nil m
joined-append (x ∷ ms) m = ap (λ r. x ++ r) (joined-append ms m) ∙ sym (append_assoc x (joined ms) m)

after-append : {S : Type 0} (step : Step S) (events : List Event) (event : Event) (s : S)
    → after_all step (events ++ event ∷ []) s ≡ step event (after_all step events s)
after-append step [] event s = refl
after-append step (e ∷ events) event s = after-append step events event (step e s)

-- nothing is taken at first
pub none_taken : {S : Type 0} (objects : List Interface) (step : Step S) (s : S) (bytes : List ℕ)
    → Takes objects step s s bytes bytes
none_taken objects step s bytes = record { messages = []; events = []; are = tt; front = refl; state-is = refl }

-- one more event
pub one_more : {S : Type 0} (objects : List Interface) (step : Step S) (old now new : S) (bytes rest : List ℕ) (n : ℕ)
    (event : Event)
    → Takes objects step old now bytes rest → IsMessage (take n rest)
    → IsEventOf (object_in objects (id_of (take n rest))) (take n rest) event
    → new ≡ step event now → Takes objects step old new bytes (drop n rest)
one_more objects step old now new bytes rest n event before whole is then =
    let m = take n rest in
    record {
      messages = before.messages ++ m ∷ [];
      events = before.events ++ event ∷ [];
      are = are-append objects before.messages before.events m event before.are whole is;
      front =
          before.front ∙ ap (λ r. joined before.messages ++ r) (sym (take-append-drop n rest))
          ∙ sym (append_assoc (joined before.messages) m (drop n rest))
          ∙ ap (λ r. r ++ drop n rest) (sym (joined-append before.messages m));
      state-is = then ∙ ap (step event) before.state-is ∙ sym (after-append step before.events event old);
    }

-- the same, at a place in the bytes
pub next_events : {S : Type 0} (objects : List Interface) (step : Step S) (old now new : S) (bytes rest m : List ℕ)
    (at n : ℕ) (event : Event)
    → Takes objects step old now bytes (drop at bytes) → rest ≡ drop at bytes → m ≡ take n rest
    → IsMessage (take n rest)
    → IsEventOf (object_in objects (id_of m)) m event → new ≡ step event now
    → Takes objects step old new bytes (drop (at + n) bytes)
next_events {S} objects step old now new bytes rest m at n event before rest-is m-is whole is then =
    let is-there : IsEventOf (object_in objects (id_of (take n (drop at bytes)))) (take n (drop at bytes)) event =
    subst (λ x. IsEventOf (object_in objects (id_of x)) x event) (m-is ∙ ap (take n) rest-is) is in
    subst (λ r. Takes objects step old new bytes r) (drop-drop n at bytes)
    (one_more objects step old now new bytes (drop at bytes) n event before
    (subst (λ r. IsMessage (take n r)) rest-is whole) is-there then)

-- a message that spells no event
pub no_event : {S : Type 0} (objects : List Interface) (step : Step S) (old now new : S) (bytes rest m : List ℕ)
    (at n : ℕ)
    → Takes objects step old now bytes (drop at bytes) → rest ≡ drop at bytes → m ≡ take n rest
    → IsMessage (take n rest)
    → ((event : Event) → IsEventOf (object_in objects (id_of m)) m event → ⊥) → new ≡ now
    → GoesWrong objects step old new bytes
no_event {S} objects step old now new bytes rest m at n before rest-is m-is whole none then =
    record {
      rest = drop at bytes;
      takes = subst (λ s. Takes objects step old s bytes (drop at bytes)) (sym then) before;
      wrong =
          let parts = sym rest-is ∙ sym (take-append-drop n rest) ∙ ap (λ x. x ++ drop n rest) (sym m-is) in
          inr (m, drop n rest, parts, subst IsMessage (sym m-is) whole, none);
    }

-- the message at the front of what is left, by its parts

parts_spell : (objects : List Interface) (id opcode : ℕ) (body bytes : List ℕ) (n : ℕ) (event : Event)
    → IsFrontMessage id opcode body bytes n → IsEventTo (object_in objects id) opcode body event
    → IsEventOf (object_in objects (id_of (take n bytes))) (take n bytes) event
parts_spell objects id opcode body bytes n event f is = rw (sym f.same_id, sym f.same_opcode, sym f.same_body) is

message_spells : (objects : List Interface) (id opcode : ℕ) (body bytes : List ℕ) (n : ℕ) (event : Event)
    → IsFrontMessage id opcode body bytes n
    → IsEventOf (object_in objects (id_of (take n bytes))) (take n bytes) event
    → IsEventTo (object_in objects id) opcode body event
message_spells objects id opcode body bytes n event f is = rw (f.same_id, f.same_opcode, f.same_body) is

pub front_short : (id opcode : ℕ) (body bytes : List ℕ) (n : ℕ) → IsFrontMessage id opcode body bytes n
    → length body ≤ 4088
front_short id opcode body bytes n f =
    let len = length-drop 8 (take n bytes) in
    let most = f.whole.0.1 in
    let same = f.whole.1 in
    rw f.same_body (omega arith)

pub next_front : {S : Type 0} (objects : List Interface) (step : Step S) (old now new : S) (bytes rest : List ℕ)
    (at n id opcode : ℕ) (body : List ℕ) (event : Event)
    → Takes objects step old now bytes (drop at bytes) → rest ≡ drop at bytes → IsFrontMessage id opcode body rest n
    → IsEventTo (object_in objects id) opcode body event → new ≡ step event now
    → Takes objects step old new bytes (drop (at + n) bytes)
next_front {S} objects step old now new bytes rest at n id opcode body event before rest-is f is then =
    next_events objects step old now new bytes rest (take n rest) at n event before rest-is refl f.whole
    (parts_spell objects id opcode body rest n event f is) then

pub front_wrong : {S : Type 0} (objects : List Interface) (step : Step S) (old now new : S) (bytes rest : List ℕ)
    (at n id opcode : ℕ) (body : List ℕ)
    → Takes objects step old now bytes (drop at bytes) → rest ≡ drop at bytes → IsFrontMessage id opcode body rest n
    → ((event : Event) → IsEventTo (object_in objects id) opcode body event → ⊥) → new ≡ now
    → GoesWrong objects step old new bytes
front_wrong {S} objects step old now new bytes rest at n id opcode body before rest-is f none then =
    no_event objects step old now new bytes rest (take n rest) at n before rest-is refl f.whole
    (λ event is. none event (message_spells objects id opcode body rest n event f is)) then

-- where it spells none, what is left goes wrong
pub none_spelled : (objects : List Interface) (bytes rest : List ℕ) (at n id opcode : ℕ) (body : List ℕ)
    → rest ≡ drop at bytes → IsFrontMessage id opcode body rest n
    → ((event : Event) → IsEventTo (object_in objects id) opcode body event → ⊥) → IsWrong objects (drop at bytes)
none_spelled objects bytes rest at n id opcode body rest-is f none =
    inr (
      take n rest,
      drop n rest,
      sym rest-is ∙ sym (take-append-drop n rest),
      f.whole,
      λ event is. none event (message_spells objects id opcode body rest n event f is),
    )
