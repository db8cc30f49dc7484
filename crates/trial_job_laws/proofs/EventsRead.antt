-- The events that bytes begin with are those that their messages are read as
use Rattle.std.proofs.Common.{◌≡◌, ℕ, List, [], ◌∷◌, ◌++◌, map, Option, Some, None, refl, ap, ◌∙◌}
use Rattle.wl_wire.specs.Messages.{id_of, opcode_of, body_of, messages, AreMessages}
use Rattle.wl_proto.specs.declared.interface.Interface.{Interface}
use Rattle.wl_proto.specs.declared.event.Event.{Event}
use Rattle.wl_proto.specs.declared.event.Event.TheVariants as events
use Rattle.wl_proto.specs.Rows.{event_message}
use Rattle.trial_field.specs.Log.{Batch}
use Rattle.client_side.specs.Events.{object_in, field_objects, method_objects, IsEventOf, AreEvents}
use Rattle.client_side.specs.FieldState.{logged}
use Rattle.client_side.specs.Happenings.{Happening}
use Rattle.trial_client_logs.specs.MethodLogs.{settled}
use Rattle.trial_run.specs.Events.{event_of}
use Rattle.trial_run.specs.Hearing.{event_read, event_to, event_in}
use Rattle.trial_run.proofs.FirstMessages.{found_first}
use Rattle.trial_laws.specs.FieldLogs.{then_events, waiting_after, happenings}
use Rattle.trial_laws.specs.FieldLogs as fields
use Rattle.trial_laws.specs.TypedLogs as method
use Rattle.trial_typing.specs.Fronts.{BeginsWith}
use Rattle.trial_run.proofs.PieceHeard.{reading_is}

-- ---- one event

-- it is known again from its message, wherever its text lies
known_again : (e : Event) → event_of (event_message e) ≡ Some (settled e)
known_again (events.Error object code m) = refl
known_again (events.DeleteId id) = refl
known_again (events.Global name interface version) = refl
known_again (events.GlobalRemove name) = refl
known_again (events.CallbackDone value) = refl
known_again (events.Capabilities value) = refl
known_again (events.Enter surface) = refl
known_again (events.Leave surface) = refl
known_again (events.PreeditString None begin end) = refl
known_again (events.PreeditString (Some t) begin end) = refl
known_again (events.CommitString None) = refl
known_again (events.CommitString (Some t)) = refl
known_again (events.DeleteSurroundingText before behind) = refl
known_again (events.TextInputDone serial) = refl
known_again events.Activate = refl
known_again events.Deactivate = refl
known_again (events.SurroundingText t cursor anchor) = refl
known_again (events.TextChangeCause cause) = refl
known_again (events.ContentType hint purpose) = refl
known_again events.InputMethodDone = refl
known_again events.Unavailable = refl
known_again (events.TextInputRectangle x y width height) = refl
known_again (events.Keymap format d size) = refl
known_again (events.Key serial time key state) = refl
known_again (events.Modifiers serial depressed latched locked group) = refl
known_again (events.RepeatInfo rate delay) = refl

-- and makes the same happen to a field
pub same_logged : (e : Event) (w : Batch) (log : List Happening) → logged (settled e) w log ≡ logged e w log
same_logged (events.Error object code m) w log = refl
same_logged (events.Global name interface version) w log = refl
same_logged (events.PreeditString t begin end) w log = refl
same_logged (events.CommitString t) w log = refl
same_logged (events.SurroundingText t cursor anchor) w log = refl
same_logged (events.Enter surface) w log = refl
same_logged (events.Leave surface) w log = refl
same_logged (events.TextInputDone serial) w log = refl
same_logged _ w log = refl

same_waiting : (e : Event) (w : Batch) → waiting_after (settled e) w ≡ waiting_after e w
same_waiting (events.Error object code m) w = refl
same_waiting (events.Global name interface version) w = refl
same_waiting (events.PreeditString None begin end) w = refl
same_waiting (events.PreeditString (Some t) begin end) w = refl
same_waiting (events.CommitString None) w = refl
same_waiting (events.CommitString (Some t)) w = refl
same_waiting (events.SurroundingText t cursor anchor) w = refl
same_waiting (events.Enter surface) w = refl
same_waiting (events.Leave surface) w = refl
same_waiting (events.DeleteSurroundingText before behind) w = refl
same_waiting (events.TextInputDone serial) w = refl
same_waiting _ w = refl

pub same_happenings : (es : List Event) (w : Batch) → happenings (map settled es) w ≡ happenings es w
same_happenings [] w = refl
same_happenings (e ∷ es) w =
    ap (λ (l : List Happening). l ++ happenings (map settled es) (waiting_after (settled e) w)) (same_logged e w [])
    ∙ ap (λ (v : Batch). logged e w [] ++ happenings (map settled es) v) (same_waiting e w)
    ∙ ap (λ (l : List Happening). logged e w [] ++ l) (same_happenings es (waiting_after e w))

-- ---- one message

pub is_read : (o : Option Interface) (m : List ℕ) (e : Event) → IsEventOf o m e → event_to o m ≡ Some (settled e)
is_read None m e is = absurd is
is_read (Some i) m e is =
    ap event_read (reading_is i (opcode_of m) (body_of m) (event_message e) is) ∙ known_again e

-- ---- messages in turn

pub are_messages : (objects : List Interface) (ms : List (List ℕ)) (es : List Event) → AreEvents objects ms es →
    AreMessages ms
are_messages objects [] [] are = tt
are_messages objects (m ∷ ms) (e ∷ es) are = (are.0, are_messages objects ms es are.2)
are_messages objects [] (e ∷ es) are = absurd are
are_messages objects (m ∷ ms) [] are = absurd are

module _ (objects : List Interface) (events_in : List (List ℕ) → List Event)
    (next : (m : List ℕ) (ms : List (List ℕ)) → events_in (m ∷ ms) ≡ then_events (event_in objects m) (events_in ms))
  where
    read_first : (ms : List (List ℕ)) (es : List Event) (more : List (List ℕ)) → AreEvents objects ms es →
        events_in (ms ++ more) ≡ map settled es ++ events_in more
    read_first [] [] more are = refl
    read_first (m ∷ ms) (e ∷ es) more are =
        next m (ms ++ more)
        ∙ ap (λ (o : Option Event). then_events o (events_in (ms ++ more)))
        (is_read (object_in objects (id_of m)) m e are.1)
        ∙ ap (λ (l : List Event). settled e ∷ l) (read_first ms es more are.2)
    read_first [] (e ∷ es) more are = absurd are
    read_first (m ∷ ms) [] more are = absurd are

    -- the events that bytes begin with come first
    pub begins_so : (bytes : List ℕ) (es : List Event) (b : BeginsWith objects bytes es) →
        events_in (messages bytes) ≡ map settled es ++ events_in (messages b.rest)
    begins_so bytes es b =
        ap (λ (l : List ℕ). events_in (messages l)) b.front
        ∙ ap events_in (found_first b.messages b.rest (are_messages objects b.messages es b.are))
        ∙ read_first b.messages es (messages b.rest) b.are

pub field_begins : (bytes : List ℕ) (es : List Event) (b : BeginsWith field_objects bytes es) →
    fields.events_in (messages bytes) ≡ map settled es ++ fields.events_in (messages b.rest)
field_begins bytes es b = begins_so field_objects fields.events_in (λ m ms. refl) bytes es b

pub method_begins : (bytes : List ℕ) (es : List Event) (b : BeginsWith method_objects bytes es) →
    method.events_in (messages bytes) ≡ map settled es ++ method.events_in (messages b.rest)
method_begins bytes es b = begins_so method_objects method.events_in (λ m ms. refl) bytes es b
