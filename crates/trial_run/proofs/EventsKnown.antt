-- Each event is known again from its message: as one that does the same to a client.
use Rattle.std.proofs.Common.{◌≡◌, Some, None, refl}
use Rattle.wl_proto.specs.declared.event.Event.{Event}
use Rattle.wl_proto.specs.declared.event.Event.TheVariants as events
use Rattle.wl_proto.specs.Rows.{event_message}
use Rattle.client_side.specs.Client.{Step}
use Rattle.client_side.specs.FieldState as field
use Rattle.client_side.specs.MethodState as method
use Rattle.trial_run.specs.Events.{event_of}
use Rattle.trial_run.specs.Typists.{meanings_of}
use Rattle.trial_run.specs.declared.typist.TrialTypist.{TrialTypist}

pub record Known (e : Event) : Type 0 where
  pub other : Event
  pub is : event_of (event_message e) ≡ Some other
  pub to_field : (s : field.State) → field.after_event other s ≡ field.after_event e s
  pub to_method : (s : method.State TrialTypist) →
      method.after_event meanings_of other s ≡ method.after_event meanings_of e s

pub known : (e : Event) → Known e
known (events.Error object code m) = record { other = _; is = refl; to_field = λ s. refl; to_method = λ s. refl }
known (events.DeleteId id) = record { other = _; is = refl; to_field = λ s. refl; to_method = λ s. refl }
known (events.Global name interface version) =
    record { other = _; is = refl; to_field = λ s. refl; to_method = λ s. refl }
known (events.GlobalRemove name) = record { other = _; is = refl; to_field = λ s. refl; to_method = λ s. refl }
known (events.CallbackDone value) = record { other = _; is = refl; to_field = λ s. refl; to_method = λ s. refl }
known (events.Capabilities value) = record { other = _; is = refl; to_field = λ s. refl; to_method = λ s. refl }
known (events.Enter surface) = record { other = _; is = refl; to_field = λ s. refl; to_method = λ s. refl }
known (events.Leave surface) = record { other = _; is = refl; to_field = λ s. refl; to_method = λ s. refl }
known (events.PreeditString None begin end) =
    record { other = _; is = refl; to_field = λ s. refl; to_method = λ s. refl }
known (events.PreeditString (Some t) begin end) =
    record { other = _; is = refl; to_field = λ s. refl; to_method = λ s. refl }
known (events.CommitString None) = record { other = _; is = refl; to_field = λ s. refl; to_method = λ s. refl }
known (events.CommitString (Some t)) = record { other = _; is = refl; to_field = λ s. refl; to_method = λ s. refl }
known (events.DeleteSurroundingText before behind) =
    record { other = _; is = refl; to_field = λ s. refl; to_method = λ s. refl }
known (events.TextInputDone serial) = record { other = _; is = refl; to_field = λ s. refl; to_method = λ s. refl }
known events.Activate = record { other = _; is = refl; to_field = λ s. refl; to_method = λ s. refl }
known events.Deactivate = record { other = _; is = refl; to_field = λ s. refl; to_method = λ s. refl }
known (events.SurroundingText t cursor anchor) =
    record { other = _; is = refl; to_field = λ s. refl; to_method = λ s. refl }
known (events.TextChangeCause cause) = record { other = _; is = refl; to_field = λ s. refl; to_method = λ s. refl }
known (events.ContentType hint purpose) = record { other = _; is = refl; to_field = λ s. refl; to_method = λ s. refl }
known events.InputMethodDone = record { other = _; is = refl; to_field = λ s. refl; to_method = λ s. refl }
known events.Unavailable = record { other = _; is = refl; to_field = λ s. refl; to_method = λ s. refl }
known (events.TextInputRectangle x y width height) =
    record { other = _; is = refl; to_field = λ s. refl; to_method = λ s. refl }
known (events.Keymap format d size) = record { other = _; is = refl; to_field = λ s. refl; to_method = λ s. refl }
known (events.Key serial time key state) = record { other = _; is = refl; to_field = λ s. refl; to_method = λ s. refl }
known (events.Modifiers serial depressed latched locked group) =
    record { other = _; is = refl; to_field = λ s. refl; to_method = λ s. refl }
known (events.RepeatInfo rate delay) = record { other = _; is = refl; to_field = λ s. refl; to_method = λ s. refl }

-- a client for which such events are the same
abbrev pub KnowsEvents : {S : Type 0} → Step S → Type 0
KnowsEvents {S} step =
    (e : Event) → (other : Event) × (event_of (event_message e) ≡ Some other) × ((s : S) → step other s ≡ step e s)

pub field_knows : KnowsEvents field.after_event
field_knows e = let k = known e in (k.other, k.is, k.to_field)

pub method_knows : KnowsEvents (method.after_event meanings_of)
method_knows e = let k = known e in (k.other, k.is, k.to_method)
