-- What a field's client hears, by the call that writes it down
use Rattle.std.proofs.Common.{◌≡◌, ℕ, Bool, true, false, List, refl, ap}
use Rattle.client_side.specs.Client.{Client}
use Rattle.client_side.specs.Events.{field_objects}
use Rattle.client_side.specs.FieldState.{State, after_event, log_after}
use Rattle.trial_client_logs.specs.declared.entry.FieldEntry.{FieldEntry}
use Rattle.trial_client_logs.specs.Logs.{field_log}
use Rattle.trial_client_logs.specs.Hearing.{Accepts, Refuses, HearsSome}
use Rattle.trial_typing.specs.FieldHearing.{HeardOn, accepted, refused, unheard, HeardPart}

module _ (old new : Client State) (log after : List FieldEntry) (piece : List ℕ)
    (again : old.is_bad ≡ true → (new ≡ old) × (after ≡ log)) where
  pub all_heard : Accepts field_objects after_event log_after old new (field_log log) (field_log after) piece →
      HeardOn old new (field_log log) (field_log after) piece
  all_heard a = by old.is_bad refl
    where
      by : (b : Bool) → old.is_bad ≡ b → HeardOn old new (field_log log) (field_log after) piece
      by true e = unheard e (again e).0 (ap field_log (again e).1)
      by false e = accepted e a

  pub went_wrong : (old.is_bad ≡ false →
      Refuses field_objects after_event log_after old new (field_log log) (field_log after) piece) →
      HeardOn old new (field_log log) (field_log after) piece
  went_wrong r = by old.is_bad refl
    where
      by : (b : Bool) → old.is_bad ≡ b → HeardOn old new (field_log log) (field_log after) piece
      by true e = unheard e (again e).0 (ap field_log (again e).1)
      by false e = refused e (r e)

  pub heard_some : HearsSome field_objects after_event log_after old new (field_log log) (field_log after) piece →
      HeardPart old new (field_log log) (field_log after) piece
  heard_some s = record { some = s; stays = λ e. ap field_log (again e).1 }
