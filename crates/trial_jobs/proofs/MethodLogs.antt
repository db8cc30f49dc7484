-- What the method's log has after events, and in its parts
use Rattle.std.proofs.Common.{◌≡◌, List, [], ◌∷◌, ◌++◌, refl, sym, ap, ◌∙◌, append_assoc, append-nil}
use Rattle.wl_proto.specs.declared.event.Event.{Event}
use Rattle.trial_field.specs.Log.{Batch}
use Rattle.client_side.specs.MethodLog.{Happening, came, committed}
use Rattle.client_side.specs.MethodState.{log_after}
use Rattle.trial_client_logs.specs.declared.method_log.MethodEntry.{MethodEntry}
use Rattle.trial_client_logs.specs.MethodLogs.{happening_of, method_log}
use Rattle.trial_laws.specs.TypedLogs.{events_of, batches_of}
use Rattle.trial_jobs.specs.MethodHearing.{HasShort}

pub events_after : (all : List Event) (log : List Happening) → events_of (log_after all log) ≡ events_of log ++ all
events_after [] log = sym (append-nil (events_of log))
events_after (event ∷ more) log =
    events_after more (came event ∷ log) ∙ append_assoc (events_of log) (event ∷ []) more

pub batches_after : (all : List Event) (log : List Happening) → batches_of (log_after all log) ≡ batches_of log
batches_after [] log = refl
batches_after (event ∷ more) log = batches_after more (came event ∷ log)

pub short_after : (all : List Event) (log : List Happening) → HasShort log → HasShort (log_after all log)
short_after [] log h = h
short_after (event ∷ more) log h = short_after more (came event ∷ log) h

pub events-append : (a b : List Happening) → events_of (a ++ b) ≡ events_of b ++ events_of a
events-append [] b = sym (append-nil (events_of b))
events-append (came event ∷ a) b =
    ap (λ (l : List Event). l ++ event ∷ []) (events-append a b)
    ∙ append_assoc (events_of b) (events_of a) (event ∷ [])
events-append (committed edits ∷ a) b = events-append a b

pub batches-append : (a b : List Happening) → batches_of (a ++ b) ≡ batches_of b ++ batches_of a
batches-append [] b = sym (append-nil (batches_of b))
batches-append (came event ∷ a) b = batches-append a b
batches-append (committed edits ∷ a) b =
    ap (λ (l : List Batch). l ++ edits ∷ []) (batches-append a b)
    ∙ append_assoc (batches_of b) (batches_of a) (edits ∷ [])

-- a log with one entry more
pub pushed : (log : List MethodEntry) (e : MethodEntry) → method_log (log ++ e ∷ []) ≡ happening_of e ∷ method_log log
pushed [] e = refl
pushed (x ∷ log) e = ap (λ (r : List Happening). r ++ happening_of x ∷ []) (pushed log e)
