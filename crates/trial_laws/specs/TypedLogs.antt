-- What the method's client heard and sent, and what a script and a journal have of it.
use Rattle.std.specs.Prelude.{ℕ, List, [], ◌∷◌, ◌++◌, Bool, false, ◌==◌, if◌then◌else◌}
use Rattle.wl_proto.specs.declared.event.Event.{Event}
use Rattle.wl_proto.specs.Spelling.{spelling}
use Rattle.relay_model.specs.declared.act.EndCause.TheVariants.{Gone}
use Rattle.trial_field.specs.Log.{Batch}
use Rattle.client_side.specs.Events.{method_objects}
use Rattle.client_side.specs.Messages.{Sent, method_setup}
use Rattle.client_side.specs.MethodLog.{Happening, came, committed, sends_of}
use Rattle.broker_model.specs.declared.journal.Entry as journals
use Rattle.broker_model.specs.declared.journal.Entry.TheVariants as entries
use Rattle.trial_script.specs.declared.action.Action.{Action}
use Rattle.trial_script.specs.declared.action.Action.TheVariants as actions
use Rattle.trial_run.specs.declared.typist.TrialTypist.{TrialTypist}
use Rattle.trial_run.specs.Hearing.{event_in}
use Rattle.trial_run.specs.Lines.{batch_of}
use Rattle.trial_run.specs.Typists.{meanings_of}
use Rattle.trial_laws.specs.FieldLogs.{then_events}

-- ---- what a log has

-- the events that came, in order
abbrev pub events_of : List Happening → List Event
events_of [] = []
events_of (came event ∷ older) = events_of older ++ event ∷ []
events_of (committed edits ∷ older) = events_of older

-- the batches of the method's user, in order
abbrev pub batches_of : List Happening → List Batch
batches_of [] = []
batches_of (came event ∷ older) = batches_of older
batches_of (committed edits ∷ older) = batches_of older ++ edits ∷ []

-- all that a client with this log sends, in order: its set-up, and what each press and batch asks
-- for
abbrev pub requests_of : TrialTypist → List Happening → List Sent
requests_of first log = method_setup ++ sends_of meanings_of first log

-- ---- what a script has

-- the batch of an action, where it is one
abbrev pub batch_by : Action → List Batch
batch_by (actions.Batch b) = batch_of b ∷ []
batch_by _ = []

-- the batches among actions, in order
abbrev pub own_batches : List Action → List Batch
own_batches [] = []
own_batches (action ∷ more) = batch_by action ++ own_batches more

-- the log with the batch of an action, where it is one
abbrev pub with_batch : Action → List Happening → List Happening
with_batch (actions.Batch b) log = committed (batch_of b) ∷ log
with_batch _ log = log

-- ---- what a journal has

-- the events that messages spell to the objects of the method's client, up to the first message
-- that spells none
abbrev pub events_in : List (List ℕ) → List Event
events_in [] = []
events_in (m ∷ ms) = then_events (event_in method_objects m) (events_in ms)

-- the entry is a step of the peer with the number q
abbrev pub is_step_of : ℕ → journals.Entry → Bool
is_step_of q (entries.Message n id opcode body) = n == q
is_step_of q (entries.Tokens n tokens) = n == q
is_step_of q (entries.BadSize n head) = n == q
is_step_of q (entries.End n Gone) = n == q
is_step_of q _ = false

-- its steps, in order
abbrev pub steps_by : List journals.Entry → ℕ → List journals.Entry
steps_by [] q = []
steps_by (e ∷ older) q = steps_by older q ++ (if is_step_of q e then e ∷ [] else [])

-- the step of a request that it sends: to this object, with this opcode and this body
abbrev pub step_of_request : ℕ → Sent → journals.Entry
step_of_request q s = entries.Message q s.object s.message.opcode (spelling s.message.values)

-- the steps of requests, in order
abbrev pub steps_of : ℕ → List Sent → List journals.Entry
steps_of q [] = []
steps_of q (s ∷ more) = step_of_request q s ∷ steps_of q more
