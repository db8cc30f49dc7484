-- What a field's client heard, and what of a script its user did.
use Rattle.std.specs.Prelude.{ℕ, zero, suc, ◌-◌, ◌==◌, List, [], ◌∷◌, ◌++◌, take, if◌then◌else◌, Option, Some, None}
use Rattle.std.specs.List.{slice_get}
use Rattle.broker_steps.specs.declared.limits.Limits.{Limits}
use Rattle.wl_proto.specs.declared.event.Event.{Event}
use Rattle.trial_field.specs.Log.{Entry}
use Rattle.client_side.specs.Events.{field_objects}
use Rattle.client_side.specs.Happenings.{Happening, edited}
use Rattle.broker_model.specs.declared.journal.Entry as journals
use Rattle.broker_model.specs.Out.{out_for}
use Rattle.trial_script.specs.declared.action.Action.{Action}
use Rattle.trial_script.specs.declared.action.Action.TheVariants as actions
use Rattle.trial_script.specs.declared.script.Script.{Script}
use Rattle.trial_run.specs.Hearing.{event_in}
use Rattle.trial_run.specs.Ran.{Ran}
use Rattle.trial_run.specs.Play.{TrialPlay, text_at}
use Rattle.trial_run.specs.Lines.{edit_of, show_line}
use Rattle.trial_run.specs.Trial.{trial_played}
pub use Rattle.client_side.specs.HappenedLists.{told_in, waiting_after, happenings}

-- ---- what a log has

-- its own edits, in order
abbrev pub edits_in : List Happening → List Entry
edits_in [] = []
edits_in (edited edit ∷ older) = edits_in older ++ edit ∷ []
edits_in (_ ∷ older) = edits_in older

-- ---- what a client heard

-- the bytes that the peer with the label p took: the front of all that was put for it
abbrev pub bytes_taken : ℕ → List journals.Entry → ℕ → List ℕ
bytes_taken capacity journal p =
    take (out_for capacity journal p).taken (out_for capacity journal p).put.bytes

abbrev pub then_events : Option Event → List Event → List Event
then_events None more = []
then_events (Some event) more = event ∷ more

-- the events that messages spell to the objects of a field's client, up to the first message that
-- spells none
abbrev pub events_in : List (List ℕ) → List Event
events_in [] = []
events_in (m ∷ ms) = then_events (event_in field_objects m) (events_in ms)

-- ---- what a script has

-- the edit of the field with the index k, where the action is one; actions number fields from 1
abbrev pub edits_by : Action → ℕ → List Entry
edits_by (actions.Edit f e) k = if f - 1 == k then edit_of e ∷ [] else []
edits_by _ k = []

-- the edits of the field with the index k among actions, in order
abbrev pub own_edits : List Action → ℕ → List Entry
own_edits [] k = []
own_edits (action ∷ more) k = edits_by action k ++ own_edits more k

-- the trial that the first n actions play
abbrev pub trial_to : ℕ → Limits → Script → Ran TrialPlay
trial_to n limits script = trial_played limits (record script { actions = take n script.actions })

-- what an action shows of the trial that those before it play, where the trial comes to it
abbrev pub line_of : Action → Ran TrialPlay → List ℕ
line_of (actions.Show f) r = if r.is_full then [] else show_line f (text_at (f - 1) r.now)
line_of _ r = []

abbrev pub line_at : Option Action → Ran TrialPlay → List ℕ
line_at None r = []
line_at (Some action) r = line_of action r

-- what the first n actions show
abbrev pub lines_to : ℕ → Limits → Script → List ℕ
lines_to zero limits script = []
lines_to (suc n) limits script =
    lines_to n limits script ++ line_at (slice_get script.actions n) (trial_to n limits script)
