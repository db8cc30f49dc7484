-- The lock's history: the outer steps, which passes show, and notes of who records
use Rattle.std.specs.Prelude.{◌≡◌, ◌==◌, ◌+◌, ◌<◌, ◌≤◌, ℕ, Bool, true, false, List, [], ◌∷◌, map, reverse, if◌then◌else◌, Option, Some, None, option_map}
use Rattle.broker_steps.specs.declared.limits.Limits.{Limits}
use Rattle.turn_lock.specs.Sights.{Sight}
use Rattle.hub_lock.specs.declared.step.OuterStep.{OuterStep}
use Rattle.hub_lock.specs.declared.event.Event.{Event}
use Rattle.hub_lock.specs.declared.event.Event.TheVariants as events
use Rattle.hub_lock.specs.declared.event.Note.{Note}
use Rattle.hub_lock.specs.declared.event.Note.TheVariants as notes
use Rattle.hub_lock.specs.declared.event.Mark.{Mark}
use Rattle.hub_lock.specs.declared.event.Mark.TheVariants as marks
use Rattle.hub_lock.specs.Histories.{History}
use Rattle.hub_lock.specs.Passes.{PassSeat}
use Rattle.hub_lock.specs.Seats.{pass_with}
use Rattle.hub_lock.specs.Shown.{shown, shown_sight}

-- pairs of a pass's number and an event, the oldest first
abbrev pub Events : Type 0
Events = List (ℕ × Event)

-- a seat of the lock
abbrev pub EventSeat : Type 0
EventSeat = Sight Event Limits

-- the step, of an event that is one
abbrev pub step_of : Event → Option OuterStep
step_of (events.Step s) = Some s
step_of (events.Noted note) = None

-- the outer steps of a history
abbrev pub steps_of_events : Events → History
steps_of_events h = shown step_of h

-- the pass that has the seat, unless it is the root
abbrev pub pass_seat : EventSeat → PassSeat
pass_seat s = pass_with None (shown_sight step_of s)

-- who records, by the pass's number, and how many entries were handed out to it; none where nobody
-- records yet
abbrev pub Tally : Type 0
Tally = Option (ℕ × ℕ)

-- the tally, after one more was handed out to the pass m
abbrev pub handed_to : ℕ → (ℕ × ℕ) → (ℕ × ℕ)
handed_to m t = if m == t.0 then (t.0, t.1 + 1) else t

-- the pass named records, if the root named it
abbrev pub named_by : ℕ → ℕ → Tally
named_by m n = if m == 0 then Some (n, 0) else None

-- the tally, after the pass m made a note: the root names who records, once
abbrev pub tally_noted : ℕ → Note → Tally → Tally
tally_noted m (notes.Names n) None = named_by m n
tally_noted m (notes.Names n) (Some t) = Some t
tally_noted m notes.HandsOut t = option_map (handed_to m) t

-- the same, where it made one or none
abbrev pub tally_after : ℕ → Option Note → Tally → Tally
tally_after m None t = t
tally_after m (Some note) t = tally_noted m note t

-- the same of any event
abbrev pub tally_by : ℕ → Event → Tally → Tally
tally_by m (events.Step s) t = t
tally_by m (events.Noted note) t = tally_noted m note t

-- the tally of a history, from that before it
abbrev pub tally_from : Tally → Events → Tally
tally_from t [] = t
tally_from t (x ∷ h) = tally_from (tally_by x.0 x.1 t) h

-- the tally of a history
abbrev pub tally_of : Events → Tally
tally_of h = tally_from None h

-- whom a history names to record, by the pass's number
abbrev pub named_in : Events → Option ℕ
named_in h = option_map (λ (t : ℕ × ℕ). t.0) (tally_of h)

-- the root that has the seat
abbrev pub root_seat : EventSeat → PassSeat
root_seat s = pass_with (named_in s.seen) (shown_sight step_of s)

-- who records is a pass that was made from the root with this seat: never the root itself, and
-- nobody before a pass was made
abbrev pub RecordsByAnother : EventSeat → Type 0
RecordsByAnother s = (t : ℕ × ℕ) → tally_of s.seen ≡ Some t → (1 ≤ t.0) × (t.0 < s.next)

-- who alone changes a tally: who records, or the root
abbrev pub owner_of : Tally → ℕ
owner_of None = 0
owner_of (Some t) = t.0

-- how many notes a tally takes
abbrev pub notes_in : Tally → ℕ
notes_in None = 0
notes_in (Some t) = t.1 + 1

-- how many notes it is
abbrev pub count_of : Option Note → ℕ
count_of None = 0
count_of (Some note) = 1

-- what a play adds, by its note or as a step
abbrev pub mark_by : ℕ → Option Note → (has_step : Bool) → Option Mark
mark_by n (Some note) has_step = Some (marks.Noted n note)
mark_by n None true = Some marks.Step
mark_by n None false = None

-- the marks, with one more where there is one
abbrev pub with_mark : Option Mark → List Mark → List Mark
with_mark None ms = ms
with_mark (Some mark) ms = mark ∷ ms

-- a step as an event
abbrev pub event_of : (ℕ × OuterStep) → (ℕ × Event)
event_of s = (s.0, events.Step s.1)

-- steps as a history, the newest first, with what was noted between them
abbrev pub woven : List Mark → History → Events
woven [] steps = map event_of steps
woven (marks.Step ∷ ms) [] = woven ms []
woven (marks.Step ∷ ms) (s ∷ steps) = event_of s ∷ woven ms steps
woven (marks.Noted n note ∷ ms) steps = (n, events.Noted note) ∷ woven ms steps

-- the history with these marks, the newest first, and these steps, the oldest first
abbrev pub events_with : List Mark → History → Events
events_with ms steps = reverse (woven ms (reverse steps))
