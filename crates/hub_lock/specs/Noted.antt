-- What a play notes of who records
use Rattle.std.specs.Prelude.{◌≡◌, ◌↔◌, ◌+◌, ◌≤◌, ℕ, Option, Some, None, option_map, Err, IfSome, IsSome}
use Rattle.broker_steps.specs.declared.limits.Limits.{Limits}
use Rattle.broker_core.specs.Broker.{Broker}
use Rattle.hub_lock.specs.declared.session.NoSession.TheVariants as sessions
use Rattle.hub_lock.specs.declared.call.Ask.{Ask}
use Rattle.hub_lock.specs.declared.call.Ask.TheVariants as asks
use Rattle.hub_lock.specs.declared.call.Answer.{Answer}
use Rattle.hub_lock.specs.declared.call.Answer.TheVariants as answers
use Rattle.hub_lock.specs.declared.call.Call.{Call}
use Rattle.hub_lock.specs.declared.call.Reply.{Reply}
use Rattle.hub_lock.specs.declared.event.Note.{Note}
use Rattle.hub_lock.specs.declared.event.Note.TheVariants as notes
use Rattle.hub_lock.specs.Histories.{broker_of}
use Rattle.hub_lock.specs.Lawful.{Held}
use Rattle.hub_lock.specs.Plays.{Plays, IsHandedOut}
use Rattle.hub_lock.specs.Events.{Events, Tally, steps_of_events, tally_after, tally_of, notes_in, count_of}

-- what an answer notes
abbrev pub note_of : Answer → Option Note
note_of (answers.Named (Some n)) = Some (notes.Names n)
note_of (answers.HandedOut (Some it)) = Some notes.HandsOut
note_of _ = None

-- the tally takes what the answer notes, and nothing else
pub record IsNoted (n : ℕ) (a : Answer) (before after : Tally) : Type 0 where
  pub tally : after ≡ tally_after n (note_of a) before
  pub count : notes_in after ≡ notes_in before + count_of (note_of a)

-- an entry was handed out
abbrev pub HasHanded : Tally → Type 0
HasHanded None = ⊥
HasHanded (Some t) = 1 ≤ t.1

-- who records is handed the next entry; the root names who records where nobody does; and there is
-- no copy just where an entry was handed out, or where memory lacks
abbrev pub Hands : ℕ → Ask → Answer → Broker → Tally → Type 0
Hands n (asks.Name m) (answers.Named r) b t =
    IfSome r (λ named. named ≡ m) × (n ≡ 0 → t ≡ None → IsSome r)
Hands n asks.HandOut (answers.HandedOut r) b t =
    (given : ℕ) → t ≡ Some (n, given) → IsHandedOut b given r
Hands n asks.Copy (answers.Copied r) b t = (r ≡ Err sessions.HandedOut) ↔ HasHanded t
Hands n _ _ b t = Unit {0}

-- what the root asks but to name who records
abbrev pub IsOfRoot : Ask → Type 0
IsOfRoot (asks.Join role reader) = Unit {0}
IsOfRoot asks.Copy = Unit {0}
IsOfRoot _ = ⊥

-- the tally of the value behind the lock
abbrev pub tally_in : Held → Tally
tally_in h = option_map (λ n. (n, h.broker.kept_from)) h.recorder

-- the value behind the lock, with its history
pub record Noted : Type 0 where
  pub held : Held
  pub events : Events

-- a play of a call, at the lock's history
pub record PlaysEvents (limits : Limits) (before : Events) (call : Call) (after : Events)
    (call' : Call) (reply : Reply) : Type 0 where
  pub steps : Plays limits (steps_of_events before) call (steps_of_events after) call' reply
  pub noted : IsNoted call.number reply.answer (tally_of before) (tally_of after)
  pub hands : Hands call.number call.ask reply.answer
      (broker_of limits (steps_of_events before)) (tally_of before)
