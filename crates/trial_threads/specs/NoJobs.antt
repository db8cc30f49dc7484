-- Why a job isn't begun, and what is then left
use Rattle.std.specs.Prelude.{◌≡◌, ◌≤◌, ◌+◌, ◌++◌, ℕ, List, length, Some}
use Rattle.wl_wire.specs.Messages.{messages}
use Rattle.relay_model.specs.declared.role.Role.{Role}
use Rattle.broker_steps.specs.declared.limits.Limits.{Limits}
use Rattle.broker_model.specs.declared.journal.Entry.{Entry}
use Rattle.broker_model.specs.declared.journal.Kept.{Kept}
use Rattle.broker_model.specs.Limits.{weight_of}
use Rattle.broker_core.specs.declared.answers.JoinRefusal.{JoinRefusal}
use Rattle.broker_core.specs.declared.answers.JoinRefusal.TheVariants as join
use Rattle.broker_core.specs.Broker.{join_refusal}
use Rattle.client_side.specs.Messages.{Sent, spelled}
use Rattle.turn_lock.specs.Pairs.{total}
use Rattle.hub_lock.specs.Histories.{History, broker_of}
use Rattle.hub_lock.specs.Passes.{HubId, PassSeat, IsOf, steps_of}
use Rattle.hub_calls.specs.declared.stop.PassStop.{PassStop}
use Rattle.hub_calls.specs.declared.stop.PassStop.TheVariants as stops
use Rattle.hub_calls.specs.Made.{IsFullFor}
use Rattle.trial_threads.specs.declared.no_job.NoJob.{NoJob}
use Rattle.trial_threads.specs.declared.no_job.NoJob.TheVariants as none

-- the answer where a join was refused, and where a message of a set-up wasn't taken
abbrev pub refused_by : JoinRefusal → NoJob
refused_by (join.TooManyPeers alive) = none.TooManyPeers alive
refused_by (join.JournalFull kept) = none.JournalFull kept
refused_by join.NoMemory = none.NoMemory

abbrev pub stopped_by : PassStop → NoJob
stopped_by (stops.JournalFull kept) = none.JournalFull kept
stopped_by stops.NoMemory = none.NoMemory

-- the history begins with one whose journal is full for this entry, which is no heavier than a
-- message may be, and holds so much
pub record WasFull (limits : Limits) (h : History) (kept : Kept) : Type 0 where
  pub front : History
  pub more : History
  pub is : h ≡ front ++ more
  pub entry : Entry
  pub light : weight_of entry ≤ 4104
  pub full : IsFullFor limits front entry kept

-- after the history a peer can't join in this role, by the rules, since so many are alive
pub record HasManyPeers (limits : Limits) (h : History) (alive : ℕ) : Type 0 where
  pub role : Role
  pub refused : join_refusal (broker_of limits h) role ≡ Some (join.TooManyPeers alive)

-- TooManyPeers: by the rules so many are alive after all that the root has seen. JournalFull: it has
-- seen a journal that was full
abbrev pub HasCause : Limits → History → NoJob → Type 0
HasCause limits h (none.TooManyPeers alive) = HasManyPeers limits h alive
HasCause limits h (none.JournalFull kept) = WasFull limits h kept
HasCause limits h none.NoMemory = Unit {0}

-- how many messages these bytes have, and a set-up
abbrev pub count_in : List ℕ → ℕ
count_in bytes = length (messages bytes)

abbrev pub count_of : List Sent → ℕ
count_of setup = count_in (spelled setup)

-- The root is the hub's as before, named nobody, and no pass is out that wasn't. It made one step at
-- most; the passes that were made, two at most, came back, and made so many steps at most.
pub record IsWithout (hub : HubId) (before after : PassSeat) (most : ℕ) (why : NoJob) : Type 0 where
  pub of : IsOf hub after
  pub number : after.number ≡ before.number
  pub named : after.named ≡ before.named
  pub out : after.out ≡ before.out
  pub next : after.next ≤ before.next + 2
  pub cause : HasCause hub.limits after.seen why
  pub made : steps_of after ≤ steps_of before + 1
  pub back : List ℕ
  pub taken : after.taken ≡ back ++ before.taken
  pub few : total back after.seen ≤ most
