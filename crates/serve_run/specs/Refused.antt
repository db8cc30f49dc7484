-- Why a join was refused, and what that makes of the accepting
use Rattle.std.specs.Prelude.{◌≡◌, ◌⊎◌, ℕ, ◌+◌, List, ◌++◌, Option, Some, None, Result, Err, IfSome, IfNone}
use Rattle.std.specs.List.{slice_get}
use Rattle.relay_model.specs.declared.role.Role.{Role}
use Rattle.broker_steps.specs.declared.limits.Limits.{Limits}
use Rattle.broker_core.specs.declared.answers.JoinRefusal.{JoinRefusal}
use Rattle.broker_core.specs.declared.answers.JoinRefusal.TheVariants as refusals
use Rattle.broker_core.specs.Broker.{join_refusal}
use Rattle.hub_lock.specs.Histories.{History, broker_of}
use Rattle.serve_run.specs.declared.stop.Stop.{Stop}
use Rattle.serve_run.specs.declared.stop.Stop.TheVariants as stops
use Rattle.serve_run.specs.LinkJobs.{role_at}

-- no further links are accepted, for this cause
abbrev pub stopped : Stop → Result (Unit {0}) Stop
stopped stop = Err stop

-- The accepting stopped for a join that was refused so: for a full journal, or where memory lacked.
-- No join is refused for too many peers: an order has letters for 64 at most.
abbrev pub IsStoppedBy : JoinRefusal → Result (Unit {0}) Stop → Type 0
IsStoppedBy (refusals.JournalFull kept) stop = stop ≡ stopped stops.JournalFull
IsStoppedBy refusals.NoMemory stop = stop ≡ stopped stops.NoMemory
IsStoppedBy (refusals.TooManyPeers most) stop = ⊥

-- by the journal of an earlier moment the rules refuse a join so, or they don't and memory lacked
pub record HasMet (limits : Limits) (h : History) (role : Role) (why : JoinRefusal) : Type 0 where
  pub earlier : History
  pub later : History
  pub is : h ≡ earlier ++ later
  pub by_rule : IfSome (join_refusal (broker_of limits earlier) role) (λ rule. why ≡ rule)
  pub otherwise : IfNone (join_refusal (broker_of limits earlier) role) (why ≡ refusals.NoMemory)

-- the join of a peer with the role was refused, and so the accepting stopped; a shell joins nobody
abbrev pub WasRefused : Limits → History → Option Role → Result (Unit {0}) Stop → Type 0
WasRefused limits h None stop = ⊥
WasRefused limits h (Some role) stop =
    (why : JoinRefusal) × IsStoppedBy why stop × HasMet limits h role why

-- so it was with the link behind those that joined
abbrev pub IsRefusedAt : Limits → History → List ℕ → (joined accepted : ℕ) →
    Result (Unit {0}) Stop → Type 0
IsRefusedAt limits h letters joined accepted stop =
    (accepted ≡ joined + 1) × (d : ℕ) × (slice_get letters joined ≡ Some d)
    × WasRefused limits h (role_at d) stop

-- every link that was accepted joined, or the last was refused, and only then for a full journal
abbrev pub JoinedUnless : Limits → History → List ℕ → (joined accepted : ℕ) →
    Result (Unit {0}) Stop → Type 0
JoinedUnless limits h letters joined accepted stop =
    ((joined ≡ accepted) × ¬ (stop ≡ stopped stops.JournalFull))
    ⊎ IsRefusedAt limits h letters joined accepted stop
