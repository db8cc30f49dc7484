-- The shared state as its callers see it: limits and a journal. When a step is refused, and what
-- becomes of one that isn't.
use Rattle.std.specs.Prelude.{◌≡◌, ℕ, ◌≤◌, ◌==◌, List, [], ◌∷◌, length, min, max, nat_le, if◌then◌else◌, Option, Some, None, option_map, Result, IsOk, IsOkUnless}
use Rattle.relay_model.specs.declared.act.EndCause.{EndCause}
use Rattle.relay_model.specs.declared.act.EndCause.TheVariants.{Gone}
use Rattle.relay_model.specs.declared.role.Role.{Role}
use Rattle.broker_steps.specs.declared.limits.Limits.{Limits}
use Rattle.broker_steps.specs.declared.stamp.Stamp.{Stamp}
use Rattle.broker_steps.specs.declared.step.Step.{Step}
use Rattle.broker_steps.specs.declared.step.Step.TheVariants as steps
use Rattle.broker_steps.specs.declared.step.PeerStep.{PeerStep}
use Rattle.broker_steps.specs.declared.step.PeerStep.TheVariants as peers
use Rattle.broker_steps.specs.Ranges.{IsLimits}
use Rattle.relay_objects.specs.Reached.{Reached}
use Rattle.broker_model.specs.declared.journal.Entry.{Entry}
use Rattle.broker_model.specs.declared.journal.Entry.TheVariants as entries
use Rattle.broker_model.specs.declared.journal.Kept.{Kept}
use Rattle.broker_model.specs.Out.{Outgoing, stored}
use Rattle.broker_model.specs.Settle.{settle, history, outer, number_alive}
use Rattle.broker_model.specs.Stamps.{stamps, step_stamps}
use Rattle.broker_model.specs.Limits.{number_counted, weight, is_full}
use Rattle.broker_core.specs.declared.answers.JoinRefusal.{JoinRefusal}
use Rattle.broker_core.specs.declared.answers.JoinRefusal.TheVariants as join
use Rattle.broker_core.specs.declared.answers.Refused.{Refused}
use Rattle.broker_core.specs.declared.answers.Refused.TheVariants as refused
use Rattle.broker_core.specs.declared.answers.Took.{Took}
use Rattle.broker_core.specs.declared.answers.Took.TheVariants as took
use Rattle.broker_core.specs.declared.state.State.{State}
use Rattle.broker_core.specs.declared.taking.Standing.{Standing}
use Rattle.broker_core.specs.declared.taking.Standing.TheVariants.{Nobody, Alive, Over}
use Rattle.broker_core.specs.Stands.{Stands, end_of}
use Rattle.broker_core.specs.Taking.{out_at, standing_of}
use Rattle.broker_core.specs.Watched.{Watched, watched_since}

-- what was allowed, all that happened with its stamps, the newest first, and how many of the oldest
-- entries and stamps were let go
pub record Broker : Type 0 where
  pub limits : Limits
  pub journal : List Entry
  pub stamps : List Stamp
  pub kept_from : ℕ

-- where nothing happened yet
abbrev pub begun : Limits → Broker
begun limits = record { limits = limits; journal = []; stamps = []; kept_from = 0 }

-- the entries up to a number are let go, and those that went before stay gone
abbrev pub letting_go : ℕ → Broker → Broker
letting_go number b = record b { kept_from = max b.kept_from (min number (length b.journal)) }

-- how many entries and how many stamps were let go
abbrev pub gone : State → ℕ × ℕ
gone s = (s.journal.kept_from, s.stamps.kept_from)

-- What its state keeps: it stands for a journal that is the history of its outer steps, within the
-- limits, at most 64 peers are alive, the stamps are those for which the steps' were given, and as
-- many of them were let go as entries.
pub record IsBroker (limits : Limits) (s : State) : Type 0 where
  pub stands : Stands s
  pub capacity : s.capacity ≡ limits.store
  pub limited : IsLimits limits
  pub steps : history limits.store (outer s.journal.entries) ≡ s.journal.entries
  pub counted : number_counted s.journal.entries ≤ limits.entries
  pub light : weight s.journal.entries ≤ limits.weight
  pub few : number_alive s.journal.entries ≤ 64
  pub stamped : stamps s.journal.entries (step_stamps s.journal.entries s.stamps.stamps)
      ≡ s.stamps.stamps
  pub kept : s.stamps.kept_from ≡ s.journal.kept_from

-- after one more step, and the ends that follow from it: its call gave the stamp
abbrev pub with_step : Entry → Stamp → Broker → Broker
with_step e given b =
    let after = settle b.limits.store (e ∷ b.journal) in
    record b { journal = after; stamps = stamps after (given ∷ step_stamps b.journal b.stamps) }

-- how much a journal holds
abbrev pub kept_in : List Entry → Kept
kept_in journal = record { entries = number_counted journal; weight = weight journal }

-- how much a journal with these limits holds, where it is full for the entry
abbrev pub full_in : Limits → List Entry → Entry → Option Kept
full_in limits journal e = (if is_full limits journal e then Some (kept_in journal) else None)

-- the same of the broker's journal
abbrev pub full_for : Broker → Entry → Option Kept
full_for b e = full_in b.limits b.journal e

-- why no peer can join, if so: 64 are alive, or else the journal is full
abbrev pub join_refusal : Broker → Role → Option JoinRefusal
join_refusal b role =
    (if nat_le 64 (number_alive b.journal) then Some (join.TooManyPeers 64)
    else option_map (λ kept. join.JournalFull kept) (full_for b (entries.Join role)))

-- the entry of a step of the peer q
abbrev pub peer_entry : ℕ → PeerStep → Entry
peer_entry q (peers.Message id opcode body) = entries.Message q id opcode body
peer_entry q (peers.Tokens tokens) = entries.Tokens q tokens
peer_entry q (peers.BadSize head) = entries.BadSize q head
peer_entry q peers.Gone = entries.End q Gone

-- the entry of a step
abbrev pub entry_of : Step → Entry
entry_of (steps.Join role) = entries.Join role
entry_of (steps.Peer q step) = peer_entry q step
entry_of (steps.Shell step) = entries.Shell step
entry_of (steps.Take q n) = entries.Took q n

-- where the journal is full for the entry
abbrev pub refusal_if_full : Broker → Entry → Option Refused
refusal_if_full b e = option_map (λ kept. refused.JournalFull kept) (full_for b e)

-- by who is there
abbrev pub peer_refusal : Broker → Entry → Standing → Option Refused
peer_refusal b e Nobody = Some refused.NoPeer
peer_refusal b e (Over cause) = Some (refused.Ended cause)
peer_refusal b e Alive = refusal_if_full b e

-- why the step can't be taken, if so: no peer has the number, or it ended, or else the journal is
-- full
abbrev pub refusal : Broker → Step → Option Refused
refusal b (steps.Peer q step) = peer_refusal b (peer_entry q step) (standing_of b.journal q)
refusal b step = refusal_if_full b (entry_of step)

-- the step is a peer's or the shell's
abbrev pub IsSaid : Step → Type 0
IsSaid (steps.Peer q step) = Unit {0}
IsSaid (steps.Shell step) = Unit {0}
IsSaid _ = ⊥

-- a step that isn't refused is taken unless memory is short; the end of a peer needs none
abbrev pub IsAccepted : {T : Type 0} → {E : Type 0} → E → Step → Result T E → Type 0
IsAccepted e (steps.Peer q peers.Gone) result = IsOk result
IsAccepted e _ result = IsOkUnless result e

-- nothing is stored for a peer, which ended or didn't
abbrev pub nothing_left : Option EndCause → Took
nothing_left None = took.Empty
nothing_left (Some cause) = took.Closed

abbrev pub take_refusal_from : Broker → ℕ → Option Outgoing → Option Took
take_refusal_from b q None = Some took.NoPeer
take_refusal_from b q (Some out) =
    (if length (stored out) == 0 then Some (nothing_left (end_of b.journal q))
    else option_map (λ kept. took.JournalFull kept) (full_for b (entries.Took q 0)))

-- why nothing can be taken for the peer q, if so: it isn't there, or nothing is stored, or else the
-- journal is full
abbrev pub take_refusal : Broker → ℕ → Option Took
take_refusal b q = take_refusal_from b q (out_at b.limits.store b.journal q)

-- the fact, if bytes were taken
abbrev pub IfBytes : Took → (ℕ × ℕ → Type 0) → Type 0
IfBytes (took.Bytes bytes tokens) P = P (bytes, tokens)
IfBytes _ P = Unit {0}

-- the fact, if none were
abbrev pub IfNoBytes : Took → Type 0 → Type 0
IfNoBytes (took.Bytes bytes tokens) P = Unit {0}
IfNoBytes _ P = P

-- bytes were taken, unless memory was short
abbrev pub IsBytesUnlessMemory : Took → Type 0
IsBytesUnlessMemory (took.Bytes bytes tokens) = Unit {0}
IsBytesUnlessMemory took.NoMemory = Unit {0}
IsBytesUnlessMemory _ = ⊥

-- who watched meanwhile was told of each entry that the journal has since, in order, and of nothing
-- else
abbrev pub IsWatched : {W : Type 0} → (W → Watched → W → Type 0) → Broker → W → Broker → W → Type 0
IsWatched may_follow before watch after watch_after =
    Reached may_follow watch
    (watched_since before.limits.store (length before.journal) after.journal) watch_after
