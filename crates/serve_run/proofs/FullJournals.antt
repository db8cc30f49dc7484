-- Where the status is a full journal, the journal is at its limit
use Rattle.std.proofs.Common.{◌≡◌, ◌⊎◌, inl, inr, ⊎_elim, ◌+◌, ◌∷◌, [], ℕ, Bool, true, false, List, Option, Some, None, Result, Ok, Err, IfSome, IfNone, refl, sym, ◌∙◌, subst, arith}
use Rattle.std.specs.Prelude.{◌||◌, nat_le, nat_lt, if◌then◌else◌, option_map}
use Rattle.std.proofs.lemmas.Bool.{le-leb, leb-true, lt-ltb, ltb-true}
use mathlib.Core.Logic.{∥∥₁_elim}
use mathlib.Core.Bool.{Bool-set}
use Rattle.relay_model.specs.declared.role.Role.{Role}
use Rattle.broker_steps.specs.declared.limits.Limits.{Limits}
use Rattle.broker_model.specs.declared.journal.Entry.{Entry}
use Rattle.broker_model.specs.declared.journal.Entry.TheVariants as entries
use Rattle.broker_model.specs.declared.journal.Kept.{Kept}
use Rattle.broker_model.specs.Limits.{number_counted, weight}
use Rattle.broker_model.specs.Settle.{number_alive}
use Rattle.broker_core.specs.declared.answers.JoinRefusal.{JoinRefusal}
use Rattle.broker_core.specs.declared.answers.JoinRefusal.TheVariants as refusals
use Rattle.broker_core.specs.Broker.{full_in}
use Rattle.turn_lock.specs.Pairs.{HasSeen}
use Rattle.hub_lock.specs.Histories.{History}
use Rattle.hub_lock.specs.Passes.{PassSeat}
use Rattle.peer_link.specs.declared.ends.ReadEnd.TheVariants as read_ends
use Rattle.peer_link.specs.declared.ends.WriteEnd.TheVariants as write_ends
use Rattle.peer_link.specs.declared.ends.ShellEnd.TheVariants as shell_ends
use Rattle.peer_link.specs.Made.{journal_of, IsAtLimit}
use Rattle.peer_link.proofs.AtLimits.{at-limit, at-limit-later, reader-at-limit, writer-at-limit, shell-at-limit}
use Rattle.serve_jobs.specs.Tags.{Report, End}
use Rattle.serve_jobs.specs.Tags.End.{read, wrote, ordered}
use Rattle.serve_run.specs.declared.status.ServeStatus.TheVariants as statuses
use Rattle.serve_run.specs.declared.stop.Stop.{Stop}
use Rattle.serve_run.specs.declared.stop.Stop.TheVariants as stops
use Rattle.serve_run.specs.declared.stop.Trouble.{Trouble}
use Rattle.serve_run.specs.declared.stop.Trouble.TheVariants as troubles
use Rattle.serve_run.specs.LinkJobs.{role_at}
use Rattle.serve_run.specs.Refused.{stopped, IsStoppedBy, HasMet, WasRefused, JoinedUnless}
use Rattle.serve_run.specs.Reported.{IsSeatOf, LawOf, HaveLaws}
use Rattle.serve_run.specs.Statuses.{brought_by, worse, worst_from, worst, status_by}

-- as a test, which is one fact however often it is known

abbrev at_limit : Limits → List Entry → Bool
at_limit limits j = nat_le limits.entries (number_counted j) || nat_lt limits.weight (weight j + 4104)

or_left : (a b : Bool) → a ≡ true → (a || b) ≡ true
or_left true b is = refl
or_left false b is = absurd (cc)

or_right : (a b : Bool) → b ≡ true → (a || b) ≡ true
or_right true b is = refl
or_right false b is = is

or_either : (a b : Bool) → (a || b) ≡ true → (a ≡ true) ⊎ (b ≡ true)
or_either true b is = inl refl
or_either false b is = inr is

tested : (limits : Limits) (j : List Entry) → IsAtLimit limits j → at_limit limits j ≡ true
tested limits j (inl k) =
    or_left (nat_le limits.entries (number_counted j)) (nat_lt limits.weight (weight j + 4104))
    (le-leb limits.entries (number_counted j) k)
tested limits j (inr k) =
    or_right (nat_le limits.entries (number_counted j)) (nat_lt limits.weight (weight j + 4104))
    (lt-ltb limits.weight (weight j + 4104) k)

from_test : (limits : Limits) (j : List Entry) → at_limit limits j ≡ true → IsAtLimit limits j
from_test limits j is =
    ⊎_elim (λ (a : nat_le limits.entries (number_counted j) ≡ true).
    inl (leb-true limits.entries (number_counted j) a))
    (λ (b : nat_lt limits.weight (weight j + 4104) ≡ true). inr (ltb-true limits.weight (weight j + 4104) b))
    (or_either (nat_le limits.entries (number_counted j)) (nat_lt limits.weight (weight j + 4104)) is)

-- what a pass saw of the history

seen_at_limit : (limits : Limits) (h seen : History) (n : ℕ) → HasSeen h n seen
    → IsAtLimit limits (journal_of limits seen) → IsAtLimit limits (journal_of limits h)
seen_at_limit limits h seen n grows k =
    subst (λ (g : History). IsAtLimit limits (journal_of limits g)) (sym grows.1)
    (at-limit-later limits seen grows.0 k)

same_limits : (told : Option Limits) (a b : Limits) → told ≡ Some a → told ≡ Some b → a ≡ b
same_limits told a b one two = let e : Some a ≡ Some b = sym one ∙ two in cc

pass_at_limit : (limits other : Limits) (h : History) (r : Report) (seat : PassSeat) → seat.constant ≡ Some other
    → IsSeatOf limits h r seat → IsAtLimit other (journal_of other seat.seen) → IsAtLimit limits (journal_of limits h)
pass_at_limit limits other h r seat told is k =
    seen_at_limit limits h seat.seen seat.number is.seen
    (subst (λ l. IsAtLimit l (journal_of l seat.seen)) (same_limits seat.constant other limits told is.constant) k)

-- a report that says so

end_full : (limits : Limits) (h : History) (r : Report) (end : End) → LawOf limits h r end
    → brought_by end ≡ troubles.JournalFull → IsAtLimit limits (journal_of limits h)
end_full limits h r (read (read_ends.JournalFull kept)) law is =
    pass_at_limit limits law.law.limits h r law.pass.seat law.law.constant law.seat
    (reader-at-limit law.law.limits law.pass law.law.read r.left r.source_faults kept law.law.law)
end_full limits h r (read read_ends.Closed) law is = absurd (cc)
end_full limits h r (read (read_ends.Torn n)) law is = absurd (cc)
end_full limits h r (read (read_ends.BadFrame n t)) law is = absurd (cc)
end_full limits h r (read read_ends.ReadFault) law is = absurd (cc)
end_full limits h r (read (read_ends.Ended cause)) law is = absurd (cc)
end_full limits h r (read read_ends.NoMemory) law is = absurd (cc)
end_full limits h r (wrote (write_ends.JournalFull kept)) law is =
    pass_at_limit limits law.law.limits h r law.pass.seat law.law.constant law.seat
    (writer-at-limit law.law.limits law.pass law.law.before r.held kept law.law.law)
end_full limits h r (wrote write_ends.WriteFault) law is = absurd (cc)
end_full limits h r (wrote write_ends.Closed) law is = absurd (cc)
end_full limits h r (wrote write_ends.NoMemory) law is = absurd (cc)
end_full limits h r (ordered (shell_ends.JournalFull kept)) law is =
    pass_at_limit limits law.law.limits h r law.shell law.law.constant law.seat
    (shell-at-limit law.law.limits law.shell law.law.read r.left law.law.before r.held kept law.law.law)
end_full limits h r (ordered shell_ends.Closed) law is = absurd (cc)
end_full limits h r (ordered (shell_ends.BadLine n)) law is = absurd (cc)
end_full limits h r (ordered shell_ends.ReadFault) law is = absurd (cc)
end_full limits h r (ordered shell_ends.WriteFault) law is = absurd (cc)
end_full limits h r (ordered shell_ends.NoMemory) law is = absurd (cc)

worse_full : (a b : Trouble) → worse a b ≡ troubles.JournalFull
    → (a ≡ troubles.JournalFull) ⊎ (b ≡ troubles.JournalFull)
worse_full troubles.JournalFull b is = inl refl
worse_full troubles.NoMemory b is = absurd (cc)
worse_full troubles.None troubles.JournalFull is = inr refl
worse_full troubles.None troubles.NoMemory is = absurd (cc)
worse_full troubles.None troubles.None is = absurd (cc)

reports_full : (limits : Limits) (h : History) (so_far : Trouble) (given : List Report)
    → (so_far ≡ troubles.JournalFull → at_limit limits (journal_of limits h) ≡ true) → HaveLaws limits h given
    → worst_from so_far given ≡ troubles.JournalFull → at_limit limits (journal_of limits h) ≡ true
reports_full limits h so_far [] before laws is = before is
reports_full limits h so_far (r ∷ given) before laws is =
    reports_full limits h (worse so_far (brought_by r.end)) given
    (λ e. ⊎_elim before (λ (f : brought_by r.end ≡ troubles.JournalFull).
    ∥∥₁_elim laws.0 (Bool-set _ _)
    (λ law. tested limits (journal_of limits h) (end_full limits h r r.end law f)))
    (worse_full so_far (brought_by r.end) e))
    laws.1 is

-- a join that was refused so

rule_full : (many : Bool) (full : Option Kept) (kept : Kept)
    → IfSome (if many then Some (refusals.TooManyPeers 64) else option_map (λ k. refusals.JournalFull k) full)
    (λ rule. refusals.JournalFull kept ≡ rule)
    → IfNone (if many then Some (refusals.TooManyPeers 64) else option_map (λ k. refusals.JournalFull k) full)
    (refusals.JournalFull kept ≡ refusals.NoMemory) → full ≡ Some kept
rule_full true full kept some none = absurd (cc)
rule_full false None kept some none = absurd (cc)
rule_full false (Some k) kept some none = cc

join_full : (limits : Limits) (h : History) (role : Role) (stop : Result (Unit {0}) Stop) (why : JoinRefusal)
    → stop ≡ stopped stops.JournalFull → IsStoppedBy why stop → HasMet limits h role why
    → IsAtLimit limits (journal_of limits h)
join_full limits h role stop (refusals.TooManyPeers n) is by met = absurd by
join_full limits h role stop refusals.NoMemory is by met = absurd (cc)
join_full limits h role stop (refusals.JournalFull kept) is by met =
    let j : List Entry = journal_of limits met.earlier in
    let full : full_in limits j (entries.Join role) ≡ Some kept =
    rule_full (nat_le 64 (number_alive j)) (full_in limits j (entries.Join role)) kept met.by_rule met.otherwise in
    subst (λ (g : History). IsAtLimit limits (journal_of limits g)) (sym met.is)
    (at-limit-later limits met.earlier met.later (at-limit limits j (entries.Join role) kept full (omega arith)))

refused_full : (limits : Limits) (h : History) (role : Option Role) (stop : Result (Unit {0}) Stop)
    → stop ≡ stopped stops.JournalFull → WasRefused limits h role stop → IsAtLimit limits (journal_of limits h)
refused_full limits h None stop is was = absurd was
refused_full limits h (Some role) stop is was =
    join_full limits h role stop was.0 is was.1 was.2

unless_full : (limits : Limits) (h : History) (letters : List ℕ) (joined accepted : ℕ) (stop : Result (Unit {0}) Stop)
    → stop ≡ stopped stops.JournalFull → JoinedUnless limits h letters joined accepted stop
    → IsAtLimit limits (journal_of limits h)
unless_full limits h letters joined accepted stop is (inl all) = absurd (all.1 is)
unless_full limits h letters joined accepted stop is (inr refused) =
    refused_full limits h (role_at refused.1) stop is refused.3

-- so it is where the status says so

by_full : (stop : Result (Unit {0}) Stop) (t : Trouble) → status_by stop t ≡ statuses.JournalFull
    → (stop ≡ stopped stops.JournalFull) ⊎ (t ≡ troubles.JournalFull)
by_full stop troubles.JournalFull is = inr refl
by_full (Err stops.JournalFull) t is = inl refl
by_full (Err stops.NoMemory) troubles.None is = absurd (cc)
by_full (Err stops.NoMemory) troubles.NoMemory is = absurd (cc)
by_full (Err stops.NetFault) troubles.None is = absurd (cc)
by_full (Err stops.NetFault) troubles.NoMemory is = absurd (cc)
by_full (Err stops.NoThread) troubles.None is = absurd (cc)
by_full (Err stops.NoThread) troubles.NoMemory is = absurd (cc)
by_full (Ok done) troubles.None is = absurd (cc)
by_full (Ok done) troubles.NoMemory is = absurd (cc)

pub status_full : (limits : Limits) (h : History) (letters : List ℕ) (joined accepted : ℕ)
    (stop : Result (Unit {0}) Stop) (given : List Report) → JoinedUnless limits h letters joined accepted stop
    → HaveLaws limits h given → status_by stop (worst given) ≡ statuses.JournalFull
    → IsAtLimit limits (journal_of limits h)
status_full limits h letters joined accepted stop given unless laws is =
    ⊎_elim (λ (e : stop ≡ stopped stops.JournalFull). unless_full limits h letters joined accepted stop e unless)
    (λ (e : worst given ≡ troubles.JournalFull). from_test limits (journal_of limits h)
    (reports_full limits h troubles.None given (λ f. absurd (cc)) laws e))
    (by_full stop (worst given) is)
