-- A step that isn't taken is refused for its cause at the turn
use Rattle.std.proofs.Common.{◌≡◌, ℕ, [], ◌∷◌, ◌++◌, Option, Some, None, Result, Ok, Err, IfSome, IfNone, refl, sym, ap, ◌∙◌, subst, inl, inr, append-nil}
use Rattle.std.specs.Prelude.{◌⊎◌, option_map}
use Rattle.relay_model.specs.declared.act.EndCause.{EndCause}
use Rattle.broker_steps.specs.declared.limits.Limits.{Limits}
use Rattle.broker_steps.specs.declared.step.Step.{Step}
use Rattle.broker_steps.specs.declared.step.Step.TheVariants as steps
use Rattle.broker_steps.specs.declared.step.PeerStep.{PeerStep}
use Rattle.broker_steps.specs.declared.step.PeerStep.TheVariants as peers
use Rattle.broker_steps.specs.declared.step.ShellStep.{ShellStep}
use Rattle.broker_model.specs.declared.journal.Entry.{Entry}
use Rattle.broker_model.specs.declared.journal.Entry.TheVariants as entries
use Rattle.broker_model.specs.declared.journal.Kept.{Kept}
use Rattle.broker_model.specs.Ids.{Joined, peer_at}
use Rattle.broker_model.specs.Resolve.{past_of}
use Rattle.broker_core.specs.declared.answers.Applied.{Applied}
use Rattle.broker_core.specs.declared.answers.Refused.{Refused}
use Rattle.broker_core.specs.declared.answers.Refused.TheVariants as refusals
use Rattle.broker_core.specs.Broker.{Broker, full_in, full_for, peer_entry, peer_refusal, refusal, IsAccepted}
use Rattle.broker_core.specs.Stands.{end_of}
use Rattle.broker_core.specs.Taking.{by_end, standing_in}
use Rattle.hub_lock.specs.Seats.{having_seen}
use Rattle.hub_lock.specs.Histories.{History, broker_of}
use Rattle.hub_lock.specs.Passes.{PassSeat, PeerPass}
use Rattle.hub_lock.specs.Plays.{Applies}
use Rattle.hub_lock.specs.Calls.{LegalStep, UnlessMemory, pass_having_seen}
use Rattle.hub_calls.specs.declared.stop.PassStop.{PassStop}
use Rattle.hub_calls.specs.declared.stop.PassStop.TheVariants as stops
use Rattle.hub_calls.specs.declared.submit.Sent.{Sent}
use Rattle.hub_calls.specs.declared.submit.Sent.TheVariants as sent
use Rattle.hub_calls.specs.Made.{entries_by, journal_of, SawMore, HasEnded, IsFullFor}
use Rattle.hub_calls.specs.Submitted.{MadeFirst, Submits}
use Rattle.hub_calls.proofs.PassesGrow.{entries_same, entries_one, saw_none, saw_legal}

-- a step that no rule refuses isn't refused for a cause

record AreTold (b : Broker) (step : Step) (r : Result Applied Refused) (o : Option Refused) : Type 0 where
  refused : IfSome o (λ why. r ≡ Err why)
  accepted : IfNone o (IsAccepted refusals.NoMemory step r)

accepted_by : (step : Step) (why : Refused) → IsAccepted {T = Applied} refusals.NoMemory step (Err why) →
    why ≡ refusals.NoMemory
accepted_by (steps.Peer q (peers.Message id opcode body)) why k = k
accepted_by (steps.Peer q (peers.BadSize head)) why k = k
accepted_by (steps.Peer q (peers.Tokens tokens)) why k = k
accepted_by (steps.Peer q peers.Gone) why k = absurd (cc)
accepted_by (steps.Join role) why k = k
accepted_by (steps.Shell step) why k = k
accepted_by (steps.Take q n) why k = k

told_is : (b : Broker) (step : Step) (why : Refused) (o : Option Refused) → AreTold b step (Err why) o
    → (why ≡ refusals.NoMemory → ⊥) → o ≡ Some why
told_is b step why None t other = absurd (other (accepted_by step why t.accepted))
told_is b step why (Some w) t other = let e : Err why ≡ Err w = t.refused in cc

full_is : (b : Broker) (step : Step) (why : Refused) (limits : Limits) (before after : History) (n : ℕ)
    → Applies limits before n step after (Err why) → (why ≡ refusals.NoMemory → ⊥) →
    refusal (broker_of limits before) step ≡ Some why
full_is b step why limits before after n k other =
    told_is (broker_of limits before) step why (refusal (broker_of limits before) step)
    (record { refused = k.refused; accepted = k.accepted }) other

kept_is : (o : Option Kept) (kept : Kept) →
    option_map (λ kept. refusals.JournalFull kept) o ≡ Some (refusals.JournalFull kept) → o ≡ Some kept
kept_is None kept e = absurd (cc)
kept_is (Some k) kept e = cc

no_end_full : (o : Option Kept) (cause : EndCause) →
    option_map (λ kept. refusals.JournalFull kept) o ≡ Some (refusals.Ended cause) → ⊥
no_end_full None cause e = absurd (cc)
no_end_full (Some k) cause e = absurd (cc)

-- of a peer's step

end_by : (b : Broker) (q : ℕ) (step : PeerStep) (o : Option EndCause) (cause : EndCause)
    → peer_refusal b (peer_entry q step) (by_end o) ≡ Some (refusals.Ended cause) → o ≡ Some cause
end_by b q step None cause e = absurd (no_end_full (full_for b (peer_entry q step)) cause e)
end_by b q step (Some c) cause e = cc

end_there : (b : Broker) (q : ℕ) (step : PeerStep) (o : Option Joined) (cause : EndCause)
    → peer_refusal b (peer_entry q step) (standing_in b.journal q o) ≡ Some (refusals.Ended cause) →
    end_of b.journal q ≡ Some cause
end_there b q step None cause e = absurd (cc)
end_there b q step (Some peer) cause e = end_by b q step (end_of b.journal q) cause e

full_by : (b : Broker) (q : ℕ) (step : PeerStep) (o : Option EndCause) (kept : Kept)
    → peer_refusal b (peer_entry q step) (by_end o) ≡ Some (refusals.JournalFull kept) →
    full_for b (peer_entry q step) ≡ Some kept
full_by b q step None kept e = kept_is (full_for b (peer_entry q step)) kept e
full_by b q step (Some c) kept e = absurd (cc)

full_there : (b : Broker) (q : ℕ) (step : PeerStep) (o : Option Joined) (kept : Kept)
    → peer_refusal b (peer_entry q step) (standing_in b.journal q o) ≡ Some (refusals.JournalFull kept) →
    full_for b (peer_entry q step) ≡ Some kept
full_there b q step None kept e = absurd (cc)
full_there b q step (Some peer) kept e = full_by b q step (end_of b.journal q) kept e

pub step-ended : (limits : Limits) (before : History) (n q : ℕ) (step : PeerStep) (after : History) (cause : EndCause)
    → Applies limits before n (steps.Peer q step) after (Err (refusals.Ended cause)) →
    end_of (journal_of limits before) q ≡ Some cause
step-ended limits before n q step after cause k =
    let b : Broker = broker_of limits before in
    end_there b q step (peer_at (past_of b.journal) q) cause
    (full_is b (steps.Peer q step) (refusals.Ended cause) limits before after n k (λ e. absurd (cc)))

pub step-full : (limits : Limits) (before : History) (n q : ℕ) (step : PeerStep) (after : History) (kept : Kept)
    → Applies limits before n (steps.Peer q step) after (Err (refusals.JournalFull kept))
    → full_in limits (journal_of limits before) (peer_entry q step) ≡ Some kept
step-full limits before n q step after kept k =
    let b : Broker = broker_of limits before in
    full_there b q step (peer_at (past_of b.journal) q) kept
    (full_is b (steps.Peer q step) (refusals.JournalFull kept) limits before after n k (λ e. absurd (cc)))

-- of the shell's
pub shell-full : (limits : Limits) (before : History) (n : ℕ) (step : ShellStep) (after : History) (kept : Kept)
    → Applies limits before n (steps.Shell step) after (Err (refusals.JournalFull kept))
    → full_in limits (journal_of limits before) (entries.Shell step) ≡ Some kept
shell-full limits before n step after kept k =
    kept_is (full_for (broker_of limits before) (entries.Shell step)) kept
    (full_is (broker_of limits before) (steps.Shell step) (refusals.JournalFull kept) limits before after n k
    (λ e. absurd (cc)))

-- a call of a reader made its step, or says why not

-- what is answered of a step
abbrev pub told : Result Applied Refused → Result Sent PassStop
told (Ok applied) = Ok sent.All
told (Err (refusals.Ended cause)) = Ok (sent.Ended cause)
told (Err (refusals.JournalFull kept)) = Err (stops.JournalFull kept)
told (Err refusals.NoMemory) = Err stops.NoMemory
told (Err refusals.NoPeer) = Err stops.NoMemory

pub unless : (step : PeerStep) (N P : Type 0) → UnlessMemory step N P → N ⊎ P
unless (peers.Message id opcode body) N P k = k
unless (peers.BadSize head) N P k = k
unless (peers.Tokens tokens) N P k = k
unless peers.Gone N P k = inr k

-- none of one step was made
pub none_made : (before after : PeerPass) (e : Entry) (Why : Entry → Type 0) → entries_by after.seat ≡
    entries_by before.seat
    → Why e → MadeFirst before after (e ∷ []) Why
none_made before after e Why same why = record {
  made = [];
  next = e;
  left = [];
  all_are = refl;
  entries = same ∙ sym (append-nil (entries_by before.seat));
  why = why;
}

refused_by : (limits : Limits) (before after : PeerPass) (step : PeerStep) (turn : History) (n : ℕ) (why : Refused)
    → after.seat.seen ≡ turn → after.peer ≡ before.peer → (why ≡ refusals.NoPeer → ⊥) →
    entries_by after.seat ≡ entries_by before.seat →
    Applies limits turn n (steps.Peer before.peer step) after.seat.seen (Err why)
    → Submits limits before after (peer_entry before.peer step ∷ []) (told (Err why))
refused_by limits before after step turn n refusals.NoPeer same peer other made k = absurd (other refl)
refused_by limits before after step turn n (refusals.Ended cause) same peer other made k =
    none_made before after (peer_entry before.peer step) (λ next. HasEnded limits after cause) made
    (ap (λ h. end_of (journal_of limits h) after.peer) same
    ∙ ap (end_of (journal_of limits turn)) peer
    ∙ step-ended limits turn n before.peer step after.seat.seen cause k)
refused_by limits before after step turn n (refusals.JournalFull kept) same peer other made k =
    none_made before after (peer_entry before.peer step) (λ next. IsFullFor limits after.seat.seen next kept) made
    (ap (λ h. full_in limits (journal_of limits h) (peer_entry before.peer step)) same
    ∙ step-full limits turn n before.peer step after.seat.seen kept k)
refused_by limits before after step turn n refusals.NoMemory same peer other made k =
    none_made before after (peer_entry before.peer step) (λ next. Unit {0}) made tt

submitted_by : (limits : Limits) (before after : PeerPass) (step : PeerStep) (r : Result Applied Refused)
    → after ≡ pass_having_seen before after.seat.seen → (r ≡ Err refusals.NoPeer → ⊥)
    → LegalStep limits before.seat after.seat.seen (steps.Peer before.peer step) r
    → Submits limits before after (peer_entry before.peer step ∷ []) (told r)
submitted_by limits before after step (Ok applied) is other k =
    ap (λ (p : PeerPass). entries_by p.seat) is
    ∙ entries_one before.seat k.rest after.seat.seen (peer_entry before.peer step) k.apart k.answer.applied
submitted_by limits before after step (Err why) is other k =
    refused_by limits before after step (before.seat.seen ++ k.rest) before.seat.number why k.answer.same
    (ap (λ (p : PeerPass). p.peer) is) (λ e. other (ap (λ (w : Refused). Err w) e))
    (ap (λ (p : PeerPass). entries_by p.seat) is
    ∙ entries_same before.seat k.rest after.seat.seen k.apart k.answer.same) k.answer

pub submitted : (limits : Limits) (before after : PeerPass) (step : PeerStep) (r : Result Applied Refused)
    → after ≡ pass_having_seen before after.seat.seen → (r ≡ Err refusals.NoPeer → ⊥)
    → UnlessMemory step ((after ≡ before) × (r ≡ Err refusals.NoMemory))
    (LegalStep limits before.seat after.seat.seen (steps.Peer before.peer step) r)
    → Submits limits before after (peer_entry before.peer step ∷ []) (told r)
submitted limits before after step r is other legal = by (unless step _ _ legal)
  where
    by : ((after ≡ before) × (r ≡ Err refusals.NoMemory))
        ⊎ LegalStep limits before.seat after.seat.seen (steps.Peer before.peer step) r
        → Submits limits before after (peer_entry before.peer step ∷ []) (told r)
    by (inl k) =
        subst (λ (x : Result Applied Refused). Submits limits before after (peer_entry before.peer step ∷ []) (told x))
        (sym k.1)
        (none_made before after (peer_entry before.peer step) (λ next. Unit {0})
        (ap (λ (p : PeerPass). entries_by p.seat) k.0) tt)
    by (inr k) = submitted_by limits before after step r is other k

-- and the pass has seen more, or nothing
pub saw_by : (limits : Limits) (before after : PeerPass) (step : PeerStep) (r : Result Applied Refused)
    → UnlessMemory step ((after ≡ before) × (r ≡ Err refusals.NoMemory))
    (LegalStep limits before.seat after.seat.seen (steps.Peer before.peer step) r)
    → SawMore limits before.seat.seen after.seat.seen
saw_by limits before after step r legal = by (unless step _ _ legal)
  where
    by : ((after ≡ before) × (r ≡ Err refusals.NoMemory))
        ⊎ LegalStep limits before.seat after.seat.seen (steps.Peer before.peer step) r
        → SawMore limits before.seat.seen after.seat.seen
    by (inl k) =
        subst (λ (p : PeerPass). SawMore limits before.seat.seen p.seat.seen) (sym k.0)
        (saw_none limits before.seat.seen)
    by (inr k) = saw_legal limits before.seat after.seat.seen _ k

-- an order of the shell

pub ordered : (limits : Limits) (before after : PassSeat) (step : ShellStep) (applied : Applied)
    → after ≡ having_seen before after.seen → LegalStep limits before after.seen (steps.Shell step) (Ok applied)
    → entries_by after ≡ entries_by before ++ entries.Shell step ∷ []
ordered limits before after step applied is k =
    ap entries_by is ∙ entries_one before k.rest after.seen (entries.Shell step) k.apart k.answer.applied

pub not_ordered : (limits : Limits) (before after : PassSeat) (step : ShellStep) (why : Refused)
    → after ≡ having_seen before after.seen → LegalStep limits before after.seen (steps.Shell step) (Err why)
    → entries_by after ≡ entries_by before
not_ordered limits before after step why is k =
    ap entries_by is ∙ entries_same before k.rest after.seen k.apart k.answer.same

pub order_full : (limits : Limits) (before after : PassSeat) (step : ShellStep) (kept : Kept)
    → LegalStep limits before after.seen (steps.Shell step) (Err (refusals.JournalFull kept))
    → IsFullFor limits after.seen (entries.Shell step) kept
order_full limits before after step kept k =
    ap (λ h. full_in limits (journal_of limits h) (entries.Shell step)) k.answer.same
    ∙ shell-full limits (before.seen ++ k.rest) before.number step after.seen kept k.answer
