-- Why a step isn't taken, by the journal at its turn
use Rattle.std.proofs.Common.{◌≡◌, ℕ, [], ◌∷◌, ◌++◌, Option, Some, None, Result, Ok, Err, IfSome, IfNone, refl, sym, ap, ◌∙◌, subst, ◌⊎◌, inl, inr, append-nil}
use Rattle.std.specs.Prelude.{option_map}
use Rattle.relay_model.specs.declared.act.EndCause.{EndCause}
use Rattle.broker_steps.specs.declared.limits.Limits.{Limits}
use Rattle.broker_steps.specs.declared.step.Step.{Step}
use Rattle.broker_steps.specs.declared.step.Step.TheVariants as steps
use Rattle.broker_steps.specs.declared.step.PeerStep.{PeerStep}
use Rattle.broker_steps.specs.declared.step.PeerStep.TheVariants as peers
use Rattle.broker_steps.specs.declared.step.ShellStep.{ShellStep}
use Rattle.broker_steps.specs.Ranges.{IsPeerStep}
use Rattle.broker_model.specs.declared.journal.Entry.TheVariants as entries
use Rattle.broker_model.specs.declared.journal.Kept.{Kept}
use Rattle.broker_model.specs.Ids.{Joined, peer_at}
use Rattle.broker_model.specs.Resolve.{past_of}
use Rattle.broker_core.specs.declared.answers.Applied.{Applied}
use Rattle.broker_core.specs.declared.answers.Refused.{Refused}
use Rattle.broker_core.specs.declared.answers.Refused.TheVariants as refusals
use Rattle.broker_core.specs.Broker.{Broker, full_in, full_for, peer_entry, peer_refusal, refusal, IsAccepted}
use Rattle.broker_core.specs.declared.taking.Standing.{Standing}
use Rattle.broker_core.specs.declared.taking.Standing.TheVariants.{Nobody, Alive, Over}
use Rattle.broker_core.specs.Stands.{end_of}
use Rattle.broker_core.specs.Taking.{by_end, standing_in, standing_of}
use Rattle.hub_lock.specs.Histories.{History, broker_of}
use Rattle.hub_lock.specs.Passes.{PeerPass}
use Rattle.hub_lock.specs.Plays.{Applies}
use Rattle.hub_lock.specs.Calls.{LegalStep, pass_having_seen}
use Rattle.peer_link.specs.declared.ends.ReadEnd.{ReadEnd}
use Rattle.peer_link.specs.declared.ends.ReadEnd.TheVariants as ends
use Rattle.peer_link.specs.Made.{entries_by, journal_of, SawMore}
use Rattle.peer_link.specs.Submits.{WhyNot, Submits, IsGoneRefusal, IsRefusal}
use Rattle.peer_link.proofs.StepsMade.{entries-same, entries-one, saw-legal}
use Rattle.peer_link.proofs.AtLimits.{at-limit, step-light}

-- what the loop says of an answer

abbrev pub told : Result Applied Refused → Result (Unit {0}) ReadEnd
told (Ok applied) = Ok tt
told (Err (refusals.Ended cause)) = Err (ends.Ended cause)
told (Err (refusals.JournalFull kept)) = Err (ends.JournalFull kept)
told (Err refusals.NoMemory) = Err ends.NoMemory
told (Err refusals.NoPeer) = Err ends.NoMemory

abbrev pub refused_as : Refused → Result Applied Refused
refused_as why = Err why

-- a step that no rule refuses isn't refused for a cause

record AreTold (b : Broker) (step : Step) (r : Result Applied Refused) (o : Option Refused) : Type 0 where
  refused : IfSome o (λ why. r ≡ Err why)
  accepted : IfNone o (IsAccepted refusals.NoMemory step r)

accepted_by : (step : Step) (why : Refused) → IsAccepted {T = Applied} refusals.NoMemory step (Err why) →
    why ≡ refusals.NoMemory
accepted_by (steps.Peer q (peers.Message id opcode body)) why k = k
accepted_by (steps.Peer q (peers.BadSize head)) why k = k
accepted_by (steps.Peer q (peers.Tokens tokens)) why k = k
accepted_by (steps.Peer q peers.Gone) why k = absurd (cc)
accepted_by (steps.Join role) why k = k
accepted_by (steps.Shell step) why k = k
accepted_by (steps.Take q n) why k = k

told_is : (b : Broker) (step : Step) (why : Refused) (o : Option Refused) → AreTold b step (Err why) o
    → (why ≡ refusals.NoMemory → ⊥) → o ≡ Some why
told_is b step why None t other = absurd (other (accepted_by step why t.accepted))
told_is b step why (Some w) t other = let e : Err why ≡ Err w = t.refused in cc

full_is : (b : Broker) (step : Step) (why : Refused) (limits : Limits) (before after : History) (n : ℕ)
    → Applies limits before n step after (Err why) → (why ≡ refusals.NoMemory → ⊥) →
    refusal (broker_of limits before) step ≡ Some why
full_is b step why limits before after n k other =
    told_is (broker_of limits before) step why (refusal (broker_of limits before) step)
    (record { refused = k.refused; accepted = k.accepted }) other

kept_is : (o : Option Kept) (kept : Kept) →
    option_map (λ kept. refusals.JournalFull kept) o ≡ Some (refusals.JournalFull kept) → o ≡ Some kept
kept_is None kept e = absurd (cc)
kept_is (Some k) kept e = cc

no_end_full : (o : Option Kept) (cause : EndCause) →
    option_map (λ kept. refusals.JournalFull kept) o ≡ Some (refusals.Ended cause) → ⊥
no_end_full None cause e = absurd (cc)
no_end_full (Some k) cause e = absurd (cc)

-- of a peer's step

end_by : (b : Broker) (q : ℕ) (step : PeerStep) (o : Option EndCause) (cause : EndCause)
    → peer_refusal b (peer_entry q step) (by_end o) ≡ Some (refusals.Ended cause) → o ≡ Some cause
end_by b q step None cause e = absurd (no_end_full (full_for b (peer_entry q step)) cause e)
end_by b q step (Some c) cause e = cc

end_there : (b : Broker) (q : ℕ) (step : PeerStep) (o : Option Joined) (cause : EndCause)
    → peer_refusal b (peer_entry q step) (standing_in b.journal q o) ≡ Some (refusals.Ended cause) →
    end_of b.journal q ≡ Some cause
end_there b q step None cause e = absurd (cc)
end_there b q step (Some peer) cause e = end_by b q step (end_of b.journal q) cause e

full_by : (b : Broker) (q : ℕ) (step : PeerStep) (o : Option EndCause) (kept : Kept)
    → peer_refusal b (peer_entry q step) (by_end o) ≡ Some (refusals.JournalFull kept) →
    full_for b (peer_entry q step) ≡ Some kept
full_by b q step None kept e = kept_is (full_for b (peer_entry q step)) kept e
full_by b q step (Some c) kept e = absurd (cc)

full_there : (b : Broker) (q : ℕ) (step : PeerStep) (o : Option Joined) (kept : Kept)
    → peer_refusal b (peer_entry q step) (standing_in b.journal q o) ≡ Some (refusals.JournalFull kept) →
    full_for b (peer_entry q step) ≡ Some kept
full_there b q step None kept e = absurd (cc)
full_there b q step (Some peer) kept e = full_by b q step (end_of b.journal q) kept e

pub step-ended : (limits : Limits) (before : History) (n q : ℕ) (step : PeerStep) (after : History) (cause : EndCause)
    → Applies limits before n (steps.Peer q step) after (Err (refusals.Ended cause)) →
    end_of (journal_of limits before) q ≡ Some cause
step-ended limits before n q step after cause k =
    let b : Broker = broker_of limits before in
    end_there b q step (peer_at (past_of b.journal) q) cause
    (full_is b (steps.Peer q step) (refusals.Ended cause) limits before after n k (λ e. absurd (cc)))

pub step-full : (limits : Limits) (before : History) (n q : ℕ) (step : PeerStep) (after : History) (kept : Kept)
    → Applies limits before n (steps.Peer q step) after (Err (refusals.JournalFull kept))
    → full_in limits (journal_of limits before) (peer_entry q step) ≡ Some kept
step-full limits before n q step after kept k =
    let b : Broker = broker_of limits before in
    full_there b q step (peer_at (past_of b.journal) q) kept
    (full_is b (steps.Peer q step) (refusals.JournalFull kept) limits before after n k (λ e. absurd (cc)))

-- of the shell's
pub shell-full : (limits : Limits) (before : History) (n : ℕ) (step : ShellStep) (after : History) (kept : Kept)
    → Applies limits before n (steps.Shell step) after (Err (refusals.JournalFull kept))
    → full_in limits (journal_of limits before) (entries.Shell step) ≡ Some kept
shell-full limits before n step after kept k =
    kept_is (full_for (broker_of limits before) (entries.Shell step)) kept
    (full_is (broker_of limits before) (steps.Shell step) (refusals.JournalFull kept) limits before after n k
    (λ e. absurd (cc)))

-- a call of a reader comes to a step that was made, or to why not

why_by : (limits : Limits) (seen : History) (p : PeerPass) (step : PeerStep) (before : History) (n : ℕ) (why : Refused)
    → IsPeerStep step → p.seat.seen ≡ before → (why ≡ refusals.NoPeer → ⊥) →
    Applies limits before n (steps.Peer p.peer step) p.seat.seen (Err why)
    → (end : ReadEnd) × (told (Err why) ≡ Err end) × WhyNot limits p (peer_entry p.peer step) end
why_by limits seen p step before n refusals.NoPeer i is other k = absurd (other refl)
why_by limits seen p step before n (refusals.Ended cause) i is other k = (
  ends.Ended cause,
  refl,
  ap (λ h. end_of (journal_of limits h) p.peer) is ∙ step-ended limits before n p.peer step p.seat.seen cause k,
)
why_by limits seen p step before n (refusals.JournalFull kept) i is other k = (
  ends.JournalFull kept,
  refl,
  let full : full_in limits (journal_of limits p.seat.seen) (peer_entry p.peer step) ≡ Some kept =
      ap (λ h. full_in limits (journal_of limits h) (peer_entry p.peer step)) is
      ∙ step-full limits before n p.peer step p.seat.seen kept k in (
        full,
        at-limit limits (journal_of limits p.seat.seen) (peer_entry p.peer step) kept full (step-light p.peer step i),
      ),
)
why_by limits seen p step before n refusals.NoMemory i is other k = (ends.NoMemory, refl, tt)

pub submitted : (limits : Limits) (before after : PeerPass) (step : PeerStep) (r : Result Applied Refused)
    → IsPeerStep step → after ≡ pass_having_seen before after.seat.seen → (r ≡ Err refusals.NoPeer → ⊥)
    → LegalStep limits before.seat after.seat.seen (steps.Peer before.peer step) r
    → Submits limits before after (peer_entry before.peer step ∷ []) (told r)
submitted limits before after step (Ok applied) i is other k =
    ap (λ (p : PeerPass). entries_by p.seat) is
    ∙ entries-one before.seat k.rest after.seat.seen (peer_entry before.peer step) k.apart k.answer.applied
submitted limits before after step (Err why) i is other k =
    let peer : after.peer ≡ before.peer = ap (λ (p : PeerPass). p.peer) is in
    let e = peer_entry before.peer step in
    let w = why_by limits after.seat.seen after step (before.seat.seen ++ k.rest) before.seat.number why i k.answer.same
    (λ e. other (ap (λ (w : Refused). Err w) e))
    (subst (λ q. Applies limits (before.seat.seen ++ k.rest) before.seat.number (steps.Peer q step) after.seat.seen
    (Err why)) (sym peer) k.answer) in
    subst (λ (r : Result (Unit {0}) ReadEnd). Submits limits before after (peer_entry before.peer step ∷ []) r)
    (sym w.1) (record {
      made = [];
      e = peer_entry before.peer step;
      more = [];
      steps_are = refl;
      entries = ap (λ (p : PeerPass). entries_by p.seat) is
          ∙ entries-same before.seat k.rest after.seat.seen k.apart k.answer.same
          ∙ sym (append-nil (entries_by before.seat));
      why = subst (λ q. WhyNot limits after (peer_entry q step) w.0) peer w.2;
    })

-- and the pass has seen more, or nothing
pub saw-by : (limits : Limits) (before after : PeerPass) (step : PeerStep) (r : Result Applied Refused)
    → LegalStep limits before.seat after.seat.seen (steps.Peer before.peer step) r
    → SawMore limits before.seat.seen after.seat.seen
saw-by limits before after step r legal = saw-legal limits before.seat after.seat.seen _ legal

-- the end of a link

gone_told : (b : Broker) (q : ℕ) (why : Refused) (o : Option Refused) →
    AreTold b (steps.Peer q peers.Gone) (Err why) o → o ≡ Some why
gone_told b q why None t = (let no = t.accepted in absurd (cc))
gone_told b q why (Some w) t = (let e : Err why ≡ Err w = t.refused in cc)

gone_by : (b : Broker) (q : ℕ) (s : Standing) (why : Refused) → peer_refusal b (peer_entry q peers.Gone) s ≡ Some why
    → (why ≡ refusals.NoPeer) ⊎ ((cause : EndCause) × (why ≡ refusals.Ended cause))
gone_by b q Nobody why e = inl (cc)
gone_by b q (Over cause) why e = inr (cause, cc)
gone_by b q Alive why e = absurd (cc)

gone_why : (limits : Limits) (before : History) (n q : ℕ) (after : History) (why : Refused)
    → Applies limits before n (steps.Peer q peers.Gone) after (Err why) →
    (why ≡ refusals.NoPeer) ⊎ ((cause : EndCause) × (why ≡ refusals.Ended cause))
gone_why limits before n q after why k =
    let b : Broker = broker_of limits before in
    gone_by b q (standing_of b.journal q) why
    (gone_told b q why (refusal b (steps.Peer q peers.Gone)) (record { refused = k.refused; accepted = k.accepted }))

gone_not : (why : Refused) (end : ReadEnd) → (told (Err why) ≡ Err end) → (why ≡ refusals.NoPeer → ⊥)
    → (why ≡ refusals.NoPeer) ⊎ ((cause : EndCause) × (why ≡ refusals.Ended cause)) → IsGoneRefusal end
gone_not why end e other (inl k) = absurd (other k)
gone_not why end e other (inr k) =
    let same : Err (ends.Ended k.0) ≡ Err end = sym (ap (λ (x : Refused). told (Err x)) k.1) ∙ e in
    let is : ends.Ended k.0 ≡ end = cc in subst IsGoneRefusal is tt

pub refusal-is : (limits : Limits) (before after : PeerPass) (step : PeerStep) (why : Refused) (end : ReadEnd) →
    told (Err why) ≡ Err end
    → (refused_as why ≡ refused_as refusals.NoPeer → ⊥)
    → LegalStep limits before.seat after.seat.seen (steps.Peer before.peer step) (Err why)
    → IsRefusal step end
refusal-is limits before after (peers.Message id opcode body) why end e other k = tt
refusal-is limits before after (peers.BadSize head) why end e other k = tt
refusal-is limits before after (peers.Tokens tokens) why end e other k = tt
refusal-is limits before after peers.Gone why end e other k =
    gone_not why end e (λ n. other (ap (λ (x : Refused). Err x) n))
    (gone_why limits (before.seat.seen ++ k.rest) before.seat.number before.peer after.seat.seen why k.answer)
