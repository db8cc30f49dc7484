-- What a reader's pass made whose job wasn't started, and a journal that was full for a join
use Rattle.std.proofs.Common.{◌≡◌, ◌++◌, ◌∷◌, [], ℕ, Some, None, Result, Ok, Err, refl, sym, ap, subst, ◌∙◌}
use Rattle.relay_model.specs.declared.act.EndCause.TheVariants.{Gone}
use Rattle.broker_steps.specs.declared.limits.Limits.{Limits}
use Rattle.broker_steps.specs.declared.step.Step.TheVariants as steps
use Rattle.broker_steps.specs.declared.step.PeerStep.TheVariants as peers
use Rattle.broker_model.specs.declared.journal.Entry.TheVariants as entries
use Rattle.broker_core.specs.declared.answers.Applied.{Applied}
use Rattle.broker_core.specs.declared.answers.Refused.{Refused}
use Rattle.broker_core.specs.declared.answers.Refused.TheVariants as refusals
use Rattle.broker_core.specs.Stands.{end_of}
use Rattle.turn_lock.specs.Pairs.{own, NoneOf}
use Rattle.turn_lock.proofs.PairsOfNumbers.{none-append}
use Rattle.hub_lock.specs.Histories.{History, reader_of}
use Rattle.hub_lock.specs.Passes.{PeerPass, steps_of}
use Rattle.hub_lock.specs.Calls.{LegalStep, pass_having_seen}
use Rattle.peer_link.specs.declared.ends.ReadEnd.TheVariants as ends
use Rattle.peer_link.specs.Made.{entries_by, journal_of}
use Rattle.peer_link.proofs.StepsMade.{entries-one}
use Rattle.peer_link.proofs.ShellServed.{entries-none}
use Rattle.peer_link.proofs.StepsRefused.{step-ended, refusal-is}
use Rattle.serve_run.specs.Unserved.{HasEnd, SaysGone}
use Rattle.serve_run.proofs.EndsKept.{end-here}
use Rattle.serve_run.proofs.PassesBack.{none_long}
use Rattle.serve_run.proofs.SilentPasses.{not_ended}

-- the end of a link of a pass that made nothing: its peer, of which no step is yet, can't have ended
pub says_gone : (limits : Limits) (before after : PeerPass) (r : Result Applied Refused) → steps_of before.seat ≡ 0
    → after ≡ pass_having_seen before after.seat.seen → (r ≡ Err refusals.NoPeer → ⊥)
    → LegalStep limits before.seat after.seat.seen (steps.Peer before.peer peers.Gone) r
    → reader_of after.seat.seen after.peer ≡ Some after.seat.number → SaysGone after
says_gone limits before after (Ok applied) fresh is other legal reads =
    let none = entries-none before.seat (none_long (own before.seat.number before.seat.seen) fresh) in
    ap (λ (p : PeerPass). entries_by p.seat) is
    ∙ (entries-one before.seat legal.rest after.seat.seen
    (entries.End before.peer Gone) legal.apart legal.answer.applied
    ∙ (ap (λ es. es ++ entries.End before.peer Gone ∷ []) none
    ∙ ap (λ (p : PeerPass). entries.End p.peer Gone ∷ []) (sym is)))
says_gone limits before after (Err refusals.NoPeer) fresh is other legal reads = absurd (other refl)
says_gone limits before after (Err (refusals.Ended cause)) fresh is other legal reads =
    let h : History = before.seat.seen ++ legal.rest in
    let n : ℕ = before.seat.number in
    let none : NoneOf n h =
    none-append n before.seat.seen legal.rest (none_long (own n before.seat.seen) fresh) legal.apart in
    let mine : reader_of h before.peer ≡ Some n =
    ap (λ (g : History). reader_of g before.peer) (sym legal.answer.same)
    ∙ ap (λ (p : PeerPass). reader_of after.seat.seen p.peer) (sym is)
    ∙ reads
    ∙ ap (λ (p : PeerPass). Some p.seat.number) is in
    let ends : end_of (journal_of limits h) before.peer ≡ Some cause =
    step-ended limits h n before.peer peers.Gone after.seat.seen cause legal.answer in
    let stays : end_of (journal_of limits h) before.peer ≡ None = not_ended limits h n before.peer legal.lawful none mine in
    let never : Some cause ≡ None = sym ends ∙ stays in absurd (cc)
says_gone limits before after (Err (refusals.JournalFull kept)) fresh is other legal reads =
    absurd (refusal-is limits before after peers.Gone (refusals.JournalFull kept)
    (ends.JournalFull kept) refl other legal)
says_gone limits before after (Err refusals.NoMemory) fresh is other legal reads =
    absurd (refusal-is limits before after peers.Gone refusals.NoMemory ends.NoMemory refl other legal)

-- the peer has its end
pub has_gone : (limits : Limits) (before after : PeerPass) (r : Result Applied Refused)
    → after ≡ pass_having_seen before after.seat.seen → (r ≡ Err refusals.NoPeer → ⊥)
    → LegalStep limits before.seat after.seat.seen (steps.Peer before.peer peers.Gone) r
    → HasEnd (journal_of limits after.seat.seen) after.peer
has_gone limits before after (Ok applied) is other legal =
    subst (λ (p : PeerPass). HasEnd (journal_of limits after.seat.seen) p.peer) (sym is)
    (subst (λ (h : History). HasEnd (journal_of limits h) before.peer) (sym legal.answer.applied)
    (end-here limits (before.seat.seen ++ legal.rest) before.seat.number before.peer Gone))
has_gone limits before after (Err refusals.NoPeer) is other legal = absurd (other refl)
has_gone limits before after (Err (refusals.Ended cause)) is other legal =
    subst (λ (p : PeerPass). HasEnd (journal_of limits after.seat.seen) p.peer) (sym is)
    (subst (λ (h : History). HasEnd (journal_of limits h) before.peer) (sym legal.answer.same) (
      cause,
      step-ended limits (before.seat.seen ++ legal.rest) before.seat.number before.peer peers.Gone after.seat.seen cause
          legal.answer,
    ))
has_gone limits before after (Err (refusals.JournalFull kept)) is other legal =
    absurd (refusal-is limits before after peers.Gone (refusals.JournalFull kept)
    (ends.JournalFull kept) refl other legal)
has_gone limits before after (Err refusals.NoMemory) is other legal =
    absurd (refusal-is limits before after peers.Gone refusals.NoMemory ends.NoMemory refl other legal)
