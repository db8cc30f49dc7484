-- A peer that has ended stays so, and no step of it is taken any more
use Rattle.std.proofs.Common.{◌≡◌, ℕ, zero, suc, Bool, true, false, List, [], ◌∷◌, ◌++◌, Option, Some, None, Result, Ok, Err, IfSome, refl, sym, ◌∙◌, subst, inl, inr}
use Rattle.std.specs.Prelude.{◌⊎◌, if◌then◌else◌, ◌==◌}
use Rattle.relay_model.specs.declared.act.EndCause.{EndCause}
use Rattle.broker_steps.specs.declared.limits.Limits.{Limits}
use Rattle.broker_steps.specs.declared.step.Step.TheVariants as steps
use Rattle.broker_steps.specs.declared.step.PeerStep.{PeerStep}
use Rattle.broker_model.specs.declared.journal.Entry.{Entry}
use Rattle.broker_model.specs.declared.journal.Entry.TheVariants as entries
use Rattle.broker_model.specs.Ids.{Joined, peer_at}
use Rattle.broker_model.specs.Resolve.{past_of}
use Rattle.broker_model.specs.Settle.{due, cause_of, with_end, settled, number_alive, history}
use Rattle.broker_core.specs.declared.answers.Applied.{Applied}
use Rattle.broker_core.specs.declared.answers.Refused.{Refused}
use Rattle.broker_core.specs.declared.answers.Refused.TheVariants as refusals
use Rattle.broker_core.specs.Broker.{Broker, peer_entry, peer_refusal, refusal}
use Rattle.broker_core.specs.Stands.{end_of}
use Rattle.broker_core.specs.Taking.{by_end, standing_in}
use Rattle.hub_lock.specs.Histories.{History, broker_of, entries_of}
use Rattle.hub_lock.specs.Passes.{PeerPass}
use Rattle.hub_lock.specs.Plays.{Applies}
use Rattle.hub_lock.specs.Calls.{LegalStep, UnlessMemory}
use Rattle.hub_calls.specs.declared.submit.Sent.TheVariants as sent
use Rattle.hub_calls.specs.Made.{journal_of, HasEnded}
use Rattle.hub_calls.proofs.OthersTakeNothing.{entries-append}
use Rattle.hub_calls.proofs.StepsRefused.{told, unless}

-- the journal has an end of the peer
abbrev HasEnd : List Entry → ℕ → Type 0
HasEnd journal q = (cause : EndCause) × (end_of journal q ≡ Some cause)

one_more : (e : Entry) (older : List Entry) (q : ℕ) → HasEnd older q → HasEnd (e ∷ older) q
one_more (entries.End n cause) older q h = by (n == q)
  where
    by : (b : Bool) → (c : EndCause) × ((if b then Some cause else end_of older q) ≡ Some c)
    by true = (cause, refl)
    by false = h
one_more (entries.Join role) older q h = h
one_more (entries.Message k id opcode body) older q h = h
one_more (entries.Tokens k tokens) older q h = h
one_more (entries.BadSize k head) older q h = h
one_more (entries.Shell step) older q h = h
one_more (entries.Took k n) older q h = h

end_more : (journal : List Entry) (o : Option ℕ) (q : ℕ) → HasEnd journal q → HasEnd (with_end journal o) q
end_more journal None q h = h
end_more journal (Some n) q h = one_more (entries.End n (cause_of journal n)) journal q h

settled_more : (capacity fuel : ℕ) (journal : List Entry) (q : ℕ) → HasEnd journal q →
    HasEnd (settled capacity fuel journal) q
settled_more capacity zero journal q h = h
settled_more capacity (suc fuel) journal q h =
    settled_more capacity fuel (with_end journal (due capacity journal)) q
    (end_more journal (due capacity journal) q h)

history_more : (capacity : ℕ) (es base : List Entry) (q : ℕ) → HasEnd (history capacity base) q →
    HasEnd (history capacity (es ++ base)) q
history_more capacity [] base q h = h
history_more capacity (e ∷ es) base q h =
    let older : List Entry = history capacity (es ++ base) in
    settled_more capacity (number_alive (e ∷ older)) (e ∷ older) q
    (one_more e older q (history_more capacity es base q h))

pub ends_stay : (limits : Limits) (seen rest : History) (q : ℕ) → HasEnd (journal_of limits seen) q →
    HasEnd (journal_of limits (seen ++ rest)) q
ends_stay limits seen rest q h =
    subst (λ (es : List Entry). HasEnd (history limits.store es) q) (sym (entries-append seen rest))
    (history_more limits.store (entries_of rest) (entries_of seen) q h)

-- a step of it is refused

refused_by : (b : Broker) (q : ℕ) (step : PeerStep) (o : Option EndCause) → ((cause : EndCause) × (o ≡ Some cause)) →
    (why : Refused) × (peer_refusal b (peer_entry q step) (by_end o) ≡ Some why)
refused_by b q step None h = absurd (let no : None ≡ Some h.0 = h.1 in cc)
refused_by b q step (Some cause) h = (refusals.Ended cause, refl)

refused_there : (b : Broker) (q : ℕ) (step : PeerStep) (o : Option Joined) → HasEnd b.journal q →
    (why : Refused) × (peer_refusal b (peer_entry q step) (standing_in b.journal q o) ≡ Some why)
refused_there b q step None h = (refusals.NoPeer, refl)
refused_there b q step (Some peer) h = refused_by b q step (end_of b.journal q) h

not_taken : (o : Option Refused) (why : Refused) (r : Result Applied Refused) (applied : Applied) → o ≡ Some why →
    IfSome o (λ w. r ≡ Err w) → r ≡ Ok applied → ⊥
not_taken None why r applied e k is = let no : None ≡ Some why = e in cc
not_taken (Some w) why r applied e k is = let no : Err w ≡ Ok applied = sym k ∙ is in cc

took_none : (limits : Limits) (turn : History) (n q : ℕ) (step : PeerStep) (after : History) (applied : Applied) →
    HasEnd (journal_of limits turn) q → Applies limits turn n (steps.Peer q step) after (Ok applied) → ⊥
took_none limits turn n q step after applied h k =
    let b : Broker = broker_of limits turn in
    let w = refused_there b q step (peer_at (past_of b.journal) q) h in
    not_taken (refusal b (steps.Peer q step)) w.0 (Ok applied) applied w.1 k.refused refl

-- so none that is answered as taken
pub never_made : (limits : Limits) (before after : PeerPass) (step : PeerStep) (r : Result Applied Refused)
    (cause : EndCause) → UnlessMemory step ((after ≡ before) × (r ≡ Err refusals.NoMemory))
    (LegalStep limits before.seat after.seat.seen (steps.Peer before.peer step) r) → HasEnded limits before cause →
    told r ≡ Ok sent.All → ⊥
never_made limits before after step (Ok applied) cause legal h is = by (unless step _ _ legal)
  where
    by : ((after ≡ before) × (Ok applied ≡ Err refusals.NoMemory))
        ⊎ LegalStep limits before.seat after.seat.seen (steps.Peer before.peer step) (Ok applied) → ⊥
    by (inl k) = let no : Ok applied ≡ Err refusals.NoMemory = k.1 in cc
    by (inr k) =
        took_none limits (before.seat.seen ++ k.rest) before.seat.number before.peer step after.seat.seen applied
        (ends_stay limits before.seat.seen k.rest before.peer (cause, h)) k.answer
never_made limits before after step (Err (refusals.Ended c)) cause legal h is = cc
never_made limits before after step (Err (refusals.JournalFull kept)) cause legal h is = cc
never_made limits before after step (Err refusals.NoMemory) cause legal h is = cc
never_made limits before after step (Err refusals.NoPeer) cause legal h is = cc
