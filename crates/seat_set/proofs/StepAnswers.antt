-- What a step of the shared state that was taken, or refused, makes of what is played.
use Rattle.std.proofs.Common.{◌≡◌, Bool, true, false, Option, Some, None, Result, Ok, Err, refl, sym, ap, subst, ◌∙◌}
use Rattle.std.specs.Prelude.{if◌then◌else◌, option_map, IfSome}
use Rattle.broker_steps.specs.declared.limits.Limits.{Limits}
use Rattle.broker_steps.specs.declared.step.Step.{Step}
use Rattle.broker_steps.specs.declared.step.Step.TheVariants as steps
use Rattle.broker_model.specs.declared.journal.Entry.{Entry}
use Rattle.broker_model.specs.declared.journal.Kept.{Kept}
use Rattle.broker_model.specs.Limits.{is_full}
use Rattle.broker_core.specs.declared.answers.Refused.{Refused}
use Rattle.broker_core.specs.declared.answers.Refused.TheVariants as refused
use Rattle.broker_core.specs.Broker.{Broker, kept_in, entry_of, peer_entry, peer_refusal, refusal_if_full, refusal, IsSaid}
use Rattle.seat_set.specs.declared.session.Stop.TheVariants as stops
use Rattle.seat_set.specs.Played.{Play, Played, went, with_step, step_played}
use Rattle.seat_set.specs.Playing.{IsThere, IsPlayed}

-- why a step is refused, by whether the journal is full
abbrev refusal_by : Bool → Kept → Option Refused
refusal_by full kept = option_map (λ k. refused.JournalFull k) (if full then Some kept else None)

refusal_is : (b : Broker) (step : Step) → IsSaid step → IsThere step b.journal →
    refusal b step ≡ refusal_if_full b (entry_of step)
refusal_is b (steps.Join role) s t = absurd s
refusal_is b (steps.Peer q step) s t = ap (peer_refusal b (peer_entry q step)) t.0
refusal_is b (steps.Shell step) s t = refl
refusal_is b (steps.Take q n) s t = absurd s

taken_by : {T : Type 0} (full : Bool) (kept : Kept) (r : Result T Refused) (x : T) → r ≡ Ok x →
    IfSome (refusal_by full kept) (λ w. r ≡ Err w) → full ≡ false
taken_by true kept r x e s = (let no = sym e ∙ s in cc)
taken_by false kept r x e s = refl

pub step_taken : {T : Type 0} (b : Broker) (step : Step) (r : Result T Refused) (x : T) → IsSaid step →
    IsThere step b.journal → r ≡ Ok x →
    IfSome (refusal b step) (λ w. r ≡ Err w) → is_full b.limits b.journal (entry_of step) ≡ false
step_taken b step r x said there e s =
    taken_by (is_full b.limits b.journal (entry_of step)) (kept_in b.journal) r x e
    (subst (λ (o : Option Refused). IfSome o (λ w. r ≡ Err w)) (refusal_is b step said there) s)

-- what is played

abbrev pub by_full : Limits → Entry → Play → Bool → Played
by_full limits e play t = (if t then record { play = play; is_full = true } else went (with_step limits e play))

pub played_ok : (limits : Limits) (e : Entry) (play after : Play) → is_full limits play.journal e ≡ false →
    after ≡ with_step limits e play →
    IsPlayed (step_played limits e play) (Ok tt) after
played_ok limits e play after f a = subst (λ (p : Played). IsPlayed p (Ok tt) after)
    (sym (ap (by_full limits e play) f)) (refl, a)

pub played_full : (limits : Limits) (e : Entry) (play after : Play) (kept : Kept) →
    is_full limits play.journal e ≡ true → kept ≡ kept_in play.journal →
    after.journal ≡ play.journal → IsPlayed (step_played limits e play) (Err (stops.Full kept)) after
played_full limits e play after kept f k a =
    subst (λ (p : Played). IsPlayed p (Err (stops.Full kept)) after) (sym (ap (by_full limits e play) f)) (refl, k, a)
