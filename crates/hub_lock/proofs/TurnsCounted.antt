-- What a turn tells of a pass: that its call is legal, and what it counts then
use Rattle.std.proofs.Common.{◌≡◌, ℕ, ◌+◌, ◌++◌, length, Option, Some, ap, sym, subst, ◌∙◌, arith}
use Rattle.broker_steps.specs.declared.limits.Limits.{Limits}
use Rattle.broker_steps.specs.declared.step.Step.{Step}
use Rattle.broker_steps.specs.declared.step.Step.TheVariants as steps
use Rattle.turn_lock.specs.Pairs.{own, IsIn}
use Rattle.turn_lock.specs.Sights.{IsLegal}
use Rattle.turn_lock.specs.Rule.{bit}
use Rattle.turn_lock.proofs.OwnPairsAfterCalls.{own-taken, total-taken}
use Rattle.hub_lock.specs.declared.call.Ask.{Ask}
use Rattle.hub_lock.specs.declared.call.Ask.TheVariants as asks
use Rattle.hub_lock.specs.declared.call.Call.{Call}
use Rattle.hub_lock.specs.declared.call.Reply.{Reply}
use Rattle.hub_lock.specs.Histories.{History, broker_of, bytes_taken}
use Rattle.hub_lock.specs.Lawful.{IsLawful}
use Rattle.hub_lock.specs.Plays.{IsOwn, MayAsk, Answers, Plays, is_made, bytes_made}
use Rattle.hub_lock.specs.Passes.{PassSeat, journal_seen, journal_with, steps_of, bytes_of, total_steps, total_bytes, HasSeenLawful}
use Rattle.hub_lock.specs.Seats.{IsTallied, having_seen, sight_of}
use Rattle.hub_lock.specs.Calls.{Legal}
use Rattle.hub_lock.proofs.ReadersStay.{reader-stays, writer-stays}
use Rattle.hub_lock.proofs.StepsCounted.{made, counted, IsCounted, root-takes-none, no-bytes, taken-same}

own-stays : (h more : History) (n : ℕ) (step : Step) → IsOwn h n step → IsOwn (h ++ more) n step
own-stays h more n (steps.Join role) own = own
own-stays h more n (steps.Peer q step) own = reader-stays h more q n own
own-stays h more n (steps.Shell step) own = own
own-stays h more n (steps.Take q count) own = own

pub may-stays : (h more : History) (n : ℕ) (ask : Ask) → MayAsk h n ask → MayAsk (h ++ more) n ask
may-stays h more n (asks.Join role reader) may = may
may-stays h more n (asks.Apply step) may = own-stays h more n step may
may-stays h more n (asks.Take t) may = writer-stays h more t.peer n may
may-stays h more n asks.Copy may = may
may-stays h more n (asks.Name m) may = may
may-stays h more n asks.HandOut may = may

-- what was seen is lawful, and how many entries its journal has

pub lawful-seen : (limits : Limits) (s : PassSeat) → s.constant ≡ Some limits → IsLawful limits s.seen → HasSeenLawful s
lawful-seen limits s e l other e' = let same : limits ≡ other = cc in subst (λ x. IsLawful x s.seen) same l

pub entries-seen : (limits : Limits) (s : PassSeat) → s.constant ≡ Some limits →
    length (broker_of limits s.seen).journal ≡ length (journal_seen s)
entries-seen limits s e = ap (λ (o : Option Limits). length (journal_with o s.seen)) (sym e)

module _ (limits : Limits) (seat : PassSeat) (call : Call) (after : History) (call' : Call) (reply : Reply)
    (k : IsLegal Plays (sight_of seat) call after call' reply) (of : seat.constant ≡ Some limits)
    (number : call.number ≡ seat.number)
    (may : MayAsk seat.seen seat.number call.ask) where
  played : Plays limits (seat.seen ++ k.rest) call after call' reply
  played =
      let t = k.told in
      let same : k.constant ≡ limits =
      cc in subst (λ x. Plays x (seat.seen ++ k.rest) call after call' reply) same k.plays

  answered : Answers limits (seat.seen ++ k.rest) seat.number call.ask after call'.ask reply.answer
  answered = subst (λ n. Answers limits (seat.seen ++ k.rest) n call.ask after call'.ask reply.answer) number
      (played.answers
      (subst (λ n. MayAsk (seat.seen ++ k.rest) n call.ask) (sym number)
      (may-stays seat.seen k.rest seat.number call.ask may)))

  pub legal : Legal limits seat after
      (λ before. Answers limits before seat.number call.ask after call'.ask reply.answer)
  legal = record {
    rest = k.rest;
    apart = k.apart;
    grows = k.grows;
    lawful = played.lawful;
    lawful_after = played.lawful_after;
    answer = answered;
  }

  pub counts : IsCounted seat.number (bytes_made reply.answer) (is_made reply.answer) seat.seen after
  counts = counted seat.number (bytes_made reply.answer) (is_made reply.answer) seat.seen k.rest after k.apart
      (made limits (seat.seen ++ k.rest) seat.number call.ask after call'.ask reply.answer
      (may-stays seat.seen k.rest seat.number call.ask may) answered)

  pub entries-now : reply.entries ≡ length (journal_seen (having_seen seat after))
  entries-now = played.entries ∙ entries-seen limits (having_seen seat after) of

  pub lawful-now : HasSeenLawful (having_seen seat after)
  lawful-now = lawful-seen limits (having_seen seat after) of played.lawful_after

  -- of the root
  pub root-steps : seat.number ≡ 0 → (IsIn 0 seat.taken → ⊥) →
      total_steps (having_seen seat after) ≡ total_steps seat + bit (is_made reply.answer)
  root-steps zero apart =
      let c : length (own 0 after) ≡ length (own 0 seat.seen) + bit (is_made reply.answer) =
      subst (λ n. length (own n after) ≡ length (own n seat.seen) + bit (is_made reply.answer)) zero counts.steps in
      let t = total-taken (sight_of seat) call after call' reply k (subst (λ n. IsIn n seat.taken → ⊥) (sym zero) apart) in
      omega arith

  pub root-bytes : seat.number ≡ 0 → (IsIn 0 seat.taken → ⊥) → total_bytes (having_seen seat after) ≡ total_bytes seat
  root-bytes zero apart =
      let none = no-bytes limits (seat.seen ++ k.rest) seat.number call.ask after call'.ask reply.answer
      (root-takes-none seat.seen call.ask (subst (λ n. MayAsk seat.seen n call.ask) zero may)) answered in
      let c : bytes_taken (own 0 after) ≡ bytes_taken (own 0 seat.seen) + bytes_made reply.answer =
      subst (λ n. bytes_taken (own n after) ≡ bytes_taken (own n seat.seen) + bytes_made reply.answer) zero counts.taken
      in
      let t = taken-same seat.taken seat.seen after (λ n i. own-taken (sight_of seat) call after call' reply k n i
      (λ e. apart (subst (λ m. IsIn m seat.taken) (sym (sym zero ∙ e)) i))) in omega arith

  -- the seat after the turn
  module _ (seat' : PassSeat) (is : seat' ≡ having_seen seat after) where
    pub steps-after : steps_of seat' ≡ steps_of seat + bit (is_made reply.answer)
    steps-after = ap steps_of is ∙ counts.steps

    pub bytes-after : bytes_of seat' ≡ bytes_of seat + bytes_made reply.answer
    bytes-after = ap bytes_of is ∙ counts.taken

    pub entries-after : reply.entries ≡ length (journal_seen seat')
    entries-after = entries-now ∙ ap (λ (s : PassSeat). length (journal_seen s)) (sym is)

    pub lawful-after : HasSeenLawful seat'
    lawful-after = subst HasSeenLawful (sym is) lawful-now

    pub total-after : seat.number ≡ 0 → IsTallied seat' →
        total_steps seat' ≡ total_steps seat + bit (is_made reply.answer)
    total-after zero t = ap total_steps is ∙ root-steps zero (subst (λ (s : PassSeat). IsIn 0 s.taken → ⊥) is t.apart)

    pub total-bytes-after : seat.number ≡ 0 → IsTallied seat' → total_bytes seat' ≡ total_bytes seat
    total-bytes-after zero t =
        ap total_bytes is ∙ root-bytes zero (subst (λ (s : PassSeat). IsIn 0 s.taken → ⊥) is t.apart)
