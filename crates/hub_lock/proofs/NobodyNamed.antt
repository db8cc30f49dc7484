-- Who records is a pass that was made from the root, so as long as none was made, nobody does
use Rattle.std.proofs.Common.{◌≡◌, ℕ, ◌≤◌, ◌++◌, Option, Some, None, refl, ap, sym, subst, ◌∙◌, arith}
use Rattle.std.specs.Prelude.{option_map}
use Rattle.broker_steps.specs.declared.limits.Limits.{Limits}
use Rattle.turn_lock.specs.Pairs.{NoneOf, HasSeen}
use Rattle.turn_lock.specs.Sights.{IsLegal, after_split, having_seen}
use Rattle.broker_core.specs.Broker.{Broker}
use Rattle.hub_lock.specs.declared.call.Ask.{Ask}
use Rattle.hub_lock.specs.declared.call.Ask.TheVariants as asks
use Rattle.hub_lock.specs.declared.call.Answer.{Answer}
use Rattle.hub_lock.specs.declared.call.Answer.TheVariants as answers
use Rattle.hub_lock.specs.declared.call.Call.{Call}
use Rattle.hub_lock.specs.declared.call.Reply.{Reply}
use Rattle.hub_lock.specs.Histories.{History, broker_of}
use Rattle.hub_lock.specs.Plays.{Answers}
use Rattle.hub_lock.specs.Events.{Events, EventSeat, Tally, RecordsByAnother, tally_of, tally_from, tally_after, named_in, steps_of_events}
use Rattle.hub_lock.specs.Noted.{PlaysEvents, Hands, IsOfRoot, note_of}
use Rattle.hub_lock.proofs.TalliesStay.{tally-seen, recorder-before, named-stays}

-- what the root asks but to name who records notes nothing
pub root-quiet : (limits : Limits) (before after : History) (n : ℕ) (ask ask' : Ask) (a : Answer) → IsOfRoot ask
    → Answers limits before n ask after ask' a → note_of a ≡ None
root-quiet limits before after n (asks.Join role reader) ask' (answers.Joined r) of k = refl
root-quiet limits before after n (asks.Join role reader) ask' (answers.Applied r) of k = refl
root-quiet limits before after n (asks.Join role reader) ask' (answers.Took r) of k = refl
root-quiet limits before after n (asks.Join role reader) ask' (answers.Copied r) of k = refl
root-quiet limits before after n (asks.Join role reader) ask' (answers.Named r) of k = absurd k
root-quiet limits before after n (asks.Join role reader) ask' (answers.HandedOut r) of k = absurd k
root-quiet limits before after n asks.Copy ask' (answers.Joined r) of k = refl
root-quiet limits before after n asks.Copy ask' (answers.Applied r) of k = refl
root-quiet limits before after n asks.Copy ask' (answers.Took r) of k = refl
root-quiet limits before after n asks.Copy ask' (answers.Copied r) of k = refl
root-quiet limits before after n asks.Copy ask' (answers.Named r) of k = absurd k
root-quiet limits before after n asks.Copy ask' (answers.HandedOut r) of k = absurd k
root-quiet limits before after n (asks.Apply step) ask' a of k = absurd of
root-quiet limits before after n (asks.Take t) ask' a of k = absurd of
root-quiet limits before after n (asks.Name m) ask' a of k = absurd of
root-quiet limits before after n asks.HandOut ask' a of k = absurd of

-- before a pass was made nobody records
pub nobody-named : (s : EventSeat) → RecordsByAnother s → s.next ≤ 1 → tally_of s.seen ≡ None
nobody-named s another few = by (tally_of s.seen) refl
  where
    by : (t : Tally) → tally_of s.seen ≡ t → t ≡ None
    by None e = refl
    by (Some t) e = let k = another t e in let one = k.0 in let less = k.1 in absurd (omega (arith, one, less, few))

-- it stays so past what was seen, where the root named nobody
another-past : (s : EventSeat) (rest : Events) → NoneOf 0 rest → RecordsByAnother s →
    RecordsByAnother (having_seen s (s.seen ++ rest))
another-past s rest free another u e =
    let k = recorder-before s.seen rest u free e in
    let l = another k.0 k.1 in
    let same = k.2 in
    let one = l.0 in
    let less = l.1 in (omega (arith, one, same), omega (arith, less, same))

pub another-seen : (s : EventSeat) (h : Events) → s.number ≡ 0 → RecordsByAnother s → HasSeen h s.number s.seen →
    RecordsByAnother (having_seen s h)
another-seen s h zero another k u e =
    another-past s k.0 (subst (λ n. NoneOf n k.0) zero k.2) another u (sym (ap tally_of k.1) ∙ e)

-- and where the root makes a pass
pub another-split : (s : EventSeat) → RecordsByAnother s → RecordsByAnother (after_split s)
another-split s another u e =
    let k = another u e in
    let less = k.1 in (k.0, omega (arith, less))

-- whom the root named it has named past what was seen
pub named-seen : (s : EventSeat) (h : Events) → s.number ≡ 0 → HasSeen h s.number s.seen → named_in h ≡ named_in s.seen
named-seen s h zero k = ap named_in k.1 ∙ named-stays s.seen k.0 (subst (λ n. NoneOf n k.0) zero k.2)

-- where it named nobody, nobody records
pub unnamed-tally : (h : Events) → named_in h ≡ None → tally_of h ≡ None
unnamed-tally h = by (tally_of h) where
  by : (t : Tally) → option_map (λ (x : ℕ × ℕ). x.0) t ≡ None → t ≡ None
  by None e = refl
  by (Some t) e = absurd (cc)

module _ (seat : EventSeat) (call : Call) (after : Events) (call' : Call) (reply : Reply)
    (k : IsLegal PlaysEvents seat call after call' reply) (zero : seat.number ≡ 0)
  where
    -- a call of the root that notes nothing leaves it so
    pub another-after : RecordsByAnother seat → note_of reply.answer ≡ None → RecordsByAnother (having_seen seat after)
    another-after another quiet u e =
        another-past seat k.rest (subst (λ n. NoneOf n k.rest) zero k.apart) another u
        (sym (k.plays.noted.tally ∙ ap (λ o. tally_after call.number o (tally_of (seat.seen ++ k.rest))) quiet) ∙ e)

    -- and whom it named
    pub named-after : note_of reply.answer ≡ None → named_in after ≡ named_in seat.seen
    named-after quiet =
        ap (option_map (λ (t : ℕ × ℕ). t.0))
        (k.plays.noted.tally ∙ ap (λ o. tally_after call.number o (tally_of (seat.seen ++ k.rest))) quiet)
        ∙ named-stays seat.seen k.rest (subst (λ n. NoneOf n k.rest) zero k.apart)

    pub before-unnamed : tally_of seat.seen ≡ None → tally_of (seat.seen ++ k.rest) ≡ None
    before-unnamed none = tally-seen seat.seen k.rest None none (subst (λ n. NoneOf n k.rest) zero k.apart)

    pub hands-unnamed : tally_of seat.seen ≡ None → call.number ≡ 0 →
        (b : Broker) × Hands 0 call.ask reply.answer b None
    hands-unnamed none is =
        let b : Broker = broker_of k.constant (steps_of_events (seat.seen ++ k.rest)) in (
          b,
          subst (λ n. Hands n call.ask reply.answer b None) is
              (subst (λ t. Hands call.number call.ask reply.answer b t) (before-unnamed none) k.plays.hands),
        )
