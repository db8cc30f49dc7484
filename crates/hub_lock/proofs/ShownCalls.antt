-- What a call at the lock's history tells, as passes show it
use Rattle.std.proofs.Common.{◌≡◌, ℕ, ◌+◌, List, ◌∷◌, ◌++◌, length, Option, Some, None, refl, ap, sym, subst, ◌∙◌, arith}
use Rattle.std.specs.Prelude.{IsSome}
use Rattle.broker_steps.specs.declared.limits.Limits.{Limits}
use Rattle.broker_core.specs.declared.letting_go.LetGo.{LetGo}
use Rattle.turn_lock.specs.Pairs.{NoneOf, IsGrown}
use Rattle.turn_lock.specs.Sights.{IsLegal, having_seen}
use Rattle.turn_lock.proofs.PairsOfNumbers.{none-append}
use Rattle.hub_lock.specs.declared.call.Ask.TheVariants as asks
use Rattle.hub_lock.specs.declared.call.Answer.TheVariants as answers
use Rattle.hub_lock.specs.declared.call.Call.{Call}
use Rattle.hub_lock.specs.declared.call.Reply.{Reply}
use Rattle.hub_lock.specs.declared.event.Note.TheVariants as notes
use Rattle.hub_lock.specs.Histories.{History, broker_of}
use Rattle.hub_lock.specs.Lawful.{IsLawful}
use Rattle.hub_lock.specs.Plays.{Plays, Answers, MayAsk, IsHandedOut}
use Rattle.hub_lock.specs.Events.{Events, EventSeat, Tally, step_of, steps_of_events, pass_seat, root_seat, named_in, tally_of, tally_noted, tally_after, notes_in, count_of}
use Rattle.hub_lock.specs.Noted.{PlaysEvents, Hands, IsNoted, note_of}
use Rattle.hub_lock.specs.Shown.{shown_sight}
use Rattle.hub_lock.specs.Seats.{sight_of, pass_with}
use Rattle.hub_lock.specs.Calls.{Legal}
use Rattle.hub_lock.specs.Recording.{Records, recorder, with_next, HandsNext, LegalLook, LegalHandOut}
use Rattle.hub_lock.proofs.PairsLeftOut.{shown-append, none-shown, grown-shown}
use Rattle.hub_lock.proofs.TalliesStay.{tally-seen, handed-one}

module _ (seat : EventSeat) (call : Call) (after : Events) (call' : Call) (reply : Reply)
    (k : IsLegal PlaysEvents seat call after call' reply) where
  pub before-shown :
      steps_of_events (seat.seen ++ k.rest) ≡ steps_of_events seat.seen ++ steps_of_events k.rest
  before-shown = shown-append step_of seat.seen k.rest

  pub shown-legal : IsLegal Plays (sight_of (pass_seat seat)) call (steps_of_events after) call' reply
  shown-legal = record {
    constant = k.constant;
    told = k.told;
    rest = steps_of_events k.rest;
    apart = none-shown step_of seat.number k.rest k.apart;
    settled = λ n i. none-shown step_of n k.rest (k.settled n i);
    plays = subst (λ h. Plays k.constant h call (steps_of_events after) call' reply) before-shown k.plays.steps;
    grows = subst (λ h. IsGrown seat.number h (steps_of_events after)) before-shown
        (grown-shown step_of seat.number (seat.seen ++ k.rest) after k.grows);
  }

-- a call that makes no step

module _ (limits : Limits) (seat : EventSeat) (call : Call) (after : Events) (call' : Call) (reply : Reply)
    (k : IsLegal PlaysEvents seat call after call' reply) (of : seat.constant ≡ Some limits) where
  played : PlaysEvents limits (seat.seen ++ k.rest) call after call' reply
  played =
      let t = k.told in
      let same : k.constant ≡ limits =
      cc in subst (λ x. PlaysEvents x (seat.seen ++ k.rest) call after call' reply) same k.plays

  is-before : (P : History → Type 0) → P (steps_of_events (seat.seen ++ k.rest))
      → P (steps_of_events seat.seen ++ steps_of_events k.rest)
  is-before P p = subst P (before-shown seat call after call' reply k) p

  legal-by : (named : Option ℕ) (Told : History → Type 0) → Told (steps_of_events (seat.seen ++ k.rest))
      → Legal limits (pass_with named (shown_sight step_of seat)) (steps_of_events after) Told
  legal-by named Told told = record {
    rest = steps_of_events k.rest;
    apart = none-shown step_of seat.number k.rest k.apart;
    grows = is-before (λ h. IsGrown seat.number h (steps_of_events after))
        (grown-shown step_of seat.number (seat.seen ++ k.rest) after k.grows);
    lawful = is-before (IsLawful limits) played.steps.lawful;
    lawful_after = played.steps.lawful_after;
    answer = is-before Told told;
  }

  -- the root asked who records

  module _ (m : ℕ) (r : Option ℕ) (asked : call.ask ≡ asks.Name m) (told : reply.answer ≡ answers.Named r) where
    named-same : steps_of_events after ≡ steps_of_events (seat.seen ++ k.rest)
    named-same =
        let before : History = steps_of_events (seat.seen ++ k.rest) in
        let a : MayAsk before call.number (asks.Name m)
        → Answers limits before call.number (asks.Name m) (steps_of_events after) call'.ask reply.answer =
        subst (λ q. MayAsk before call.number q
        → Answers limits before call.number q (steps_of_events after) call'.ask reply.answer) asked played.steps.answers
        in
        subst (λ x. Answers limits before call.number (asks.Name m) (steps_of_events after) call'.ask x) told (a tt)

    pub named-look : LegalLook limits (root_seat seat) (steps_of_events after)
    named-look = legal-by (named_in seat.seen) (λ before. steps_of_events after ≡ before) named-same

    pub named-some : call.number ≡ 0 → tally_of (seat.seen ++ k.rest) ≡ None → IsSome r
    named-some zero none =
        let t : Tally = tally_of (seat.seen ++ k.rest) in
        let b = broker_of limits (steps_of_events (seat.seen ++ k.rest)) in
        let h : Hands call.number (asks.Name m) (answers.Named r) b t =
        subst (λ a. Hands call.number (asks.Name m) a b t) told
        (subst (λ q. Hands call.number q reply.answer b t) asked played.hands) in
        h.1 zero none

  first-named : (x : ℕ) (t t' : Tally) → t' ≡ tally_noted 0 (notes.Names x) t → notes_in t' ≡ notes_in t + 1
      → t' ≡ Some (x, 0)
  first-named x None t' e more = e
  first-named x (Some y) t' e more = let same = ap notes_in e in absurd (omega arith)

  pub named-tally : (m x : ℕ) → call.number ≡ 0 → call.ask ≡ asks.Name m → reply.answer ≡ answers.Named (Some x)
      → tally_of after ≡ Some (m, 0)
  named-tally m x zero asked told =
      let before : Tally = tally_of (seat.seen ++ k.rest) in
      let b = broker_of limits (steps_of_events (seat.seen ++ k.rest)) in
      let h : Hands call.number (asks.Name m) (answers.Named (Some x)) b before =
      subst (λ a. Hands call.number (asks.Name m) a b before) told
      (subst (λ q. Hands call.number q reply.answer b before) asked played.hands) in
      let is : tally_of after ≡ tally_noted 0 (notes.Names x) before =
      subst (λ n. tally_of after ≡ tally_after n (Some (notes.Names x)) before) zero
      (subst (λ a. tally_of after ≡ tally_after call.number (note_of a) before) told played.noted.tally) in
      let more : notes_in (tally_of after) ≡ notes_in before + 1 =
      subst (λ a. notes_in (tally_of after) ≡ notes_in before + count_of (note_of a)) told played.noted.count in
      first-named x before (tally_of after) is more ∙ ap (λ n. Some (n, 0)) h.0

  -- who records asked for the next entry

  next-tally : (n : ℕ) (handed : List LetGo) (r : Option LetGo)
      → tally_after n (note_of (answers.HandedOut r)) (Some (n, length handed))
      ≡ Some (n, length (with_next r handed))
  next-tally n handed None = refl
  next-tally n handed (Some it) =
      let one : length handed + 1 ≡ length (it ∷ handed) = omega arith in
      handed-one n (length handed) ∙ ap (λ c. Some (n, c)) one

  module _ (handed : List LetGo) (is : Records seat handed) (number : call.number ≡ seat.number) (r : Option LetGo)
      (asked : call.ask ≡ asks.HandOut) (told : reply.answer ≡ answers.HandedOut r) where
    tally-before : tally_of (seat.seen ++ k.rest) ≡ Some (seat.number, length handed)
    tally-before = tally-seen seat.seen k.rest (Some (seat.number, length handed)) is.tally k.apart

    out : IsHandedOut (broker_of limits (steps_of_events (seat.seen ++ k.rest))) (length handed) r
    out =
        let b = broker_of limits (steps_of_events (seat.seen ++ k.rest)) in
        let t : Tally = tally_of (seat.seen ++ k.rest) in
        let h : Hands seat.number asks.HandOut (answers.HandedOut r) b t =
        subst (λ n. Hands n asks.HandOut (answers.HandedOut r) b t) number
        (subst (λ a. Hands call.number asks.HandOut a b t) told
        (subst (λ q. Hands call.number q reply.answer b t) asked played.hands)) in
        h (length handed) tally-before

    same : steps_of_events after ≡ steps_of_events (seat.seen ++ k.rest)
    same =
        let before : History = steps_of_events (seat.seen ++ k.rest) in
        let a : MayAsk before call.number asks.HandOut
        → Answers limits before call.number asks.HandOut (steps_of_events after) call'.ask reply.answer =
        subst (λ q. MayAsk before call.number q
        → Answers limits before call.number q (steps_of_events after) call'.ask reply.answer) asked played.steps.answers
        in
        subst (λ x. Answers limits before call.number asks.HandOut (steps_of_events after) call'.ask x) told (a tt)

    pub legal-hand-out : LegalHandOut limits (recorder (pass_seat seat) handed) (steps_of_events after) r
    legal-hand-out =
        legal-by None (λ before. HandsNext limits before (length handed) (steps_of_events after) r)
        (record { out = out; same = same })

    pub records-after : (seat' : EventSeat) → seat' ≡ having_seen seat after → Records seat' (with_next r handed)
    records-after seat' e =
        let now : Records (having_seen seat after) (with_next r handed) = record {
          tally =
              subst (λ n. tally_of after ≡ tally_after n (note_of (answers.HandedOut r))
              (tally_of (seat.seen ++ k.rest)))
              number
              (subst (λ a. tally_of after ≡ tally_after call.number (note_of a) (tally_of (seat.seen ++ k.rest))) told
              played.noted.tally)
              ∙ ap (tally_after seat.number (note_of (answers.HandedOut r))) tally-before
              ∙ next-tally seat.number handed r;
          apart = subst (NoneOf seat.number) (sym same)
              (subst (NoneOf seat.number) (sym (before-shown seat call after call' reply k))
              (none-append seat.number (steps_of_events seat.seen) (steps_of_events k.rest) is.apart
              (none-shown step_of seat.number k.rest k.apart)));
        } in
        subst (λ (s : EventSeat). Records s (with_next r handed)) (sym e) now

-- what is told of the state's steps and tally is told of the lock's history
pub plays-events : (limits : Limits) (E E' : Events) (h h' : History) (t t' : Tally) (call call' : Call) (reply : Reply)
    → steps_of_events E ≡ h → steps_of_events E' ≡ h' → tally_of E ≡ t → tally_of E' ≡ t'
    → Plays limits h call h' call' reply → IsNoted call.number reply.answer t t'
    → Hands call.number call.ask reply.answer (broker_of limits h) t → PlaysEvents limits E call E' call' reply
plays-events limits E E' h h' t t' call call' reply is is' tally tally' plays noted hands = record {
  steps = subst (λ x. Plays limits x call (steps_of_events E') call' reply) (sym is)
      (subst (λ x. Plays limits h call x call' reply) (sym is') plays);
  noted = subst (λ x. IsNoted call.number reply.answer x (tally_of E')) (sym tally)
      (subst (λ x. IsNoted call.number reply.answer t x) (sym tally') noted);
  hands = subst
      (λ x. Hands call.number call.ask reply.answer (broker_of limits x) (tally_of E)) (sym is)
      (subst (λ x. Hands call.number call.ask reply.answer (broker_of limits h) x) (sym tally) hands);
}
