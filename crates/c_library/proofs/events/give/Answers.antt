use Rattle.std.proofs.Common.{◌≡◌, ◌<◌, length, drop, slice_set, refl, inr, subst, sym, ap, ◌∙◌, arith, Option, Some, Ok}
use Rattle.std.proofs.lemmas.List.{length-drop}
use Rattle.c_relay.specs.declared.event.Event.{Event}
use Rattle.c_relay.specs.Seated.{Seat}
use Rattle.c_relay.specs.Waiting.{Pulls, IsFirst}
use Rattle.c_relay.specs.Numbers.{number_at}
use Rattle.c_library.specs.Gave.{IsZeroEnded}
use Rattle.c_library.proofs.ZeroBehind.{zero_behind, first_length}
use Rattle.c_library.proofs.events.give.Goals as goal

pub returns : goal.returns
returns c =
    let before = c.args.text.now in
    let old = c.args.seat.now in
    let new = c.pull.new.self in
    let event = c.in-Ok-Some.event in
    let handed : Pulls old.seat.heard new.seat.heard before c.pull.new.text (Ok (Some event)) =
    subst (λ (o : Option Event). Pulls old.seat.heard new.seat.heard before c.pull.new.text (Ok o))
    c.in-Ok-Some.field-0-is c.in-Ok-Some.ensures.handed in
    let text = handed.0 in
    let n : length text ≡ event.length = handed.2 in
    let first : IsFirst old.seat.heard (Some c.in-Some.first) =
    subst (λ (s : Seat). IsFirst s.heard (Some c.in-Some.first)) c.seat.ensures c.in-Some.ensures in
    let same : c.in-Some.first.length ≡ event.length = ap (first_length 0) (sym first.2 ∙ handed.1) in
    let room : 0 < length (drop (length text) before) =
    omega (arith, length-drop (length text) before, n, same, c.if-text-first.false) in
    let zero : IsZeroEnded text before (slice_set c.pull.new.text event.length 0) =
    subst (λ bytes. IsZeroEnded text before (slice_set bytes event.length 0)) (sym handed.3)
    (zero_behind text before event.length n room) in
    inr (
      refl,
      record {
        text = text;
        first = handed.1;
        number = c.number-number.ensures ∙ ap (λ m. number_at m event.to) c.in-Ok-Some.ensures.numbers;
        written = zero;
        relay = c.in-Ok-Some.ensures.relay;
        living = c.in-Ok-Some.ensures.living;
        popups = c.in-Ok-Some.ensures.popups;
        limits = c.in-Ok-Some.ensures.limits;
        numbers = c.in-Ok-Some.ensures.numbers;
      },
    )
