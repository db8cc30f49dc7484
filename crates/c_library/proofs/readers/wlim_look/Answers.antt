use Rattle.std.proofs.Common.{◌≡◌, Some, true, refl, subst, sym, ap, ◌∙◌}
use Rattle.c_relay.specs.Seated.{Seat, Seated}
use Rattle.c_relay.specs.Numbers.{Numbered}
use Rattle.c_library.specs.Shown.{IsShown}
use Rattle.c_library.proofs.readers.wlim_look.Goals as goal

pub returns : goal.returns
returns c =
    let old = c.in-Some.boxed.value in
    let same : c.seat.result.now ≡ old.seat = c.seat.ensures ∙ ap (λ (s : Numbered). s.seat) c.deref.ensures in
    subst (λ before. IsShown before c.put.new.w.held.seat c.args.shown.now c.show.result true) c.in-Some.ensures.value
    (subst (λ after. IsShown (Some old) after c.args.shown.now c.show.result true) (sym c.put.ensures)
    (refl, refl, λ log waits s. c.show.ensures log waits (subst (λ (v : Seat). Seated v log waits) (sym same) s)))
