use Rattle.std.proofs.Common.{subst, sym}
use Rattle.c_relay.specs.Seated.{Seated}
use Rattle.c_relay.specs.Numbers.{Numbered}
use Rattle.c_relay.proofs.numbered.NumberedSeat.make.Goals as goal

pub returns-in-Ok-Some-clause-seat : goal.returns-in-Ok-Some-clause-seat
returns-in-Ok-Some-clause-seat c log waits stands =
    c.take-answer.ensures.takes log waits
    (subst (λ (v : Numbered). Seated v.seat log waits) (sym c.self.view_is) stands)
