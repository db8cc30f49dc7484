use Rattle.std.proofs.Common.{rules, ◌≡◌, true, ◌∙◌, inr, subst, w64, to_z, of_z}
use Rattle.std.proofs.lemmas.Int.{to_z-of_z}
use Rattle.broker_steps.specs.Ranges.{IsShellStep}
use Rattle.c_library.specs.Called.{Tells}
use Rattle.c_library.specs.Codes.{order_code}
use Rattle.c_library.specs.OrdersCalled.{Said}
use Rattle.c_library.proofs.broker_orders.order.Goals as goal

pub returns : goal.returns
returns c =
    let old = c.args.seat.now in
    let new = c.order.new.self in
    let answer = c.order.result in
    let e = c.order.ensures in
    let word = to_z w64 (of_z w64 c.order_code.result) in
    let coded : word ≡ order_code answer =
    to_z-of_z w64 c.order_code.result (record { sfits = c.order_code.type_inv }) ∙ c.order_code.ensures in
    let within : c.is_in_range.result ≡ true = search rules in
    let said : Said c.args.step c.stamp_at.result old new answer = record {
      refused = e.refused;
      accepted = e.accepted;
      ok = e.ok;
      route = e.route;
      err = e.err;
      held = e.held;
      told = e.told;
    } in
    inr (
      subst (λ tells. Tells (IsShellStep c.args.step) tells) within c.is_in_range.ensures,
      answer,
      coded,
      subst (λ given. Said c.args.step given old new answer) c.stamp_at.ensures said,
    )
