use Rattle.std.proofs.Common.{◌≡◌, ◌≤◌, length, ◌∙◌, inr, subst, arith, w64, to_z, of_z}
use Rattle.std.proofs.lemmas.Int.{to_z-of_z}
use Rattle.c_library.specs.Codes.{done_code}
use Rattle.c_library.specs.PeersCalled.{Sent}
use Rattle.c_library.proofs.broker_peers.receive.Goals as goal

pub returns : goal.returns
returns c =
    let old = c.args.seat.now in
    let new = c.receive.new.self in
    let answer = c.receive.result in
    let e = c.receive.ensures in
    let word = to_z w64 (of_z w64 c.done_code.result) in
    let said : word ≡ done_code answer =
    to_z-of_z w64 c.done_code.result (record { sfits = c.done_code.type_inv }) ∙ c.done_code.ensures in
    let few : length c.args.tokens.now ≤ 256 = omega (arith, c.if-tokens-gt-MOST_TOKENS.false) in
    let sent : Sent c.args.peer c.stamp_at.result c.args.bytes.now c.args.tokens.now old new answer = record {
      refused = e.absent;
      same = e.same;
      received = e.received;
      keeps = e.keeps;
      stopped = e.stopped;
      told = e.told;
    } in
    inr (
      few,
      answer,
      said,
      subst (λ given. Sent c.args.peer given c.args.bytes.now c.args.tokens.now old new answer) c.stamp_at.ensures sent,
    )
