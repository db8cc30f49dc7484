use Rattle.std.proofs.Common.{rules, ◌≡◌, ◌<◌, ◌≤◌, ◌++◌, length, take, drop, ◌∙◌, inr, ap, subst, arith, w64, to_z, of_z}
use Rattle.std.proofs.lemmas.Int.{to_z-of_z}
use Rattle.c_library.specs.Codes.{took_code}
use Rattle.c_library.specs.PeersCalled.{TookInto, room_in}
use Rattle.c_library.proofs.broker_peers.take.Goals as goal

-- the room is `room_in`, and `split_at_mut` lends the bytes up to it, and those behind them
pub returns : goal.returns
returns c =
    let old = c.args.seat.now in
    let call = c.take-took in
    let new = call.new.self in
    let answer = call.result in
    let e = call.ensures in
    let before = c.args.bytes.now in
    let tokens = c.args.tokens.now in
    let parts = c.split_at_mut-front in
    let lent = parts.result.0.now in
    let behind = parts.result.1.now in
    let front = call.new.buf in
    let word = to_z w64 (of_z w64 c.took_code.result) in
    let said : word ≡ took_code answer =
    to_z-of_z w64 c.took_code.result (record { sfits = c.took_code.type_inv }) ∙ c.took_code.ensures.code in
    let some : 0 < length before = search rules in
    let places : 256 ≤ length tokens = omega (arith, c.if-tokens-lt-MOST_TOKENS.false) in
    let lent_is : lent ≡ take (room_in before) before =
    parts.ensures.front ∙ ap (λ n. take n before) c.min-room.ensures in
    let behind_is : behind ≡ drop (room_in before) before =
    parts.ensures.back ∙ ap (λ n. drop n before) c.min-room.ensures in
    let took : TookInto c.args.peer c.stamp_at.result lent tokens front call.new.tokens old new answer = record {
      refused = e.refused;
      accepted = e.accepted;
      taken = e.bytes;
      settled = e.settled;
      same = e.same;
      same_bytes = e.same_bytes;
      same_tokens = e.same_tokens;
      held = e.held;
      told = e.told;
    } in
    let into =
    subst (λ given.
    TookInto c.args.peer given (take (room_in before) before) tokens front call.new.tokens old new answer)
    c.stamp_at.ensures
    (subst (λ bytes. TookInto c.args.peer c.stamp_at.result bytes tokens front call.new.tokens old new answer)
    lent_is took) in
    inr (some, places, (answer, front, ap (λ l. front ++ l) behind_is, said, c.took_code.ensures.counts, into))
