use Rattle.std.proofs.Common.{◌≡◌, arith}
use Rattle.broker_audience.proofs.TokensFit.{with_more}
use Rattle.broker_audience.proofs.live.Live.waiting_with.Goals as goal

pub returns : goal.returns
returns c =
    let same : c.in_ok-waiting.waiting ≡ c.args.self.now.waiting = c.in_ok-waiting.ensures.value in
    record {
      value =
          with_more c.args.self.now.waiting c.args.tokens.now c.split_at.result.0.now c.loop-token.waiting c.min.result
          c.loop-token.token-index
          c.requires.few (grind arith) c.split_at.ensures.front (omega arith) c.loop-token.invariant;
    }
