use Rattle.std.proofs.Common.{◌≡◌, ◌++◌, take}
use Rattle.broker_audience.proofs.live.Live.waiting_with.Given as goal

-- as many as fit go behind those that wait
abbrev pub invariant-loop-token : goal.invariant-loop-token
invariant-loop-token l = l.waiting ≡ l.self.waiting ++ take l.token-index l.more
