use Rattle.std.proofs.Common.{take}
use Rattle.serve_net.specs.MemNets.{LacksLinkFor}
use Rattle.serve_net.proofs.mem_net.place_for.Given as goal

abbrev pub invariant-loop-at : goal.invariant-loop-at
invariant-loop-at l = LacksLinkFor l.door (take l.at l.waiting)
