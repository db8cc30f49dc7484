-- The recursion goes over the acts before.
use Rattle.std.proofs.Common.{length}
use Rattle.relay_plain.proofs.keys.+last_mods.Given as goal

abbrev pub decreases-last_mods : goal.decreases-last_mods
decreases-last_mods l = length l.log.now
