use Rattle.std.proofs.Common.{rules}
use Rattle.broker_core.proofs.shared.Shared.peer_refusal.Goals as goal

pub returns-in-Gone : goal.returns-in-Gone
returns-in-Gone c = search rules
