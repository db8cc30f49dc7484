use Rattle.std.proofs.Common.{rules}
use Rattle.relay_plain.proofs.objects.remains.Goals as goal

pub returns-in-Gone : goal.returns-in-Gone
returns-in-Gone c = search rules
