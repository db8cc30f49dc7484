use Rattle.trial_laws.proofs.BytesKept.{messages_are_bytes}
use Rattle.trial_laws.proofs.messages_are_bytes.Goals as goal

pub returns : goal.returns
returns c = messages_are_bytes
