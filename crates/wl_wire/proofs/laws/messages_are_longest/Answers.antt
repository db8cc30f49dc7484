use Rattle.wl_wire.proofs.MessagesHoweverCut.{longest}
use Rattle.wl_wire.proofs.laws.messages_are_longest.Goals as goal

pub returns : goal.returns
returns c = longest
