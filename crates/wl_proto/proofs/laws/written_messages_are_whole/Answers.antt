use Rattle.wl_proto.proofs.WrittenIsWhole.{written_whole}
use Rattle.wl_proto.proofs.laws.written_messages_are_whole.Goals as goal

pub returns : goal.returns
returns c = written_whole
