use Rattle.std.proofs.Common.{rules}
use Rattle.desc_frame.proofs.reader.FrameReader.next.Goals as goal

pub returns-clause-settles : goal.returns-clause-settles
returns-clause-settles g c = search rules
