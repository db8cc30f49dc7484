use Rattle.std.proofs.Common.{rules}
use Rattle.wio_core.proofs.PiecesMove.{Reads-told}
use Rattle.wio_core.proofs.mem_source.MemSourceSource.TheImpl.Goals as goal

pub read-tells : goal.read-tells
read-tells c = record {
  moved = Reads-told c.result c.args.self.now c.new.self.now c.args.buf.now c.new.buf.now c.ensures.count c.ensures.ok
      c.ensures.end c.ensures.filled;
  given_stays = search rules;
  left_stays = search rules;
  given_quiet = search rules;
  left_quiet = search rules;
  never_falls = search rules;
  cause = search rules;
  no_fault = search rules;
}
