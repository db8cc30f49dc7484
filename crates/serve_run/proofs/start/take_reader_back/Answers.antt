use Rattle.std.proofs.Common.{ap, subst, Some, ◌∙◌}
use Rattle.turn_lock.specs.Pairs.{HasSeen}
use Rattle.hub_lock.specs.Passes.{PeerPass}
use Rattle.serve_run.proofs.EndsKept.{end-seen}
use Rattle.serve_run.proofs.start.take_reader_back.Goals as goal

pub returns-clause-gone : goal.returns-clause-gone
returns-clause-gone g c =
    let said = c.say_gone.ensures in
    let number = ap (λ (p : PeerPass). p.seat.number) said.pass in record {
      pass = c.say_gone.new.pass;
      number = number;
      seen = subst
          (λ n. HasSeen c.take_back.new.root.seen n c.say_gone.new.pass.seat.seen) number c.take_back.ensures.theirs;
      reads = said.reads ∙ ap (λ n. Some n) number;
      says = said.says;
      ended = end-seen c.args.hub.now.limits c.take_back.new.root.seen c.say_gone.new.pass.seat.seen
          c.say_gone.new.pass.seat.number c.say_gone.new.pass.peer c.take_back.ensures.theirs said.ended;
    }
