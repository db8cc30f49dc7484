use Rattle.std.proofs.Common.{rules, ◌≡◌, ◌++◌, ◌∙◌, ap}
use Rattle.hub_lock.specs.Seats.{having_seen}
use Rattle.hub_lock.specs.Passes.{PeerPass}
use Rattle.hub_lock.specs.Calls.{pass_having_seen}
use Rattle.hub_lock.proofs.LegalCalls.{waited-more, wait-out}
use Rattle.hub_lock.proofs.hub.Hub.wait_take_into.Goals as goal

pub loop-preserved : goal.loop-preserved
loop-preserved g c =
    let i = c.loop.invariant in
    let e = c.in-Empty.ensures in
    let was : c.loop.pass.seat ≡ having_seen c.args.pass.now.seat (c.args.pass.now.seat.seen ++ i.waited.0) =
    ap (λ (p : PeerPass). p.seat) i.pass ∙ ap (having_seen c.args.pass.now.seat) i.waited.1 in
    let more = waited-more c.args.self.now.limits c.loop.pass.seat c.take_into-answer.new.pass.seat.seen _ e.legal
    c.args.pass.now.seat i.waited.0 i.waited.2 was e.legal.answer.same in record {
      pass = e.pass ∙ ap (λ (p : PeerPass). pass_having_seen p c.take_into-answer.new.pass.seat.seen) i.pass;
      waited = (more.0, more.2, more.1);
    }

pub returns-in_default : goal.returns-in_default
returns-in_default g c =
    let i = c.loop.invariant in
    let e = c.take_into-answer.ensures in
    let was : c.loop.pass ≡ pass_having_seen c.args.pass.now (c.args.pass.now.seat.seen ++ i.waited.0) =
    i.pass ∙ ap (pass_having_seen c.args.pass.now) i.waited.1 in record {
      pass = e.pass ∙ ap (λ (p : PeerPass). pass_having_seen p c.take_into-answer.new.pass.seat.seen) i.pass;
      legal = wait-out c.args.self.now.limits c.args.pass.now c.loop.pass c.take_into-answer.new.pass i.waited.0
          c.take_into-answer.new.room c.take_into-answer.result was i.waited.2 e.legal;
      few = e.few;
      joined = e.joined;
      waited = search rules;
    }
