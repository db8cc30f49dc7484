use Rattle.std.proofs.Common.{rules, ◌≡◌, ◌++◌, ◌∙◌, ap, Option, None}
use Rattle.broker_core.specs.declared.letting_go.LetGo.{LetGo}
use Rattle.hub_lock.specs.Seats.{having_seen}
use Rattle.hub_lock.specs.Passes.{Recorder}
use Rattle.hub_lock.specs.Recording.{after_handing}
use Rattle.hub_lock.proofs.LegalCalls.{waited-more}
use Rattle.hub_lock.proofs.EntriesHandedOut.{waited-out}
use Rattle.hub_lock.proofs.hub.Hub.wait_hand_out.Goals as goal

pub returns-then-is_some-clause-legal : goal.returns-then-is_some-clause-legal
returns-then-is_some-clause-legal g c =
    let i = c.loop.invariant in
    let was : c.loop.pass ≡ after_handing c.args.pass.now (c.args.pass.now.seat.seen ++ i.waited.0) None =
    i.pass ∙ ap (λ h. after_handing c.args.pass.now h None) i.waited.1 in
    waited-out c.args.self.now.limits c.args.pass.now c.loop.pass c.hand_out-next.new.pass.seat.seen
    c.hand_out-next.result i.waited.0 i.waited.2 was c.hand_out-next.ensures.legal

pub loop-preserved : goal.loop-preserved
loop-preserved g c =
    let i = c.loop.invariant in
    let e = c.hand_out-next.ensures in
    let seen = c.hand_out-next.new.pass.seat.seen in
    let none : c.hand_out-next.result ≡ None = search rules in
    let was : c.loop.pass.seat ≡ having_seen c.args.pass.now.seat (c.args.pass.now.seat.seen ++ i.waited.0) =
    ap (λ (p : Recorder). p.seat) i.pass ∙ ap (having_seen c.args.pass.now.seat) i.waited.1 in
    let more = waited-more c.args.self.now.limits c.loop.pass.seat seen _ e.legal c.args.pass.now.seat i.waited.0
    i.waited.2 was e.legal.answer.same in record {
      pass = e.pass ∙ ap (λ (r : Option LetGo). after_handing c.loop.pass seen r) none
          ∙ ap (λ (p : Recorder). after_handing p seen None) i.pass;
      waited = (more.0, more.2, more.1);
    }
