use Rattle.std.proofs.lemmas.Result.{err_from_is_err_and}
use Rattle.wl_wire.specs.Streams.{begun}
use Rattle.peer_link.proofs.StepsMade.{saw-both, pass-both}
use Rattle.peer_link.proofs.MessagesMade.{frame-stops, frame-made}
use Rattle.peer_link.proofs.frames.submit_frame.Goals as goal

pub returns-in_err-submit_tokens-clause-made : goal.returns-in_err-submit_tokens-clause-made
returns-in_err-submit_tokens-clause-made g c =
    let p = err_from_is_err_and c.from_residual.result c.from_residual.ensures.1 in
    rw (p.1, p.2)
    (frame-stops c.args.hub.now.limits c.args.pass.now c.submit_tokens.new.pass
    (begun c.args.cutter.now) c.args.bytes.now
    c.args.tokens.now c.in_err-submit_tokens.field-0.0 c.requires.good c.in_err-submit_tokens.ensures.made)

pub returns-clause-made : goal.returns-clause-made
returns-clause-made g c =
    frame-made c.args.hub.now.limits c.args.pass.now c.submit_tokens.new.pass c.submit_messages.new.pass
    (begun c.args.cutter.now)
    c.args.bytes.now c.args.tokens.now c.submit_messages.result c.requires.good c.submit_tokens.ensures.pass
    c.in_ok-submit_tokens.ensures.made c.submit_messages.ensures.made

pub returns-clause-pass : goal.returns-clause-pass
returns-clause-pass g c =
    pass-both c.args.pass.now c.submit_tokens.new.pass c.submit_messages.new.pass c.submit_tokens.ensures.pass
    c.submit_messages.ensures.pass

pub returns-clause-saw : goal.returns-clause-saw
returns-clause-saw g c =
    saw-both c.args.hub.now.limits c.args.pass.now.seat.seen c.submit_tokens.new.pass.seat.seen
    c.submit_messages.new.pass.seat.seen
    c.submit_tokens.ensures.saw c.submit_messages.ensures.saw
