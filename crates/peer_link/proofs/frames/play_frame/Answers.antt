use Rattle.std.proofs.Common.{refl, inl, inr}
use Rattle.relay_model.specs.declared.act.EndCause.TheVariants.{Bad}
use Rattle.peer_link.proofs.FramesRead.{made-not-fault}
use Rattle.peer_link.proofs.frames.play_frame.Goals as goal

pub returns-in-Ok-More-clause-makes : goal.returns-in-Ok-More-clause-makes
returns-in-Ok-More-clause-makes g c =
    let e = rw c.in-Ok-More.field-0-is at c.in-Ok-More.ensures.ahead in (c.in-Ok-More.ensures.made, e.0, e.1)

pub returns-in-Ok-Nothing-clause-makes : goal.returns-in-Ok-Nothing-clause-makes
returns-in-Ok-Nothing-clause-makes g c =
    inr (record {
      cause = Bad;
      is = refl;
      ended = rw c.in-Ok-Nothing.field-0-is at c.in-Ok-Nothing.ensures.ahead;
      entries = c.in-Ok-Nothing.ensures.made;
    })

pub returns-in-Err-clause-makes : goal.returns-in-Err-clause-makes
returns-in-Err-clause-makes g c = inl c.in-Err.ensures.made

pub returns-in-Err-clause-unread : goal.returns-in-Err-clause-unread
returns-in-Err-clause-unread g c = λ e.
    made-not-fault c.args.hub.now.limits c.args.pass.now c.submit_frame.new.pass _ c.in-Err.end c.in-Err.ensures.made
    (cc)
