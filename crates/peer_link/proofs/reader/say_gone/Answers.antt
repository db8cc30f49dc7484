use Rattle.std.proofs.Common.{sym, subst}
use Rattle.relay_model.specs.declared.act.EndCause.TheVariants.{Gone}
use Rattle.broker_model.specs.declared.journal.Entry.TheVariants as entries
use Rattle.peer_link.specs.declared.ends.ReadEnd.{ReadEnd}
use Rattle.peer_link.specs.declared.ends.ReadEnd.TheVariants as ends
use Rattle.peer_link.specs.Submits.{IsGoneRefusal}
use Rattle.peer_link.specs.ReadsPeer.{ReadsPeer, TellsNoFault}
use Rattle.peer_link.specs.ReadsFrame.{ReadsLink}
use Rattle.peer_link.proofs.FramesRead.{ended-reads, gone-said, gone-refused}
use Rattle.peer_link.proofs.reader.say_gone.Goals as goal

pub returns-in-Ended-clause-reads : goal.returns-in-Ended-clause-reads
returns-in-Ended-clause-reads g c = λ read left faults r.
    subst (λ (e : ReadEnd). ReadsPeer c.args.hub.now.limits c.args.pass.now read left faults e) (sym c.in-Ended.is)
    (ended-reads c.args.hub.now.limits c.args.pass.now read left faults c.in-Ended.field-0
    (subst (λ (e : ReadEnd). ReadsLink c.args.hub.now.limits c.args.pass.now read left faults e) c.in-Ended.is r))

pub returns-in-Ok-clause-reads : goal.returns-in-Ok-clause-reads
returns-in-Ok-clause-reads g c = λ read left faults r.
    gone-said c.args.hub.now.limits c.args.pass.now c.submit_step.new.pass read left faults c.args.end
    c.submit_step.ensures.pass
    c.submit_step.ensures.saw (λ cause e. c.in_default.not-Ended cause e) c.in-Ok.ensures.made r

pub returns-in-Err-clause-reads : goal.returns-in-Err-clause-reads
returns-in-Err-clause-reads g c = λ read left faults r.
    gone-refused c.args.hub.now.limits c.args.pass.now c.submit_step.new.pass read left faults c.args.end c.in-Err.other
    (entries.End c.args.pass.now.peer Gone) c.submit_step.ensures.pass c.in-Err.ensures.made c.in-Err.ensures.refusal r

-- who has ended may have a read that failed
told_gone : (end : ReadEnd) → IsGoneRefusal end → TellsNoFault end → ⊥
told_gone (ends.Ended cause) refusal told = told
told_gone _ refusal told = refusal

pub returns-in-Ended-clause-no_fault : goal.returns-in-Ended-clause-no_fault
returns-in-Ended-clause-no_fault g c = λ told e. subst TellsNoFault c.in-Ended.is told

pub returns-in-Ok-clause-no_fault : goal.returns-in-Ok-clause-no_fault
returns-in-Ok-clause-no_fault g c = λ told e. subst TellsNoFault e told

pub returns-in-Err-clause-no_fault : goal.returns-in-Err-clause-no_fault
returns-in-Err-clause-no_fault g c = λ told e. told_gone c.in-Err.other c.in-Err.ensures.refusal told

pub returns-in-Err-clause-cause : goal.returns-in-Err-clause-cause
returns-in-Err-clause-cause g c = λ e. absurd (subst IsGoneRefusal e c.in-Err.ensures.refusal)
