-- A job that was ready and was run has its law
use Rattle.std.proofs.Common.{◌≡◌, Bool, Result, Ok, Err, refl, sym, ap, subst, ◌∙◌}
use Rattle.std.specs.Prelude.{IfOk}
use Rattle.broker_steps.specs.declared.limits.Limits.{Limits}
use Rattle.hub_lock.specs.Passes.{HubId, PassSeat, PeerPass, IsOf}
use Rattle.trial_script.specs.declared.action.Edits.{Edits}
use Rattle.trial_script.specs.declared.action.FieldEdit.{FieldEdit}
use Rattle.broker_steps.specs.declared.step.ShellStep.{ShellStep}
use Rattle.hub_calls.proofs.PassesGrow.{same_peer, saw_both}
use Rattle.trial_typing.proofs.FieldKept.{saw_all}
use Rattle.trial_typing.proofs.OrdersGiven.{seat_both}
use Rattle.trial_run.specs.declared.typist.TrialTypist.{TrialTypist}
use Rattle.trial_typing.specs.declared.field_job.FieldJob.{FieldJob}
use Rattle.trial_typing.specs.declared.shell_job.ShellJob.{ShellJob}
use Rattle.trial_typing.specs.declared.job_end.JobEnd.{JobEnd}
use Rattle.trial_typing.specs.Ends.{done_of}
use Rattle.trial_typing.specs.FieldGoing.{IsFieldOf}
use Rattle.trial_typing.specs.Sending.{HaveSeenMore}
use Rattle.trial_jobs.specs.declared.method_job.MethodJob.{MethodJob}
use Rattle.trial_jobs.specs.declared.job.TrialJob.{TrialJob}
use Rattle.trial_jobs.specs.declared.job.TrialJob.TheVariants as jobs
use Rattle.trial_jobs.specs.JobLaw.{IsReady, Runs, HasPlayed}
use Rattle.trial_jobs.specs.MethodGoing.{IsMethodOf, IsMethodPlayed}
use Rattle.trial_jobs.specs.MethodLaw.{MethodEnds, typist_in}
use Rattle.trial_threads.specs.declared.running.Running.{Running}
use Rattle.trial_threads.specs.Users.{Part, of_field, of_method, of_shell}
use Rattle.trial_threads.specs.Jobs.{IsJobOf, IsIdle, IsRun, HasGone, KeepsPasses, part_of}

-- ---- the passes stay the hub's

record AreOf (hub : HubId) (reader writer : PeerPass) : Type 0 where
  reads : IsOf hub reader.seat
  writes : IsOf hub writer.seat
  one_peer : writer.peer ≡ reader.peer

passes_kept : (hub : HubId) (r w r' w' : PeerPass) → AreOf hub r w → HaveSeenMore hub.limits r w r' w' →
    AreOf hub r' w'
passes_kept hub r w r' w' of saw = record {
  reads = subst (λ (p : PeerPass). IsOf hub p.seat) (sym saw.same_reader) of.reads;
  writes = subst (λ (p : PeerPass). IsOf hub p.seat) (sym saw.same_writer) of.writes;
  one_peer = same_peer w w' saw.same_writer ∙ of.one_peer ∙ sym (same_peer r r' saw.same_reader);
}

pub of_kept : (hub : HubId) (before after : TrialJob) → IsJobOf hub before → KeepsPasses hub.limits before after →
    IsJobOf hub after
of_kept hub (jobs.Field b) (jobs.Field a) of saw =
    let k = passes_kept hub b.reader b.writer a.reader a.writer
    (record { reads = of.reads; writes = of.writes; one_peer = of.one_peer }) saw in
    record { reads = k.reads; writes = k.writes; one_peer = k.one_peer }
of_kept hub (jobs.Method b) (jobs.Method a) of saw =
    let k = passes_kept hub b.reader b.writer a.reader a.writer
    (record { reads = of.reads; writes = of.writes; one_peer = of.one_peer }) saw in
    record { reads = k.reads; writes = k.writes; one_peer = k.one_peer }
of_kept hub (jobs.Shell b) (jobs.Shell a) of saw = subst (λ (p : PassSeat). IsOf hub p) (sym saw.0) of
of_kept hub (jobs.Field b) (jobs.Method a) of saw = absurd saw
of_kept hub (jobs.Field b) (jobs.Shell a) of saw = absurd saw
of_kept hub (jobs.Method b) (jobs.Field a) of saw = absurd saw
of_kept hub (jobs.Method b) (jobs.Shell a) of saw = absurd saw
of_kept hub (jobs.Shell b) (jobs.Field a) of saw = absurd saw
of_kept hub (jobs.Shell b) (jobs.Method a) of saw = absurd saw

pub ready_of : (hub : HubId) (job : TrialJob) → IsReady hub job → IsJobOf hub job
ready_of hub (jobs.Field job) r = record { reads = r.begun.reads; writes = r.begun.writes; one_peer = r.begun.one_peer }
ready_of hub (jobs.Method job) r =
    record { reads = r.begun.reads; writes = r.begun.writes; one_peer = r.begun.one_peer }
ready_of hub (jobs.Shell job) r = r.of

-- and so they have when they have seen more twice
pub keeps_both : (limits : Limits) (a b c : TrialJob) → KeepsPasses limits a b → KeepsPasses limits b c →
    KeepsPasses limits a c
keeps_both limits (jobs.Field a) (jobs.Field b) (jobs.Field c) one two =
    saw_all limits a.reader a.writer b.reader b.writer c.reader c.writer one two
keeps_both limits (jobs.Method a) (jobs.Method b) (jobs.Method c) one two =
    saw_all limits a.reader a.writer b.reader b.writer c.reader c.writer one two
keeps_both limits (jobs.Shell a) (jobs.Shell b) (jobs.Shell c) one two = (
  seat_both a.pass b.pass c.pass one.0 two.0,
  saw_both limits a.pass.seen b.pass.seen c.pass.seen one.1 two.1,
)
keeps_both limits (jobs.Field a) (jobs.Method b) c one two = absurd one
keeps_both limits (jobs.Field a) (jobs.Shell b) c one two = absurd one
keeps_both limits (jobs.Method a) (jobs.Field b) c one two = absurd one
keeps_both limits (jobs.Method a) (jobs.Shell b) c one two = absurd one
keeps_both limits (jobs.Shell a) (jobs.Field b) c one two = absurd one
keeps_both limits (jobs.Shell a) (jobs.Method b) c one two = absurd one
keeps_both limits (jobs.Field a) (jobs.Field b) (jobs.Method c) one two = absurd two
keeps_both limits (jobs.Field a) (jobs.Field b) (jobs.Shell c) one two = absurd two
keeps_both limits (jobs.Method a) (jobs.Method b) (jobs.Field c) one two = absurd two
keeps_both limits (jobs.Method a) (jobs.Method b) (jobs.Shell c) one two = absurd two
keeps_both limits (jobs.Shell a) (jobs.Shell b) (jobs.Field c) one two = absurd two
keeps_both limits (jobs.Shell a) (jobs.Shell b) (jobs.Method c) one two = absurd two

-- ---- a job that was run

abbrev with_end : TrialJob → Result Bool JobEnd → Running
with_end job r = record { job = job; ended = r }

typed : (limits : Limits) (a : MethodJob) (t t' : TrialTypist) (r : Result Bool JobEnd) → t ≡ t' →
    IfOk r (IsMethodPlayed limits t a) → IfOk r (IsMethodPlayed limits t' a)
typed limits a t t' r is = subst (λ (x : TrialTypist). IfOk r (IsMethodPlayed limits x a)) is

runs : (hub : HubId) (b job : TrialJob) (r : Result Bool JobEnd) (ended : Result Bool JobEnd) → IsReady hub b →
    Runs hub.limits b job (done_of r) → IfOk r (HasPlayed hub.limits b job) →
    IsRun hub (with_end b ended) (with_end job r)
runs hub (jobs.Field b) (jobs.Field a) r ended ready k plays = record {
  run = λ typist types. record {
    of = of_kept hub (jobs.Field b) (jobs.Field a) (ready_of hub (jobs.Field b) ready) k.saw;
    ends = k.ends;
    plays = plays;
  };
  same = ap of_field k.same;
  keeps = k.saw;
}
runs hub (jobs.Method b) (jobs.Method a) r ended ready k plays = record {
  run = λ typist types. record {
    of = of_kept hub (jobs.Method b) (jobs.Method a) (ready_of hub (jobs.Method b) ready) k.saw;
    ends = subst (λ (t : TrialTypist). MethodEnds hub.limits t a (done_of r)) types k.ends;
    plays = typed hub.limits a (typist_in b) typist r types plays;
  };
  same = ap of_method k.same;
  keeps = k.saw;
}
runs hub (jobs.Shell b) (jobs.Shell a) r ended ready k plays = record {
  run = λ typist types. record {
    of = of_kept hub (jobs.Shell b) (jobs.Shell a) (ready_of hub (jobs.Shell b) ready) (k.pass, k.saw);
    ends = k.ends;
    plays = plays;
  };
  same = ap of_shell k.same;
  keeps = (k.pass, k.saw);
}
runs hub (jobs.Field b) (jobs.Method a) r ended ready k plays = absurd k
runs hub (jobs.Field b) (jobs.Shell a) r ended ready k plays = absurd k
runs hub (jobs.Method b) (jobs.Field a) r ended ready k plays = absurd k
runs hub (jobs.Method b) (jobs.Shell a) r ended ready k plays = absurd k
runs hub (jobs.Shell b) (jobs.Field a) r ended ready k plays = absurd k
runs hub (jobs.Shell b) (jobs.Method a) r ended ready k plays = absurd k

pub is_run : (hub : HubId) (before : Running) (job : TrialJob) (r : Result Bool JobEnd) → IsIdle hub before →
    Runs hub.limits before.job job (done_of r) → IfOk r (HasPlayed hub.limits before.job job) →
    IsRun hub before (record { job = job; ended = r })
is_run hub before job r idle k plays = runs hub before.job job r before.ended idle.ready k plays
