-- What the method's job keeps from part to part
use Rattle.std.proofs.Common.{◌≡◌, List, refl, sym, subst, ◌∙◌}
use Rattle.broker_steps.specs.declared.limits.Limits.{Limits}
use Rattle.client_side.specs.Client.{Client}
use Rattle.client_side.specs.MethodState.{State}
use Rattle.trial_client_logs.specs.declared.method_log.MethodEntry.{MethodEntry}
use Rattle.hub_lock.specs.Passes.{HubId, PeerPass, IsOf}
use Rattle.hub_lock.specs.Calls.{pass_having_seen}
use Rattle.hub_calls.specs.Made.{SawMore}
use Rattle.hub_calls.proofs.PassesGrow.{same_peer}
use Rattle.trial_run.specs.declared.typist.TrialTypist.{TrialTypist}
use Rattle.trial_typing.specs.Sending.{MadeTakes}
use Rattle.trial_typing.proofs.FieldKept.{saw_nothing, saw_all, saw_writer}
use Rattle.trial_jobs.specs.declared.method_job.MethodJob.{MethodJob}
use Rattle.trial_jobs.specs.MethodGoing.{IsMethodOf, MethodKeeps}

pub keeps_none : (limits : Limits) (job : MethodJob) → MethodKeeps limits job job
keeps_none limits job = record { saw = saw_nothing limits job.reader job.writer; same = refl }

pub keeps_both : (limits : Limits) (a b c : MethodJob) → MethodKeeps limits a b → MethodKeeps limits b c →
    MethodKeeps limits a c
keeps_both limits a b c one two = record {
  saw = saw_all limits a.reader a.writer b.reader b.writer c.reader c.writer one.saw two.saw;
  same = two.same ∙ one.same;
}

pub of_kept : (hub : HubId) (a b : MethodJob) → IsMethodOf hub a → MethodKeeps hub.limits a b → IsMethodOf hub b
of_kept hub a b of k = record {
  reads = subst (λ (p : PeerPass). IsOf hub p.seat) (sym k.saw.same_reader) of.reads;
  writes = subst (λ (p : PeerPass). IsOf hub p.seat) (sym k.saw.same_writer) of.writes;
  one_peer = same_peer a.writer b.writer k.saw.same_writer ∙ of.one_peer ∙ sym
      (same_peer a.reader b.reader k.saw.same_reader);
}

-- a job whose client heard, or whose writer saw more
pub heard_kept : (limits : Limits) (job : MethodJob) (client : Client (State TrialTypist)) (log : List MethodEntry) →
    MethodKeeps limits job (record job { client = client; log = log })
heard_kept limits job client log = record { saw = saw_nothing limits job.reader job.writer; same = refl }

pub took_kept : (limits : Limits) (job : MethodJob) (writer' : PeerPass) →
    writer' ≡ pass_having_seen job.writer writer'.seat.seen → SawMore limits job.writer.seat.seen writer'.seat.seen →
    MadeTakes job.writer writer' → MethodKeeps limits job (record job { writer = writer' })
took_kept limits job writer' is saw takes =
    record { saw = saw_writer limits job.reader job.writer writer' is saw takes; same = refl }

pub committed_kept : (limits : Limits) (job now : MethodJob) →
    now ≡ record job { client = now.client; log = now.log } → MethodKeeps limits job now
committed_kept limits job now is =
    subst (λ (j : MethodJob). MethodKeeps limits job j) (sym is) (heard_kept limits job now.client now.log)
