-- Where the journal was full for a step, what a trial gives is a front of what its script and the journal say
use Rattle.std.proofs.Common.{◌≡◌, ◌%◌, ◌^◌, List, [], map, take, Result, Ok, Err, sym, subst, ◌∙◌, append-nil}
use Rattle.broker_steps.specs.declared.limits.Limits.{Limits}
use Rattle.broker_steps.specs.declared.step.ShellStep.{ShellStep}
use Rattle.broker_model.specs.declared.journal.Entry.{Entry}
use Rattle.trial_client_logs.specs.declared.method_log.MethodEntry.{MethodEntry}
use Rattle.trial_client_logs.specs.Logs.{edit_of, batch_of, field_log}
use Rattle.trial_client_logs.specs.MethodLogs.{method_log}
use Rattle.trial_script.specs.declared.action.Edits.{Edits}
use Rattle.trial_script.specs.declared.action.FieldEdit.{FieldEdit}
use Rattle.trial_script.specs.declared.script.Script.{Script}
use Rattle.trial_script.specs.Scripts.{script_of}
use Rattle.hub_lock.specs.Passes.{HubId}
use Rattle.trial_laws.specs.RelayedBatches as relayed
use Rattle.trial_run.specs.Trial.{trial_limits, typist_of}
use Rattle.trial_laws.specs.TypedLogs.{batches_of}
use Rattle.trial_laws.proofs.ScriptsWritten.{scripts_are_written}
use Rattle.trial_typing.specs.declared.field_job.FieldJob.{FieldJob}
use Rattle.trial_typing.specs.declared.job_end.JobEnd.{JobEnd}
use Rattle.trial_typing.specs.declared.job_end.JobEnd.TheVariants as ends
use Rattle.trial_typing.specs.FieldLaw.{FieldEnds}
use Rattle.trial_typing.specs.Fronts.{IsFrontOf}
use Rattle.trial_typing.specs.Happened as log
use Rattle.trial_jobs.specs.MethodLaw.{rounds}
use Rattle.trial_job_laws.specs.MethodTold.{IsMethodTold}
use Rattle.trial_job_laws.specs.OneTrial.{IsCutTrial, IsToldFront}
use Rattle.trial_job_laws.specs.ShellTold.{orders_of}
use Rattle.trial_job_laws.proofs.TrialTold.{cut_trials_are_told}
use Rattle.trial_threads.specs.Users.{batches_in, orders_in}
use Rattle.law_threads.proofs.JobsShaped.{HasShape, has_shape}
use Rattle.trial_threads.proofs.ScriptFits.{committed_front}
use Rattle.law_threads.proofs.JobsAre.{jobs_are}
use Rattle.law_threads.specs.Told.{IsCutField, CutsAreTold}
use Rattle.law_threads.proofs.LogsAre.{OfUser, number_of, user_of, method_log_of}

-- however a field's job ended, its log has the first of its user's edits
own_front : (limits : Limits) (job : FieldJob) (r : Result (Unit {0}) JobEnd) → FieldEnds limits job r →
    IsFrontOf (log.edits_in (field_log job.log)) (map edit_of job.edits)
own_front limits job (Ok done) d = record {
  rest = [];
  is = sym d.own ∙ sym (append-nil (log.edits_in (field_log job.log)));
}
own_front limits job (Err (ends.JournalFull kept)) d = d.0.own-is
own_front limits job (Err ends.BadEvent) d = absurd d
own_front limits job (Err ends.NoMemory) d = d.own-is

orders_front : (orders steps script : List ShellStep) → relayed.IsFrontOf orders steps → steps ≡ script →
    IsFrontOf orders script
orders_front orders steps script f e = record { rest = f.rest; is = sym (f.is ∙ e) }

pub cuts_are_told : CutsAreTold
cuts_are_told bytes kept t c =
    let s : Script = script_of bytes in
    let w = c.trial in
    let hub : HubId = w.hub in
    let p : HasShape w.jobs s.fields (s.first_line % 2 ^ 32) s.actions =
    has_shape w.jobs s.fields (s.first_line % 2 ^ 32) s.actions w.users in
    let cut : IsCutTrial hub.limits w.h (typist_of s) p.method p.rest.fields p.rest.shell =
    jobs_are s t (scripts_are_written bytes) w p in
    let told : IsToldFront trial_limits t.session.journal.entries (typist_of s) p.method p.rest.fields p.rest.shell =
    subst (λ (l : Limits). IsToldFront l t.session.journal.entries (typist_of s) p.method p.rest.fields p.rest.shell)
    w.limits
    (subst (λ (j : List Entry). IsToldFront hub.limits j (typist_of s) p.method p.rest.fields p.rest.shell)
    (sym w.session.journal)
    (cut_trials_are_told hub.limits w.h (typist_of s) p.method p.rest.fields p.rest.shell cut)) in
    let method : p.method.log ≡ t.method_log = method_log_of s t w p in
    record {
      number = number_of s t w p;
      fields_told = λ k entries is.
          (let o : OfUser s p.rest.fields k entries = user_of s t w p k entries is in
          let e = cut.field_ends k o.job o.is in
          subst (IsCutField s t.session.journal.entries k) o.log
          (record {
            own = subst (λ (l : List FieldEdit). IsFrontOf (log.edits_in (field_log o.job.log)) (map edit_of l)) o.edits
                (own_front hub.limits o.job e.0 e.1);
            told = told.fields_told k o.job o.is;
          }));
      batches = subst (λ (l : List MethodEntry). IsFrontOf (batches_of (method_log l))
          (map batch_of (take rounds (batches_in s.actions)))) method
          (subst (λ (l : List Edits). IsFrontOf (batches_of (method_log p.method.log)) (map batch_of (take rounds l)))
          p.batches (committed_front hub.limits (typist_of s) p.method cut.method_ends.0 cut.method_ends.1));
      method_told = subst (λ (l : List MethodEntry). IsMethodTold trial_limits t.session.journal.entries (typist_of s)
          (method_log l)) method told.method_told;
      orders = orders_front (orders_of t.session.journal.entries) p.rest.shell.steps
          (orders_in (s.first_line % 2 ^ 32) s.actions) told.orders p.rest.steps;
    }
