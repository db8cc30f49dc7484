-- The logs that a trial gives are those of its jobs
use Rattle.std.proofs.Common.{◌≡◌, ℕ, ◌+◌, ◌%◌, ◌^◌, List, length, map, Some, sym, ap, subst, ◌∙◌, arith}
use Rattle.std.specs.List.{slice_get}
use Rattle.std.proofs.lemmas.List.{length-map}
use Rattle.trial_client_logs.specs.declared.entry.FieldEntry.{FieldEntry}
use Rattle.trial_script.specs.declared.script.Script.{Script}
use Rattle.trial_run.specs.Trial.{typist_of}
use Rattle.trial_typing.specs.declared.field_job.FieldJob.{FieldJob}
use Rattle.trial_threads.specs.declared.trial.ThreadTrial.{ThreadTrial}
use Rattle.trial_threads.specs.Users.{edits_in}
use Rattle.trial_threads.specs.Whole.{IsTrial, users_of}
use Rattle.law_threads.proofs.JobsShaped.{HasShape, logs_are, method_log_is, OfField, field_of_log, edits_are, number_is}

-- the log of the field with the index k is that of its job, whose user makes the script's edits
pub record OfUser (s : Script) (fields : List FieldJob) (k : ℕ) (entries : List FieldEntry) : Type 0 where
  pub job : FieldJob
  pub is : slice_get fields k ≡ Some job
  pub log : job.log ≡ entries
  pub edits : job.edits ≡ edits_in (k + 1) s.actions

module _ (s : Script) (t : ThreadTrial) (w : IsTrial (typist_of s) (users_of s) t)
    (p : HasShape w.jobs s.fields (s.first_line % 2 ^ 32) s.actions) where
  logs_of : t.logs ≡ map (λ (f : FieldJob). f.log) p.rest.fields
  logs_of = w.logs ∙ logs_are w.jobs s.fields (s.first_line % 2 ^ 32) s.actions p

  pub number_of : length t.logs ≡ s.fields
  number_of =
      ap length logs_of ∙ length-map p.rest.fields (λ (f : FieldJob). f.log)
      ∙ number_is p.rest.fields 1 s.fields s.actions p.rest.edits

  pub user_of : (k : ℕ) (entries : List FieldEntry) → slice_get t.logs k ≡ Some entries →
      OfUser s p.rest.fields k entries
  user_of k entries is =
      let o : OfField p.rest.fields k entries =
      field_of_log p.rest.fields k entries
      (subst (λ (l : List (List FieldEntry)). slice_get l k ≡ Some entries) logs_of is) in
      record {
        job = o.job;
        is = o.is;
        log = o.log;
        edits = edits_are p.rest.fields 1 s.fields s.actions p.rest.edits k o.job o.is
            ∙ ap (λ i. edits_in i s.actions) (let i : 1 + k ≡ k + 1 = omega arith in i);
      }

  pub method_log_of : p.method.log ≡ t.method_log
  method_log_of = sym (w.method_log ∙ method_log_is w.jobs s.fields (s.first_line % 2 ^ 32) s.actions p)
