-- What a whole trial gives is what its script and the one journal say
use Rattle.std.proofs.Common.{◌≡◌, ℕ, ◌%◌, ◌^◌, ◌≤◌, Bool, List, [], ◌∷◌, ◌++◌, map, take, Some, Result, Ok, refl, sym, ap, subst, ◌∙◌, inl, inr, arith}
use Rattle.std.specs.Prelude.{◌⊎◌, max}
use Rattle.std.specs.List.{AllByRecursion, slice_get}
use Rattle.broker_steps.specs.declared.limits.Limits.{Limits}
use Rattle.broker_model.specs.declared.journal.Entry.{Entry}
use Rattle.trial_client_logs.specs.declared.method_log.MethodEntry.{MethodEntry}
use Rattle.trial_client_logs.specs.Logs.{edit_of, batch_of, field_log}
use Rattle.trial_client_logs.specs.MethodLogs.{method_log}
use Rattle.trial_script.specs.declared.action.Action.{Action}
use Rattle.trial_script.specs.declared.action.Edits.{Edits}
use Rattle.trial_script.specs.declared.script.Script.{Script}
use Rattle.trial_script.specs.Scripts.{script_of}
use Rattle.hub_lock.specs.Histories.{History}
use Rattle.hub_lock.specs.Passes.{HubId, PassSeat, IsOf}
use Rattle.hub_lock.proofs.TurnsCounted.{entries-seen}
use Rattle.hub_calls.specs.Made.{entries_by, journal_of}
use Rattle.hub_calls.specs.Taken.{HasAll}
use Rattle.trial_run.specs.declared.typist.TrialTypist.{TrialTypist}
use Rattle.trial_run.specs.Trial.{trial_limits, typist_of}
use Rattle.trial_laws.specs.MethodLaws.{IsWritten}
use Rattle.trial_laws.specs.TypedLogs.{batches_of}
use Rattle.trial_laws.proofs.ScriptsWritten.{scripts_are_written}
use Rattle.trial_typing.specs.declared.field_job.FieldJob.{FieldJob}
use Rattle.trial_typing.specs.declared.job_end.JobEnd.{JobEnd}
use Rattle.trial_typing.specs.declared.shell_job.ShellJob.{ShellJob}
use Rattle.trial_typing.specs.Ends.{done_of}
use Rattle.trial_typing.specs.Fronts.{IsFrontOf}
use Rattle.trial_typing.specs.Happened as log
use Rattle.trial_typing.specs.FieldGoing.{IsFieldOf}
use Rattle.trial_typing.specs.Sending.{IsOver, IsPast}
use Rattle.trial_typing.specs.ShellLaw.{ordered, Orders}
use Rattle.trial_jobs.specs.declared.job.TrialJob.{TrialJob}
use Rattle.trial_jobs.specs.declared.job.TrialJob.TheVariants as jobs
use Rattle.trial_jobs.specs.declared.method_job.MethodJob.{MethodJob}
use Rattle.trial_jobs.specs.MethodGoing.{IsMethodOf}
use Rattle.trial_jobs.specs.MethodLaw.{rounds, HasCommitted}
use Rattle.trial_job_laws.specs.Passes.{ArePassesOf, HasEndIn}
use Rattle.trial_job_laws.specs.OneTrial.{HasRested, HasMethodRested, IsToldWhole}
use Rattle.trial_job_laws.specs.OneTrial as one
use Rattle.trial_job_laws.specs.MethodTold.{IsMethodToldAndSent, HasKeys}
use Rattle.trial_job_laws.proofs.PassesSeen.{over_in}
use Rattle.trial_job_laws.proofs.TrialTold.{trials_are_told}
use Rattle.trial_threads.specs.declared.running.Running.{Running}
use Rattle.trial_threads.specs.declared.trial.ThreadTrial.{ThreadTrial}
use Rattle.trial_threads.specs.Users.{batches_in}
use Rattle.trial_threads.specs.Jobs.{IsJobOf, HasEnd, HasRun}
use Rattle.trial_threads.specs.Drained.{entries_seen, seen_by_shell, seen_by_method, most_of, least_for_method, least_for_fields, IsFieldDrained, IsMethodDrained, HasRest}
use Rattle.trial_threads.specs.Whole.{IsDone, IsWhole, users_of}
use Rattle.law_threads.proofs.JobsShaped.{HasShape, has_shape, all_front, all_back, running_of}
use Rattle.law_threads.proofs.JobsAre.{IsAmong, jobs_are}
use Rattle.law_threads.specs.Told.{IsToldField, WholesAreTold}
use Rattle.law_threads.proofs.LogsAre.{OfUser, number_of, user_of, method_log_of}

-- ---- how much was seen

most_least : (f : TrialJob → ℕ) (m : ℕ) (rs : List Running) → m ≤ most_of f m rs
most_least f m [] = omega arith
most_least f m (r ∷ rs) = (let l = most_least f (max m (f r.job)) rs in omega arith)

most_among : (f : TrialJob → ℕ) (m : ℕ) (rs : List Running) (r : Running) → IsAmong rs r → f r.job ≤ most_of f m rs
most_among f m [] r i = absurd i
most_among f m (x ∷ rs) r (inl e) =
    (let l = most_least f (max m (f x.job)) rs in
    let same = ap (λ (y : Running). f y.job) e in omega arith)
most_among f m (x ∷ rs) r (inr i) = most_among f (max m (f x.job)) rs r i

last_among : (xs : List Running) (r : Running) → IsAmong (xs ++ r ∷ []) r
last_among [] r = inl refl
last_among (x ∷ xs) r = inr (last_among xs r)

after_is : (hub : HubId) (pass : PassSeat) → IsOf hub pass →
    one.entries_after hub.limits pass.seen ≡ entries_seen pass
after_is hub pass of = entries-seen hub.limits pass of.1

shell_least : (rs : List Running) (number time : ℕ) (all : List Action) (s : HasShape rs number time all) →
    entries_seen s.rest.shell.pass ≤ least_for_method rs
shell_least rs number time all s =
    subst (λ (l : List Running). entries_seen s.rest.shell.pass ≤ least_for_method l)
    (sym (s.is ∙ ap (λ (l : List Running). s.first ∷ l) s.rest.is))
    (subst (λ (j : TrialJob). seen_by_shell j ≤ least_for_method (s.first ∷ (s.rest.front ++ s.rest.last ∷ [])))
    s.rest.last_is
    (most_among seen_by_shell 0 (s.first ∷ (s.rest.front ++ s.rest.last ∷ [])) s.rest.last
    (inr (last_among s.rest.front s.rest.last))))

method_least : (rs : List Running) (number time : ℕ) (all : List Action) (s : HasShape rs number time all) →
    entries_seen s.method.reader.seat ≤ least_for_fields rs
method_least rs number time all s =
    subst (λ (l : List Running). entries_seen s.method.reader.seat ≤ least_for_fields l) (sym s.is)
    (subst (λ (j : TrialJob). seen_by_method j ≤ least_for_fields (s.first ∷ s.more)) s.first_is
    (most_among seen_by_method (least_for_method (s.first ∷ s.more)) (s.first ∷ s.more) s.first (inl refl)))

-- ---- one job of it

-- what holds of a job's running
record Holds (hub : HubId) (typist : TrialTypist) (m f : ℕ) (r : Running) : Type 0 where
  run : HasRun hub typist r
  done : IsDone r
  rest : HasRest hub.limits typist m f r.job

all_hold : (hub : HubId) (typist : TrialTypist) (m f : ℕ) (rs : List Running) →
    AllByRecursion (HasRun hub typist) rs → AllByRecursion IsDone rs →
    AllByRecursion (λ (r : Running). HasRest hub.limits typist m f r.job) rs →
    AllByRecursion (Holds hub typist m f) rs
all_hold hub typist m f [] a b c = tt
all_hold hub typist m f (r ∷ rs) a b c = (
  record { run = a.0; done = b.0; rest = c.0 },
  all_hold hub typist m f rs a.1 b.1 c.1,
)

-- a job that was done has its law
done_is : (r : Result Bool JobEnd) (goes_on : Bool) → r ≡ Ok goes_on → done_of r ≡ Ok tt
done_is r goes_on e = ap done_of e

module _ (hub : HubId) (typist : TrialTypist) (m f : ℕ) where
  method_rests : (rs : List Running) (number time : ℕ) (all : List Action) (s : HasShape rs number time all) →
      least_for_method rs ≡ m → (r : Running) → Holds hub typist m f r → r.job ≡ jobs.Method s.method →
      IsOf hub s.rest.shell.pass → HasMethodRested hub.limits typist s.method s.rest.shell
  method_rests rs number time all s least r k is of =
      let d : IsMethodDrained hub.limits typist s.method m =
      subst (HasRest hub.limits typist m f) is k.rest in
      let own : IsMethodOf hub s.method = subst (IsJobOf hub) is k.run.of in
      record { done = d.done; rest = by d own d.rest }
    where
      by : (d : IsMethodDrained hub.limits typist s.method m) → IsMethodOf hub s.method →
          (HasAll hub.limits s.method.writer d.done.taken × (m ≤ entries_seen s.method.writer.seat))
          ⊎ IsOver hub.limits s.method.reader s.method.writer →
          (HasAll hub.limits s.method.writer d.done.taken
          × (one.entries_after hub.limits s.rest.shell.pass.seen
          ≤ one.entries_after hub.limits s.method.writer.seat.seen))
          ⊎ IsOver hub.limits s.method.reader s.method.writer
      by d own (inr over) = inr over
      by d own (inl a) =
          let few = shell_least rs number time all s in
          let x = after_is hub s.rest.shell.pass of in
          let y = after_is hub s.method.writer.seat own.writes in
          let z = a.1 in
          inl (a.0, omega arith)

  field_rests : (rs : List Running) (number time : ℕ) (all : List Action) (s : HasShape rs number time all) →
      least_for_fields rs ≡ f → (r : Running) (job : FieldJob) → Holds hub typist m f r → r.job ≡ jobs.Field job →
      IsOf hub s.rest.shell.pass → IsMethodOf hub s.method → HasRested hub.limits s.method s.rest.shell job
  field_rests rs number time all s least r job k is of method =
      let d : IsFieldDrained hub.limits job f = subst (HasRest hub.limits typist m f) is k.rest in
      let own : IsFieldOf hub job = subst (IsJobOf hub) is k.run.of in
      record { done = d.done; rest = by d own d.rest }
    where
      by : (d : IsFieldDrained hub.limits job f) → IsFieldOf hub job →
          (HasAll hub.limits job.writer d.done.taken × IsPast job.reader job.writer f)
          ⊎ IsOver hub.limits job.reader job.writer →
          (HasAll hub.limits job.writer d.done.taken
          × (one.entries_after hub.limits s.rest.shell.pass.seen
          ≤ one.entries_after hub.limits job.writer.seat.seen)
          × (one.entries_after hub.limits s.method.reader.seat.seen
          ≤ one.entries_after hub.limits job.writer.seat.seen)
          × (one.entries_after hub.limits job.reader.seat.seen
          ≤ one.entries_after hub.limits job.writer.seat.seen))
          ⊎ IsOver hub.limits job.reader job.writer
      by d own (inr over) = inr over
      by d own (inl a) =
          let shells = shell_least rs number time all s in
          let less = most_least seen_by_method (least_for_method rs) rs in
          let methods = method_least rs number time all s in
          let x = after_is hub s.rest.shell.pass of in
          let y = after_is hub job.writer.seat own.writes in
          let u = after_is hub s.method.reader.seat method.reads in
          let v = after_is hub job.reader.seat own.reads in
          let p = a.1.0 in
          let q = a.1.1 in
          inl (a.0, omega arith, omega arith, omega arith)

-- ---- the whole

-- all that is read of the jobs, by their shape
record Read (hub : HubId) (s : Script) (h : History) (method : MethodJob) (fields : List FieldJob)
    (shell : ShellJob) : Type 0 where
  whole : IsToldWhole hub.limits (journal_of hub.limits h) (typist_of s) method fields shell
  passes : ArePassesOf h 1 method.reader method.writer
  own : HasCommitted hub.limits method
  edits : (k : ℕ) (job : FieldJob) → slice_get fields k ≡ Some job →
      log.edits_in (field_log job.log) ≡ map edit_of job.edits

read_of : (s : Script) (t : ThreadTrial) (written : IsWritten s) (w : IsWhole (typist_of s) (users_of s) t) →
    (p : HasShape w.trial.jobs s.fields (s.first_line % 2 ^ 32) s.actions) →
    Read w.trial.hub s w.trial.h p.method p.rest.fields p.rest.shell
read_of s t written w p =
    let hub : HubId = w.trial.hub in
    let h : History = w.trial.h in
    let rs : List Running = w.trial.jobs in
    let typist : TrialTypist = typist_of s in
    let time : ℕ = s.first_line % 2 ^ 32 in
    let m : ℕ = least_for_method rs in
    let f : ℕ = least_for_fields rs in
    let cut : one.IsCutTrial hub.limits h typist p.method p.rest.fields p.rest.shell = jobs_are s t written w.trial p in
    let shape : rs ≡ p.first ∷ (p.rest.front ++ p.rest.last ∷ []) =
    p.is ∙ ap (λ (l : List Running). p.first ∷ l) p.rest.is in
    let all : AllByRecursion (Holds hub typist m f) (p.first ∷ (p.rest.front ++ p.rest.last ∷ [])) =
    subst (AllByRecursion (Holds hub typist m f)) shape
    (all_hold hub typist m f rs w.trial.run w.done w.rested) in
    let fronts : AllByRecursion (Holds hub typist m f) p.rest.front =
    all_front (Holds hub typist m f) p.rest.front (p.rest.last ∷ []) all.1 in
    let last : Holds hub typist m f p.rest.last =
    (all_back (Holds hub typist m f) p.rest.front (p.rest.last ∷ []) all.1).0 in
    let of_shell : IsOf hub p.rest.shell.pass = subst (IsJobOf hub) p.rest.last_is last.run.of in
    let of_method : IsMethodOf hub p.method = subst (IsJobOf hub) p.first_is all.0.run.of in
    let rested : HasMethodRested hub.limits typist p.method p.rest.shell =
    method_rests hub typist m f rs s.fields time s.actions p refl p.first all.0 p.first_is of_shell in
    let ordered-are : entries_by p.rest.shell.pass ≡ ordered p.rest.shell.steps =
    subst (λ (r : Result (Unit {0}) JobEnd). Orders hub.limits p.rest.shell.pass p.rest.shell.steps r)
    (done_is p.rest.last.ended last.done.0 last.done.1)
    (subst (λ (j : TrialJob). HasEnd hub.limits typist j p.rest.last.ended) p.rest.last_is last.run.ends) in
    let field_hold = running_of (Holds hub typist m f) p.rest.front p.rest.fields p.rest.are fronts in
    let trial : one.IsTrial hub.limits h typist p.method p.rest.fields p.rest.shell =
    record {
      jobs = cut.jobs;
      ordered-are = ordered-are;
      method_rested = rested;
      rested = λ k job is.
          (let r = field_hold k job is in
          field_rests hub typist m f rs s.fields time s.actions p refl r.r job r.holds r.job of_shell of_method);
    } in
    record {
      whole = trials_are_told hub.limits h typist p.method p.rest.fields p.rest.shell trial;
      passes = cut.jobs.method_peer.passes;
      own = rested.done.own;
      edits = λ k job is. (trial.rested k job is).done.own;
    }

-- the batches of the method's log
abbrev IsOwn : Script → List Entry → List MethodEntry → Type 0
IsOwn s journal entries =
    (batches_of (method_log entries) ≡ map batch_of (take rounds (batches_in s.actions)))
    ⊎ (IsFrontOf (batches_of (method_log entries)) (map batch_of (take rounds (batches_in s.actions)))
    × HasEndIn journal 1)

own_by : (limits : Limits) (h : History) (s : Script) (job : MethodJob) → job.batches ≡ batches_in s.actions →
    ArePassesOf h 1 job.reader job.writer → HasCommitted limits job → IsOwn s (journal_of limits h) job.log
own_by limits h s job is p (inl e) =
    inl (e ∙ ap (λ (l : List Edits). map batch_of (take rounds l)) is)
own_by limits h s job is p (inr k) =
    inr (
      subst (λ (l : List Edits). IsFrontOf (batches_of (method_log job.log)) (map batch_of (take rounds l))) is k.0,
      over_in limits h 1 job.reader job.writer p k.1,
    )

pub wholes_are_told : WholesAreTold
wholes_are_told bytes t w =
    let s : Script = script_of bytes in
    let hub : HubId = w.trial.hub in
    let h : History = w.trial.h in
    let p : HasShape w.trial.jobs s.fields (s.first_line % 2 ^ 32) s.actions =
    has_shape w.trial.jobs s.fields (s.first_line % 2 ^ 32) s.actions w.trial.users in
    let k = read_of s t (scripts_are_written bytes) w p in
    let journal : t.session.journal.entries ≡ journal_of hub.limits h = w.trial.session.journal in
    let whole : IsToldWhole trial_limits t.session.journal.entries (typist_of s) p.method p.rest.fields p.rest.shell =
    subst (λ (l : Limits). IsToldWhole l t.session.journal.entries (typist_of s) p.method p.rest.fields p.rest.shell)
    w.trial.limits
    (subst (λ (j : List Entry). IsToldWhole hub.limits j (typist_of s) p.method p.rest.fields p.rest.shell)
    (sym journal) k.whole) in
    let method : p.method.log ≡ t.method_log = method_log_of s t w.trial p in
    record {
      number = number_of s t w.trial p;
      fields_told = λ n entries is.
          (let o : OfUser s p.rest.fields n entries = user_of s t w.trial p n entries is in
          let told = whole.fields_told n o.job o.is in
          subst (IsToldField s t.session.journal.entries n) o.log
          (record {
            own = k.edits n o.job o.is ∙ ap (map edit_of) o.edits;
            told = told.told;
            all = told.all;
          }));
      batches = subst (λ (l : List MethodEntry). IsOwn s t.session.journal.entries l) method
          (subst (λ (j : List Entry). IsOwn s j p.method.log) (sym journal)
          (own_by hub.limits h s p.method p.batches k.passes k.own));
      method_told = subst (λ (l : List MethodEntry). IsMethodToldAndSent trial_limits t.session.journal.entries
          (typist_of s) (method_log l)) method whole.method_told;
      keys = λ lives. record {
        seen = journal_of trial_limits p.method.writer.seat.seen;
        has = subst (λ (l : List MethodEntry). HasKeys trial_limits t.session.journal.entries
            (journal_of trial_limits p.method.writer.seat.seen) (method_log l)) method (whole.keys_told lives);
      };
      orders = whole.orders ∙ p.rest.steps;
    }
