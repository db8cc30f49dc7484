-- The jobs of a script's users: the method's, those of the fields in order, and the shell's
use Rattle.std.proofs.Common.{◌≡◌, ℕ, zero, suc, ◌+◌, List, [], ◌∷◌, ◌++◌, length, map, Some, None, refl, sym, ap, ◌∙◌, arith}
use Rattle.std.specs.List.{AllByRecursion, slice_get}
use Rattle.broker_steps.specs.declared.step.ShellStep.{ShellStep}
use Rattle.trial_client_logs.specs.declared.entry.FieldEntry.{FieldEntry}
use Rattle.trial_client_logs.specs.declared.method_log.MethodEntry.{MethodEntry}
use Rattle.trial_script.specs.declared.action.Action.{Action}
use Rattle.trial_script.specs.declared.action.Edits.{Edits}
use Rattle.trial_script.specs.declared.action.FieldEdit.{FieldEdit}
use Rattle.trial_typing.specs.declared.field_job.FieldJob.{FieldJob}
use Rattle.trial_typing.specs.declared.shell_job.ShellJob.{ShellJob}
use Rattle.trial_jobs.specs.declared.method_job.MethodJob.{MethodJob}
use Rattle.trial_jobs.specs.declared.job.TrialJob.{TrialJob}
use Rattle.trial_jobs.specs.declared.job.TrialJob.TheVariants as jobs
use Rattle.trial_threads.specs.declared.running.Running.{Running}
use Rattle.trial_threads.specs.Users.{Part, of_field, of_method, of_shell, edits_in, batches_in, orders_in, fields_from, parts_of}
use Rattle.trial_threads.specs.Jobs.{part_of, parts_in, field_log_of, method_log_of, field_logs, method_log_in}

-- ---- one job

pub method_by : (job : TrialJob) (batches : List Edits) → part_of job ≡ of_method batches →
    (m : MethodJob) × (job ≡ jobs.Method m) × (m.batches ≡ batches)
method_by (jobs.Method m) batches e = (m, refl, (let same : m.batches ≡ batches = cc in same))
method_by (jobs.Field f) batches e = cc
method_by (jobs.Shell s) batches e = cc

pub field_by : (job : TrialJob) (edits : List FieldEdit) → part_of job ≡ of_field edits →
    (f : FieldJob) × (job ≡ jobs.Field f) × (f.edits ≡ edits)
field_by (jobs.Field f) edits e = (f, refl, (let same : f.edits ≡ edits = cc in same))
field_by (jobs.Method m) edits e = cc
field_by (jobs.Shell s) edits e = cc

pub shell_by : (job : TrialJob) (steps : List ShellStep) → part_of job ≡ of_shell steps →
    (s : ShellJob) × (job ≡ jobs.Shell s) × (s.steps ≡ steps)
shell_by (jobs.Shell s) steps e = (s, refl, (let same : s.steps ≡ steps = cc in same))
shell_by (jobs.Field f) steps e = cc
shell_by (jobs.Method m) steps e = cc

-- ---- the fields' jobs, and the shell's behind them

-- these jobs are those of the fields
abbrev pub AreFields : List Running → List FieldJob → Type 0
AreFields [] [] = Unit {0}
AreFields (r ∷ rs) (f ∷ fs) = (r.job ≡ jobs.Field f) × AreFields rs fs
AreFields _ _ = ⊥

-- what the users of fields do, of so many from the one with the number n on
abbrev pub edits_from : ℕ → ℕ → List Action → List (List FieldEdit)
edits_from n zero all = []
edits_from n (suc more) all = edits_in n all ∷ edits_from (n + 1) more all

pub record HasFields (rs : List Running) (n number : ℕ) (all : List Action)
    (orders : List ShellStep) : Type 0 where
  pub front : List Running
  pub last : Running
  pub is : rs ≡ front ++ last ∷ []
  pub fields : List FieldJob
  pub are : AreFields front fields
  pub shell : ShellJob
  pub last_is : last.job ≡ jobs.Shell shell
  pub steps : shell.steps ≡ orders
  pub edits : map (λ (f : FieldJob). f.edits) fields ≡ edits_from n number all

pub first_is : (p q : Part) (ps qs : List Part) → p ∷ ps ≡ q ∷ qs → p ≡ q
first_is p q ps qs e = cc

pub later_are : (p q : Part) (ps qs : List Part) → p ∷ ps ≡ q ∷ qs → ps ≡ qs
later_are p q ps qs e = cc

has_fields : (rs : List Running) (n number : ℕ) (all : List Action) (orders : List ShellStep) →
    parts_in rs ≡ fields_from n number all ++ of_shell orders ∷ [] → HasFields rs n number all orders
has_fields [] n zero all orders e = cc
has_fields (r ∷ []) n zero all orders e =
    let s = shell_by r.job orders (first_is (part_of r.job) (of_shell orders) [] [] e) in
    record {
      front = [];
      last = r;
      is = refl;
      fields = [];
      are = tt;
      shell = s.0;
      last_is = s.1;
      steps = s.2;
      edits = refl;
    }
has_fields (r ∷ x ∷ rs) n zero all orders e =
    absurd (let none : part_of x.job ∷ parts_in rs ≡ [] =
    later_are (part_of r.job) (of_shell orders) (part_of x.job ∷ parts_in rs) [] e in cc)
has_fields [] n (suc number) all orders e = cc
has_fields (r ∷ rs) n (suc number) all orders e =
    let more : List Part = fields_from (n + 1) number all ++ of_shell orders ∷ [] in
    let f = field_by r.job (edits_in n all)
    (first_is (part_of r.job) (of_field (edits_in n all)) (parts_in rs) more e) in
    let k = has_fields rs (n + 1) number all orders
    (later_are (part_of r.job) (of_field (edits_in n all)) (parts_in rs) more e) in
    record {
      front = r ∷ k.front;
      last = k.last;
      is = ap (λ (l : List Running). r ∷ l) k.is;
      fields = f.0 ∷ k.fields;
      are = (f.1, k.are);
      shell = k.shell;
      last_is = k.last_is;
      steps = k.steps;
      edits = ap (λ (l : List FieldEdit). l ∷ map (λ (x : FieldJob). x.edits) k.fields) f.2
          ∙ ap (λ (l : List (List FieldEdit)). edits_in n all ∷ l) k.edits;
    }

-- ---- all jobs

pub record HasShape (rs : List Running) (number time : ℕ) (all : List Action) : Type 0 where
  pub first : Running
  pub more : List Running
  pub is : rs ≡ first ∷ more
  pub method : MethodJob
  pub first_is : first.job ≡ jobs.Method method
  pub batches : method.batches ≡ batches_in all
  pub rest : HasFields more 1 number all (orders_in time all)

pub has_shape : (rs : List Running) (number time : ℕ) (all : List Action) →
    parts_in rs ≡ parts_of number time all → HasShape rs number time all
has_shape [] number time all e = cc
has_shape (r ∷ rs) number time all e =
    let later : List Part = fields_from 1 number all ++ of_shell (orders_in time all) ∷ [] in
    let m = method_by r.job (batches_in all)
    (first_is (part_of r.job) (of_method (batches_in all)) (parts_in rs) later e) in
    record {
      first = r;
      more = rs;
      is = refl;
      method = m.0;
      first_is = m.1;
      batches = m.2;
      rest = has_fields rs 1 number all (orders_in time all)
          (later_are (part_of r.job) (of_method (batches_in all)) (parts_in rs) later e);
    }

-- ---- what holds of each job

pub all_front : (P : Running → Type 0) (xs ys : List Running) → AllByRecursion P (xs ++ ys) → AllByRecursion P xs
all_front P [] ys h = tt
all_front P (x ∷ xs) ys h = (h.0, all_front P xs ys h.1)

pub all_back : (P : Running → Type 0) (xs ys : List Running) → AllByRecursion P (xs ++ ys) → AllByRecursion P ys
all_back P [] ys h = h
all_back P (x ∷ xs) ys h = all_back P xs ys h.1

-- the running job of the field with the index k, with what holds of it
pub record HasRunning (P : Running → Type 0) (f : FieldJob) : Type 0 where
  pub r : Running
  pub job : r.job ≡ jobs.Field f
  pub holds : P r

pub running_of : (P : Running → Type 0) (rs : List Running) (fs : List FieldJob) → AreFields rs fs →
    AllByRecursion P rs → (k : ℕ) (f : FieldJob) → slice_get fs k ≡ Some f → HasRunning P f
running_of P [] [] are h k f e = (let no : None ≡ Some f = e in cc)
running_of P (r ∷ rs) (x ∷ fs) are h zero f e =
    record { r = r; job = are.0 ∙ ap (λ (y : FieldJob). jobs.Field y) (let same : x ≡ f = cc in same); holds = h.0 }
running_of P (r ∷ rs) (x ∷ fs) are h (suc k) f e = running_of P rs fs are.1 h.1 k f e
running_of P [] (x ∷ fs) are h k f e = absurd are
running_of P (r ∷ rs) [] are h k f e = absurd are

-- ---- logs

logs_of_fields : (rs : List Running) (fs : List FieldJob) (last : Running) (shell : ShellJob) → AreFields rs fs →
    last.job ≡ jobs.Shell shell → field_logs (rs ++ last ∷ []) ≡ map (λ (f : FieldJob). f.log) fs
logs_of_fields [] [] last shell are e = ap (λ (j : TrialJob). field_log_of j ++ []) e
logs_of_fields (r ∷ rs) (f ∷ fs) last shell are e =
    ap (λ (j : TrialJob). field_log_of j ++ field_logs (rs ++ last ∷ [])) are.0
    ∙ ap (λ (l : List (List FieldEntry)). f.log ∷ l) (logs_of_fields rs fs last shell are.1 e)
logs_of_fields [] (f ∷ fs) last shell are e = absurd are
logs_of_fields (r ∷ rs) [] last shell are e = absurd are

pub logs_are : (rs : List Running) (number time : ℕ) (all : List Action) (s : HasShape rs number time all) →
    field_logs rs ≡ map (λ (f : FieldJob). f.log) s.rest.fields
logs_are rs number time all s =
    ap field_logs (s.is ∙ ap (λ (l : List Running). s.first ∷ l) s.rest.is)
    ∙ ap (λ (j : TrialJob). field_log_of j ++ field_logs (s.rest.front ++ s.rest.last ∷ [])) s.first_is
    ∙ logs_of_fields s.rest.front s.rest.fields s.rest.last s.rest.shell s.rest.are s.rest.last_is

method_stays : (rs : List Running) (fs : List FieldJob) (last : Running) (shell : ShellJob) (log : List MethodEntry) →
    AreFields rs fs → last.job ≡ jobs.Shell shell → method_log_in (rs ++ last ∷ []) log ≡ log
method_stays [] [] last shell log are e = ap (λ (j : TrialJob). method_log_of j log) e
method_stays (r ∷ rs) (f ∷ fs) last shell log are e =
    ap (λ (j : TrialJob). method_log_in (rs ++ last ∷ []) (method_log_of j log)) are.0
    ∙ method_stays rs fs last shell log are.1 e
method_stays [] (f ∷ fs) last shell log are e = absurd are
method_stays (r ∷ rs) [] last shell log are e = absurd are

pub method_log_is : (rs : List Running) (number time : ℕ) (all : List Action) (s : HasShape rs number time all) →
    method_log_in rs [] ≡ s.method.log
method_log_is rs number time all s =
    ap (λ (l : List Running). method_log_in l []) (s.is ∙ ap (λ (l : List Running). s.first ∷ l) s.rest.is)
    ∙ ap (λ (j : TrialJob). method_log_in (s.rest.front ++ s.rest.last ∷ []) (method_log_of j [])) s.first_is
    ∙ method_stays s.rest.front s.rest.fields s.rest.last s.rest.shell s.method.log s.rest.are s.rest.last_is

-- the log of the field with the index k is that of its job
pub record OfField (fs : List FieldJob) (k : ℕ) (entries : List FieldEntry) : Type 0 where
  pub job : FieldJob
  pub is : slice_get fs k ≡ Some job
  pub log : job.log ≡ entries

pub field_of_log : (fs : List FieldJob) (k : ℕ) (entries : List FieldEntry) →
    slice_get (map (λ (f : FieldJob). f.log) fs) k ≡ Some entries → OfField fs k entries
field_of_log [] k entries e = (let no : None ≡ Some entries = e in cc)
field_of_log (f ∷ fs) zero entries e = record { job = f; is = refl; log = (let same : f.log ≡ entries = cc in same) }
field_of_log (f ∷ fs) (suc k) entries e =
    let o = field_of_log fs k entries e in record { job = o.job; is = o.is; log = o.log }

-- and its edits are the script's
pub edits_are : (fs : List FieldJob) (n number : ℕ) (all : List Action) →
    map (λ (f : FieldJob). f.edits) fs ≡ edits_from n number all → (k : ℕ) (f : FieldJob) →
    slice_get fs k ≡ Some f → f.edits ≡ edits_in (n + k) all
edits_are [] n number all e k f is = (let no : None ≡ Some f = is in cc)
edits_are (x ∷ fs) n zero all e k f is = cc
edits_are (x ∷ fs) n (suc number) all e zero f is =
    let same : x ≡ f = cc in
    let head : x.edits ≡ edits_in n all = cc in
    ap (λ (y : FieldJob). y.edits) (sym same) ∙ head ∙ ap (λ m. edits_in m all) (omega arith)
edits_are (x ∷ fs) n (suc number) all e (suc k) f is =
    let later : map (λ (y : FieldJob). y.edits) fs ≡ edits_from (n + 1) number all = cc in
    edits_are fs (n + 1) number all later k f is ∙ ap (λ m. edits_in m all) (omega arith)

pub number_is : (fs : List FieldJob) (n number : ℕ) (all : List Action) →
    map (λ (f : FieldJob). f.edits) fs ≡ edits_from n number all → length fs ≡ number
number_is [] n zero all e = refl
number_is [] n (suc number) all e = cc
number_is (f ∷ fs) n zero all e = cc
number_is (f ∷ fs) n (suc number) all e =
    let later : map (λ (y : FieldJob). y.edits) fs ≡ edits_from (n + 1) number all = cc in
    ap suc (number_is fs (n + 1) number all later)
