-- What a script that is read gives to its users: a fresh typist, batches that fit messages, orders of two kinds
use Rattle.std.proofs.Common.{◌≡◌, ℕ, zero, suc, ◌+◌, ◌%◌, ◌^◌, ◌≤◌, Bool, true, false, List, [], ◌∷◌, ◌++◌, length, map, take, Result, Ok, Err, refl, sym, subst, ◌∙◌, inl, inr, append-nil}
use Rattle.std.specs.Prelude.{if◌then◌else◌}
use Rattle.std.specs.List.{AllByRecursion}
use Rattle.broker_steps.specs.declared.limits.Limits.{Limits}
use Rattle.compose_method.specs.Typing as typing
use Rattle.dict_method.specs.Spelling as spelling
use Rattle.trial_field.specs.Log.{Batch}
use Rattle.trial_field.specs.declared.batch_view.TheConstants.{MAX_STRING, MAX_PREEDIT}
use Rattle.client_side.specs.MethodLog.{Happening, came, committed}
use Rattle.trial_client_logs.specs.Logs.{batch_of}
use Rattle.trial_client_logs.specs.MethodLogs.{method_log}
use Rattle.trial_script.specs.declared.action.Action.{Action}
use Rattle.trial_script.specs.declared.action.Action.TheVariants as actions
use Rattle.trial_script.specs.declared.action.Edits.{Edits}
use Rattle.trial_script.specs.declared.script.Script.{Script}
use Rattle.trial_script.specs.Grammar.{AreEdits, IsAction}
use Rattle.trial_script.specs.Rules.{has_words}
use Rattle.trial_run.specs.declared.typist.TrialTypist.{TrialTypist}
use Rattle.trial_run.specs.declared.typist.TrialTypist.TheVariants as typists
use Rattle.trial_run.specs.Trial.{typist_of}
use Rattle.trial_job_laws.specs.MethodLaws.{IsWritten}
use Rattle.trial_job_laws.specs.TypedLogs.{batches_of}
use Rattle.trial_typing.specs.declared.job_end.JobEnd.{JobEnd}
use Rattle.trial_typing.specs.declared.job_end.JobEnd.TheVariants as ends
use Rattle.trial_typing.specs.Fronts.{IsFrontOf}
use Rattle.trial_jobs.specs.declared.method_job.MethodJob.{MethodJob}
use Rattle.trial_jobs.specs.MethodHearing.{HasShort}
use Rattle.trial_jobs.specs.MethodLaw.{rounds, first_batches, IsFresh, HasCommitted, MethodEnds}
use Rattle.trial_job_laws.specs.ShellTold.{IsFocusOrKey}
use Rattle.trial_threads.specs.Users.{batches_for, batches_in, orders_in}

-- ---- its typist

fresh_by : (b : Bool) (s : Script) → IsWritten s →
    IsFresh (if b then typists.Dict (spelling.idle s.rules.table s.rules.dict)
    else typists.Compose (typing.idle s.rules.table))
fresh_by true s w = (w.table, w.dict, refl)
fresh_by false s w = (w.table, refl)

pub is_fresh : (s : Script) → IsWritten s → IsFresh (typist_of s)
is_fresh s w = fresh_by (has_words s.rules) s w

-- ---- the method's user commits batches that fit messages

abbrev pub FitsBatch : Batch → Type 0
FitsBatch b = (length b.string ≤ MAX_STRING) × (length b.preedit ≤ MAX_PREEDIT)

fits_edits : (b : Edits) → AreEdits b → FitsBatch (batch_of b)
fits_edits b e = (e.string.1, e.preedit.1)

fits_action : (a : Action) → IsAction a → AllByRecursion FitsBatch (map batch_of (batches_for a))
fits_action (actions.Batch b) h = (fits_edits b h, tt)
fits_action (actions.Use f) h = tt
fits_action actions.Leave h = tt
fits_action (actions.Press key) h = tt
fits_action (actions.Edit f e) h = tt
fits_action (actions.Pause f) h = tt
fits_action (actions.Resume f) h = tt
fits_action (actions.Show f) h = tt

both_fit : (xs : List Edits) (ys : List Edits) → AllByRecursion FitsBatch (map batch_of xs) →
    AllByRecursion FitsBatch (map batch_of ys) → AllByRecursion FitsBatch (map batch_of (xs ++ ys))
both_fit [] ys h k = k
both_fit (x ∷ xs) ys h k = (h.0, both_fit xs ys h.1 k)

pub all_fit : (list : List Action) → AllByRecursion IsAction list →
    AllByRecursion FitsBatch (map batch_of (batches_in list))
all_fit [] h = tt
all_fit (a ∷ list) h = both_fit (batches_for a) (batches_in list) (fits_action a h.0) (all_fit list h.1)

take_fit : (n : ℕ) (xs : List Edits) → AllByRecursion FitsBatch (map batch_of xs) →
    AllByRecursion FitsBatch (map batch_of (take n xs))
take_fit zero xs h = tt
take_fit (suc n) [] h = tt
take_fit (suc n) (x ∷ xs) h = (h.0, take_fit n xs h.1)

front_fit : (xs ys : List Batch) → AllByRecursion FitsBatch (xs ++ ys) → AllByRecursion FitsBatch xs
front_fit [] ys h = tt
front_fit (x ∷ xs) ys h = (h.0, front_fit xs ys h.1)

last_fits : (xs : List Batch) (b : Batch) → AllByRecursion FitsBatch (xs ++ b ∷ []) → FitsBatch b
last_fits [] b h = h.0
last_fits (x ∷ xs) b h = last_fits xs b h.1

short_log : (l : List Happening) → AllByRecursion FitsBatch (batches_of l) → HasShort l
short_log [] h = tt
short_log (came event ∷ older) h = short_log older h
short_log (committed b ∷ older) h =
    (last_fits (batches_of older) b h, short_log older (front_fit (batches_of older) (b ∷ []) h))

-- however its job ended, it committed the first of its first thousand

done_front : (limits : Limits) (job : MethodJob) → HasCommitted limits job →
    IsFrontOf (batches_of (method_log job.log)) (first_batches job rounds)
done_front limits job (inl e) = record {
  rest = [];
  is = sym e ∙ sym (append-nil (batches_of (method_log job.log)));
}
done_front limits job (inr k) = k.0

pub committed_front : (limits : Limits) (typist : TrialTypist) (job : MethodJob) (r : Result (Unit {0}) JobEnd) →
    MethodEnds limits typist job r → IsFrontOf (batches_of (method_log job.log)) (first_batches job rounds)
committed_front limits typist job (Ok done) d = done_front limits job d.own
committed_front limits typist job (Err (ends.JournalFull kept)) d = d.0.own-is
committed_front limits typist job (Err ends.BadEvent) d = d.0.own-is
committed_front limits typist job (Err ends.NoMemory) d = d.own-is

pub short_by : (job : MethodJob) → AllByRecursion FitsBatch (map batch_of job.batches) →
    IsFrontOf (batches_of (method_log job.log)) (first_batches job rounds) → HasShort (method_log job.log)
short_by job fits k =
    short_log (method_log job.log)
    (front_fit (batches_of (method_log job.log)) k.rest
    (subst (AllByRecursion FitsBatch) k.is (take_fit rounds job.batches fits)))

pub short_front : (job : MethodJob) (all : List Action) → job.batches ≡ batches_in all →
    AllByRecursion IsAction all → IsFrontOf (batches_of (method_log job.log)) (first_batches job rounds) →
    HasShort (method_log job.log)
short_front job all is each k =
    short_by job (subst (λ (l : List Edits). AllByRecursion FitsBatch (map batch_of l)) (sym is) (all_fit all each)) k

-- ---- the shell moves the focus and says keys

pub orders_fit : (time : ℕ) (list : List Action) → AllByRecursion IsFocusOrKey (orders_in time list)
orders_fit time [] = tt
orders_fit time (actions.Use f ∷ list) = (tt, orders_fit ((time + 1) % 2 ^ 32) list)
orders_fit time (actions.Leave ∷ list) = (tt, orders_fit ((time + 1) % 2 ^ 32) list)
orders_fit time (actions.Press key ∷ list) = (tt, (tt, orders_fit ((time + 1) % 2 ^ 32) list))
orders_fit time (actions.Batch b ∷ list) = orders_fit ((time + 1) % 2 ^ 32) list
orders_fit time (actions.Edit f e ∷ list) = orders_fit ((time + 1) % 2 ^ 32) list
orders_fit time (actions.Pause f ∷ list) = orders_fit ((time + 1) % 2 ^ 32) list
orders_fit time (actions.Resume f ∷ list) = orders_fit ((time + 1) % 2 ^ 32) list
orders_fit time (actions.Show f ∷ list) = orders_fit ((time + 1) % 2 ^ 32) list
