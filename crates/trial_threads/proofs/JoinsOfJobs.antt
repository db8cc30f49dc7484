-- The joins of jobs, in order
use Rattle.std.proofs.Common.{◌≡◌, true, List, [], ◌∷◌, ◌++◌, refl, sym, ap, ap₂, subst, ◌∙◌, append-nil, append_assoc}
use Rattle.std.specs.List.{AllByRecursion}
use Rattle.broker_steps.specs.declared.limits.Limits.{Limits}
use Rattle.broker_model.specs.declared.journal.Entry.{Entry}
use Rattle.hub_calls.specs.Counted.{is_join}
use Rattle.trial_jobs.specs.declared.job.TrialJob.{TrialJob}
use Rattle.trial_jobs.specs.declared.job.TrialJob.TheVariants as jobs
use Rattle.trial_threads.specs.declared.running.Running.{Running}
use Rattle.trial_threads.specs.Jobs.{KeepsPasses, Pairwise}
use Rattle.trial_threads.specs.Peers.{join_of, joins_of}
use Rattle.trial_threads.proofs.JobsListed.{all_both}

-- they are joins, and nothing else

abbrev pub AreJoins : List Entry → Type 0
AreJoins es = AllByRecursion (λ (e : Entry). is_join e ≡ true) es

is_one : (job : TrialJob) → AreJoins (join_of job)
is_one (jobs.Field job) = (refl, tt)
is_one (jobs.Method job) = (refl, tt)
is_one (jobs.Shell job) = tt

joins_are : (rs : List Running) → AreJoins (joins_of rs)
joins_are [] = tt
joins_are (r ∷ rs) =
    all_both (λ (e : Entry). is_join e ≡ true) (join_of r.job) (joins_of rs) (is_one r.job) (joins_are rs)

-- so are the entries that are these
pub only_joins : (es : List Entry) (rs : List Running) → es ≡ joins_of rs → AreJoins es
only_joins es rs is = subst AreJoins (sym is) (joins_are rs)

-- those of one job more
pub joins_more : (rs : List Running) (r : Running) → joins_of (rs ++ r ∷ []) ≡ joins_of rs ++ join_of r.job
joins_more [] r = append-nil (join_of r.job)
joins_more (x ∷ rs) r =
    ap (λ (es : List Entry). join_of x.job ++ es) (joins_more rs r)
    ∙ sym (append_assoc (join_of x.job) (joins_of rs) (join_of r.job))

-- they stay the same, whatever the jobs' passes see

join_keeps : (limits : Limits) (b a : TrialJob) → KeepsPasses limits b a → join_of a ≡ join_of b
join_keeps limits (jobs.Field b) (jobs.Field a) k = refl
join_keeps limits (jobs.Field b) (jobs.Method a) k = absurd k
join_keeps limits (jobs.Field b) (jobs.Shell a) k = absurd k
join_keeps limits (jobs.Method b) (jobs.Field a) k = absurd k
join_keeps limits (jobs.Method b) (jobs.Method a) k = refl
join_keeps limits (jobs.Method b) (jobs.Shell a) k = absurd k
join_keeps limits (jobs.Shell b) (jobs.Field a) k = absurd k
join_keeps limits (jobs.Shell b) (jobs.Method a) k = absurd k
join_keeps limits (jobs.Shell b) (jobs.Shell a) k = refl

pub joins_keep : (limits : Limits) (R : Running → Running → Type 0) (before after : List Running) →
    ((b a : Running) → R b a → KeepsPasses limits b.job a.job) → Pairwise R before after →
    joins_of after ≡ joins_of before
joins_keep limits R [] [] f k = refl
joins_keep limits R [] (y ∷ after) f k = absurd k
joins_keep limits R (x ∷ before) [] f k = absurd k
joins_keep limits R (x ∷ before) (y ∷ after) f k =
    ap₂ (λ (one more : List Entry). one ++ more) (join_keeps limits x.job y.job (f x y k.0))
    (joins_keep limits R before after f k.1)
