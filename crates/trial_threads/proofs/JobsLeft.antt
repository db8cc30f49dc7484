-- What the jobs say that are left to be looked at, by the next one
use Rattle.std.proofs.Common.{◌≡◌, ℕ, ◌+◌, ◌<◌, ◌≤◌, List, length, drop, get_or, ap}
use Rattle.std.specs.Prelude.{max, None}
use Rattle.std.proofs.lemmas.List.{drop_more, drop_all}
use Rattle.trial_jobs.specs.declared.job.TrialJob.{TrialJob}
use Rattle.trial_threads.specs.declared.running.Running.{Running}
use Rattle.trial_threads.specs.Drained.{most_of}
use Rattle.trial_threads.specs.Stops.{stop_or, first_stop_in}

pub most_step : (seen : TrialJob → ℕ) (n : ℕ) (xs : List Running) (i : ℕ) (d : Running) → i < length xs →
    most_of seen n (drop i xs) ≡ most_of seen (max n (seen (get_or xs i d).job)) (drop (i + 1) xs)
most_step seen n xs i d lt = ap (λ (l : List Running). most_of seen n l) (drop_more xs i d lt)

pub most_end : (seen : TrialJob → ℕ) (n : ℕ) (xs : List Running) (i : ℕ) → length xs ≤ i →
    most_of seen n (drop i xs) ≡ n
most_end seen n xs i le = ap (λ (l : List Running). most_of seen n l) (drop_all i xs le)

pub stop_step : (xs : List Running) (i : ℕ) (d : Running) → i < length xs →
    first_stop_in (drop i xs) ≡ stop_or (get_or xs i d).ended (first_stop_in (drop (i + 1) xs))
stop_step xs i d lt = ap first_stop_in (drop_more xs i d lt)

pub stop_end : (xs : List Running) (i : ℕ) → length xs ≤ i → first_stop_in (drop i xs) ≡ None
stop_end xs i le = ap first_stop_in (drop_all i xs le)
