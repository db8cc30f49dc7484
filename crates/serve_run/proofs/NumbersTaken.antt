-- The numbers of the passes that came back are those that the root gave away, each once
use Rattle.std.proofs.Common.{◌≡◌, ◌⊎◌, inl, inr, ⊎_elim, ◌+◌, ◌<◌, ◌≤◌, ◌++◌, ◌∷◌, [], ℕ, zero, suc, eqb, List, length, take, drop, Option, Some, None, refl, sym, ap, subst, arith, ne_eqb}
use mathlib.Core.Logic.{dite}
use native.Mathlib.Decide.{ℕ_discrete}
use Rattle.relay_model.specs.declared.role.Role.{Role}
use Rattle.turn_lock.specs.Pairs.{IsIn, IsDistinct, total}
use Rattle.turn_lock.specs.Rule.{bit}
use Rattle.turn_lock.proofs.TotalsOfPairs.{hits, hits-once, total-cons, total-few}
use Rattle.hub_lock.specs.Histories.{History}
use Rattle.serve_run.specs.LinkJobs.{LinkedJob, IsOfJobs, StepsAreOf, role_at, jobs_by, passes_by, jobs_of}
use Rattle.serve_run.specs.Unserved.{pushed}
use Rattle.serve_run.proofs.JobsInOrder.{jobs_counted}

-- one more came back
pub pushed_more : (jobs : List LinkedJob) (j : LinkedJob) (taken : List ℕ)
    → pushed (jobs ++ j ∷ []) taken ≡ j.number ∷ pushed jobs taken
pushed_more [] j taken = refl
pushed_more (first ∷ jobs) j taken = pushed_more jobs j (first.number ∷ taken)

pub in_before : (jobs : List LinkedJob) (taken : List ℕ) (n : ℕ) → IsIn n taken → IsIn n (pushed jobs taken)
in_before [] taken n is = is
in_before (j ∷ jobs) taken n is = in_before jobs (j.number ∷ taken) n (inr is)

-- the jobs have the numbers from n on, one after the other
abbrev pub AreFrom : ℕ → List LinkedJob → Type 0
AreFrom n [] = Unit {0}
AreFrom n (j ∷ jobs) = (j.number ≡ n) × AreFrom (n + 1) jobs

from_both : (n : ℕ) (a b : List LinkedJob) → AreFrom n a → AreFrom (n + length a) b → AreFrom n (a ++ b)
from_both n [] b first then = subst (λ m. AreFrom m b) (omega arith) then
from_both n (j ∷ a) b first then =
    (first.0, from_both (n + 1) a b first.1 (subst (λ m. AreFrom m b) (omega arith) then))

by_from : (next link : ℕ) (role : Option Role) → AreFrom next (jobs_by next link role)
by_from next link None = (refl, tt)
by_from next link (Some role) = (refl, (refl, tt))

pub jobs_from : (next link : ℕ) (letters : List ℕ) → AreFrom next (jobs_of next link letters)
jobs_from next link [] = tt
jobs_from next link (d ∷ letters) =
    from_both next (jobs_by next link (role_at d)) (jobs_of (next + passes_by (role_at d)) (link + 1) letters)
    (by_from next link (role_at d))
    (subst (λ n. AreFrom (next + n) (jobs_of (next + passes_by (role_at d)) (link + 1) letters))
    (sym (jobs_counted next link (role_at d)))
    (jobs_from (next + passes_by (role_at d)) (link + 1) letters))

front_from : (n k : ℕ) (jobs : List LinkedJob) → AreFrom n jobs → AreFrom n (take k jobs)
front_from n zero jobs from = tt
front_from n (suc k) [] from = tt
front_from n (suc k) (j ∷ jobs) from = (from.0, front_from (n + 1) k jobs from.1)

rest_from : (n k : ℕ) (jobs : List LinkedJob) → AreFrom n jobs → AreFrom (n + k) (drop k jobs)
rest_from n zero jobs from = subst (λ m. AreFrom m jobs) (omega arith) from
rest_from n (suc k) [] from = tt
rest_from n (suc k) (j ∷ jobs) from =
    subst (λ m. AreFrom m (drop k jobs)) (omega arith) (rest_from (n + 1) k jobs from.1)

few_front : (k : ℕ) (jobs : List LinkedJob) → length (take k jobs) ≤ k
few_front zero jobs = omega arith
few_front (suc k) [] = omega arith
few_front (suc k) (j ∷ jobs) = let rest = few_front k jobs in omega arith

-- each once

above : (n low : ℕ) (jobs : List LinkedJob) (taken : List ℕ) → low ≤ n → AreFrom n jobs
    → ((k : ℕ) → IsIn k taken → low ≤ k) → (k : ℕ) → IsIn k (pushed jobs taken) → low ≤ k
above n low [] taken le from high k is = high k is
above n low (j ∷ jobs) taken le from high k is =
    above (n + 1) low jobs (j.number ∷ taken) (omega arith) from.1
    (λ m. ⊎_elim (λ (e : j.number ≡ m). let f = from.0 in omega arith) (λ (i : IsIn m taken). high m i)) k is

once_pushed : (n : ℕ) (jobs : List LinkedJob) (taken : List ℕ) → AreFrom n jobs → IsDistinct taken
    → ((k : ℕ) → n ≤ k → k < n + length jobs → IsIn k taken → ⊥) → IsDistinct (pushed jobs taken)
once_pushed n [] taken from once apart = once
once_pushed n (j ∷ jobs) taken from once apart =
    once_pushed (n + 1) jobs (j.number ∷ taken) from.1
    ((λ (i : IsIn j.number taken). apart n (omega arith) (omega arith) (subst (λ k. IsIn k taken) from.0 i)), once)
    (λ k low high. ⊎_elim (λ (e : j.number ≡ k). let f = from.0 in absurd (omega arith))
    (λ (i : IsIn k taken). apart k (omega arith) (omega arith) i))

-- those of the first so many jobs, and before them those of the others
pub once_both : (served : ℕ) (jobs : List LinkedJob) → AreFrom 1 jobs
    → IsDistinct (0 ∷ pushed (take served jobs) (pushed (drop served jobs) []))
once_both served jobs from =
    let a = take served jobs in
    let b = drop served jobs in
    let first = front_from 1 served jobs from in
    let then = rest_from 1 served jobs from in
    let few = few_front served jobs in
    let high = above (1 + served) (1 + served) b [] (omega arith) then (λ k i. absurd i) in
    let once = once_pushed (1 + served) b [] then tt (λ k low big i. i) in (
      (λ (i : IsIn 0 (pushed a (pushed b []))).
          let low = above 1 1 a (pushed b []) (omega arith) first (λ k i. let h = high k i in omega arith) 0 i in
          absurd (omega arith)),
      once_pushed 1 a (pushed b []) first once (λ k low big i. let h = high k i in absurd (omega arith)),
    )

-- where the pairs of numbers are all pairs, each pair has one of them

abbrev pub AllIn : List ℕ → History → Type 0
AllIn ns [] = Unit {0}
AllIn ns (x ∷ h) = IsIn x.0 ns × AllIn ns h

hit_in : (ns : List ℕ) (n : ℕ) → 1 ≤ hits ns n → IsIn n ns
hit_in [] n some = absurd (omega arith)
hit_in (m ∷ ms) n some = dite (ℕ_discrete n m) (λ e. inl (sym e))
    (λ other. let none : bit (eqb n m) ≡ 0 = ap bit (ne_eqb n m other) in inr (hit_in ms n (omega arith)))

pub all_in : (ns : List ℕ) (h : History) → IsDistinct ns → total ns h ≡ length h → AllIn ns h
all_in ns [] once all = tt
all_in ns (x ∷ h) once all =
    let few = hits-once ns x.0 once in
    let rest = total-few ns h once in
    let both = total-cons ns x h in
    (hit_in ns x.0 (omega arith), all_in ns h once (omega arith))

-- each is the root's, or one of the jobs'

abbrev HasJob : List LinkedJob → ℕ → Type 0
HasJob [] n = ⊥
HasJob (j ∷ jobs) n = (n ≡ j.number) ⊎ HasJob jobs n

more_or : (j : LinkedJob) (jobs : List LinkedJob) (taken : List ℕ) (n : ℕ) → HasJob jobs n ⊎ IsIn n (j.number ∷ taken)
    → HasJob (j ∷ jobs) n ⊎ IsIn n taken
more_or j jobs taken n (inl h) = inl (inr h)
more_or j jobs taken n (inr (inl e)) = inl (inl (sym e))
more_or j jobs taken n (inr (inr i)) = inr i

in_pushed : (jobs : List LinkedJob) (taken : List ℕ) (n : ℕ) → IsIn n (pushed jobs taken)
    → HasJob jobs n ⊎ IsIn n taken
in_pushed [] taken n i = inr i
in_pushed (j ∷ jobs) taken n i = more_or j jobs taken n (in_pushed jobs (j.number ∷ taken) n i)

has_front : (k : ℕ) (jobs : List LinkedJob) (n : ℕ) → HasJob (take k jobs) n → HasJob jobs n
has_front zero jobs n h = absurd h
has_front (suc k) [] n h = absurd h
has_front (suc k) (j ∷ jobs) n (inl e) = inl e
has_front (suc k) (j ∷ jobs) n (inr h) = inr (has_front k jobs n h)

has_rest : (k : ℕ) (jobs : List LinkedJob) (n : ℕ) → HasJob (drop k jobs) n → HasJob jobs n
has_rest zero jobs n h = h
has_rest (suc k) [] n h = absurd h
has_rest (suc k) (j ∷ jobs) n h = inr (has_rest k jobs n h)

of_has : (jobs : List LinkedJob) (n : ℕ) → HasJob jobs n → IsOfJobs jobs n
of_has [] n h = absurd h
of_has (j ∷ jobs) n (inl e) = inl e
of_has (j ∷ jobs) n (inr h) = inr (of_has jobs n h)

of_root : (jobs : List LinkedJob) (n : ℕ) → n ≡ 0 → IsOfJobs jobs n
of_root [] n zero_is = zero_is
of_root (j ∷ jobs) n zero_is = inr (of_root jobs n zero_is)

of_back : (served : ℕ) (jobs : List LinkedJob) (n : ℕ) → HasJob (drop served jobs) n ⊎ IsIn n [] → IsOfJobs jobs n
of_back served jobs n (inl h) = of_has jobs n (has_rest served jobs n h)
of_back served jobs n (inr i) = absurd i

of_taken : (served : ℕ) (jobs : List LinkedJob) (n : ℕ)
    → HasJob (take served jobs) n ⊎ IsIn n (pushed (drop served jobs) []) → IsOfJobs jobs n
of_taken served jobs n (inl h) = of_has jobs n (has_front served jobs n h)
of_taken served jobs n (inr i) = of_back served jobs n (in_pushed (drop served jobs) [] n i)

of_either : (served : ℕ) (jobs : List LinkedJob) (n : ℕ)
    → IsIn n (0 ∷ pushed (take served jobs) (pushed (drop served jobs) [])) → IsOfJobs jobs n
of_either served jobs n (inl e) = of_root jobs n (sym e)
of_either served jobs n (inr i) =
    of_taken served jobs n (in_pushed (take served jobs) (pushed (drop served jobs) []) n i)

pub of_jobs : (served : ℕ) (jobs : List LinkedJob) (h : History)
    → AllIn (0 ∷ pushed (take served jobs) (pushed (drop served jobs) [])) h → StepsAreOf jobs h
of_jobs served jobs [] all = tt
of_jobs served jobs (x ∷ h) all = (of_either served jobs x.0 all.0, of_jobs served jobs h all.1)
