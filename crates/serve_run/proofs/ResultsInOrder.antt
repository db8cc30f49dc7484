-- The results of the jobs that were started, in order
use Rattle.std.proofs.Common.{◌≡◌, ◌+◌, ◌<◌, ◌++◌, ◌∷◌, [], ℕ, zero, suc, List, length, map, take, drop, Some, sym, ap, ◌∙◌, subst, arith, length-append}
use Rattle.std.proofs.lemmas.List.{map-append}
use Rattle.std.specs.List.{slice_get}
use Rattle.serve_jobs.specs.Tags.{Tag, Report, IsReportOf}
use Rattle.serve_run.specs.LinkJobs.{job, job_tagged, job_reported}

none_there : {A : Type 0} (i : ℕ) (x : A) → slice_get [] i ≡ Some x → ⊥
none_there i x is = absurd cc

some_is : {A : Type 0} (y x : A) → Some y ≡ Some x → y ≡ x
some_is y x e = cc

-- the next of those behind the first so many
pub take_next : {A : Type 0} (xs : List A) (base n : ℕ) (x : A) → slice_get xs (base + n) ≡ Some x
    → take (n + 1) (drop base xs) ≡ take n (drop base xs) ++ x ∷ []
take_next [] base n x is = absurd (none_there base x is)
take_next (y ∷ xs) zero zero x is = ap (λ z. z ∷ []) (some_is y x is)
take_next (y ∷ xs) zero (suc n) x is =
    let same : 0 + suc n ≡ suc (0 + n) = omega arith in
    let more : suc n + 1 ≡ suc (n + 1) = omega arith in
    ap (λ k. take k (y ∷ xs)) more
    ∙ ap (λ zs. y ∷ zs) (take_next xs zero n x (subst (λ k. slice_get (y ∷ xs) k ≡ Some x) same is))
take_next (y ∷ xs) (suc base) n x is =
    let same : suc base + n ≡ suc (base + n) = omega arith in
    take_next xs base n x (subst (λ k. slice_get (y ∷ xs) k ≡ Some x) same is)

-- a report has the job of its tag
pub job_is : (tag : Tag) (r : Report) → IsReportOf tag r → job_reported r ≡ job_tagged tag
job_is tag r is =
    ap (λ n. job n r.link r.part) is.number
    ∙ (ap (λ l. job tag.number l r.part) is.link ∙ ap (λ p. job tag.number tag.link p) is.part)

-- one result more
pub reported_more : (tags : List Tag) (base : ℕ) (given : List Report) (r : Report) (t : Tag)
    → map job_reported given ≡ map job_tagged (take (length given) (drop base tags))
    → slice_get tags (base + length given) ≡ Some t → IsReportOf t r
    → map job_reported (given ++ r ∷ []) ≡ map job_tagged (take (length (given ++ r ∷ [])) (drop base tags))
reported_more tags base given r t so_far next is =
    map-append job_reported given (r ∷ [])
    ∙ (ap (λ js. js ++ job_reported r ∷ []) so_far
    ∙ (ap (λ j. map job_tagged (take (length given) (drop base tags)) ++ j ∷ []) (job_is t r is)
    ∙ (sym (map-append job_tagged (take (length given) (drop base tags)) (t ∷ []))
    ∙ (ap (map job_tagged) (sym (take_next tags base (length given) t next))
    ∙ ap (λ n. map job_tagged (take n (drop base tags))) (sym (length-append given (r ∷ [])))))))

-- what stands at an index is within
pub before_end : {A : Type 0} (xs : List A) (i : ℕ) (x : A) → slice_get xs i ≡ Some x → i < length xs
before_end [] i x is = absurd cc
before_end (y ∷ xs) zero x is = omega arith
before_end (y ∷ xs) (suc i) x is = let within = before_end xs i x is in omega arith
