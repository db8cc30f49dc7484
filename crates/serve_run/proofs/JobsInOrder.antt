-- The jobs and joins of one link more
use Rattle.std.proofs.Common.{◌≡◌, ◌+◌, ◌≤◌, ◌++◌, ◌∷◌, [], ℕ, zero, suc, List, length, map, take, Option, Some, None, refl, sym, ap, ◌∙◌, arith, append-nil, length-append}
use Rattle.std.proofs.lemmas.List.{append_assoc, map-append}
use Rattle.std.proofs.lemmas.List.Elements.{All-append}
use Rattle.relay_model.specs.declared.role.Role.{Role}
use Rattle.hub_lock.specs.Passes.{HubId}
use Rattle.serve_jobs.specs.Tags.{Tag}
use Rattle.serve_run.specs.LinkJobs.{LinkedJob, IsOnHub, job_tagged, role_at, jobs_by, joins_by, passes_by, jobs_of, joins_of, passes_of}
use Rattle.serve_run.specs.Started.{AreStarted}

pub jobs_counted : (next link : ℕ) (role : Option Role) → length (jobs_by next link role) ≡ passes_by role
jobs_counted next link None = refl
jobs_counted next link (Some role) = refl

pub all_jobs_counted : (next link : ℕ) (letters : List ℕ) → length (jobs_of next link letters) ≡ passes_of letters
all_jobs_counted next link [] = refl
all_jobs_counted next link (d ∷ letters) =
    let rest = all_jobs_counted (next + passes_by (role_at d)) (link + 1) letters in
    let one = jobs_counted next link (role_at d) in
    let both =
    length-append (jobs_by next link (role_at d)) (jobs_of (next + passes_by (role_at d)) (link + 1) letters) in
    omega arith

pub passes_more : (letters : List ℕ) (d : ℕ) → passes_of (letters ++ d ∷ []) ≡ passes_of letters + passes_by (role_at d)
passes_more [] d = omega arith
passes_more (e ∷ letters) d = let rest = passes_more letters d in omega arith

pub jobs_more : (next link : ℕ) (letters : List ℕ) (d : ℕ)
    → jobs_of next link (letters ++ d ∷ [])
    ≡ jobs_of next link letters ++ jobs_by (next + passes_of letters) (link + length letters) (role_at d)
jobs_more next link [] d =
    append-nil (jobs_by next link (role_at d))
    ∙ (ap (λ n. jobs_by n link (role_at d)) (omega arith) ∙ ap (λ k. jobs_by (next + 0) k (role_at d)) (omega arith))
jobs_more next link (e ∷ letters) d =
    let n : ℕ = next + passes_by (role_at e) in
    let k : ℕ = link + 1 in
    let one = jobs_by next link (role_at e) in
    let rest = jobs_of n k letters in
    let number : n + passes_of letters ≡ next + passes_of (e ∷ letters) = omega arith in
    let place : k + length letters ≡ link + length (e ∷ letters) = omega arith in
    ap (λ jobs. one ++ jobs) (jobs_more n k letters d)
    ∙ (sym (append_assoc one rest (jobs_by (n + passes_of letters) (k + length letters) (role_at d)))
    ∙ (ap (λ m. (one ++ rest) ++ jobs_by m (k + length letters) (role_at d)) number
    ∙ ap (λ m. (one ++ rest) ++ jobs_by (next + passes_of (e ∷ letters)) m (role_at d)) place))

pub joins_more : (next : ℕ) (letters : List ℕ) (d : ℕ)
    → joins_of next (letters ++ d ∷ []) ≡ joins_of next letters ++ joins_by (next + passes_of letters) (role_at d)
joins_more next [] d = append-nil (joins_by next (role_at d)) ∙ ap (λ n. joins_by n (role_at d)) (omega arith)
joins_more next (e ∷ letters) d =
    ap (λ joins. joins_by next (role_at e) ++ joins) (joins_more (next + passes_by (role_at e)) letters d)
    ∙ (sym (append_assoc (joins_by next (role_at e)) (joins_of (next + passes_by (role_at e)) letters)
    (joins_by (next + passes_by (role_at e) + passes_of letters) (role_at d)))
    ∙ ap (λ n. (joins_by next (role_at e) ++ joins_of (next + passes_by (role_at e)) letters) ++ joins_by n (role_at d))
    (omega arith))

-- fewer letters bring no more passes
pub passes_front : (letters : List ℕ) (n m : ℕ) → n ≤ m → passes_of (take n letters) ≤ passes_of (take m letters)
passes_front letters zero m few = omega arith
passes_front [] (suc n) m few = omega arith
passes_front (d ∷ letters) (suc n) zero few = absurd (omega arith)
passes_front (d ∷ letters) (suc n) (suc m) few = let rest = passes_front letters n m (omega arith) in omega arith

-- the first of two lists, and some of the second
pub take_past : {A : Type 0} (xs ys : List A) (n : ℕ) → take (length xs + n) (xs ++ ys) ≡ xs ++ take n ys
take_past [] ys n = let same : 0 + n ≡ n = omega arith in ap (λ k. take k ys) same
take_past (x ∷ xs) ys n =
    let same : length (x ∷ xs) + n ≡ suc (length xs + n) = omega arith in
    ap (λ k. take k (x ∷ (xs ++ ys))) same ∙ ap (λ zs. x ∷ zs) (take_past xs ys n)

-- no job was started
pub none_started : (hub : HubId) (started : List Tag) → AreStarted hub started started []
none_started hub started = record {
  tags = [];
  are = sym (append-nil started);
  jobs_are = refl;
  on_hub = λ k d within. absurd (omega arith);
}

-- jobs were started, and then others
pub started_both : (hub : HubId) (a b c : List Tag) (first then : List LinkedJob) → AreStarted hub a b first
    → AreStarted hub b c then → AreStarted hub a c (first ++ then)
started_both hub a b c first then one two = record {
  tags = one.tags ++ two.tags;
  are = two.are ∙ (ap (λ t. t ++ two.tags) one.are ∙ append_assoc a one.tags two.tags);
  jobs_are = map-append job_tagged one.tags two.tags ∙ (ap (λ t. t ++ map job_tagged two.tags) one.jobs_are
      ∙ ap (λ t. first ++ t) two.jobs_are);
  on_hub = All-append (IsOnHub hub) one.tags two.tags one.on_hub two.on_hub;
}
