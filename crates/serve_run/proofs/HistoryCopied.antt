-- What a run begins with
use Rattle.std.proofs.Common.{◌≡◌, ◌-◌, ◌<◌, ◌≤◌, ◌++◌, ◌∷◌, [], ℕ, zero, suc, List, length, get_or, Some, sym, ap, ◌∙◌, subst, arith}
use Rattle.std.specs.List.{slice_get}
use Rattle.hub_lock.specs.Seats.{fresh_seat}
use Rattle.hub_lock.specs.Passes.{HubId, PassSeat}
use Rattle.serve_jobs.specs.Tags.{Tag}
use Rattle.serve_run.specs.LinkJobs.{LinkedJob, IsOnHub, AreOnHub}
use Rattle.serve_run.specs.Started.{IsRootOf, AreStarted}

-- a hub that nobody joined yet
pub fresh_root : (hub : HubId) (root : PassSeat) → root ≡ fresh_seat hub.turn 0 (Some hub.limits) [] → IsRootOf hub root
fresh_root hub root new = record {
  of = (ap (λ (s : PassSeat). s.turn) new, ap (λ (s : PassSeat). s.constant) new);
  zero = ap (λ (s : PassSeat). s.number) new;
}

-- the jobs past those of earlier runs are on the hub

get_is : {A : Type 0} (xs : List A) (i : ℕ) (x d : A) → slice_get xs i ≡ Some x → get_or xs i d ≡ x
get_is [] i x d is = absurd cc
get_is (y ∷ xs) zero x d is = cc
get_is (y ∷ xs) (suc i) x d is = get_is xs i x d is

is_within : {A : Type 0} (xs : List A) (i : ℕ) (x : A) → slice_get xs i ≡ Some x → i < length xs
is_within [] i x is = absurd cc
is_within (y ∷ xs) zero x is = omega arith
is_within (y ∷ xs) (suc i) x is = let within = is_within xs i x is in omega arith

past : {A : Type 0} (xs ys : List A) (i : ℕ) (x : A) → length xs ≤ i → slice_get (xs ++ ys) i ≡ Some x
    → slice_get ys (i - length xs) ≡ Some x
past [] ys i x behind is = let same : i ≡ i - 0 = omega arith in subst (λ k. slice_get ys k ≡ Some x) same is
past (z ∷ xs) ys zero x behind is = absurd (omega arith)
past (z ∷ xs) ys (suc i) x behind is =
    let same : i - length xs ≡ suc i - length (z ∷ xs) = omega arith in
    subst (λ k. slice_get ys k ≡ Some x) same (past xs ys i x (omega arith) is)

pub ours_of : (hub : HubId) (n : ℕ) (started more : List Tag) (jobs : List LinkedJob) → n ≡ length started
    → AreStarted hub started more jobs → AreOnHub hub n more
ours_of hub n started more jobs many are i t behind is =
    let k : ℕ = i - length started in
    let at = past started are.tags i t (omega arith) (ap (λ tags. slice_get tags i) (sym are.are) ∙ is) in
    subst (IsOnHub hub) (get_is are.tags k t t at) (are.on_hub k t (is_within are.tags k t at))
