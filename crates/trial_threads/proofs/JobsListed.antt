-- What holds of each job of a list, by its parts
use Rattle.std.proofs.Common.{◌≡◌, ℕ, List, [], ◌∷◌, ◌++◌, length, take, drop, refl, ap, ap₂, ◌∙◌, arith, append-nil}
use Rattle.std.proofs.lemmas.List.{take_all, drop_all}
use Rattle.std.specs.List.{AllByRecursion}
use Rattle.hub_lock.specs.Passes.{HubId}
use Rattle.trial_run.specs.declared.typist.TrialTypist.{TrialTypist}
use Rattle.trial_threads.specs.declared.running.Running.{Running}
use Rattle.trial_threads.specs.Users.{Part}
use Rattle.trial_threads.specs.Jobs.{TypeAs, HasRun, AreRun, AreJobsOf, Pairwise, parts_in, part_of}

-- two lists, one behind the other

pub all_front : {A : Type 0} (P : A → Type 0) (a b : List A) → AllByRecursion P (a ++ b) → AllByRecursion P a
all_front P [] b h = tt
all_front P (x ∷ a) b h = (h.0, all_front P a b h.1)

pub all_back : {A : Type 0} (P : A → Type 0) (a b : List A) → AllByRecursion P (a ++ b) → AllByRecursion P b
all_back P [] b h = h
all_back P (x ∷ a) b h = all_back P a b h.1

pub all_both : {A : Type 0} (P : A → Type 0) (a b : List A) → AllByRecursion P a → AllByRecursion P b →
    AllByRecursion P (a ++ b)
all_both P [] b one two = two
all_both P (x ∷ a) b one two = (one.0, all_both P a b one.1 two)

pub all_by : {A : Type 0} (P Q : A → Type 0) (xs : List A) → ((x : A) → P x → Q x) → AllByRecursion P xs →
    AllByRecursion Q xs
all_by P Q [] f h = tt
all_by P Q (x ∷ xs) f h = (f x h.0, all_by P Q xs f h.1)

-- two lists, side by side

pub pairs_both : {A : Type 0} (R : A → A → Type 0) (a b a' b' : List A) → Pairwise R a a' → Pairwise R b b' →
    Pairwise R (a ++ b) (a' ++ b')
pairs_both R [] b [] b' one two = two
pairs_both R [] b (y ∷ a') b' one two = absurd one
pairs_both R (x ∷ a) b [] b' one two = absurd one
pairs_both R (x ∷ a) b (y ∷ a') b' one two = (one.0, pairs_both R a b a' b' one.1 two)

pub pairs_by : {A : Type 0} (R S : A → A → Type 0) (xs ys : List A) → ((x y : A) → R x y → S x y) →
    Pairwise R xs ys → Pairwise S xs ys
pairs_by R S [] [] f h = tt
pairs_by R S [] (y ∷ ys) f h = absurd h
pairs_by R S (x ∷ xs) [] f h = absurd h
pairs_by R S (x ∷ xs) (y ∷ ys) f h = (f x y h.0, pairs_by R S xs ys f h.1)

pub pairs_step : {A : Type 0} (R S T : A → A → Type 0) (xs ys zs : List A) →
    ((x y z : A) → R x y → S y z → T x z) → Pairwise R xs ys → Pairwise S ys zs → Pairwise T xs zs
pairs_step R S T [] [] [] f one two = tt
pairs_step R S T [] [] (z ∷ zs) f one two = absurd two
pairs_step R S T [] (y ∷ ys) zs f one two = absurd one
pairs_step R S T (x ∷ xs) [] zs f one two = absurd one
pairs_step R S T (x ∷ xs) (y ∷ ys) [] f one two = absurd two
pairs_step R S T (x ∷ xs) (y ∷ ys) (z ∷ zs) f one two =
    (f x y z one.0 two.0, pairs_step R S T xs ys zs f one.1 two.1)

pub pairs_length : {A : Type 0} (R : A → A → Type 0) (xs ys : List A) → Pairwise R xs ys → length ys ≡ length xs
pairs_length R [] [] h = refl
pairs_length R [] (y ∷ ys) h = absurd h
pairs_length R (x ∷ xs) [] h = absurd h
pairs_length R (x ∷ xs) (y ∷ ys) h = let more = pairs_length R xs ys h.1 in omega arith

-- what is written back over a whole list is all of it
pub written : {A : Type 0} (n : ℕ) (old new : List A) → n ≡ length old → length new ≡ length old →
    take n (new ++ drop (length new) old) ≡ new
written n old new all same =
    ap (λ l. take n (new ++ l)) (drop_all (length new) old (omega (arith, same)))
    ∙ ap (take n) (append-nil new) ∙ take_all n new (omega (arith, all, same))

-- what holds of each, and leads over to the other
pub pairs_carry : {A : Type 0} (R : A → A → Type 0) (P Q : A → Type 0) (xs ys : List A) →
    ((x y : A) → R x y → P x → Q y) → Pairwise R xs ys → AllByRecursion P xs → AllByRecursion Q ys
pairs_carry R P Q [] [] f h all = tt
pairs_carry R P Q [] (y ∷ ys) f h all = absurd h
pairs_carry R P Q (x ∷ xs) [] f h all = absurd h
pairs_carry R P Q (x ∷ xs) (y ∷ ys) f h all = (f x y h.0 all.0, pairs_carry R P Q xs ys f h.1 all.1)

pub parts_same : (R : Running → Running → Type 0) (before after : List Running) →
    ((b a : Running) → R b a → part_of a.job ≡ part_of b.job) → Pairwise R before after →
    parts_in after ≡ parts_in before
parts_same R [] [] f h = refl
parts_same R [] (y ∷ after) f h = absurd h
parts_same R (x ∷ before) [] f h = absurd h
parts_same R (x ∷ before) (y ∷ after) f h =
    ap₂ (λ (p : Part) (ps : List Part). p ∷ ps) (f x y h.0) (parts_same R before after f h.1)

pub run_each : (hub : HubId) (typist : TrialTypist) (before after : List Running) → TypeAs typist before →
    AreRun hub before after → AllByRecursion (HasRun hub typist) after
run_each hub typist [] [] types h = tt
run_each hub typist [] (y ∷ after) types h = absurd h
run_each hub typist (x ∷ before) [] types h = absurd h
run_each hub typist (x ∷ before) (y ∷ after) types h =
    (h.0.run typist types.0, run_each hub typist before after types.1 h.1)

pub run_of : (hub : HubId) (typist : TrialTypist) (jobs : List Running) → AllByRecursion (HasRun hub typist) jobs →
    AreJobsOf hub jobs
run_of hub typist [] h = tt
run_of hub typist (r ∷ rs) h = (h.0.of, run_of hub typist rs h.1)
