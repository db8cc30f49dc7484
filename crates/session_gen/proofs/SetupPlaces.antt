-- Where each step of the set-up stands in it.
use Rattle.std.proofs.Common.{◌≡◌, ℕ, zero, suc, ◌+◌, ◌-◌, ◌*◌, ◌<◌, ◌≤◌, List, [], ◌∷◌, ◌++◌, length, map, Some, refl, sym, ◌∙◌, ap, arith, suc-add}
use Rattle.std.specs.List.{slice_get}
use Rattle.std.specs.Option.{option_map}
use Rattle.std.proofs.lemmas.Option.{slice_get-map, slice_get_past}
use Rattle.broker_steps.specs.declared.step.Step.{Step}
use Rattle.session_gen.specs.Setup.{Sent, sent_by, app_steps, method_steps, setup}
use Rattle.session_gen.specs.Generated.{step_of, word_after}
use Rattle.session_gen.specs.Rows.{drawn}

-- behind the join, a message stands one place later
pub behind_the_join : (join : Step) (p place : ℕ) (ms : List Sent) (s : Sent) → (place ≡ 0 → ⊥)
    → slice_get ms (place - 1) ≡ Some s → slice_get (join ∷ map (sent_by p) ms) place ≡ Some (sent_by p s)
behind_the_join join p zero ms s later is = absurd (later refl)
behind_the_join join p (suc k) ms s later is =
    let place : suc k - 1 ≡ k = omega arith in
    slice_get-map (sent_by p) ms k ∙ ap (option_map (sent_by p)) (ap (slice_get ms) (sym place) ∙ is)

before_the_rest : {X : Type 0} (xs ys : List X) (i : ℕ) → i < length xs → slice_get (xs ++ ys) i ≡ slice_get xs i
before_the_rest [] ys i lt = absurd (omega (arith, lt))
before_the_rest (x ∷ xs) ys zero lt = refl
before_the_rest (x ∷ xs) ys (suc i) lt = before_the_rest xs ys i (omega (arith, lt))

behind_the_front : {X : Type 0} (xs ys : List X) (i : ℕ) → slice_get (xs ++ ys) (length xs + i) ≡ slice_get ys i
behind_the_front [] ys i = let same : 0 + i ≡ i = omega arith in ap (slice_get ys) same
behind_the_front (x ∷ xs) ys i = rw (suc-add (length xs) i) (behind_the_front xs ys i)

in_the_middle : {X : Type 0} (front xs back : List X) (place i : ℕ) → place ≡ length front + i → i < length xs
    → slice_get (front ++ (xs ++ back)) place ≡ slice_get xs i
in_the_middle front xs back place i is lt =
    ap (slice_get (front ++ (xs ++ back))) is ∙ behind_the_front front (xs ++ back) i ∙ before_the_rest xs back i lt

-- an app peer's steps in the set-up
pub app_place : (k place i : ℕ) → k < 4 → i < 7 → place ≡ 7 * k + i
    → slice_get setup place ≡ slice_get (app_steps (1 + k)) i
unfolding setup
app_place zero place i few lt is =
    in_the_middle [] (app_steps 1) (app_steps 2 ++ (app_steps 3 ++ (app_steps 4 ++ method_steps 5)))
    place i (omega (arith, is)) lt
app_place (suc zero) place i few lt is =
    in_the_middle (app_steps 1) (app_steps 2) (app_steps 3 ++ (app_steps 4 ++ method_steps 5))
    place i (omega (arith, is)) lt
app_place (suc (suc zero)) place i few lt is =
    in_the_middle (app_steps 1 ++ app_steps 2) (app_steps 3) (app_steps 4 ++ method_steps 5)
    place i (omega (arith, is)) lt
app_place (suc (suc (suc zero))) place i few lt is =
    in_the_middle (app_steps 1 ++ (app_steps 2 ++ app_steps 3)) (app_steps 4) (method_steps 5)
    place i (omega (arith, is)) lt
app_place (suc (suc (suc (suc k)))) place i few lt is = absurd (omega (arith, few))

-- the method's steps in it
pub method_place : (place i : ℕ) → place ≡ 28 + i → slice_get setup place ≡ slice_get (method_steps 5) i
unfolding setup
method_place place i is =
    let apps = app_steps 1 ++ (app_steps 2 ++ (app_steps 3 ++ app_steps 4)) in
    ap (slice_get setup) is ∙ behind_the_front apps (method_steps 5) i

-- a step of the set-up is that step of the session
pub step_in_setup : (n made d : ℕ) (s : Step) → slice_get setup made ≡ Some s → s ≡ step_of n made d
unfolding step_of
step_in_setup n made d s is = rw is refl

-- behind the set-up each word draws a step
pub step_behind_setup : (n made d : ℕ) → 33 ≤ made → step_of n made d ≡ drawn (word_after n (made - 33)) d
unfolding step_of setup
step_behind_setup n made d le = rw (slice_get_past setup made le) refl
