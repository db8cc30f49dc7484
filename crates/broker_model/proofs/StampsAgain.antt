-- The stamps of a journal: one more each entry, never a moment that falls, and the same again for those that the steps
-- have.
use Rattle.std.proofs.Common.{◌≡◌, ℕ, ◌≤◌, List, [], ◌∷◌, length, max, Bool, true, false, refl, ap, ◌∙◌, arith}
use Rattle.std.specs.Prelude.{if◌then◌else◌}
use Rattle.std.proofs.Math.Nat.{le-max_right}
use Rattle.broker_steps.specs.declared.stamp.Stamp.{Stamp}
use Rattle.broker_model.specs.declared.journal.Entry.{Entry}
use Rattle.broker_model.specs.Stamps.{latest, said_moment, follows, stamp_of, newest, given_before, stamps, step_stamps}

-- a step's stamp stands before those of the steps before
pub step_stamped : (e : Entry) (older : List Entry) (given : Stamp) (gave : List Stamp) → follows e ≡ false →
    stamps (e ∷ older) (given ∷ gave) ≡ stamp_of e given (stamps older gave) ∷ stamps older gave
step_stamped e older given gave h = rw h refl

-- so does that of an end that follows, for which nothing is given
pub end_stamped : (e : Entry) (older : List Entry) (given : Stamp) (gave : List Stamp) → follows e ≡ true →
    stamps (e ∷ older) gave ≡ stamp_of e given (stamps older gave) ∷ stamps older gave
end_stamped e older given gave h = rw h refl

twice : (a b : ℕ) → max (max a b) b ≡ max a b
twice a b = grind arith

-- what a step has is what may be given for it again
given_again : (e : Entry) (given : Stamp) (before : List Stamp) → follows e ≡ false →
    stamp_of e (stamp_of e given before) before ≡ stamp_of e given before
given_again e given before h =
    rw h (ap (λ (m : ℕ). record { moment = m; author = given.author })
    (twice given.moment (max (said_moment e) (latest before))))

again_by : (e : Entry) (older : List Entry) (given : List Stamp) (b : Bool) → follows e ≡ b →
    stamps older (step_stamps older (stamps older (given_before e given))) ≡ stamps older (given_before e given) →
    stamps (e ∷ older) (step_stamps (e ∷ older) (stamps (e ∷ older) given)) ≡ stamps (e ∷ older) given
again_by e older given true h i =
    let before : List Stamp = stamps older (given_before e given) in
    ap (λ (g : List Stamp). stamps (e ∷ older) g) (ap (λ (t : Bool). if t then step_stamps older before
    else stamp_of e (newest given) before ∷ step_stamps older before) h)
    ∙ end_stamped e older (newest given) (step_stamps older before) h
    ∙ ap (λ (s : List Stamp). stamp_of e (newest given) s ∷ s) i
again_by e older given false h i =
    let before : List Stamp = stamps older (given_before e given) in
    let one : Stamp = stamp_of e (newest given) before in
    ap (λ (g : List Stamp). stamps (e ∷ older) g)
    (ap (λ (t : Bool). if t then step_stamps older before else one ∷ step_stamps older before) h)
    ∙ step_stamped e older one (step_stamps older before) h
    ∙ ap (λ (s : List Stamp). stamp_of e one s ∷ s) i
    ∙ ap (λ (s : Stamp). s ∷ before) (given_again e (newest given) before h)

-- the stamps that the steps have give all stamps again
pub again : (journal : List Entry) (given : List Stamp) →
    stamps journal (step_stamps journal (stamps journal given)) ≡ stamps journal given
again [] given = refl
again (e ∷ older) given = again_by e older given (follows e) refl (again older (given_before e given))

pub as_many : (journal : List Entry) (given : List Stamp) → length (stamps journal given) ≡ length journal
as_many [] given = refl
as_many (e ∷ older) given = let k = as_many older (given_before e given) in omega arith

rises_by : (e : Entry) (given : Stamp) (before : List Stamp) (b : Bool) → follows e ≡ b →
    latest before ≤ (stamp_of e given before).moment
rises_by e given before true h = rw h (omega arith)
rises_by e given before false h =
    rw h (let a = le-max_right (said_moment e) (latest before) in
    let b = le-max_right given.moment (max (said_moment e) (latest before)) in omega arith)

-- a moment is never below that of the entry before
pub rises : (e : Entry) (older : List Entry) (given : List Stamp) →
    latest (stamps older (given_before e given)) ≤ latest (stamps (e ∷ older) given)
rises e older given = rises_by e (newest given) (stamps older (given_before e given)) (follows e) refl
