-- The events of a queue with their texts.
use Rattle.std.proofs.Common.{◌≡◌, ℕ, ◌+◌, ◌≤◌, List, [], ◌∷◌, ◌++◌, length, take, drop, Some, None, refl, ap, subst, ◌∙◌, arith, length-drop}
use Rattle.std.specs.Prelude.{slice_get}
use Rattle.std.proofs.lemmas.List.{take-append-le, drop-append-le, length-take-le}
use Rattle.std.proofs.Math.Seq.{take-length}
use Rattle.c_relay.specs.declared.event.Event.{Event}
use Rattle.c_relay.specs.Events.{Heard}
use Rattle.c_relay.specs.Waiting.{heard_from, lengths, IsFirst}

pub lengths_push : (es : List Event) (e : Event) → lengths (es ++ e ∷ []) ≡ lengths es + e.length
lengths_push [] e = omega arith
lengths_push (x ∷ xs) e = omega (arith, lengths_push xs e)

same_heard : (e : Event) (s t : List ℕ) (xs ys : List Heard) → s ≡ t → xs ≡ ys →
    ◌≡◌ {A = List Heard} (record { event = e; text = s } ∷ xs) (record { event = e; text = t } ∷ ys)
same_heard e s t xs ys p q = cc

last_heard : (bytes text : List ℕ) (e : Event) → 0 ≡ length bytes → e.length ≡ length text →
    heard_from (e ∷ []) (bytes ++ text) ≡ record { event = e; text = text } ∷ []
last_heard [] text e h k =
    same_heard e (take e.length text) text [] [] (ap (λ n. take n text) k ∙ take-length text) refl
last_heard (b ∷ bytes) text e h k = let none : ⊥ = omega (arith, h) in absurd none

-- an event that is put behind the others
pub heard_push : (es : List Event) (bytes : List ℕ) (e : Event) (text : List ℕ) → lengths es ≡ length bytes →
    e.length ≡ length text →
    heard_from (es ++ e ∷ []) (bytes ++ text) ≡ heard_from es bytes ++ record { event = e; text = text } ∷ []
heard_push [] bytes e text h k = last_heard bytes text e h k
heard_push (x ∷ xs) bytes e text h k =
    let le : x.length ≤ length bytes = omega (arith, h) in
    same_heard x (take x.length (bytes ++ text)) (take x.length bytes) _ _ (take-append-le x.length bytes text le)
    (ap (heard_from (xs ++ e ∷ [])) (drop-append-le x.length bytes text le) ∙
    heard_push xs (drop x.length bytes) e text (omega (arith, h, length-drop x.length bytes)) k)

pub first_some : (es : List Event) (bytes : List ℕ) (e : Event) → lengths es ≡ length bytes → Some e ≡ slice_get es 0 →
    IsFirst (heard_from es bytes) (Some e)
first_some [] bytes e l h = let none : ⊥ = cc in absurd none
first_some (x ∷ xs) bytes e l h =
    let same : x ≡ e = cc in
    subst (λ (v : Event). IsFirst (heard_from (x ∷ xs) bytes) (Some v)) same
    (take x.length bytes, heard_from xs (drop x.length bytes), refl, length-take-le x.length bytes (omega (arith, l)))

pub first_none : (es : List Event) (bytes : List ℕ) → None ≡ slice_get es 0 → heard_from es bytes ≡ []
first_none [] bytes h = refl
first_none (x ∷ xs) bytes h = let none : ⊥ = cc in absurd none
