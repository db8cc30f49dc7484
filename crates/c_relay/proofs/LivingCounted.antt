-- How many live objects are counted.
use Rattle.std.proofs.Common.{◌≡◌, ℕ, suc, ◌+◌, List, [], ◌∷◌, length, Bool, true, false, Option, Some, None, refl, ap, sym, ◌∙◌, arith}
use Rattle.std.specs.Prelude.{◌==◌, ◌&&◌, if◌then◌else◌, filter, not, count_by, nat_le, option_map}
use Rattle.std.proofs.lemmas.List.Sums.{length-filter}
use Rattle.relay_model.specs.declared.act.Act.{Act}
use Rattle.relay_model.specs.Objects.{Object, is_kind, is_peer_kind, labels, made, maker, next, object}
use Rattle.c_relay.specs.declared.census.Living.{Living}
use Rattle.c_relay.specs.Living.{living_of, in_front, living_at, living, belongs, peers_in, objects_in, owner_in, crowds, over_for, is_over}
use Rattle.c_relay.specs.declared.census.SeatLimits.{SeatLimits}
use Rattle.c_relay.proofs.LivingAfterAct.{owner_is}

-- a test of what is counted, and the same test of an object that is there
abbrev tests : (Living → Bool) → (Object → Bool) → Type 0
tests p q = (x : ℕ) (o : Object) → p (living_of x o) ≡ q o

abbrev there : (Object → Bool) → Option Object → Bool
there q None = false
there q (Some o) = q o

counted_one : (b : Bool) (p : Living → Bool) (l : Living) (ls : List Living) (x : ℕ) (xs : List ℕ) → p l ≡ b →
    length (filter p ls) ≡ length xs → length (filter p (l ∷ ls)) ≡ length (if b then x ∷ xs else xs)
counted_one true p l ls x xs e h = rw e (ap suc h)
counted_one false p l ls x xs e h = rw e h

counted_front : (p : Living → Bool) (q : Object → Bool) → tests p q → (x : ℕ) (o : Option Object) (ls : List Living)
    (xs : List ℕ) → length (filter p ls) ≡ length xs →
    length (filter p (in_front x o ls)) ≡ length (if there q o then x ∷ xs else xs)
counted_front p q same x None ls xs h = h
counted_front p q same x (Some o) ls xs h = counted_one (q o) p (living_of x o) ls x xs (same x o) h

counted_at : (p : Living → Bool) (q : Object → Bool) → tests p q → (at : ℕ → Option Object) (xs : List ℕ) →
    length (filter p (living_at at xs)) ≡ length (filter (λ x. there q (at x)) xs)
counted_at p q same at [] = refl
counted_at p q same at (x ∷ xs) =
    counted_front p q same x (at x) (living_at at xs) (filter (λ y. there q (at y)) xs) (counted_at p q same at xs)

same_filter : (f g : ℕ → Bool) → ((x : ℕ) → f x ≡ g x) → (xs : List ℕ) → filter f xs ≡ filter g xs
same_filter f g same [] = refl
same_filter f g same (x ∷ xs) =
    ap (λ b. if b then x ∷ filter f xs else filter f xs) (same x)
    ∙ ap (λ ys. if g x then x ∷ ys else ys) (same_filter f g same xs)

peer_there : (o : Option Object) → there (λ o. is_peer_kind o.kind) o ≡ is_kind is_peer_kind o
peer_there None = refl
peer_there (Some o) = refl

pub peers_counted : (log : List Act) → count_by (λ (l : Living). l.is_peer) (living log) ≡ peers_in log
peers_counted log =
    sym (length-filter (λ (l : Living). l.is_peer) (living log))
    ∙ counted_at (λ l. l.is_peer) (λ o. is_peer_kind o.kind) (λ x o. refl) (object log) (labels log)
    ∙ ap length (same_filter (λ x. there (λ o. is_peer_kind o.kind) (object log x))
    (λ x. is_kind is_peer_kind (object log x)) (λ x. peer_there (object log x)) (labels log))

object_there : (p : ℕ) (o : Option Object) →
    there (λ o. (o.peer == p) && not (is_peer_kind o.kind)) o ≡ belongs p o
object_there p None = refl
object_there p (Some o) = refl

pub objects_counted : (log : List Act) (p : ℕ) →
    count_by (λ (l : Living). (l.peer == p) && not l.is_peer) (living log) ≡ objects_in log p
objects_counted log p =
    sym (length-filter (λ (l : Living). (l.peer == p) && not l.is_peer) (living log))
    ∙ counted_at (λ l. (l.peer == p) && not l.is_peer) (λ o. (o.peer == p) && not (is_peer_kind o.kind)) (λ x o. refl)
    (object log) (labels log)
    ∙ ap length (same_filter (λ x. there (λ o. (o.peer == p) && not (is_peer_kind o.kind)) (object log x))
    (λ x. belongs p (object log x)) (λ x. object_there p (object log x)) (labels log))

-- one too many is made, by what is counted

over_made : (limits : SeatLimits) (log : List Act) (n : ℕ) (o : Option Object) →
    crowds limits (living log) (option_map (living_of n) o) ≡ over_for limits log o
over_made limits log n None = refl
over_made limits log n (Some o) =
    ap (λ k. if is_peer_kind o.kind then nat_le limits.peers k else nat_le limits.objects
    (count_by (λ (l : Living). (l.peer == o.peer) && not l.is_peer) (living log))) (peers_counted log)
    ∙ ap (λ k. if is_peer_kind o.kind then nat_le limits.peers (peers_in log) else nat_le limits.objects k)
    (objects_counted log o.peer)

pub over_is : (limits : SeatLimits) (act : Act) (n : ℕ) (ls : List Living) (one : Option Living) (log : List Act) →
    ls ≡ living log → n ≡ next log → one ≡ option_map (living_of n) (made act n (owner_in ls (maker act))) →
    crowds limits ls one ≡ is_over limits act log
over_is limits act n ls one log same number is =
    ap (crowds limits ls) is
    ∙ ap (λ (l : List Living). crowds limits l (option_map (living_of n) (made act n (owner_in l (maker act))))) same
    ∙ over_made limits log n (made act n (owner_in (living log) (maker act)))
    ∙ ap (λ k. over_for limits log (made act k (owner_in (living log) (maker act)))) number
    ∙ ap (λ w. over_for limits log (made act (next log) w)) (owner_is log (maker act))
