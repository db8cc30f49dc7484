-- A tally stays, where its owner notes nothing
use Rattle.std.proofs.Common.{◌≡◌, ◌≢◌, ℕ, ◌+◌, Bool, true, false, [], ◌∷◌, ◌++◌, Some, None, refl, ap, sym, ◌∙◌}
use Rattle.std.specs.Prelude.{◌==◌, if◌then◌else◌, Option, option_map}
use mathlib.Core.Logic.{dite}
use native.Mathlib.Decide.{ℕ_discrete}
use Rattle.std.proofs.lemmas.Bool.{ne_eqb, eq-eqb}
use Rattle.std.proofs.lemmas.Option.{same_Some}
use Rattle.turn_lock.specs.Pairs.{own, NoneOf}
use Rattle.turn_lock.proofs.PairsOfNumbers.{own-here, own-else}
use Rattle.hub_lock.specs.declared.event.Event.{Event}
use Rattle.hub_lock.specs.declared.event.Event.TheVariants as events
use Rattle.hub_lock.specs.declared.event.Note.{Note}
use Rattle.hub_lock.specs.declared.event.Note.TheVariants as notes
use Rattle.hub_lock.specs.Events.{Events, Tally, named_in, handed_to, tally_by, tally_noted, tally_from, tally_of, owner_of}

tally-append : (t : Tally) (xs ys : Events) → tally_from t (xs ++ ys) ≡ tally_from (tally_from t xs) ys
tally-append t [] ys = refl
tally-append t (x ∷ xs) ys = tally-append (tally_by x.0 x.1 t) xs ys

pub tally-one : (h : Events) (n : ℕ) (e : Event) → tally_of (h ++ (n, e) ∷ []) ≡ tally_by n e (tally_of h)
tally-one h n e = tally-append None h ((n, e) ∷ [])

other-noted : (m : ℕ) (note : Note) (t : Tally) → m ≢ owner_of t → tally_noted m note t ≡ t
other-noted m (notes.Names n) None other = ap (λ b. if b then Some (n, 0) else None) (ne_eqb m 0 other)
other-noted m (notes.Names n) (Some t) other = refl
other-noted m notes.HandsOut None other = refl
other-noted m notes.HandsOut (Some t) other =
    ap (λ b. Some (if b then (t.0, t.1 + 1) else t)) (ne_eqb m t.0 other)

other-by : (m : ℕ) (e : Event) (t : Tally) → m ≢ owner_of t → tally_by m e t ≡ t
other-by m (events.Step s) t other = refl
other-by m (events.Noted note) t other = other-noted m note t other

pub tally-stays : (t : Tally) (h : Events) → NoneOf (owner_of t) h → tally_from t h ≡ t
tally-stays t [] free = refl
tally-stays t (x ∷ h) free = dite (ℕ_discrete x.0 (owner_of t))
    (λ e. let e' : x.1 ∷ own (owner_of t) h ≡ [] = sym (own-here (owner_of t) x h e) ∙ free in absurd (cc))
    (λ other. ap (λ z. tally_from z h) (other-by x.0 x.1 t other)
    ∙ tally-stays t h (sym (own-else (owner_of t) x h other) ∙ free))

-- an event leaves who records
kept-by : (m : ℕ) (e : Event) (t : ℕ × ℕ) → (s : ℕ × ℕ) × (tally_by m e (Some t) ≡ Some s) × (s.0 ≡ t.0)
kept-by m (events.Step step) t = (t, refl, refl)
kept-by m (events.Noted (notes.Names n)) t = (t, refl, refl)
kept-by m (events.Noted notes.HandsOut) t = (handed_to m t, refl, by (m == t.0))
  where
    by : (b : Bool) → (if b then (t.0, t.1 + 1) else t).0 ≡ t.0
    by true = refl
    by false = refl

recorder-stays : (t u : ℕ × ℕ) (h : Events) → tally_from (Some t) h ≡ Some u → u.0 ≡ t.0
recorder-stays t u [] e = ap (λ (x : ℕ × ℕ). x.0) (sym (same_Some t u e))
recorder-stays t u (x ∷ h) e =
    let k = kept-by x.0 x.1 t in
    recorder-stays k.0 u h (ap (λ z. tally_from z h) (sym k.1) ∙ e) ∙ k.2

-- who records was handed one more
pub handed-one : (n k : ℕ) → tally_noted n notes.HandsOut (Some (n, k)) ≡ Some (n, k + 1)
handed-one n k = ap (λ b. Some (if b then (n, k + 1) else (n, k))) (eq-eqb n n refl)

-- the tally of what was seen more, of which the owner made nothing
pub tally-seen : (seen rest : Events) (t : Tally) → tally_of seen ≡ t → NoneOf (owner_of t) rest
    → tally_of (seen ++ rest) ≡ t
tally-seen seen rest t is free =
    tally-append None seen rest ∙ ap (λ z. tally_from z rest) is ∙ tally-stays t rest free

-- who records past what was seen, where the root named nobody, recorded before
pub recorder-before : (seen rest : Events) (u : ℕ × ℕ) → NoneOf 0 rest → tally_of (seen ++ rest) ≡ Some u
    → (t : ℕ × ℕ) × (tally_of seen ≡ Some t) × (u.0 ≡ t.0)
recorder-before seen rest u free e = by (tally_of seen) refl
  where
    by : (o : Tally) → tally_of seen ≡ o → (t : ℕ × ℕ) × (tally_of seen ≡ Some t) × (u.0 ≡ t.0)
    by None is = let never = sym (tally-seen seen rest None is free) ∙ e in absurd (cc)
    by (Some t) is = (
      t,
      is,
      recorder-stays t u rest (ap (λ z. tally_from z rest) (sym is) ∙ sym (tally-append None seen rest) ∙ e),
    )

-- whom a history names stays named past it

abbrev name : Tally → Option ℕ
name t = option_map (λ (x : ℕ × ℕ). x.0) t

named-from : (t : ℕ × ℕ) (h : Events) → option_map (λ (x : ℕ × ℕ). x.0) (tally_from (Some t) h) ≡ Some t.0
named-from t [] = refl
named-from t (x ∷ h) =
    let k = kept-by x.0 x.1 t in
    ap (λ z. option_map (λ (x : ℕ × ℕ). x.0) (tally_from z h)) k.1 ∙ named-from k.0 h ∙ ap (λ n. Some n) k.2

pub named-stays : (seen rest : Events) → NoneOf 0 rest → named_in (seen ++ rest) ≡ named_in seen
named-stays seen rest free = by (tally_of seen) refl
  where
    by : (o : Tally) → tally_of seen ≡ o → named_in (seen ++ rest) ≡ named_in seen
    by None is = ap name (tally-seen seen rest None is free) ∙ sym (ap name is)
    by (Some t) is =
        ap name (tally-append None seen rest ∙ ap (λ z. tally_from z rest) is) ∙ named-from t rest ∙ sym (ap name is)
