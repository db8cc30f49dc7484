-- where each grab stands once, a grab that a key's first press went to stands still exactly where none fell since
use Rattle.std.proofs.Common.{◌≡◌, ℕ, List, [], ◌∷◌, Bool, true, false, ◌||◌, not, ◌&&◌, Option, Some, None, refl, sym, ◌∙◌, ap}
use Rattle.std.specs.Prelude.{◌==◌, if◌then◌else◌}
use Rattle.std.proofs.lemmas.Bool.{eqb-true, eq-eqb, true≢false, false≢true, or_right, or_left, cond-true}
use Rattle.std.proofs.lemmas.Option.{none-some, same_Some}
use Rattle.kbd_grab.specs.declared.keyboard.Route.TheVariants.{ToGrab, Nowhere}
use Rattle.kbd_grab.specs.Keys.{Call, as_first, unless_fell, grab_standing, is_down, first_went, fell_since, stood, EachStandsOnce}
use Rattle.kbd_grab.specs.Keys.Call.{Stand, Fall, Key}

-- what has become of the grab that a first press went to
abbrev pub Fate : (standing : Option ℕ) (stood_once : ℕ → Bool) (fell : Bool) (went : Option ℕ) → Type 0
Fate standing stood_once fell None = Unit {0}
Fate standing stood_once true (Some label) = (stood_once label ≡ true) × (as_first standing (Some label) ≡ Nowhere)
Fate standing stood_once false (Some label) = (stood_once label ≡ true) × (standing ≡ Some label)

-- a grab that stands has stood
standing_stood : (calls : List Call) (label : ℕ) → grab_standing calls ≡ Some label → stood calls label ≡ true
standing_stood [] label e = absurd (none-some label e)
standing_stood (Stand other ∷ older) label e =
    or_left (other == label) (stood older label) (eq-eqb other label (same_Some other label e))
standing_stood (Fall ∷ older) label e = absurd (none-some label e)
standing_stood (_ ∷ older) label e = standing_stood older label e

at_first : (calls : List Call) (standing : Option ℕ) → grab_standing calls ≡ standing →
    Fate standing (stood calls) false standing
at_first calls None e = tt
at_first calls (Some label) e = (standing_stood calls label e, refl)

at_stand : (older : List Call) (other : ℕ) → grab_standing older ≡ None → stood older other ≡ false →
    (fell : Bool) (went : Option ℕ) → Fate (grab_standing older) (stood older) fell went →
    Fate (Some other) (stood (Stand other ∷ older)) fell went
at_stand older other none new fell None fate = tt
at_stand older other none new true (Some label) fate =
    (or_right (other == label) (stood older label) fate.0, apart (other == label) refl)
  where
    apart : (same : Bool) → (other == label) ≡ same → (if same then ToGrab label else Nowhere) ≡ Nowhere
    apart true e = absurd (true≢false (sym fate.0 ∙ ap (stood older) (sym (eqb-true other label e)) ∙ new))
    apart false e = refl
at_stand older other none new false (Some label) fate = absurd (none-some label (sym none ∙ fate.1))

at_fall : (older : List Call) (fell : Bool) (went : Option ℕ) → Fate (grab_standing older) (stood older) fell went →
    Fate None (stood older) true went
at_fall older fell None fate = tt
at_fall older true (Some label) fate = (fate.0, refl)
at_fall older false (Some label) fate = (fate.0, refl)

pub fate_of : (calls : List Call) (key : ℕ) → EachStandsOnce calls → is_down calls key ≡ true →
    Fate (grab_standing calls) (stood calls) (fell_since calls key) (first_went calls key)
fate_of [] key once down = tt
fate_of (Stand other ∷ older) key once down =
    at_stand older other once.0 once.1 (fell_since older key) (first_went older key) (fate_of older key once.2 down)
fate_of (Fall ∷ older) key once down =
    at_fall older (fell_since older key) (first_went older key) (fate_of older key once down)
fate_of (Key k true ∷ older) key once down =
    at older key (key == k) (is_down older key) refl _ down (λ h. fate_of older key once h)
  where
    at : (older : List Call) (key : ℕ) (here was : Bool) → is_down older key ≡ was → (room : Bool) →
        (if here then was || room else was) ≡ true →
        (is_down older key ≡ true →
        Fate (grab_standing older) (stood older) (fell_since older key) (first_went older key)) →
        Fate (grab_standing older) (stood older) (if here && not was then false else fell_since older key)
        (if here && not was then grab_standing older else first_went older key)
    at older key true true e room down later = later e
    at older key true false e room down later = at_first older (grab_standing older) refl
    at older key false was e room down later = later (e ∙ down)
fate_of (Key k false ∷ older) key once down = at (key == k) (is_down older key) _ down (λ h. fate_of older key once h)
  where
    at : (here was : Bool) (P : Type 0) → (if here then false else was) ≡ true → (was ≡ true → P) → P
    at true was P down later = absurd (false≢true down)
    at false was P down later = later down
fate_of (_ ∷ older) key once down = fate_of older key once down

-- so the two ways to say where a key that is down goes agree
pub as_first_is : (standing : Option ℕ) (stood_once : ℕ → Bool) (fell : Bool) (went : Option ℕ) →
    Fate standing stood_once fell went → as_first standing went ≡ unless_fell fell went
as_first_is standing stood_once fell None fate = refl
as_first_is standing stood_once true (Some label) fate = fate.1
as_first_is standing stood_once false (Some label) fate =
    ap (λ g. as_first g (Some label)) fate.1 ∙ cond-true (label == label) _ _ (eq-eqb label label refl)
