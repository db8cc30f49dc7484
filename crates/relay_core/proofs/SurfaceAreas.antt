-- Where surfaces are on the screen, and what isn't a surface.
use Rattle.std.proofs.Common.{◌≡◌, ℕ, ◌<◌, ◌≤◌, List, [], ◌∷◌, length, Bool, true, false, Option, Some, None, ap, refl, sym, ◌∙◌, arith, inl, inr}
use Rattle.std.specs.Prelude.{◌==◌, if◌then◌else◌}
use Rattle.std.proofs.lemmas.Bool.{ne_eqb, cases_lt, true≢false}
use Rattle.relay_model.specs.declared.act.Act.{Act}
use Rattle.relay_model.specs.declared.act.Act.TheVariants as acts
use Rattle.relay_model.specs.Objects.{Object, is_at, is_kind, is_surface_kind, is_surface, owner, remains, object}
use Rattle.relay_model.specs.Popups.{area}
use Rattle.relay_model.proofs.ActsOrIdle.{IsHistory, live}
use Rattle.relay_model.proofs.ObjectLaws.{object_step, kind_within}
use Rattle.relay_objects.specs.Objects.{no_area}

-- a label that isn't made yet has no area
pub area_beyond : (log : List Act) (x : ℕ) → IsHistory log → length log < x → area log x ≡ no_area
area_beyond [] x h l = refl
area_beyond (acts.Area t rect ∷ older) x h l =
    let there : is_surface older t ≡ true =
    live (acts.Area t rect) older h.0 (λ (d : acts.Area t rect ≡ acts.Idle). cc) in
    let w : t ≤ length older = kind_within is_surface_kind older t there in
    rw (ne_eqb t x (λ e. omega arith)) (area_beyond older x h.1 (omega arith))
area_beyond (_ ∷ older) x h l = area_beyond older x h.1 (omega arith)

-- what an act leaves was there before it, and the same
remained : (act : Act) (x : ℕ) (o : Option Object) (thing : Object) → remains act x o ≡ Some thing → o ≡ Some thing
remained (acts.Drop y) x o thing e = at (y == x) o thing e
  where
    at : (b : Bool) (o : Option Object) (thing : Object) → (if b then None else o) ≡ Some thing → o ≡ Some thing
    at true o thing e = cc
    at false o thing e = e
remained (acts.Gone p cause) x o thing e = at (is_at (owner o) p) o thing e
  where
    at : (b : Bool) (o : Option Object) (thing : Object) → (if b then None else o) ≡ Some thing → o ≡ Some thing
    at true o thing e = cc
    at false o thing e = e
remained _ x o thing e = e

not_here : (older : List Act) (t x : ℕ) (thing : Object) → is_surface older t ≡ true → object older x ≡ Some thing →
    is_surface_kind thing.kind ≡ false → (t == x) ≡ false
not_here older t x thing s e k =
    ne_eqb t x (λ d. true≢false (sym (ap (λ y. is_surface older y) (sym d) ∙ s) ∙ ap (is_kind is_surface_kind) e ∙ k))

-- an object that is no surface has no area
pub area_other : (log : List Act) (x : ℕ) (thing : Object) → IsHistory log → object log x ≡ Some thing →
    is_surface_kind thing.kind ≡ false → area log x ≡ no_area
area_other [] x thing h e k = refl
area_other (act ∷ older) x thing h e k =
    elim (cases_lt (length older) x) [
      | inl l ↦ area_new act older x thing h l e
      | inr w ↦ area_kept act older x thing h
          (remained act x (object older x) thing (sym (object_step act older x w) ∙ e)) k
          (λ d. area_other older x thing h.1 d k)
    ]
  where
    area_new : (act : Act) (older : List Act) (x : ℕ) (thing : Object) → IsHistory (act ∷ older) → length older < x →
        object (act ∷ older) x ≡ Some thing →
        area (act ∷ older) x ≡ no_area
    area_new (acts.Area t rect) older x thing h l e =
        let there : is_surface older t ≡ true =
        live (acts.Area t rect) older h.0 (λ (d : acts.Area t rect ≡ acts.Idle). cc) in
        let w : t ≤ length older = kind_within is_surface_kind older t there in
        rw (ne_eqb t x (λ q. omega arith)) (area_beyond older x h.1 l)
    area_new _ older x thing h l e = area_beyond older x h.1 l

    area_kept : (act : Act) (older : List Act) (x : ℕ) (thing : Object) → IsHistory (act ∷ older) →
        object older x ≡ Some thing → is_surface_kind thing.kind ≡ false →
        (object older x ≡ Some thing → area older x ≡ no_area) → area (act ∷ older) x ≡ no_area
    area_kept (acts.Area t rect) older x thing h e k again =
        let there : is_surface older t ≡ true =
        live (acts.Area t rect) older h.0 (λ (d : acts.Area t rect ≡ acts.Idle). cc) in
        rw (not_here older t x thing there e k) (again e)
    area_kept _ older x thing h e k again = again e
