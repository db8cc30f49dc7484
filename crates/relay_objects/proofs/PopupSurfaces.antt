-- The surfaces of the listed popups are those of the live ones.
use Rattle.std.proofs.Common.{◌≡◌, ℕ, List, [], ◌∷◌, ◌++◌, Bool, ◌||◌, eqb, refl, ap, ◌∙◌}
use Rattle.std.specs.List.{list_any}
use Rattle.relay_model.specs.Objects.{is_at}
use Rattle.relay_objects.specs.declared.object.Object.{Object}
use Rattle.relay_objects.specs.declared.object.Kind.{Kind}
use Rattle.relay_objects.specs.declared.object.Kind.TheVariants.{Peer, Surface, Field, Method, Popup, Grab, Thing, Board}
use Rattle.relay_objects.specs.declared.listed.LivePopup.{LivePopup}
use Rattle.relay_objects.specs.Objects.{surface_of_kind, has_popup_in}
use Rattle.relay_objects.specs.Listed.{popup_of_kind, popups_of}

abbrev has : ℕ → LivePopup → Bool
has s w = eqb w.surface s

has_one : (s p x : ℕ) (k : Kind) (ws : List LivePopup) →
    list_any (has s) (popup_of_kind p x k ++ ws) ≡ (is_at (surface_of_kind k) s || list_any (has s) ws)
has_one s p x (Popup m t) ws = refl
has_one s p x Peer ws = refl
has_one s p x (Surface area) ws = refl
has_one s p x (Field kept) ws = refl
has_one s p x Method ws = refl
has_one s p x (Grab m) ws = refl
has_one s p x Thing ws = refl
has_one s p x Board ws = refl

pub surfaces_are : (s : ℕ) (os : List Object) → list_any (has s) (popups_of os) ≡ has_popup_in os s
surfaces_are s [] = refl
surfaces_are s (o ∷ os) =
    has_one s o.peer o.label o.kind (popups_of os) ∙ ap (λ b. is_at (surface_of_kind o.kind) s || b) (surfaces_are s os)
