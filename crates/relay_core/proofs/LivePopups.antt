-- The listed popups are told as the live ones.
use Rattle.std.proofs.Common.{◌≡◌, ℕ, List, [], ◌∷◌, ◌++◌, refl, ap, ◌∙◌}
use Rattle.std.specs.List.{flat_map}
use Rattle.popup_place.specs.declared.geometry.Rect.{Rect}
use Rattle.relay_objects.specs.declared.object.Object.{Object}
use Rattle.relay_objects.specs.declared.object.Kind.{Kind}
use Rattle.relay_objects.specs.declared.object.Kind.TheVariants.{Peer, Surface, Field, Method, Popup, Grab, Thing, Board}
use Rattle.relay_objects.specs.declared.listed.LivePopup.{LivePopup}
use Rattle.relay_objects.specs.Listed.{popup_of_kind, popups_of}
use Rattle.relay_core.specs.State.{State}
use Rattle.relay_core.specs.Popups.{live_told, kind_told, popup_told}

kind_listed : (s : State) (rect : Rect) (p x : ℕ) (k : Kind) (ws : List LivePopup) →
    flat_map (live_told s rect) (popup_of_kind p x k ++ ws) ≡ kind_told s rect x k ++ flat_map (live_told s rect) ws
kind_listed s rect p x (Popup m t) ws = refl
kind_listed s rect p x Peer ws = refl
kind_listed s rect p x (Surface area) ws = refl
kind_listed s rect p x (Field kept) ws = refl
kind_listed s rect p x Method ws = refl
kind_listed s rect p x (Grab m) ws = refl
kind_listed s rect p x Thing ws = refl
kind_listed s rect p x Board ws = refl

pub listed_told : (s : State) (rect : Rect) (os : List Object) →
    flat_map (live_told s rect) (popups_of os) ≡ flat_map (popup_told s rect) os
listed_told s rect [] = refl
listed_told s rect (o ∷ os) =
    kind_listed s rect o.peer o.label o.kind (popups_of os)
    ∙ ap (λ ts. popup_told s rect o ++ ts) (listed_told s rect os)
