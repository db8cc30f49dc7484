-- from the numbers that the code makes to the rule
use Rattle.std.proofs.Common.{◌≡◌, ◌∙◌, ap, subst, ◌⊎◌, inl, inr, IsTrue, ℤ, pos, ◌≤ℤ◌, ◌+ℤ◌, ◌-ℤ◌, FitsSigned, to_z, of_z, w64}
use Rattle.std.specs.Int.{w32, saturate_signed}
use Rattle.std.proofs.lemmas.Int.{to_z-of_z}
use Rattle.popup_place.specs.declared.popup.Placed.{Placed}
use Rattle.popup_place.specs.declared.geometry.Size.{Size}
use Rattle.popup_place.specs.Popup.{y_of, fits}
use Rattle.popup_place.proofs.SumsFit.{made, made_is, wide, three_sum_is, three_difference_is}

-- an i32 as a goal writes it
abbrev pub kept : ℤ → ℤ
kept a = to_z w32 (of_z w32 a)

pub kept_is : (a : ℤ) → FitsSigned w32 a → kept a ≡ a
kept_is a p = to_z-of_z w32 a p

-- what the popup sees of an edge, where the code's sum is `edge` and its own corner is `corner`
pub seen_is : (edge sum corner corner' seen : ℤ) → sum ≡ edge → FitsSigned w64 corner → corner ≡ corner' →
    FitsSigned w64 (sum -ℤ made corner) → FitsSigned w32 seen → seen ≡ saturate_signed w32 (made (sum -ℤ made corner)) →
    kept seen ≡ saturate_signed w32 (edge -ℤ corner')
seen_is edge sum corner corner' seen e p f q r g =
    kept_is seen r ∙ g
    ∙ ap (saturate_signed w32)
    (made_is (sum -ℤ made corner) q ∙ ap (λ v. sum -ℤ v) (made_is corner p ∙ f) ∙ ap (λ v. v -ℤ corner') e)

-- the choice between under and above, over the code's two sums
pub y_of_sums : (screen size : Size) (a b h k y : ℤ) → FitsSigned w32 a → FitsSigned w32 b → FitsSigned w32 h →
    FitsSigned w32 k →
    y ≡ y_of screen size (made (made (wide a +ℤ wide b) +ℤ wide h)) (made (made (wide a +ℤ wide b) -ℤ wide k)) →
    y ≡ y_of screen size ((a +ℤ b) +ℤ h) ((a +ℤ b) -ℤ k)
y_of_sums screen size a b h k y p q r s e =
    e
    ∙ ap (λ u. y_of screen size u (made (made (wide a +ℤ wide b) -ℤ wide k))) (three_sum_is a b h p q r)
    ∙ ap (λ v. y_of screen size ((a +ℤ b) +ℤ h) v) (three_difference_is a b k p q s)

-- six numbers make a place
placed : (x y left top width height : ℤ) → Placed
placed x y left top width height = record {
  x = x;
  y = y;
  seen = record { x = left; y = top; width = width; height = height };
}

pub placed_same : (x y left top width height x' y' left' top' width' height' : ℤ) → x ≡ x' → y ≡ y' → left ≡ left' →
    top ≡ top' → width ≡ width' → height ≡ height' →
    ◌≡◌ {A = Placed} (record { x = x; y = y; seen = record { x = left; y = top; width = width; height = height } })
    (record { x = x'; y = y'; seen = record { x = left'; y = top'; width = width'; height = height' } })
unfolding placed
placed_same x y left top width height x' y' left' top' width' height' a b d e f g =
    ap (λ v. placed v y left top width height) a
    ∙ ap (λ v. placed x' v left top width height) b
    ∙ ap (λ v. placed x' y' v top width height) d
    ∙ ap (λ v. placed x' y' left' v width height) e
    ∙ ap (λ v. placed x' y' left' top' v height) f
    ∙ ap (λ v. placed x' y' left' top' width' v) g

-- a popup stays within a length of the screen at any edge that equals one where it does
pub within_same : (edge edge' length screen : ℤ) → edge ≡ edge' → (pos 0 ≤ℤ edge') × (edge' +ℤ length) ≤ℤ screen →
    (pos 0 ≤ℤ edge) × (edge +ℤ length) ≤ℤ screen
within_same edge edge' length screen e inside = rw e inside

-- what fits at one of two places fits at one of two that equal them
pub fitting_same : (screen size : Size) (under above under' above' : ℤ) → under ≡ under' → above ≡ above' →
    IsTrue (fits screen size under) ⊎ IsTrue (fits screen size above) →
    IsTrue (fits screen size under') ⊎ IsTrue (fits screen size above')
fitting_same screen size under above under' above' e f (inl h) =
    let At : ℤ → Type 0 = λ y. IsTrue (fits screen size y) in inl (subst At e h)
fitting_same screen size under above under' above' e f (inr h) =
    let At : ℤ → Type 0 = λ y. IsTrue (fits screen size y) in inr (subst At f h)
