-- Laws of popups.
use Rattle.std.proofs.Common.{◌≡◌, ℕ, List, [], false, Option, Some, None, refl}
use Rattle.std.specs.Prelude.{◌&&◌, is_some}
use Rattle.std.proofs.lemmas.Bool.{true≢false}
use Rattle.popup_place.specs.declared.geometry.Rect.{Rect}
use Rattle.relay_model.specs.declared.act.Act.{Act}
use Rattle.relay_model.specs.Popups.{cursor, ready_surface, told_where, popup_shown, popup_told}

unshown_where : (log : List Act) (x : ℕ) (s : Option ℕ) (rect : Option Rect) → (is_some s && is_some rect) ≡ false →
    told_where log x s rect ≡ []
unshown_where log x None rect e = refl
unshown_where log x (Some s) None e = refl
unshown_where log x (Some s) (Some rect) e = absurd (true≢false e)

-- nothing is told of a popup that isn't shown
pub unshown : (log : List Act) (x : ℕ) → popup_shown log x ≡ false → popup_told log x ≡ []
unshown log x e = unshown_where log x (ready_surface log x) (cursor log) e
