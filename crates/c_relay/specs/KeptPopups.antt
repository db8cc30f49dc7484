-- What is kept of the popups that live, so that it is known which an act hides.
use Rattle.std.specs.Prelude.{◌≡◌, ℕ, List, [], ◌∷◌, Bool, true, false, ◌&&◌, ◌||◌, if◌then◌else◌, Option, Some, None, is_some}
use Rattle.std.specs.List.{flat_map, list_any}
use Rattle.relay_model.specs.declared.act.Act.{Act}
use Rattle.relay_model.specs.declared.act.Act.TheVariants as acts
use Rattle.relay_model.specs.declared.said.Told.{Told}
use Rattle.relay_model.specs.declared.said.Said.{Said}
use Rattle.relay_model.specs.declared.said.Said.TheVariants as said
use Rattle.relay_model.specs.Objects.{Kind, Object, PopupKind, is_at, alive, object, labels, next}
use Rattle.relay_model.specs.Hold.{holder}
use Rattle.relay_model.specs.Activation.{serving}
use Rattle.relay_model.specs.Popups.{popup_shown}
use Rattle.relay_model.specs.Told.{told_by, told}
use Rattle.relay_model.specs.Idle.{history, is_live}
use Rattle.relay_core.specs.Kept.{Shown}
use Rattle.relay_core.specs.Stands.{StandsFor}
use Rattle.c_relay.specs.declared.popups.KeptPopup.{KeptPopup}
use Rattle.c_relay.specs.declared.popups.Turn.{Turn}

-- what is kept of an object, if it is a popup
abbrev pub kept_kind : List Act → ℕ → Kind → List KeptPopup
kept_kind log x (PopupKind m s) =
    record { label = x; method = m; surface = s; is_shown = popup_shown log x; is_alive = true } ∷ []
kept_kind log x _ = []

abbrev pub kept_object : List Act → ℕ → Option Object → List KeptPopup
kept_object log x None = []
kept_object log x (Some o) = kept_kind log x o.kind

abbrev pub kept_at : List Act → ℕ → List KeptPopup
kept_at log x = kept_object log x (object log x)

-- what is kept of the popups that live, by rising label
abbrev pub kept_popups : List Act → List KeptPopup
kept_popups log = flat_map (kept_at log) (labels log)

-- it is told where a popup stands
abbrev pub is_place : Said → Bool
is_place (said.Placed popup x y) = true
is_place _ = false

abbrev pub tells_place : Told → Bool
tells_place t = is_place t.event

-- the act is a commit of the field that holds after it
abbrev pub is_holders : Act → Option ℕ → Bool
is_holders (acts.Commit f) holds = is_at holds f
is_holders _ holds = false

-- what the act means for the popups that lived before it: a commit of the holder shows those that
-- are ready or none, and any other act at most hides some
abbrev pub turn_of : (shows told holds : Bool) → Turn
turn_of shows told holds =
    record { shows = shows; has_cursor = if shows then told else holds }

-- the same of an act after a history
abbrev pub turn_by : Act → List Act → Turn
turn_by act log =
    turn_of (is_holders act (holder (act ∷ log))) (list_any tells_place (told_by act log))
    (is_some (holder (act ∷ log)))

-- the popup is shown after the act
abbrev pub stays : List Act → Turn → KeptPopup → Bool
stays log t p =
    (p.is_shown || t.shows) && t.has_cursor && is_at (serving log) p.method && alive log p.label
    && alive log p.surface

-- a popup that is kept, after an act
abbrev pub turned : List Act → Turn → KeptPopup → KeptPopup
turned log t p = record p { is_shown = stays log t p; is_alive = alive log p.label }

-- the label of a popup that was shown and isn't
abbrev pub hides : List Act → Turn → KeptPopup → List ℕ
hides log t p = if p.is_shown then (if stays log t p then [] else p.label ∷ []) else []

-- what is kept of the popup that the act makes
abbrev pub made_popup : Act → ℕ → Bool → List KeptPopup
made_popup (acts.Popup m s) n told =
    record { label = n; method = m; surface = s; is_shown = told; is_alive = true } ∷ []
made_popup _ n told = []

-- it, if there is one, as a list
abbrev pub listed : Option KeptPopup → List KeptPopup
listed None = []
listed (Some popup) = popup ∷ []

-- the act may make, end, show or hide a popup
abbrev pub moves : Act → Bool
moves (acts.Gone p cause) = true
moves (acts.Popup m s) = true
moves (acts.Drop x) = true
moves (acts.Focus s) = true
moves acts.Unfocus = true
moves (acts.Commit f) = true
moves _ = false

-- what is kept, and room for so many more
pub record Tracked : Type 0 where
  pub kept : List KeptPopup
  pub room : ℕ

-- an act comes next that does something, with its number, and what is kept is what the acts say
pub record IsBefore (relay : Shown) (kept : List KeptPopup) (act : Act) (number : ℕ) (log : List Act)
    : Type 0 where
  pub stands : StandsFor relay log
  pub were : kept ≡ kept_popups (history log)
  pub live : is_live act (history log) ≡ true
  pub numbered : number ≡ next (history log)

-- The relay took an act that does something, with the number that comes next. What is kept is what
-- was kept before it, and it told a place or not.
pub record Taken (kept : List KeptPopup) (act : Act) (number : ℕ) (told_place : Bool) (relay : Shown)
    (log : List Act) : Type 0 where
  pub before : kept ≡ kept_popups (history log)
  pub live : is_live act (history log) ≡ true
  pub numbered : number ≡ next (history log)
  pub told : told_place ≡ list_any tells_place (told act log)
  pub stands : StandsFor relay (act ∷ log)
