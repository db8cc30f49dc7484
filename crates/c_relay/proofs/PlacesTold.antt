-- The places that an act tells.
use Rattle.std.proofs.Common.{◌≡◌, ℕ, ◌+◌, List, [], ◌∷◌, ◌++◌, length, map, filter, Bool, true, false, Option, Some, None, ap, refl, sym, ◌∙◌}
use Rattle.std.specs.Prelude.{◌==◌, ◌&&◌, ◌||◌, if◌then◌else◌, is_some}
use Rattle.std.specs.List.{flat_map, list_any}
use Rattle.std.proofs.lemmas.Bool.{eqb-true}
use Rattle.std.proofs.lemmas.List.Folds.{list_any-append}
use Rattle.relay_objects.specs.Rect.{Rect}
use Rattle.relay_model.specs.declared.act.Act.{Act}
use Rattle.relay_model.specs.declared.act.Act.TheVariants as acts
use Rattle.relay_model.specs.declared.said.Told.{Told}
use Rattle.relay_model.specs.declared.said.Said.TheVariants as said
use Rattle.relay_model.specs.Objects.{Object, is_at, owner, made, maker, remains, object, alive, labels, popups, next}
use Rattle.relay_model.specs.Hold.{holder}
use Rattle.relay_model.specs.Current.{Around, State, current}
use Rattle.relay_model.specs.Activation.{Notice, Activates, Updates, Deactivates, serving, notice}
use Rattle.relay_model.specs.Popups.{cursor, ready_surface, popup_shown, told_where, popup_told, each_popup}
use Rattle.relay_model.specs.Events.{to}
use Rattle.relay_model.specs.Told.{around_said, state_said, holders_state, notice_said, to_method, told_by}
use Rattle.relay_model.proofs.ObjectLaws.{remains_none}
use Rattle.c_relay.specs.KeptPopups.{tells_place}

-- ---- places that are told

places_append : (xs ys : List Told) → list_any tells_place (xs ++ ys)
    ≡ (list_any tells_place xs || list_any tells_place ys)
places_append xs ys = list_any-append tells_place xs ys

where_told : (log : List Act) (x : ℕ) (s : Option ℕ) (rect : Option Rect) →
    list_any tells_place (told_where log x s rect) ≡ (is_some s && is_some rect)
where_told log x None rect = refl
where_told log x (Some s) None = refl
where_told log x (Some s) (Some rect) = refl

-- of a popup a place is told where it is shown
shown_told : (log : List Act) (x : ℕ) → list_any tells_place (popup_told log x) ≡ popup_shown log x
shown_told log x = where_told log x (ready_surface log x) (cursor log)

-- none is told to a method

state_places : (m : ℕ) (s : State) → list_any tells_place (map (to m) (state_said s)) ≡ false
state_places m s = at s.surrounding
  where
    at : (o : Option Around) →
        list_any tells_place (map (to m) (around_said o s.cause
        ++ (said.ContentType s.content.hint s.content.purpose ∷ said.MethodDone ∷ []))) ≡ false
    at None = refl
    at (Some a) = refl

holders_places : (m : ℕ) (log : List Act) (o : Option ℕ) →
    list_any tells_place (map (to m) (holders_state log o)) ≡ false
holders_places m log None = refl
holders_places m log (Some h) = state_places m (current log h)

notice_places : (m : ℕ) (log : List Act) (n : Option Notice) →
    list_any tells_place (map (to m) (notice_said log n)) ≡ false
notice_places m log None = refl
notice_places m log (Some Activates) = holders_places m log (holder log)
notice_places m log (Some Updates) = holders_places m log (holder log)
notice_places m log (Some Deactivates) = refl

method_places : (act : Act) (log : List Act) (o : Option ℕ) → list_any tells_place (to_method act log o) ≡ false
method_places act log None = refl
method_places act log (Some m) = notice_places m (act ∷ log) (notice act log)

any_flat : {X A : Type 0} (test : A → Bool) (f : X → List A) (xs : List X) →
    list_any test (flat_map f xs) ≡ list_any (λ x. list_any test (f x)) xs
any_flat test f [] = refl
any_flat test f (x ∷ xs) =
    list_any-append test (f x) (flat_map f xs) ∙ ap (λ b. list_any test (f x) || b) (any_flat test f xs)

pub any_same : {X : Type 0} (f g : X → Bool) (xs : List X) → ((x : X) → f x ≡ g x) → list_any f xs ≡ list_any g xs
any_same f g [] h = refl
any_same f g (x ∷ xs) h =
    ap (λ b. b || list_any f xs) (h x) ∙ ap (λ b. g x || b) (any_same f g xs h)

pub any_none : {X : Type 0} (xs : List X) → list_any (λ (x : X). false) xs ≡ false
any_none [] = refl
any_none (x ∷ xs) = any_none xs

-- where a commit leaves its field the holder, a place is told where some popup is shown
pub commit_told : (f : ℕ) (log : List Act) → is_at (holder (acts.Commit f ∷ log)) f ≡ true →
    list_any tells_place (told_by (acts.Commit f) log)
    ≡ list_any (popup_shown (acts.Commit f ∷ log)) (popups (acts.Commit f ∷ log))
commit_told f log e =
    let now : List Act = acts.Commit f ∷ log in
    let own : List Told = if is_at (holder now) f then each_popup now else [] in
    let method : List Told = to_method (acts.Commit f) log (serving now) in
    places_append method own
    ∙ ap (λ b. b || list_any tells_place own) (method_places (acts.Commit f) log (serving now))
    ∙ ap (λ b. list_any tells_place (if b then each_popup now else [])) e
    ∙ any_flat tells_place (popup_told now) (popups now)
    ∙ any_same (λ x. list_any tells_place (popup_told now x)) (popup_shown now) (popups now) (shown_told now)

-- of a new popup a place is told where it is shown
pub popup_places : (m s : ℕ) (log : List Act) →
    list_any tells_place (told_by (acts.Popup m s) log) ≡ popup_shown (acts.Popup m s ∷ log) (next log)
popup_places m s log =
    let now : List Act = acts.Popup m s ∷ log in
    let method : List Told = to_method (acts.Popup m s) log (serving now) in
    places_append method (popup_told now (next log))
    ∙ ap (λ b. b || list_any tells_place (popup_told now (next log))) (method_places (acts.Popup m s) log (serving now))
    ∙ shown_told now (next log)

-- ---- some label that is alive

or_right : (a b : Bool) → b ≡ true → (a || b) ≡ true
or_right true b e = refl
or_right false b e = e

or_left : (a b : Bool) → a ≡ true → (a || b) ≡ true
or_left true b e = refl
or_left false b e = cc

pub any_label : (log : List Act) (g : ℕ → Bool) (x : ℕ) → alive log x ≡ true → g x ≡ true →
    list_any g (labels log) ≡ true
any_label [] g x a e = cc
any_label (act ∷ older) g x a e =
    list_any-append g (labels older) ((length older + 1) ∷ [])
    ∙ at (x == length older + 1) (λ k. any_label older g x k e) refl a
  where
    at : (b : Bool) → (alive older x ≡ true → list_any g (labels older) ≡ true) → (x == length older + 1) ≡ b →
        is_some (if b then made act x (owner (object older (maker act))) else remains act x (object older x)) ≡ true →
        (list_any g (labels older) || list_any g ((length older + 1) ∷ [])) ≡ true
    at true f q k =
        or_right (list_any g (labels older)) (list_any g ((length older + 1) ∷ []))
        (or_left (g (length older + 1)) false (ap g (sym (eqb-true x (length older + 1) q)) ∙ e))
    at false f q k =
        or_left (list_any g (labels older)) (list_any g ((length older + 1) ∷ []))
        (f (remained (object older x) k))
      where
        remained : (o : Option Object) → is_some (remains act x o) ≡ true → is_some o ≡ true
        remained None k = sym (ap is_some (remains_none act x)) ∙ k
        remained (Some v) k = refl

pub any_filtered : (test g : ℕ → Bool) (xs : List ℕ) → list_any g (filter test xs) ≡ list_any (λ x. test x && g x) xs
any_filtered test g [] = refl
any_filtered test g (x ∷ xs) = at (test x) (any_filtered test g xs)
  where
    at : (b : Bool) → list_any g (filter test xs) ≡ list_any (λ y. test y && g y) xs →
        list_any g (if b then x ∷ filter test xs else filter test xs)
        ≡ ((b && g x) || list_any (λ y. test y && g y) xs)
    at true h = ap (λ b. g x || b) h
    at false h = h
