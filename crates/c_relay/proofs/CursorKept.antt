-- The cursor rectangle moves by commits of the holder alone.
use Rattle.std.proofs.Common.{◌≡◌, ℕ, List, ◌∷◌, Bool, true, false, Option, Some, None, ap, refl, sym, ◌∙◌}
use Rattle.std.specs.Prelude.{◌==◌, ◌&&◌, if◌then◌else◌, is_some}
use Rattle.std.proofs.lemmas.Bool.{ne_eqb, eq-eqb, true≢false}
use Rattle.relay_model.specs.declared.act.Act.{Act}
use Rattle.relay_model.specs.declared.act.Act.TheVariants as acts
use Rattle.relay_model.specs.Focus.{entered, entered_since}
use Rattle.relay_model.specs.Hold.{holder, begins_hold, ends, kept}
use Rattle.relay_model.specs.Current.{State, current}
use Rattle.relay_model.specs.Pending.{is_commit_of}
use Rattle.relay_model.specs.Popups.{cursor, rect_of}
use Rattle.relay_model.proofs.FocusLaws.{and_false}
use Rattle.relay_model.proofs.HoldLaws.{and_true}
use Rattle.relay_model.proofs.StateLaws.{current_kept}
use Rattle.c_relay.specs.KeptPopups.{is_holders}

-- ---- the cursor rectangle: only a commit of the holder sets it

kept_if : (a b : Bool) (g h : ℕ) → (if a && b then Some g else None) ≡ Some h → g ≡ h
kept_if true true g h e = cc
kept_if true false g h e = cc
kept_if false b g h e = cc

kept_held : (act : Act) (older : List Act) (o : Option ℕ) (h : ℕ) → kept act older o ≡ Some h → o ≡ Some h
kept_held act older None h e = cc
kept_held act older (Some g) h e =
    ap Some (kept_if (entered (act ∷ older) g) (entered_since (act ∷ older) g == entered_since older g) g h e)

abbrev GoesOn : Act → List Act → ℕ → Type 0
GoesOn act log h =
    (begins_hold act log ≡ false) × (is_commit_of act h ≡ false) × (kept act log (holder log) ≡ Some h)

commit_on : (b d : Bool) (g h : ℕ) (left : Option ℕ) → (h == g) ≡ false →
    (if b then Some g else (if d then None else left)) ≡ Some h → (b ≡ false) × (left ≡ Some h)
commit_on true d g h left n e =
    let same : g ≡ h = cc in absurd (true≢false (sym (eq-eqb h g (sym same)) ∙ n))
commit_on false true g h left n e = cc
commit_on false false g h left n e = (refl, e)

other_way : (f g : ℕ) → (f == g) ≡ false → (g == f) ≡ false
other_way f g e = ne_eqb g f (λ k. true≢false (sym (eq-eqb f g (sym k)) ∙ e))

goes_on : (act : Act) (log : List Act) (h : ℕ) → is_holders act (Some h) ≡ false → holder (act ∷ log) ≡ Some h →
    GoesOn act log h
goes_on (acts.Commit g) log h n e =
    let on = commit_on (begins_hold (acts.Commit g) log) (ends (acts.Commit g) log (holder log)) g h
    (kept (acts.Commit g) log (holder log)) n e in
    (on.0, other_way h g n, on.1)
goes_on act log h n e = (refl, refl, e)

cursor_by : (act : Act) (log : List Act) (o : Option ℕ) → holder (act ∷ log) ≡ o → is_holders act o ≡ false →
    is_some (rect_of (act ∷ log) o) ≡ (is_some (rect_of log (holder log)) && is_some o)
cursor_by act log None e n = sym (and_false (is_some (rect_of log (holder log))))
cursor_by act log (Some h) e n =
    let on : GoesOn act log h = goes_on act log h n e in
    let was : holder log ≡ Some h = kept_held act log (holder log) h on.2 in
    let same : current (act ∷ log) h ≡ current log h = current_kept act log h on.1 on.0 in
    ap (λ (s : State). is_some s.rect) same
    ∙ sym (and_true (is_some (current log h).rect))
    ∙ ap (λ o. is_some (rect_of log o) && true) (sym was)

-- where it isn't that, there is one where there was and a field holds
pub cursor_step : (act : Act) (log : List Act) → is_holders act (holder (act ∷ log)) ≡ false →
    is_some (cursor (act ∷ log)) ≡ (is_some (cursor log) && is_some (holder (act ∷ log)))
cursor_step act log n = cursor_by act log (holder (act ∷ log)) refl n
