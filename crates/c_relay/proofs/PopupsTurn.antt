-- What becomes of one popup that is kept, by one act of a history.
use Rattle.std.proofs.Common.{◌≡◌, ℕ, ◌≤◌, List, [], ◌∷◌, ◌++◌, length, map, filter, Bool, true, false, Option, Some, None, ap, refl, sym, ◌∙◌}
use Rattle.std.specs.Prelude.{◌&&◌, ◌||◌, not, if◌then◌else◌, is_some}
use Rattle.std.specs.List.{flat_map, list_any}
use Rattle.std.proofs.lemmas.Bool.{true≢false}
use Rattle.relay_model.specs.declared.act.Act.{Act}
use Rattle.relay_model.specs.declared.act.Act.TheVariants as acts
use Rattle.relay_model.specs.Objects.{Object, Kind, PeerKind, SurfaceKind, FieldKind, MethodKind, ThingKind, BoardKind, PopupKind, GrabKind, is_at, is_kind, is_popup_kind, remains, object, alive, is_popup, labels, popups}
use Rattle.relay_model.specs.Hold.{holder}
use Rattle.relay_model.specs.Activation.{serving}
use Rattle.relay_model.specs.Popups.{cursor, ready_surface, popup_shown}
use Rattle.relay_model.specs.Told.{told_by}
use Rattle.relay_model.proofs.ActsOrIdle.{IsHistory}
use Rattle.relay_model.proofs.ObjectLaws.{none_of, object_step, alive_within}
use Rattle.relay_model.proofs.FocusLaws.{and_left, and_false}
use Rattle.c_relay.specs.declared.popups.KeptPopup.{KeptPopup}
use Rattle.c_relay.specs.KeptPopups.{kept_kind, kept_object, kept_at, tells_place, is_holders, turn_by, stays, turned, hides}
use Rattle.c_relay.proofs.PopupsBefore.{AreOld, alive_before, and_right, popup_old, ready_of, remains_or, serving_before}
use Rattle.c_relay.proofs.CursorKept.{cursor_step}
use Rattle.c_relay.proofs.PlacesTold.{any_filtered, any_label, any_none, any_same, commit_told}

-- ---- whether a popup is shown after the act

pub kept_is_popup : (log : List Act) (x m s p : ℕ) → object log x ≡ Some (record { kind = PopupKind m s; peer = p }) →
    is_popup log x ≡ true
kept_is_popup log x m s p e = ap (is_kind is_popup_kind) e

-- after such a commit
shown_committed : (f : ℕ) (log : List Act) (x m s p : ℕ) → is_at (holder (acts.Commit f ∷ log)) f ≡ true →
    object (acts.Commit f ∷ log) x ≡ Some (record { kind = PopupKind m s; peer = p }) →
    popup_shown (acts.Commit f ∷ log) x
    ≡ (list_any tells_place (told_by (acts.Commit f) log) && is_some (ready_surface (acts.Commit f ∷ log) x))
shown_committed f log x m s p h e = by (is_some (cursor now)) refl (is_some (ready_surface now x)) refl
  where
    now : List Act
    now = acts.Commit f ∷ log

    told : list_any tells_place (told_by (acts.Commit f) log) ≡ list_any (popup_shown now) (popups now)
    told = commit_told f log h

    none : is_some (cursor now) ≡ false → list_any (popup_shown now) (popups now) ≡ false
    none c =
        any_same (popup_shown now) (λ x. false) (popups now)
        (λ x. ap (λ b. is_some (ready_surface now x) && b) c ∙ and_false (is_some (ready_surface now x)))
        ∙ any_none (popups now)

    some : popup_shown now x ≡ true → list_any (popup_shown now) (popups now) ≡ true
    some c =
        any_filtered (is_popup now) (popup_shown now) (labels now)
        ∙ any_label now (λ y. is_popup now y && popup_shown now y) x (ap is_some e)
        (ap (λ b. b && popup_shown now x) (kept_is_popup now x m s p e) ∙ c)

    by : (c : Bool) → is_some (cursor now) ≡ c → (r : Bool) → is_some (ready_surface now x) ≡ r →
        popup_shown now x
        ≡ (list_any tells_place (told_by (acts.Commit f) log) && is_some (ready_surface now x))
    by false c r k =
        ap (λ b. is_some (ready_surface now x) && b) c ∙ and_false (is_some (ready_surface now x))
        ∙ ap (λ b. b && is_some (ready_surface now x)) (sym (told ∙ none c))
    by true c false k =
        ap (λ b. b && is_some (cursor now)) k
        ∙ sym (ap (λ b. list_any tells_place (told_by (acts.Commit f) log) && b) k
        ∙ and_false (list_any tells_place (told_by (acts.Commit f) log)))
    by true c true k =
        let here : popup_shown now x ≡ true = ap (λ b. b && is_some (cursor now)) k ∙ c in
        here ∙ sym (ap (λ b. b && is_some (ready_surface now x)) (told ∙ some here) ∙ k)

-- the two ways in which a popup stays shown

stays_shown : (sh told sv su al : Bool) → al ≡ true →
    ((sh || true) && told && sv && al && su) ≡ (told && (sv && su))
stays_shown true true true su true e = refl
stays_shown true true false su true e = refl
stays_shown true false sv su true e = refl
stays_shown false true true su true e = refl
stays_shown false true false su true e = refl
stays_shown false false sv su true e = refl
stays_shown sh told sv su false e = cc

held_on : (had holds : Bool) → ((((had || false) && holds) && true) && true) && true ≡ (had && holds)
held_on true true = refl
held_on true false = refl
held_on false holds = refl

unready : (b al su : Bool) → (((b && false) && al) && su) ≡ false
unready true al su = refl
unready false al su = refl

ended : (b su : Bool) → ((b && false) && su) ≡ false
ended true su = refl
ended false su = refl

stays_held : (ready had had_now holds sv su al : Bool) → al ≡ true → had_now ≡ (had && holds) →
    ((sv && su) ≡ true → ready ≡ true) →
    ((((((ready && had) || false) && holds) && sv) && al) && su) ≡ ((sv && su) && had_now)
stays_held ready had had_now holds true true al a e k = rw (a, e, k refl) (held_on had holds)
stays_held ready had had_now holds true false al a e k =
    and_false (((((ready && had) || false) && holds) && true) && al)
stays_held ready had had_now holds false su al a e k = unready (((ready && had) || false) && holds) al su

-- ---- what is kept after the act

abbrev pub IsPopupAt : List Act → ℕ → (m s p : ℕ) → Type 0
IsPopupAt log x m s p = object log x ≡ Some (record { kind = PopupKind m s; peer = p })

-- it was ready before the act
ready_before : (act : Act) (log : List Act) (x m s p : ℕ) → IsHistory log → IsPopupAt log x m s p →
    (is_at (serving (act ∷ log)) m && alive (act ∷ log) s) ≡ true → is_some (ready_surface log x) ≡ true
ready_before act log x m s p i e h =
    let old : AreOld m s (length log) = popup_old log x m s p i e in
    let a : is_at (serving log) m ≡ true = serving_before act log m old.0 (and_left _ _ h) in
    let b : alive log s ≡ true = alive_before act log s old.1 (and_right _ _ h) in
    ready_of log x m s p (object log x) e refl ∙ ap (λ v. v && alive log s) a ∙ b

-- whether a popup that lives on is shown, by what was kept of it
shown_after : (act : Act) (log : List Act) (x m s p : ℕ) → IsHistory log → IsPopupAt log x m s p →
    IsPopupAt (act ∷ log) x m s p → (b : Bool) → is_holders act (holder (act ∷ log)) ≡ b →
    ((((((popup_shown log x) || b)
    && (if b then list_any tells_place (told_by act log) else is_some (holder (act ∷ log))))
    && is_at (serving (act ∷ log)) m) && alive (act ∷ log) x) && alive (act ∷ log) s)
    ≡ popup_shown (act ∷ log) x
shown_after (acts.Commit f) log x m s p i e k true h =
    stays_shown (popup_shown log x) (list_any tells_place (told_by (acts.Commit f) log))
    (is_at (serving (acts.Commit f ∷ log)) m) (alive (acts.Commit f ∷ log) s) (alive (acts.Commit f ∷ log) x)
    (ap is_some k)
    ∙ ap (λ r. list_any tells_place (told_by (acts.Commit f) log) && r)
    (sym (ready_of (acts.Commit f ∷ log) x m s p (object (acts.Commit f ∷ log) x) k refl))
    ∙ sym (shown_committed f log x m s p h k)
shown_after act log x m s p i e k false h =
    stays_held (is_some (ready_surface log x)) (is_some (cursor log)) (is_some (cursor (act ∷ log)))
    (is_some (holder (act ∷ log))) (is_at (serving (act ∷ log)) m) (alive (act ∷ log) s) (alive (act ∷ log) x)
    (ap is_some k) (cursor_step act log h) (ready_before act log x m s p i e)
    ∙ ap (λ r. r && is_some (cursor (act ∷ log)))
    (sym (ready_of (act ∷ log) x m s p (object (act ∷ log) x) k refl))
shown_after _ log x m s p i e k true h = absurd (true≢false (sym h))

-- of one popup

abbrev pub kept_one : List Act → (x m s : ℕ) → KeptPopup
kept_one log x m s = record { label = x; method = m; surface = s; is_shown = popup_shown log x; is_alive = true }

same_after : (act : Act) (log : List Act) (x m s p : ℕ) → IsPopupAt log x m s p → alive (act ∷ log) x ≡ true →
    IsPopupAt (act ∷ log) x m s p
same_after act log x m s p e a =
    let step : object (act ∷ log) x ≡ remains act x (object log x) =
    object_step act log x (alive_within log x (ap is_some e)) in
    remains_or act x (object log x) (object (act ∷ log) x) (sym step) a ∙ e

unshown_gone : (log : List Act) (x : ℕ) (o : Option Object) → object log x ≡ o → is_some o ≡ false →
    popup_shown log x ≡ false
unshown_gone log x None e a = rw e refl
unshown_gone log x (Some o) e a = cc

-- it is shown after the act where it stays so, or comes to be, by what is kept
stays_is : (act : Act) (log : List Act) (x m s p : ℕ) → IsHistory log → IsPopupAt log x m s p →
    stays (act ∷ log) (turn_by act log) (kept_one log x m s) ≡ popup_shown (act ∷ log) x
stays_is act log x m s p i e = by (alive (act ∷ log) x) refl
  where
    by : (b : Bool) → alive (act ∷ log) x ≡ b →
        stays (act ∷ log) (turn_by act log) (kept_one log x m s) ≡ popup_shown (act ∷ log) x
    by true a =
        shown_after act log x m s p i e (same_after act log x m s p e a) (is_holders act (holder (act ∷ log))) refl
    by false a =
        ap (λ v. (((((popup_shown log x || (turn_by act log).shows) && (turn_by act log).has_cursor)
        && is_at (serving (act ∷ log)) m) && v) && alive (act ∷ log) s)) a
        ∙ ended ((popup_shown log x || (turn_by act log).shows) && (turn_by act log).has_cursor
        && is_at (serving (act ∷ log)) m) (alive (act ∷ log) s)
        ∙ sym (unshown_gone (act ∷ log) x (object (act ∷ log) x) refl a)

-- what is kept of a label, and whether it is hidden

abbrev pub keeps : Act → List Act → List KeptPopup → List KeptPopup
keeps act log ps = filter (λ (w : KeptPopup). w.is_alive) (map (turned (act ∷ log) (turn_by act log)) ps)

abbrev pub kept_as : (x m s : ℕ) → Bool → Bool → List KeptPopup
kept_as x m s sh al = record { label = x; method = m; surface = s; is_shown = sh; is_alive = al } ∷ []

kept_popup : (act : Act) (log : List Act) (x m s p : ℕ) → IsHistory log → IsPopupAt log x m s p →
    kept_at (act ∷ log) x ≡ keeps act log (kept_one log x m s ∷ [])
kept_popup act log x m s p i e = by (alive (act ∷ log) x) refl
  where
    by : (b : Bool) → alive (act ∷ log) x ≡ b → kept_at (act ∷ log) x ≡ keeps act log (kept_one log x m s ∷ [])
    by true a =
        let one : KeptPopup = turned (act ∷ log) (turn_by act log) (kept_one log x m s) in
        ap (kept_object (act ∷ log) x) (same_after act log x m s p e a)
        ∙ ap (λ v. kept_as x m s v true) (sym (stays_is act log x m s p i e))
        ∙ ap (λ v. kept_as x m s (stays (act ∷ log) (turn_by act log) (kept_one log x m s)) v) (sym a)
        ∙ ap (λ v. if v then one ∷ [] else []) (sym a)
    by false a =
        let one : KeptPopup = turned (act ∷ log) (turn_by act log) (kept_one log x m s) in
        ap (kept_object (act ∷ log) x) (none_of (object (act ∷ log) x) a)
        ∙ ap (λ v. if v then one ∷ [] else []) (sym a)

pub not_kept : (log : List Act) (x : ℕ) (o : Option Object) → is_kind is_popup_kind o ≡ false → kept_object log x o ≡ []
not_kept log x None e = refl
not_kept log x (Some thing) e = at thing.kind e
  where
    at : (k : Kind) → is_popup_kind k ≡ false → kept_kind log x k ≡ []
    at (PopupKind m s) e = absurd (true≢false e)
    at _ e = refl

-- what is no popup isn't kept after the act
pub unkept : (act : Act) (log : List Act) (x : ℕ) → x ≤ length log → is_popup log x ≡ false →
    kept_at (act ∷ log) x ≡ []
unkept act log x w e = by (alive (act ∷ log) x) refl
  where
    by : (b : Bool) → alive (act ∷ log) x ≡ b → kept_at (act ∷ log) x ≡ []
    by true a =
        let same : object (act ∷ log) x ≡ object log x =
        remains_or act x (object log x) (object (act ∷ log) x) (sym (object_step act log x w)) a in
        not_kept (act ∷ log) x (object (act ∷ log) x) (ap (is_kind is_popup_kind) same ∙ e)
    by false a = ap (kept_object (act ∷ log) x) (none_of (object (act ∷ log) x) a)

-- the label of a popup that was shown and isn't
abbrev pub hidden_at : Act → List Act → ℕ → List ℕ
hidden_at act log x =
    if is_popup log x then (if popup_shown log x then (if not (popup_shown (act ∷ log) x) then x ∷ [] else []) else [])
    else []

hidden_one : (x : ℕ) (was sh stay : Bool) → stay ≡ sh →
    (if was then (if stay then [] else x ∷ []) else []) ++ []
    ≡ (if was then (if not sh then x ∷ [] else []) else [])
hidden_one x true true stay e = rw e refl
hidden_one x true false stay e = rw e refl
hidden_one x false sh stay e = refl

pub record Turned (act : Act) (log : List Act) (x : ℕ) : Type 0 where
  pub kept : kept_at (act ∷ log) x ≡ keeps act log (kept_at log x)
  pub hidden : flat_map (hides (act ∷ log) (turn_by act log)) (kept_at log x) ≡ hidden_at act log x

turned_other : (act : Act) (log : List Act) (x : ℕ) (o : Option Object) → x ≤ length log → object log x ≡ o →
    is_kind is_popup_kind o ≡ false → Turned act log x
turned_other act log x o w e k =
    let none : kept_at log x ≡ [] = not_kept log x (object log x) (ap (is_kind is_popup_kind) e ∙ k) in
    let other : is_popup log x ≡ false = ap (is_kind is_popup_kind) e ∙ k in
    record {
      kept = unkept act log x w other ∙ sym (ap (keeps act log) none);
      hidden = ap (flat_map (hides (act ∷ log) (turn_by act log))) none
          ∙ ap (λ b. if b then (if popup_shown log x then (if not (popup_shown (act ∷ log) x) then x ∷ [] else [])
          else []) else []) (sym other);
    }

turned_popup : (act : Act) (log : List Act) (x m s p : ℕ) → IsHistory log → IsPopupAt log x m s p → Turned act log x
turned_popup act log x m s p i e =
    let was : kept_at log x ≡ kept_one log x m s ∷ [] = ap (kept_object log x) e in
    record {
      kept = kept_popup act log x m s p i e ∙ sym (ap (keeps act log) was);
      hidden = ap (flat_map (hides (act ∷ log) (turn_by act log))) was
          ∙ hidden_one x (popup_shown log x) (popup_shown (act ∷ log) x)
          (stays (act ∷ log) (turn_by act log) (kept_one log x m s)) (stays_is act log x m s p i e)
          ∙ ap (λ b. if b then (if popup_shown log x then (if not (popup_shown (act ∷ log) x) then x ∷ [] else [])
          else []) else []) (sym (kept_is_popup log x m s p e));
    }

pub turned_label : (act : Act) (log : List Act) (x : ℕ) → IsHistory log → x ≤ length log → Turned act log x
turned_label act log x i w = by (object log x) refl
  where
    by : (o : Option Object) → object log x ≡ o → Turned act log x
    by None e = turned_other act log x None w e refl
    by (Some thing) e = at thing.kind thing.peer e
      where
        at : (k : Kind) (p : ℕ) → object log x ≡ Some (record { kind = k; peer = p }) → Turned act log x
        at (PopupKind m s) p e = turned_popup act log x m s p i e
        at PeerKind p e = turned_other act log x (Some (record { kind = PeerKind; peer = p })) w e refl
        at SurfaceKind p e = turned_other act log x (Some (record { kind = SurfaceKind; peer = p })) w e refl
        at FieldKind p e = turned_other act log x (Some (record { kind = FieldKind; peer = p })) w e refl
        at MethodKind p e = turned_other act log x (Some (record { kind = MethodKind; peer = p })) w e refl
        at ThingKind p e = turned_other act log x (Some (record { kind = ThingKind; peer = p })) w e refl
        at BoardKind p e = turned_other act log x (Some (record { kind = BoardKind; peer = p })) w e refl
        at (GrabKind m) p e = turned_other act log x (Some (record { kind = GrabKind m; peer = p })) w e refl
