-- What is kept of all popups after an act, and which it hides.
use Rattle.std.proofs.Common.{◌≡◌, ℕ, ◌+◌, ◌≤◌, List, [], ◌∷◌, ◌++◌, length, map, filter, Bool, true, false, Option, Some, None, ap, refl, sym, ◌∙◌, arith, append-nil}
use Rattle.std.specs.Prelude.{not, if◌then◌else◌, is_some}
use Rattle.std.specs.List.{flat_map, list_any}
use Rattle.std.proofs.lemmas.Grind.{flat_map-append}
use Rattle.std.proofs.lemmas.List.{map-append}
use Rattle.relay_model.specs.declared.act.Act.{Act}
use Rattle.relay_model.specs.declared.act.Act.TheVariants as acts
use Rattle.relay_model.specs.Objects.{Object, PopupKind, GrabKind, is_method_kind, owner, made_for, object, alive, is_popup, labels}
use Rattle.relay_model.specs.Popups.{popup_shown}
use Rattle.relay_model.specs.Idle.{is_live}
use Rattle.relay_model.specs.Told.{told_by}
use Rattle.relay_model.proofs.ActsOrIdle.{IsHistory}
use Rattle.relay_model.proofs.ObjectLaws.{object_new, kind_alive}
use Rattle.relay_model.proofs.FocusLaws.{and_left}
use Rattle.relay_model.proofs.ActivationLaws.{Each, each_append, each_map}
use Rattle.c_relay.specs.declared.popups.KeptPopup.{KeptPopup}
use Rattle.c_relay.specs.Hidden.{hidden_by}
use Rattle.c_relay.specs.KeptPopups.{kept_object, kept_at, kept_popups, tells_place, turn_by, turned, hides, made_popup}
use Rattle.c_relay.proofs.PlacesTold.{popup_places}
use Rattle.c_relay.proofs.PopupsTurn.{hidden_at, keeps, kept_as, kept_one, turned_label}

-- ---- all labels

filter_append : {X : Type 0} (test : X → Bool) (xs ys : List X) →
    filter test (xs ++ ys) ≡ filter test xs ++ filter test ys
filter_append {X} test [] ys = refl
filter_append {X} test (x ∷ xs) ys = by (test x) (filter_append test xs ys)
  where
    by : (b : Bool) → filter test (xs ++ ys) ≡ filter test xs ++ filter test ys →
        (if b then x ∷ filter test (xs ++ ys) else filter test (xs ++ ys))
        ≡ (if b then x ∷ filter test xs else filter test xs) ++ filter test ys
    by true e = ap (λ (zs : List X). x ∷ zs) e
    by false e = e

keeps_append : (act : Act) (log : List Act) (ps qs : List KeptPopup) →
    keeps act log (ps ++ qs) ≡ keeps act log ps ++ keeps act log qs
keeps_append act log ps qs =
    ap (filter (λ (w : KeptPopup). w.is_alive)) (map-append (turned (act ∷ log) (turn_by act log)) ps qs)
    ∙ filter_append (λ (w : KeptPopup). w.is_alive) (map (turned (act ∷ log) (turn_by act log)) ps)
    (map (turned (act ∷ log) (turn_by act log)) qs)

kept_labels : (act : Act) (log : List Act) (xs : List ℕ) → IsHistory log → Each (λ x. x ≤ length log) xs →
    flat_map (kept_at (act ∷ log)) xs ≡ keeps act log (flat_map (kept_at log) xs)
kept_labels act log [] i w = refl
kept_labels act log (x ∷ xs) i w =
    ap (λ (ps : List KeptPopup). ps ++ flat_map (kept_at (act ∷ log)) xs) (turned_label act log x i w.0).kept
    ∙ ap (λ (ps : List KeptPopup). keeps act log (kept_at log x) ++ ps) (kept_labels act log xs i w.1)
    ∙ sym (keeps_append act log (kept_at log x) (flat_map (kept_at log) xs))

hidden_labels : (act : Act) (log : List Act) (xs : List ℕ) → IsHistory log → Each (λ x. x ≤ length log) xs →
    flat_map (hides (act ∷ log) (turn_by act log)) (flat_map (kept_at log) xs) ≡ flat_map (hidden_at act log) xs
hidden_labels act log [] i w = refl
hidden_labels act log (x ∷ xs) i w =
    flat_map-append (hides (act ∷ log) (turn_by act log)) (kept_at log x) (flat_map (kept_at log) xs)
    ∙ ap (λ (ys : List ℕ). ys ++ flat_map (hides (act ∷ log) (turn_by act log)) (flat_map (kept_at log) xs))
    (turned_label act log x i w.0).hidden
    ∙ ap (λ (ys : List ℕ). hidden_at act log x ++ ys) (hidden_labels act log xs i w.1)

pub picked : (p q r : ℕ → Bool) (xs : List ℕ) → filter r (filter q (filter p xs))
    ≡ flat_map (λ x. if p x then (if q x then (if r x then x ∷ [] else []) else []) else []) xs
picked p q r [] = refl
picked p q r (x ∷ xs) = by (p x) (q x) refl (r x) refl (picked p q r xs)
  where
    rest : List ℕ
    rest = flat_map (λ x. if p x then (if q x then (if r x then x ∷ [] else []) else []) else []) xs

    by : (a b : Bool) → q x ≡ b → (c : Bool) → r x ≡ c → filter r (filter q (filter p xs)) ≡ rest →
        filter r (filter q (if a then x ∷ filter p xs else filter p xs))
        ≡ (if a then (if b then (if c then x ∷ [] else []) else []) else []) ++ rest
    by true true e true k h = rw (e, k) (ap (λ (ys : List ℕ). x ∷ ys) h)
    by true true e false k h = rw (e, k) h
    by true false e c k h = rw e h
    by false b e c k h = h

pub labels_within : (log : List Act) → Each (λ x. x ≤ length log) (labels log)
labels_within [] = tt
labels_within (act ∷ older) =
    each_append (λ x. x ≤ length (act ∷ older)) (labels older) (length older + 1)
    (each_map (λ x. x ≤ length older) (λ x. x ≤ length (act ∷ older)) (labels older) (labels_within older)
    (λ x k. omega arith)) (omega arith)

-- what the act makes

for_grab : (log : List Act) (n g : ℕ) (whose : Option ℕ) → kept_object log n (made_for (GrabKind g) whose) ≡ []
for_grab log n g None = refl
for_grab log n g (Some p) = refl

for_made : (log : List Act) (n m s : ℕ) (o : Option Object) → is_some o ≡ true →
    kept_object log n (made_for (PopupKind m s) (owner o)) ≡ kept_one log n m s ∷ []
for_made log n m s None e = cc
for_made log n m s (Some o) e = refl

pub made_kept : (act : Act) (log : List Act) → is_live act log ≡ true →
    kept_at (act ∷ log) (length log + 1)
    ≡ made_popup act (length log + 1) (list_any tells_place (told_by act log))
made_kept (acts.Popup m s) log l =
    let now : List Act = acts.Popup m s ∷ log in
    let there : alive log m ≡ true = kind_alive is_method_kind log m (and_left _ _ l) in
    ap (kept_object now (length log + 1)) (object_new (acts.Popup m s) log)
    ∙ for_made now (length log + 1) m s (object log m) there
    ∙ ap (λ v. kept_as (length log + 1) m s v true) (sym (popup_places m s log))
made_kept (acts.Grab g) log l =
    ap (kept_object (acts.Grab g ∷ log) (length log + 1)) (object_new (acts.Grab g) log)
    ∙ for_grab (acts.Grab g ∷ log) (length log + 1) g (owner (object log g))
made_kept act log l = ap (kept_object (act ∷ log) (length log + 1)) (object_new act log)

-- ---- the act

pub kept_after : (act : Act) (log : List Act) → IsHistory log → is_live act log ≡ true →
    kept_popups (act ∷ log)
    ≡ filter (λ (w : KeptPopup). w.is_alive) (map (turned (act ∷ log) (turn_by act log)) (kept_popups log))
    ++ made_popup act (length log + 1) (list_any tells_place (told_by act log))
kept_after act log i l =
    flat_map-append (kept_at (act ∷ log)) (labels log) ((length log + 1) ∷ [])
    ∙ ap (λ (ps : List KeptPopup). ps ++ (kept_at (act ∷ log) (length log + 1) ++ []))
    (kept_labels act log (labels log) i (labels_within log))
    ∙ ap (λ (ps : List KeptPopup). keeps act log (kept_popups log) ++ ps)
    (append-nil (kept_at (act ∷ log) (length log + 1)) ∙ made_kept act log l)

pub hidden_after : (act : Act) (log : List Act) → IsHistory log →
    flat_map (hides (act ∷ log) (turn_by act log)) (kept_popups log) ≡ hidden_by act log
hidden_after act log i =
    hidden_labels act log (labels log) i (labels_within log)
    ∙ sym (picked (is_popup log) (popup_shown log) (λ x. not (popup_shown (act ∷ log) x)) (labels log))
