-- What stood of a popup before an act: its object, its method and its surface.
use Rattle.std.proofs.Common.{◌≡◌, ℕ, ◌+◌, ◌≤◌, List, [], ◌∷◌, length, Bool, true, false, Option, Some, None, ap, refl, sym, ◌∙◌, arith}
use Rattle.std.specs.Prelude.{◌==◌, ◌&&◌, if◌then◌else◌, is_some, is_none}
use Rattle.std.proofs.lemmas.Bool.{eqb-true, true≢false}
use Rattle.relay_model.specs.declared.act.Act.{Act}
use Rattle.relay_model.specs.declared.act.Act.TheVariants as acts
use Rattle.relay_model.specs.Objects.{Object, Kind, PeerKind, PopupKind, GrabKind, is_at, is_kind, is_method_kind, is_surface_kind, is_popup_kind, is_surface, is_method, owner, made_for, made, maker, remains, object, alive, next}
use Rattle.relay_model.specs.Focus.{where_alive}
use Rattle.relay_model.specs.Activation.{serving}
use Rattle.relay_model.specs.Popups.{ready_surface}
use Rattle.relay_model.specs.Idle.{is_live}
use Rattle.relay_model.proofs.ActsOrIdle.{IsHistory, live}
use Rattle.relay_model.proofs.ObjectLaws.{remains_none, object_step, kind_within}
use Rattle.relay_model.proofs.FocusLaws.{and_left}

-- ---- objects that were made before the act

remains_some : (act : Act) (x : ℕ) (o : Option Object) (v : Object) → remains act x o ≡ Some v → o ≡ Some v
remains_some (acts.Drop y) x o v e = at (y == x) e
  where
    at : (b : Bool) → (if b then None else o) ≡ Some v → o ≡ Some v
    at true e = cc
    at false e = e
remains_some (acts.Gone p cause) x o v e = at (is_at (owner o) p) e
  where
    at : (b : Bool) → (if b then None else o) ≡ Some v → o ≡ Some v
    at true e = cc
    at false e = e
remains_some _ x o v e = e

-- it is as it was, or it is gone
pub remains_or : (act : Act) (x : ℕ) (o : Option Object) (r : Option Object) → remains act x o ≡ r → is_some r ≡ true →
    r ≡ o
remains_or act x o None e k = cc
remains_or act x o (Some v) e k = sym (remains_some act x o v e)

pub alive_before : (act : Act) (log : List Act) (s : ℕ) → s ≤ length log → alive (act ∷ log) s ≡ true →
    alive log s ≡ true
alive_before act log s w e = at (object log s) (sym (ap is_some (object_step act log s w)) ∙ e)
  where
    at : (o : Option Object) → is_some (remains act s o) ≡ true → is_some o ≡ true
    at None k = sym (ap is_some (remains_none act s)) ∙ k
    at (Some v) k = refl

-- ---- the method and the surface of a popup were made before it

pub and_right : (a b : Bool) → (a && b) ≡ true → b ≡ true
and_right true b h = h
and_right false b h = cc

abbrev pub AreOld : ℕ → ℕ → ℕ → Type 0
AreOld m s n = (m ≤ n) × (s ≤ n)

abbrev kind_in : Option Object → Kind
kind_in None = PeerKind
kind_in (Some o) = o.kind

for_popup : (k : Kind) (whose : Option ℕ) (m s p : ℕ) →
    made_for k whose ≡ Some (record { kind = PopupKind m s; peer = p }) → k ≡ PopupKind m s
for_popup k None m s p e = cc
for_popup k (Some q) m s p e = ap kind_in e

made_old : (act : Act) (older : List Act) (whose : Option ℕ) (n m s p : ℕ) → IsHistory (act ∷ older) →
    made act n whose ≡ Some (record { kind = PopupKind m s; peer = p }) → AreOld m s (length older)
made_old (acts.Popup m' s') older whose n m s p i e =
    let same : PopupKind m' s' ≡ PopupKind m s = for_popup (PopupKind m' s') whose m s p e in
    let l : is_live (acts.Popup m' s') older ≡ true = live (acts.Popup m' s') older i.0 (λ d. cc) in
    let a : is_method older m' ≡ true = and_left _ _ l in
    let b : is_surface older s' ≡ true = and_left _ _ (and_right (is_method older m') _ l) in
    let c : m' ≤ length older = kind_within is_method_kind older m' a in
    let d : s' ≤ length older = kind_within is_surface_kind older s' b in
    let f : m' ≡ m = cc in
    let g : s' ≡ s = cc in
    (omega arith, omega arith)
made_old (acts.Grab g) older whose n m s p i e =
    absurd (true≢false (sym (ap is_popup_kind (for_popup (GrabKind g) whose m s p e))))
made_old _ older whose n m s p i e = absurd (true≢false (sym (ap (is_kind is_popup_kind) e)))

pub popup_old : (log : List Act) (x m s p : ℕ) → IsHistory log →
    object log x ≡ Some (record { kind = PopupKind m s; peer = p }) → AreOld m s (length log)
popup_old [] x m s p i e = cc
popup_old (act ∷ older) x m s p i e =
    let h : AreOld m s (length older + 1) = at (x == length older + 1) (popup_old older x m s p i.1) e in
    (omega (arith, h.0), omega (arith, h.1))
  where
    at : (b : Bool) →
        (object older x ≡ Some (record { kind = PopupKind m s; peer = p }) → AreOld m s (length older)) →
        (if b then made act x (owner (object older (maker act))) else remains act x (object older x))
        ≡ Some (record { kind = PopupKind m s; peer = p }) → AreOld m s (length older + 1)
    at true f k =
        let h : AreOld m s (length older) = made_old act older (owner (object older (maker act))) x m s p i k in
        (omega (arith, h.0), omega (arith, h.1))
    at false f k =
        let h : AreOld m s (length older) =
        f (remains_some act x (object older x) (record { kind = PopupKind m s; peer = p }) k) in
        (omega (arith, h.0), omega (arith, h.1))

-- ---- a popup is ready where its method serves and its surface lives

ready_by : (log : List Act) (a b : Bool) (s : ℕ) →
    is_some (if a then (if b then Some s else None) else None) ≡ (a && b)
ready_by log true true s = refl
ready_by log true false s = refl
ready_by log false b s = refl

pub ready_of : (log : List Act) (x m s p : ℕ) (o : Option Object) → o ≡ Some (record { kind = PopupKind m s; peer = p }) →
    object log x ≡ o →
    is_some (ready_surface log x) ≡ (is_at (serving log) m && alive log s)
ready_of log x m s p o e k = rw (k, e) (ready_by log (is_at (serving log) m) (alive log s) s)

pub serving_before : (act : Act) (log : List Act) (m : ℕ) → m ≤ length log → is_at (serving (act ∷ log)) m ≡ true →
    is_at (serving log) m ≡ true
serving_before (acts.Method p) log m w e = at (serving log) e
  where
    at : (o : Option ℕ) → is_at (if is_none o then Some (next log) else o) m ≡ true → is_at o m ≡ true
    at None k =
        let new : length log + 1 ≡ m = eqb-true (length log + 1) m k in
        let none : ⊥ = omega arith in
        absurd none
    at (Some n) k = k
serving_before act log m w e = other act log m (serving log) e
  where
    other : (act : Act) (log : List Act) (m : ℕ) (o : Option ℕ) → is_at (where_alive (act ∷ log) o) m ≡ true →
        is_at o m ≡ true
    other act log m None k = k
    other act log m (Some n) k = at (alive (act ∷ log) n) k
      where
        at : (b : Bool) → is_at (if b then Some n else None) m ≡ true → (n == m) ≡ true
        at true k = k
        at false k = cc
