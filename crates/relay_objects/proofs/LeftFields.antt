-- What a change keeps of an object, and that a field that was left stays as it is.
use Rattle.std.proofs.Common.{◌≡◌, ℕ, Bool, true, false, ◌&&◌, if◌then◌else◌, eqb, refl, sym, ap, subst, ◌∙◌}
use Rattle.popup_place.specs.declared.geometry.Rect.{Rect}
use Rattle.field_state.specs.Stands.{Kept}
use Rattle.field_state.specs.Calls.{is_place, is_length}
use Rattle.field_state.specs.Changes as change
use Rattle.relay_model.specs.declared.act.Act.{Act}
use Rattle.relay_model.specs.declared.act.Act.TheVariants as acts
use Rattle.relay_objects.specs.declared.change.Change.{Change}
use Rattle.relay_objects.specs.declared.change.Change.TheVariants.{Ask, Focus, Commit, Displace, Area}
use Rattle.relay_objects.specs.declared.object.Object.{Object}
use Rattle.relay_objects.specs.declared.object.Kind.{Kind}
use Rattle.relay_objects.specs.declared.object.Kind.TheVariants.{Peer, Surface, Field, Method, Popup, Grab, Thing, Board}
use Rattle.relay_objects.specs.declared.entered.Entered.{Entered}
use Rattle.relay_objects.specs.Objects.{asked, changed, kind_placed, is_field_kind}
use Rattle.relay_objects.specs.Changes.{kind_after, changed_by, changed_at}
use Rattle.relay_objects.specs.Listed.{live_field, popup_of_kind, popup_of, IsCalm}
use Rattle.relay_objects.proofs.ListedObjects.{KeepsListed}

-- what is listed

field_changed : (f : Kept → Kept) (k : Kind) → is_field_kind (changed f k) ≡ is_field_kind k
field_changed f Peer = refl
field_changed f (Surface area) = refl
field_changed f (Field kept) = refl
field_changed f Method = refl
field_changed f (Popup m s) = refl
field_changed f (Grab m) = refl
field_changed f Thing = refl
field_changed f Board = refl

popup_changed : (f : Kept → Kept) (p x : ℕ) (k : Kind) → popup_of_kind p x (changed f k) ≡ popup_of_kind p x k
popup_changed f p x Peer = refl
popup_changed f p x (Surface area) = refl
popup_changed f p x (Field kept) = refl
popup_changed f p x Method = refl
popup_changed f p x (Popup m s) = refl
popup_changed f p x (Grab m) = refl
popup_changed f p x Thing = refl
popup_changed f p x Board = refl

field_placed : (rect : Rect) (k : Kind) → is_field_kind (kind_placed rect k) ≡ is_field_kind k
field_placed rect Peer = refl
field_placed rect (Surface area) = refl
field_placed rect (Field kept) = refl
field_placed rect Method = refl
field_placed rect (Popup m s) = refl
field_placed rect (Grab m) = refl
field_placed rect Thing = refl
field_placed rect Board = refl

popup_placed : (rect : Rect) (p x : ℕ) (k : Kind) → popup_of_kind p x (kind_placed rect k) ≡ popup_of_kind p x k
popup_placed rect p x Peer = refl
popup_placed rect p x (Surface area) = refl
popup_placed rect p x (Field kept) = refl
popup_placed rect p x Method = refl
popup_placed rect p x (Popup m s) = refl
popup_placed rect p x (Grab m) = refl
popup_placed rect p x Thing = refl
popup_placed rect p x Board = refl

field_after : (c : Change) (p : ℕ) (k : Kind) → is_field_kind (kind_after c p k) ≡ is_field_kind k
field_after (Ask act) p k = field_changed _ k
field_after (Focus peer) p k = field_changed _ k
field_after Commit p k = field_changed _ k
field_after Displace p k = field_changed _ k
field_after (Area rect) p k = field_placed rect k

popup_after : (c : Change) (q p x : ℕ) (k : Kind) → popup_of_kind p x (kind_after c q k) ≡ popup_of_kind p x k
popup_after (Ask act) q p x k = popup_changed _ p x k
popup_after (Focus peer) q p x k = popup_changed _ p x k
popup_after Commit q p x k = popup_changed _ p x k
popup_after Displace q p x k = popup_changed _ p x k
popup_after (Area rect) q p x k = popup_placed rect p x k

either : (P : Object → Type 0) (b : Bool) (u v : Object) → P u → P v → P (if b then u else v)
either P true u v p q = p
either P false u v p q = q

pub keeps_changed : (c : Change) → KeepsListed (changed_by c)
keeps_changed c = record {
  same_entry = λ o. refl;
  same_field = λ o. field_after c o.peer o.kind;
  same_popup = λ o. popup_after c o.peer o.peer o.label o.kind;
}

pub keeps_at : (x : ℕ) (c : Change) → KeepsListed (changed_at x c)
keeps_at x c = record {
  same_entry = λ o. either (λ v. live_field v ≡ live_field o) (eqb o.label x) (changed_by c o) o refl refl;
  same_field =
      λ o. either (λ v. is_field_kind v.kind ≡ is_field_kind o.kind) (eqb o.label x) (changed_by c o) o
      (field_after c o.peer o.kind) refl;
  same_popup =
      λ o. either (λ v. popup_of v ≡ popup_of o) (eqb o.label x) (changed_by c o) o
      (popup_after c o.peer o.peer o.label o.kind) refl;
}

pub label_kept : (x : ℕ) (c : Change) (o : Object) → (changed_at x c o).label ≡ o.label
label_kept x c o = either (λ v. v.label ≡ o.label) (eqb o.label x) (changed_by c o) o refl refl

-- a field that was left

abbrev pub IsLeft : Kept → Type 0
IsLeft kept = change.focused false kept ≡ kept

unless : (b : Bool) (u v : Kept) → b ≡ false → (if b then u else v) ≡ v
unless true u v out = absurd (cc)
unless false u v out = refl

-- no request has an effect
asked_out : (act : Act) (kept : Kept) → kept.entered ≡ false → asked act kept ≡ kept
asked_out (acts.Enable f) kept out = unless kept.entered _ kept out
asked_out (acts.Disable f) kept out = unless kept.entered _ kept out
asked_out (acts.Surround f text cursor anchor) kept out =
    unless (kept.entered && is_place text cursor && is_place text anchor) _ kept
    (ap (λ b. b && is_place text cursor && is_place text anchor) out)
asked_out (acts.Cause f cause) kept out = unless kept.entered _ kept out
asked_out (acts.Content f hint purpose) kept out = unless kept.entered _ kept out
asked_out (acts.Cursor f rect) kept out =
    unless (kept.entered && is_length rect.width && is_length rect.height) _ kept
    (ap (λ b. b && is_length rect.width && is_length rect.height) out)
asked_out _ kept out = refl

asked_left : (act : Act) (kept : Kept) → IsLeft kept → IsLeft (asked act kept)
asked_left act kept left =
    let out : kept.entered ≡ false = sym (ap (λ k. k.entered) left) in
    let same : asked act kept ≡ kept = asked_out act kept out in
    ap (change.focused false) same ∙ left ∙ sym same

committed_left : (kept : Kept) → IsLeft kept → IsLeft (change.committed kept)
committed_left kept left = subst (λ k. IsLeft (change.committed k)) left refl

displaced_left : (kept : Kept) → IsLeft kept → IsLeft (change.displaced kept)
displaced_left kept left = subst (λ k. IsLeft (change.displaced k)) left refl

abbrev pub IsLeftKind : Kind → Type 0
IsLeftKind k = changed (change.focused false) k ≡ k

changed_left : (f : Kept → Kept) → ((kept : Kept) → IsLeft kept → IsLeft (f kept)) → (k : Kind) → IsLeftKind k →
    IsLeftKind (changed f k)
changed_left f keeps Peer left = refl
changed_left f keeps (Surface area) left = refl
changed_left f keeps (Field kept) left =
    let inner : IsLeft kept = cc in
    ap Field (keeps kept inner)
changed_left f keeps Method left = refl
changed_left f keeps (Popup m s) left = refl
changed_left f keeps (Grab m) left = refl
changed_left f keeps Thing left = refl
changed_left f keeps Board left = refl

placed_left : (rect : Rect) (k : Kind) → IsLeftKind k → IsLeftKind (kind_placed rect k)
placed_left rect Peer left = refl
placed_left rect (Surface area) left = refl
placed_left rect (Field kept) left = left
placed_left rect Method left = refl
placed_left rect (Popup m s) left = refl
placed_left rect (Grab m) left = refl
placed_left rect Thing left = refl
placed_left rect Board left = refl

-- the focus doesn't move
abbrev pub IsFirm : Change → Type 0
IsFirm (Ask act) = Unit {0}
IsFirm (Focus peer) = ⊥
IsFirm Commit = Unit {0}
IsFirm Displace = Unit {0}
IsFirm (Area rect) = Unit {0}

after_left : (c : Change) → IsFirm c → (p : ℕ) (k : Kind) → IsLeftKind k → IsLeftKind (kind_after c p k)
after_left (Ask act) firm p k left = changed_left (asked act.now) (asked_left act.now) k left
after_left (Focus peer) firm p k left = absurd firm
after_left Commit firm p k left = changed_left change.committed committed_left k left
after_left Displace firm p k left = changed_left change.displaced displaced_left k left
after_left (Area rect) firm p k left = placed_left rect k left

pub calm_kept : (x : ℕ) (c : Change) → IsFirm c → (entered : Entered) (o : Object) → IsCalm entered o →
    IsCalm entered (changed_at x c o)
calm_kept x c firm entered o calm =
    either (IsCalm entered) (eqb o.label x) (changed_by c o) o
    (λ may. ap (λ k. record o { kind = k }) (after_left c firm o.peer o.kind (ap (λ (v : Object). v.kind) (calm may))))
    calm
