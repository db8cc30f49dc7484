-- Acts that leave all popups as they are.
use Rattle.std.proofs.Common.{◌≡◌, ℕ, ◌+◌, ◌≤◌, List, [], ◌∷◌, ◌++◌, length, Bool, true, false, Option, Some, None, ap, refl, sym, ◌∙◌, arith, append-nil}
use Rattle.std.specs.Prelude.{◌&&◌, not, if◌then◌else◌, is_some, is_none}
use Rattle.std.specs.List.{flat_map, list_any}
use Rattle.std.proofs.lemmas.Bool.{ne_eqb, true≢false}
use Rattle.std.proofs.lemmas.Grind.{flat_map-append}
use Rattle.relay_model.specs.declared.act.Act.{Act}
use Rattle.relay_model.specs.declared.act.Act.TheVariants as acts
use Rattle.relay_model.specs.Objects.{Object, Kind, PeerKind, SurfaceKind, FieldKind, MethodKind, ThingKind, BoardKind, PopupKind, GrabKind, is_at, is_kind, is_popup_kind, is_popup, remains, object, alive, labels, next}
use Rattle.relay_model.specs.Focus.{last_focus, focus_since}
use Rattle.relay_model.specs.Hold.{holder}
use Rattle.relay_model.specs.Activation.{serving}
use Rattle.relay_model.specs.Popups.{cursor, rect_of, ready_surface, popup_shown}
use Rattle.relay_model.specs.Idle.{is_live}
use Rattle.relay_model.specs.Told.{told_by}
use Rattle.relay_model.proofs.ActsOrIdle.{IsHistory}
use Rattle.relay_model.proofs.ObjectLaws.{object_step, alive_within}
use Rattle.relay_model.proofs.FocusLaws.{IsSteady}
use Rattle.relay_model.proofs.HoldLaws.{kept_same, and_true}
use Rattle.relay_model.proofs.ActivationLaws.{Each, serving_same}
use Rattle.c_relay.specs.declared.popups.KeptPopup.{KeptPopup}
use Rattle.c_relay.specs.Hidden.{hidden_by}
use Rattle.c_relay.specs.KeptPopups.{kept_at, kept_object, kept_popups, is_holders, made_popup, moves, tells_place}
use Rattle.c_relay.proofs.PopupsBefore.{AreOld, popup_old, ready_of}
use Rattle.c_relay.proofs.CursorKept.{cursor_step}
use Rattle.c_relay.proofs.PopupsTurn.{IsPopupAt, kept_as, hidden_at, not_kept, unkept}
use Rattle.c_relay.proofs.KeptAfterAct.{labels_within, made_kept, picked}

keeps_all : (act : Act) → moves act ≡ false → (x : ℕ) (o : Option Object) → remains act x o ≡ o
keeps_all (acts.Drop y) n x o = absurd (true≢false n)
keeps_all (acts.Gone p cause) n x o = absurd (true≢false n)
keeps_all _ n x o = refl

last_same : (act : Act) (log : List Act) → moves act ≡ false → last_focus (act ∷ log) ≡ last_focus log
last_same (acts.Focus s) log n = absurd (true≢false n)
last_same acts.Unfocus log n = absurd (true≢false n)
last_same _ log n = refl

since_same : (act : Act) (log : List Act) → moves act ≡ false → focus_since (act ∷ log) ≡ focus_since log
since_same (acts.Focus s) log n = absurd (true≢false n)
since_same _ log n = refl

steady : (act : Act) → moves act ≡ false → IsSteady act
steady act n =
    record { keeps = keeps_all act n; last = λ log. last_same act log n; since = λ log. since_same act log n }

holder_same : (act : Act) (log : List Act) → IsHistory log → moves act ≡ false → holder (act ∷ log) ≡ holder log
holder_same (acts.Commit f) log i n = absurd (true≢false n)
holder_same act log i n = kept_same act log i (steady act n)

not_holders : (act : Act) (o : Option ℕ) → moves act ≡ false → is_holders act o ≡ false
not_holders (acts.Commit f) o n = absurd (true≢false n)
not_holders _ o n = refl

made_none : (act : Act) (x : ℕ) (told : Bool) → moves act ≡ false → made_popup act x told ≡ []
made_none (acts.Popup m s) x told n = absurd (true≢false n)
made_none _ x told n = refl

served_same : (act : Act) (log : List Act) (m : ℕ) → m ≤ length log → moves act ≡ false →
    is_at (serving (act ∷ log)) m ≡ is_at (serving log) m
served_same (acts.Method p) log m w n = at (serving log)
  where
    at : (o : Option ℕ) → is_at (if is_none o then Some (next log) else o) m ≡ is_at o m
    at None = ne_eqb (length log + 1) m (λ e. omega arith)
    at (Some k) = refl
served_same act log m w n = ap (λ o. is_at o m) (serving_same act log refl (steady act n))

object_same : (act : Act) (log : List Act) (x : ℕ) → x ≤ length log → moves act ≡ false →
    object (act ∷ log) x ≡ object log x
object_same act log x w n = object_step act log x w ∙ keeps_all act n x (object log x)

cursor_held : (log : List Act) (o : Option ℕ) → (is_some (rect_of log o) && is_some o) ≡ is_some (rect_of log o)
cursor_held log None = refl
cursor_held log (Some h) = and_true (is_some (rect_of log (Some h)))

cursor_same : (act : Act) (log : List Act) → IsHistory log → moves act ≡ false →
    is_some (cursor (act ∷ log)) ≡ is_some (cursor log)
cursor_same act log i n =
    cursor_step act log (not_holders act (holder (act ∷ log)) n)
    ∙ ap (λ o. is_some (cursor log) && is_some o) (holder_same act log i n)
    ∙ cursor_held log (holder log)

-- a popup is shown as it was
shown_same : (act : Act) (log : List Act) (x m s p : ℕ) → IsHistory log → moves act ≡ false → IsPopupAt log x m s p →
    popup_shown (act ∷ log) x ≡ popup_shown log x
shown_same act log x m s p i n e =
    let w : x ≤ length log = alive_within log x (ap is_some e) in
    let old : AreOld m s (length log) = popup_old log x m s p i e in
    let now : IsPopupAt (act ∷ log) x m s p = object_same act log x w n ∙ e in
    let ready : is_some (ready_surface (act ∷ log) x) ≡ is_some (ready_surface log x) =
    ready_of (act ∷ log) x m s p (object (act ∷ log) x) now refl
    ∙ ap (λ v. v && alive (act ∷ log) s) (served_same act log m old.0 n)
    ∙ ap (λ v. is_at (serving log) m && is_some v) (object_same act log s old.1 n)
    ∙ sym (ready_of log x m s p (object log x) e refl) in
    ap (λ v. v && is_some (cursor (act ∷ log))) ready
    ∙ ap (λ v. is_some (ready_surface log x) && v) (cursor_same act log i n)

pub record Stays (act : Act) (log : List Act) (x : ℕ) : Type 0 where
  pub kept : kept_at (act ∷ log) x ≡ kept_at log x
  pub hidden : hidden_at act log x ≡ []

stays_other : (act : Act) (log : List Act) (x : ℕ) (o : Option Object) → x ≤ length log → object log x ≡ o →
    is_kind is_popup_kind o ≡ false → Stays act log x
stays_other act log x o w e k =
    let other : is_popup log x ≡ false = ap (is_kind is_popup_kind) e ∙ k in
    record {
      kept = unkept act log x w other ∙ sym (not_kept log x (object log x) other);
      hidden = ap (λ b. if b then (if popup_shown log x then (if not (popup_shown (act ∷ log) x) then x ∷ [] else [])
          else []) else []) other;
    }

none_hidden : (x : ℕ) (is was now : Bool) → now ≡ was →
    (if is then (if was then (if not now then x ∷ [] else []) else []) else []) ≡ []
none_hidden x true true now e = rw e refl
none_hidden x true false now e = refl
none_hidden x false was now e = refl

stays_popup : (act : Act) (log : List Act) (x m s p : ℕ) → IsHistory log → moves act ≡ false →
    IsPopupAt log x m s p → Stays act log x
stays_popup act log x m s p i n e =
    let w : x ≤ length log = alive_within log x (ap is_some e) in
    let now : IsPopupAt (act ∷ log) x m s p = object_same act log x w n ∙ e in
    record {
      kept = ap (kept_object (act ∷ log) x) now
          ∙ ap (λ v. kept_as x m s v true) (shown_same act log x m s p i n e)
          ∙ sym (ap (kept_object log x) e);
      hidden = none_hidden x (is_popup log x) (popup_shown log x) (popup_shown (act ∷ log) x)
          (shown_same act log x m s p i n e);
    }

stays_label : (act : Act) (log : List Act) (x : ℕ) → IsHistory log → moves act ≡ false → x ≤ length log →
    Stays act log x
stays_label act log x i n w = by (object log x) refl
  where
    by : (o : Option Object) → object log x ≡ o → Stays act log x
    by None e = stays_other act log x None w e refl
    by (Some thing) e = at thing.kind thing.peer e
      where
        at : (k : Kind) (p : ℕ) → object log x ≡ Some (record { kind = k; peer = p }) → Stays act log x
        at (PopupKind m s) p e = stays_popup act log x m s p i n e
        at PeerKind p e = stays_other act log x (Some (record { kind = PeerKind; peer = p })) w e refl
        at SurfaceKind p e = stays_other act log x (Some (record { kind = SurfaceKind; peer = p })) w e refl
        at FieldKind p e = stays_other act log x (Some (record { kind = FieldKind; peer = p })) w e refl
        at MethodKind p e = stays_other act log x (Some (record { kind = MethodKind; peer = p })) w e refl
        at ThingKind p e = stays_other act log x (Some (record { kind = ThingKind; peer = p })) w e refl
        at BoardKind p e = stays_other act log x (Some (record { kind = BoardKind; peer = p })) w e refl
        at (GrabKind m) p e = stays_other act log x (Some (record { kind = GrabKind m; peer = p })) w e refl

same_labels : (act : Act) (log : List Act) (xs : List ℕ) → IsHistory log → moves act ≡ false →
    Each (λ x. x ≤ length log) xs → flat_map (kept_at (act ∷ log)) xs ≡ flat_map (kept_at log) xs
same_labels act log [] i n w = refl
same_labels act log (x ∷ xs) i n w =
    ap (λ (ps : List KeptPopup). ps ++ flat_map (kept_at (act ∷ log)) xs) (stays_label act log x i n w.0).kept
    ∙ ap (λ (ps : List KeptPopup). kept_at log x ++ ps) (same_labels act log xs i n w.1)

none_labels : (act : Act) (log : List Act) (xs : List ℕ) → IsHistory log → moves act ≡ false →
    Each (λ x. x ≤ length log) xs → flat_map (hidden_at act log) xs ≡ []
none_labels act log [] i n w = refl
none_labels act log (x ∷ xs) i n w =
    ap (λ (ys : List ℕ). ys ++ flat_map (hidden_at act log) xs) (stays_label act log x i n w.0).hidden
    ∙ none_labels act log xs i n w.1

pub kept_quiet : (act : Act) (log : List Act) → IsHistory log → is_live act log ≡ true → moves act ≡ false →
    kept_popups (act ∷ log) ≡ kept_popups log
kept_quiet act log i l n =
    flat_map-append (kept_at (act ∷ log)) (labels log) ((length log + 1) ∷ [])
    ∙ ap (λ (ps : List KeptPopup). ps ++ (kept_at (act ∷ log) (length log + 1) ++ []))
    (same_labels act log (labels log) i n (labels_within log))
    ∙ ap (λ (ps : List KeptPopup). kept_popups log ++ ps)
    (append-nil (kept_at (act ∷ log) (length log + 1)) ∙ made_kept act log l
    ∙ made_none act (length log + 1) (list_any tells_place (told_by act log)) n)
    ∙ append-nil (kept_popups log)

pub hidden_quiet : (act : Act) (log : List Act) → IsHistory log → moves act ≡ false → hidden_by act log ≡ []
hidden_quiet act log i n =
    picked (is_popup log) (popup_shown log) (λ x. not (popup_shown (act ∷ log) x)) (labels log)
    ∙ none_labels act log (labels log) i n (labels_within log)
