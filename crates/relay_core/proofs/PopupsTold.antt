-- Popups: what is told of each is what the definitions tell.
use Rattle.std.proofs.Common.{◌≡◌, ℕ, ◌+◌, List, [], ◌∷◌, ◌++◌, length, map, Bool, true, false, Option, Some, None, ap, refl, sym, ◌∙◌, arith}
use Rattle.std.proofs.lemmas.Bool.{true≢false}
use Rattle.std.specs.Prelude.{◌&&◌, if◌then◌else◌, filter, is_some}
use Rattle.std.specs.List.{flat_map}
use Rattle.popup_place.specs.declared.geometry.Rect.{Rect}
use Rattle.popup_place.specs.declared.geometry.Size.{Size}
use Rattle.popup_place.specs.Popup.{place_of}
use Rattle.relay_model.specs.declared.act.Act.{Act}
use Rattle.relay_model.specs.declared.act.Act.TheVariants as acts
use Rattle.relay_model.specs.declared.said.Told.{Told}
use Rattle.relay_model.specs.Objects.{Object, Kind, PeerKind, SurfaceKind, FieldKind, MethodKind, ThingKind, BoardKind, PopupKind, GrabKind, is_at, is_same, is_kind, is_popup_kind, is_popup, popups, object, alive, labels, method_in, surface_in}
use Rattle.relay_model.specs.Focus.{where_alive, focus}
use Rattle.relay_model.specs.Hold.{holder}
use Rattle.relay_model.specs.Activation.{serving}
use Rattle.relay_model.specs.Popups as model
use Rattle.relay_model.specs.Popups.{area, screen, cursor, corner, size_of, corner_of, origin, place, ready_surface, place_told, told_where, each_popup}
use Rattle.relay_model.specs.Idle.{is_live}
use Rattle.relay_model.specs.Told.{own, told_by}
use Rattle.relay_model.proofs.ActsOrIdle.{IsHistory}
use Rattle.relay_model.proofs.HoldLaws.{kept_same}
use Rattle.relay_model.proofs.FocusLaws.{focus_alive}
use Rattle.field_state.specs.Calls as field
use Rattle.relay_objects.specs.declared.object.Object.{Object as Kept}
use Rattle.relay_objects.specs.declared.object.Kind.TheVariants.{Popup}
use Rattle.relay_objects.specs.Objects.{find, area_in, area_of_kind, placed_at}
use Rattle.relay_core.specs.Machine.{State, counted, made_by}
use Rattle.relay_core.specs.Popups.{cursor_in, corner_at, origin_in, shown_told, kind_told, popup_told, popups_beside, popups_told, popups_where_holds, popup_beside, new_popup_told}
use Rattle.relay_core.specs.Stands.{Stands, kind_of, entry_of, entry}
use Rattle.relay_core.proofs.SurfaceAreas.{area_other}
use Rattle.relay_core.proofs.HistoryEntries.{map_if, found_of}
use Rattle.relay_core.proofs.LookUpsFind.{finds, holder_state_is}
use Rattle.relay_core.proofs.KeyActsStand.{says_own, stands_popup, stands_area, stands_screen}
use Rattle.relay_core.proofs.SteadyActs.{popup_steady, area_steady, screen_steady, notice_quiet}

-- where a surface is

area_of_found : (log : List Act) (t : ℕ) (o : Option Object) → IsHistory log → object log t ≡ o → is_some o ≡ true →
    area_in (found_of log t o) ≡ area log t
area_of_found log t None i e k = cc
area_of_found log t (Some thing) i e k = at thing.kind thing.peer log t i e
  where
    at : (k : Kind) (p : ℕ) (log : List Act) (t : ℕ) → IsHistory log →
        object log t ≡ Some (record { kind = k; peer = p }) → area_of_kind (kind_of log t k) ≡ area log t
    at PeerKind p log t i e = sym (area_other log t _ i e refl)
    at SurfaceKind p log t i e = refl
    at FieldKind p log t i e = sym (area_other log t _ i e refl)
    at MethodKind p log t i e = sym (area_other log t _ i e refl)
    at ThingKind p log t i e = sym (area_other log t _ i e refl)
    at BoardKind p log t i e = sym (area_other log t _ i e refl)
    at (PopupKind m s) p log t i e = sym (area_other log t _ i e refl)
    at (GrabKind m) p log t i e = sym (area_other log t _ i e refl)

finds_area : (s : State) (log : List Act) (t : ℕ) → IsHistory log → Stands s log → alive log t ≡ true →
    area_in (find s.objects t) ≡ area log t
finds_area s log t i h e = ap area_in (finds s log t h) ∙ area_of_found log t (object log t) i refl e

corner_is : (s : State) (log : List Act) (o : Option ℕ) → IsHistory log → Stands s log → focus log ≡ o →
    corner_at s o ≡ corner_of log o
corner_is s log None i h e = refl
corner_is s log (Some t) i h e = ap corner (finds_area s log t i h (focus_alive log t e))

origin_is : (s : State) (log : List Act) → IsHistory log → Stands s log → origin_in s ≡ origin log
origin_is s log i h = ap (corner_at s) h.focus_now ∙ corner_is s log (focus log) i h refl

cursor_by : (s : State) (log : List Act) (o : Option ℕ) → IsHistory log → Stands s log → holder log ≡ o → s.holder ≡ o →
    cursor_in s ≡ model.rect_of log o
cursor_by s log None i h e k = rw k refl
cursor_by s log (Some f) i h e k = ap (λ (c : field.State). c.rect) (holder_state_is s log f h i e)

cursor_is : (s : State) (log : List Act) → IsHistory log → Stands s log → cursor_in s ≡ cursor log
cursor_is s log i h = cursor_by s log (holder log) i h refl h.holder_now

-- one popup

there_is : (s : State) (log : List Act) (t : ℕ) → Stands s log → is_some (find s.objects t) ≡ alive log t
there_is s log t h = ap is_some (finds s log t h) ∙ at log t (object log t)
  where
    at : (log : List Act) (t : ℕ) (o : Option Object) → is_some (found_of log t o) ≡ is_some o
    at log t None = refl
    at log t (Some thing) = refl

shown_is : (s : State) (log : List Act) (rect : Rect) (x m t : ℕ) (b c : Bool) → IsHistory log → Stands s log →
    is_at (serving log) m ≡ b → alive log t ≡ c →
    shown_told s rect x m t
    ≡ told_where log x (if is_at (serving log) m then where_alive log (Some t) else None) (Some rect)
shown_is s log rect x m t false c i h e k =
    let a : is_at s.serving m ≡ false = ap (λ o. is_at o m) h.served_now.serving_now ∙ e in
    rw (a, e) refl
shown_is s log rect x m t true false i h e k =
    let a : is_at s.serving m ≡ true = ap (λ o. is_at o m) h.served_now.serving_now ∙ e in
    let d : is_some (find s.objects t) ≡ false = there_is s log t h ∙ k in
    rw (a, d, e, k) refl
shown_is s log rect x m t true true i h e k =
    let a : is_at s.serving m ≡ true = ap (λ o. is_at o m) h.served_now.serving_now ∙ e in
    let d : is_some (find s.objects t) ≡ true = there_is s log t h ∙ k in
    let z : s.screen ≡ screen log = h.screen_now in
    let o : origin_in s ≡ origin log = origin_is s log i h in
    let r : area_in (find s.objects t) ≡ area log t = finds_area s log t i h k in
    let here : place_told x (place_of s.screen (origin_in s) rect (size_of (area_in (find s.objects t))))
    ≡ place_told x (place log t rect) =
    ap (λ w. place_told x (place_of w (origin_in s) rect (size_of (area_in (find s.objects t))))) z ∙
    ap (λ w. place_told x (place_of (screen log) w rect (size_of (area_in (find s.objects t))))) o ∙
    ap (λ w. place_told x (place_of (screen log) (origin log) rect (size_of w))) r in
    ap (λ v. if v && is_some (find s.objects t)
    then place_told x (place_of s.screen (origin_in s) rect (size_of (area_in (find s.objects t)))) else []) a ∙
    ap (λ v. if v then place_told x (place_of s.screen (origin_in s) rect (size_of (area_in (find s.objects t))))
    else []) d ∙ here ∙
    sym (ap (λ v. told_where log x (if v then (if alive log t then Some t else None) else None) (Some rect)) e ∙
    ap (λ v. told_where log x (if v then Some t else None) (Some rect)) k)

-- no surface, no place
nowhere : (log : List Act) (x : ℕ) (rect : Option Rect) (b : Bool) →
    told_where log x (if b then None else None) rect ≡ []
nowhere log x rect true = refl
nowhere log x rect false = refl

popup_at : (s : State) (log : List Act) (rect : Rect) (x : ℕ) (o : Option Object) → IsHistory log → Stands s log →
    object log x ≡ o →
    (if is_some o then popup_told s rect (entry_of log x o) else [])
    ≡ told_where log x (if is_same (method_in o) (serving log) then where_alive log (surface_in o) else None)
    (Some rect)
popup_at s log rect x None i h e = refl
popup_at s log rect x (Some thing) i h e = at thing.kind thing.peer s log rect x i h
  where
    at : (k : Kind) (p : ℕ) (s : State) (log : List Act) (rect : Rect) (x : ℕ) → IsHistory log → Stands s log →
        kind_told s rect x (kind_of log x k)
        ≡ told_where log x
        (if is_same (method_in (Some (record { kind = k; peer = p }))) (serving log)
        then where_alive log (surface_in (Some (record { kind = k; peer = p }))) else None) (Some rect)
    at PeerKind p s log rect x i h = refl
    at SurfaceKind p s log rect x i h = refl
    at FieldKind p s log rect x i h = refl
    at MethodKind p s log rect x i h = refl
    at ThingKind p s log rect x i h = refl
    at BoardKind p s log rect x i h = refl
    at (PopupKind m t) p s log rect x i h =
        shown_is s log rect x m t (is_at (serving log) m) (alive log t) i h refl refl
    at (GrabKind m) p s log rect x i h = sym (nowhere log x (Some rect) (is_at (serving log) m))

-- what is told of the label x
pub popup_is : (s : State) (log : List Act) (rect : Rect) (x : ℕ) → IsHistory log → Stands s log →
    cursor log ≡ Some rect →
    (if alive log x then popup_told s rect (entry log x) else []) ≡ model.popup_told log x
popup_is s log rect x i h e =
    popup_at s log rect x (object log x) i h refl ∙ ap (told_where log x (ready_surface log x)) (sym e)

-- an object that is no popup is told nothing
no_popup : (log : List Act) (x : ℕ) (o : Option Object) (rect : Option Rect) → is_kind is_popup_kind o ≡ false →
    told_where log x (if is_same (method_in o) (serving log) then where_alive log (surface_in o) else None) rect ≡ []
no_popup log x None rect e = refl
no_popup log x (Some thing) rect e = at thing.kind thing.peer log x rect e
  where
    at : (k : Kind) (p : ℕ) (log : List Act) (x : ℕ) (rect : Option Rect) → is_popup_kind k ≡ false →
        told_where log x
        (if is_same (method_in (Some (record { kind = k; peer = p }))) (serving log)
        then where_alive log (surface_in (Some (record { kind = k; peer = p }))) else None) rect ≡ []
    at PeerKind p log x rect e = refl
    at SurfaceKind p log x rect e = refl
    at FieldKind p log x rect e = refl
    at MethodKind p log x rect e = refl
    at ThingKind p log x rect e = refl
    at BoardKind p log x rect e = refl
    at (PopupKind m t) p log x rect e = absurd (true≢false e)
    at (GrabKind m) p log x rect e = nowhere log x rect (is_at (serving log) m)

-- all popups, by rising label

flat_if : (f : Kept → List Told) (b : Bool) (o : Kept) (os : List Kept) →
    flat_map f (if b then o ∷ os else os) ≡ (if b then f o else []) ++ flat_map f os
flat_if f true o os = refl
flat_if f false o os = refl

flat_test : (g : ℕ → List Told) (b : Bool) (x : ℕ) (xs : List ℕ) →
    flat_map g (if b then x ∷ xs else xs) ≡ (if b then g x else []) ++ flat_map g xs
flat_test g true x xs = refl
flat_test g false x xs = refl

flat_list : (f : Kept → List Told) (e : ℕ → Kept) (a : ℕ → Bool) (g : ℕ → List Told) (test : ℕ → Bool) (xs : List ℕ) →
    ((x : ℕ) → (if a x then f (e x) else []) ≡ (if test x then g x else [])) →
    flat_map f (map e (filter a xs)) ≡ flat_map g (filter test xs)
flat_list f e a g test [] h = refl
flat_list f e a g test (x ∷ xs) h =
    ap (flat_map f) (map_if (a x) e x (filter a xs)) ∙ flat_if f (a x) (e x) (map e (filter a xs)) ∙
    ap (λ ts. ts ++ flat_map f (map e (filter a xs))) (h x)
    ∙ ap (λ ts. (if test x then g x else []) ++ ts) (flat_list f e a g test xs h) ∙
    sym (flat_test g (test x) x (filter test xs))

only_popups : (log : List Act) (x : ℕ) (b : Bool) → is_popup log x ≡ b →
    model.popup_told log x ≡ (if b then model.popup_told log x else [])
only_popups log x true e = refl
only_popups log x false e = no_popup log x (object log x) (cursor log) e

nothing_beside : (log : List Act) (x : ℕ) (o : Option ℕ) → told_where log x o None ≡ []
nothing_beside log x None = refl
nothing_beside log x (Some t) = refl

flat_none : (g : ℕ → List Told) (xs : List ℕ) → ((x : ℕ) → g x ≡ []) → flat_map g xs ≡ []
flat_none g [] h = refl
flat_none g (x ∷ xs) h = ap (λ ts. ts ++ flat_map g xs) (h x) ∙ flat_none g xs h

popups_by : (s : State) (log : List Act) (o : Option Rect) → IsHistory log → Stands s log → cursor log ≡ o →
    popups_beside s o ≡ each_popup log
popups_by s log None i h e =
    sym (flat_none (model.popup_told log) (popups log)
    (λ x. ap (told_where log x (ready_surface log x)) e ∙ nothing_beside log x (ready_surface log x)))
popups_by s log (Some rect) i h e =
    ap (flat_map (popup_told s rect)) h.objects_now ∙
    flat_list (popup_told s rect) (entry log) (alive log) (model.popup_told log) (is_popup log) (labels log)
    (λ x. popup_is s log rect x i h e ∙ only_popups log x (is_popup log x) refl)

-- what is told of all popups
pub popups_are : (s : State) (log : List Act) → IsHistory log → Stands s log → popups_told s ≡ each_popup log
popups_are s log i h = ap (popups_beside s) (cursor_is s log i h) ∙ popups_by s log (cursor log) i h refl

-- the acts that tell it

pub live_history : (act : Act) (log : List Act) → is_live act log ≡ true → IsHistory log → IsHistory (act ∷ log)
live_history act log l i = (ap (λ b. if b then act else acts.Idle) l, i)

pub says_area : (s : State) (log : List Act) (t : ℕ) (rect : Rect) → IsHistory log →
    is_live (acts.Area t rect) log ≡ true → Stands s log →
    popups_told (record (counted s) { objects = map (placed_at t rect) s.objects }) ≡ told_by (acts.Area t rect) log
says_area s log t rect i l h =
    popups_are _ (acts.Area t rect ∷ log) (live_history (acts.Area t rect) log l i) (stands_area s log t rect i h) ∙
    says_own (acts.Area t rect) log
    (notice_quiet (acts.Area t rect) log refl refl refl (kept_same (acts.Area t rect) log i (area_steady t rect))) refl
    refl

pub says_screen : (s : State) (log : List Act) (size : Size) → IsHistory log → Stands s log →
    popups_told (record (counted s) { screen = size }) ≡ told_by (acts.Screen size) log
says_screen s log size i h =
    popups_are _ (acts.Screen size ∷ log) (live_history (acts.Screen size) log refl i) (stands_screen s log size i h) ∙
    says_own (acts.Screen size) log
    (notice_quiet (acts.Screen size) log refl refl refl (kept_same (acts.Screen size) log i (screen_steady size))) refl
    refl

beside_is : (s : State) (log : List Act) (x : ℕ) (o : Option Rect) → IsHistory log → Stands s log → cursor log ≡ o →
    popup_beside s o (found_of log x (object log x)) ≡ model.popup_told log x
beside_is s log x None i h e =
    sym (ap (told_where log x (ready_surface log x)) e ∙ nothing_beside log x (ready_surface log x))
beside_is s log x (Some rect) i h e = at s log rect x (object log x) ∙ popup_is s log rect x i h e
  where
    at : (s : State) (log : List Act) (rect : Rect) (x : ℕ) (o : Option Object) →
        popup_beside s (Some rect) (found_of log x o) ≡ (if is_some o then popup_told s rect (entry_of log x o) else [])
    at s log rect x None = refl
    at s log rect x (Some thing) = refl

pub says_popup : (s : State) (log : List Act) (m t : ℕ) → IsHistory log → is_live (acts.Popup m t) log ≡ true →
    Stands s log →
    new_popup_told (made_by m (Popup m t) (counted s)) ≡ told_by (acts.Popup m t) log
says_popup s log m t i l h =
    let now : List Act = acts.Popup m t ∷ log in
    let r : State = made_by m (Popup m t) (counted s) in
    let j : IsHistory now = live_history (acts.Popup m t) log l i in
    let k : Stands r now = stands_popup s log m t i h in
    let n : length now ≡ length log + 1 = omega arith in
    ap (λ n. popup_beside r (cursor_in r) (find r.objects n)) (k.acts_now ∙ n) ∙
    ap (popup_beside r (cursor_in r)) (finds r now (length log + 1) k) ∙
    ap (λ o. popup_beside r o (found_of now (length log + 1) (object now (length log + 1)))) (cursor_is r now j k) ∙
    beside_is r now (length log + 1) (cursor now) j k refl ∙
    says_own (acts.Popup m t) log
    (notice_quiet (acts.Popup m t) log refl refl refl (kept_same (acts.Popup m t) log i (popup_steady m t))) refl refl

-- after a commit, where the field holds then
pub says_shown : (s : State) (log : List Act) (f : ℕ) → IsHistory (acts.Commit f ∷ log) →
    Stands s (acts.Commit f ∷ log) →
    popups_where_holds f s ≡ own (acts.Commit f) log
says_shown s log f i h =
    ap (λ o. if is_at o f then popups_told s else []) h.holder_now ∙
    ap (λ ts. if is_at (holder (acts.Commit f ∷ log)) f then ts else []) (popups_are s (acts.Commit f ∷ log) i h)
