-- An act tells a field nothing but that it is entered or left, and the batches that are relayed to it.
use Rattle.std.proofs.Common.{◌≡◌, ℕ, ◌≤◌, List, [], ◌∷◌, length, map, Bool, true, false, not, ◌&&◌, Option, Some, None, ap, refl, sym, ◌∙◌, subst, arith}
use Rattle.std.specs.Prelude.{if◌then◌else◌, ◌==◌, is_none, is_some, filter, nat_lt}
use Rattle.std.specs.List.{AllByRecursion}
use Rattle.std.proofs.lemmas.Bool.{eqb-true, eq-eqb, ne_eqb, true≢false}
use Rattle.std.proofs.lemmas.Option.{same_Some}
use Rattle.relay_model.specs.declared.act.Act.{Act}
use Rattle.relay_model.specs.declared.act.Act.TheVariants as acts
use Rattle.relay_model.specs.declared.said.Told.{Told}
use Rattle.relay_model.specs.declared.said.Said.{Said}
use Rattle.relay_model.specs.declared.said.Said.TheVariants as said
use Rattle.relay_model.specs.Objects.{Kind, FieldKind, Object, next, is_at, is_same, is_kind, is_field_kind, is_peer_kind, is_popup_kind, is_peer, is_popup, owner, made, maker, remains, object, alive, peer_of, method_of, labels, fields, popups}
use Rattle.relay_model.specs.Focus.{where_alive, focus, entered, peer_at}
use Rattle.relay_model.specs.Hold.{holder}
use Rattle.relay_model.specs.Activation.{serving, notice, fresh}
use Rattle.relay_model.specs.Batch.{group_of}
use Rattle.relay_model.specs.Keys.{Goes, ToGrab, ToShell, Nowhere, Refused, key_route, standing, stands_on, as_first, to_standing, first_went, grab_stands, is_down, is_press, number_down, Mods}
use Rattle.relay_model.specs.Boards.{board_route, board_down, board_number, board_went, grab_for}
use Rattle.relay_model.specs.Popups.{cursor, ready_surface, told_where, popup_told, each_popup}
use Rattle.relay_model.specs.Globals.{offered, global_told}
use Rattle.relay_model.specs.Idle.{cleaned, history}
use Rattle.relay_model.specs.Told.{to, leave, enter, each_entered, leaves, notice_said, to_method, enters_new, enters, to_holder, deleted, key_told, keyboard_said, to_grab, own, told_by, told, board_mods_told}
use Rattle.relay_model.proofs.ActsOrIdle.{IsHistory, live, history_is, cleaned_again}
use Rattle.relay_model.proofs.ActivationLaws.{serving_within}
use Rattle.relay_model.proofs.ObjectLaws.{alive_within}
use Rattle.broker_model.specs.Law.{field_peer, maker_of, is_entering}
use Rattle.broker_model.proofs.OwnersLive.{remains_some, maker_stays, owner_lives}
use Rattle.broker_model.proofs.EachElement.{either_way, each_of, each_weaker, each_append, each_map, each_flat, each_kept}

-- ---- what a field is

-- no field has the label
abbrev IsNone : List Act → ℕ → Type 0
IsNone log x = maker_of log x ≡ None

abbrev OtherKind : ℕ → Kind → Type 0
OtherKind p kind = is_field_kind kind ≡ false

made_field : (act : Act) (n p : ℕ) (whose : Option ℕ) (o : Object) → field_peer act ≡ Some p →
    made act n whose ≡ Some o →
    is_field_kind o.kind ≡ true
made_field (acts.Field q) n p whose o f e =
    let same : (let u : Object = record { kind = FieldKind; peer = q } in u ≡ o) = same_Some _ o e in
    ap (λ (u : Object). is_field_kind u.kind) (sym same)
made_field _ n p whose o f e = cc

field_at : (act : Act) (older : List Act) (x p : ℕ) (o : Object) (b : Bool) →
    (maker_of older x ≡ Some p → object older x ≡ Some o → is_field_kind o.kind ≡ true) →
    (if b then field_peer act else maker_of older x) ≡ Some p →
    (if b then made act x (owner (object older (maker act))) else remains act x (object older x)) ≡ Some o →
    is_field_kind o.kind ≡ true
field_at act older x p o true k f e = made_field act x p (owner (object older (maker act))) o f e
field_at act older x p o false k f e = k f (remains_some act x (object older x) o e)

-- what lives with the label of a field is a field
field_only : (log : List Act) (x p : ℕ) (o : Object) → maker_of log x ≡ Some p → object log x ≡ Some o →
    is_field_kind o.kind ≡ true
field_only [] x p o f e = cc
field_only (act ∷ older) x p o f e = field_at act older x p o (x == next older) (field_only older x p o) f e

-- so a live object of another kind isn't one
not_field : (log : List Act) (x p : ℕ) (test : Kind → Bool) →
    ((kind : Kind) → is_field_kind kind ≡ true → test kind ≡ false) →
    maker_of log x ≡ Some p → is_kind test (object log x) ≡ true → ⊥
not_field log x p test other f e = by (object log x) refl e
  where
    by : (o : Option Object) → object log x ≡ o → is_kind test o ≡ true → ⊥
    by None h t = (let no : false ≡ true = t in cc)
    by (Some o) h t = true≢false (sym t ∙ other o.kind (field_only log x p o f h))

no_peer : (kind : Kind) → is_field_kind kind ≡ true → is_peer_kind kind ≡ false
no_peer FieldKind e = refl
no_peer _ e = cc

no_popup : (kind : Kind) → is_field_kind kind ≡ true → is_popup_kind kind ≡ false
no_popup FieldKind e = refl
no_popup _ e = cc

-- what an act makes that makes no field
new_none : (act : Act) (log : List Act) → field_peer act ≡ None → IsNone (act ∷ log) (next log)
new_none act log e = ap (λ (b : Bool). if b then field_peer act else maker_of log (next log))
    (eq-eqb (next log) (next log) refl) ∙ e

-- the shell's label
zero_none : (log : List Act) → IsNone log 0
zero_none [] = refl
zero_none (act ∷ older) =
    ap (λ (b : Bool). if b then field_peer act else maker_of older 0)
    (ne_eqb 0 (next older) (λ e. absurd (omega arith)))
    ∙ zero_none older

none_on : (act : Act) (log : List Act) (x : ℕ) → x ≤ length log → IsNone log x → IsNone (act ∷ log) x
none_on act log x w e = maker_stays act log x w ∙ e

-- ---- the method that serves, and the grab that stands

served : (act : Act) (older : List Act) (m : ℕ) →
    ((n : ℕ) → serving older ≡ Some n → IsNone older n) → where_alive (act ∷ older) (serving older) ≡ Some m →
    IsNone (act ∷ older) m
served act older m k e = by (serving older) refl e
  where
    by : (o : Option ℕ) → serving older ≡ o → where_alive (act ∷ older) o ≡ Some m → IsNone (act ∷ older) m
    by None f h = (let no : None ≡ Some m = h in cc)
    by (Some n) f h =
        let same : n ≡ m = alive_same (alive (act ∷ older) n) h in
        subst (λ x. IsNone (act ∷ older) x) same (none_on act older n (serving_within older n f) (k n f))
      where
        alive_same : (b : Bool) → (if b then Some n else None) ≡ Some m → n ≡ m
        alive_same true h = same_Some n m h
        alive_same false h = cc

method_served : (p : ℕ) (older : List Act) (m : ℕ) (b : Bool) → ((n : ℕ) → serving older ≡ Some n → IsNone older n) →
    (if b then Some (next older) else serving older) ≡ Some m → IsNone (acts.Method p ∷ older) m
method_served p older m true k e =
    subst (λ x. IsNone (acts.Method p ∷ older) x) (same_Some (next older) m e) (new_none (acts.Method p) older refl)
method_served p older m false k e = none_on (acts.Method p) older m (serving_within older m e) (k m e)

serving_none : (log : List Act) (m : ℕ) → serving log ≡ Some m → IsNone log m
serving_none [] m e = cc
serving_none (acts.Method p ∷ older) m e = method_served p older m (is_none (serving older))
    (λ n. serving_none older n) e
serving_none (act ∷ older) m e = served act older m (λ n. serving_none older n) e

record IsStanding (log : List Act) (g : ℕ) : Type 0 where
  within : g ≤ length log
  none : IsNone log g

stood_on : (act : Act) (older : List Act) (g : ℕ) → IsStanding older g → IsStanding (act ∷ older) g
stood_on act older g s =
    (let w = s.within in record { within = omega arith; none = none_on act older g s.within s.none })

stood : (act : Act) (older : List Act) (o : Option ℕ) (g : ℕ) → ((n : ℕ) → o ≡ Some n → IsStanding older n) →
    stands_on (act ∷ older) o ≡ Some g → IsStanding (act ∷ older) g
stood act older None g k e = cc
stood act older (Some n) g k e = by (is_same (method_of (act ∷ older) n) (serving (act ∷ older))) e
  where
    by : (b : Bool) → (if b then Some n else None) ≡ Some g → IsStanding (act ∷ older) g
    by true h = subst (λ x. IsStanding (act ∷ older) x) (same_Some n g h) (stood_on act older n (k n refl))
    by false h = cc

grab_stood : (m : ℕ) (older : List Act) (g : ℕ) (b : Bool) → ((n : ℕ) → standing older ≡ Some n → IsStanding older n) →
    (if b then Some (next older) else standing older) ≡ Some g → IsStanding (acts.Grab m ∷ older) g
grab_stood m older g true k e =
    subst (λ x. IsStanding (acts.Grab m ∷ older) x) (same_Some (next older) g e)
    (record { within = omega arith; none = new_none (acts.Grab m) older refl })
grab_stood m older g false k e = stood_on (acts.Grab m) older g (k g e)

grab_standing : (log : List Act) (g : ℕ) → standing log ≡ Some g → IsStanding log g
grab_standing [] g e = cc
grab_standing (acts.Grab m ∷ older) g e =
    grab_stood m older g (is_none (standing older) && is_at (serving older) m) (λ n. grab_standing older n) e
grab_standing (act ∷ older) g e = stood act older (standing older) g (λ n. grab_standing older n) e

-- ---- what is told to the label of a field

-- told to the field f, it says that the field is entered or left
abbrev pub IsWell : ℕ → Told → Type 0
IsWell f t = t.to ≡ f → is_entering t.event ≡ true

abbrev AreWell : ℕ → List Told → Type 0
AreWell f ts = AllByRecursion (IsWell f) ts

spare : (f x : ℕ) (saids : List Said) → (x ≡ f → ⊥) → AreWell f (map (to x) saids)
spare f x saids d = each_map (IsWell f) (to x) saids (each_of (λ s. IsWell f (to x s)) saids (λ s e. absurd (d e)))

entered_well : (f : ℕ) (say : ℕ → ℕ → Told) (now : List Act) (o : Option ℕ) →
    ((s x : ℕ) → is_entering (say s x).event ≡ true) →
    AreWell f (each_entered say now o)
entered_well f say now None h = tt
entered_well f say now (Some s) h =
    each_map (IsWell f) (say s) (filter (entered now) (fields now))
    (each_of (λ x. IsWell f (say s x)) (filter (entered now) (fields now)) (λ x e. h s x))

leaves_well : (f : ℕ) (act : Act) (log : List Act) → AreWell f (leaves act log)
leaves_well f (acts.Focus s) log = entered_well f leave log (focus log) (λ t x. refl)
leaves_well f acts.Unfocus log = entered_well f leave log (focus log) (λ t x. refl)
leaves_well f _ log = tt

new_well : (f x : ℕ) (now : List Act) (o : Option ℕ) → AreWell f (enters_new now x o)
new_well f x now None = tt
new_well f x now (Some s) =
    either_way (AllByRecursion (IsWell f)) (entered now x) (enter s x ∷ []) [] (λ e. refl, tt) tt

enters_well : (f : ℕ) (act : Act) (log : List Act) → AreWell f (enters act log)
enters_well f (acts.Focus s) log = entered_well f enter (acts.Focus s ∷ log) (focus (acts.Focus s ∷ log)) (λ t x. refl)
enters_well f (acts.Field p) log = new_well f (next log) (acts.Field p ∷ log) (focus (acts.Field p ∷ log))
enters_well f _ log = tt

module _ (act : Act) (log : List Act) (f p : ℕ) (is : maker_of (act ∷ log) f ≡ Some p) where
  -- a label that no field has is another
  other : (x : ℕ) → IsNone (act ∷ log) x → x ≡ f → ⊥
  other x none e = (let no : None ≡ Some p = sym none ∙ ap (maker_of (act ∷ log)) e ∙ is in cc)

  zero_other : 0 ≡ f → ⊥
  zero_other = other 0 (zero_none (act ∷ log))

  new_other : field_peer act ≡ None → next log ≡ f → ⊥
  new_other e = other (next log) (new_none act log e)

  old_other : (x : ℕ) → x ≤ length log → IsNone log x → x ≡ f → ⊥
  old_other x w e = other x (none_on act log x w e)

  method_well : (o : Option ℕ) → serving (act ∷ log) ≡ o → AreWell f (to_method act log o)
  method_well None e = tt
  method_well (Some m) e = spare f m (notice_said (act ∷ log) (notice act log)) (other m (serving_none (act ∷ log) m e))

  where_well : (x : ℕ) (s : Option ℕ) → (x ≡ f → ⊥) → AreWell f (told_where (act ∷ log) x s (cursor (act ∷ log)))
  where_well x None d = tt
  where_well x (Some s) d =
      elim (cursor (act ∷ log)) as (λ rect. AreWell f (told_where (act ∷ log) x (Some s) rect)) [
        | None ↦ tt
        | Some rect ↦ (λ e. absurd (d e), (λ e. absurd (zero_other e), tt))
      ]

  popup_well : (x : ℕ) → (x ≡ f → ⊥) → AreWell f (popup_told (act ∷ log) x)
  popup_well x d = where_well x (ready_surface (act ∷ log) x) d

  popups_well : AreWell f (each_popup (act ∷ log))
  popups_well =
      each_flat (IsWell f) (popup_told (act ∷ log)) (popups (act ∷ log))
      (each_weaker (λ x. is_popup (act ∷ log) x ≡ true) (λ x. AreWell f (popup_told (act ∷ log) x)) (popups (act ∷ log))
      (λ x k. popup_well x (λ e. not_field (act ∷ log) f p is_popup_kind no_popup is
      (subst (λ y. is_popup (act ∷ log) y ≡ true) e k)))
      (each_kept (is_popup (act ∷ log)) (labels (act ∷ log))))

  standing_well : (o : Option ℕ) (event : Said) → standing log ≡ o → AreWell f (to_grab o event)
  standing_well None event e = tt
  standing_well (Some g) event e =
      (let s = grab_standing log g e in (λ h. absurd (old_other g s.within s.none h), tt))

  abbrev GoesWell : Goes → Type 0
  GoesWell (ToGrab g) = g ≡ f → ⊥
  GoesWell _ = Unit {0}

  stands_well : (g : ℕ) → standing log ≡ Some g → g ≡ f → ⊥
  stands_well g e = (let s = grab_standing log g e in old_other g s.within s.none)

  first_well : (o : Option ℕ) → GoesWell (as_first log o)
  first_well None = tt
  first_well (Some g) = by (grab_stands log g) refl
    where
      at_is : (o : Option ℕ) → is_at o g ≡ true → o ≡ Some g
      at_is None e = cc
      at_is (Some h) e = ap Some (eqb-true h g e)

      by : (b : Bool) → grab_stands log g ≡ b → GoesWell (if b then ToGrab g else Nowhere)
      by true e = stands_well g (at_is (standing log) e)
      by false e = tt

  to_standing_well : (o : Option ℕ) → standing log ≡ o → GoesWell (to_standing o)
  to_standing_well None e = tt
  to_standing_well (Some g) e = stands_well g e

  goes_well : (key state : ℕ) → GoesWell (key_route log key state)
  goes_well key state =
      either_way GoesWell (is_down log key) (as_first log (first_went log key)) _ (first_well (first_went log key))
      (either_way GoesWell (not (is_press state)) ToShell _ tt
      (either_way GoesWell (nat_lt (number_down log) 64) (to_standing (standing log)) Refused
      (to_standing_well (standing log) refl) tt))

  -- the grab that a board's keys may go to stands
  for_well : (v : ℕ) (b : Bool) → GoesWell (to_standing (if b then None else standing log))
  for_well v true = tt
  for_well v false = to_standing_well (standing log) refl

  board_well : (v key state : ℕ) → GoesWell (board_route log v key state)
  board_well v key state =
      either_way GoesWell (board_down log v key) (as_first log (board_went log v key)) _
      (first_well (board_went log v key))
      (either_way GoesWell (not (is_press state)) ToShell _ tt
      (either_way GoesWell (nat_lt (board_number log v) 64) (to_standing (grab_for log v)) Refused
      (for_well v (is_same (peer_at log (standing log)) (peer_of log v))) tt))

  mods_well : (n : ℕ) (mods : Mods) (o : Option ℕ) → GoesWell (to_standing o) → AreWell f (board_mods_told n mods o)
  mods_well n mods None d = (λ e. absurd (zero_other e), tt)
  mods_well n mods (Some g) d = (λ e. absurd (d e), tt)

  key_well : (n time key state : ℕ) (goes : Goes) → GoesWell goes → AreWell f (key_told n time key state goes)
  key_well n time key state (ToGrab g) d = (λ e. absurd (d e), tt)
  key_well n time key state ToShell d = (λ e. absurd (zero_other e), tt)
  key_well n time key state Nowhere d = tt
  key_well n time key state Refused d = tt

  peer_other : (x : ℕ) → x ≤ length log → is_peer log x ≡ true → x ≡ f → ⊥
  peer_other x w e s =
      not_field log x p is_peer_kind no_peer
      (sym (maker_stays act log x w) ∙ ap (maker_of (act ∷ log)) s ∙ is) e

  peer_within : (x : ℕ) → is_peer log x ≡ true → x ≤ length log
  peer_within x e = alive_within log x (by (object log x) e)
    where
      by : (o : Option Object) → is_kind is_peer_kind o ≡ true → is_some o ≡ true
      by None h = cc
      by (Some o) h = refl

  peer_well : (x : ℕ) (event : Said) → is_peer log x ≡ true → IsWell f (to x event)
  peer_well x event e s = absurd (peer_other x (peer_within x e) e s)

  deleted_well : (x : ℕ) (o : Option ℕ) → IsHistory log → peer_of log x ≡ o → AreWell f (deleted x o)
  deleted_well x None i e = tt
  deleted_well x (Some q) i e = (peer_well q (said.DeleteId x) (owner_lives log x q i e), tt)

  -- a batch goes to the holder, and here to another field
  batch_well : (m serial : ℕ) (o : Option ℕ) → is_at o f ≡ false → AreWell f (to_holder (acts.MCommit m serial) log o)
  batch_well m serial None d = tt
  batch_well m serial (Some h) d =
      spare f h (group_of (acts.MCommit m serial) log h) (λ e. true≢false (sym (eq-eqb h f e) ∙ d))

abbrev pub Relays : Act → List Act → ℕ → Bool
Relays act log f = fresh act log && is_at (holder log) f

own_batch : (m serial : ℕ) (log : List Act) (f p : ℕ) (is : maker_of (acts.MCommit m serial ∷ log) f ≡ Some p)
    (b : Bool) →
    (b && is_at (holder log) f) ≡ false →
    AreWell f (if b then to_holder (acts.MCommit m serial) log (holder log) else [])
own_batch m serial log f p is true r = batch_well (acts.MCommit m serial) log f p is m serial (holder log) r
own_batch m serial log f p is false r = tt

own_well : (act : Act) (log : List Act) (f p : ℕ) → maker_of (act ∷ log) f ≡ Some p → IsHistory log →
    cleaned act log ≡ act →
    Relays act log f ≡ false → AreWell f (own act log)
own_well (acts.Method q) log f p is i c r =
    either_way (AllByRecursion (IsWell f)) (is_some (serving log)) (to (next log) said.Unavailable ∷ []) []
    (λ e. absurd (new_other (acts.Method q) log f p is refl e), tt) tt
own_well (acts.Popup m s) log f p is i c r =
    popup_well (acts.Popup m s) log f p is (next log) (new_other (acts.Popup m s) log f p is refl)
own_well (acts.Grab m) log f p is i c r =
    either_way (AllByRecursion (IsWell f)) (is_at (standing (acts.Grab m ∷ log)) (next log))
    (map (to (next log)) (keyboard_said (next log) log)) []
    (spare f (next log) (keyboard_said (next log) log) (new_other (acts.Grab m) log f p is refl)) tt
own_well (acts.Drop x) log f p is i c r = deleted_well (acts.Drop x) log f p is x (peer_of log x) i refl
own_well (acts.Area s rect) log f p is i c r = popups_well (acts.Area s rect) log f p is
own_well (acts.Screen size) log f p is i c r = popups_well (acts.Screen size) log f p is
own_well (acts.Commit g) log f p is i c r =
    either_way (AllByRecursion (IsWell f)) (is_at (holder (acts.Commit g ∷ log)) g) (each_popup (acts.Commit g ∷ log))
    []
    (popups_well (acts.Commit g) log f p is) tt
own_well (acts.MCommit m serial) log f p is i c r = own_batch m serial log f p is (fresh (acts.MCommit m serial) log) r
own_well (acts.Key time key state) log f p is i c r =
    key_well (acts.Key time key state) log f p is (next log) time key state (key_route log key state)
    (goes_well (acts.Key time key state) log f p is key state)
own_well (acts.Mods mods) log f p is i c r =
    standing_well (acts.Mods mods) log f p is (standing log) (said.Mods (next log) mods) refl
own_well (acts.Keymap keymap) log f p is i c r =
    standing_well (acts.Keymap keymap) log f p is (standing log) (said.Keymap keymap) refl
own_well (acts.Repeat repeat) log f p is i c r =
    standing_well (acts.Repeat repeat) log f p is (standing log) (said.Repeat repeat) refl
own_well (acts.VKey v time key state) log f p is i c r =
    key_well (acts.VKey v time key state) log f p is (next log) time key state (board_route log v key state)
    (board_well (acts.VKey v time key state) log f p is v key state)
own_well (acts.VMods v mods) log f p is i c r =
    mods_well (acts.VMods v mods) log f p is (next log) mods (grab_for log v)
    (for_well (acts.VMods v mods) log f p is v (is_same (peer_at log (standing log)) (peer_of log v)))
own_well (acts.Registry q role) log f p is i c r =
    each_map (IsWell f) (global_told (next log)) (offered role)
    (each_of (λ offer. IsWell f (global_told (next log) offer)) (offered role)
    (λ offer e. absurd (new_other (acts.Registry q role) log f p is refl e)))
own_well (acts.Sync q) log f p is i c r = (
  λ e. absurd (new_other (acts.Sync q) log f p is refl e),
  (peer_well (acts.Sync q) log f p is q (said.DeleteId (next log)) (live (acts.Sync q) log c (λ d. cc)), tt),
)
own_well (acts.Seat q) log f p is i c r = (λ e. absurd (new_other (acts.Seat q) log f p is refl e), tt)
own_well (acts.Bad q fault x) log f p is i c r =
    (peer_well (acts.Bad q fault x) log f p is q (said.Error x fault) (live (acts.Bad q fault x) log c (λ d. cc)), tt)
own_well _ log f p is i c r = tt

by_well : (act : Act) (log : List Act) (f p : ℕ) → maker_of (act ∷ log) f ≡ Some p → IsHistory log →
    cleaned act log ≡ act →
    Relays act log f ≡ false → AreWell f (told_by act log)
by_well act log f p is i c r =
    each_append (IsWell f) (leaves act log) _ (leaves_well f act log)
    (each_append (IsWell f) (to_method act log (serving (act ∷ log))) _
    (method_well act log f p is (serving (act ∷ log)) refl)
    (each_append (IsWell f) (enters act log) (own act log) (enters_well f act log) (own_well act log f p is i c r)))

-- what an act that relays no batch to a field tells it
pub told_entering : (act : Act) (acts : List Act) (f p : ℕ) → maker_of (history (act ∷ acts)) f ≡ Some p →
    Relays (cleaned act (history acts)) (history acts) f ≡ false → AreWell f (told act acts)
told_entering act acts f p is r =
    by_well (cleaned act (history acts)) (history acts) f p is (history_is acts) (cleaned_again act (history acts)) r
