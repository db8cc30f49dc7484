-- Acts that move the focus or take objects keep that the relay stands for the history.
use Rattle.std.proofs.Common.{◌≡◌, ℕ, ◌≤◌, List, ◌∷◌, length, map, Bool, true, false, Option, Some, None, ap, refl, sym, subst, ◌∙◌, ◌⊎◌, inl, inr}
use Rattle.std.specs.Prelude.{◌==◌, ◌&&◌, if◌then◌else◌, is_some}
use Rattle.std.proofs.lemmas.Bool.{eq-eqb, eqb-true}
use Rattle.relay_model.specs.declared.act.Act.{Act}
use Rattle.relay_model.specs.declared.act.Act.TheVariants as acts
use Rattle.relay_model.specs.Objects.{is_at, is_same, is_kind, is_surface_kind, is_field_kind, is_surface, owner, remains, object, alive, peer_of}
use Rattle.relay_model.specs.Focus.{focus, last_focus, peer_at, focused_peer, entered, entered_since}
use Rattle.relay_model.specs.Hold.{holder, kept}
use Rattle.relay_model.specs.Activation.{serving}
use Rattle.relay_model.proofs.ActsOrIdle.{IsHistory}
use Rattle.relay_model.proofs.ObjectLaws.{object_step, kind_alive, kind_within}
use Rattle.relay_model.proofs.FocusLaws.{focus_left, focus_step, focus_alive, focus_within, unfocused_entered}
use Rattle.relay_model.proofs.HoldLaws.{word_refocused, word_unfocused, holder_entered, holder_within, holder_refocused, kept_unfocused, kept_on, kept_out}
use Rattle.relay_model.proofs.ActivationLaws.{serving_step, serving_alive}
use Rattle.relay_model.proofs.PendingLaws.{pending_out, pending_refocused}
use Rattle.kbd_grab.specs.Keyboard as keyboard
use Rattle.relay_core.specs.KeyCalls.{key_calls}
use Rattle.relay_objects.specs.Objects.{find, owner_in, not_label, refocused}
use Rattle.relay_core.specs.Machine.{State, counted, released, refocused_to, unfocused}
use Rattle.relay_core.specs.Stands.{Stands}
use Rattle.relay_core.proofs.ActsLeaveScreen.{IsCalm, keys_same, focus_calm, unfocus_calm, drop_calm}
use Rattle.relay_core.proofs.HistoryEntries.{AllMove, eqb_sym}
use Rattle.relay_core.proofs.KeptFields.{IsSilent, field_left, field_refocused}
use Rattle.relay_core.proofs.EntriesMove.{Touches, stays, drops, touch_none, touch_refocused, entries_touched}
use Rattle.relay_core.proofs.LookUpsFind.{finds_owner}
use Rattle.relay_core.proofs.HoldEndsKeep.{released_acts, released_objects, released_holder, released_screen, released_keys, served_released}
use Rattle.relay_core.proofs.SteadyActs.{unfocus_silent, drop_silent, notice_ended}
use Rattle.relay_core.proofs.SteadyActsStand.{one_more}

-- the focus moves

pub focus_focused : (log : List Act) (t : ℕ) → is_surface log t ≡ true → focus (acts.Focus t ∷ log) ≡ Some t
focus_focused log t e =
    let there : is_some (object (acts.Focus t ∷ log) t) ≡ true =
    ap is_some (object_step (acts.Focus t) log t (kind_within is_surface_kind log t e))
    ∙ kind_alive is_surface_kind log t e in
    rw there refl

pub focus_peer : (log : List Act) (t : ℕ) → is_surface log t ≡ true → focused_peer (acts.Focus t ∷ log) ≡ peer_of log t
focus_peer log t e =
    ap (peer_at (acts.Focus t ∷ log)) (focus_focused log t e) ∙
    ap owner (object_step (acts.Focus t) log t (kind_within is_surface_kind log t e))

refocused_moves : (log : List Act) (t : ℕ) → IsHistory log → is_surface log t ≡ true →
    AllMove (acts.Focus t) log (refocused (peer_of log t)) (λ _. true)
refocused_moves log t i e =
    λ x l. stays (refocused (peer_of log t)) (acts.Focus t) log x (object_step (acts.Focus t) log x l)
    (touch_refocused (peer_of log t) (acts.Focus t) log x refl
    (λ p o. field_refocused (acts.Focus t) log x (is_at (peer_of log t) p)
    (ap (λ v. is_kind is_field_kind v && is_same (owner v) (focused_peer (acts.Focus t ∷ log)))
    (object_step (acts.Focus t) log x l ∙ o) ∙
    ap (λ q. is_at q p) (focus_peer log t e))
    (word_refocused t log x) (holder_refocused t log i) refl (pending_refocused t log x l)))

pub stands_focus : (s : State) (log : List Act) (t : ℕ) → IsHistory log → is_surface log t ≡ true → Stands s log →
    Stands (refocused_to (Some t) (released (counted s))) (acts.Focus t ∷ log)
stands_focus s log t i e h = record {
  acts_now = released_acts (counted s) ∙ one_more s (acts.Focus t) log h;
  objects_now =
      ap (λ os. map (refocused (owner_in (find os t))) os) (released_objects (counted s)) ∙
      ap (λ o. map (refocused o) s.objects) (finds_owner s log t h)
      ∙ ap (map (refocused (peer_of log t))) h.objects_now ∙
      sym (entries_touched (acts.Focus t) log (refocused (peer_of log t)) (refocused_moves log t i e) refl);
  focus_now = sym (focus_focused log t e);
  holder_now = released_holder (counted s) ∙ sym (holder_refocused t log i);
  served_now = served_released (counted s) (acts.Focus t) log h.served_now h.holder_now
      (serving_step (acts.Focus t) log refl ∙ left log t (serving log) refl)
      (notice_ended (acts.Focus t) log refl refl refl (holder_refocused t log i)) (λ m rest. refl);
  screen_now = released_screen (counted s) ∙ h.screen_now;
  keys_now = subst (λ k. keyboard.StandsFor (key_calls (acts.Focus t ∷ log)) k) (sym (released_keys (counted s)))
      (keys_same (acts.Focus t) log s.keys (focus_calm t) refl (λ x o. refl) h.keys_now);
}
  where
    left : (log : List Act) (t : ℕ) (o : Option ℕ) → serving log ≡ o → focus_left (acts.Focus t) log o ≡ o
    left log t None e = refl
    left log t (Some m) e = let there : is_some (object log m) ≡ true = serving_alive log m e in rw there refl

-- an act after which no surface has the focus: what it does to the fields that it leaves
pub touch_unfocused : (act : Act) (log : List Act) (x : ℕ) → IsSilent act → IsCalm act → focus (act ∷ log) ≡ None →
    holder (act ∷ log) ≡ None →
    Touches (refocused None) act log x
touch_unfocused act log x k c f h =
    touch_refocused None act log x (c.areas log x)
    (λ p o. field_refocused act log x false (unfocused_entered (act ∷ log) x f) (word_unfocused (act ∷ log) x f) h
    (k.counts log x)
    (pending_out (act ∷ log) x (unfocused_entered (act ∷ log) x f)))

unfocused_moves : (log : List Act) → AllMove acts.Unfocus log (refocused None) (λ _. true)
unfocused_moves log =
    λ x l. stays (refocused None) acts.Unfocus log x (object_step acts.Unfocus log x l)
    (touch_unfocused acts.Unfocus log x unfocus_silent unfocus_calm refl (kept_unfocused acts.Unfocus log refl))

pub stands_unfocus : (s : State) (log : List Act) → IsHistory log → Stands s log →
    Stands (unfocused (counted s)) (acts.Unfocus ∷ log)
stands_unfocus s log i h = record {
  acts_now = released_acts (counted s) ∙ one_more s acts.Unfocus log h;
  objects_now = ap (map (refocused None)) (released_objects (counted s) ∙ h.objects_now) ∙
      sym (entries_touched acts.Unfocus log (refocused None) (unfocused_moves log) refl);
  focus_now = refl;
  holder_now = released_holder (counted s) ∙ sym (kept_unfocused acts.Unfocus log refl);
  served_now = served_released (counted s) acts.Unfocus log h.served_now h.holder_now
      (serving_step acts.Unfocus log refl ∙ left log (serving log) refl)
      (notice_ended acts.Unfocus log refl refl refl (kept_unfocused acts.Unfocus log refl)) (λ m rest. refl);
  screen_now = released_screen (counted s) ∙ h.screen_now;
  keys_now = subst (λ k. keyboard.StandsFor (key_calls (acts.Unfocus ∷ log)) k) (sym (released_keys (counted s)))
      (keys_same acts.Unfocus log s.keys unfocus_calm refl (λ x o. refl) h.keys_now);
}
  where
    left : (log : List Act) (o : Option ℕ) → serving log ≡ o → focus_left acts.Unfocus log o ≡ o
    left log None e = refl
    left log (Some m) e = let there : is_some (object log m) ≡ true = serving_alive log m e in rw there refl

-- objects go

-- An act that may take objects, and moves the focus only by taking its surface.
pub record IsTaking (act : Act) : Type 0 where
  pub last : (log : List Act) → last_focus (act ∷ log) ≡ last_focus log
  pub since : (log : List Act) (f : ℕ) → entered_since (act ∷ log) f ≡ entered_since log f
  pub holds : (log : List Act) → holder (act ∷ log) ≡ kept act log (holder log)

-- the act takes what is there under this label
abbrev pub Takes : Act → List Act → ℕ → Type 0
Takes act log x = remains act x (object log x) ≡ None

-- and leaves what is there under this one
abbrev pub Leaves : Act → List Act → ℕ → Type 0
Leaves act log x = remains act x (object log x) ≡ object log x

left_some : (act : Act) (log : List Act) (x : ℕ) → alive log x ≡ true → Leaves act log x →
    focus_left act log (Some x) ≡ Some x
left_some act log x e k = rw (k, e) refl

left_none : (act : Act) (log : List Act) (x : ℕ) → Takes act log x → focus_left act log (Some x) ≡ None
left_none act log x k = rw k refl

focus_stays_by : (act : Act) (log : List Act) (o : Option ℕ) → focus log ≡ o →
    ((x : ℕ) → focus log ≡ Some x → Leaves act log x) → focus_left act log o ≡ o
focus_stays_by act log None e k = refl
focus_stays_by act log (Some x) e k = left_some act log x (focus_alive log x e) (k x e)

-- the focus stays with a surface that the act leaves
pub focus_stays : (act : Act) (log : List Act) → IsHistory log → IsTaking act →
    ((x : ℕ) → focus log ≡ Some x → Leaves act log x) → focus (act ∷ log) ≡ focus log
focus_stays act log i k e = focus_step act log i (k.last log) ∙ focus_stays_by act log (focus log) refl e

pub focus_taken : (act : Act) (log : List Act) (x : ℕ) → IsHistory log → IsTaking act → focus log ≡ Some x →
    Takes act log x → focus (act ∷ log) ≡ None
focus_taken act log x i k e t = focus_step act log i (k.last log) ∙ ap (focus_left act log) e ∙ left_none act log x t

peer_stays_by : (act : Act) (log : List Act) (o : Option ℕ) → focus log ≡ o →
    ((x : ℕ) → focus log ≡ Some x → Leaves act log x) → peer_at (act ∷ log) o ≡ peer_at log o
peer_stays_by act log None e k = refl
peer_stays_by act log (Some x) e k = ap owner (object_step act log x (focus_within log x e) ∙ k x e)

peer_stays : (act : Act) (log : List Act) → IsHistory log → IsTaking act →
    ((x : ℕ) → focus log ≡ Some x → Leaves act log x) → focused_peer (act ∷ log) ≡ focused_peer log
peer_stays act log i k e =
    ap (peer_at (act ∷ log)) (focus_stays act log i k e) ∙ peer_stays_by act log (focus log) refl e

-- a field that the act leaves is entered as before, where the focus stays
pub entered_stays : (act : Act) (log : List Act) (f : ℕ) → IsHistory log → IsTaking act →
    ((x : ℕ) → focus log ≡ Some x → Leaves act log x) →
    f ≤ length log → Leaves act log f → entered (act ∷ log) f ≡ entered log f
entered_stays act log f i k e l v =
    let a : object (act ∷ log) f ≡ object log f = object_step act log f l ∙ v in
    let b : focused_peer (act ∷ log) ≡ focused_peer log = peer_stays act log i k e in
    ap (λ o. is_kind is_field_kind o && is_same (owner o) (focused_peer (act ∷ log))) a ∙
    ap (λ p. is_kind is_field_kind (object log f) && is_same (owner (object log f)) p) b

holder_stays_by : (act : Act) (log : List Act) (o : Option ℕ) → IsHistory log → IsTaking act → holder log ≡ o →
    ((x : ℕ) → focus log ≡ Some x → Leaves act log x) → ((x : ℕ) → holder log ≡ Some x → Leaves act log x) →
    kept act log o ≡ o
holder_stays_by act log None i k e f g = refl
holder_stays_by act log (Some h) i k e f g =
    kept_on act log h (entered_stays act log h i k f (holder_within log h i e) (g h e) ∙ holder_entered log h i e)
    (k.since log h)

-- the holder stays where the act leaves it and the focus
pub holder_stays : (act : Act) (log : List Act) → IsHistory log → IsTaking act →
    ((x : ℕ) → focus log ≡ Some x → Leaves act log x) →
    ((x : ℕ) → holder log ≡ Some x → Leaves act log x) → holder (act ∷ log) ≡ holder log
holder_stays act log i k f g = k.holds log ∙ holder_stays_by act log (holder log) i k refl f g

taken_out : (act : Act) (log : List Act) (h : ℕ) → h ≤ length log → Takes act log h → entered (act ∷ log) h ≡ false
taken_out act log h l t =
    let a : object (act ∷ log) h ≡ None = object_step act log h l ∙ t in
    rw a refl

pub holder_taken : (act : Act) (log : List Act) (h : ℕ) → IsHistory log → IsTaking act → holder log ≡ Some h →
    Takes act log h → holder (act ∷ log) ≡ None
holder_taken act log h i k e t =
    k.holds log ∙ ap (kept act log) e ∙ kept_out act log h (taken_out act log h (holder_within log h i e) t)

serving_stays_by : (act : Act) (log : List Act) (o : Option ℕ) → serving log ≡ o →
    ((x : ℕ) → serving log ≡ Some x → Leaves act log x) → focus_left act log o ≡ o
serving_stays_by act log None e k = refl
serving_stays_by act log (Some m) e k = left_some act log m (serving_alive log m e) (k m e)

pub serving_stays : (act : Act) (log : List Act) → serving (act ∷ log) ≡ focus_left act log (serving log) →
    ((x : ℕ) → serving log ≡ Some x → Leaves act log x) →
    serving (act ∷ log) ≡ serving log
serving_stays act log e k = e ∙ serving_stays_by act log (serving log) refl k

pub serving_taken : (act : Act) (log : List Act) (m : ℕ) → serving (act ∷ log) ≡ focus_left act log (serving log) →
    serving log ≡ Some m → Takes act log m → serving (act ∷ log) ≡ None
serving_taken act log m e d t = e ∙ ap (focus_left act log) d ∙ left_none act log m t

-- a drop

drop_taking : (x : ℕ) → IsTaking (acts.Drop x)
drop_taking x = record { last = λ log. refl; since = λ log f. refl; holds = λ log. refl }

drop_takes : (log : List Act) (x : ℕ) → Takes (acts.Drop x) log x
drop_takes log x = rw (eq-eqb x x refl) refl

drop_leaves : (log : List Act) (x y : ℕ) → (x == y) ≡ false → Leaves (acts.Drop x) log y
drop_leaves log x y e = rw e refl

-- an option that isn't x names what the drop of x leaves
other_left : (log : List Act) (x : ℕ) (o : Option ℕ) → is_at o x ≡ false → (y : ℕ) → o ≡ Some y →
    Leaves (acts.Drop x) log y
other_left log x o e y d = drop_leaves log x y (eqb_sym x y ∙ ap (λ v. is_at v x) (sym d) ∙ e)

same_at : (o : Option ℕ) (x : ℕ) → is_at o x ≡ true → o ≡ Some x
same_at None x e = cc
same_at (Some y) x e = ap (λ v. Some v) (eqb-true y x e)

-- whether the focus, the holder and the serving method go
pub drop_focus : (log : List Act) (x : ℕ) (b : Bool) → IsHistory log → is_at (focus log) x ≡ b →
    focus (acts.Drop x ∷ log) ≡ (if b then None else focus log)
drop_focus log x true i e =
    focus_taken (acts.Drop x) log x i (drop_taking x) (same_at (focus log) x e) (drop_takes log x)
drop_focus log x false i e = focus_stays (acts.Drop x) log i (drop_taking x) (other_left log x (focus log) e)

pub drop_holder : (log : List Act) (x : ℕ) (b c : Bool) → IsHistory log → is_at (focus log) x ≡ b →
    is_at (holder log) x ≡ c →
    holder (acts.Drop x ∷ log) ≡ (if b then None else (if c then None else holder log))
drop_holder log x true c i e k = kept_unfocused (acts.Drop x) log (drop_focus log x true i e)
drop_holder log x false true i e k =
    holder_taken (acts.Drop x) log x i (drop_taking x) (same_at (holder log) x k) (drop_takes log x)
drop_holder log x false false i e k =
    holder_stays (acts.Drop x) log i (drop_taking x) (other_left log x (focus log) e) (other_left log x (holder log) k)

pub drop_serving : (log : List Act) (x : ℕ) (b : Bool) → is_at (serving log) x ≡ b →
    serving (acts.Drop x ∷ log) ≡ (if b then None else serving log)
drop_serving log x true e =
    serving_taken (acts.Drop x) log x (serving_step (acts.Drop x) log refl) (same_at (serving log) x e)
    (drop_takes log x)
drop_serving log x false e =
    serving_stays (acts.Drop x) log (serving_step (acts.Drop x) log refl) (other_left log x (serving log) e)

-- whether x holds stays where the act leaves the holder, or x is another
holds_stays : (act : Act) (log : List Act) (x : ℕ) (o : Option ℕ) → IsHistory log → IsTaking act →
    ((y : ℕ) → focus log ≡ Some y → Leaves act log y) →
    ((y : ℕ) → holder log ≡ Some y → (y == x) ≡ false ⊎ Leaves act log y) → holder log ≡ o →
    is_at (holder (act ∷ log)) x ≡ is_at (holder log) x
holds_stays act log x None i k f g e =
    let none : holder (act ∷ log) ≡ None = k.holds log ∙ ap (kept act log) e in
    ap (λ v. is_at v x) (none ∙ sym e)
holds_stays act log x (Some h) i k f g e =
    elim (g h e) [
      | inl d ↦
          ap (λ v. is_at v x) (k.holds log ∙ ap (kept act log) e) ∙ other_at act log h x d
          ∙ sym (ap (λ v. is_at v x) e ∙ d)
      | inr v ↦ ap (λ o. is_at o x)
          (holder_stays act log i k f (λ y d. subst (Leaves act log) (some_same h y (sym e ∙ d)) v))
    ]
  where
    other_at : (act : Act) (log : List Act) (h x : ℕ) → (h == x) ≡ false → is_at (kept act log (Some h)) x ≡ false
    other_at act log h x d =
        other_if (entered (act ∷ log) h && (entered_since (act ∷ log) h == entered_since log h)) h x d
      where
        other_if : (b : Bool) (h x : ℕ) → (h == x) ≡ false → is_at (if b then Some h else None) x ≡ false
        other_if true h x d = d
        other_if false h x d = refl

    some_same : (h y : ℕ) → Some h ≡ Some y → h ≡ y
    some_same h y e = cc

-- a field that the act leaves, where the focus stays
pub touch_taking : (act : Act) (log : List Act) (x : ℕ) → IsHistory log → IsTaking act → IsSilent act → IsCalm act →
    ((y : ℕ) → focus log ≡ Some y → Leaves act log y) →
    ((y : ℕ) → holder log ≡ Some y → (y == x) ≡ false ⊎ Leaves act log y) → x ≤ length log → Leaves act log x →
    Touches (λ e. e) act log x
touch_taking act log x i k q c f g l v =
    touch_none act log x (c.areas log x)
    (field_left act log x q l (entered_stays act log x i k f l v) (k.since log x)
    (holds_stays act log x (holder log) i k f g refl))

-- what the act takes goes from the entries, and where the focus goes, all words

pub drop_moves : (log : List Act) (x : ℕ) → IsHistory log → is_at (focus log) x ≡ false →
    AllMove (acts.Drop x) log (λ e. e) (not_label x)
drop_moves log x i e =
    λ y l. drops (λ e. e) log y x l
    (λ d. touch_taking (acts.Drop x) log y i (drop_taking x) (drop_silent x) (drop_calm x)
    (other_left log x (focus log) e)
    (λ h k. drop_either log x y h (h == x) refl d) l (drop_leaves log x y d))
  where
    drop_either : (log : List Act) (x y h : ℕ) (b : Bool) → (h == x) ≡ b → (x == y) ≡ false →
        (h == y) ≡ false ⊎ Leaves (acts.Drop x) log h
    drop_either log x y h true e d = inl (ap (λ v. v == y) (eqb-true h x e) ∙ d)
    drop_either log x y h false e d = inr (drop_leaves log x h (eqb_sym x h ∙ e))

pub drop_moves_words : (log : List Act) (x : ℕ) → focus (acts.Drop x ∷ log) ≡ None →
    AllMove (acts.Drop x) log (refocused None) (not_label x)
drop_moves_words log x e =
    λ y l. drops (refocused None) log y x l
    (λ d. touch_unfocused (acts.Drop x) log y (drop_silent x) (drop_calm x) e (kept_unfocused (acts.Drop x) log e))
