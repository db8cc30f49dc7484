-- A drop and the end of a peer keep that the relay stands for the history.
use Rattle.std.proofs.Common.{◌≡◌, ℕ, List, ◌∷◌, map, Bool, true, false, Option, Some, None, ap, refl, sym, subst, ◌∙◌, inr}
use Rattle.std.specs.Prelude.{◌&&◌, ◌||◌, if◌then◌else◌, filter}
use Rattle.std.proofs.lemmas.Bool.{eqb-true}
use Rattle.relay_model.specs.declared.act.Act.{Act}
use Rattle.relay_model.specs.declared.act.Act.TheVariants as acts
use Rattle.relay_model.specs.declared.act.EndCause.{EndCause}
use Rattle.relay_model.specs.Objects.{is_at, is_same, peer_of}
use Rattle.relay_model.specs.Focus.{focus, peer_at, focused_peer}
use Rattle.relay_model.specs.Hold.{holder}
use Rattle.relay_model.specs.Activation.{serving, notice}
use Rattle.relay_model.specs.Popups.{screen}
use Rattle.relay_model.proofs.ActsOrIdle.{IsHistory}
use Rattle.relay_model.proofs.HoldLaws.{holder_entered, kept_unfocused}
use Rattle.relay_model.proofs.ActivationLaws.{serving_step}
use Rattle.kbd_grab.specs.Keyboard.{Keyboard, StandsFor}
use Rattle.relay_core.specs.KeyCalls.{key_calls}
use Rattle.relay_objects.specs.declared.object.Object.{Object as Kept}
use Rattle.relay_objects.specs.Objects.{not_label, not_peer, refocused}
use Rattle.relay_core.specs.Machine.{State, counted, fallen_keys, parted, served_unless, unserved, dropped, gone, owner_at, focused_in}
use Rattle.relay_core.specs.Stands.{Stands, entries}
use Rattle.relay_core.proofs.KeyboardAfterActs.{keys_dropped, keys_gone}
use Rattle.relay_core.proofs.ActsLeaveScreen.{gone_calm}
use Rattle.relay_core.proofs.HistoryEntries.{AllMove}
use Rattle.relay_core.proofs.EntriesMove.{goes, entries_left, entries_left_touched}
use Rattle.relay_core.proofs.LookUpsFind.{owner_at_is, focused_is}
use Rattle.relay_core.proofs.ServiceIsKept.{LeavesEdits, served_notified}
use Rattle.relay_core.proofs.HoldEndsKeep.{released_acts, released_objects, released_focus, released_holder, released_screen, released_keys, served_released, parted_unserved}
use Rattle.relay_core.proofs.SteadyActs.{gone_silent, notice_quiet, notice_ended, ended}
use Rattle.relay_core.proofs.SteadyActsStand.{one_more}
use Rattle.relay_core.proofs.FocusActsStand.{IsTaking, Takes, Leaves, focus_stays, focus_taken, holder_stays, serving_stays, serving_taken, drop_focus, drop_holder, drop_serving, drop_moves, drop_moves_words, touch_taking, touch_unfocused}

-- what an act that takes objects does, by whether the focus, the holder and the serving method go
pub record TakesApart (act : Act) (log : List Act) (rest : List Kept)
    (focus_gone holder_gone method_gone : Bool) : Type 0 where
  pub objects_left : entries (act ∷ log) ≡ (if focus_gone then map (refocused None) rest else rest)
  pub focus_left : focus (act ∷ log) ≡ (if focus_gone then None else focus log)
  pub holder_left : holder (act ∷ log) ≡ (if focus_gone then None else (if holder_gone then None else holder log))
  pub serving_left : serving (act ∷ log) ≡ (if method_gone then None else serving log)
  pub said : notice act log
      ≡ (if focus_gone then ended (holder log) else (if holder_gone then ended (holder log) else None))
  pub edits : LeavesEdits act

parted_stands : (s : State) (act : Act) (log : List Act) (rest : List Kept) (keys : Keyboard) (b c d : Bool) →
    Stands s log → TakesApart act log rest b c d →
    StandsFor (key_calls (act ∷ log)) keys → screen (act ∷ log) ≡ screen log →
    Stands (parted b c (served_unless d (record (counted s) { objects = rest; keys = keys }))) (act ∷ log)
parted_stands s act log rest keys true c true h t k z =
    let r : State = unserved (record (counted s) { objects = rest; keys = keys }) in
    record {
      acts_now = released_acts r ∙ one_more s act log h;
      objects_now = ap (map (refocused None)) (released_objects r) ∙ sym t.objects_left;
      focus_now = sym t.focus_left;
      holder_now = released_holder r ∙ sym t.holder_left;
      served_now = parted_unserved true c r act log (refl, refl, refl, refl, refl) t.serving_left;
      screen_now = released_screen r ∙ h.screen_now ∙ sym z;
      keys_now = subst (λ q. StandsFor (key_calls (act ∷ log)) q) (sym (released_keys r)) k;
    }
parted_stands s act log rest keys true c false h t k z =
    let r : State = record (counted s) { objects = rest; keys = keys } in
    record {
      acts_now = released_acts r ∙ one_more s act log h;
      objects_now = ap (map (refocused None)) (released_objects r) ∙ sym t.objects_left;
      focus_now = sym t.focus_left;
      holder_now = released_holder r ∙ sym t.holder_left;
      served_now = served_released r act log h.served_now h.holder_now t.serving_left t.said t.edits;
      screen_now = released_screen r ∙ h.screen_now ∙ sym z;
      keys_now = subst (λ q. StandsFor (key_calls (act ∷ log)) q) (sym (released_keys r)) k;
    }
parted_stands s act log rest keys false true true h t k z =
    let r : State = unserved (record (counted s) { objects = rest; keys = keys }) in
    record {
      acts_now = released_acts r ∙ one_more s act log h;
      objects_now = released_objects r ∙ sym t.objects_left;
      focus_now = released_focus r ∙ h.focus_now ∙ sym t.focus_left;
      holder_now = released_holder r ∙ sym t.holder_left;
      served_now = parted_unserved false true r act log (refl, refl, refl, refl, refl) t.serving_left;
      screen_now = released_screen r ∙ h.screen_now ∙ sym z;
      keys_now = subst (λ q. StandsFor (key_calls (act ∷ log)) q) (sym (released_keys r)) k;
    }
parted_stands s act log rest keys false true false h t k z =
    let r : State = record (counted s) { objects = rest; keys = keys } in
    record {
      acts_now = released_acts r ∙ one_more s act log h;
      objects_now = released_objects r ∙ sym t.objects_left;
      focus_now = released_focus r ∙ h.focus_now ∙ sym t.focus_left;
      holder_now = released_holder r ∙ sym t.holder_left;
      served_now = served_released r act log h.served_now h.holder_now t.serving_left t.said t.edits;
      screen_now = released_screen r ∙ h.screen_now ∙ sym z;
      keys_now = subst (λ q. StandsFor (key_calls (act ∷ log)) q) (sym (released_keys r)) k;
    }
parted_stands s act log rest keys false false true h t k z =
    let r : State = unserved (record (counted s) { objects = rest; keys = keys }) in
    record {
      acts_now = one_more s act log h;
      objects_now = sym t.objects_left;
      focus_now = h.focus_now ∙ sym t.focus_left;
      holder_now = h.holder_now ∙ sym t.holder_left;
      served_now = parted_unserved false false r act log (refl, refl, refl, refl, refl) t.serving_left;
      screen_now = h.screen_now ∙ sym z;
      keys_now = k;
    }
parted_stands s act log rest keys false false false h t k z =
    let r : State = record (counted s) { objects = rest; keys = keys } in
    record {
      acts_now = one_more s act log h;
      objects_now = sym t.objects_left;
      focus_now = h.focus_now ∙ sym t.focus_left;
      holder_now = h.holder_now ∙ sym t.holder_left;
      served_now = served_notified r act log None h.served_now t.serving_left t.said t.edits;
      screen_now = h.screen_now ∙ sym z;
      keys_now = k;
    }

-- a drop

drop_entries : (log : List Act) (x : ℕ) (b : Bool) → IsHistory log → is_at (focus log) x ≡ b →
    entries (acts.Drop x ∷ log)
    ≡ (if b then map (refocused None) (filter (not_label x) (entries log)) else filter (not_label x) (entries log))
drop_entries log x true i e =
    entries_left_touched (acts.Drop x) log (refocused None) (not_label x)
    (drop_moves_words log x (drop_focus log x true i e)) refl
drop_entries log x false i e = entries_left (acts.Drop x) log (not_label x) (drop_moves log x i e) refl

pub drop_said : (log : List Act) (x : ℕ) (b c : Bool) → IsHistory log → is_at (focus log) x ≡ b →
    is_at (holder log) x ≡ c →
    notice (acts.Drop x) log ≡ (if b then ended (holder log) else (if c then ended (holder log) else None))
drop_said log x true c i e k = notice_ended (acts.Drop x) log refl refl refl (drop_holder log x true c i e k)
drop_said log x false true i e k = notice_ended (acts.Drop x) log refl refl refl (drop_holder log x false true i e k)
drop_said log x false false i e k = notice_quiet (acts.Drop x) log refl refl refl (drop_holder log x false false i e k)

drop_apart : (log : List Act) (x : ℕ) (b c d : Bool) → IsHistory log → is_at (focus log) x ≡ b →
    is_at (holder log) x ≡ c → is_at (serving log) x ≡ d →
    TakesApart (acts.Drop x) log (filter (not_label x) (entries log)) b c d
drop_apart log x b c d i e k l = record {
  objects_left = drop_entries log x b i e;
  focus_left = drop_focus log x b i e;
  holder_left = drop_holder log x b c i e k;
  serving_left = drop_serving log x d l;
  said = drop_said log x b c i e k;
  edits = λ m rest. refl;
}

-- the machine's own tests are those of the definitions
abbrev Parted : State → Act → List Act → List Kept → Keyboard → Bool → Bool → Bool → Type 0
Parted s act log rest keys b c d =
    Stands (parted b c (served_unless d (record (counted s) { objects = rest; keys = keys }))) (act ∷ log)

pub stands_drop : (s : State) (log : List Act) (x : ℕ) → IsHistory log → Stands s log →
    Stands (dropped x (counted s)) (acts.Drop x ∷ log)
stands_drop s log x i h =
    let a : is_at s.focus x ≡ is_at (focus log) x = ap (λ o. is_at o x) h.focus_now in
    let b : is_at s.holder x ≡ is_at (holder log) x = ap (λ o. is_at o x) h.holder_now in
    let c : is_at s.serving x ≡ is_at (serving log) x = ap (λ o. is_at o x) h.served_now.serving_now in
    let K : Keyboard = fallen_keys (is_at s.keys.standing x || is_at s.serving x) s.keys in
    let here : Parted s (acts.Drop x) log (filter (not_label x) (entries log)) K (is_at (focus log) x)
    (is_at (holder log) x) (is_at (serving log) x) =
    parted_stands s (acts.Drop x) log (filter (not_label x) (entries log)) K _ _ _ h
    (drop_apart log x _ _ _ i refl refl refl) (keys_dropped s log x h) refl in
    subst (λ u. Parted s (acts.Drop x) log (filter (not_label x) s.objects) K u (is_at s.holder x) (is_at s.serving x))
    (sym a)
    (subst (λ v. Parted s (acts.Drop x) log (filter (not_label x) s.objects) K (is_at (focus log) x) v
    (is_at s.serving x)) (sym b)
    (subst (λ w. Parted s (acts.Drop x) log (filter (not_label x) s.objects) K (is_at (focus log) x)
    (is_at (holder log) x) w) (sym c)
    (subst (λ os. Parted s (acts.Drop x) log (filter (not_label x) os) K (is_at (focus log) x) (is_at (holder log) x)
    (is_at (serving log) x)) (sym h.objects_now) here)))

-- the end of a peer

gone_taking : (p : ℕ) (cause : EndCause) → IsTaking (acts.Gone p cause)
gone_taking p cause = record { last = λ log. refl; since = λ log f. refl; holds = λ log. refl }

gone_takes : (log : List Act) (p x : ℕ) (cause : EndCause) → is_at (peer_of log x) p ≡ true →
    Takes (acts.Gone p cause) log x
gone_takes log p x cause e = rw e refl

gone_leaves : (log : List Act) (p x : ℕ) (cause : EndCause) → is_at (peer_of log x) p ≡ false →
    Leaves (acts.Gone p cause) log x
gone_leaves log p x cause e = rw e refl

others_left : (log : List Act) (p : ℕ) (cause : EndCause) (o : Option ℕ) → is_at (peer_at log o) p ≡ false → (x : ℕ) →
    o ≡ Some x → Leaves (acts.Gone p cause) log x
others_left log p cause o e x d = gone_leaves log p x cause (ap (λ v. is_at (peer_at log v) p) (sym d) ∙ e)

gone_focus_by : (log : List Act) (p : ℕ) (cause : EndCause) (o : Option ℕ) → IsHistory log → focus log ≡ o →
    is_at (peer_at log o) p ≡ true → focus (acts.Gone p cause ∷ log) ≡ None
gone_focus_by log p cause None i d e = cc
gone_focus_by log p cause (Some x) i d e =
    focus_taken (acts.Gone p cause) log x i (gone_taking p cause) d (gone_takes log p x cause e)

gone_focus : (log : List Act) (p : ℕ) (cause : EndCause) (b : Bool) → IsHistory log → is_at (focused_peer log) p ≡ b →
    focus (acts.Gone p cause ∷ log) ≡ (if b then None else focus log)
gone_focus log p cause true i e = gone_focus_by log p cause (focus log) i refl e
gone_focus log p cause false i e =
    focus_stays (acts.Gone p cause) log i (gone_taking p cause) (others_left log p cause (focus log) e)

same_is : (a b : Option ℕ) → is_same a b ≡ true → a ≡ b
same_is None b e = cc
same_is (Some x) None e = cc
same_is (Some x) (Some y) e = ap (λ v. Some v) (sym (eqb-true y x e))

pub and_right : (a b : Bool) → (a && b) ≡ true → b ≡ true
and_right true b h = h
and_right false b h = cc

-- the holder's peer has the focus
pub holder_focused : (log : List Act) (f : ℕ) → IsHistory log → holder log ≡ Some f → peer_of log f ≡ focused_peer log
holder_focused log f i e = same_is (peer_of log f) (focused_peer log) (and_right _ _ (holder_entered log f i e))

gone_holder : (log : List Act) (p : ℕ) (cause : EndCause) (b : Bool) → IsHistory log → is_at (focused_peer log) p ≡ b →
    holder (acts.Gone p cause ∷ log) ≡ (if b then None else holder log)
gone_holder log p cause true i e = kept_unfocused (acts.Gone p cause) log (gone_focus log p cause true i e)
gone_holder log p cause false i e =
    holder_stays (acts.Gone p cause) log i (gone_taking p cause) (others_left log p cause (focus log) e)
    (λ f d. gone_leaves log p f cause (ap (λ o. is_at o p) (holder_focused log f i d) ∙ e))

gone_serving_by : (log : List Act) (p : ℕ) (cause : EndCause) (o : Option ℕ) → serving log ≡ o →
    is_at (peer_at log o) p ≡ true → serving (acts.Gone p cause ∷ log) ≡ None
gone_serving_by log p cause None d e = cc
gone_serving_by log p cause (Some m) d e =
    serving_taken (acts.Gone p cause) log m (serving_step (acts.Gone p cause) log refl) d (gone_takes log p m cause e)

pub gone_serving : (log : List Act) (p : ℕ) (cause : EndCause) (b : Bool) → is_at (peer_at log (serving log)) p ≡ b →
    serving (acts.Gone p cause ∷ log) ≡ (if b then None else serving log)
gone_serving log p cause true e = gone_serving_by log p cause (serving log) refl e
gone_serving log p cause false e =
    serving_stays (acts.Gone p cause) log (serving_step (acts.Gone p cause) log refl)
    (others_left log p cause (serving log) e)

gone_moves : (log : List Act) (p : ℕ) (cause : EndCause) → IsHistory log → is_at (focused_peer log) p ≡ false →
    AllMove (acts.Gone p cause) log (λ e. e) (not_peer p)
gone_moves log p cause i e =
    λ x l. goes (λ e. e) log x p cause l
    (λ d. touch_taking (acts.Gone p cause) log x i (gone_taking p cause) (gone_silent p cause) (gone_calm p cause)
    (others_left log p cause (focus log) e)
    (λ h k. inr (gone_leaves log p h cause (ap (λ o. is_at o p) (holder_focused log h i k) ∙ e))) l
    (gone_leaves log p x cause d))

gone_moves_words : (log : List Act) (p : ℕ) (cause : EndCause) → focus (acts.Gone p cause ∷ log) ≡ None →
    AllMove (acts.Gone p cause) log (refocused None) (not_peer p)
gone_moves_words log p cause e =
    λ x l. goes (refocused None) log x p cause l
    (λ d. touch_unfocused (acts.Gone p cause) log x (gone_silent p cause) (gone_calm p cause) e
    (kept_unfocused (acts.Gone p cause) log e))

gone_entries : (log : List Act) (p : ℕ) (cause : EndCause) (b : Bool) → IsHistory log → is_at (focused_peer log) p ≡ b →
    entries (acts.Gone p cause ∷ log)
    ≡ (if b then map (refocused None) (filter (not_peer p) (entries log)) else filter (not_peer p) (entries log))
gone_entries log p cause true i e =
    entries_left_touched (acts.Gone p cause) log (refocused None) (not_peer p)
    (gone_moves_words log p cause (gone_focus log p cause true i e)) refl
gone_entries log p cause false i e = entries_left (acts.Gone p cause) log (not_peer p) (gone_moves log p cause i e) refl

pub gone_said : (log : List Act) (p : ℕ) (cause : EndCause) (b : Bool) → IsHistory log →
    is_at (focused_peer log) p ≡ b →
    notice (acts.Gone p cause) log ≡ (if b then ended (holder log) else None)
gone_said log p cause true i e = notice_ended (acts.Gone p cause) log refl refl refl (gone_holder log p cause true i e)
gone_said log p cause false i e =
    notice_quiet (acts.Gone p cause) log refl refl refl (gone_holder log p cause false i e)

gone_apart : (log : List Act) (p : ℕ) (cause : EndCause) (b d : Bool) → IsHistory log → is_at (focused_peer log) p ≡ b →
    is_at (peer_at log (serving log)) p ≡ d →
    TakesApart (acts.Gone p cause) log (filter (not_peer p) (entries log)) b false d
gone_apart log p cause b d i e l = record {
  objects_left = gone_entries log p cause b i e;
  focus_left = gone_focus log p cause b i e;
  holder_left = gone_holder log p cause b i e;
  serving_left = gone_serving log p cause d l;
  said = gone_said log p cause b i e;
  edits = λ m rest. refl;
}

pub stands_gone : (s : State) (log : List Act) (p : ℕ) (cause : EndCause) → IsHistory log → Stands s log →
    Stands (gone p (counted s)) (acts.Gone p cause ∷ log)
stands_gone s log p cause i h =
    let a : is_at (focused_in s) p ≡ is_at (focused_peer log) p = ap (λ o. is_at o p) (focused_is s log h) in
    let c : is_at (owner_at s.objects s.serving) p ≡ is_at (peer_at log (serving log)) p =
    ap (λ o. is_at o p) (owner_at_is s log s.serving h ∙ ap (peer_at log) h.served_now.serving_now) in
    let K : Keyboard = fallen_keys (is_at (owner_at s.objects s.keys.standing) p) s.keys in
    let here : Parted s (acts.Gone p cause) log (filter (not_peer p) (entries log)) K (is_at (focused_peer log) p) false
    (is_at (peer_at log (serving log)) p) =
    parted_stands s (acts.Gone p cause) log (filter (not_peer p) (entries log)) K _ _ _ h
    (gone_apart log p cause _ _ i refl refl) (keys_gone s log p cause h) refl in
    subst (λ u. Parted s (acts.Gone p cause) log (filter (not_peer p) s.objects) K u false
    (is_at (owner_at s.objects s.serving) p)) (sym a)
    (subst (λ w. Parted s (acts.Gone p cause) log (filter (not_peer p) s.objects) K
    (is_at (focused_peer log) p) false w) (sym c)
    (subst (λ os. Parted s (acts.Gone p cause) log (filter (not_peer p) os) K (is_at (focused_peer log) p) false
    (is_at (peer_at log (serving log)) p)) (sym h.objects_now) here))
