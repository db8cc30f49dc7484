-- Each steady act keeps that the relay stands for the history.
use Rattle.std.proofs.Common.{◌≡◌, ℕ, ◌+◌, List, [], ◌∷◌, ◌++◌, length, map, Bool, true, false, Option, Some, None, ap, refl, sym, subst, ◌∙◌, arith}
use Rattle.std.specs.Prelude.{◌&&◌, if◌then◌else◌, is_some}
use Rattle.std.proofs.lemmas.Bool.{eqb-true}
use Rattle.relay_model.specs.declared.act.Act.{Act}
use Rattle.relay_model.specs.declared.act.Act.TheVariants as acts
use Rattle.relay_model.specs.Objects as model
use Rattle.relay_model.specs.Objects.{PeerKind, SurfaceKind, FieldKind, MethodKind, is_at, is_same, is_kind, is_field_kind, owner, object}
use Rattle.relay_model.specs.Focus.{focused_peer, where_alive, entered, entered_since}
use Rattle.relay_model.specs.Hold.{holder}
use Rattle.relay_model.specs.Activation.{Activates, serving, makes_serving, updates, notice}
use Rattle.relay_model.proofs.ActsOrIdle.{IsHistory}
use Rattle.relay_model.proofs.ObjectLaws.{object_new}
use Rattle.relay_model.proofs.FocusLaws.{object_same, focus_same, focused_peer_same, entered_same, entered_since_same, entered_within}
use Rattle.relay_model.proofs.HoldLaws.{word_new, kept_same, out_holds_not}
use Rattle.relay_model.proofs.ActivationLaws.{serving_same}
use Rattle.relay_model.proofs.BatchLaws.{count_new}
use Rattle.relay_model.proofs.PendingLaws.{out_beyond, pending_new}
use Rattle.field_state.specs.Calls as field
use Rattle.field_state.specs.Changes.{fresh, focused}
use Rattle.relay_objects.specs.declared.object.Kind.TheVariants.{Peer, Surface, Field, Method}
use Rattle.relay_objects.specs.Objects.{no_area, asked, requested}
use Rattle.relay_core.specs.Machine.{State, counted, made, new_field, activated, asking, method_made, serves}
use Rattle.relay_core.specs.Stands.{Stands, word_kept, state_kept, current_where, field_kept, entries, entry_of}
use Rattle.relay_core.proofs.SurfaceAreas.{area_beyond}
use Rattle.relay_core.proofs.ActsLeaveScreen.{IsCalm, keys_stay, keys_same, idle_calm, peer_calm, surface_calm, field_calm, method_calm}
use Rattle.relay_core.proofs.GrabLaws.{standing_method}
use Rattle.relay_core.proofs.HistoryEntries.{AllMove, eqb_sym}
use Rattle.relay_core.proofs.KeptFields.{IsRequest, field_of, same_parts, field_asked, field_passed}
use Rattle.relay_core.proofs.EntriesMove.{stays, touch_only, something_new, entries_stay, entries_touched, entries_same}
use Rattle.relay_core.proofs.LookUpsFind.{focused_is}
use Rattle.relay_core.proofs.ServiceIsKept.{ServedIn, LeavesEdits, served_notified, served_new, served_activated}
use Rattle.relay_core.proofs.SteadyActs.{peer_steady, surface_steady, field_steady, method_steady, idle_steady, peer_silent, surface_silent, field_silent, method_silent, idle_silent, all_stay, notice_quiet}

pub one_more : (s : State) (act : Act) (log : List Act) → Stands s log → s.acts + 1 ≡ length (act ∷ log)
one_more s act log h = rw h.acts_now (omega arith)

-- an act that does nothing
pub stands_idle : (s : State) (log : List Act) → IsHistory log → Stands s log → Stands (counted s) (acts.Idle ∷ log)
stands_idle s log i h = record {
  acts_now = one_more s acts.Idle log h;
  objects_now =
      h.objects_now
      ∙ sym (entries_same acts.Idle log (all_stay acts.Idle log i idle_steady idle_silent (λ x. refl) refl) refl);
  focus_now = h.focus_now ∙ sym (focus_same acts.Idle log i idle_steady);
  holder_now = h.holder_now ∙ sym (kept_same acts.Idle log i idle_steady);
  served_now = served_notified s acts.Idle log None h.served_now (serving_same acts.Idle log refl idle_steady)
      (notice_quiet acts.Idle log refl refl refl (kept_same acts.Idle log i idle_steady)) (λ m rest. refl);
  screen_now = h.screen_now;
  keys_now = keys_same acts.Idle log s.keys idle_calm refl (λ x o. refl) h.keys_now;
}

-- objects are made

pub stands_peer : (s : State) (log : List Act) → IsHistory log → Stands s log →
    Stands (made (s.acts + 1) Peer (counted s)) (acts.Peer ∷ log)
stands_peer s log i h = record {
  acts_now = one_more s acts.Peer log h;
  objects_now = rw (h.objects_now, h.acts_now)
      (sym (entries_stay acts.Peer log (all_stay acts.Peer log i peer_steady peer_silent (λ x. refl) refl) ∙
      ap (λ es. entries log ++ es)
      (something_new acts.Peer log (record { kind = PeerKind; peer = length log + 1 }) refl)));
  focus_now = h.focus_now ∙ sym (focus_same acts.Peer log i peer_steady);
  holder_now = h.holder_now ∙ sym (kept_same acts.Peer log i peer_steady);
  served_now = served_notified s acts.Peer log None h.served_now (serving_same acts.Peer log refl peer_steady)
      (notice_quiet acts.Peer log refl refl refl (kept_same acts.Peer log i peer_steady)) (λ m rest. refl);
  screen_now = h.screen_now;
  keys_now = keys_same acts.Peer log s.keys peer_calm refl (λ x o. refl) h.keys_now;
}

pub stands_surface : (s : State) (log : List Act) (p : ℕ) → IsHistory log → Stands s log →
    Stands (made p (Surface no_area) (counted s)) (acts.Surface p ∷ log)
stands_surface s log p i h = record {
  acts_now = one_more s (acts.Surface p) log h;
  objects_now = rw (h.objects_now, h.acts_now)
      (sym (entries_stay (acts.Surface p) log
      (all_stay (acts.Surface p) log i (surface_steady p) (surface_silent p) (λ x. refl) refl) ∙
      ap (λ es. entries log ++ es) (something_new (acts.Surface p) log (record { kind = SurfaceKind; peer = p }) refl ∙
      ap (λ r. record { label = length log + 1; peer = p; kind = Surface r } ∷ [])
      (area_beyond log (length log + 1) i (omega arith)))));
  focus_now = h.focus_now ∙ sym (focus_same (acts.Surface p) log i (surface_steady p));
  holder_now = h.holder_now ∙ sym (kept_same (acts.Surface p) log i (surface_steady p));
  served_now =
      served_notified s (acts.Surface p) log None h.served_now
      (serving_same (acts.Surface p) log refl (surface_steady p))
      (notice_quiet (acts.Surface p) log refl refl refl (kept_same (acts.Surface p) log i (surface_steady p)))
      (λ m rest. refl);
  screen_now = h.screen_now;
  keys_now = keys_same (acts.Surface p) log s.keys (surface_calm p) refl (λ x o. refl) h.keys_now;
}

-- a new field is entered where its peer has the focus, and did nothing yet

pub field_entered : (log : List Act) (p : ℕ) → IsHistory log →
    entered (acts.Field p ∷ log) (length log + 1) ≡ is_at (focused_peer log) p
field_entered log p i =
    let there : object (acts.Field p ∷ log) (length log + 1) ≡ Some (record { kind = FieldKind; peer = p }) =
    object_new (acts.Field p) log in
    let peer : focused_peer (acts.Field p ∷ log) ≡ focused_peer log =
    focused_peer_same (acts.Field p) log i (field_steady p) in
    ap (λ o. is_kind is_field_kind o && is_same (owner o) (focused_peer (acts.Field p ∷ log))) there ∙
    ap (λ q. is_at q p) peer

new_kept : (log : List Act) (p : ℕ) (b : Bool) → IsHistory log → is_at (focused_peer log) p ≡ b →
    (if b then focused true fresh else fresh) ≡ field_kept (acts.Field p ∷ log) (length log + 1)
new_kept log p b i e =
    let holds : is_at (holder (acts.Field p ∷ log)) (length log + 1) ≡ false =
    ap (λ o. is_at o (length log + 1)) (kept_same (acts.Field p) log i (field_steady p)) ∙
    out_holds_not log (length log + 1) i (out_beyond log (length log + 1) (omega arith)) in
    either b ∙
    sym (same_parts (field_entered log p i ∙ e) (ap word_kept (word_new (acts.Field p) log)) holds
    (count_new log (length log + 1) i (omega arith))
    (ap state_kept (pending_new (acts.Field p) log))
    (ap (λ held. current_where held (acts.Field p ∷ log) (length log + 1)) holds))
  where
    either : (b : Bool) →
        (if b then focused true fresh else fresh) ≡ field_of b None false 0 field.initial field.initial
    either true = refl
    either false = refl

field_entry : (s : State) (log : List Act) (p : ℕ) → IsHistory log → Stands s log →
    record { label = length log + 1; peer = p; kind = Field (new_field p (counted s)) }
    ≡ entry_of (acts.Field p ∷ log) (length log + 1) (Some (record { kind = FieldKind; peer = p }))
field_entry s log p i h =
    ap (λ q. record {
      label = length log + 1;
      peer = p;
      kind = Field (if is_at q p then focused true fresh else fresh);
    }) (focused_is s log h) ∙
    ap (λ k. record { label = length log + 1; peer = p; kind = Field k })
    (new_kept log p (is_at (focused_peer log) p) i refl)

pub stands_field : (s : State) (log : List Act) (p : ℕ) → IsHistory log → Stands s log →
    Stands (made p (Field (new_field p (counted s))) (counted s)) (acts.Field p ∷ log)
stands_field s log p i h = record {
  acts_now = one_more s (acts.Field p) log h;
  objects_now =
      ap (λ n. s.objects ++ record { label = n + 1; peer = p; kind = Field (new_field p (counted s)) } ∷ [])
      h.acts_now ∙
      ap (λ e. s.objects ++ e ∷ []) (field_entry s log p i h) ∙
      ap (λ os. os
      ++ entry_of (acts.Field p ∷ log) (length log + 1) (Some (record { kind = FieldKind; peer = p })) ∷ [])
      h.objects_now ∙
      sym (entries_stay (acts.Field p) log
      (all_stay (acts.Field p) log i (field_steady p) (field_silent p) (λ x. refl) refl) ∙
      ap (λ es. entries log ++ es) (something_new (acts.Field p) log (record { kind = FieldKind; peer = p }) refl));
  focus_now = h.focus_now ∙ sym (focus_same (acts.Field p) log i (field_steady p));
  holder_now = h.holder_now ∙ sym (kept_same (acts.Field p) log i (field_steady p));
  served_now =
      served_notified s (acts.Field p) log None h.served_now (serving_same (acts.Field p) log refl (field_steady p))
      (notice_quiet (acts.Field p) log refl refl refl (kept_same (acts.Field p) log i (field_steady p)))
      (λ m rest. refl);
  screen_now = h.screen_now;
  keys_now = keys_same (acts.Field p) log s.keys (field_calm p) refl (λ x o. refl) h.keys_now;
}

-- a method

method_objects : (log : List Act) (p : ℕ) → IsHistory log →
    entries log ++ record { label = length log + 1; peer = p; kind = Method } ∷ [] ≡ entries (acts.Method p ∷ log)
method_objects log p i =
    sym (entries_stay (acts.Method p) log
    (all_stay (acts.Method p) log i (method_steady p) (method_silent p) (λ x. refl) refl) ∙
    ap (λ es. entries log ++ es) (something_new (acts.Method p) log (record { kind = MethodKind; peer = p }) refl))

method_noticed : (log : List Act) (p : ℕ) (b : Bool) → IsHistory log → serving log ≡ None → is_some (holder log) ≡ b →
    notice (acts.Method p) log ≡ (if b then Some Activates else None)
method_noticed log p true i e k =
    let same : holder (acts.Method p ∷ log) ≡ holder log = kept_same (acts.Method p) log i (method_steady p) in
    rw (same, e, k) refl
method_noticed log p false i e k =
    let same : holder (acts.Method p ∷ log) ≡ holder log = kept_same (acts.Method p) log i (method_steady p) in
    rw (same, e, k) refl

method_served : (s : State) (log : List Act) (p : ℕ) (o : Option ℕ) (b : Bool) → IsHistory log → Stands s log →
    serving log ≡ o → s.serving ≡ o →
    is_some (holder log) ≡ b → is_some s.holder ≡ b → ServedIn (method_made p (counted s)) (acts.Method p ∷ log)
method_served s log p (Some m) b i h e d k l =
    let stay : serving (acts.Method p ∷ log) ≡ serving log = rw e refl in
    let silent : notice (acts.Method p) log ≡ None =
    notice_quiet (acts.Method p) log refl (rw e refl) refl (kept_same (acts.Method p) log i (method_steady p)) in
    rw d (rw d at (served_notified s (acts.Method p) log None h.served_now stay silent (λ n rest. refl)))
method_served s log p None true i h e d k l =
    let new : serving (acts.Method p ∷ log) ≡ Some (length log + 1) = rw e refl in
    rw (d, l, h.acts_now) (served_activated (acts.Method p) log new (method_noticed log p true i e k))
method_served s log p None false i h e d k l =
    let new : serving (acts.Method p ∷ log) ≡ Some (length log + 1) = rw e refl in
    rw (d, l, h.acts_now) (served_new (acts.Method p) log new (method_noticed log p false i e k))

method_rest : (s : State) (log : List Act) (p : ℕ) (b c : Bool) → IsHistory log → Stands s log →
    ServedIn (if b then made p Method (counted s)
    else made p Method (if c then activated (serves (counted s)) else serves (counted s))) (acts.Method p ∷ log) →
    Stands (if b then made p Method (counted s)
    else made p Method (if c then activated (serves (counted s)) else serves (counted s))) (acts.Method p ∷ log)
method_rest s log p true c i h v = record {
  acts_now = one_more s (acts.Method p) log h;
  objects_now = rw (h.objects_now, h.acts_now) (method_objects log p i);
  focus_now = h.focus_now ∙ sym (focus_same (acts.Method p) log i (method_steady p));
  holder_now = h.holder_now ∙ sym (kept_same (acts.Method p) log i (method_steady p));
  served_now = v;
  screen_now = h.screen_now;
  keys_now = keys_stay (acts.Method p) log s.keys (method_calm p) (standing_method p log) h.keys_now;
}
method_rest s log p false true i h v = record {
  acts_now = one_more s (acts.Method p) log h;
  objects_now = rw (h.objects_now, h.acts_now) (method_objects log p i);
  focus_now = h.focus_now ∙ sym (focus_same (acts.Method p) log i (method_steady p));
  holder_now = h.holder_now ∙ sym (kept_same (acts.Method p) log i (method_steady p));
  served_now = v;
  screen_now = h.screen_now;
  keys_now = keys_stay (acts.Method p) log s.keys (method_calm p) (standing_method p log) h.keys_now;
}
method_rest s log p false false i h v = record {
  acts_now = one_more s (acts.Method p) log h;
  objects_now = rw (h.objects_now, h.acts_now) (method_objects log p i);
  focus_now = h.focus_now ∙ sym (focus_same (acts.Method p) log i (method_steady p));
  holder_now = h.holder_now ∙ sym (kept_same (acts.Method p) log i (method_steady p));
  served_now = v;
  screen_now = h.screen_now;
  keys_now = keys_stay (acts.Method p) log s.keys (method_calm p) (standing_method p log) h.keys_now;
}

pub stands_method : (s : State) (log : List Act) (p : ℕ) → IsHistory log → Stands s log →
    Stands (method_made p (counted s)) (acts.Method p ∷ log)
stands_method s log p i h =
    method_rest s log p (is_some s.serving) (is_some s.holder) i h
    (method_served s log p (serving log) (is_some (holder log)) i h refl h.served_now.serving_now refl
    (ap is_some h.holder_now))

-- a request of a field, other than its commit

request_moves : (act : Act) (log : List Act) (f : ℕ) → IsHistory log → IsRequest act f → IsCalm act →
    entered log f ≡ true →
    AllMove act log (requested f act) (λ _. true)
request_moves act log f i k c e =
    λ x l.
    let there : entered (act ∷ log) x ≡ entered log x = entered_same act log x i k.steady l in
    let since : entered_since (act ∷ log) x ≡ entered_since log x = entered_since_same act log x k.steady in
    let holds : is_at (holder (act ∷ log)) x ≡ is_at (holder log) x =
    ap (λ o. is_at o x) (k.holds log ∙ kept_same act log i k.steady) in
    stays (requested f act) act log x (object_same act log x k.steady l)
    (touch_only f (asked act) act log x (c.areas log x)
    (λ d. let P : ℕ → Type 0 = λ y. asked act (field_kept log y) ≡ field_kept (act ∷ log) y in
    subst P (sym (eqb-true x f d))
    (field_asked act log f k (entered_within log f e) (entered_same act log f i k.steady (entered_within log f e))
    (entered_since_same act log f k.steady)
    (ap (λ o. is_at o f) (k.holds log ∙ kept_same act log i k.steady)) e))
    (λ d. field_passed act log f x k (eqb_sym f x ∙ d) l there since holds))

-- An act that makes no object and says nothing of the method.
pub record IsPlain (act : Act) (log : List Act) : Type 0 where
  pub makes : model.made act (length log + 1) (owner (object log (model.maker act))) ≡ None
  pub serves : serving (act ∷ log) ≡ where_alive (act ∷ log) (serving log)
  pub serving_new : makes_serving act log ≡ false
  pub updating : updates act log ≡ false
  pub edits : LeavesEdits act
  pub calm : IsCalm act

pub stands_request : (s : State) (log : List Act) (act : Act) (f : ℕ) → IsHistory log → IsRequest act f →
    entered log f ≡ true → IsPlain act log → Stands s log →
    Stands (asking f act (counted s)) (act ∷ log)
stands_request s log act f i k e q h = record {
  acts_now = one_more s act log h;
  objects_now =
      ap (map (requested f act)) h.objects_now
      ∙ sym (entries_touched act log (requested f act) (request_moves act log f i k q.calm e) q.makes);
  focus_now = h.focus_now ∙ sym (focus_same act log i k.steady);
  holder_now = h.holder_now ∙ sym (k.holds log ∙ kept_same act log i k.steady);
  served_now = served_notified s act log None h.served_now (serving_same act log q.serves k.steady)
      (notice_quiet act log (k.begins log) q.serving_new q.updating (k.holds log ∙ kept_same act log i k.steady))
      q.edits;
  screen_now = h.screen_now ∙ sym (q.calm.screens log);
  keys_now = keys_same act log s.keys q.calm q.serves k.steady.keeps h.keys_now;
}
