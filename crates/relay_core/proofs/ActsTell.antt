-- Each act tells what the definitions tell.
use Rattle.std.proofs.Common.{◌≡◌, ℕ, ◌+◌, ◌≤◌, List, [], ◌∷◌, ◌++◌, length, map, Bool, true, false, Option, Some, None, ap, refl, sym, ◌∙◌}
use Rattle.std.specs.Prelude.{if◌then◌else◌, is_some}
use Rattle.std.proofs.lemmas.Bool.{eqb-true}
use Rattle.std.proofs.lemmas.List.{append-nil}
use Rattle.relay_model.specs.declared.act.Act.{Act}
use Rattle.relay_model.specs.declared.act.Act.TheVariants as acts
use Rattle.relay_model.specs.declared.act.EndCause.{EndCause}
use Rattle.relay_model.specs.declared.said.Told.{Told}
use Rattle.relay_model.specs.declared.said.Said.TheVariants as said
use Rattle.relay_model.specs.Objects.{is_at, is_field_kind, is_field}
use Rattle.relay_model.specs.Focus.{focus, peer_at, focused_peer, entered}
use Rattle.relay_model.specs.Hold.{word, holder}
use Rattle.relay_model.specs.Current.{State as FieldState, Around, current}
use Rattle.relay_model.specs.Activation.{Activates, Updates, Deactivates, serving, notice}
use Rattle.relay_model.specs.Told.{to, enter, leaves, notice_said, holders_state, state_said, to_method, enters, enters_new, deleted, own, told_by}
use Rattle.relay_model.proofs.ActsOrIdle.{IsHistory}
use Rattle.relay_model.proofs.ObjectLaws.{kind_within}
use Rattle.relay_model.proofs.FocusLaws.{focus_same}
use Rattle.relay_model.proofs.HoldLaws.{kept_same, commit_steady}
use Rattle.relay_model.proofs.ActivationLaws.{serving_same}
use Rattle.relay_model.proofs.StateLaws.{current_kept}
use Rattle.edit_batch.specs.Calls.{LastEdits}
use Rattle.field_state.specs.Calls as field
use Rattle.field_state.specs.Hold.{holds_after}
use Rattle.field_state.specs.Stands.{Kept as KeptField}
use Rattle.field_state.specs.Changes as change
use Rattle.field_state.specs.declared.commit.Taken.{Taken}
use Rattle.field_state.specs.declared.commit.Taken.TheVariants.{Begun, Updated, Ended, Nothing}
use Rattle.relay_objects.specs.Objects.{find, owner_in, field_in, committed}
use Rattle.relay_core.specs.Machine.{State, counted, committing, taken_by, displaced_by, owner_at, focused_in, enter_told, method_told, current_of, state_of, holder_state, state_told, activate_told, update_told, deactivate_told, release_told, part_told, serving_unless, drop_told, gone_told, commit_told}
use Rattle.relay_core.specs.Stands.{Stands, state_kept, current_where}
use Rattle.relay_core.proofs.LookUpsFind.{finds_owner, finds_kept, owner_at_is, focused_is, holder_state_is}
use Rattle.relay_core.proofs.FoundAfterCommit.{under, found_committed}
use Rattle.relay_core.proofs.KeptFields.{IsRequest}
use Rattle.relay_core.proofs.SteadyActs.{peer_steady, surface_steady, field_steady, method_steady, idle_steady, notice_quiet, ended}
use Rattle.relay_core.proofs.SteadyActsStand.{IsPlain, field_entered}
use Rattle.relay_core.proofs.CommitsStand.{does, noticed, commit_said, commit_holds, commit_kept, taken_is, ends_held}
use Rattle.relay_core.proofs.EditsStand.{IsEdit}
use Rattle.relay_core.proofs.FocusActsStand.{drop_serving}
use Rattle.relay_core.proofs.EndsStand.{drop_said, gone_said, gone_serving}

-- nothing is said of the hold
pub method_quiet : (act : Act) (log : List Act) (o : Option ℕ) → notice act log ≡ None → to_method act log o ≡ []
method_quiet act log None q = refl
method_quiet act log (Some m) q = ap (λ n. map (to m) (notice_said (act ∷ log) n)) q

release_none : (h : Option ℕ) → release_told h None ≡ []
release_none None = refl
release_none (Some h) = refl

-- the hold ended
pub method_ended : (act : Act) (log : List Act) (h o : Option ℕ) → notice act log ≡ ended h →
    to_method act log o ≡ release_told h o
method_ended act log h None q = sym (release_none h)
method_ended act log None (Some m) q = ap (λ n. map (to m) (notice_said (act ∷ log) n)) q
method_ended act log (Some h) (Some m) q = ap (λ n. map (to m) (notice_said (act ∷ log) n)) q

-- the state of a field, as it is told
state_said_to : (m : ℕ) (c : FieldState) → state_told m (state_kept c) ≡ map (to m) (state_said c)
state_said_to m c = at m c c.surrounding refl
  where
    at : (m : ℕ) (c : FieldState) (a : Option Around) → c.surrounding ≡ a →
        state_told m (state_kept c) ≡ map (to m) (state_said c)
    at m c None e = rw e refl
    at m c (Some around) e = rw e refl

method_activated : (act : Act) (log : List Act) (h : ℕ) (o : Option ℕ) (c : field.State) →
    c ≡ state_kept (current (act ∷ log) h) → holder (act ∷ log) ≡ Some h →
    notice act log ≡ Some Activates → to_method act log o ≡ activate_told c o
method_activated act log h None c b e q = refl
method_activated act log h (Some m) c b e q =
    ap (λ n. map (to m) (notice_said (act ∷ log) n)) q ∙
    ap (λ k. map (to m) (said.Activate ∷ holders_state (act ∷ log) k)) e ∙
    ap (λ says. to m said.Activate ∷ says) (sym (ap (state_told m) b ∙ state_said_to m (current (act ∷ log) h)))

method_updated : (act : Act) (log : List Act) (h : ℕ) (o : Option ℕ) (c : field.State) →
    c ≡ state_kept (current (act ∷ log) h) → holder (act ∷ log) ≡ Some h →
    notice act log ≡ Some Updates → to_method act log o ≡ update_told c o
method_updated act log h None c b e q = refl
method_updated act log h (Some m) c b e q =
    ap (λ n. map (to m) (notice_said (act ∷ log) n)) q ∙
    ap (λ k. map (to m) (holders_state (act ∷ log) k)) e ∙
    sym (ap (state_told m) b ∙ state_said_to m (current (act ∷ log) h))

method_deactivated : (act : Act) (log : List Act) (o : Option ℕ) → notice act log ≡ Some Deactivates →
    to_method act log o ≡ deactivate_told o
method_deactivated act log None q = refl
method_deactivated act log (Some m) q = ap (λ n. map (to m) (notice_said (act ∷ log) n)) q

-- acts that tell nothing

pub says_peer : (log : List Act) → IsHistory log → [] ≡ told_by acts.Peer log
says_peer log i =
    sym (ap (λ ts. ts ++ [])
    (method_quiet acts.Peer log (serving (acts.Peer ∷ log))
    (notice_quiet acts.Peer log refl refl refl (kept_same acts.Peer log i peer_steady))))

pub says_surface : (log : List Act) (p : ℕ) → IsHistory log → [] ≡ told_by (acts.Surface p) log
says_surface log p i =
    sym (ap (λ ts. ts ++ []) (method_quiet (acts.Surface p) log (serving (acts.Surface p ∷ log))
    (notice_quiet (acts.Surface p) log refl refl refl (kept_same (acts.Surface p) log i (surface_steady p)))))

-- an act that tells nothing of its own
pub record IsQuiet (act : Act) (log : List Act) : Type 0 where
  pub silent : notice act log ≡ None
  pub leaving : leaves act log ≡ []
  pub entering : enters act log ≡ []
  pub own_none : own act log ≡ []

pub says_nothing : (act : Act) (log : List Act) → IsQuiet act log → [] ≡ told_by act log
says_nothing act log q =
    let a : to_method act log (serving (act ∷ log)) ≡ [] = method_quiet act log (serving (act ∷ log)) q.silent in
    sym (ap (λ ts. ts ++ (to_method act log (serving (act ∷ log)) ++ (enters act log ++ own act log))) q.leaving ∙
    ap (λ ts. ts ++ (enters act log ++ own act log)) a ∙ ap (λ ts. ts ++ own act log) q.entering ∙ q.own_none)

pub says_request : (act : Act) (log : List Act) (f : ℕ) → IsHistory log → IsRequest act f → IsPlain act log →
    leaves act log ≡ [] → enters act log ≡ [] →
    own act log ≡ [] → [] ≡ told_by act log
says_request act log f i k q a b c =
    says_nothing act log (record {
      silent = notice_quiet act log (k.begins log) q.serving_new q.updating
          (k.holds log ∙ kept_same act log i k.steady);
      leaving = a;
      entering = b;
      own_none = c;
    })

pub says_edit : (act : Act) (log : List Act) (m : ℕ) (makes : LastEdits → LastEdits) → IsHistory log →
    IsEdit act m makes → leaves act log ≡ [] → enters act log ≡ [] →
    own act log ≡ [] → [] ≡ told_by act log
says_edit act log m makes i k a b c =
    says_nothing act log (record {
      silent = notice_quiet act log (k.silent.begins log) (k.serving_new log) (k.updating log)
          (k.holds log ∙ kept_same act log i k.steady);
      leaving = a;
      entering = b;
      own_none = c;
    })

pub says_idle : (log : List Act) → IsHistory log → [] ≡ told_by acts.Idle log
says_idle log i =
    sym (ap (λ ts. ts ++ [])
    (method_quiet acts.Idle log (serving (acts.Idle ∷ log))
    (notice_quiet acts.Idle log refl refl refl (kept_same acts.Idle log i idle_steady))))

-- a field

field_by : (s : State) (log : List Act) (p n : ℕ) (o : Option ℕ) (b : Bool) → is_at (focused_in s) p ≡ b →
    entered (acts.Field p ∷ log) n ≡ b →
    enter_told s p n o ≡ enters_new (acts.Field p ∷ log) n o
field_by s log p n None b e k = refl
field_by s log p n (Some t) b e k = ap (λ c. if c then enter t n ∷ [] else []) (e ∙ sym k)

pub says_field : (s : State) (log : List Act) (p : ℕ) → IsHistory log → Stands s log →
    enter_told (counted s) p (s.acts + 1) s.focus ≡ told_by (acts.Field p) log
says_field s log p i h =
    let same : focus (acts.Field p ∷ log) ≡ focus log = focus_same (acts.Field p) log i (field_steady p) in
    let quiet : to_method (acts.Field p) log (serving (acts.Field p ∷ log)) ≡ [] =
    method_quiet (acts.Field p) log (serving (acts.Field p ∷ log))
    (notice_quiet (acts.Field p) log refl refl refl (kept_same (acts.Field p) log i (field_steady p))) in
    let here : enter_told (counted s) p (length log + 1) (focus log)
    ≡ enters_new (acts.Field p ∷ log) (length log + 1) (focus log) =
    field_by (counted s) log p (length log + 1) (focus log) (is_at (focused_peer log) p)
    (ap (λ o. is_at o p) (focused_is s log h)) (field_entered log p i) in
    ap (λ n. enter_told (counted s) p (n + 1) s.focus) h.acts_now
    ∙ ap (enter_told (counted s) p (length log + 1)) h.focus_now ∙ here ∙
    ap (enters_new (acts.Field p ∷ log) (length log + 1)) (sym same)
    ∙ sym (append-nil (enters_new (acts.Field p ∷ log) (length log + 1) (focus (acts.Field p ∷ log)))) ∙
    ap (λ ts. ts ++ (enters (acts.Field p) log ++ [])) (sym quiet)

-- a method

abbrev method_told_by : field.State → Option ℕ → Option ℕ → ℕ → List Told
method_told_by c serves held n =
    (if is_some serves then to n said.Unavailable ∷ [] else (if is_some held then activate_told c (Some n) else []))

method_case : (log : List Act) (p : ℕ) (o h : Option ℕ) (c : field.State) → IsHistory log →
    ((f : ℕ) → holder log ≡ Some f → c ≡ state_kept (current log f)) →
    serving log ≡ o → holder log ≡ h →
    method_told_by c o h (length log + 1)
    ≡ to_method (acts.Method p) log (serving (acts.Method p ∷ log))
    ++ (if is_some o then to (length log + 1) said.Unavailable ∷ [] else [])
method_case log p (Some m) h c i b e k =
    let silent : notice (acts.Method p) log ≡ None =
    notice_quiet (acts.Method p) log refl (rw e refl) refl (kept_same (acts.Method p) log i (method_steady p)) in
    sym (ap (λ ts. ts ++ to (length log + 1) said.Unavailable ∷ [])
    (method_quiet (acts.Method p) log (serving (acts.Method p ∷ log)) silent))
method_case log p None (Some h) c i b e k =
    let same : holder (acts.Method p ∷ log) ≡ holder log = kept_same (acts.Method p) log i (method_steady p) in
    let new : serving (acts.Method p ∷ log) ≡ Some (length log + 1) = rw e refl in
    let said : notice (acts.Method p) log ≡ Some Activates = rw (same, e, k) refl in
    sym (append-nil (to_method (acts.Method p) log (serving (acts.Method p ∷ log)))
    ∙ ap (to_method (acts.Method p) log) new ∙
    method_activated (acts.Method p) log h (Some (length log + 1)) c
    (b h k ∙ ap state_kept (sym (current_kept (acts.Method p) log h refl refl))) (same ∙ k) said)
method_case log p None None c i b e k =
    let same : holder (acts.Method p ∷ log) ≡ holder log = kept_same (acts.Method p) log i (method_steady p) in
    let silent : notice (acts.Method p) log ≡ None = rw (same, e, k) refl in
    sym (append-nil (to_method (acts.Method p) log (serving (acts.Method p ∷ log)))
    ∙ method_quiet (acts.Method p) log (serving (acts.Method p ∷ log)) silent)

pub says_method : (s : State) (log : List Act) (p : ℕ) → IsHistory log → Stands s log →
    method_told (counted s) ≡ told_by (acts.Method p) log
says_method s log p i h =
    ap (λ o. method_told_by (holder_state s) o s.holder (s.acts + 1)) h.served_now.serving_now ∙
    ap (λ o. method_told_by (holder_state s) (serving log) o (s.acts + 1)) h.holder_now ∙
    ap (λ n. method_told_by (holder_state s) (serving log) (holder log) (n + 1)) h.acts_now ∙
    method_case log p (serving log) (holder log) (holder_state s) i (λ f e. holder_state_is s log f h i e) refl refl

-- a commit

held_at : (o : Option ℕ) (f : ℕ) → is_at o f ≡ true → o ≡ Some f
held_at None f e = cc
held_at (Some x) f e = ap (λ v. Some v) (eqb-true x f e)

commit_case : (s : State) (log : List Act) (f : ℕ) (t : Taken) → IsHistory log →
    notice (acts.Commit f) log ≡ noticed t →
    is_at (holder (acts.Commit f ∷ log)) f ≡ holds_after t →
    (holds_after t ≡ true → state_of s f ≡ state_kept (current (acts.Commit f ∷ log) f)) →
    (t ≡ Ended → ended (holder log) ≡ Some Deactivates) → s.holder ≡ holder log →
    commit_told f t s ≡ to_method (acts.Commit f) log s.serving
commit_case s log f Begun i q k c e d =
    sym (method_activated (acts.Commit f) log f s.serving (state_of s f) (c refl)
    (held_at (holder (acts.Commit f ∷ log)) f k) q)
commit_case s log f Updated i q k c e d =
    sym (method_updated (acts.Commit f) log f s.serving (state_of s f) (c refl)
    (held_at (holder (acts.Commit f ∷ log)) f k) q)
commit_case s log f Ended i q k c e d =
    ap (λ o. release_told o s.serving) d
    ∙ sym (method_ended (acts.Commit f) log (holder log) s.serving (q ∙ sym (e refl)))
commit_case s log f Nothing i q k c e d = sym (method_quiet (acts.Commit f) log s.serving q)

-- what the field has current after its commit
committed_state : (s : State) (log : List Act) (f : ℕ) (d : Option ℕ) → IsHistory log → is_field log f ≡ true →
    f ≤ length log →
    is_at (holder (acts.Commit f ∷ log)) f ≡ true → Stands s log →
    current_of (field_in (find (map (committed f d) s.objects) f)) ≡ state_kept (current (acts.Commit f ∷ log) f)
committed_state s log f d i e l k h =
    ap current_of (found_committed f d s.objects ∙ ap (under change.committed) (finds_kept s log f h e)) ∙
    ap (λ (v : KeptField). v.current) (commit_kept log f i l) ∙ ap (λ b. current_where b (acts.Commit f ∷ log) f) k

pub says_commit : (s : State) (log : List Act) (f : ℕ) → IsHistory log → is_field log f ≡ true → Stands s log →
    commit_told f (taken_by f s) (committing f (taken_by f s) (counted s))
    ≡ to_method (acts.Commit f) log (serving (acts.Commit f ∷ log))
says_commit s log f i e h =
    let same : serving (acts.Commit f ∷ log) ≡ serving log = serving_same (acts.Commit f) log refl (commit_steady f) in
    let t : Taken = does f (word log f) (holder log) in
    let after : is_at (holder (acts.Commit f ∷ log)) f ≡ holds_after t = commit_holds log f i in
    ap (λ v. commit_told f v (committing f v (counted s))) (taken_is s log f e h) ∙
    commit_case (committing f t (counted s)) log f t i (commit_said log f i) after
    (λ k. committed_state s log f (displaced_by t s.holder) i e (kind_within is_field_kind log f e) (after ∙ k) h)
    (ends_held f (word log f) (holder log)) h.holder_now ∙
    ap (to_method (acts.Commit f) log) (h.served_now.serving_now ∙ sym same)

-- a drop and the end of a peer

part_case : (act : Act) (log : List Act) (b c : Bool) (o : Option ℕ) →
    notice act log ≡ (if b then ended (holder log) else (if c then ended (holder log) else None)) →
    part_told b c (holder log) o ≡ to_method act log o
part_case act log true c o q = sym (method_ended act log (holder log) o q)
part_case act log false true o q = sym (method_ended act log (holder log) o q)
part_case act log false false o q = sym (method_quiet act log o q)

unless_if : (d : Bool) (o : Option ℕ) → serving_unless d o ≡ (if d then None else o)
unless_if true o = refl
unless_if false o = refl

pub says_drop : (s : State) (log : List Act) (x : ℕ) → IsHistory log → Stands s log →
    drop_told x (counted s) ≡ told_by (acts.Drop x) log
says_drop s log x i h =
    let a : s.focus ≡ focus log = h.focus_now in
    let b : s.holder ≡ holder log = h.holder_now in
    let c : s.serving ≡ serving log = h.served_now.serving_now in
    let served : serving_unless (is_at (serving log) x) (serving log) ≡ serving (acts.Drop x ∷ log) =
    unless_if (is_at (serving log) x) (serving log) ∙ sym (drop_serving log x (is_at (serving log) x) refl) in
    let parts : part_told (is_at s.focus x) (is_at s.holder x) s.holder (serving_unless (is_at s.serving x) s.serving)
    ≡ to_method (acts.Drop x) log (serving (acts.Drop x ∷ log)) =
    ap (λ o. part_told (is_at o x) (is_at s.holder x) s.holder (serving_unless (is_at s.serving x) s.serving)) a ∙
    ap (λ o. part_told (is_at (focus log) x) (is_at o x) o (serving_unless (is_at s.serving x) s.serving)) b ∙
    ap (λ o. part_told (is_at (focus log) x) (is_at (holder log) x) (holder log) (serving_unless (is_at o x) o)) c ∙
    ap (part_told (is_at (focus log) x) (is_at (holder log) x) (holder log)) served ∙
    part_case (acts.Drop x) log (is_at (focus log) x) (is_at (holder log) x) (serving (acts.Drop x ∷ log))
    (drop_said log x _ _ i refl refl) in
    ap (λ ts. ts ++ deleted x (owner_in (find s.objects x))) parts ∙
    ap (λ o. to_method (acts.Drop x) log (serving (acts.Drop x ∷ log)) ++ deleted x o) (finds_owner s log x h)

pub says_gone : (s : State) (log : List Act) (p : ℕ) (cause : EndCause) → IsHistory log → Stands s log →
    gone_told p (counted s) ≡ told_by (acts.Gone p cause) log
says_gone s log p cause i h =
    let a : is_at (focused_in s) p ≡ is_at (focused_peer log) p = ap (λ o. is_at o p) (focused_is s log h) in
    let b : s.holder ≡ holder log = h.holder_now in
    let c : s.serving ≡ serving log = h.served_now.serving_now in
    let d : is_at (owner_at s.objects (serving log)) p ≡ is_at (peer_at log (serving log)) p =
    ap (λ o. is_at o p) (owner_at_is s log (serving log) h) in
    let served : serving_unless (is_at (peer_at log (serving log)) p) (serving log)
    ≡ serving (acts.Gone p cause ∷ log) =
    unless_if (is_at (peer_at log (serving log)) p) (serving log)
    ∙ sym (gone_serving log p cause (is_at (peer_at log (serving log)) p) refl) in
    ap (λ u. part_told u false s.holder (serving_unless (is_at (owner_at s.objects s.serving) p) s.serving)) a ∙
    ap (λ o. part_told (is_at (focused_peer log) p) false o
    (serving_unless (is_at (owner_at s.objects s.serving) p) s.serving)) b ∙
    ap (λ o. part_told (is_at (focused_peer log) p) false (holder log)
    (serving_unless (is_at (owner_at s.objects o) p) o)) c ∙
    ap (λ u. part_told (is_at (focused_peer log) p) false (holder log) (serving_unless u (serving log))) d ∙
    ap (part_told (is_at (focused_peer log) p) false (holder log)) served ∙
    part_case (acts.Gone p cause) log (is_at (focused_peer log) p) false (serving (acts.Gone p cause ∷ log))
    (gone_said log p cause _ i refl) ∙
    sym (append-nil (to_method (acts.Gone p cause) log (serving (acts.Gone p cause ∷ log))))
