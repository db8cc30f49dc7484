-- What entries made and none let go is enough: nothing that is alive was let go.
use Rattle.std.proofs.Common.{◌≡◌, ℕ, ◌+◌, ◌≤◌, List, [], ◌∷◌, ◌++◌, length, Bool, true, false, Option, Some, None, ap, refl, sym, ◌∙◌, arith, inl, inr}
use Rattle.std.specs.Prelude.{◌==◌, ◌&&◌, not, if◌then◌else◌, is_some, filter}
use Rattle.std.proofs.lemmas.Bool.{eqb-true, eq-eqb, true≢false, cases_lt}
use Rattle.std.proofs.lemmas.Option.{same_Some, none-some}
use Rattle.relay_model.specs.declared.act.Act.{Act}
use Rattle.relay_model.specs.declared.act.Act.TheVariants as acts
use Rattle.relay_model.specs.declared.act.EndCause.{EndCause}
use Rattle.relay_model.specs.Objects.{next, is_at, is_kind, is_peer_kind, owner, object, alive, peer_of, is_peer}
use Rattle.relay_model.specs.Idle.{is_live, cleaned}
use Rattle.relay_model.proofs.ActsOrIdle.{IsHistory, history_is, cleaned_again}
use Rattle.relay_model.proofs.ObjectLaws.{object_step, object_new, alive_within, kind_alive, kind_within}
use Rattle.broker_model.specs.declared.journal.Entry.{Entry}
use Rattle.broker_model.specs.Ids.{Made, log_of, made_as}
use Rattle.broker_model.specs.Resolve.{past_of, resolve}
use Rattle.broker_model.specs.Out.{act_at, act_now}
use Rattle.broker_model.proofs.IdsAreNames.{IsIn}
use Rattle.broker_model.proofs.LivePeersJoined.{length_log}
use Rattle.broker_model.proofs.MadeObjectsStand.{lived, sound}
use Rattle.broker_model.proofs.OwnersLive.{own_peer, owner_lives}
use Rattle.broker_model.specs.Living.{IsLiving}
use Rattle.broker_model.specs.Enough.{made_at}
use Rattle.broker_model.specs.Kept.{is_object, lets_go, kept_of, KeptIsEnough}
use Rattle.broker_model.proofs.LivingAreEnough.{behind, beyond_none, zero_none}

-- ---- what a test leaves

test_found : (test : Made → Bool) (ms : List Made) (x : ℕ) →
    ((m : Made) → IsIn ms m → m.label ≡ x → test m ≡ true) → made_as (filter test ms) x ≡ made_as ms x
test_found test [] x h = refl
test_found test (m ∷ ms) x h = by (test m) refl (test_found test ms x (λ y i. h y (inr i)))
  where
    other : (b : Bool) → (m.label == x) ≡ b → test m ≡ false → made_as ms x ≡ (if b then Some m else made_as ms x)
    other true q e = absurd (true≢false (sym (h m (inl refl) (eqb-true m.label x q)) ∙ e))
    other false q e = refl

    by : (b : Bool) → test m ≡ b → made_as (filter test ms) x ≡ made_as ms x →
        made_as (if b then m ∷ filter test ms else filter test ms) x ≡ (if m.label == x then Some m else made_as ms x)
    by true e k = ap (λ (o : Option Made). if m.label == x then Some m else o) k
    by false e k = k ∙ other (m.label == x) refl e

test_in : (test : Made → Bool) (ms : List Made) (m : Made) → IsIn (filter test ms) m → IsIn ms m
test_in test (x ∷ ms) m i = by (test x) i (test_in test ms m)
  where
    by : (b : Bool) → IsIn (if b then x ∷ filter test ms else filter test ms) m →
        (IsIn (filter test ms) m → IsIn ms m) → IsIn (x ∷ ms) m
    by true (inl e) k = inl e
    by true (inr j) k = inr (k j)
    by false j k = inr (k j)
test_in test [] m i = i

none_in : (ms : List Made) (x : ℕ) → ((m : Made) → IsIn ms m → m.label ≡ x → ⊥) → made_as ms x ≡ None
none_in [] x h = refl
none_in (m ∷ ms) x h = by (m.label == x) refl (none_in ms x (λ y i. h y (inr i)))
  where
    by : (b : Bool) → (m.label == x) ≡ b → made_as ms x ≡ None → (if b then Some m else made_as ms x) ≡ None
    by true q k = absurd (h m (inl refl) (eqb-true m.label x q))
    by false q k = k

in_either : (new kept made : List Made) (m : Made) → (IsIn kept m → IsIn made m) → IsIn (new ++ kept) m →
    IsIn (new ++ made) m
in_either [] kept made m f i = f i
in_either (x ∷ new) kept made m f (inl e) = inl e
in_either (x ∷ new) kept made m f (inr i) = inr (in_either new kept made m f i)

-- what is kept was made
pub kept_in : (journal : List Entry) (m : Made) → IsIn (kept_of journal) m → IsIn (past_of journal).made m
kept_in [] m i = i
kept_in (e ∷ older) m i =
    in_either (made_at e older) (kept_of older) (past_of older).made m (kept_in older m)
    (test_in (λ (m : Made). not (lets_go (act_at e older) (length older + 1) m)) (made_at e older ++ kept_of older) m i)

-- ---- no act lets go of what is alive after it

alive_idle : (log : List Act) (x : ℕ) → alive (acts.Idle ∷ log) x ≡ true →
    object (acts.Idle ∷ log) x ≡ object log x
alive_idle log x l =
    elim (cases_lt (length log) x) [
      | inl beyond ↦ (
          let w : x ≤ length (acts.Idle ∷ log) = alive_within (acts.Idle ∷ log) x l in
          let n : x ≡ next log = omega arith in
          absurd (true≢false (sym (ap (alive (acts.Idle ∷ log)) (sym n) ∙ l) ∙ ap is_some (object_new acts.Idle log))))
      | inr within ↦ object_step acts.Idle log x within
    ]

dropped_dead : (y : ℕ) (log : List Act) → alive (acts.Drop y ∷ log) y ≡ true → ⊥
dropped_dead y log l =
    elim (cases_lt (length log) y) [
      | inl beyond ↦ (
          let w : y ≤ length (acts.Drop y ∷ log) = alive_within (acts.Drop y ∷ log) y l in
          let n : y ≡ next log = omega arith in
          true≢false (sym (ap (alive (acts.Drop y ∷ log)) (sym n) ∙ l) ∙ ap is_some (object_new (acts.Drop y) log)))
      | inr within ↦
          true≢false (sym l ∙ ap is_some (object_step (acts.Drop y) log y within)
          ∙ ap (λ b. is_some (if b then None else object log y)) (eq-eqb y y refl))
    ]

and_not : (a b : Bool) → a ≡ true → (a && not b) ≡ false → b ≡ true
and_not true true h e = refl
and_not true false h e = cc
and_not false b h e = cc

-- of an idle drop of what lives the object is a peer
drop_keeps : (b : Bool) (y : ℕ) (log : List Act) (p : ℕ) → IsHistory log → is_live (acts.Drop y) log ≡ b →
    alive ((if b then acts.Drop y else acts.Idle) ∷ log) y ≡ true →
    peer_of ((if b then acts.Drop y else acts.Idle) ∷ log) y ≡ Some p → p ≡ y
drop_keeps true y log p i e l o = absurd (dropped_dead y log l)
drop_keeps false y log p i e l o =
    let same : object (acts.Idle ∷ log) y ≡ object log y = alive_idle log y l in
    let here : alive log y ≡ true = sym (ap is_some same) ∙ l in
    let peer : is_peer log y ≡ true = and_not (alive log y) (is_peer log y) here e in
    same_Some p y (sym o ∙ ap owner same ∙ own_peer log y i peer)

ended_dead : (p : ℕ) (why : EndCause) (log : List Act) → IsHistory log → is_peer log p ≡ true →
    is_peer (acts.Gone p why ∷ log) p ≡ true → ⊥
ended_dead p why log i was l =
    let within : p ≤ length log = kind_within is_peer_kind log p was in
    let own : owner (object log p) ≡ Some p = own_peer log p i was in
    true≢false (sym l ∙ ap (is_kind is_peer_kind) (object_step (acts.Gone p why) log p within)
    ∙ ap (λ (u : Option ℕ). is_kind is_peer_kind (if is_at u p then None else object log p)) own
    ∙ ap (λ b. is_kind is_peer_kind (if b then None else object log p)) (eq-eqb p p refl))

-- an end leaves no object of its peer alive
end_keeps : (b : Bool) (p : ℕ) (why : EndCause) (log : List Act) → IsHistory log →
    is_live (acts.Gone p why) log ≡ b → is_peer ((if b then acts.Gone p why else acts.Idle) ∷ log) p ≡ true → ⊥
end_keeps true p why log i e l = ended_dead p why log i e l
end_keeps false p why log i e l =
    let lives : alive (acts.Idle ∷ log) p ≡ true = kind_alive is_peer_kind (acts.Idle ∷ log) p l in
    true≢false (sym l ∙ ap (is_kind is_peer_kind) (alive_idle log p lives) ∙ e)

sync_dead : (b : Bool) (q : ℕ) (log : List Act) →
    alive ((if b then acts.Sync q else acts.Idle) ∷ log) (next log) ≡ true → ⊥
sync_dead true q log l = true≢false (sym l ∙ ap is_some (object_new (acts.Sync q) log))
sync_dead false q log l = true≢false (sym l ∙ ap is_some (object_new acts.Idle log))

both : (a b : Bool) → (a && b) ≡ true → (a ≡ true) × (b ≡ true)
both true true h = (refl, refl)
both true false h = cc
both false b h = cc

not_both : (a : Bool) → a ≡ true → not a ≡ true → ⊥
not_both true h k = cc
not_both false h k = cc

unless_true : (b : Bool) → (b ≡ true → ⊥) → not b ≡ true
unless_true true h = absurd (h refl)
unless_true false h = refl

stays_kept : (act : Act) (log : List Act) (n : ℕ) (m : Made) → IsHistory log → n ≡ next log →
    alive (cleaned act log ∷ log) m.label ≡ true →
    peer_of (cleaned act log ∷ log) m.label ≡ Some m.peer → not (lets_go act n m) ≡ true
stays_kept (acts.Drop y) log n m i w l o =
    unless_true (is_object y m)
    (λ h.
    (let t = both (y == m.label) (not (m.peer == m.label)) h in
    let s : y ≡ m.label = eqb-true y m.label t.0 in
    let p : m.peer ≡ m.label =
    drop_keeps (is_live (acts.Drop m.label) log) m.label log m.peer i refl
    (ap (λ z. alive (cleaned (acts.Drop z) log ∷ log) m.label) (sym s) ∙ l)
    (ap (λ z. peer_of (cleaned (acts.Drop z) log ∷ log) m.label) (sym s) ∙ o) in
    not_both (m.peer == m.label) (eq-eqb m.peer m.label p) t.1))
stays_kept (acts.Gone p why) log n m i w l o =
    unless_true (m.peer == p)
    (λ h.
    (let s : m.peer ≡ p = eqb-true m.peer p h in
    let lives : is_peer (cleaned (acts.Gone p why) log ∷ log) m.peer ≡ true =
    owner_lives (cleaned (acts.Gone p why) log ∷ log) m.label m.peer (cleaned_again (acts.Gone p why) log, i) o in
    end_keeps (is_live (acts.Gone p why) log) p why log i refl
    (ap (is_peer (cleaned (acts.Gone p why) log ∷ log)) (sym s) ∙ lives)))
stays_kept (acts.Sync q) log n m i w l o =
    unless_true (is_object n m)
    (λ h.
    (let t = both (n == m.label) (not (m.peer == m.label)) h in
    let s : next log ≡ m.label = sym w ∙ eqb-true n m.label t.0 in
    sync_dead (is_live (acts.Sync q) log) q log
    (ap (alive (cleaned (acts.Sync q) log ∷ log)) s ∙ l)))
stays_kept _ log n m i w l o = refl

-- ---- what is kept of a journal

none_kept : (journal : List Entry) (x : ℕ) → made_as (past_of journal).made x ≡ None →
    made_as (kept_of journal) x ≡ None
none_kept journal x e =
    none_in (kept_of journal) x
    (λ m i s.
    (let known = (sound journal m (kept_in journal m i)).known in
    let d : None ≡ Some m = sym e ∙ ap (made_as (past_of journal).made) (sym s) ∙ known in
    none-some m d))

-- what is alive after a journal is found in what is kept of it
kept_found : (journal : List Entry) (x : ℕ) → alive (log_of (past_of journal)) x ≡ true →
    made_as (kept_of journal) x ≡ made_as (past_of journal).made x
kept_found [] x l = refl
kept_found (e ∷ older) x l =
    test_found (λ (m : Made). not (lets_go (act_at e older) (length older + 1) m)) (made_at e older ++ kept_of older) x
    stays
    ∙ behind (made_at e older) (kept_of older) (past_of older).made x (was (kept_found older x))
  where
    log : List Act
    log = log_of (past_of older)

    stays : (m : Made) → IsIn (made_at e older ++ kept_of older) m → m.label ≡ x →
        not (lets_go (act_at e older) (length older + 1) m) ≡ true
    stays m i s =
        let among : IsIn (past_of (e ∷ older)).made m =
        in_either (made_at e older) (kept_of older) (past_of older).made m (kept_in older m) i in
        let lives : alive (act_now e older ∷ log) m.label ≡ true = ap (alive (act_now e older ∷ log)) s ∙ l in
        stays_kept (act_at e older) log (length older + 1) m (history_is (resolve older))
        (ap (λ k. k + 1) (sym (length_log older))) lives ((sound (e ∷ older) m among).own lives)

    was : (alive log x ≡ true → made_as (kept_of older) x ≡ made_as (past_of older).made x) →
        made_as (kept_of older) x ≡ made_as (past_of older).made x
    was f =
        elim (cases_lt (length log) x) [
          | inl beyond ↦ (
              let w : x ≤ length (act_now e older ∷ log) = alive_within (act_now e older ∷ log) x l in
              let long = length_log older in
              let none : made_as (past_of older).made x ≡ None = beyond_none older x (omega arith) in
              none_kept older x none ∙ sym none)
          | inr within ↦ f (lived (act_now e older) log x within l)
        ]

pub kept_enough : KeptIsEnough
kept_enough e older = record {
  shell = same 0 (none_kept older 0 (zero_none older) ∙ sym (zero_none older));
  living = finds;
}
  where
    log : List Act
    log = log_of (past_of older)

    same : (x : ℕ) → made_as (kept_of older) x ≡ made_as (past_of older).made x →
        made_as (made_at e older ++ kept_of older) x ≡ made_as (made_at e older ++ (past_of older).made) x
    same x h = behind (made_at e older) (kept_of older) (past_of older).made x h

    finds : (x : ℕ) → IsLiving log x →
        made_as (made_at e older ++ kept_of older) x ≡ made_as (made_at e older ++ (past_of older).made) x
    finds x (inl l) = same x (kept_found older x l)
    finds x (inr n) =
        let none : made_as (past_of older).made x ≡ None =
        beyond_none older x (n ∙ ap (λ k. k + 1) (length_log older)) in
        same x (none_kept older x none ∙ sym none)
