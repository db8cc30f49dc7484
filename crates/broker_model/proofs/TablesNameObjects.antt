-- A peer's table names what the journal names.
use Rattle.std.proofs.Common.{◌≡◌, ℕ, ◌+◌, ◌<◌, ◌≤◌, List, [], ◌∷◌, ◌++◌, length, Bool, true, false, Option, Some, None, ap, refl, sym, ◌∙◌, subst, arith, inl, inr}
use Rattle.std.specs.Prelude.{◌==◌, ◌&&◌, not, if◌then◌else◌, is_some}
use Rattle.std.specs.Option.{option_map}
use Rattle.std.proofs.lemmas.Bool.{ne_eqb, eq-eqb, eqb-true, true≢false, cases_lt}
use Rattle.std.proofs.lemmas.Option.{same_Some}
use Rattle.im_objects.specs.Calls.{Call, object_under}
use Rattle.im_objects.specs.Calls.Call.{Make, Drop}
use Rattle.relay_model.specs.declared.act.Act.{Act}
use Rattle.relay_model.specs.declared.act.Act.TheVariants as acts
use Rattle.relay_model.specs.Objects.{Object, is_at, is_kind, is_peer_kind, is_peer, owner, remains, object, alive, peer_of}
use Rattle.relay_model.specs.Idle.{cleaned}
use Rattle.relay_model.proofs.ActsOrIdle.{IsHistory, history_is, live, cleaned_again}
use Rattle.relay_model.proofs.ObjectLaws.{object_step, kind_alive, kind_within}
use Rattle.broker_model.specs.declared.journal.Entry.{Entry}
use Rattle.broker_model.specs.Ids.{Made, log_of, named, object_at, made_as}
use Rattle.broker_model.specs.Resolve.{means, past_of, resolve}
use Rattle.broker_model.specs.Out.{act_at, act_now}
use Rattle.broker_model.specs.Tables.{make_calls, drop_call, drop_calls, calls_for, object_of, FoundById}
use Rattle.broker_model.proofs.OwnersLive.{own_peer}
use Rattle.broker_model.proofs.LivePeersJoined.{length_log, still_peer}
use Rattle.broker_model.proofs.IdsAreNames.{IsIn, IsFound, found, IsWith, made_with, named_same}
use Rattle.broker_model.proofs.MadeAtMostOne.{AreSound, nothing_yet}
use Rattle.broker_model.proofs.MadeObjectsStand.{lived, sound, display_of, displayed}

pub eq_flip : (a b : ℕ) → (a == b) ≡ (b == a)
eq_flip a b = grind arith

-- what is new under ids

pub find_new : (log : List Act) (p : ℕ) (new made : List Made) (calls : List Call) (id : ℕ) →
    object_under calls id ≡ option_map object_of (named log made p id) →
    object_under (make_calls log p new ++ calls) id ≡ option_map object_of (named log (new ++ made) p id)
find_new log p [] made calls id h = h
find_new log p (m ∷ new) made calls id h =
    by (m.peer == p) (alive log m.label) (id == m.id) refl (eq_flip m.id id) (find_new log p new made calls id h)
  where
    by : (c a d : Bool) → (id == m.id) ≡ d → (m.id == id) ≡ (id == m.id) →
        object_under (make_calls log p new ++ calls) id ≡ option_map object_of (named log (new ++ made) p id) →
        object_under
        ((if c && a then Make m.id m.interface m.label ∷ make_calls log p new else make_calls log p new) ++ calls) id
        ≡ option_map object_of (if c && (m.id == id) && a then Some m else named log (new ++ made) p id)
    by true true true q f k = rw (f, q) refl
    by true true false q f k = rw (f, q) k
    by true false true q f k = rw (f, q) k
    by true false false q f k = rw (f, q) k
    by false a d q f k = k

-- before an act that leaves the peer p alive
pub record IsBefore (log : List Act) (made : List Made) (act : Act) (p : ℕ) : Type 0 where
  pub all : AreSound log made (length log)
  pub past : IsHistory log
  pub is : cleaned act log ≡ act
  pub peer : is_peer log p ≡ true
  pub stays : is_peer (act ∷ log) p ≡ true
  pub display : IsIn made (display_of p)

-- the act leaves an object x of the peer p
abbrev pub IsSpared : (p x : ℕ) → Act → Type 0
IsSpared p x (acts.Drop y) = (y == x) ≡ false
IsSpared p x (acts.Gone q cause) = (p == q) ≡ false
IsSpared p x _ = Unit {0}

left : (act : Act) (x : ℕ) (o : Option Object) (p : ℕ) → (is_some o ≡ true → owner o ≡ Some p) → IsSpared p x act →
    is_some (remains act x o) ≡ is_some o
left (acts.Drop y) x o p h s = rw s refl
left (acts.Gone q cause) x None p h s = refl
left (acts.Gone q cause) x (Some o) p h s =
    let own : o.peer ≡ p = same_Some o.peer p (h refl) in
    rw (own, s) refl
left _ x o p h s = refl

pub lasts : (act : Act) (log : List Act) (x p : ℕ) → x ≤ length log → (alive log x ≡ true → peer_of log x ≡ Some p) →
    IsSpared p x act →
    alive (act ∷ log) x ≡ alive log x
lasts act log x p w h s = ap is_some (object_step act log x w) ∙ left act x (object log x) p h s

pub lasts_made : (log : List Act) (made : List Made) (act : Act) (p : ℕ) (m : Made) → IsBefore log made act p →
    IsIn made m → m.peer ≡ p →
    IsSpared p m.label act → alive (act ∷ log) m.label ≡ alive log m.label
lasts_made log made act p m b i e s = lasts act log m.label p (b.all m i).within (λ l. (b.all m i).own l ∙ ap Some e) s

same_named : (log : List Act) (made : List Made) (act : Act) (p id : ℕ) → IsBefore log made act p →
    ((m : Made) → IsIn made m → m.peer ≡ p → m.id ≡ id → IsSpared p m.label act) →
    named (act ∷ log) made p id ≡ named log made p id
same_named log made act p id b s =
    named_same log (act ∷ log) made p id (λ m i e d. lasts_made log made act p m b i e (s m i e d))

-- a peer that stays isn't the one that goes
spared_gone : (b : Bool) (o : Option Object) (q p : ℕ) → is_at (owner o) q ≡ b → owner o ≡ Some p →
    is_kind is_peer_kind (if b then None else o) ≡ true → (p == q) ≡ false
spared_gone true o q p e w l = cc
spared_gone false o q p e w l = sym (ap (λ x. is_at x q) w) ∙ e

pub other_goes : (log : List Act) (made : List Made) (q p : ℕ) (cause : _) → IsBefore log made (acts.Gone q cause) p →
    (p == q) ≡ false
other_goes log made q p cause b =
    let w : p ≤ length log = kind_within is_peer_kind log p b.peer in
    spared_gone (is_at (peer_of log p) q) (object log p) q p refl (own_peer log p b.past b.peer)
    (sym (ap (is_kind is_peer_kind) (object_step (acts.Gone q cause) log p w)) ∙ b.stays)

-- an object of the peer that is dropped
pub record IsDropped (log : List Act) (made : List Made) (x p : ℕ) (m : Made) : Type 0 where
  pub among : IsIn made m
  pub labelled : m.label ≡ x
  pub lives : alive log x ≡ true
  pub other : (x == p) ≡ false
  pub names : named log made p m.id ≡ Some m
  pub not_first : (m.id == 1) ≡ false

and_both : (a b : Bool) → (a && not b) ≡ true → (a ≡ true) × (b ≡ false)
and_both true true h = cc
and_both true false h = (refl, refl)
and_both false b h = cc

pub dropped : (log : List Act) (made : List Made) (x p : ℕ) (m : Made) → IsBefore log made (acts.Drop x) p →
    made_as made x ≡ Some m → m.peer ≡ p →
    IsDropped log made x p m
dropped log made x p m b e o =
    let w : IsWith made x m = made_with made x m e in
    let l : (alive log x ≡ true) × (is_peer log x ≡ false) = and_both _ _ (live (acts.Drop x) log b.is (λ d. cc)) in
    let here : alive log m.label ≡ true = ap (alive log) w.named ∙ l.0 in
    let names : named log made p m.id ≡ Some m =
    ap (λ (y : ℕ). named log made y m.id) (sym o) ∙ (b.all m w.among).names here in
    let shows : named log made p 1 ≡ Some (display_of p) =
    (b.all (display_of p) b.display).names (kind_alive is_peer_kind log p b.peer) in
    record {
      among = w.among;
      labelled = w.named;
      lives = l.0;
      other = ne_eqb x p (λ d. true≢false (sym b.peer ∙ ap (is_peer log) (sym d) ∙ l.1));
      names = names;
      not_first = ne_eqb m.id 1
          (λ d.
          (let s : m ≡ display_of p = same_Some m (display_of p) (sym names ∙ ap (named log made p) d ∙ shows) in
          let t : x ≡ p = sym w.named ∙ ap (λ (u : Made). u.label) s in
          true≢false (sym b.peer ∙ ap (is_peer log) (sym t) ∙ l.1)));
    }

pub dead_now : (log : List Act) (x : ℕ) → x ≤ length log → alive (acts.Drop x ∷ log) x ≡ false
dead_now log x w =
    ap is_some (object_step (acts.Drop x) log x w)
    ∙ ap (λ (c : Bool). is_some (if c then None else object log x)) (eq-eqb x x refl)

-- nothing is under the id of what was dropped
nothing_left : (log : List Act) (made : List Made) (x p : ℕ) (m : Made) → IsBefore log made (acts.Drop x) p →
    IsDropped log made x p m →
    (o : Option Made) → named (acts.Drop x ∷ log) made p m.id ≡ o → o ≡ None
nothing_left log made x p m b d None e = refl
nothing_left log made x p m b d (Some n) e =
    let f : IsFound (acts.Drop x ∷ log) made p m.id n = found (acts.Drop x ∷ log) made p m.id n e in
    let w : n.label ≤ length log = (b.all n f.among).within in
    let was : alive log n.label ≡ true = lived (acts.Drop x) log n.label w f.lives in
    let names : named log made n.peer n.id ≡ Some n = (b.all n f.among).names was in
    let here : named log made p m.id ≡ Some n = (λ k. named log made (sym f.peer k) (sym f.under k)) ∙ names in
    let s : m ≡ n = same_Some m n (sym d.names ∙ here) in
    let t : n.label ≡ x = ap (λ (u : Made). u.label) (sym s) ∙ d.labelled in
    absurd (true≢false
    (sym f.lives ∙ ap (alive (acts.Drop x ∷ log)) t ∙ dead_now log x (subst (λ (y : ℕ). y ≤ length log) t w)))

-- what is found once an object of the peer was dropped
find_dropped : (log : List Act) (made : List Made) (x p id : ℕ) (m : Made) (calls : List Call) →
    IsBefore log made (acts.Drop x) p → IsDropped log made x p m →
    made_as made x ≡ Some m → object_under calls id ≡ option_map object_of (named log made p id) →
    (c : Bool) → (id == m.id) ≡ c →
    (if not (m.id == 1) && c then None else object_under calls id)
    ≡ option_map object_of (named (acts.Drop x ∷ log) made p id)
find_dropped log made x p id m calls b d e h true q =
    let s : id ≡ m.id = eqb-true id m.id q in
    let gone : named (acts.Drop x ∷ log) made p id ≡ None =
    ap (named (acts.Drop x ∷ log) made p) s
    ∙ nothing_left log made x p m b d (named (acts.Drop x ∷ log) made p m.id) refl in
    rw (d.not_first, gone) refl
find_dropped log made x p id m calls b d e h false q =
    let far : (n : Made) → IsIn made n → n.peer ≡ p → n.id ≡ id → (x == n.label) ≡ false =
    (λ n i o u. ne_eqb x n.label
    (λ t.
    (let s : n ≡ m = same_Some n m (sym (b.all n i).known ∙ ap (made_as made) (sym t) ∙ e) in
    let v : id ≡ m.id = sym u ∙ ap (λ (y : Made). y.id) s in
    true≢false (sym (eq-eqb id m.id v) ∙ q)))) in
    rw (d.not_first) (h ∙ ap (option_map object_of) (sym (same_named log made (acts.Drop x) p id b far)))

find_drop : (log : List Act) (made : List Made) (x p id : ℕ) (calls : List Call) → IsBefore log made (acts.Drop x) p →
    object_under calls id ≡ option_map object_of (named log made p id) →
    (o : Option Made) → made_as made x ≡ o →
    object_under (drop_call p o ++ calls) id ≡ option_map object_of (named (acts.Drop x ∷ log) made p id)
find_drop log made x p id calls b h None e =
    h ∙ ap (option_map object_of) (sym (same_named log made (acts.Drop x) p id b
    (λ n i o u. ne_eqb x n.label
    (λ t. (let s : Some n ≡ None = sym (b.all n i).known ∙ ap (made_as made) (sym t) ∙ e in cc)))))
find_drop log made x p id calls b h (Some m) e = by (m.peer == p) refl
  where
    by : (c : Bool) → (m.peer == p) ≡ c →
        object_under ((if c then Drop m.id ∷ [] else []) ++ calls) id
        ≡ option_map object_of (named (acts.Drop x ∷ log) made p id)
    by true q = find_dropped log made x p id m calls b (dropped log made x p m b e (eqb-true m.peer p q)) e h
        (id == m.id) refl
    by false q =
        h ∙ ap (option_map object_of) (sym (same_named log made (acts.Drop x) p id b
        (λ n i o u. ne_eqb x n.label
        (λ t.
        (let s : n ≡ m = same_Some n m (sym (b.all n i).known ∙ ap (made_as made) (sym t) ∙ e) in
        true≢false (sym (eq-eqb m.peer p (ap (λ (y : Made). y.peer) (sym s) ∙ o)) ∙ q))))))

-- what is found after an act, of what was made before it
pub find_old : (log : List Act) (made : List Made) (act : Act) (p id : ℕ) (calls : List Call) →
    IsBefore log made act p →
    object_under calls id ≡ option_map object_of (named log made p id) →
    object_under (drop_calls made p act ++ calls) id ≡ option_map object_of (named (act ∷ log) made p id)
find_old log made (acts.Drop x) p id calls b h = find_drop log made x p id calls b h (made_as made x) refl
find_old log made (acts.Gone q cause) p id calls b h =
    h ∙ ap (option_map object_of)
    (sym (same_named log made (acts.Gone q cause) p id b (λ m i o u. other_goes log made q p cause b)))
find_old log made act p id calls b h =
    h ∙ ap (option_map object_of) (sym (same_named log made act p id b (λ m i o u. tt)))

-- a peer that is yet to join has no calls

pub none_made : (log : List Act) (p : ℕ) (new : List Made) → ((m : Made) → IsIn new m → m.peer ≡ p → ⊥) →
    make_calls log p new ≡ []
none_made log p [] h = refl
none_made log p (m ∷ new) h = rw (ne_eqb m.peer p (h m (inl refl)), none_made log p new (λ n i. h n (inr i))) refl

none_drop : (p : ℕ) (o : Option Made) → ((m : Made) → o ≡ Some m → m.peer ≡ p → ⊥) → drop_call p o ≡ []
none_drop p None h = refl
none_drop p (Some m) h = rw (ne_eqb m.peer p (h m refl)) refl

pub none_dropped : (made : List Made) (p : ℕ) (act : Act) → ((m : Made) → IsIn made m → m.peer ≡ p → ⊥) →
    drop_calls made p act ≡ []
none_dropped made p (acts.Drop x) h = none_drop p (made_as made x) (λ m e. h m (made_with made x m e).among)
none_dropped made p _ h = refl

in_front : (new made : List Made) (m : Made) → IsIn new m → IsIn (new ++ made) m
in_front [] made m i = absurd i
in_front (x ∷ new) made m (inl e) = inl e
in_front (x ∷ new) made m (inr i) = inr (in_front new made m i)

pub stranger : (journal : List Entry) (p : ℕ) → length journal < p → (m : Made) → IsIn (past_of journal).made m →
    m.peer ≡ p → ⊥
stranger journal p l m i e = let w : m.peer ≤ length journal = (sound journal m i).joined in omega arith

pub none_called : (journal : List Entry) (p : ℕ) → length journal < p → calls_for journal p ≡ []
none_called [] p l = refl
none_called (e ∷ older) p l =
    let new : List Made = (means e (length older + 1) (past_of older)).made in
    let before : length older < p = omega arith in
    rw (
      none_made (log_of (past_of (e ∷ older))) p new
          (λ m i. stranger (e ∷ older) p l m (in_front new (past_of older).made m i)),
      none_dropped (past_of older).made p (act_now e older) (stranger older p before),
      none_called older p before,
    )
    refl

-- before the newest entry
pub before : (e : Entry) (older : List Entry) (p : ℕ) → is_peer (log_of (past_of (e ∷ older))) p ≡ true →
    p ≤ length older →
    IsBefore (log_of (past_of older)) (past_of older).made (act_now e older) p
before e older p l g =
    let log : List Act = log_of (past_of older) in
    let long : length log ≡ length older = length_log older in
    let w : p ≤ length log = omega arith in
    let peer : is_peer log p ≡ true =
    still_peer (act_now e older) p (object log p)
    (sym (ap (is_kind is_peer_kind) (object_step (act_now e older) log p w)) ∙ l) in
    record {
      all = subst (λ (n : ℕ). AreSound log (past_of older).made n) (sym long) (sound older);
      past = history_is (resolve older);
      is = cleaned_again (act_at e older) log;
      peer = peer;
      stays = l;
      display = displayed older p peer;
    }

pub find_entry : (e : Entry) (older : List Entry) (p id : ℕ) → is_peer (log_of (past_of (e ∷ older))) p ≡ true →
    (is_peer (log_of (past_of older)) p ≡ true →
    object_under (calls_for older p) id ≡ option_map object_of (object_at (past_of older) p id)) →
    object_under (drop_calls (past_of older).made p (act_now e older) ++ calls_for older p) id
    ≡ option_map object_of (named (log_of (past_of (e ∷ older))) (past_of older).made p id)
find_entry e older p id l h =
    elim (cases_lt (length older) p) [
      | inl new ↦
          rw (
            none_dropped (past_of older).made p (act_now e older) (stranger older p new),
            none_called older p new,
            nothing_yet (log_of (past_of (e ∷ older))) (past_of older).made p id (stranger older p new),
          )
          refl
      | inr old ↦
          (let b : IsBefore (log_of (past_of older)) (past_of older).made (act_now e older) p =
          before e older p l old in
          find_old (log_of (past_of older)) (past_of older).made (act_now e older) p id (calls_for older p) b
          (h b.peer))
    ]

pub found_by_id : FoundById
found_by_id [] p id l = cc
found_by_id (e ∷ older) p id l =
    find_new (log_of (past_of (e ∷ older))) p (means e (length older + 1) (past_of older)).made (past_of older).made
    (drop_calls (past_of older).made p (act_now e older) ++ calls_for older p) id
    (find_entry e older p id l (found_by_id older p id))
