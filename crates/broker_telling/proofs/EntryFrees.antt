-- What each entry frees of a peer's ids.
use Rattle.std.proofs.Common.{◌≡◌, ℕ, ◌+◌, ◌≤◌, List, [], ◌∷◌, ◌++◌, length, Bool, true, false, Option, Some, None, refl, sym, ap, subst, ◌∙◌, arith, inl, inr, ◌⊎◌}
use Rattle.std.specs.Prelude.{◌==◌, ◌&&◌, if◌then◌else◌, is_some}
use Rattle.std.proofs.lemmas.Bool.{eq-eqb, eqb-true, true≢false}
use Rattle.std.proofs.lemmas.Option.{same_Some}
use Rattle.relay_model.specs.declared.act.Act.{Act}
use Rattle.relay_model.specs.declared.act.Act.TheVariants as acts
use Rattle.relay_model.specs.declared.role.Role.{Role}
use Rattle.relay_model.specs.declared.said.Said.TheVariants as said
use Rattle.relay_model.specs.Objects.{next, alive, is_peer, peer_of}
use Rattle.relay_model.specs.Idle.{is_live}
use Rattle.relay_model.specs.Told.{to, own, deleted}
use Rattle.relay_model.proofs.ObjectLaws.{object_new}
use Rattle.broker_model.specs.declared.journal.Entry.{Entry}
use Rattle.broker_model.specs.declared.journal.Entry.TheVariants as entries
use Rattle.broker_model.specs.Ids.{Made, named, made_as}
use Rattle.broker_model.specs.Requests.{Argument, new_of}
use Rattle.broker_model.specs.Resolve.{Meaning, made_new, means, past_of}
use Rattle.broker_model.specs.Out.{act_at, act_now}
use Rattle.broker_model.proofs.IdsAreNames.{IsIn, IsFound}
use Rattle.broker_model.proofs.LivePeersJoined.{length_log}
use Rattle.broker_model.proofs.MadeObjectsStand.{sound}
use Rattle.broker_model.proofs.TablesNameObjects.{IsBefore, IsSpared, lasts_made, other_goes, dead_now, before}
use Rattle.broker_telling.specs.Streams.{heard_of, times_freed}
use Rattle.broker_telling.proofs.DeletesLast.{is_freeing}
use Rattle.broker_telling.proofs.HeardInTurn.{events_of}
use Rattle.broker_telling.proofs.IdsInOrder.{none_alive}
use Rattle.broker_telling.proofs.RequestsMake.{IsAsked, EntryKind, Plain, Joins, Asks, kind_of, asked_found, sender_lives, asked_drop, asked_sync, asked_lives}
use Rattle.broker_telling.proofs.IdsFreed.{freed_at, own_freed, none_freed, delete_freed, last_freed}
use Rattle.broker_telling.proofs.EntryOrdered.{new_at, log_at, one_new, same_new, Frees}

in_older : (new made : List Made) (m : Made) → IsIn made m → IsIn (new ++ made) m
in_older [] made m i = i
in_older (x ∷ new) made m i = inr (in_older new made m i)

in_front : (new made : List Made) (m : Made) → IsIn new m → IsIn (new ++ made) m
in_front [] made m i = absurd i
in_front (x ∷ new) made m (inl e) = inl e
in_front (x ∷ new) made m (inr i) = inr (in_front new made m i)

abbrev one_if : Bool → Bool → ℕ
one_if a b = if a && b then 1 else 0

zero_unless : (a b : Bool) → (a ≡ true → b ≡ true → ⊥) → one_if a b ≡ 0
zero_unless true true h = absurd (h refl refl)
zero_unless true false h = refl
zero_unless false b h = refl

one_where : (a b : Bool) → a ≡ true → b ≡ true → one_if a b ≡ 1
one_where a b h k = rw (h, k) refl

-- what an act spares of a peer that lives on
spared : (log : List Act) (made : List Made) (act : Act) (p x : ℕ) → IsBefore log made act p →
    ((y : ℕ) → act ≡ acts.Drop y → (y == x) ≡ false) → IsSpared p x act
spared log made (acts.Drop y) p x b h = h y refl
spared log made (acts.Gone q cause) p x b h = other_goes log made q p cause b
spared log made _ p x b h = tt

-- of a peer that lives on, only what is dropped dies
dies_dropped : (e : Entry) (older : List Entry) (p : ℕ) (m : Made) → p ≤ length older →
    IsIn (past_of older).made m → m.peer ≡ p → alive (log_at older) m.label ≡ true →
    alive (log_at (e ∷ older)) m.label ≡ false → is_peer (log_at (e ∷ older)) p ≡ true →
    ((y : ℕ) → act_now e older ≡ acts.Drop y → (y == m.label) ≡ false) → ⊥
dies_dropped e older p m known i q l d lives h =
    let b : IsBefore (log_at older) (past_of older).made (act_now e older) p = before e older p lives known in
    true≢false (sym l
    ∙ sym (lasts_made (log_at older) (past_of older).made (act_now e older) p m b i q
    (spared (log_at older) (past_of older).made (act_now e older) p m.label b h)) ∙ d)

-- ---- an act that frees nothing

keeps_frees : (capacity : ℕ) (e : Entry) (older : List Entry) (p : ℕ) → p ≤ length older →
    is_freeing (act_now e older) ≡ false →
    ((m : Made) → IsIn (new_at e older) m → m.peer ≡ p → alive (log_at (e ∷ older)) m.label ≡ true) →
    Frees capacity e older p
keeps_frees capacity e older p known h lives = record {
  lasting = λ m i q a l. none_freed e older p m.id h;
  new_living = λ m i q l. none_freed e older p m.id h;
  new_dead = λ m i q d. absurd (true≢false (sym (lives m i q) ∙ d));
  dying = λ m i q l d alive-is.
      absurd (dies_dropped e older p m known i q l d alive-is
      (λ y is. absurd (let no_drop : true ≡ false = ap is_freeing (sym is) ∙ h in cc)));
  nothing = λ id free differs. none_freed e older p id h;
}

-- ---- a drop

module _ (capacity : ℕ) (e : Entry) (older : List Entry) (p k y : ℕ) (x : Made) (known : p ≤ length older)
    (is : act_now e older ≡ acts.Drop y) (among : IsIn (past_of older).made x) (label : x.label ≡ y)
    (mine : x.peer ≡ k) (lives : alive (log_at older) x.label ≡ true) (peer : is_peer (log_at older) k ≡ true)
    (none : new_at e older ≡ []) where
  abbrev made : List Made
  made = (past_of older).made

  drop_freed : (id : ℕ) → freed_at e older p id ≡ (if (k == p) && (x.id == id) then 1 else 0)
  drop_freed id =
      let all : List Made = (past_of (e ∷ older)).made in
      let owner : peer_of (log_at older) y ≡ Some k =
      ap (peer_of (log_at older)) (sym label) ∙ (sound older x among).own lives ∙ ap Some mine in
      own_freed all p id (act_now e older) (log_at older)
      ∙ ap (λ (a : Act). times_freed id (events_of (heard_of all p (own a (log_at older))))) is
      ∙ ap (λ (o : Option ℕ). times_freed id (events_of (heard_of all p (deleted y o)))) owner
      ∙ delete_freed e older p id k y x peer
      (ap (made_as all) (sym label) ∙ (sound (e ∷ older) x (in_older (new_at e older) made x among)).known)

  same_one : (m : Made) → IsIn made m → m.peer ≡ p → alive (log_at older) m.label ≡ true → k ≡ p → x.id ≡ m.id →
      x ≡ m
  same_one m i q l kp id =
      same_Some x m (sym ((sound older x among).names lives)
      ∙ ap (λ j. named (log_at older) made j x.id) (mine ∙ kp ∙ sym q)
      ∙ ap (named (log_at older) made m.peer) id ∙ (sound older m i).names l)

  drop_frees : Frees capacity e older p
  drop_frees = record {
    lasting = λ m i q a l.
        drop_freed m.id
        ∙ zero_unless (k == p) (x.id == m.id) (λ s t.
        let one : x ≡ m = same_one m i q a (eqb-true k p s) (eqb-true x.id m.id t) in
        let long : length (log_at older) ≡ length older = length_log older in
        let within = (sound older x among).within in
        true≢false (sym l
        ∙ ap (λ (u : Made). alive (log_at (e ∷ older)) u.label) (sym one)
        ∙ ap (λ n. alive (log_at (e ∷ older)) n) label
        ∙ ap (λ (a : Act). alive (a ∷ log_at older) y) is
        ∙ dead_now (log_at older) y (omega arith)));
    new_living = λ m i q l. absurd (subst (λ (n : List Made). IsIn n m) none i);
    new_dead = λ m i q d. absurd (subst (λ (n : List Made). IsIn n m) none i);
    dying = λ m i q l d alive-is. (
      by (y == m.label) m refl i q l d alive-is,
      none,
    );
    nothing = λ id free differs.
        drop_freed id
        ∙ zero_unless (k == p) (x.id == id) (λ s t.
        none_alive (log_at older) made p id x free among (mine ∙ eqb-true k p s) (eqb-true x.id id t) lives);
  }
    where
      by : (b : Bool) → (m : Made) → (y == m.label) ≡ b → IsIn made m → m.peer ≡ p → alive (log_at older) m.label ≡ true →
          alive (log_at (e ∷ older)) m.label ≡ false → is_peer (log_at (e ∷ older)) p ≡ true →
          freed_at e older p m.id ≡ 1
      by true m s i q l d alive-is =
          let known-x = (sound older x among).known in
          let known-m = (sound older m i).known in
          let one : x ≡ m =
          same_Some x m (sym known-x ∙ ap (made_as made) (label ∙ eqb-true y m.label s) ∙ known-m) in
          drop_freed m.id
          ∙ one_where (k == p) (x.id == m.id)
          (eq-eqb k p (sym mine ∙ ap (λ (u : Made). u.peer) one ∙ q))
          (eq-eqb x.id m.id (ap (λ (u : Made). u.id) one))
      by false m s i q l d alive-is =
          absurd (dies_dropped e older p m known i q l d alive-is (λ z h.
          let zy : acts.Drop y ≡ acts.Drop z = sym is ∙ h in
          let yz : y ≡ z = cc in
          ap (λ n. n == m.label) (sym yz) ∙ s))

-- ---- a sync

module _ (capacity : ℕ) (e : Entry) (older : List Entry) (p k : ℕ) (x : Made) (known : p ≤ length older)
    (is : act_now e older ≡ acts.Sync k) (peer : is_peer (log_at older) k ≡ true) (mine : x.peer ≡ k)
    (one : new_at e older ≡ x ∷ []) where
  sync_made : List Made
  sync_made = (past_of older).made

  new_in : IsIn (new_at e older) x
  new_in = subst (λ (n : List Made). IsIn n x) (sym one) (inl refl)

  sync_freed : (id : ℕ) → freed_at e older p id ≡ (if (k == p) && (x.id == id) then 1 else 0)
  sync_freed id =
      let all : List Made = (past_of (e ∷ older)).made in
      let n : ℕ = next (log_at older) in
      let long : length (log_at older) ≡ length older = length_log older in
      let label : x.label ≡ n = (one_new e older x new_in).0 ∙ (let same : length older + 1
      ≡ length (log_at older) + 1 = omega arith in same) in
      own_freed all p id (act_now e older) (log_at older)
      ∙ ap (λ (a : Act). times_freed id (events_of (heard_of all p (own a (log_at older))))) is
      ∙ last_freed all p id (to n (said.CallbackDone 0) ∷ []) (to k (said.DeleteId n) ∷ []) (refl, tt)
      ∙ delete_freed e older p id k n x peer
      (ap (made_as all) (sym label)
      ∙ (sound (e ∷ older) x (in_front (new_at e older) (past_of older).made x new_in)).known)

  callback_dead : alive (log_at (e ∷ older)) x.label ≡ false
  callback_dead =
      let long : length (log_at older) ≡ length older = length_log older in
      ap (alive (log_at (e ∷ older))) ((one_new e older x new_in).0 ∙ (let same : length older + 1
      ≡ length (log_at older) + 1 = omega arith in same))
      ∙ ap (λ (a : Act). alive (a ∷ log_at older) (length (log_at older) + 1)) is
      ∙ ap is_some (object_new (acts.Sync k) (log_at older))

  pub sync_frees : Frees capacity e older p
  sync_frees = record {
    lasting = λ m i q a l.
        sync_freed m.id
        ∙ zero_unless (k == p) (x.id == m.id) (λ s t.
        none_alive (log_at older) (past_of older).made x.peer x.id m (one_new e older x new_in).1 i
        (q ∙ sym (mine ∙ eqb-true k p s)) (sym (eqb-true x.id m.id t)) a);
    new_living = λ m i q l.
        absurd (true≢false (sym l ∙ ap (λ (u : Made). alive (log_at (e ∷ older)) u.label)
        (sym (same_new e older x m new_in i)) ∙ callback_dead));
    new_dead = λ m i q d.
        (let same : x ≡ m = same_new e older x m new_in i in
        sync_freed m.id
        ∙ one_where (k == p) (x.id == m.id)
        (eq-eqb k p (sym mine ∙ ap (λ (u : Made). u.peer) same ∙ q))
        (eq-eqb x.id m.id (ap (λ (u : Made). u.id) same)));
    dying = λ m i q l d alive-is.
        absurd (dies_dropped e older p m known i q l d alive-is (λ y h.
        let no_drop : acts.Sync k ≡ acts.Drop y = sym is ∙ h in cc));
    nothing = λ id free differs.
        sync_freed id
        ∙ zero_unless (k == p) (x.id == id) (λ s t.
        differs x new_in (mine ∙ eqb-true k p s) (eqb-true x.id id t));
  }

-- ---- each entry

act_is : (act : Act) → (is_freeing act ≡ false) ⊎ (((y : ℕ) × (act ≡ acts.Drop y)) ⊎ ((k : ℕ) × (act ≡ acts.Sync k)))
act_is (acts.Drop y) = inr (inl (y, refl))
act_is (acts.Sync k) = inr (inr (k, refl))
act_is _ = inl refl

now_plain : (e : Entry) (older : List Entry) → is_freeing (act_at e older) ≡ false →
    is_freeing (act_now e older) ≡ false
now_plain e older h = by (is_live (act_at e older) (log_at older))
  where
    by : (b : Bool) → is_freeing (if b then act_at e older else acts.Idle) ≡ false
    by true = h
    by false = refl

module _ (capacity : ℕ) (older : List Entry) (p q id opcode : ℕ) (body : List ℕ) (known : p ≤ length older)
    (a : IsAsked older q id body opcode
    (means (entries.Message q id opcode body) (length older + 1) (past_of older))) where
  abbrev asking : Entry
  asking = entries.Message q id opcode body

  made_is : (o : Option Argument) → new_of a.m.interface a.m.opcode a.m.values ≡ o →
      new_at (entries.Message q id opcode body) older ≡ made_new a.peer.label (length older + 1) o
  made_is o e = ap (λ (m : Meaning). m.made) a.is ∙ ap (made_new a.peer.label (length older + 1)) e

  plain_asked : is_freeing (act_at (entries.Message q id opcode body) older) ≡ false →
      Frees capacity (entries.Message q id opcode body) older p
  plain_asked h =
      keeps_frees capacity asking older p known (now_plain asking older h)
      (λ m i r. lives m i (new_of a.m.interface a.m.opcode a.m.values) refl)
    where
      lives : (m : Made) → IsIn (new_at (entries.Message q id opcode body) older) m → (o : Option Argument) →
          new_of a.m.interface a.m.opcode a.m.values ≡ o →
          alive (log_at (entries.Message q id opcode body ∷ older)) m.label ≡ true
      lives m i None e = absurd (subst (λ (n : List Made). IsIn n m) (made_is None e) i)
      lives m i (Some new) e =
          ap (alive (log_at (asking ∷ older))) (one_new asking older m i).0
          ∙ asked_lives older q id opcode body a new e h

  drop_asked : (y : ℕ) → act_at (entries.Message q id opcode body) older ≡ acts.Drop y →
      Frees capacity (entries.Message q id opcode body) older p
  drop_asked y d = by (is_live (act_at asking older) (log_at older)) refl
    where
      drop : (a.x.label ≡ y) × (new_of a.m.interface a.m.opcode a.m.values ≡ None)
      drop = asked_drop older q id opcode body a y d

      none : new_at (entries.Message q id opcode body) older ≡ []
      none = made_is None drop.1

      by : (b : Bool) → is_live (act_at (entries.Message q id opcode body) older) (log_at older) ≡ b →
          Frees capacity (entries.Message q id opcode body) older p
      by true l =
          let f : IsFound (log_at older) (past_of older).made a.peer.label id a.x =
          asked_found older q id opcode body a in
          drop_frees capacity asking older p a.peer.label y a.x known
          (ap (λ (b : Bool). if b then act_at asking older else acts.Idle) l ∙ d) f.among drop.0 f.peer f.lives
          (sender_lives older q id opcode body a) none
      by false l =
          keeps_frees capacity asking older p known
          (ap (λ (b : Bool). is_freeing (if b then act_at asking older else acts.Idle)) l)
          (λ m i r. absurd (subst (λ (n : List Made). IsIn n m) none i))

  sync_asked : (k : ℕ) → act_at (entries.Message q id opcode body) older ≡ acts.Sync k →
      Frees capacity (entries.Message q id opcode body) older p
  sync_asked k d =
      let s = asked_sync older q id opcode body a k d in
      let peer : is_peer (log_at older) k ≡ true =
      ap (is_peer (log_at older)) s.2 ∙ sender_lives older q id opcode body a in
      let live : is_live (act_at asking older) (log_at older) ≡ true =
      ap (λ (x : Act). is_live x (log_at older)) d ∙ peer in
      sync_frees capacity asking older p k
      (record {
        peer = a.peer.label;
        id = s.0.id;
        label = length older + 1;
        interface = s.0.interface;
      }) known
      (ap (λ (b : Bool). if b then act_at asking older else acts.Idle) live ∙ d) peer (sym s.2) (made_is (Some s.0) s.1)

  asked_frees : Frees capacity (entries.Message q id opcode body) older p
  asked_frees = by (act_is (act_at asking older))
    where
      by : (is_freeing (act_at (entries.Message q id opcode body) older) ≡ false)
          ⊎ (((y : ℕ) × (act_at (entries.Message q id opcode body) older ≡ acts.Drop y))
          ⊎ ((k : ℕ) × (act_at (entries.Message q id opcode body) older ≡ acts.Sync k))) →
          Frees capacity (entries.Message q id opcode body) older p
      by (inl h) = plain_asked h
      by (inr (inl d)) = drop_asked d.0 d.1
      by (inr (inr d)) = sync_asked d.0 d.1

pub entry_frees : (capacity : ℕ) (e : Entry) (older : List Entry) (p : ℕ) → p ≤ length older →
    Frees capacity e older p
entry_frees capacity e older p known = by (kind_of e older)
  where
    by : EntryKind e older → Frees capacity e older p
    by (Plain h) =
        keeps_frees capacity e older p known (now_plain e older h.1)
        (λ m i q. absurd (subst (λ (n : List Made). IsIn n m) h.0 i))
    by (Joins role is) =
        subst (λ (x : Entry). Frees capacity x older p) (sym is)
        (keeps_frees capacity (entries.Join role) older p known refl (λ m i q. absurd (new_peer role m i q)))
      where
        new_peer : (role : Role) (m : Made) → IsIn (new_at (entries.Join role) older) m → m.peer ≡ p → ⊥
        new_peer role m (inl same) q =
            (let n : length older + 1 ≡ m.peer = ap (λ (u : Made). u.peer) same in absurd (omega arith))
        new_peer role m (inr i) q = absurd i
    by (Asks q id opcode body is a) =
        subst (λ (x : Entry). Frees capacity x older p) (sym is)
        (asked_frees capacity older p q id opcode body known
        (subst (λ (x : Entry). IsAsked older q id body opcode (means x (length older + 1) (past_of older))) is a))
