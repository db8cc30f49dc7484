-- An entry keeps the order of a peer's ids.
use Rattle.std.proofs.Common.{◌≡◌, ℕ, suc, ◌+◌, ◌≤◌, List, [], ◌∷◌, ◌++◌, length, Bool, true, false, Option, Some, None, refl, sym, ap, subst, ◌∙◌, arith, inl, inr, ◌⊎◌}
use Rattle.std.specs.Prelude.{◌==◌, if◌then◌else◌}
use Rattle.std.proofs.lemmas.Bool.{eqb-true, eqb-false}
use Rattle.std.proofs.lemmas.List.{length-append}
use Rattle.relay_model.specs.declared.act.Act.{Act}
use Rattle.relay_model.specs.declared.act.Act.TheVariants as acts
use Rattle.relay_model.specs.Objects.{alive, is_peer}
use Rattle.relay_model.specs.Idle.{is_live}
use Rattle.broker_model.specs.declared.journal.Entry.{Entry}
use Rattle.broker_model.specs.Ids.{Made, log_of, named}
use Rattle.broker_model.specs.Resolve.{means, past_of}
use Rattle.broker_model.specs.Out.{act_at, act_now, out_for}
use Rattle.broker_model.proofs.IdsAreNames.{IsIn, IsFound, found}
use Rattle.broker_model.proofs.LivePeersJoined.{length_log}
use Rattle.broker_model.proofs.MadeAtMostOne.{IsOne, one_entry}
use Rattle.broker_model.proofs.MadeObjectsStand.{lived, sound}
use Rattle.broker_model.proofs.TablesNameObjects.{IsBefore, before}
use Rattle.broker_telling.specs.Streams.{made_under}
use Rattle.broker_telling.proofs.DeletesLast.{is_freeing}
use Rattle.broker_telling.proofs.IdsInOrder.{IsOrdered, moved, none_alive, new_last, new_other}
use Rattle.broker_telling.proofs.IdsFreed.{freed_in, freed_at, is_there, IsCalm, freed_put, freed_quiet, calm_put}

-- ---- what entries make, and what they free

abbrev pub new_at : Entry → List Entry → List Made
new_at e older = (means e (length older + 1) (past_of older)).made

abbrev pub log_at : List Entry → List Act
log_at journal = log_of (past_of journal)

-- of an act that isn't idle, or is
now_is : (e : Entry) (older : List Entry) → (act_now e older ≡ act_at e older) ⊎ (act_now e older ≡ acts.Idle)
now_is e older = by (is_live (act_at e older) (log_at older))
  where
    by : (b : Bool) → ((if b then act_at e older else acts.Idle) ≡ act_at e older)
        ⊎ ((if b then act_at e older else acts.Idle) ≡ acts.Idle)
    by true = inl refl
    by false = inr refl

plain_now : (e : Entry) (older : List Entry) → is_freeing (act_at e older) ≡ false →
    is_freeing (act_now e older) ≡ false
plain_now e older h = by (now_is e older)
  where
    by : (act_now e older ≡ act_at e older) ⊎ (act_now e older ≡ acts.Idle) → is_freeing (act_now e older) ≡ false
    by (inl k) = ap is_freeing k ∙ h
    by (inr k) = ap is_freeing k

pub few_new : (e : Entry) (older : List Entry) → (new_at e older ≡ []) ⊎ ((m : Made) × (new_at e older ≡ m ∷ []))
few_new e older = by (one_entry e older (sound older))
  where
    by : (new_at e older ≡ [])
        ⊎ IsOne (log_at older) (past_of older).made (length older + 1)
        (means e (length older + 1) (past_of older)).act (new_at e older) →
        (new_at e older ≡ []) ⊎ ((m : Made) × (new_at e older ≡ m ∷ []))
    by (inl z) = inl z
    by (inr o) = inr (o.one, o.is)

-- a new one, with what the model says of it
pub one_new : (e : Entry) (older : List Entry) (m : Made) → IsIn (new_at e older) m →
    (m.label ≡ length older + 1) × (named (log_at older) (past_of older).made m.peer m.id ≡ None)
one_new e older m i = by (one_entry e older (sound older))
  where
    by : (new_at e older ≡ [])
        ⊎ IsOne (log_at older) (past_of older).made (length older + 1)
        (means e (length older + 1) (past_of older)).act (new_at e older) →
        (m.label ≡ length older + 1) × (named (log_at older) (past_of older).made m.peer m.id ≡ None)
    by (inl z) = absurd (subst (λ (n : List Made). IsIn n m) z i)
    by (inr o) = one o (subst (λ (n : List Made). IsIn n m) o.is i)
      where
        one : (o : IsOne (log_at older) (past_of older).made (length older + 1)
            (means e (length older + 1) (past_of older)).act (new_at e older)) → IsIn (o.one ∷ []) m →
            (m.label ≡ length older + 1) × (named (log_at older) (past_of older).made m.peer m.id ≡ None)
        one o (inl same) = (
          ap (λ (y : Made). y.label) (sym same) ∙ o.label,
          ap (λ (y : Made). named (log_at older) (past_of older).made y.peer y.id) (sym same) ∙ o.free,
        )
        one o (inr j) = absurd j

pub same_new : (e : Entry) (older : List Entry) (a b : Made) → IsIn (new_at e older) a → IsIn (new_at e older) b → a ≡ b
same_new e older a b i j = by (few_new e older)
  where
    one : (m x : Made) → IsIn (m ∷ []) x → m ≡ x
    one m x (inl same) = same
    one m x (inr k) = absurd k

    by : (new_at e older ≡ []) ⊎ ((m : Made) × (new_at e older ≡ m ∷ [])) → a ≡ b
    by (inl z) = absurd (subst (λ (n : List Made). IsIn n a) z i)
    by (inr m) =
        sym (one m.0 a (subst (λ (n : List Made). IsIn n a) m.1 i))
        ∙ one m.0 b (subst (λ (n : List Made). IsIn n b) m.1 j)

-- ---- the peer, by the entry's facts

-- What stands before the entry: the order of the peer's ids, and, where the entry makes something of the peer's, that
-- the peer is calm, or that nothing of it was made.
pub record Stands (capacity : ℕ) (e : Entry) (older : List Entry) (p : ℕ) : Type 0 where
  pub order : IsOrdered (log_at older) (past_of older).made p (freed_in capacity older p) (IsCalm capacity older p)
  pub known : p ≤ length older
  pub makes : (m : Made) → IsIn (new_at e older) m → m.peer ≡ p → IsCalm capacity older p

-- what an entry does to the peer's ids, apart from what was always so
pub record Frees (capacity : ℕ) (e : Entry) (older : List Entry) (p : ℕ) : Type 0 where
  pub lasting : (m : Made) → IsIn (past_of older).made m → m.peer ≡ p →
      alive (log_at older) m.label ≡ true → alive (log_at (e ∷ older)) m.label ≡ true → freed_at e older p m.id ≡ 0
  pub new_living : (m : Made) → IsIn (new_at e older) m → m.peer ≡ p →
      alive (log_at (e ∷ older)) m.label ≡ true → freed_at e older p m.id ≡ 0
  pub new_dead : (m : Made) → IsIn (new_at e older) m → m.peer ≡ p →
      alive (log_at (e ∷ older)) m.label ≡ false → freed_at e older p m.id ≡ 1
  pub dying : (m : Made) → IsIn (past_of older).made m → m.peer ≡ p → alive (log_at older) m.label ≡ true →
      alive (log_at (e ∷ older)) m.label ≡ false → is_peer (log_at (e ∷ older)) p ≡ true →
      (freed_at e older p m.id ≡ 1) × (new_at e older ≡ [])
  pub nothing : (id : ℕ) → named (log_at older) (past_of older).made p id ≡ None →
      ((m : Made) → IsIn (new_at e older) m → m.peer ≡ p → m.id ≡ id → ⊥) → freed_at e older p id ≡ 0

module _ (capacity : ℕ) (e : Entry) (older : List Entry) (p : ℕ) (s : Stands capacity e older p)
    (f : Frees capacity e older p) where
  abbrev made : List Made
  made = (past_of older).made

  abbrev new : List Made
  new = new_at e older

  fresh : (m : Made) → IsIn new m → m.peer ≡ p →
      (named (log_at older) made p m.id ≡ None)
      × (length (made_under made p m.id) ≡ freed_in capacity older p m.id)
  fresh m i q =
      let o = one_new e older m i in
      let none : named (log_at older) made p m.id ≡ None =
      ap (λ k. named (log_at older) made k m.id) (sym q) ∙ o.1 in
      (none, s.order.free m.id (s.makes m i q) none)

  old : (m : Made) → IsIn made m → m.peer ≡ p → alive (log_at (e ∷ older)) m.label ≡ true →
      (alive (log_at older) m.label ≡ true) × (freed_in capacity (e ∷ older) p m.id ≡ freed_in capacity older p m.id)
  old m i q l =
      let long : length (log_at older) ≡ length older = length_log older in
      let within = (sound older m i).within in
      let a : alive (log_at older) m.label ≡ true =
      lived (act_now e older) (log_at older) m.label (omega arith) l in
      (a, freed_quiet capacity e older p m.id (f.lasting m i q a l))

  calm : (id : ℕ) → IsCalm capacity (e ∷ older) p → named (log_at (e ∷ older)) (new ++ made) p id ≡ None →
      length (made_under (new ++ made) p id) ≡ freed_in capacity (e ∷ older) p id
  calm id c none = by (named (log_at older) made p id) refl
    where
      put : (is_there capacity e older p ≡ true) × ((out_for capacity older p).choked ≡ false)
      put = calm_put capacity e older p c.1

      b : IsBefore (log_at older) made (act_now e older) p
      b = before e older p c.0 s.known

      dead_new : (m : Made) → IsIn new m → m.peer ≡ p → m.id ≡ id → alive (log_at (e ∷ older)) m.label ≡ false
      dead_new m i q r = deny (alive (log_at (e ∷ older)) m.label) refl
        where
          front : (xs ys : List Made) (x : Made) → IsIn xs x → IsIn (xs ++ ys) x
          front [] ys x j = absurd j
          front (y ∷ xs) ys x (inl same) = inl same
          front (y ∷ xs) ys x (inr j) = inr (front xs ys x j)

          deny : (d : Bool) → alive (log_at (e ∷ older)) m.label ≡ d → d ≡ false
          deny false h = refl
          deny true h = absurd (none_alive (log_at (e ∷ older)) (new ++ made) p id m none (front new made m i) q r h)

      behind : (xs ys : List Made) (x : Made) → IsIn ys x → IsIn (xs ++ ys) x
      behind [] ys x j = j
      behind (y ∷ xs) ys x j = inr (behind xs ys x j)

      -- nothing of the peer was new under the id
      same_under : ((m : Made) → IsIn new m → m.peer ≡ p → m.id ≡ id → ⊥) →
          made_under (new ++ made) p id ≡ made_under made p id
      same_under differs = which (few_new e older)
        where
          which : (new_at e older ≡ []) ⊎ ((m : Made) × (new_at e older ≡ m ∷ [])) →
              made_under (new ++ made) p id ≡ made_under made p id
          which (inl z) = ap (λ (n : List Made). made_under (n ++ made) p id) z
          which (inr m) =
              ap (λ (n : List Made). made_under (n ++ made) p id) m.1
              ∙ new_other m.0 made p id (λ both.
              differs m.0 (subst (λ (n : List Made). IsIn n m.0) (sym m.1) (inl refl)) both.0 both.1)

      one_under_id : (m : Made) → IsIn new m → m.peer ≡ p → m.id ≡ id →
          named (log_at older) made p id ≡ None →
          length (made_under (new ++ made) p id) ≡ freed_in capacity (e ∷ older) p id
      one_under_id m i q r free =
          let x-is : (y : Made) × (new_at e older ≡ y ∷ []) = the_one (few_new e older) in
          let same : x-is.0 ≡ m =
          same_new e older x-is.0 m (subst (λ (n : List Made). IsIn n x-is.0) (sym x-is.1) (inl refl)) i in
          let all : made_under (new ++ made) p id ≡ made_under made p id ++ m ∷ [] =
          ap (λ (n : List Made). made_under (n ++ made) p id) (x-is.1 ∙ ap (λ (y : Made). y ∷ []) same)
          ∙ new_last m made p id q r in
          let long = ap length all in
          let more = length-append (made_under made p id) (m ∷ []) in
          let before-is : length (made_under made p id) ≡ freed_in capacity older p id =
          s.order.free id (s.makes m i q) free in
          let one : freed_at e older p id ≡ 1 =
          subst (λ k. freed_at e older p k ≡ 1) r (f.new_dead m i q (dead_new m i q r)) in
          let now = freed_put capacity e older p id put.0 in
          omega arith
        where
          the_one : (new_at e older ≡ []) ⊎ ((y : Made) × (new_at e older ≡ y ∷ [])) →
              (y : Made) × (new_at e older ≡ y ∷ [])
          the_one (inl z) = absurd (subst (λ (n : List Made). IsIn n m) z i)
          the_one (inr y) = y

      unmade : named (log_at older) made p id ≡ None →
          ((new_at e older ≡ []) ⊎ ((m : Made) × (new_at e older ≡ m ∷ []))) →
          length (made_under (new ++ made) p id) ≡ freed_in capacity (e ∷ older) p id
      unmade free (inl z) =
          let differs : (m : Made) → IsIn new m → m.peer ≡ p → m.id ≡ id → ⊥ =
          λ m i q r. absurd (subst (λ (n : List Made). IsIn n m) z i) in
          ap length (same_under differs) ∙ s.order.free id (b.peer, put.1) free
          ∙ sym (freed_quiet capacity e older p id (f.nothing id free differs))
      unmade free (inr m) = whose (m.0.peer == p) (m.0.id == id) refl refl
        where
          here : IsIn new m.0
          here = subst (λ (n : List Made). IsIn n m.0) (sym m.1) (inl refl)

          other : ((m.0.peer ≡ p) × (m.0.id ≡ id) → ⊥) →
              length (made_under (new ++ made) p id) ≡ freed_in capacity (e ∷ older) p id
          other no_one =
              let differs : (x : Made) → IsIn new x → x.peer ≡ p → x.id ≡ id → ⊥ =
              λ x i q r. no_one (
                ap (λ (y : Made). y.peer) (same_new e older m.0 x here i) ∙ q,
                ap (λ (y : Made). y.id) (same_new e older m.0 x here i) ∙ r,
              ) in
              ap length (same_under differs) ∙ s.order.free id (b.peer, put.1) free
              ∙ sym (freed_quiet capacity e older p id (f.nothing id free differs))

          whose : (a c : Bool) → (m.0.peer == p) ≡ a → (m.0.id == id) ≡ c →
              length (made_under (new ++ made) p id) ≡ freed_in capacity (e ∷ older) p id
          whose true true q r = one_under_id m.0 here (eqb-true m.0.peer p q) (eqb-true m.0.id id r) free
          whose true false q r = other (λ both. eqb-false m.0.id id r both.1)
          whose false c q r = other (λ both. eqb-false m.0.peer p q both.0)

      by : (o : Option Made) → named (log_at older) made p id ≡ o →
          length (made_under (new ++ made) p id) ≡ freed_in capacity (e ∷ older) p id
      by None free = unmade free (few_new e older)
      by (Some m) k =
          let g : IsFound (log_at older) made p id m = found (log_at older) made p id m k in
          lasts (alive (log_at (e ∷ older)) m.label) refl g
        where
          lasts : (d : Bool) → alive (log_at (e ∷ older)) m.label ≡ d → IsFound (log_at older) made p id m →
              length (made_under (new ++ made) p id) ≡ freed_in capacity (e ∷ older) p id
          lasts true h g =
              absurd (none_alive (log_at (e ∷ older)) (new ++ made) p id m none (behind new made m g.among)
              g.peer g.under h)
          lasts false h g =
              let d = f.dying m g.among g.peer g.lives h c.0 in
              let l = s.order.lives m g.among g.peer g.lives in
              let one : freed_at e older p id ≡ 1 = subst (λ i. freed_at e older p i ≡ 1) g.under d.0 in
              let long : length (made_under made p id) ≡ suc (freed_in capacity older p id) =
              subst (λ i. length (made_under made p i) ≡ suc (freed_in capacity older p i)) g.under l.1 in
              let all = ap (λ (n : List Made). length (made_under (n ++ made) p id)) d.1 in
              let now = freed_put capacity e older p id put.0 in
              omega arith

  pub entry_ordered : IsOrdered (log_at (e ∷ older)) (past_of (e ∷ older)).made p (freed_in capacity (e ∷ older) p)
      (IsCalm capacity (e ∷ older) p)
  entry_ordered =
      moved (log_at older) made p (freed_in capacity older p) (IsCalm capacity older p) (log_at (e ∷ older)) new
      (freed_in capacity (e ∷ older) p) (IsCalm capacity (e ∷ older) p) s.order
      (record {
        apart = same_new e older;
        few = few_new e older;
        fresh = fresh;
        old = old;
        made_alive = λ m i q l. freed_quiet capacity e older p m.id (f.new_living m i q l);
        calm = calm;
      })
