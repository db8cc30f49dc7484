-- The ids of a peer that hasn't joined, or just did.
use Rattle.std.proofs.Common.{◌≡◌, ℕ, suc, ◌+◌, List, [], ◌∷◌, ◌++◌, length, Bool, true, false, Option, Some, None, refl, sym, ap, subst, ◌∙◌, arith, inl, inr}
use Rattle.std.specs.Prelude.{◌==◌, ◌&&◌, if◌then◌else◌}
use Rattle.std.specs.List.{slice_get}
use Rattle.std.proofs.lemmas.Bool.{eqb-true, eqb-false}
use Rattle.std.proofs.lemmas.List.{append-nil}
use Rattle.wl_proto.specs.declared.interface.Interface.TheVariants as interface
use Rattle.relay_model.specs.declared.role.Role.{Role}
use Rattle.relay_model.specs.declared.said.Told.{Told}
use Rattle.relay_model.specs.Objects.{is_peer_kind, alive}
use Rattle.relay_model.proofs.ObjectLaws.{kind_alive}
use Rattle.broker_model.specs.declared.journal.Entry.{Entry}
use Rattle.broker_model.specs.declared.journal.Entry.TheVariants as entries
use Rattle.broker_model.specs.Ids.{Made, named, made_as}
use Rattle.broker_model.specs.Groups.{message_of}
use Rattle.broker_model.specs.Resolve.{past_of}
use Rattle.broker_model.proofs.IdsAreNames.{IsIn, made_with}
use Rattle.broker_model.proofs.TablesNameObjects.{stranger}
use Rattle.broker_core.proofs.OnlyEndsTakePeers.{peer_new}
use Rattle.broker_telling.specs.Streams.{Heard, heard_by, heard_to, heard_of, heard_at, heard_put, made_under, times_freed}
use Rattle.broker_telling.proofs.EntryOrdered.{new_at, log_at}
use Rattle.broker_telling.proofs.HeardInTurn.{events_of}
use Rattle.broker_telling.proofs.IdsFreed.{freed_in, is_there, IsCalm, freed_quiet, none_freed, told_at}
use Rattle.broker_telling.proofs.IdsInOrder.{IsOrdered, none_alive, new_last, new_other}

-- ---- a peer of which nothing was made

pub under_none : (made : List Made) (p id : ℕ) → ((m : Made) → IsIn made m → m.peer ≡ p → ⊥) → made_under made p id ≡ []
under_none [] p id h = refl
under_none (x ∷ made) p id h =
    ap (λ (l : List Made). l ++ (if (x.peer == p) && (x.id == id) then x ∷ [] else []))
    (under_none made p id (λ m i. h m (inr i)))
    ∙ by (x.peer == p) refl
  where
    by : (b : Bool) → (x.peer == p) ≡ b → [] ++ (if b && (x.id == id) then x ∷ [] else []) ≡ []
    by true e = absurd (h x (inl refl) (eqb-true x.peer p e))
    by false e = refl

heard_none : (made : List Made) (p : ℕ) (ts : List Told) → ((m : Made) → IsIn made m → m.peer ≡ p → ⊥) →
    heard_of made p ts ≡ []
heard_none made p [] h = refl
heard_none made p (t ∷ ts) h =
    ap (λ (l : List Heard). heard_to made p t (made_as made t.to) ++ l) (heard_none made p ts h)
    ∙ append-nil (heard_to made p t (made_as made t.to)) ∙ one (made_as made t.to) refl
  where
    one : (o : Option Made) → made_as made t.to ≡ o → heard_to made p t o ≡ []
    one None e = refl
    one (Some m) e = by (m.peer == p) refl
      where
        by : (b : Bool) → (m.peer == p) ≡ b →
            (if b then heard_by t m (message_of made t.event) else []) ≡ []
        by true q = absurd (h m (made_with made t.to m e).among (eqb-true m.peer p q))
        by false q = refl

put_none : (capacity : ℕ) (journal : List Entry) (p : ℕ) →
    ((m : Made) → IsIn (past_of journal).made m → m.peer ≡ p → ⊥) → heard_put capacity journal p ≡ []
put_none capacity [] p h = refl
put_none capacity (e ∷ older) p h =
    ap (λ (l : List Heard). l ++ (if is_there capacity e older p then heard_at e older p else []))
    (put_none capacity older p (λ m i. h m (behind (new_at e older) (past_of older).made m i)))
    ∙ ap (λ (l : List Heard). [] ++ (if is_there capacity e older p then l else []))
    (heard_none (past_of (e ∷ older)).made p (told_at e older) h)
    ∙ by (is_there capacity e older p)
  where
    behind : (xs ys : List Made) (x : Made) → IsIn ys x → IsIn (xs ++ ys) x
    behind [] ys x j = j
    behind (y ∷ xs) ys x j = inr (behind xs ys x j)

    by : (b : Bool) → (let l : List Heard = [] ++ (if b then [] else []) in l ≡ [])
    by true = refl
    by false = refl

pub freed_none : (capacity : ℕ) (journal : List Entry) (p id : ℕ) →
    ((m : Made) → IsIn (past_of journal).made m → m.peer ≡ p → ⊥) → freed_in capacity journal p id ≡ 0
freed_none capacity journal p id h =
    ap (λ (l : List Heard). times_freed id (events_of l)) (put_none capacity journal p h)

pub none_ordered : (capacity : ℕ) (journal : List Entry) (p : ℕ) →
    ((m : Made) → IsIn (past_of journal).made m → m.peer ≡ p → ⊥) →
    IsOrdered (log_at journal) (past_of journal).made p (freed_in capacity journal p) (IsCalm capacity journal p)
none_ordered capacity journal p h = record {
  lives = λ m i q l. absurd (h m i q);
  free = λ id c n.
      ap length (under_none (past_of journal).made p id h) ∙ sym (freed_none capacity journal p id h);
}

-- ---- who just joined

-- its display
abbrev display_at : List Entry → Made
display_at older =
    record { peer = length older + 1; id = 1; label = length older + 1; interface = interface.Display }

none_yet : (older : List Entry) (m : Made) → IsIn (past_of older).made m → m.peer ≡ length older + 1 → ⊥
none_yet older m i q = stranger older (length older + 1) (omega arith) m i q

alive_peer : (role : Role) (older : List Entry) →
    alive (log_at (entries.Join role ∷ older)) (length older + 1) ≡ true
alive_peer role older =
    kind_alive is_peer_kind (log_at (entries.Join role ∷ older)) (length older + 1) (peer_new role older)

joined_freed : (capacity : ℕ) (role : Role) (older : List Entry) (id : ℕ) →
    freed_in capacity (entries.Join role ∷ older) (length older + 1) id ≡ 0
joined_freed capacity role older id =
    freed_quiet capacity (entries.Join role) older (length older + 1) id
    (none_freed (entries.Join role) older (length older + 1) id refl)
    ∙ freed_none capacity older (length older + 1) id (none_yet older)

pub joined_ordered : (capacity : ℕ) (role : Role) (older : List Entry) →
    IsOrdered (log_at (entries.Join role ∷ older)) (past_of (entries.Join role ∷ older)).made (length older + 1)
    (freed_in capacity (entries.Join role ∷ older) (length older + 1))
    (IsCalm capacity (entries.Join role ∷ older) (length older + 1))
joined_ordered capacity role older = record {
  lives = λ m i q l. one m i q;
  free = λ id c n. free id n;
}
  where
    only : made_under (past_of (entries.Join role ∷ older)).made (length older + 1) 1 ≡ display_at older ∷ []
    only =
        new_last (display_at older) (past_of older).made (length older + 1) 1 refl refl
        ∙ ap (λ (l : List Made). l ++ display_at older ∷ [])
        (under_none (past_of older).made (length older + 1) 1 (none_yet older))

    one : (m : Made) → IsIn (past_of (entries.Join role ∷ older)).made m → m.peer ≡ length older + 1 →
        (slice_get (made_under (past_of (entries.Join role ∷ older)).made (length older + 1) m.id)
        (freed_in capacity (entries.Join role ∷ older) (length older + 1) m.id) ≡ Some m)
        × (length (made_under (past_of (entries.Join role ∷ older)).made (length older + 1) m.id)
        ≡ suc (freed_in capacity (entries.Join role ∷ older) (length older + 1) m.id))
    one m (inr i) q = absurd (none_yet older m i q)
    one m (inl same) q =
        subst (λ (x : Made).
        (slice_get (made_under (past_of (entries.Join role ∷ older)).made (length older + 1) x.id)
        (freed_in capacity (entries.Join role ∷ older) (length older + 1) x.id) ≡ Some x)
        × (length (made_under (past_of (entries.Join role ∷ older)).made (length older + 1) x.id)
        ≡ suc (freed_in capacity (entries.Join role ∷ older) (length older + 1) x.id))) same (
          ap (slice_get (made_under (past_of (entries.Join role ∷ older)).made (length older + 1) 1))
              (joined_freed capacity role older 1)
              ∙ ap (λ (l : List Made). slice_get l 0) only,
          ap length only ∙ ap suc (sym (joined_freed capacity role older 1)),
        )

    free : (id : ℕ) →
        named (log_at (entries.Join role ∷ older)) (past_of (entries.Join role ∷ older)).made (length older + 1) id
        ≡ None →
        length (made_under (past_of (entries.Join role ∷ older)).made (length older + 1) id)
        ≡ freed_in capacity (entries.Join role ∷ older) (length older + 1) id
    free id n = by (1 == id) refl
      where
        by : (b : Bool) → (1 == id) ≡ b →
            length (made_under (past_of (entries.Join role ∷ older)).made (length older + 1) id)
            ≡ freed_in capacity (entries.Join role ∷ older) (length older + 1) id
        by true e =
            absurd (none_alive (log_at (entries.Join role ∷ older)) (past_of (entries.Join role ∷ older)).made
            (length older + 1) id (display_at older) n (inl refl) refl (eqb-true 1 id e) (alive_peer role older))
        by false e =
            ap length (new_other (display_at older) (past_of older).made (length older + 1) id
            (λ both. eqb-false 1 id e both.1)
            ∙ under_none (past_of older).made (length older + 1) id (none_yet older))
            ∙ sym (joined_freed capacity role older id)
