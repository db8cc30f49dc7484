-- What a history puts for a peer is read, message for message, as what it tells the peer.
use Rattle.std.proofs.Common.{◌≡◌, ℕ, zero, suc, ◌+◌, ◌^◌, ◌≤◌, ◌<◌, List, [], ◌∷◌, ◌++◌, length, Bool, true, false, Option, Some, None, refl, sym, ap, subst, ◌∙◌, arith, inl, inr, ◌⊎◌}
use Rattle.std.specs.Prelude.{◌==◌, ◌&&◌, ◌||◌, if◌then◌else◌, IfSome}
use Rattle.std.specs.List.{slice_get}
use Rattle.std.proofs.lemmas.Bool.{eqb-true, eqb-false, cases_lt}
use Rattle.std.proofs.lemmas.List.{append-nil}
use Rattle.wl_wire.specs.Messages.{joined}
use Rattle.relay_model.specs.declared.act.Act.TheVariants as acts
use Rattle.relay_model.specs.declared.act.EndCause.{EndCause}
use Rattle.relay_model.specs.declared.said.Told.{Told}
use Rattle.relay_model.specs.Objects.{is_peer}
use Rattle.broker_model.specs.declared.journal.Entry.{Entry}
use Rattle.broker_model.specs.declared.journal.Entry.TheVariants as entries
use Rattle.broker_model.specs.Ids.{Made, Joined, peer_at, named}
use Rattle.broker_model.specs.Requests.{Argument, new_of}
use Rattle.broker_model.specs.Groups.{followed_by, message_of}
use Rattle.broker_model.specs.Resolve.{Meaning, made_new, only, of_peer, means, past_of}
use Rattle.broker_model.specs.Out.{act_now, group_at, before_group, out_for}
use Rattle.broker_model.specs.Settle.{refused, due, cause_of, with_end, settled, number_alive, history}
use Rattle.broker_model.proofs.IdsAreNames.{IsIn, made_with}
use Rattle.broker_model.proofs.LabelsRiseByNumber.{label_within}
use Rattle.broker_model.proofs.LivePeersJoined.{length_log}
use Rattle.broker_model.proofs.MadeObjectsStand.{sound}
use Rattle.broker_model.proofs.SettlingEnds.{IsSettled, history_settled}
use Rattle.broker_model.proofs.TablesNameObjects.{stranger}
use Rattle.broker_model.specs.Living.{IsLiving, IsOfLiving}
use Rattle.broker_model.proofs.EntriesTold.{entries_living}
use Rattle.broker_telling.specs.Sayable.{AreHeld}
use Rattle.broker_telling.specs.Streams.{Heard, heard_at, heard_put, made_under, AreRead, IsReadStream, StreamsAreRead}
use Rattle.broker_telling.specs.ToldRead.{IsReadAs, IsToldRead}
use Rattle.broker_telling.proofs.EntryFrees.{entry_frees}
use Rattle.broker_telling.proofs.EntryOrdered.{new_at, log_at, few_new, one_new, same_new, Stands, entry_ordered}
use Rattle.broker_telling.proofs.HeardInTurn.{events_of, IsNextRead, group_read, read_more, read_then}
use Rattle.broker_telling.proofs.IdsFreed.{freed_in, is_there, IsCalm, told_at, told_last}
use Rattle.broker_telling.proofs.IdsInOrder.{IsOrdered, in_parts, new_last, under_more, get_next}
use Rattle.broker_telling.proofs.MessagesPut.{entry_messages, entry_bytes}
use Rattle.broker_telling.proofs.MessagesTold.{joined_both}
use Rattle.broker_telling.proofs.NewcomersOrdered.{under_none, freed_none, none_ordered, joined_ordered}
use Rattle.broker_telling.proofs.RequestsMake.{IsAsked, EntryKind, Plain, Joins, Asks, kind_of, sender_lives}
use Rattle.broker_telling.proofs.ToldIsRead.{told_read, each_two}

-- ---- labels

label_some : (journal : List Entry) (m : Made) → IsIn (past_of journal).made m → 1 ≤ m.label
label_some [] m i = absurd i
label_some (e ∷ older) m i = by (in_parts (new_at e older) (past_of older).made m i)
    (λ j. label_some older m j)
  where
    by : IsIn (new_at e older) m ⊎ IsIn (past_of older).made m → (IsIn (past_of older).made m → 1 ≤ m.label) →
        1 ≤ m.label
    by (inl j) old = (let o = one_new e older m j in let l = o.0 in omega arith)
    by (inr j) old = old j

-- ---- the objects that an entry tells

-- what lives, or is new, is the first under its id that wasn't freed
abbrev Indexed : ℕ → Entry → List Entry → ℕ → Type 0
Indexed capacity e older p =
    (m : Made) → IsIn (past_of (e ∷ older)).made m → m.peer ≡ p → IsLiving (log_at older) m.label →
    slice_get (made_under (past_of (e ∷ older)).made p m.id) (freed_in capacity older p m.id) ≡ Some m

-- a new one, behind what was made under its id and freed
new_index : (capacity : ℕ) (e : Entry) (older : List Entry) (p : ℕ) (m : Made) → IsIn (new_at e older) m →
    m.peer ≡ p → length (made_under (past_of older).made p m.id) ≡ freed_in capacity older p m.id →
    slice_get (made_under (past_of (e ∷ older)).made p m.id) (freed_in capacity older p m.id) ≡ Some m
new_index capacity e older p m i q h = by (few_new e older)
  where
    by : (new_at e older ≡ []) ⊎ ((x : Made) × (new_at e older ≡ x ∷ [])) →
        slice_get (made_under (past_of (e ∷ older)).made p m.id) (freed_in capacity older p m.id) ≡ Some m
    by (inl z) = absurd (subst (λ (n : List Made). IsIn n m) z i)
    by (inr x) =
        let same : x.0 ≡ m =
        same_new e older x.0 m (subst (λ (n : List Made). IsIn n x.0) (sym x.1) (inl refl)) i in
        let all : made_under (past_of (e ∷ older)).made p m.id ≡ made_under (past_of older).made p m.id ++ m ∷ [] =
        ap (λ (n : List Made). made_under (n ++ (past_of older).made) p m.id)
        (x.1 ∙ ap (λ (y : Made). y ∷ []) same)
        ∙ new_last m (past_of older).made p m.id q refl in
        ap (λ (l : List Made). slice_get l (freed_in capacity older p m.id)) all
        ∙ ap (slice_get (made_under (past_of older).made p m.id ++ m ∷ [])) (sym h)
        ∙ get_next (made_under (past_of older).made p m.id) m

known_index : (capacity : ℕ) (e : Entry) (older : List Entry) (p : ℕ) → Stands capacity e older p →
    Indexed capacity e older p
known_index capacity e older p s m i q l = by (in_parts (new_at e older) (past_of older).made m i)
  where
    old : IsIn (past_of older).made m → IsLiving (log_at older) m.label →
        slice_get (made_under (past_of (e ∷ older)).made p m.id) (freed_in capacity older p m.id) ≡ Some m
    old j (inl a) =
        under_more (new_at e older) (past_of older).made p m.id (freed_in capacity older p m.id) m
        (s.order.lives m j q a).0
    old j (inr n) =
        (let long : length (log_at older) ≡ length older = length_log older in
        let within = (sound older m j).within in absurd (omega arith))

    by : IsIn (new_at e older) m ⊎ IsIn (past_of older).made m →
        slice_get (made_under (past_of (e ∷ older)).made p m.id) (freed_in capacity older p m.id) ≡ Some m
    by (inr j) = old j l
    by (inl j) =
        new_index capacity e older p m j q
        (s.order.free m.id (s.makes m j q)
        (ap (λ k. named (log_at older) (past_of older).made k m.id) (sym q) ∙ (one_new e older m j).1))

strange_index : (capacity : ℕ) (e : Entry) (older : List Entry) (p : ℕ) → length older < p →
    Indexed capacity e older p
strange_index capacity e older p far m i q l = by (in_parts (new_at e older) (past_of older).made m i)
  where
    by : IsIn (new_at e older) m ⊎ IsIn (past_of older).made m →
        slice_get (made_under (past_of (e ∷ older)).made p m.id) (freed_in capacity older p m.id) ≡ Some m
    by (inr j) = absurd (stranger older p far m j q)
    by (inl j) =
        new_index capacity e older p m j q
        (ap length (under_none (past_of older).made p m.id (stranger older p far))
        ∙ sym (freed_none capacity older p m.id (stranger older p far)))

-- ---- one more entry

some_of : {A : Type 0} (P : A → Type 0) (o : Option A) (x : A) → o ≡ Some x → IfSome o P → P x
some_of P o x e h = subst (λ u. IfSome u P) e h

one_next : (capacity : ℕ) (e : Entry) (older : List Entry) (p : ℕ) (t : Told) → Indexed capacity e older p →
    IsToldRead (past_of (e ∷ older)).made t → IsOfLiving (log_at older) t →
    IsNextRead (past_of (e ∷ older)).made (past_of (e ∷ older)).made p (freed_in capacity older p) t
one_next capacity e older p t index r l object is own m says =
    let w = made_with (past_of (e ∷ older)).made t.to object is in (
      some_of (IsReadAs object) (message_of (past_of (e ∷ older)).made t.event) m says (r object is),
      index object w.among own (lives w.named w.among l.to),
    )
  where
    lives : object.label ≡ t.to → IsIn (past_of (e ∷ older)).made object →
        ((t.to ≡ 0) ⊎ IsLiving (log_at older) t.to) → IsLiving (log_at older) object.label
    lives named-is among (inl zero-is) = absurd (let some = label_some (e ∷ older) object among in omega arith)
    lives named-is among (inr h) = subst (IsLiving (log_at older)) (sym named-is) h

more_read : (capacity : ℕ) (e : Entry) (older : List Entry) (p : ℕ) → AreHeld (e ∷ older) →
    length (e ∷ older) < 2 ^ 32 → Indexed capacity e older p → IsReadStream capacity older p →
    IsReadStream capacity (e ∷ older) p
more_read capacity e older p held few index r = by (is_there capacity e older p) refl
  where
    before : AreRead (past_of (e ∷ older)).made p [] r.messages (heard_put capacity older p)
    before = read_more (new_at e older) (past_of older).made p [] r.messages (heard_put capacity older p) r.read

    now : AreRead (past_of (e ∷ older)).made p (events_of (heard_put capacity older p)) (entry_messages e older p)
        (heard_at e older p)
    now =
        group_read (past_of (e ∷ older)).made (past_of (e ∷ older)).made p (freed_in capacity older p)
        (events_of (heard_put capacity older p)) (told_at e older)
        (told_last (act_now e older) (log_at older)) (λ id. refl)
        (each_two (IsToldRead (past_of (e ∷ older)).made) (IsOfLiving (log_at older))
        (IsNextRead (past_of (e ∷ older)).made (past_of (e ∷ older)).made p (freed_in capacity older p))
        (told_at e older) (λ t a b. one_next capacity e older p t index a b) (told_read e older held few)
        (entries_living e older))

    by : (b : Bool) → is_there capacity e older p ≡ b → IsReadStream capacity (e ∷ older) p
    by true h = record {
      messages = r.messages ++ entry_messages e older p;
      is =
          ap (λ (c : Bool). (if c then record (before_group e older p (out_for capacity older p)) {
            put = followed_by (out_for capacity older p).put (group_at e older p);
          } else record (before_group e older p (out_for capacity older p)) { choked = true }).put.bytes) h
          ∙ ap (λ (l : List ℕ). l ++ (group_at e older p).bytes) r.is
          ∙ ap (λ (l : List ℕ). joined r.messages ++ l) (entry_bytes e older p)
          ∙ sym (joined_both r.messages (entry_messages e older p));
      read = subst (λ (l : List Heard). AreRead (past_of (e ∷ older)).made p [] (r.messages ++ entry_messages e older p)
          (heard_put capacity older p ++ l)) (ap (λ (c : Bool). if c then heard_at e older p else []) (sym h))
          (read_then (past_of (e ∷ older)).made p [] r.messages (entry_messages e older p)
          (heard_put capacity older p) (heard_at e older p) before now);
    }
    by false h = record {
      messages = r.messages;
      is =
          ap (λ (c : Bool). (if c then record (before_group e older p (out_for capacity older p)) {
            put = followed_by (out_for capacity older p).put (group_at e older p);
          } else record (before_group e older p (out_for capacity older p)) { choked = true }).put.bytes) h ∙ r.is;
      read = subst (λ (l : List Heard). AreRead (past_of (e ∷ older)).made p [] r.messages l)
          (sym (ap (λ (c : Bool). heard_put capacity older p ++ (if c then heard_at e older p else [])) h
          ∙ append-nil (heard_put capacity older p))) before;
    }

-- a peer's ids stand in order, and all that is put for it is read
record IsInOrder (capacity : ℕ) (journal : List Entry) (p : ℕ) : Type 0 where
  order : IsOrdered (log_at journal) (past_of journal).made p (freed_in capacity journal p) (IsCalm capacity journal p)
  read : IsReadStream capacity journal p

-- what an entry makes it makes for a calm peer
abbrev MakesCalm : ℕ → Entry → List Entry → ℕ → Type 0
MakesCalm capacity e older p =
    p ≤ length older → (m : Made) → IsIn (new_at e older) m → m.peer ≡ p → IsCalm capacity older p

strange_ordered : (capacity : ℕ) (e : Entry) (older : List Entry) (p : ℕ) → length older < p →
    IsOrdered (log_at (e ∷ older)) (past_of (e ∷ older)).made p (freed_in capacity (e ∷ older) p)
    (IsCalm capacity (e ∷ older) p)
strange_ordered capacity e older p far = by (kind_of e older)
  where
    without : ((m : Made) → IsIn (new_at e older) m → m.peer ≡ p → ⊥) →
        IsOrdered (log_at (e ∷ older)) (past_of (e ∷ older)).made p (freed_in capacity (e ∷ older) p)
        (IsCalm capacity (e ∷ older) p)
    without h = none_ordered capacity (e ∷ older) p (λ m i q. part m q (in_parts (new_at e older) (past_of older).made m i))
      where
        part : (m : Made) → m.peer ≡ p → IsIn (new_at e older) m ⊎ IsIn (past_of older).made m → ⊥
        part m q (inl j) = h m j q
        part m q (inr j) = stranger older p far m j q

    by : EntryKind e older →
        IsOrdered (log_at (e ∷ older)) (past_of (e ∷ older)).made p (freed_in capacity (e ∷ older) p)
        (IsCalm capacity (e ∷ older) p)
    by (Plain h) = without (λ m i q. subst (λ (n : List Made). IsIn n m → ⊥) (sym h.0) (λ j. absurd j) i)
    by (Joins role is) = whose (length older + 1 == p) refl
      where
        shown : (m : Made) → IsIn (new_at (entries.Join role) older) m → m.peer ≡ length older + 1
        shown m (inl same) = ap (λ (u : Made). u.peer) (sym same)
        shown m (inr i) = absurd i

        whose : (b : Bool) → (length older + 1 == p) ≡ b →
            IsOrdered (log_at (e ∷ older)) (past_of (e ∷ older)).made p (freed_in capacity (e ∷ older) p)
            (IsCalm capacity (e ∷ older) p)
        whose true s =
            subst (λ (x : Entry). IsOrdered (log_at (x ∷ older)) (past_of (x ∷ older)).made p
            (freed_in capacity (x ∷ older) p) (IsCalm capacity (x ∷ older) p)) (sym is)
            (subst (λ k. IsOrdered (log_at (entries.Join role ∷ older)) (past_of (entries.Join role ∷ older)).made k
            (freed_in capacity (entries.Join role ∷ older) k) (IsCalm capacity (entries.Join role ∷ older) k))
            (eqb-true (length older + 1) p s) (joined_ordered capacity role older))
        whose false s =
            without (λ m i q. eqb-false (length older + 1) p s
            (sym (shown m (subst (λ (x : Entry). IsIn (new_at x older) m) is i)) ∙ q))
    by (Asks q id opcode body is a) =
        without (λ m i r. asks m (few_new e older) i r)
      where
        peer_is : (o : Option Argument) (m : Made) → IsIn (made_new a.peer.label (length older + 1) o) m →
            m.peer ≡ a.peer.label
        peer_is None m i = absurd i
        peer_is (Some n) m (inl same) = ap (λ (u : Made). u.peer) (sym same)
        peer_is (Some n) m (inr i) = absurd i

        asks : (m : Made) → ((new_at e older ≡ []) ⊎ ((x : Made) × (new_at e older ≡ x ∷ []))) →
            IsIn (new_at e older) m → m.peer ≡ p → ⊥
        asks m f i r =
            let own = peer_is (new_of a.m.interface a.m.opcode a.m.values) m
            (subst (λ (n : List Made). IsIn n m) (ap (λ (u : Meaning). u.made) a.is) i) in
            let within = label_within older q a.peer a.joined in
            absurd (omega arith)

next_order : (capacity : ℕ) (e : Entry) (older : List Entry) (p : ℕ) → AreHeld (e ∷ older) →
    length (e ∷ older) < 2 ^ 32 → MakesCalm capacity e older p → IsInOrder capacity older p →
    IsInOrder capacity (e ∷ older) p
next_order capacity e older p held few makes o = by (cases_lt (length older) p)
  where
    by : (length older < p) ⊎ (p ≤ length older) → IsInOrder capacity (e ∷ older) p
    by (inl far) = record {
      order = strange_ordered capacity e older p far;
      read = more_read capacity e older p held few (strange_index capacity e older p far) o.read;
    }
    by (inr near) =
        (let s : Stands capacity e older p = record { order = o.order; known = near; makes = makes near } in
        record {
          order = entry_ordered capacity e older p s (entry_frees capacity e older p near);
          read = more_read capacity e older p held few (known_index capacity e older p s) o.read;
        })

-- ---- a history

not_choked : (a b c : Bool) → a ≡ true → (a && (b || c)) ≡ false → c ≡ false
not_choked true true c h k = cc
not_choked true false c h k = k
not_choked false b c h k = cc

-- an outer step makes something for a live peer alone, which isn't choked where nobody is due
step_calm : (capacity : ℕ) (e : Entry) (older : List Entry) (p : ℕ) → IsSettled capacity older →
    MakesCalm capacity e older p
step_calm capacity e older p s near m i q = by (kind_of e older)
  where
    by : EntryKind e older → IsCalm capacity older p
    by (Plain h) = absurd (subst (λ (n : List Made). IsIn n m) h.0 i)
    by (Joins role is) =
        absurd (shown (subst (λ (x : Entry). IsIn (new_at x older) m) is i))
      where
        shown : IsIn (new_at (entries.Join role) older) m → ⊥
        shown (inl same) = (let n : length older + 1 ≡ m.peer = ap (λ (u : Made). u.peer) same in omega arith)
        shown (inr j) = absurd j
    by (Asks k id opcode body is a) =
        let a' : IsAsked older k id body opcode
        (means (entries.Message k id opcode body) (length older + 1) (past_of older)) =
        subst (λ (x : Entry). IsAsked older k id body opcode (means x (length older + 1) (past_of older))) is a in
        let own : a.peer.label ≡ p =
        sym (peer_is (new_of a.m.interface a.m.opcode a.m.values)
        (subst (λ (n : List Made). IsIn n m) (ap (λ (u : Meaning). u.made) a.is) i)) ∙ q in
        let lives : is_peer (log_at older) a.peer.label ≡ true =
        sender_lives older k id opcode body a' in (
          ap (is_peer (log_at older)) (sym own) ∙ lives,
          ap (λ n. (out_for capacity older n).choked) (sym own)
              ∙ not_choked (is_peer (log_at older) a.peer.label) (refused older k)
              (out_for capacity older a.peer.label).choked lives (s.nobody k a.peer a.joined),
        )
      where
        peer_is : (o : Option Argument) → IsIn (made_new a.peer.label (length older + 1) o) m →
            m.peer ≡ a.peer.label
        peer_is None j = absurd j
        peer_is (Some n) (inl same) = ap (λ (u : Made). u.peer) (sym same)
        peer_is (Some n) (inr j) = absurd j

end_calm : (capacity : ℕ) (q : ℕ) (why : EndCause) (older : List Entry) (p : ℕ) →
    MakesCalm capacity (entries.End q why) older p
end_calm capacity q why older p near m i r = absurd (none (peer_at (past_of older) q) i)
  where
    none : (o : Option Joined) → IsIn (of_peer o (λ peer. only (acts.Gone peer.label why))).made m → ⊥
    none None j = absurd j
    none (Some peer) j = absurd j

held_before : (capacity fuel : ℕ) (journal : List Entry) → AreHeld (settled capacity fuel journal) → AreHeld journal
held_before capacity zero journal h = h
held_before capacity (suc n) journal h =
    by (due capacity journal) (held_before capacity n (with_end journal (due capacity journal)) h)
  where
    by : (o : Option ℕ) → AreHeld (with_end journal o) → AreHeld journal
    by None k = k
    by (Some q) k = k.1

few_before : (capacity fuel : ℕ) (journal : List Entry) → length (settled capacity fuel journal) < 2 ^ 32 →
    length journal < 2 ^ 32
few_before capacity zero journal h = h
few_before capacity (suc n) journal h =
    by (due capacity journal) (few_before capacity n (with_end journal (due capacity journal)) h)
  where
    by : (o : Option ℕ) → length (with_end journal o) < 2 ^ 32 → length journal < 2 ^ 32
    by None k = k
    by (Some q) k = omega arith

end_order : (capacity : ℕ) (journal : List Entry) (o : Option ℕ) (p : ℕ) → AreHeld (with_end journal o) →
    length (with_end journal o) < 2 ^ 32 → IsInOrder capacity journal p → IsInOrder capacity (with_end journal o) p
end_order capacity journal None p held few i = i
end_order capacity journal (Some q) p held few i =
    next_order capacity (entries.End q (cause_of journal q)) journal p held few
    (end_calm capacity q (cause_of journal q) journal p) i

settled_order : (capacity fuel : ℕ) (journal : List Entry) (p : ℕ) → AreHeld (settled capacity fuel journal) →
    length (settled capacity fuel journal) < 2 ^ 32 → IsInOrder capacity journal p →
    IsInOrder capacity (settled capacity fuel journal) p
settled_order capacity zero journal p held few i = i
settled_order capacity (suc n) journal p held few i =
    let next : List Entry = with_end journal (due capacity journal) in
    settled_order capacity n next p held few
    (end_order capacity journal (due capacity journal) p (held_before capacity n next held)
    (few_before capacity n next few) i)

all_order : (capacity : ℕ) (steps : List Entry) (p : ℕ) → AreHeld (history capacity steps) →
    length (history capacity steps) < 2 ^ 32 → IsInOrder capacity (history capacity steps) p
all_order capacity [] p held few = record {
  order = none_ordered capacity [] p (λ m i q. absurd i);
  read = record { messages = []; is = refl; read = tt };
}
all_order capacity (step ∷ older) p held few =
    let journal : List Entry = step ∷ history capacity older in
    let fuel : ℕ = number_alive journal in
    let held-is : AreHeld journal = held_before capacity fuel journal held in
    let few-is : length journal < 2 ^ 32 = few_before capacity fuel journal few in
    settled_order capacity fuel journal p held few
    (next_order capacity step (history capacity older) p held-is few-is
    (step_calm capacity step (history capacity older) p (history_settled capacity older))
    (all_order capacity older p held-is.1 (omega arith)))

pub streams_read : StreamsAreRead
streams_read capacity steps p held few = (all_order capacity steps p held few).read
