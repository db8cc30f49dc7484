-- A peer's table has as many objects as the peer has live ones, its display with them.
use Rattle.std.proofs.Common.{◌≡◌, ℕ, ◌+◌, ◌-◌, ◌≤◌, List, [], ◌∷◌, ◌++◌, length, Bool, true, false, Option, Some, None, ap, ap₂, refl, sym, ◌∙◌, subst, arith, inl, inr, ◌⊎◌}
use Rattle.std.specs.Prelude.{◌==◌, ◌&&◌, not, if◌then◌else◌}
use Rattle.std.specs.List.{count_by}
use Rattle.std.specs.Option.{option_map}
use Rattle.std.proofs.lemmas.Bool.{ne_eqb, eq-eqb, eqb-true, true≢false, cases_lt}
use Rattle.std.proofs.lemmas.List.Sums.{sum_by-cons}
use Rattle.std.proofs.lemmas.Option.{same_Some}
use Rattle.im_objects.specs.Calls.{Call, object_under}
use Rattle.im_objects.specs.Calls as table
use Rattle.im_objects.specs.Calls.Call.{Make, Drop}
use Rattle.relay_model.specs.declared.act.Act.{Act}
use Rattle.relay_model.specs.declared.act.Act.TheVariants as acts
use Rattle.relay_model.specs.Objects.{is_peer_kind, is_peer, alive}
use Rattle.relay_model.proofs.ObjectLaws.{kind_alive}
use Rattle.broker_model.specs.declared.journal.Entry.{Entry}
use Rattle.broker_model.specs.Ids.{Made, log_of, named, is_counted, made_as}
use Rattle.broker_model.specs.Resolve.{means, past_of}
use Rattle.broker_model.specs.Out.{act_now}
use Rattle.broker_model.specs.Tables.{make_calls, drop_call, drop_calls, calls_for, object_of, CountedLive}
use Rattle.broker_model.proofs.IdsAreNames.{IsIn, IsFound, found}
use Rattle.broker_model.proofs.MadeAtMostOne.{IsOne, one_entry}
use Rattle.broker_model.proofs.MadeObjectsStand.{lived, sound, display_of, displayed}
use Rattle.broker_model.proofs.TablesNameObjects.{eq_flip, IsBefore, IsDropped, IsSpared, lasts_made, dropped, other_goes, dead_now, before, stranger, none_dropped, none_called, find_old, found_by_id}
use Rattle.broker_model.proofs.LabelsAreIds.{unmade}

-- a label is made once

abbrev AreApart : List Made → Type 0
AreApart [] = Unit {0}
AreApart (m ∷ older) = (made_as older m.label ≡ None) × AreApart older

apart_by : (log : List Act) (n : ℕ) (act : Act) (new made : List Made) → (new ≡ []) ⊎ IsOne log made n act new →
    made_as made n ≡ None → AreApart made →
    AreApart (new ++ made)
apart_by log n act new made (inl none) u a = subst (λ ms. AreApart (ms ++ made)) (sym none) a
apart_by log n act new made (inr o) u a =
    subst (λ ms. AreApart (ms ++ made)) (sym o.is) (ap (made_as made) o.label ∙ u, a)

apart : (journal : List Entry) → AreApart (past_of journal).made
apart [] = tt
apart (e ∷ older) =
    apart_by (log_of (past_of older)) (length older + 1) (means e (length older + 1) (past_of older)).act
    (means e (length older + 1) (past_of older)).made (past_of older).made (one_entry e older (sound older))
    (unmade older (length older + 1) (omega arith))
    (apart older)

in_as_by : (x n : Made) (made : List Made) (b : Bool) → (made_as made n.label ≡ None → ⊥) →
    (if b then Some x else made_as made n.label) ≡ None → ⊥
in_as_by x n made true k h = cc
in_as_by x n made false k h = k h

in_as : (made : List Made) (n : Made) → IsIn made n → made_as made n.label ≡ None → ⊥
in_as [] n i h = i
in_as (x ∷ made) n (inl e) h =
    let q : (x.label == n.label) ≡ true = eq-eqb x.label n.label (ap (λ (u : Made). u.label) e) in
    let k : Some x ≡ None = rw q at h in
    cc
in_as (x ∷ made) n (inr i) h = in_as_by x n made (x.label == n.label) (in_as made n i) h

-- counts

abbrev one_if : Bool → ℕ
one_if b = (if b then 1 else 0)

count_more : (f : Made → Bool) (x : Made) (made : List Made) → count_by f (x ∷ made) ≡ one_if (f x) + count_by f made
count_more f x made = sum_by-cons (λ m. one_if (f m)) x made

count_same : (f g : Made → Bool) (made : List Made) → ((m : Made) → IsIn made m → f m ≡ g m) →
    count_by f made ≡ count_by g made
count_same f g [] h = refl
count_same f g (x ∷ made) h =
    count_more f x made
    ∙ ap₂ (λ (b : Bool) (n : ℕ). one_if b + n) (h x (inl refl)) (count_same f g made (λ m i. h m (inr i)))
    ∙ sym (count_more g x made)

count_none : (f : Made → Bool) (made : List Made) → ((m : Made) → IsIn made m → f m ≡ false) → count_by f made ≡ 0
count_none f [] h = refl
count_none f (x ∷ made) h =
    let k : count_by f made ≡ 0 = count_none f made (λ m i. h m (inr i)) in
    count_more f x made ∙ ap₂ (λ (b : Bool) (n : ℕ). one_if b + n) (h x (inl refl)) k

-- all count the same but the one with the label
count_less : (f g : Made → Bool) (made : List Made) (label : ℕ) (m : Made) → AreApart made →
    made_as made label ≡ Some m → f m ≡ false → g m ≡ true →
    ((n : Made) → IsIn made n → (label == n.label) ≡ false → f n ≡ g n) → count_by f made + 1 ≡ count_by g made
count_less f g [] label m a e zero_of one_of h = cc
count_less f g (x ∷ made) label m a e zero_of one_of h =
    by (x.label == label) refl e (λ q. count_less f g made label m a.1 q zero_of one_of (λ n i. h n (inr i)))
  where
    by : (b : Bool) → (x.label == label) ≡ b → (if b then Some x else made_as made label) ≡ Some m →
        (made_as made label ≡ Some m → count_by f made + 1 ≡ count_by g made) →
        count_by f (x ∷ made) + 1 ≡ count_by g (x ∷ made)
    by true q e k =
        let s : m ≡ x = sym (same_Some x m e) in
        let t : label ≡ x.label = sym (eqb-true x.label label q) in
        let rest : count_by f made ≡ count_by g made =
        count_same f g made
        (λ n i. h n (inr i) (ne_eqb label n.label (λ d. in_as made n i (ap (made_as made) (sym d ∙ t) ∙ a.0)))) in
        let nothing : one_if (f x) ≡ 0 = ap one_if (ap f (sym s) ∙ zero_of) in
        let something : one_if (g x) ≡ 1 = ap one_if (ap g (sym s) ∙ one_of) in
        let left : count_by f (x ∷ made) ≡ one_if (f x) + count_by f made = count_more f x made in
        let right : count_by g (x ∷ made) ≡ one_if (g x) + count_by g made = count_more g x made in
        omega arith
    by false q e k =
        let same : one_if (f x) ≡ one_if (g x) = ap one_if (h x (inl refl) (eq_flip label x.label ∙ q)) in
        let rest : count_by f made + 1 ≡ count_by g made = k e in
        let left : count_by f (x ∷ made) ≡ one_if (f x) + count_by f made = count_more f x made in
        let right : count_by g (x ∷ made) ≡ one_if (g x) + count_by g made = count_more g x made in
        omega arith

-- what was made before an act

counted_same : (log : List Act) (made : List Made) (act : Act) (p : ℕ) (m : Made) → IsBefore log made act p →
    IsIn made m →
    (m.peer ≡ p → IsSpared p m.label act) → is_counted (act ∷ log) p m ≡ is_counted log p m
counted_same log made act p m b i s = by (m.peer == p) refl
  where
    by : (c : Bool) → (m.peer == p) ≡ c →
        (c && not (m.id == 1) && alive (act ∷ log) m.label) ≡ (c && not (m.id == 1) && alive log m.label)
    by true q =
        let own : m.peer ≡ p = eqb-true m.peer p q in
        ap (λ (c : Bool). true && not (m.id == 1) && c) (lasts_made log made act p m b i own (s own))
    by false q = refl

same_count : (log : List Act) (made : List Made) (act : Act) (p : ℕ) → IsBefore log made act p →
    ((m : Made) → IsIn made m → m.peer ≡ p → IsSpared p m.label act) →
    count_by (is_counted (act ∷ log) p) made ≡ count_by (is_counted log p) made
same_count log made act p b s =
    count_same (is_counted (act ∷ log) p) (is_counted log p) made (λ m i. counted_same log made act p m b i (s m i))

last_false : (a b : Bool) → (a && b && false) ≡ false
last_false true true = refl
last_false true false = refl
last_false false b = refl

one_fewer : (log : List Act) (made : List Made) (x p : ℕ) (m : Made) → IsBefore log made (acts.Drop x) p →
    IsDropped log made x p m → AreApart made →
    made_as made x ≡ Some m → m.peer ≡ p →
    count_by (is_counted (acts.Drop x ∷ log) p) made + 1 ≡ count_by (is_counted log p) made
one_fewer log made x p m b d a e o =
    let w : x ≤ length log = subst (λ (y : ℕ). y ≤ length log) d.labelled (b.all m d.among).within in
    let gone : alive (acts.Drop x ∷ log) m.label ≡ false =
    ap (alive (acts.Drop x ∷ log)) d.labelled ∙ dead_now log x w in
    let here : alive log m.label ≡ true = ap (alive log) d.labelled ∙ d.lives in
    let zero_of : is_counted (acts.Drop x ∷ log) p m ≡ false =
    ap (λ (c : Bool). (m.peer == p) && not (m.id == 1) && c) gone ∙ last_false (m.peer == p) (not (m.id == 1)) in
    let one_of : is_counted log p m ≡ true = rw (eq-eqb m.peer p o, d.not_first, here) refl in
    count_less (is_counted (acts.Drop x ∷ log) p) (is_counted log p) made x m a e zero_of one_of
    (λ n i q. counted_same log made (acts.Drop x) p n b i (λ u. q))

count_dropped : (log : List Act) (made : List Made) (x p : ℕ) (m : Made) (calls : List Call) →
    IsBefore log made (acts.Drop x) p → IsDropped log made x p m →
    AreApart made → made_as made x ≡ Some m → m.peer ≡ p →
    object_under calls m.id ≡ option_map object_of (named log made p m.id) →
    table.number_live calls ≡ count_by (is_counted log p) made + 1 →
    table.number_live (Drop m.id ∷ calls) ≡ count_by (is_counted (acts.Drop x ∷ log) p) made + 1
count_dropped log made x p m calls b d a e o f h =
    let under : object_under calls m.id ≡ Some (object_of m) = f ∙ ap (option_map object_of) d.names in
    let fewer : count_by (is_counted (acts.Drop x ∷ log) p) made + 1 ≡ count_by (is_counted log p) made =
    one_fewer log made x p m b d a e o in
    let less : table.number_live calls - 1 ≡ count_by (is_counted (acts.Drop x ∷ log) p) made + 1 = omega arith in
    rw (d.not_first, under) less

count_drop : (log : List Act) (made : List Made) (x p : ℕ) (calls : List Call) → IsBefore log made (acts.Drop x) p →
    AreApart made →
    ((id : ℕ) → object_under calls id ≡ option_map object_of (named log made p id)) →
    table.number_live calls ≡ count_by (is_counted log p) made + 1 →
    (o : Option Made) → made_as made x ≡ o →
    table.number_live (drop_call p o ++ calls) ≡ count_by (is_counted (acts.Drop x ∷ log) p) made + 1
count_drop log made x p calls b a f h None e =
    h ∙ ap (λ (n : ℕ). n + 1) (sym (same_count log made (acts.Drop x) p b
    (λ n i o. ne_eqb x n.label
    (λ t. (let s : Some n ≡ None = sym (b.all n i).known ∙ ap (made_as made) (sym t) ∙ e in cc)))))
count_drop log made x p calls b a f h (Some m) e = by (m.peer == p) refl
  where
    by : (c : Bool) → (m.peer == p) ≡ c →
        table.number_live ((if c then Drop m.id ∷ [] else []) ++ calls)
        ≡ count_by (is_counted (acts.Drop x ∷ log) p) made + 1
    by true q =
        let own : m.peer ≡ p = eqb-true m.peer p q in
        count_dropped log made x p m calls b (dropped log made x p m b e own) a e own (f m.id) h
    by false q =
        h ∙ ap (λ (n : ℕ). n + 1) (sym (same_count log made (acts.Drop x) p b
        (λ n i o. ne_eqb x n.label
        (λ t.
        (let s : n ≡ m = same_Some n m (sym (b.all n i).known ∙ ap (made_as made) (sym t) ∙ e) in
        true≢false (sym (eq-eqb m.peer p (ap (λ (y : Made). y.peer) (sym s) ∙ o)) ∙ q))))))

count_old : (log : List Act) (made : List Made) (act : Act) (p : ℕ) (calls : List Call) → IsBefore log made act p →
    AreApart made →
    ((id : ℕ) → object_under calls id ≡ option_map object_of (named log made p id)) →
    table.number_live calls ≡ count_by (is_counted log p) made + 1 →
    table.number_live (drop_calls made p act ++ calls) ≡ count_by (is_counted (act ∷ log) p) made + 1
count_old log made (acts.Drop x) p calls b a f h = count_drop log made x p calls b a f h (made_as made x) refl
count_old log made (acts.Gone q cause) p calls b a f h =
    h ∙ ap (λ (n : ℕ). n + 1)
    (sym (same_count log made (acts.Gone q cause) p b (λ m i o. other_goes log made q p cause b)))
count_old log made act p calls b a f h = h ∙ ap (λ (n : ℕ). n + 1) (sym (same_count log made act p b (λ m i o. tt)))

-- what is new

still_free : (log : List Act) (made : List Made) (act : Act) (p id : ℕ) → IsBefore log made act p →
    named log made p id ≡ None →
    (o : Option Made) → named (act ∷ log) made p id ≡ o → o ≡ None
still_free log made act p id b free None e = refl
still_free log made act p id b free (Some n) e =
    let f : IsFound (act ∷ log) made p id n = found (act ∷ log) made p id n e in
    let was : alive log n.label ≡ true = lived act log n.label (b.all n f.among).within f.lives in
    let here : named log made p id ≡ Some n =
    (λ k. named log made (sym f.peer k) (sym f.under k)) ∙ (b.all n f.among).names was in
    sym here ∙ free

count_one : (later : List Act) (p : ℕ) (m : Made) (made : List Made) (calls : List Call) →
    (m.peer ≡ p → (object_under calls m.id ≡ None) × ((m.id == 1) ≡ false)) →
    table.number_live calls ≡ count_by (is_counted later p) made + 1 →
    table.number_live (make_calls later p (m ∷ []) ++ calls) ≡ count_by (is_counted later p) (m ∷ made) + 1
count_one later p m made calls f h =
    by (m.peer == p) (alive later m.label) refl ∙ ap (λ (n : ℕ). n + 1) (sym (count_more (is_counted later p) m made))
  where
    by : (c a : Bool) → (m.peer == p) ≡ c →
        table.number_live ((if c && a then Make m.id m.interface m.label ∷ [] else []) ++ calls)
        ≡ one_if (c && not (m.id == 1) && a) + count_by (is_counted later p) made + 1
    by true true q =
        let k : (object_under calls m.id ≡ None) × ((m.id == 1) ≡ false) = f (eqb-true m.peer p q) in
        let more : table.number_live calls + 1 ≡ 1 + count_by (is_counted later p) made + 1 = omega arith in
        rw (k.0, k.1) more
    by true false q =
        rw (last_false true (not (m.id == 1)))
        (let more : table.number_live calls ≡ 0 + count_by (is_counted later p) made + 1 = omega arith in more)
    by false a q = let more : table.number_live calls ≡ 0 + count_by (is_counted later p) made + 1 = omega arith in more

count_new : (log : List Act) (made new : List Made) (act asked : Act) (n p : ℕ) (calls : List Call) →
    IsBefore log made act p →
    (new ≡ []) ⊎ IsOne log made n asked new →
    ((id : ℕ) → object_under calls id ≡ option_map object_of (named (act ∷ log) made p id)) →
    table.number_live calls ≡ count_by (is_counted (act ∷ log) p) made + 1 →
    table.number_live (make_calls (act ∷ log) p new ++ calls) ≡ count_by (is_counted (act ∷ log) p) (new ++ made) + 1
count_new log made new act asked n p calls b (inl none) f h =
    subst (λ ms. table.number_live (make_calls (act ∷ log) p ms ++ calls)
    ≡ count_by (is_counted (act ∷ log) p) (ms ++ made) + 1) (sym none) h
count_new log made new act asked n p calls b (inr o) f h =
    subst (λ ms. table.number_live (make_calls (act ∷ log) p ms ++ calls)
    ≡ count_by (is_counted (act ∷ log) p) (ms ++ made) + 1) (sym o.is)
    (count_one (act ∷ log) p o.one made calls
    (λ own.
    (let free : named log made p o.one.id ≡ None = ap (λ (y : ℕ). named log made y o.one.id) (sym own) ∙ o.free in
    let shows : named log made p 1 ≡ Some (display_of p) =
    (b.all (display_of p) b.display).names (kind_alive is_peer_kind log p b.peer) in (
      f o.one.id ∙ ap (option_map object_of)
          (still_free log made act p o.one.id b free (named (act ∷ log) made p o.one.id) refl),
      ne_eqb o.one.id 1
          (λ d. (let s : Some (display_of p) ≡ None = sym shows ∙ ap (named log made p) (sym d) ∙ free in cc)),
    )))
    h)

-- a peer that joins has its display alone

count_display : (later : List Act) (p : ℕ) (made : List Made) → is_peer later p ≡ true →
    ((m : Made) → IsIn made m → m.peer ≡ p → ⊥) →
    table.number_live (make_calls later p (display_of p ∷ []) ++ [])
    ≡ count_by (is_counted later p) (display_of p ∷ made) + 1
count_display later p made l s =
    let none : count_by (is_counted later p) made ≡ 0 =
    count_none (is_counted later p) made
    (λ m i. ap (λ (c : Bool). c && not (m.id == 1) && alive later m.label) (ne_eqb m.peer p (s m i))) in
    let right : count_by (is_counted later p) (display_of p ∷ made) + 1
    ≡ one_if (is_counted later p (display_of p)) + 0 + 1 =
    ap (λ (n : ℕ). n + 1)
    (count_more (is_counted later p) (display_of p) made
    ∙ ap (λ (n : ℕ). one_if (is_counted later p (display_of p)) + n) none) in
    let left : table.number_live (make_calls later p (display_of p ∷ []) ++ [])
    ≡ one_if (is_counted later p (display_of p)) + 0 + 1 =
    rw (eq-eqb p p refl, kind_alive is_peer_kind later p l) refl in
    left ∙ sym right

count_join : (later log : List Act) (made new : List Made) (act : Act) (n p : ℕ) → is_peer later p ≡ true →
    ((m : Made) → IsIn made m → m.peer ≡ p → ⊥) →
    (new ≡ []) ⊎ IsOne log made n act new → IsIn (new ++ made) (display_of p) →
    table.number_live (make_calls later p new ++ []) ≡ count_by (is_counted later p) (new ++ made) + 1
count_join later log made new act n p l s (inl none) i =
    absurd (s (display_of p) (subst (λ ms. IsIn (ms ++ made) (display_of p)) none i) refl)
count_join later log made new act n p l s (inr o) i = among (subst (λ ms. IsIn (ms ++ made) (display_of p)) o.is i)
  where
    among : (o.one ≡ display_of p) ⊎ IsIn made (display_of p) →
        table.number_live (make_calls later p new ++ []) ≡ count_by (is_counted later p) (new ++ made) + 1
    among (inl e) =
        subst (λ ms. table.number_live (make_calls later p ms ++ []) ≡ count_by (is_counted later p) (ms ++ made) + 1)
        (ap (λ (u : Made). u ∷ []) (sym e) ∙ sym o.is) (count_display later p made l s)
    among (inr j) = absurd (s (display_of p) j refl)

pub counted_live : CountedLive
counted_live [] p l = cc
counted_live (e ∷ older) p l =
    let log : List Act = log_of (past_of older) in
    let made : List Made = (past_of older).made in
    let asked : Act = (means e (length older + 1) (past_of older)).act in
    let new : List Made = (means e (length older + 1) (past_of older)).made in
    elim (cases_lt (length older) p) [
      | inl later ↦
          (let join : table.number_live (make_calls (log_of (past_of (e ∷ older))) p new ++ [])
          ≡ count_by (is_counted (log_of (past_of (e ∷ older))) p) (new ++ made) + 1 =
          count_join (log_of (past_of (e ∷ older))) log made new asked (length older + 1) p l (stranger older p later)
          (one_entry e older (sound older))
          (displayed (e ∷ older) p l) in
          rw (none_dropped made p (act_now e older) (stranger older p later), none_called older p later) join)
      | inr old ↦
          (let b : IsBefore log made (act_now e older) p = before e older p l old in
          let f : (id : ℕ) → object_under (calls_for older p) id ≡ option_map object_of (named log made p id) =
          (λ id. found_by_id older p id b.peer) in
          count_new log made new (act_now e older) asked (length older + 1) p
          (drop_calls made p (act_now e older) ++ calls_for older p) b
          (one_entry e older (sound older))
          (λ id. find_old log made (act_now e older) p id (calls_for older p) b (f id))
          (count_old log made (act_now e older) p (calls_for older p) b (apart older) f (counted_live older p b.peer)))
    ]
