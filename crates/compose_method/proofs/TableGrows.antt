-- A table with one more single or entry is a table.
use Rattle.std.proofs.Common.{◌≡◌, ℕ, ◌+◌, ◌-◌, ◌<◌, ◌≤◌, Bool, true, false, ◌&&◌, List, [], ◌∷◌, length, get_or, take, drop, sym, ◌∙◌, ap, ⊎_elim, ◌⊎◌, arith}
use Rattle.std.specs.Prelude.{nat_eq, nat_lt, ◌==◌, All, AllPairs, insert, is_some}
use Rattle.std.specs.List.{starts_with, prefix_len}
use Rattle.std.proofs.lemmas.Bool.{cases_order, cases_lt, and_from, or_parts, lt-ltb, le-ltb, ltb-true, ltb-false, eqb-false, both_ways, false_from_ne_true}
use Rattle.std.proofs.lemmas.List.Edits.{length-insert, get_or-insert_below, get_or-insert_at, get_or-insert_above}
use Rattle.std.proofs.lemmas.List.Elements.{All-append, All-cons, All-take, All-drop}
use Rattle.std.proofs.lemmas.List.Folds.{list_any_at}
use Rattle.std.proofs.lemmas.List.Sums.{prefix_len_is, prefix_len-le-length, prefix_len_passes, prefix_len_stops}
use Rattle.compose_method.specs.Order.{up_to}
use Rattle.compose_method.specs.Table.{Table, IsTable, IsKeyText, AreKeys, single, entry, with_single, with_entry, begun_by, going_on, has_single, clashes, AreRising, AreInOrder, StandApart}
use Rattle.compose_method.specs.declared.entries.Entry.{Entry}
use Rattle.compose_method.specs.declared.singles.Single.{Single}
use Rattle.compose_method.proofs.FoundByPlace.{find_none-all}
use Rattle.compose_method.proofs.DictionaryOrder.{up_to-no_longer, up_to-turned}
use Rattle.compose_method.proofs.PlacesOfKeys.{IsPlace, IsSinglePlace, parted_entries, parted_singles}

All-insert : {X : Type 0} (P : X → Type 0) (xs : List X) (i : ℕ) (y : X) → All P xs → P y → All P (insert xs i y)
All-insert P xs i y all one =
    All-append P (take i xs) (y ∷ drop i xs) (All-take P i xs all) (All-cons P y (drop i xs) one (All-drop P i xs all))

-- where an element after an insertion comes from
get_or-insert_past : {X : Type 0} (xs : List X) (i : ℕ) (y d : X) (k : ℕ) → i < k → i ≤ length xs →
    get_or (insert xs i y) k d ≡ get_or xs (k - 1) d
get_or-insert_past xs i y d k above within =
    ap (λ n. get_or (insert xs i y) n d) (omega arith) ∙ get_or-insert_above xs i y d (k - 1) (omega arith) within

AllPairs-insert : {X : Type 0} (R : X → X → Type 0) (xs : List X) (i : ℕ) (y : X) → i ≤ length xs → AllPairs R xs
    → ((k : ℕ) (d : X) → k < i → R (get_or xs k d) y) →
    ((k : ℕ) (d : X) → i ≤ k → k < length xs → R y (get_or xs k d)) → AllPairs R (insert xs i y)
AllPairs-insert {X} R xs i y within pairs before behind m n d less inside =
    let size : length (insert xs i y) ≡ length xs + 1 = length-insert xs i y within in
    ⊎_elim (λ (here : m ≡ i).
    rw (here, get_or-insert_at xs i y d within, get_or-insert_past xs i y d n (omega arith) within)
    (behind (n - 1) d (omega arith) (omega arith)))
    (λ (other : (m < i) ⊎ (i < m)). ⊎_elim
    (λ (low : m < i). rw (get_or-insert_below xs i y d m low within)
    (⊎_elim (λ (there : n ≡ i). rw (there, get_or-insert_at xs i y d within) (before m d low))
    (λ (far : (n < i) ⊎ (i < n)). ⊎_elim
    (λ (l : n < i). rw (get_or-insert_below xs i y d n l within) (pairs m n d less (omega arith)))
    (λ (g : i < n). rw (get_or-insert_past xs i y d n g within) (pairs m (n - 1) d (omega arith) (omega arith)))
    far)
    (cases_order n i)))
    (λ (high : i < m). rw
    (get_or-insert_past xs i y d m high within, get_or-insert_past xs i y d n (omega arith) within)
    (pairs (m - 1) (n - 1) d (omega arith) (omega arith)))
    other)
    (cases_order m i)

-- the place is where the definition puts the new one
pub entry_place : (entries : List Entry) (keys : List ℕ) (place : ℕ) → IsPlace entries keys place →
    prefix_len (λ x. up_to x.keys keys) entries ≡ place
entry_place [] keys place at = omega (arith, at.bound)
entry_place (e ∷ es) keys place at =
    prefix_len_is (λ x. up_to x.keys keys) (e ∷ es) place e at.bound (λ k below. at.before k e below)
    (λ inside. at.behind place e (omega arith) inside)

pub single_place-is : (singles : List Single) (key place : ℕ) → IsSinglePlace singles key place →
    prefix_len (λ x. nat_lt x.key key) singles ≡ place
single_place-is [] key place at = omega (arith, at.bound)
single_place-is (s ∷ ss) key place at =
    prefix_len_is (λ x. nat_lt x.key key) (s ∷ ss) place s at.bound (λ k below. lt-ltb _ _ (at.before k s below))
    (λ inside. le-ltb _ _ (at.behind place s (omega arith) inside))

entries_place : (entries : List Entry) (keys : List ℕ) → AreInOrder entries →
    IsPlace entries keys (prefix_len (λ x. up_to x.keys keys) entries)
entries_place entries keys order =
    let p : Entry → Bool = λ x. up_to x.keys keys in
    record {
      bound = prefix_len-le-length p entries;
      before = λ k d below. prefix_len_passes p entries k d below;
      behind = λ k d from within. false_from_ne_true (p (get_or entries k d))
          (λ yes. both_ways (p (get_or entries (prefix_len p entries) d)) (prefix_len_stops p entries d (omega arith))
          (parted_entries entries keys order (prefix_len p entries) k d from within yes));
    }

singles_place : (singles : List Single) (key : ℕ) → AreRising singles →
    IsSinglePlace singles key (prefix_len (λ x. nat_lt x.key key) singles)
singles_place singles key rising =
    let p : Single → Bool = λ x. nat_lt x.key key in
    record {
      bound = prefix_len-le-length p singles;
      before = λ k d below. ltb-true _ _ (prefix_len_passes p singles k d below);
      behind = λ k d from within. ltb-false _ _ (false_from_ne_true (p (get_or singles k d))
          (λ yes. both_ways (p (get_or singles (prefix_len p singles) d)) (prefix_len_stops p singles d (omega arith))
          (parted_singles singles key rising (prefix_len p singles) k d from within yes)));
    }

pub with_single-table : (t : Table) (key : ℕ) (text : List ℕ) → IsTable t → has_single t key ≡ false →
    length t.singles < 1024 → IsKeyText text → IsTable (with_single (single key text) t)
with_single-table t key text h absent room valid =
    let place : ℕ = prefix_len (λ x. nat_lt x.key key) t.singles in
    let at = singles_place t.singles key h.rising in
    let others : All (λ s. (s.key == key) ≡ false) t.singles = find_none-all (λ s. s.key == key) t.singles absent in
    let bound : place ≤ length t.singles = at.bound in
    record {
      rising = AllPairs-insert (λ a b. a.key < b.key) t.singles place (single key text) bound h.rising at.before
          (λ k d from within.
          let le : key ≤ (get_or t.singles k d).key = at.behind k d from within in
          let ne : (get_or t.singles k d).key ≡ key → ⊥ = eqb-false _ _ (others k d within) in
          ⊎_elim (λ (same : key ≡ (get_or t.singles k d).key). absurd (ne (sym same)))
          (λ (other : (key < (get_or t.singles k d).key) ⊎ ((get_or t.singles k d).key < key)). ⊎_elim
          (λ (l : key < (get_or t.singles k d).key). l)
          (λ (g : (get_or t.singles k d).key < key). absurd (omega arith)) other)
          (cases_order key (get_or t.singles k d).key));
      in_order = h.in_order;
      apart = h.apart;
      few_singles = omega (arith, length-insert t.singles place (single key text) bound);
      few_entries = h.few_entries;
      single_texts = All-insert (λ s. IsKeyText s.text) t.singles place (single key text) h.single_texts valid;
      entry_texts = h.entry_texts;
      entry_keys = h.entry_keys;
    }

pub with_entry-table : (t : Table) (text keys : List ℕ) → IsTable t → clashes t keys ≡ false → length t.entries < 4096 →
    IsKeyText text → AreKeys keys
    → IsTable (with_entry (entry text keys) t)
with_entry-table t text keys h apart room valid several =
    let p : Entry → Bool = λ x. up_to x.keys keys in
    let place : ℕ = prefix_len p t.entries in
    let at = entries_place t.entries keys h.in_order in
    let bound : place ≤ length t.entries = at.bound in
    let parts = or_parts (is_some (begun_by t.entries keys)) (going_on t.entries keys) apart in
    let none_begins : All (λ e. starts_with nat_eq keys e.keys ≡ false) t.entries =
    find_none-all (λ e. starts_with nat_eq keys e.keys) t.entries parts.0 in
    let begins_none : (k : ℕ) (d : Entry) → k < length t.entries →
    starts_with nat_eq (get_or t.entries k d).keys keys ≡ false =
    λ k d within. false_from_ne_true (starts_with nat_eq (get_or t.entries k d).keys keys)
    (λ yes. ⊎_elim
    (λ (longer : length keys < length (get_or t.entries k d).keys).
    absurd (both_ways (going_on t.entries keys) parts.1
    (list_any_at (λ e. starts_with nat_eq e.keys keys && nat_lt (length keys) (length e.keys)) t.entries k d within
    (and_from _ _ yes (lt-ltb _ _ longer)))))
    (λ (short : length (get_or t.entries k d).keys ≤ length keys).
    absurd (both_ways (starts_with nat_eq keys (get_or t.entries k d).keys) (none_begins k d within)
    (up_to-no_longer keys (get_or t.entries k d).keys yes short).1))
    (cases_lt (length keys) (length (get_or t.entries k d).keys))) in
    record {
      rising = h.rising;
      in_order = AllPairs-insert (λ a b. up_to a.keys b.keys ≡ true) t.entries place
          (entry text keys) bound h.in_order at.before
          (λ k d from within. up_to-turned (get_or t.entries k d).keys keys (at.behind k d from within));
      apart = AllPairs-insert StandApart t.entries place (entry text keys) bound h.apart
          (λ k d below. (begins_none k d (omega arith), none_begins k d (omega arith)))
          (λ k d from within. (none_begins k d within, begins_none k d within));
      few_singles = h.few_singles;
      few_entries = omega (arith, length-insert t.entries place (entry text keys) bound);
      single_texts = h.single_texts;
      entry_texts = All-insert (λ e. IsKeyText e.text) t.entries place (entry text keys) h.entry_texts valid;
      entry_keys = All-insert (λ e. AreKeys e.keys) t.entries place (entry text keys) h.entry_keys several;
    }
