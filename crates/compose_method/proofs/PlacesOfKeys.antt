-- What the place of keys among the entries says of the entries that they begin with, and of those that begin with them.
use Rattle.std.proofs.Common.{◌≡◌, ℕ, ◌+◌, ◌-◌, ◌<◌, ◌≤◌, Bool, true, false, ◌&&◌, List, ◌++◌, length, get_or, drop, Some, None, sym, ◌∙◌, ap, ⊎_elim, arith}
use Rattle.std.specs.Prelude.{nat_eq, nat_lt, ◌==◌, find}
use Rattle.std.specs.List.{starts_with}
use Rattle.std.specs.List.Sorted.{IsPartitionedBy}
use Rattle.std.proofs.lemmas.Bool.{cases_Bool, cases_lt, and_parts, and_from, both_ways, false_from_ne_true, lt-ltb, ltb-true, eq-eqb, ne_eqb}
use Rattle.std.proofs.lemmas.List.Folds.{list_any_at, list_any_none}
use Rattle.std.proofs.lemmas.List.{get_or_default}
use Rattle.compose_method.specs.Order.{up_to}
use Rattle.compose_method.specs.Table.{single_of, begun_by, going_on, AreRising, AreInOrder, AreApart}
use Rattle.compose_method.specs.declared.entries.Entry.{Entry}
use Rattle.compose_method.specs.declared.singles.Single.{Single}
use Rattle.compose_method.proofs.DictionaryOrder.{begins_itself, between, front_is, up_to-begins, up_to-longer, up_to-no_longer, up_to-trans, up_to-turned}
use Rattle.compose_method.proofs.FoundByPlace.{find_is, find_none}

-- the entries before the place are those that don't stand behind the keys
pub record IsPlace (entries : List Entry) (keys : List ℕ) (place : ℕ) : Type 0 where
  pub bound : place ≤ length entries
  pub before : (k : ℕ) (d : Entry) → k < place → up_to (get_or entries k d).keys keys ≡ true
  pub behind : (k : ℕ) (d : Entry) → place ≤ k → k < length entries → up_to (get_or entries k d).keys keys ≡ false

-- entries in order don't stand before the keys again once one stands behind them
pub parted_entries : (entries : List Entry) (keys : List ℕ) → AreInOrder entries →
    IsPartitionedBy (λ e. up_to e.keys keys) entries
parted_entries entries keys order i j d le within at =
    ⊎_elim (λ (l : i < j). up_to-trans (get_or entries i d).keys (get_or entries j d).keys keys
    (order i j d l within) at)
    (λ (g : j ≤ i). let same : j ≡ i = omega arith in rw same at at)
    (cases_lt i j)

pub parted_singles : (singles : List Single) (key : ℕ) → AreRising singles →
    IsPartitionedBy (λ s. nat_lt s.key key) singles
parted_singles singles key rising i j d le within at =
    ⊎_elim (λ (l : i < j). let up : (get_or singles i d).key < (get_or singles j d).key = rising i j d l within in
    lt-ltb _ _ (omega (arith, ltb-true _ _ at)))
    (λ (g : j ≤ i). let same : j ≡ i = omega arith in rw same at at)
    (cases_lt i j)

-- only the last entry before the place can begin the keys
begins_last : (entries : List Entry) (keys : List ℕ) (place : ℕ) → AreInOrder entries → AreApart entries →
    IsPlace entries keys place
    → (k : ℕ) (d : Entry) → k < length entries → starts_with nat_eq keys (get_or entries k d).keys ≡ true →
    k + 1 ≡ place
begins_last entries keys place order apart at k d within begins =
    let e : List ℕ = (get_or entries k d).keys in
    let early : k < place =
    ⊎_elim (λ (l : k < place). l)
    (λ (g : place ≤ k). absurd (both_ways _ (at.behind k d g within) (up_to-begins e keys begins)))
    (cases_lt k place) in
    ⊎_elim (λ (l : k + 1 < place).
    let last : List ℕ = (get_or entries (place - 1) d).keys in
    let bound : place ≤ length entries = at.bound in
    let up : up_to e last ≡ true = order k (place - 1) d (omega arith) (omega arith) in
    let down : up_to last keys ≡ true = at.before (place - 1) d (omega arith) in
    let whole : up_to last (e ++ drop (length e) keys) ≡ true = rw (sym (front_is e keys begins)) down in
    absurd (both_ways _ (apart k (place - 1) d (omega arith) (omega arith)).1 (between e last _ up whole)))
    (λ (g : place ≤ k + 1). omega arith)
    (cases_lt (k + 1) place)

-- the entry before the place begins the keys, or none does
pub found : (entries : List Entry) (keys : List ℕ) (place : ℕ) (entry : Entry) → AreInOrder entries → AreApart entries →
    IsPlace entries keys place
    → 0 < place → entry ≡ get_or entries (place - 1) entry → starts_with nat_eq keys entry.keys ≡ true →
    Some entry ≡ begun_by entries keys
found entries keys place entry order apart at some read begins =
    let bound : place ≤ length entries = at.bound in
    let p : Entry → Bool = λ e. starts_with nat_eq keys e.keys in
    let passes : p (get_or entries (place - 1) entry) ≡ true = rw (sym read) begins in
    let e : find p entries ≡ Some (get_or entries (place - 1) entry) =
    find_is p entries (place - 1) entry (omega arith) passes
    (λ k below. false_from_ne_true (p (get_or entries k entry))
    (λ yes. absurd (omega (arith, begins_last entries keys place order apart at k entry (omega arith) yes)))) in
    sym (e ∙ ap Some (sym read))

pub not_found : (entries : List Entry) (keys : List ℕ) (place : ℕ) (entry : Entry) → AreInOrder entries →
    AreApart entries → IsPlace entries keys place
    → 0 < place → entry ≡ get_or entries (place - 1) entry → starts_with nat_eq keys entry.keys ≡ false →
    None ≡ begun_by entries keys
not_found entries keys place entry order apart at some read begins =
    let bound : place ≤ length entries = at.bound in
    let p : Entry → Bool = λ e. starts_with nat_eq keys e.keys in
    sym (find_none p entries
    (λ k d within. false_from_ne_true (p (get_or entries k d))
    (λ yes.
    let last : k + 1 ≡ place = begins_last entries keys place order apart at k d within yes in
    let here : k ≡ place - 1 = omega arith in
    let same : get_or entries k d ≡ entry =
    ap (λ i. get_or entries i d) here ∙ get_or_default entries (place - 1) d entry (omega arith) ∙ sym read in
    both_ways (p entry) begins (rw same at yes))))

pub none_before : (entries : List Entry) (keys : List ℕ) (place : ℕ) → AreInOrder entries → AreApart entries →
    IsPlace entries keys place
    → place ≡ 0 → None ≡ begun_by entries keys
none_before entries keys place order apart at zero_place =
    let p : Entry → Bool = λ e. starts_with nat_eq keys e.keys in
    sym (find_none p entries
    (λ k d within. false_from_ne_true (p (get_or entries k d))
    (λ yes. absurd (omega (arith, begins_last entries keys place order apart at k d within yes)))))

-- an entry that the keys begin stands at the place or behind it, and then so does the one at the place
pub goes_on-first : (entries : List Entry) (keys : List ℕ) (place k : ℕ) (d : Entry) → AreInOrder entries →
    IsPlace entries keys place → k < length entries
    → starts_with nat_eq (get_or entries k d).keys keys ≡ true → length keys < length (get_or entries k d).keys
    → (place ≤ k) × (starts_with nat_eq (get_or entries place d).keys keys ≡ true)
goes_on-first entries keys place k d order at within begins longer =
    let e : List ℕ = (get_or entries k d).keys in
    let first : List ℕ = (get_or entries place d).keys in
    let late : place ≤ k =
    ⊎_elim (λ (l : k < place). absurd (both_ways (up_to e keys) (up_to-longer keys e begins longer) (at.before k d l)))
    (λ (g : place ≤ k). g) (cases_lt k place) in
    let up : up_to keys first ≡ true = up_to-turned first keys (at.behind place d (omega arith) (omega arith)) in
    let down : up_to first e ≡ true =
    ⊎_elim (λ (l : place < k). order place k d l within)
    (λ (g : k ≤ place).
    let same : place ≡ k = omega arith in
    rw same (up_to-begins e e (begins_itself e)))
    (cases_lt place k) in
    let whole : up_to first (keys ++ drop (length keys) e) ≡ true = rw (sym (front_is keys e begins)) down in
    (late, between keys first (drop (length keys) e) up whole)

pub goes_on-at : (entries : List Entry) (keys : List ℕ) (place : ℕ) (entry : Entry) → AreInOrder entries →
    IsPlace entries keys place → place < length entries
    → entry ≡ get_or entries place entry → starts_with nat_eq entry.keys keys ≡ going_on entries keys
goes_on-at entries keys place entry order at within read =
    let p : Entry → Bool = λ e. starts_with nat_eq e.keys keys && nat_lt (length keys) (length e.keys) in
    ⊎_elim (λ (yes : starts_with nat_eq entry.keys keys ≡ true).
    let behind : up_to entry.keys keys ≡ false = rw (sym read) at (at.behind place entry (omega arith) within) in
    let longer : length keys < length entry.keys =
    ⊎_elim (λ (l : length keys < length entry.keys). l)
    (λ (g : length entry.keys ≤ length keys). absurd
    (both_ways (up_to entry.keys keys) behind (up_to-no_longer keys entry.keys yes g).0))
    (cases_lt (length keys) (length entry.keys)) in
    let passes : p (get_or entries place entry) ≡ true = rw (sym read) (and_from _ _ yes (lt-ltb _ _ longer)) in
    yes ∙ sym (list_any_at p entries place entry within passes))
    (λ (no : starts_with nat_eq entry.keys keys ≡ false).
    no ∙ sym (list_any_none p entries
    (λ k d inside. false_from_ne_true (p (get_or entries k d))
    (λ both.
    let parts = and_parts _ _ both in
    let first = goes_on-first entries keys place k d order at inside parts.0 (ltb-true _ _ parts.1) in
    let same : get_or entries place d ≡ entry = get_or_default entries place d entry within ∙ sym read in
    both_ways (starts_with nat_eq entry.keys keys) no (rw same at first.1)))))
    (cases_Bool (starts_with nat_eq entry.keys keys))

pub goes_on-past : (entries : List Entry) (keys : List ℕ) (place : ℕ) → AreInOrder entries →
    IsPlace entries keys place → length entries ≤ place → false ≡ going_on entries keys
goes_on-past entries keys place order at past =
    let p : Entry → Bool = λ e. starts_with nat_eq e.keys keys && nat_lt (length keys) (length e.keys) in
    sym (list_any_none p entries
    (λ k d inside. false_from_ne_true (p (get_or entries k d))
    (λ both.
    let parts = and_parts _ _ both in
    let first = goes_on-first entries keys place k d order at inside parts.0 (ltb-true _ _ parts.1) in
    absurd (omega (arith, first.0)))))

-- the singles before the place have keys below the key
pub record IsSinglePlace (singles : List Single) (key place : ℕ) : Type 0 where
  pub bound : place ≤ length singles
  pub before : (k : ℕ) (d : Single) → k < place → (get_or singles k d).key < key
  pub behind : (k : ℕ) (d : Single) → place ≤ k → k < length singles → key ≤ (get_or singles k d).key

pub single_found : (singles : List Single) (key place : ℕ) (single : Single) → IsSinglePlace singles key place →
    place < length singles
    → single ≡ get_or singles place single → single.key ≡ key → Some single ≡ single_of singles key
single_found singles key place single at within read same =
    let p : Single → Bool = λ s. s.key == key in
    let passes : p (get_or singles place single) ≡ true = rw (sym read) (eq-eqb _ _ same) in
    sym (find_is p singles place single within passes
    (λ k below. ne_eqb (get_or singles k single).key key (λ e. absurd (omega (arith, at.before k single below))))
    ∙ ap Some (sym read))

pub single_not_found : (singles : List Single) (key place : ℕ) (single : Single) → AreRising singles →
    IsSinglePlace singles key place → place < length singles
    → single ≡ get_or singles place single → (single.key ≡ key → ⊥) → None ≡ single_of singles key
single_not_found singles key place single rising at within read other =
    let p : Single → Bool = λ s. s.key == key in
    sym (find_none p singles
    (λ k d inside. ne_eqb (get_or singles k d).key key
    (λ e. ⊎_elim (λ (l : k < place). absurd (omega (arith, at.before k d l)))
    (λ (g : place ≤ k). ⊎_elim
    (λ (l : place < k). absurd (omega (arith, rising place k d l inside, at.behind place d (omega arith) within)))
    (λ (h : k ≤ place).
    let here : k ≡ place = omega arith in
    let same : get_or singles k d ≡ single =
    ap (λ i. get_or singles i d) here ∙ get_or_default singles place d single within ∙ sym read in
    other (rw same at e))
    (cases_lt place k))
    (cases_lt k place))))

pub no_single_behind : (singles : List Single) (key place : ℕ) → IsSinglePlace singles key place →
    length singles ≤ place → None ≡ single_of singles key
no_single_behind singles key place at past =
    let p : Single → Bool = λ s. s.key == key in
    sym (find_none p singles
    (λ k d inside. ne_eqb (get_or singles k d).key key (λ e. absurd (omega (arith, at.before k d (omega arith))))))
