-- Objects by rising label: a search by halves finds what was made with a label.
use Rattle.std.proofs.Common.{◌≡◌, ℕ, zero, suc, ◌<◌, ◌≤◌, Bool, true, false, List, [], ◌∷◌, ◌++◌, map, length, get_or, Option, Some, None, refl, sym, ap, subst, ◌∙◌, ⊎_elim, arith}
use Rattle.std.specs.Prelude.{◌==◌, nat_lt, if◌then◌else◌}
use Rattle.std.specs.List.{AllByRecursion, AllPairs}
use Rattle.std.specs.List.Sorted.{IsPartitionedBy, IsPartitionPoint}
use Rattle.std.proofs.lemmas.Bool.{cases_lt, eq-eqb, eqb-true, ne_eqb, lt-ltb, ltb-true, ltb-false}
use Rattle.std.proofs.lemmas.List.{reverse-append}
use Rattle.std.proofs.lemmas.List.Kept.{AllPairs-cons}
use Rattle.std.proofs.lemmas.List.Recursion.{found_at, found_nowhere}
use Rattle.broker_model.specs.Ids.{Made, made_as}
use Rattle.broker_audience.specs.declared.directory.Named.{Named}
use Rattle.broker_audience.specs.Directed.{made_of, made_from, IsNewest, AreFalling}

-- the first with the label
abbrev first_with : ℕ → List Named → Option Made
first_with label [] = None
first_with label (o ∷ rest) = (if o.label == label then Some (made_of o) else first_with label rest)

-- each label is below all that follow
abbrev pub AreOrdered : List Named → Type 0
AreOrdered [] = Unit {0}
AreOrdered (o ∷ rest) = AllByRecursion (λ r. o.label < r.label) rest × AreOrdered rest

-- the labels before the place are below the label, and the others are not
pub record IsPlace (objects : List Named) (label place : ℕ) : Type 0 where
  pub before : (k : ℕ) (d : Named) → k < place → (get_or objects k d).label < label
  pub behind : (k : ℕ) (d : Named) → place ≤ k → k < length objects → label ≤ (get_or objects k d).label

-- of falling labels the last is below the others
last_is_least : (ms : List Made) (m : Made) → AreFalling (ms ++ m ∷ []) →
    AllByRecursion (λ (n : Made). m.label < n.label) ms × AreFalling ms
last_is_least [] m h = (tt, tt)
last_is_least (n ∷ ms) m h = step ms n m h.0 h.1 (last_is_least ms m h.1)
  where
    step : (ms : List Made) (n m : Made) → IsNewest n.label (ms ++ m ∷ []) → AreFalling (ms ++ m ∷ []) →
        AllByRecursion (λ (k : Made). m.label < k.label) ms × AreFalling ms →
        AllByRecursion (λ (k : Made). m.label < k.label) (n ∷ ms) × AreFalling (n ∷ ms)
    step [] n m h falls rest = ((h, tt), (tt, tt))
    step (k ∷ ms) n m h falls rest = ((omega (arith, h, rest.0.0), rest.0), (h, rest.1))

-- the oldest is the last
pub front : (o : Named) (objects : List Named) → made_from (o ∷ objects) ≡ made_from objects ++ made_of o ∷ []
front o objects = reverse-append (made_of o ∷ []) (map made_of objects)

all_reversed : (P : ℕ → Type 0) (objects : List Named) → AllByRecursion (λ (m : Made). P m.label) (made_from objects) →
    AllByRecursion (λ (o : Named). P o.label) objects
all_reversed P [] h = tt
all_reversed P (o ∷ objects) h = let parts =
    split P (made_from objects) (made_of o) (subst (AllByRecursion (λ (m : Made). P m.label)) (front o objects) h) in
    (parts.1, all_reversed P objects parts.0)
  where
    split : (P : ℕ → Type 0) (ms : List Made) (m : Made) → AllByRecursion (λ (n : Made). P n.label) (ms ++ m ∷ []) →
        AllByRecursion (λ (n : Made). P n.label) ms × P m.label
    split P [] m h = (tt, h.0)
    split P (n ∷ ms) m h = let rest = split P ms m h.1 in ((h.0, rest.0), rest.1)

pub ordered : (objects : List Named) → AreFalling (made_from objects) → AreOrdered objects
ordered [] h = tt
ordered (o ∷ objects) h =
    let parts = last_is_least (made_from objects) (made_of o) (subst AreFalling (front o objects) h) in
    (all_reversed (λ n. o.label < n) objects parts.0, ordered objects parts.1)

-- labels above this one
none_above : (label : ℕ) (objects : List Named) → AllByRecursion (λ (o : Named). label < o.label) objects →
    first_with label objects ≡ None
none_above label [] h = refl
none_above label (o ∷ objects) h =
    rw (ne_eqb o.label label (λ e. absurd (omega (arith, h.0)))) (none_above label objects h.1)

-- one behind others none of which has the label
last_found : (ms : List Made) (m : Made) (label : ℕ) → made_as ms label ≡ None →
    made_as (ms ++ m ∷ []) label ≡ made_as (m ∷ []) label
last_found [] m label h = refl
last_found (n ∷ ms) m label h = step ms n m label (n.label == label) refl h (last_found ms m label)
  where
    step : (ms : List Made) (n m : Made) (label : ℕ) (b : Bool) → (n.label == label) ≡ b →
        made_as (n ∷ ms) label ≡ None →
        (made_as ms label ≡ None → made_as (ms ++ m ∷ []) label ≡ made_as (m ∷ []) label) →
        made_as (n ∷ ms ++ m ∷ []) label ≡ made_as (m ∷ []) label
    step ms n m label true e h rest = let none : Some n ≡ None = rw e at h in cc
    step ms n m label false e h rest = rw e (rest (rw e at h))

-- one that doesn't have it
last_passed : (ms : List Made) (m : Made) (label : ℕ) → (m.label == label) ≡ false →
    made_as (ms ++ m ∷ []) label ≡ made_as ms label
last_passed [] m label h = rw h refl
last_passed (n ∷ ms) m label h = ap (λ r. if n.label == label then Some n else r) (last_passed ms m label h)

-- with rising labels it is the same from either end
first_is : (objects : List Named) (label : ℕ) → AreOrdered objects →
    made_as (made_from objects) label ≡ first_with label objects
first_is [] label h = refl
first_is (o ∷ objects) label h = step objects o label h (o.label == label) refl (first_is objects label h.1)
  where
    step : (objects : List Named) (o : Named) (label : ℕ) → AreOrdered (o ∷ objects) → (b : Bool) →
        (o.label == label) ≡ b →
        made_as (made_from objects) label ≡ first_with label objects →
        made_as (made_from (o ∷ objects)) label ≡ first_with label (o ∷ objects)
    step objects o label h true e rest =
        let same : o.label ≡ label = eqb-true _ _ e in
        let none : first_with label objects ≡ None =
        none_above label objects (subst (λ n. AllByRecursion (λ (r : Named). n < r.label) objects) same h.0) in
        ap (λ ms. made_as ms label) (front o objects) ∙ last_found (made_from objects) (made_of o) label (rest ∙ none)
        ∙ rw e refl
    step objects o label h false e rest =
        ap (λ ms. made_as ms label) (front o objects) ∙ last_passed (made_from objects) (made_of o) label e ∙ rest
        ∙ rw e refl

pairs : (objects : List Named) → AreOrdered objects → AllPairs (λ (a b : Named). a.label < b.label) objects
pairs [] h = λ i j d above within. absurd (omega arith)
pairs (o ∷ objects) h =
    AllPairs-cons (λ (a b : Named). a.label < b.label) o objects (all_at objects o.label h.0) (pairs objects h.1)
  where
    all_at : (objects : List Named) (n : ℕ) → AllByRecursion (λ (r : Named). n < r.label) objects →
        (k : ℕ) (d : Named) → k < length objects → n < (get_or objects k d).label
    all_at [] n h k d within = absurd (omega arith)
    all_at (r ∷ objects) n h zero d within = h.0
    all_at (r ∷ objects) n h (suc k) d within = all_at objects n h.1 k d (omega arith)

-- as a search by halves asks for it
pub parted : (objects : List Named) (label : ℕ) → AreFalling (made_from objects) →
    IsPartitionedBy (λ o. nat_lt o.label label) objects
parted objects label falling i j d le within at =
    ⊎_elim
    (λ (l : i < j). let up : (get_or objects i d).label < (get_or objects j d).label =
    pairs objects (ordered objects falling) i j d l within in lt-ltb _ _ (omega (arith, ltb-true _ _ at)))
    (λ (g : j ≤ i). let same : j ≡ i = omega arith in rw same at at)
    (cases_lt i j)

pub placed : (objects : List Named) (label place : ℕ) →
    IsPartitionPoint (λ (o : Named). nat_lt o.label label ≡ true)
    (λ (o : Named). nat_lt o.label label ≡ false) objects place →
    IsPlace objects label place
placed objects label place point = record {
  before = λ k d below. ltb-true _ _ (point.0 k d (omega arith) below);
  behind = λ k d from within. ltb-false _ _ (point.1 k d from within);
}

-- the object at the place, where it has the label
pub found : (objects : List Named) (label place : ℕ) (o : Named) → AreFalling (made_from objects) →
    IsPlace objects label place → place < length objects →
    o ≡ get_or objects place o → o.label ≡ label → Some (made_of o) ≡ made_as (made_from objects) label
found objects label place o falling at within read same =
    let passes : ((get_or objects place o).label == label) ≡ true = rw (sym read) (eq-eqb _ _ same) in
    sym
    (first_is objects label (ordered objects falling)
    ∙ found_at (first_with label) (λ r. r.label == label) (λ r. Some (made_of r)) None refl
    (λ _ _. refl) objects place o within
    (λ k below. ne_eqb (get_or objects k o).label label (λ e. absurd (omega (arith, at.before k o below)))) passes
    ∙ ap (λ r. Some (made_of r)) (sym read))

-- none has it where the object at the place has not
pub not_found : (objects : List Named) (label place : ℕ) (o : Named) → AreFalling (made_from objects) →
    IsPlace objects label place → place < length objects →
    o ≡ get_or objects place o → (o.label ≡ label → ⊥) → None ≡ made_as (made_from objects) label
not_found objects label place o falling at within read other =
    sym
    (first_is objects label (ordered objects falling)
    ∙ found_nowhere (first_with label) (λ r. r.label == label) (λ r. Some (made_of r)) None refl (λ _ _. refl) objects o
    (λ k inside. ne_eqb (get_or objects k o).label label
    (λ e.
    ⊎_elim (λ (l : k < place). absurd (omega (arith, at.before k o l)))
    (λ (g : place ≤ k).
    ⊎_elim
    (λ (l : place < k). absurd
    (omega (arith, pairs objects (ordered objects falling) place k o l inside, at.behind place o (omega arith) within)))
    (λ (h : k ≤ place). let here : k ≡ place = omega arith in
    other (ap (λ (r : Named). r.label) read ∙ ap (λ i. (get_or objects i o).label) (sym here) ∙ e))
    (cases_lt place k))
    (cases_lt k place))))

-- nor where the place is behind all
pub none_behind : (objects : List Named) (label place : ℕ) → AreFalling (made_from objects) →
    IsPlace objects label place → length objects ≤ place →
    None ≡ made_as (made_from objects) label
none_behind [] label place falling at past = refl
none_behind (o ∷ objects) label place falling at past =
    sym
    (first_is (o ∷ objects) label (ordered (o ∷ objects) falling)
    ∙ found_nowhere (first_with label) (λ r. r.label == label) (λ r. Some (made_of r)) None refl (λ _ _. refl)
    (o ∷ objects) o
    (λ k inside. ne_eqb (get_or (o ∷ objects) k o).label label
    (λ e. absurd (omega (arith, at.before k o (omega arith))))))
