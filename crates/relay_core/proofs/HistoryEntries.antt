-- The entries of a history: the live objects, by rising label, and how they move at one act.
use Rattle.std.proofs.Common.{◌≡◌, ℕ, ◌+◌, ◌≤◌, List, [], ◌∷◌, ◌++◌, length, map, Bool, true, false, Option, Some, None, ap, refl, sym, ◌∙◌, arith, inl, inr}
use Rattle.std.specs.Prelude.{◌==◌, ◌&&◌, if◌then◌else◌, filter, is_some}
use Rattle.std.proofs.lemmas.Bool.{ne_eqb, eq-eqb, cases_eq, eqb-true, true≢false}
use Rattle.std.proofs.lemmas.List.{map-append}
use Rattle.std.proofs.lemmas.List.Elements.{filter-append}
use Rattle.relay_model.specs.declared.act.Act.{Act}
use Rattle.relay_model.specs.Objects.{Object, owner, object, alive, labels, remains, made, maker}
use Rattle.relay_model.proofs.ObjectLaws.{remains_none}
use Rattle.relay_model.proofs.ActivationLaws.{Each, each_append, each_map}
use Rattle.relay_objects.specs.declared.object.Object.{Object as Kept}
use Rattle.relay_objects.specs.Objects.{find}
use Rattle.relay_core.specs.Stands.{entry_of, entry, entries}

pub eqb_sym : (x y : ℕ) → (x == y) ≡ (y == x)
eqb_sym x y =
    elim (cases_eq x y) [
      | inl e ↦ eq-eqb x y e ∙ sym (eq-eqb y x (sym e))
      | inr n ↦ ne_eqb x y n ∙ sym (ne_eqb y x (λ e. n (sym e)))
    ]

pub labels_within : (log : List Act) → Each (λ x. x ≤ length log) (labels log)
labels_within [] = tt
labels_within (act ∷ older) =
    each_append (λ x. x ≤ length (act ∷ older)) (labels older) (length older + 1)
    (each_map (λ x. x ≤ length older) (λ x. x ≤ length (act ∷ older)) (labels older) (labels_within older)
    (λ x k. omega arith)) (omega arith)

pub filter_all : {A : Type 0} (xs : List A) → filter (λ _. true) xs ≡ xs
filter_all [] = refl
filter_all (x ∷ xs) = ap (λ ys. x ∷ ys) (filter_all xs)

pub map_id : {A : Type 0} (xs : List A) → map (λ x. x) xs ≡ xs
map_id [] = refl
map_id (x ∷ xs) = ap (λ ys. x ∷ ys) (map_id xs)

-- how one label moves: dead stays dead, a survivor is changed
pub record Moves (a a' : Bool) (e e' : Kept) (touch : Kept → Kept) (survives : Kept → Bool) : Type 0 where
  pub dead : a ≡ false → a' ≡ false
  pub lives : a ≡ true → a' ≡ survives e
  pub touched : a ≡ true → a' ≡ true → touch e ≡ e'

moved_one : (a a' v : Bool) (e e' t : Kept) (xs ys : List Kept) (touch : Kept → Kept) (survives : Kept → Bool) →
    v ≡ survives e → t ≡ touch e →
    (a ≡ false → a' ≡ false) → (a ≡ true → a' ≡ v) → (a ≡ true → a' ≡ true → t ≡ e') →
    map touch (filter survives xs) ≡ ys →
    map touch (filter survives (if a then e ∷ xs else xs)) ≡ (if a' then e' ∷ ys else ys)
moved_one false a' v e e' t xs ys touch survives p q d l c k = rw (d refl) k
moved_one true true true e e' t xs ys touch survives p q d l c k =
    rw (← p) (let s : touch e ≡ e' = sym q ∙ c refl refl in cc)
moved_one true false true e e' t xs ys touch survives p q d l c k = absurd (true≢false (sym (l refl)))
moved_one true true false e e' t xs ys touch survives p q d l c k = absurd (true≢false (l refl))
moved_one true false false e e' t xs ys touch survives p q d l c k = rw (← p) k

pub map_if : (b : Bool) (f : ℕ → Kept) (x : ℕ) (xs : List ℕ) →
    map f (if b then x ∷ xs else xs) ≡ (if b then f x ∷ map f xs else map f xs)
map_if true f x xs = refl
map_if false f x xs = refl

moved_list : (e e' : ℕ → Kept) (a a' : ℕ → Bool) (touch : Kept → Kept) (survives : Kept → Bool) (xs : List ℕ) →
    Each (λ x. Moves (a x) (a' x) (e x) (e' x) touch survives) xs →
    map touch (filter survives (map e (filter a xs))) ≡ map e' (filter a' xs)
moved_list e e' a a' touch survives [] h = refl
moved_list e e' a a' touch survives (x ∷ xs) h =
    let m : Moves (a x) (a' x) (e x) (e' x) touch survives = h.0 in
    rw (map_if (a x) e x (filter a xs), map_if (a' x) e' x (filter a' xs))
    (moved_one (a x) (a' x) (survives (e x)) (e x) (e' x) (touch (e x)) (map e (filter a xs))
    (map e' (filter a' xs)) touch survives refl refl
    m.dead m.lives m.touched (moved_list e e' a a' touch survives xs h.1))

-- each object that was there moves so
abbrev pub AllMove : Act → List Act → (Kept → Kept) → (Kept → Bool) → Type 0
AllMove act log touch survives =
    (x : ℕ) → x ≤ length log →
    Moves (alive log x) (alive (act ∷ log) x) (entry log x) (entry (act ∷ log) x) touch survives

-- the entry of the act's own object
abbrev pub entry_new : Act → List Act → List Kept
entry_new act log = (if alive (act ∷ log) (length log + 1) then entry (act ∷ log) (length log + 1) ∷ [] else [])

last_entry : (b : Bool) (f : ℕ → Kept) (x : ℕ) → map f (if b then x ∷ [] else []) ≡ (if b then f x ∷ [] else [])
last_entry true f x = refl
last_entry false f x = refl

pub entries_step : (act : Act) (log : List Act) (touch : Kept → Kept) (survives : Kept → Bool) →
    AllMove act log touch survives →
    entries (act ∷ log) ≡ map touch (filter survives (entries log)) ++ entry_new act log
entries_step act log touch survives h =
    let old : map touch (filter survives (entries log))
    ≡ map (entry (act ∷ log)) (filter (alive (act ∷ log)) (labels log)) =
    moved_list (entry log) (entry (act ∷ log)) (alive log) (alive (act ∷ log)) touch survives (labels log)
    (each_map (λ x. x ≤ length log)
    (λ x. Moves (alive log x) (alive (act ∷ log) x) (entry log x) (entry (act ∷ log) x) touch survives) (labels log)
    (labels_within log) h) in
    rw (
      filter-append (alive (act ∷ log)) (labels log) ((length log + 1) ∷ []),
      map-append (entry (act ∷ log)) (filter (alive (act ∷ log)) (labels log))
          (filter (alive (act ∷ log)) ((length log + 1) ∷ [])),
      last_entry (alive (act ∷ log) (length log + 1)) (entry (act ∷ log)) (length log + 1),
      old,
    ) refl

-- an entry shows its label
entry_label_of : (log : List Act) (x : ℕ) (o : Option Object) → (entry_of log x o).label ≡ x
entry_label_of log x None = refl
entry_label_of log x (Some object) = refl

pub entry_label : (log : List Act) (x : ℕ) → (entry log x).label ≡ x
entry_label log x = entry_label_of log x (object log x)

-- looking an entry up

abbrev pub has : List ℕ → ℕ → Bool
has [] x = false
has (y ∷ ys) x = (if y == x then true else has ys x)

find_if : (b : Bool) (o : Kept) (os : List Kept) (x : ℕ) →
    find (if b then o ∷ os else os) x ≡ (if b && (o.label == x) then Some o else find os x)
find_if true o os x = refl
find_if false o os x = refl

found_one : (e : ℕ → Kept) (a : ℕ → Bool) (y x : ℕ) (b c : Bool) (r : Option Kept) (h : Bool) → (y == x) ≡ c → b ≡ c →
    r ≡ (if h && a x then Some (e x) else None) →
    (if a y && b then Some (e y) else r) ≡ (if (if c then true else h) && a x then Some (e x) else None)
found_one e a y x b false r h d q k = rw (q, and_no (a y)) k
  where
    and_no : (b : Bool) → (b && false) ≡ false
    and_no true = refl
    and_no false = refl
found_one e a y x b true r h d q k = rw (q, eqb-true y x d) (at (a x) (e x) r h k)
  where
    at : (b : Bool) (o : Kept) (r : Option Kept) (h : Bool) → r ≡ (if h && b then Some o else None) →
        (if b && true then Some o else r) ≡ (if b then Some o else None)
    at true o r h k = refl
    at false o r h k = k ∙ no h o
      where
        no : (h : Bool) (o : Kept) → (if h && false then Some o else None) ≡ None
        no true o = refl
        no false o = refl

found_list : (e : ℕ → Kept) (a : ℕ → Bool) (xs : List ℕ) (x : ℕ) → ((y : ℕ) → (e y).label ≡ y) →
    find (map e (filter a xs)) x ≡ (if has xs x && a x then Some (e x) else None)
found_list e a [] x l = refl
found_list e a (y ∷ ys) x l =
    rw (map_if (a y) e y (filter a ys), find_if (a y) (e y) (map e (filter a ys)) x)
    (found_one e a y x ((e y).label == x) (y == x) (find (map e (filter a ys)) x) (has ys x) refl
    (ap (λ z. z == x) (l y)) (found_list e a ys x l))

has_push : (xs : List ℕ) (y x : ℕ) → has (xs ++ y ∷ []) x ≡ (if x == y then true else has xs x)
has_push [] y x = rw (eqb_sym y x) refl
has_push (z ∷ zs) y x = rw (has_push zs y x) (swap (z == x) (x == y) (has zs x))
  where
    swap : (a b c : Bool) →
        (if a then true else (if b then true else c)) ≡ (if b then true else (if a then true else c))
    swap true true c = refl
    swap true false c = refl
    swap false b c = refl

listed_by : (act : Act) (older : List Act) (x : ℕ) (c : Bool) → (alive older x ≡ true → has (labels older) x ≡ true) →
    is_some (if c then made act x (owner (object older (maker act))) else remains act x (object older x)) ≡ true →
    (if c then true else has (labels older) x) ≡ true
listed_by act older x true k h = refl
listed_by act older x false k h = at act x (object older x) (has (labels older) x) k h
  where
    at : (act : Act) (x : ℕ) (o : Option Object) (b : Bool) → (is_some o ≡ true → b ≡ true) →
        is_some (remains act x o) ≡ true → b ≡ true
    at act x None b k h = absurd (true≢false (sym h ∙ ap is_some (remains_none act x)))
    at act x (Some object) b k h = k refl

-- a live object is among the labels
listed : (log : List Act) (x : ℕ) → alive log x ≡ true → has (labels log) x ≡ true
listed [] x h = cc
listed (act ∷ older) x h =
    rw (has_push (labels older) (length older + 1) x)
    (listed_by act older x (x == (length older + 1)) (listed older x) h)

abbrev pub found_of : List Act → ℕ → Option Object → Option Kept
found_of log x None = None
found_of log x (Some object) = Some (entry_of log x (Some object))

found_by : (log : List Act) (x : ℕ) (o : Option Object) → object log x ≡ o →
    (if has (labels log) x && is_some o then Some (entry_of log x o) else None) ≡ found_of log x o
found_by log x None e = rw (and_no (has (labels log) x)) refl
  where
    and_no : (b : Bool) → (b && false) ≡ false
    and_no true = refl
    and_no false = refl
found_by log x (Some object) e =
    let there : has (labels log) x ≡ true = listed log x (ap is_some e) in
    rw there refl

-- what the relay finds of a label
pub found : (log : List Act) (x : ℕ) → find (entries log) x ≡ found_of log x (object log x)
found log x = found_list (entry log) (alive log) (labels log) x (entry_label log) ∙ found_by log x (object log x) refl
