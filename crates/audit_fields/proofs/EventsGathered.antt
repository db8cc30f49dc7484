-- What events make of what is gathered.
use Rattle.std.proofs.Common.{◌≡◌, ℕ, zero, suc, ◌-◌, Bool, true, false, ◌||◌, List, [], ◌∷◌, ◌++◌, length, Some, refl, sym, ap, subst, ◌∙◌, arith}
use Rattle.std.specs.Prelude.{if◌then◌else◌, ◌==◌}
use Rattle.std.specs.List.{slice_get, flat_map, AllByRecursion}
use Rattle.std.proofs.lemmas.Bool.{eq-eqb, ne_eqb, eqb-true}
use Rattle.broker_core.specs.Reached.{Reached}
use Rattle.broker_core.specs.Watched.{Watched}
use Rattle.broker_core.specs.Watched.Watched.{Entered, Placed, Passed, Modified, Put}
use Rattle.audit_fields.specs.declared.side.Side.{Side}
use Rattle.audit_fields.specs.Gathering.{told_side, told_at, is_gained, gained_by, Gathering, gathered_for, gathered, IsGatheredBy, MayGather}
use Rattle.audit_fields.proofs.SidesTold.{IsTold, told_none, told_once, told_then, told_here, told_other, told_length}

-- ---- all of a list

abbrev pub all_gathered : List Watched → Gathering → Gathering
all_gathered [] g = g
all_gathered (event ∷ rest) g = all_gathered rest (gathered event g)

pub record AreGathered (before : Gathering) (events : List Watched) (after : Gathering) : Type 0 where
  pub whole : before.is_short ≡ false
  pub is : after ≡ all_gathered events before

pub reached_all : (events : List Watched) (g h : Gathering) → Reached MayGather g events h → h.is_short ≡ false →
    AreGathered g events h
reached_all [] g h same e = record { whole = ap (λ (x : Gathering). x.is_short) (sym same) ∙ e; is = same }
reached_all (event ∷ rest) g h r e =
    let later = reached_all rest r.0 h r.2 e in
    let first : IsGatheredBy g event r.0 = r.1 later.whole in
    record { whole = first.whole; is = later.is ∙ ap (all_gathered rest) first.is }

-- ---- what is put for one peer

-- what an event puts for the peer q
abbrev pub put_to : ℕ → Watched → List ℕ
put_to q (Put n p bytes tokens) = (if p == q then bytes else [])
put_to q _ = []

abbrev pub puts_to : ℕ → List Watched → List ℕ
puts_to q events = flat_map (put_to q) events

-- it is no entry
abbrev pub IsInner : Watched → Type 0
IsInner (Entered n e act log) = ⊥
IsInner _ = Unit {0}

-- the side at a place was told these bytes
pub record IsToldAt (bytes : List ℕ) (side : Side) (sides : List Side) (k : ℕ) : Type 0 where
  pub after : Side
  pub at : slice_get sides k ≡ Some after
  pub told : IsTold bytes side after

-- nothing was put for it
same_at : (k : ℕ) (sides : List Side) (side : Side) → slice_get sides k ≡ Some side → IsToldAt [] side sides k
same_at k sides side e = record { after = side; at = e; told = told_none side }

put_at : (q k : ℕ) (bytes : List ℕ) (g : Gathering) (side : Side) → slice_get g.sides k ≡ Some side →
    IsToldAt (if q == suc k then bytes else []) side (gathered_for q bytes g).sides k
put_at zero k bytes g side e = rw (ne_eqb 0 (suc k) (λ d. omega (arith, d))) (same_at k g.sides side e)
put_at (suc p) k bytes g side e =
    let back : suc p - 1 ≡ p = omega arith in
    rw (ne_eqb (suc p) 0 (λ d. omega (arith, d)))
    (subst (λ i. IsToldAt (if suc p == suc k then bytes else []) side (told_at i bytes g.sides) k) (sym back)
    (by (suc p == suc k) refl))
  where
    by : (b : Bool) → (suc p == suc k) ≡ b → IsToldAt (if b then bytes else []) side (told_at p bytes g.sides) k
    by true same =
        let is : p ≡ k = (let s = eqb-true (suc p) (suc k) same in omega (arith, s)) in
        record {
          after = told_side bytes side;
          at = ap (λ i. slice_get (told_at i bytes g.sides) k) is ∙ told_here k bytes g.sides side e;
          told = told_once bytes side;
        }
    by false other =
        let differs : p ≡ k → ⊥ = λ s. (let no = sym (eq-eqb (suc p) (suc k) (ap suc s)) ∙ other in cc) in
        same_at k (told_at p bytes g.sides) side (told_other p k bytes g.sides differs ∙ e)

one_at : (event : Watched) (k : ℕ) (g : Gathering) (side : Side) → IsInner event → slice_get g.sides k ≡ Some side →
    IsToldAt (put_to (suc k) event) side (gathered event g).sides k
one_at (Entered n e act log) k g side i is = absurd i
one_at (Placed n q id x y) k g side i is = same_at k g.sides side is
one_at (Passed n time key state) k g side i is = same_at k g.sides side is
one_at (Modified n mods) k g side i is = same_at k g.sides side is
one_at (Put n q bytes tokens) k g side i is = put_at q k bytes g side is

pub all_at : (events : List Watched) (k : ℕ) (g : Gathering) (side : Side) → AllByRecursion IsInner events →
    slice_get g.sides k ≡ Some side → IsToldAt (puts_to (suc k) events) side (all_gathered events g).sides k
all_at [] k g side i is = same_at k g.sides side is
all_at (event ∷ rest) k g side i is =
    let first = one_at event k g side i.0 is in
    let later = all_at rest k (gathered event g) first.after i.1 first.at in
    record {
      after = later.after;
      at = later.at;
      told =
          told_then (put_to (suc k) event) (puts_to (suc k) rest) side first.after later.after first.told
          later.told;
    }

-- ---- how many sides

put_length : (q : ℕ) (bytes : List ℕ) (g : Gathering) → length (gathered_for q bytes g).sides ≡ length g.sides
put_length q bytes g = by (q == 0)
  where
    by : (b : Bool) →
        length (if b then g
        else record g { sides = told_at (q - 1) bytes g.sides; gained = gained_by q g.gained }).sides
        ≡ length g.sides
    by true = refl
    by false = told_length (q - 1) bytes g.sides

pub all_length : (events : List Watched) (g : Gathering) → AllByRecursion IsInner events →
    length (all_gathered events g).sides ≡ length g.sides
all_length [] g i = refl
all_length (Entered n e act log ∷ rest) g i = absurd i.0
all_length (Placed n q id x y ∷ rest) g i = all_length rest g i.1
all_length (Passed n time key state ∷ rest) g i = all_length rest g i.1
all_length (Modified n mods ∷ rest) g i = all_length rest g i.1
all_length (Put n q bytes tokens ∷ rest) g i =
    all_length rest (gathered_for q bytes g) i.1 ∙ put_length q bytes g

-- ---- who gained

any_append : (q : ℕ) (xs ys : List ℕ) → is_gained q (xs ++ ys) ≡ (is_gained q xs || is_gained q ys)
any_append q [] ys = refl
any_append q (x ∷ xs) ys = by (x == q) (any_append q xs ys)
  where
    by : (b : Bool) → is_gained q (xs ++ ys) ≡ (is_gained q xs || is_gained q ys) →
        (b || is_gained q (xs ++ ys)) ≡ ((b || is_gained q xs) || is_gained q ys)
    by true e = refl
    by false e = e

or_false : (a b : Bool) → (a || b) ≡ false → (a ≡ false) × (b ≡ false)
or_false true b e = cc
or_false false b e = (refl, e)

-- who didn't gain gained nothing before, and isn't the one
record DidNot (q p : ℕ) (gained : List ℕ) : Type 0 where
  before : is_gained q gained ≡ false
  other : (p == q) ≡ false

not_gained : (q p : ℕ) (gained : List ℕ) → is_gained q (gained_by p gained) ≡ false → DidNot q p gained
not_gained q p gained none = by (is_gained p gained) refl none
  where
    by : (b : Bool) → is_gained p gained ≡ b → is_gained q (if b then gained else gained ++ p ∷ []) ≡ false →
        DidNot q p gained
    by true there e = record { before = e; other = differs (p == q) refl }
      where
        differs : (c : Bool) → (p == q) ≡ c → c ≡ false
        differs true same =
            (let is = eqb-true p q same in let no = sym there ∙ ap (λ x. is_gained x gained) is ∙ e in cc)
        differs false same = refl
    by false there e =
        let parts = or_false (is_gained q gained) (is_gained q (p ∷ [])) (sym (any_append q gained (p ∷ [])) ∙ e) in
        record { before = parts.0; other = (or_false (p == q) false parts.1).0 }

-- what is put for who didn't gain is nothing
pub record GotNone (q : ℕ) (events : List Watched) (g : Gathering) : Type 0 where
  pub before : is_gained q g.gained ≡ false
  pub nothing : puts_to q events ≡ []

put_none : (q p : ℕ) (bytes : List ℕ) (g : Gathering) → (q ≡ 0 → ⊥) →
    is_gained q (gathered_for p bytes g).gained ≡ false →
    (is_gained q g.gained ≡ false) × ((if p == q then bytes else []) ≡ [])
put_none q p bytes g some none = by (p == 0) refl none
  where
    by : (b : Bool) → (p == 0) ≡ b →
        is_gained q (if b then g
        else record g { sides = told_at (p - 1) bytes g.sides; gained = gained_by p g.gained }).gained ≡ false →
        (is_gained q g.gained ≡ false) × ((if p == q then bytes else []) ≡ [])
    by true zero-is e =
        let differs : p ≡ q → ⊥ = λ s. some (sym s ∙ eqb-true p 0 zero-is) in
        (e, rw (ne_eqb p q differs) refl)
    by false other e =
        let d = not_gained q p g.gained e in
        (d.before, rw d.other refl)

pub none_put : (events : List Watched) (q : ℕ) (g : Gathering) → (q ≡ 0 → ⊥) → AllByRecursion IsInner events →
    is_gained q (all_gathered events g).gained ≡ false → GotNone q events g
none_put [] q g some i e = record { before = e; nothing = refl }
none_put (Entered n x act log ∷ rest) q g some i e = absurd i.0
none_put (Placed n p id x y ∷ rest) q g some i e =
    (let r = none_put rest q g some i.1 e in record { before = r.before; nothing = r.nothing })
none_put (Passed n time key state ∷ rest) q g some i e =
    (let r = none_put rest q g some i.1 e in record { before = r.before; nothing = r.nothing })
none_put (Modified n mods ∷ rest) q g some i e =
    (let r = none_put rest q g some i.1 e in record { before = r.before; nothing = r.nothing })
none_put (Put n p bytes tokens ∷ rest) q g some i e =
    let r = none_put rest q (gathered_for p bytes g) some i.1 e in
    let h = put_none q p bytes g some r.before in
    record { before = h.0; nothing = ap (λ (l : List ℕ). l ++ puts_to q rest) h.1 ∙ r.nothing }
