-- What is made is new, and a live object is what its id names.
use Rattle.std.proofs.Common.{◌≡◌, ℕ, List, [], ◌∷◌, Bool, true, false, Some, ap, refl, sym, ◌∙◌, subst, inl, inr, ◌⊎◌}
use Rattle.std.specs.Prelude.{◌==◌, ◌&&◌, if◌then◌else◌}
use Rattle.std.proofs.lemmas.Bool.{eqb-true, true≢false}
use Rattle.std.proofs.lemmas.Option.{same_Some}
use Rattle.relay_model.specs.declared.act.Act.{Act}
use Rattle.relay_model.specs.Objects.{made, alive}
use Rattle.broker_model.specs.Ids.{Made, named, made_as}

-- it is one of these
abbrev pub IsIn : List Made → Made → Type 0
IsIn [] m = ⊥
IsIn (x ∷ xs) m = (x ≡ m) ⊎ IsIn xs m

pub all_three : (a b c : Bool) → (a && b && c) ≡ true → (a ≡ true) × (b ≡ true) × (c ≡ true)
all_three true true true h = (refl, refl, refl)
all_three true true false h = cc
all_three true false c h = cc
all_three false b c h = cc

-- what an id names was made by the peer under it, and is alive
pub record IsFound (log : List Act) (made : List Made) (p id : ℕ) (m : Made) : Type 0 where
  pub among : IsIn made m
  pub peer : m.peer ≡ p
  pub under : m.id ≡ id
  pub lives : alive log m.label ≡ true

found_by : (log : List Act) (x : Made) (made : List Made) (p id : ℕ) (m : Made) (b : Bool) →
    ((x.peer == p) && (x.id == id) && alive log x.label) ≡ b →
    (named log made p id ≡ Some m → IsFound log made p id m) → (if b then Some x else named log made p id) ≡ Some m →
    IsFound log (x ∷ made) p id m
found_by log x made p id m true q k e =
    let t = all_three (x.peer == p) (x.id == id) (alive log x.label) q in
    let s : x ≡ m = same_Some x m e in
    let here : IsFound log (x ∷ made) p id x =
    record { among = inl refl; peer = eqb-true x.peer p t.0; under = eqb-true x.id id t.1; lives = t.2 } in
    subst (λ (u : Made). IsFound log (x ∷ made) p id u) s here
found_by log x made p id m false q k e =
    let f : IsFound log made p id m = k e in
    record { among = inr f.among; peer = f.peer; under = f.under; lives = f.lives }

pub found : (log : List Act) (made : List Made) (p id : ℕ) (m : Made) → named log made p id ≡ Some m →
    IsFound log made p id m
found log [] p id m e = cc
found log (x ∷ made) p id m e =
    found_by log x made p id m ((x.peer == p) && (x.id == id) && alive log x.label) refl (found log made p id m) e

-- what was made with a label
pub record IsWith (made : List Made) (label : ℕ) (m : Made) : Type 0 where
  pub among : IsIn made m
  pub named : m.label ≡ label

with_by : (x : Made) (made : List Made) (label : ℕ) (m : Made) (b : Bool) → (x.label == label) ≡ b →
    (made_as made label ≡ Some m → IsWith made label m) →
    (if b then Some x else made_as made label) ≡ Some m → IsWith (x ∷ made) label m
with_by x made label m true q k e =
    let s : x ≡ m = same_Some x m e in
    let here : IsWith (x ∷ made) label x = record { among = inl refl; named = eqb-true x.label label q } in
    subst (λ (u : Made). IsWith (x ∷ made) label u) s here
with_by x made label m false q k e = let w : IsWith made label m =
    k e in record { among = inr w.among; named = w.named }

pub made_with : (made : List Made) (label : ℕ) (m : Made) → made_as made label ≡ Some m → IsWith made label m
made_with [] label m e = cc
made_with (x ∷ made) label m e = with_by x made label m (x.label == label) refl (made_with made label m) e

-- what an id names is still named while it is alive, if nothing that was dead lives

named_on_by : (log later : List Act) (x : Made) (made : List Made) (p id : ℕ) (m : Made) (a b : Bool) →
    alive log x.label ≡ a → alive later x.label ≡ b → (b ≡ true → a ≡ true) →
    alive later m.label ≡ true → (named log made p id ≡ Some m → named later made p id ≡ Some m) →
    (if (x.peer == p) && (x.id == id) && a then Some x else named log made p id) ≡ Some m →
    (if (x.peer == p) && (x.id == id) && b then Some x else named later made p id) ≡ Some m
named_on_by log later x made p id m a b qa qb h l k e = named_on_cases ((x.peer == p)) ((x.id == id)) a b qb h e
  where
    named_on_cases : (c d a b : Bool) → alive later x.label ≡ b → (b ≡ true → a ≡ true) →
        (if c && d && a then Some x else named log made p id) ≡ Some m →
        (if c && d && b then Some x else named later made p id) ≡ Some m
    named_on_cases true true true true qb h e = e
    named_on_cases true true true false qb h e =
        let s : x ≡ m = same_Some x m e in
        absurd (true≢false (sym l ∙ ap (λ (u : Made). alive later u.label) (sym s) ∙ qb))
    named_on_cases true true false true qb h e = absurd (true≢false (sym (h refl)))
    named_on_cases true true false false qb h e = k e
    named_on_cases true false a b qb h e = k e
    named_on_cases false d a b qb h e = k e

pub named_on : (log later : List Act) (made : List Made) (p id : ℕ) (m : Made) →
    ((x : Made) → IsIn made x → alive later x.label ≡ true → alive log x.label ≡ true) → alive later m.label ≡ true →
    named log made p id ≡ Some m → named later made p id ≡ Some m
named_on log later [] p id m h l e = cc
named_on log later (x ∷ made) p id m h l e =
    named_on_by log later x made p id m (alive log x.label) (alive later x.label) refl refl (h x (inl refl)) l
    (named_on log later made p id m (λ y i. h y (inr i)) l) e

-- an id names the same while what the peer made under it lives and dies the same
pub named_same : (log later : List Act) (made : List Made) (p id : ℕ) →
    ((x : Made) → IsIn made x → x.peer ≡ p → x.id ≡ id → alive later x.label ≡ alive log x.label) →
    named later made p id ≡ named log made p id
named_same log later [] p id h = refl
named_same log later (x ∷ made) p id h =
    by (x.peer == p) (x.id == id) refl refl (named_same log later made p id (λ y i. h y (inr i)))
  where
    by : (c d : Bool) → (x.peer == p) ≡ c → (x.id == id) ≡ d → named later made p id ≡ named log made p id →
        (if c && d && alive later x.label then Some x else named later made p id)
        ≡ (if c && d && alive log x.label then Some x else named log made p id)
    by true true qc qd k = rw (h x (inl refl) (eqb-true x.peer p qc) (eqb-true x.id id qd), k) refl
    by true false qc qd k = k
    by false d qc qd k = k
