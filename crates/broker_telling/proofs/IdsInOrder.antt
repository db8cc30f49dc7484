-- Of what a peer made under an id the one that lives is the first that wasn't freed, however often it used the id.
use Rattle.std.proofs.Common.{◌≡◌, ℕ, zero, suc, List, [], ◌∷◌, ◌++◌, length, Bool, true, false, Some, None, refl, sym, ap, subst, ◌∙◌, arith, inl, inr, ◌⊎◌}
use Rattle.std.specs.Prelude.{◌==◌, ◌&&◌, if◌then◌else◌}
use Rattle.std.specs.List.{slice_get}
use Rattle.std.proofs.lemmas.Bool.{eq-eqb, eqb-true, true≢false}
use Rattle.std.proofs.lemmas.List.{append-nil, append_assoc, length-append}
use Rattle.relay_model.specs.declared.act.Act.{Act}
use Rattle.relay_model.specs.Objects.{alive}
use Rattle.broker_model.specs.Ids.{Made, named}
use Rattle.broker_model.proofs.IdsAreNames.{IsIn}
use Rattle.broker_telling.specs.Streams.{made_under}

-- ---- lists

get_more : {A : Type 0} (xs ys : List A) (k : ℕ) (x : A) → slice_get xs k ≡ Some x → slice_get (xs ++ ys) k ≡ Some x
get_more [] ys k x e = (let no : slice_get [] k ≡ Some x = e in cc)
get_more (z ∷ xs) ys zero x e = e
get_more (z ∷ xs) ys (suc k) x e = get_more xs ys k x e

pub get_next : {A : Type 0} (xs : List A) (x : A) → slice_get (xs ++ x ∷ []) (length xs) ≡ Some x
get_next [] x = refl
get_next (z ∷ xs) x = get_next xs x

pub in_parts : (new made : List Made) (m : Made) → IsIn (new ++ made) m → IsIn new m ⊎ IsIn made m
in_parts [] made m i = inr i
in_parts (x ∷ new) made m (inl e) = inl (inl e)
in_parts (x ∷ new) made m (inr i) = by (in_parts new made m i)
  where
    by : IsIn new m ⊎ IsIn made m → IsIn (x ∷ new) m ⊎ IsIn made m
    by (inl j) = inl (inr j)
    by (inr j) = inr j

-- ---- what a peer made under an id

under-append : (new made : List Made) (p id : ℕ) →
    made_under (new ++ made) p id ≡ made_under made p id ++ made_under new p id
under-append [] made p id = sym (append-nil (made_under made p id))
under-append (x ∷ new) made p id =
    ap (λ (l : List Made). l ++ (if (x.peer == p) && (x.id == id) then x ∷ [] else [])) (under-append new made p id)
    ∙ append_assoc (made_under made p id) (made_under new p id) _

-- what stays where more is made
pub under_more : (new made : List Made) (p id k : ℕ) (m : Made) → slice_get (made_under made p id) k ≡ Some m →
    slice_get (made_under (new ++ made) p id) k ≡ Some m
under_more new made p id k m e =
    ap (λ (l : List Made). slice_get l k) (under-append new made p id)
    ∙ get_more (made_under made p id) (made_under new p id) k m e

both_eq : (m : Made) (p id : ℕ) → m.peer ≡ p → m.id ≡ id → ((m.peer == p) && (m.id == id)) ≡ true
both_eq m p id e f = rw (eq-eqb m.peer p e, eq-eqb m.id id f) refl

one_under : (m : Made) (p id : ℕ) → m.peer ≡ p → m.id ≡ id → made_under (m ∷ []) p id ≡ m ∷ []
one_under m p id e f = ap (λ (b : Bool). if b then m ∷ [] else []) (both_eq m p id e f)

-- a new one comes last
pub new_last : (m : Made) (made : List Made) (p id : ℕ) → m.peer ≡ p → m.id ≡ id →
    made_under (m ∷ made) p id ≡ made_under made p id ++ m ∷ []
new_last m made p id e f =
    ap (λ (b : Bool). made_under made p id ++ (if b then m ∷ [] else [])) (both_eq m p id e f)

pub new_other : (m : Made) (made : List Made) (p id : ℕ) → ((m.peer ≡ p) × (m.id ≡ id) → ⊥) →
    made_under (m ∷ made) p id ≡ made_under made p id
new_other m made p id differs = by (m.peer == p) (m.id == id) refl refl
  where
    by : (a b : Bool) → (m.peer == p) ≡ a → (m.id == id) ≡ b →
        made_under made p id ++ (if a && b then m ∷ [] else []) ≡ made_under made p id
    by true true e f = absurd (differs (eqb-true m.peer p e, eqb-true m.id id f))
    by true false e f = append-nil (made_under made p id)
    by false b e f = append-nil (made_under made p id)

-- what isn't named isn't alive
pub none_alive : (log : List Act) (made : List Made) (p id : ℕ) (m : Made) → named log made p id ≡ None →
    IsIn made m → m.peer ≡ p → m.id ≡ id → alive log m.label ≡ true → ⊥
none_alive log [] p id m e i q r l = absurd i
none_alive log (x ∷ made) p id m e i q r l = by ((x.peer == p) && (x.id == id) && alive log x.label) refl e i
    (none_alive log made p id m)
  where
    by : (b : Bool) → ((x.peer == p) && (x.id == id) && alive log x.label) ≡ b →
        (if b then Some x else named log made p id) ≡ None → (x ≡ m) ⊎ IsIn made m →
        (named log made p id ≡ None → IsIn made m → m.peer ≡ p → m.id ≡ id → alive log m.label ≡ true → ⊥) → ⊥
    by true t none j later = cc
    by false t none (inr j) later = later none j q r l
    by false t none (inl same) later =
        true≢false (sym (rw (
          eq-eqb x.peer p (ap (λ (y : Made). y.peer) same ∙ q),
          eq-eqb x.id id (ap (λ (y : Made). y.id) same ∙ r),
          ap (λ (y : Made). alive log y.label) same ∙ l,
        ) refl) ∙ t)

-- ---- the order

-- Of the peer p, of whose ids so many were freed: the object that lives under an id is the last that was made under it,
-- and the first that wasn't freed; where the peer is calm and nothing lives under an id, all under it were freed.
pub record IsOrdered (log : List Act) (made : List Made) (p : ℕ) (freed : ℕ → ℕ) (Calm : Type 0) : Type 0 where
  pub lives : (m : Made) → IsIn made m → m.peer ≡ p → alive log m.label ≡ true →
      (slice_get (made_under made p m.id) (freed m.id) ≡ Some m)
      × (length (made_under made p m.id) ≡ suc (freed m.id))
  pub free : (id : ℕ) → Calm → named log made p id ≡ None → length (made_under made p id) ≡ freed id

-- what an entry frees of the peer's ids, and what it makes of the peer's objects: what it makes lives under an id that was
-- free and calm; nothing more lives; what no more lives was freed, if the peer is calm after it
pub record Moves (log : List Act) (made : List Made) (p : ℕ) (freed : ℕ → ℕ) (Calm : Type 0)
    (later : List Act) (new : List Made) (freed' : ℕ → ℕ) (Calm' : Type 0) : Type 0 where
  pub apart : (a b : Made) → IsIn new a → IsIn new b → a ≡ b
  pub few : (new ≡ []) ⊎ ((m : Made) × (new ≡ m ∷ []))
  pub fresh : (m : Made) → IsIn new m → m.peer ≡ p →
      (named log made p m.id ≡ None) × (length (made_under made p m.id) ≡ freed m.id)
  pub old : (m : Made) → IsIn made m → m.peer ≡ p → alive later m.label ≡ true →
      (alive log m.label ≡ true) × (freed' m.id ≡ freed m.id)
  pub made_alive : (m : Made) → IsIn new m → m.peer ≡ p → alive later m.label ≡ true → freed' m.id ≡ freed m.id
  pub calm : (id : ℕ) → Calm' → named later (new ++ made) p id ≡ None →
      length (made_under (new ++ made) p id) ≡ freed' id

abbrev IsNext : List Made → (p : ℕ) → (freed : ℕ → ℕ) → Made → Type 0
IsNext made p freed m =
    (slice_get (made_under made p m.id) (freed m.id) ≡ Some m)
    × (length (made_under made p m.id) ≡ suc (freed m.id))

pub moved : (log : List Act) (made : List Made) (p : ℕ) (freed : ℕ → ℕ) (Calm : Type 0) (later : List Act)
    (new : List Made) (freed' : ℕ → ℕ) (Calm' : Type 0) → IsOrdered log made p freed Calm →
    Moves log made p freed Calm later new freed' Calm' → IsOrdered later (new ++ made) p freed' Calm'
moved log made p freed Calm later new freed' Calm' o h = record {
  lives = λ m i e l. one m (in_parts new made m i) e l;
  free = h.calm;
}
  where
    fresh_one : (m x : Made) → new ≡ x ∷ [] → IsIn new m → m.peer ≡ p → alive later m.label ≡ true → IsNext (new ++ made) p freed' m
    fresh_one m x is i e l =
        let f = h.fresh m i e in
        let same : freed' m.id ≡ freed m.id = h.made_alive m i e l in
        let x-is : x ≡ m = h.apart x m (subst (λ (n : List Made). IsIn n x) (sym is) (inl refl)) i in
        let all : made_under (new ++ made) p m.id ≡ made_under made p m.id ++ m ∷ [] =
        ap (λ (n : List Made). made_under (n ++ made) p m.id) (is ∙ ap (λ (y : Made). y ∷ []) x-is)
        ∙ new_last m made p m.id e refl in
        let long = length-append (made_under made p m.id) (m ∷ []) in (
          ap (λ (l : List Made). slice_get l (freed' m.id)) all
              ∙ ap (slice_get (made_under made p m.id ++ m ∷ [])) (same ∙ sym f.1)
              ∙ get_next (made_under made p m.id) m,
          ap length all ∙ (let n : length (made_under made p m.id ++ m ∷ []) ≡ suc (freed' m.id) =
              omega (arith, long, f.1, same) in n),
        )

    old_one : (m x : Made) → IsIn made m → m.peer ≡ p → alive later m.label ≡ true →
        ((new ≡ []) ⊎ ((y : Made) × (new ≡ y ∷ []))) → IsNext (new ++ made) p freed' m
    old_one m x i e l few =
        let a = h.old m i e l in
        let before = o.lives m i e a.0 in
        let same : made_under (new ++ made) p m.id ≡ made_under made p m.id = none few in (
          ap (λ (k : List Made). slice_get k (freed' m.id)) same ∙ ap (slice_get (made_under made p m.id)) a.1 ∙ before.0,
          ap length same ∙ before.1 ∙ ap suc (sym a.1),
        )
      where
        none : ((new ≡ []) ⊎ ((y : Made) × (new ≡ y ∷ []))) →
            made_under (new ++ made) p m.id ≡ made_under made p m.id
        none (inl z) = ap (λ (n : List Made). made_under (n ++ made) p m.id) z
        none (inr y) =
            ap (λ (n : List Made). made_under (n ++ made) p m.id) y.1
            ∙ new_other y.0 made p m.id (λ both.
            let f = h.fresh y.0 (subst (λ (n : List Made). IsIn n y.0) (sym y.1) (inl refl)) both.0 in
            none_alive log made p y.0.id m f.0 i e (sym both.1) (h.old m i e l).0)

    one : (m : Made) → IsIn new m ⊎ IsIn made m → m.peer ≡ p → alive later m.label ≡ true → IsNext (new ++ made) p freed' m
    one m (inr i) e l = old_one m m i e l h.few
    one m (inl i) e l = by h.few
      where
        by : ((new ≡ []) ⊎ ((y : Made) × (new ≡ y ∷ []))) → IsNext (new ++ made) p freed' m
        by (inl z) = absurd (subst (λ (n : List Made). IsIn n m) z i)
        by (inr y) = fresh_one m y.0 y.1 i e l
