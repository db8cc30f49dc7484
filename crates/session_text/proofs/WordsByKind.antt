-- The words of a line by their kinds: they are found in its bytes, and what is read is what they spell.
use Rattle.std.proofs.Common.{◌≡◌, ℕ, ◌+◌, ◌≤◌, true, ◌&&◌, cond, List, [], ◌∷◌, length, eqb, Option, Some, None, refl, subst, arith}
use Rattle.std.specs.Prelude.{nat_le}
use Rattle.std.specs.List.{slice_split, join_with_byte}
use Rattle.std.specs.Str.{bytes_eq}
use Rattle.std.proofs.lemmas.Bool.{and_parts, leb-true}
use Rattle.session_text.specs.Words.{◌>>=◌}
use Rattle.session_text.specs.Reading.{line_limit}
use Rattle.session_text.proofs.TestsLetThrough.{arm}
use Rattle.session_text.proofs.LinesSplit.{lacks, AllLack, total, split_join, join_lacks, length-join}
use Rattle.session_text.proofs.WordKinds.{Kind}

-- ---- words that a line may have

-- words without a space and without a zero byte, with so many bytes and spaces at most
pub record Fits (ws : List (List ℕ)) (n : ℕ) : Type 0 where
  pub spaceless : AllLack 32 ws
  pub zeroless : AllLack 0 ws
  pub within : total ws ≤ n

pub none : Fits [] 0
none = record { spaceless = tt; zeroless = tt; within = omega arith }

pub more : {A : Type 0} {read : List ℕ → Option A} {spell : A → List ℕ} {Is : A → Type 0} {most : ℕ} →
    Kind read spell Is most → (x : A) → Is x
    → (ws : List (List ℕ)) (n : ℕ) → Fits ws n → Fits (spell x ∷ ws) (most + 1 + n)
more kind x h ws n fits = record {
  spaceless = (kind.spaceless x h, fits.spaceless);
  zeroless = (kind.zeroless x h, fits.zeroless);
  within = let short = kind.short x h in omega (arith, short, fits.within);
}

-- the words of a line are found in its bytes, of which there are no more than the limit and none is zero
pub record Parts (ws : List (List ℕ)) : Type 0 where
  pub split : slice_split (λ b. eqb b 32) (join_with_byte 32 ws) ≡ ws
  pub within : length (join_with_byte 32 ws) ≤ line_limit
  pub clean : lacks 0 (join_with_byte 32 ws) ≡ true

pub named : (name : List ℕ) (ws : List (List ℕ)) (n : ℕ) → Fits ws n →
    (lacks 32 name && lacks 0 name && nat_le (length name + 1 + n) line_limit) ≡ true → Parts (name ∷ ws)
named name ws n fits test =
    let (lack, small) = and_parts (lacks 32 name && lacks 0 name) (nat_le (length name + 1 + n) line_limit) test in
    let (spaceless, zeroless) = and_parts (lacks 32 name) (lacks 0 name) lack in
    record {
      split = split_join name ws spaceless fits.spaceless;
      within = omega (arith, leb-true (length name + 1 + n) line_limit small, fits.within, length-join (name ∷ ws));
      clean = join_lacks 0 (name ∷ ws) refl (zeroless, fits.zeroless);
    }

-- a name before words, of so many bytes and spaces at most
pub behind_name : (most : ℕ) (name : List ℕ) (ws : List (List ℕ)) (n : ℕ) → Fits ws n →
    (lacks 32 name && lacks 0 name && nat_le (length name + 1 + n) most) ≡ true → Fits (name ∷ ws) most
behind_name most name ws n fits test =
    let (lack, small) = and_parts (lacks 32 name && lacks 0 name) (nat_le (length name + 1 + n) most) test in
    let (spaceless, zeroless) = and_parts (lacks 32 name) (lacks 0 name) lack in
    record {
      spaceless = (spaceless, fits.spaceless);
      zeroless = (zeroless, fits.zeroless);
      within = omega (arith, leb-true (length name + 1 + n) most small, fits.within);
    }

-- words that fit into a line
pub whole : (ws : List (List ℕ)) (n : ℕ) → Fits ws n → 1 ≤ length ws → n ≤ line_limit → Parts ws
whole [] n fits some le = absurd (omega (arith, some))
whole (w ∷ ws) n fits some le = record {
  split = split_join w ws fits.spaceless.0 fits.spaceless.1;
  within = omega (arith, le, fits.within, length-join (w ∷ ws));
  clean = join_lacks 0 (w ∷ ws) refl fits.zeroless;
}

-- the other words of a line, by their kinds
pub with_one : {A : Type 0} {read : List ℕ → Option A} {spell : A → List ℕ} {Is : A → Type 0} {most : ℕ} →
    Kind read spell Is most
    → (name : List ℕ) (x : A) → Is x →
    (lacks 32 name && lacks 0 name && nat_le (length name + 1 + (most + 1 + 0)) line_limit) ≡ true →
    Parts (name ∷ spell x ∷ [])
with_one kind name x h test = named name _ _ (more kind x h _ _ none) test

pub with_two : {A B : Type 0} {read : List ℕ → Option A} {spell : A → List ℕ} {Is : A →
    Type 0} {most : ℕ} {read' : List ℕ → Option B} {spell' : B → List ℕ} {Is' : B → Type 0} {most' : ℕ}
    → Kind read spell Is most → Kind read' spell' Is' most' → (name : List ℕ) (x : A) (y : B) → Is x → Is' y
    → (lacks 32 name && lacks 0 name && nat_le (length name + 1 + (most + 1 + (most' + 1 + 0))) line_limit) ≡ true →
    Parts (name ∷ spell x ∷ spell' y ∷ [])
with_two kind kind' name x y h h' test = named name _ _ (more kind x h _ _ (more kind' y h' _ _ none)) test

-- ---- what is read from words

-- the words are those of what was read, and it is one that a line gives
pub record IsRead {X : Type 0} (words : X → List (List ℕ)) (Has : X → Type 0) (ws : List (List ℕ))
    (x : X) : Type 0 where
  pub same : ws ≡ words x
  pub has_line : Has x

-- a word that was read
pub bound : {A B : Type 0} {read : List ℕ → Option A} {spell : A → List ℕ} {Is : A → Type 0} {most : ℕ} →
    Kind read spell Is most
    → (word : List ℕ) (f : A → Option B) (y : B) {P : Type 0} → (read word >>= f) ≡ Some y →
    ((x : A) → Is x → word ≡ spell x → f x ≡ Some y → P) → P
bound {A} {B} {read} {spell} {Is} {most} kind word f y {P} e go =
    elim (read word) as (λ o. read word ≡ o → (o >>= f) ≡ Some y → P) [
      | None ↦ λ is none. absurd (cc none)
      | Some x ↦ λ is some. let known = kind.sound word x is in go x known.0 known.1 some
    ] refl e

pub made : {X : Type 0} {words : X → List (List ℕ)} {Has : X → Type 0} (ws : List (List ℕ)) (x y : X) →
    Some x ≡ Some y → ws ≡ words x → Has x → IsRead words Has ws y
made {X} {words} {Has} ws x y e same has_line = let is : x ≡ y =
    cc in subst (IsRead words Has ws) is (record { same = same; has_line = has_line })

-- a name and so many words
pub read_alone : {X : Type 0} {words : X → List (List ℕ)} {Has : X → Type 0} (name : List ℕ) (x : X) (k : List ℕ)
    (rest : Option X) (y : X)
    → name ∷ [] ≡ words x → Has x
    → cond (bytes_eq k name) (Some x) rest ≡ Some y → (rest ≡ Some y → IsRead words Has (k ∷ []) y) →
    IsRead words Has (k ∷ []) y
read_alone name x k rest y spelled within e next =
    arm k name (Some x) rest y e (λ is one. made _ x y one (rw is spelled) within) next

pub read_one : {X A : Type 0} {words : X → List (List ℕ)} {Has : X → Type 0} {read : List ℕ → Option A} {spell : A →
    List ℕ} {Is : A → Type 0} {most : ℕ} → Kind read spell Is most
    → (name : List ℕ) (make : A → X) (k a : List ℕ) (rest : Option X) (y : X)
    → ((x : A) → name ∷ spell x ∷ [] ≡ words (make x)) → ((x : A) → Is x → Has (make x))
    → cond (bytes_eq k name) (read a >>= (λ x. Some (make x))) rest ≡ Some y →
    (rest ≡ Some y → IsRead words Has (k ∷ a ∷ []) y) → IsRead words Has (k ∷ a ∷ []) y
read_one kind name make k a rest y spelled within e next =
    arm k name _ rest y e
    (λ is one. bound kind a _ y one (λ x h is' two. made _ (make x) y two (rw (is, is') (spelled x)) (within x h))) next

pub read_two : {X A B : Type 0} {words : X → List (List ℕ)} {Has : X → Type 0} {read : List ℕ → Option A} {spell : A →
    List ℕ} {Is : A → Type 0} {most : ℕ} {read' : List ℕ → Option B} {spell' : B → List ℕ} {Is' : B →
    Type 0} {most' : ℕ}
    → Kind read spell Is most → Kind read' spell' Is' most' →
    (name : List ℕ) (make : A → B → X) (k a b : List ℕ) (rest : Option X) (z : X)
    → ((x : A) (y : B) → name ∷ spell x ∷ spell' y ∷ [] ≡ words (make x y)) →
    ((x : A) (y : B) → Is x → Is' y → Has (make x y))
    → cond (bytes_eq k name) (read a >>= (λ x. read' b >>= (λ y. Some (make x y)))) rest ≡ Some z →
    (rest ≡ Some z → IsRead words Has (k ∷ a ∷ b ∷ []) z) → IsRead words Has (k ∷ a ∷ b ∷ []) z
read_two kind kind' name make k a b rest z spelled within e next =
    arm k name _ rest z e (λ is one. bound kind a _ z one (λ x h is1 two. bound kind' b _ z two (λ y h' is2 three.
    made _ (make x y) z three (rw (is, is1, is2) (spelled x y)) (within x y h h')))) next
