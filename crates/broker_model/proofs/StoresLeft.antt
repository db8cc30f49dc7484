-- The last store of a number, as stores are put, changed and let go.
use Rattle.std.proofs.Common.{◌≡◌, ℕ, zero, suc, ◌+◌, List, [], ◌∷◌, ◌++◌, set, drop, get_or, Bool, true, false, Option, Some, None, ap, refl, sym, ◌∙◌, eqb-true, eq-eqb, arith}
use Rattle.std.specs.Prelude.{◌==◌, not, filter, if◌then◌else◌}
use Rattle.std.specs.List.{slice_get}
use Rattle.std.specs.Option.{option_or}
use Rattle.std.proofs.lemmas.Bool.{ne_eqb}
use Rattle.std.proofs.lemmas.Option.{get_or_from_slice_get}
use Rattle.out_store.specs.Queue.{Cell, Queue, queue}
use Rattle.broker_model.specs.declared.left.Left.{Left}
use Rattle.broker_model.specs.Ends.{own_store, store_at, IsLast, kept, unless_empty, rest_of}

-- nothing behind nothing
or_none : (a : Option Queue) → option_or a None ≡ a
or_none None = refl
or_none (Some store) = refl

-- one that is of the number, and one that isn't
pub own_same : (n : ℕ) (one : Left) → one.number ≡ n → own_store n one ≡ Some one.store
own_same n one e = ap (λ b. if b then Some one.store else None) (eq-eqb one.number n e)

pub own_other : (n : ℕ) (one : Left) → (one.number ≡ n → ⊥) → own_store n one ≡ None
own_other n one d = ap (λ b. if b then Some one.store else None) (ne_eqb one.number n d)

-- what is forgotten is found no more, and all else is
pub forgotten : (n : ℕ) (left : List Left) → store_at n (filter (λ one. not (one.number == n)) left) ≡ None
forgotten n [] = refl
forgotten n (one ∷ left) = by (one.number == n) refl (forgotten n left)
  where
    rest : List Left
    rest = filter (λ one. not (one.number == n)) left

    by : (b : Bool) → (one.number == n) ≡ b → store_at n rest ≡ None →
        store_at n (if not b then one ∷ rest else rest) ≡ None
    by true e k = k
    by false e k =
        ap (λ (o : Option Queue). option_or o (own_store n one)) k
        ∙ ap (λ b. if b then Some one.store else None) e

pub others_found : (n r : ℕ) (left : List Left) → (r ≡ n → ⊥) →
    store_at r (filter (λ one. not (one.number == n)) left) ≡ store_at r left
others_found n r [] d = refl
others_found n r (one ∷ left) d = by (one.number == n) refl (others_found n r left d)
  where
    rest : List Left
    rest = filter (λ one. not (one.number == n)) left

    by : (b : Bool) → (one.number == n) ≡ b → store_at r rest ≡ store_at r left →
        store_at r (if not b then one ∷ rest else rest) ≡ option_or (store_at r left) (own_store r one)
    by true e k =
        let other : own_store r one ≡ None = own_other r one (λ f. d (sym f ∙ eqb-true one.number n e)) in
        k ∙ sym (ap (λ (o : Option Queue). option_or (store_at r left) o) other ∙ or_none (store_at r left))
    by false e k = ap (λ (o : Option Queue). option_or o (own_store r one)) k

-- one more behind others
pub found_last : (n : ℕ) (left : List Left) (one : Left) → one.number ≡ n →
    store_at n (left ++ one ∷ []) ≡ Some one.store
found_last n [] one e = own_same n one e
found_last n (other ∷ left) one e =
    ap (λ (o : Option Queue). option_or o (own_store n other)) (found_last n left one e)

pub found_behind : (r : ℕ) (left : List Left) (one : Left) → (one.number ≡ r → ⊥) →
    store_at r (left ++ one ∷ []) ≡ store_at r left
found_behind r [] one d = own_other r one d
found_behind r (other ∷ left) one d =
    ap (λ (o : Option Queue). option_or o (own_store r other)) (found_behind r left one d)

-- the last of its number

-- its store is found
pub found_at : (n place : ℕ) (left : List Left) (one : Left) → slice_get left place ≡ Some one →
    one.number ≡ n → store_at n (drop (place + 1) left) ≡ None → store_at n left ≡ Some one.store
found_at n place [] one there own later = cc
found_at n zero (x ∷ left) one there own later =
    let same : x ≡ one = cc in
    ap (λ (o : Option Queue). option_or o (own_store n x)) later
    ∙ ap (own_store n) same ∙ own_same n one own
found_at n (suc place) (x ∷ left) one there own later =
    let step : suc place + 1 ≡ suc (place + 1) = omega arith in
    ap (λ (o : Option Queue). option_or o (own_store n x))
    (found_at n place left one there own (ap (λ (k : ℕ). store_at n (drop k (x ∷ left))) (sym step) ∙ later))

-- another store in its place
pub found_set : (n place : ℕ) (left : List Left) (was one : Left) → slice_get left place ≡ Some was →
    one.number ≡ n → store_at n (drop (place + 1) left) ≡ None →
    store_at n (set left place one) ≡ Some one.store
found_set n place [] was one there own later = cc
found_set n zero (x ∷ left) was one there own later =
    ap (λ (o : Option Queue). option_or o (own_store n one)) later ∙ own_same n one own
found_set n (suc place) (x ∷ left) was one there own later =
    let step : suc place + 1 ≡ suc (place + 1) = omega arith in
    ap (λ (o : Option Queue). option_or o (own_store n x))
    (found_set n place left was one there own (ap (λ (k : ℕ). store_at n (drop k (x ∷ left))) (sym step) ∙ later))

pub others_set : (r place : ℕ) (left : List Left) (was one : Left) → slice_get left place ≡ Some was →
    (was.number ≡ r → ⊥) → (one.number ≡ r → ⊥) → store_at r (set left place one) ≡ store_at r left
others_set r place [] was one there d e = cc
others_set r zero (x ∷ left) was one there d e =
    let same : x ≡ was = cc in
    ap (λ (o : Option Queue). option_or (store_at r left) o)
    (own_other r one e ∙ sym (ap (own_store r) same ∙ own_other r was d))
others_set r (suc place) (x ∷ left) was one there d e =
    ap (λ (o : Option Queue). option_or o (own_store r x)) (others_set r place left was one there d e)

-- what is read at its place
pub record IsFound (n place : ℕ) (left : List Left) (one : Left) : Type 0 where
  pub there : slice_get left place ≡ Some one
  pub own : one.number ≡ n
  pub later : store_at n (drop (place + 1) left) ≡ None
  pub found : store_at n left ≡ Some one.store

pub is_found : (n place : ℕ) (left : List Left) (one : Left) → IsLast n place left → one ≡ get_or left place one →
    IsFound n place left one
is_found n place left one last read =
    let same : last.one ≡ one = sym (read ∙ get_or_from_slice_get left place last.one one last.there) in
    let there : slice_get left place ≡ Some one = last.there ∙ ap (λ (x : Left). Some x) same in
    let own : one.number ≡ n = ap (λ (x : Left). x.number) (sym same) ∙ last.own in
    record {
      there = there;
      own = own;
      later = last.later;
      found = found_at n place left one there own last.later;
    }

-- what is kept of a store

pub kept_none : (store : Queue) → store.cells ≡ [] → kept store ≡ None
kept_none store e = ap (λ (cells : List Cell). unless_empty cells store) e

pub kept_some : (store : Queue) → (store.cells ≡ [] → ⊥) → kept store ≡ Some store
kept_some store d = by store.cells refl
  where
    by : (cells : List Cell) → store.cells ≡ cells → unless_empty cells store ≡ Some store
    by [] e = absurd (d e)
    by (cell ∷ cells) e = refl

-- what stays of one that was taken from
pub rest_kept : (k : ℕ) (found : Option Queue) (was store : Queue) → found ≡ Some was →
    store ≡ queue (drop k was.cells) was.capacity → kept store ≡ rest_of k found
rest_kept k found was store e rest = ap kept rest ∙ sym (ap (rest_of k) e)
