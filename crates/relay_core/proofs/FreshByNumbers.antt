-- Whether a serial is fresh, by numbers.
use Rattle.std.proofs.Common.{◌≡◌, ℕ, zero, suc, ◌+◌, ◌-◌, ◌%◌, ◌^◌, ◌<◌, ◌≤◌, List, [], ◌∷◌, ◌++◌, length, Bool, true, false, Option, Some, None, ap, refl, sym, ◌∙◌, arith, inl, inr, get_or}
use Rattle.std.specs.Prelude.{◌==◌, ◌&&◌, ◌↔◌, min, nat_le, nat_lt, if◌then◌else◌, IsTrue, IsSomeAnd, slice_get, is_some}
use Rattle.std.proofs.lemmas.Bool.{ne_eqb, lt-ltb, le-ltb, le-leb, leb-true, cases_lt, true≢false}
use Rattle.relay_model.specs.declared.act.Act.{Act}
use Rattle.relay_model.specs.Activation.{Notice, notice_to, dones, at_position, named, is_from}
use Rattle.serial_count.specs.Serial.{named as position_named, is_recent}
use Rattle.relay_model.proofs.ActivationLaws.{Each, each_append, each_map, dones_under}
use Rattle.serial_count.proofs.DonesAgo.{fresh_by_distance}
use Rattle.relay_core.specs.Machine.{is_fresh}
use Rattle.relay_core.specs.Stands.{count_from}

-- a list that rises
abbrev pub Rises : List ℕ → Type 0
Rises [] = Unit {0}
Rises (x ∷ xs) = Each (λ y. x < y) xs × Rises xs

rises_push : (n : ℕ) (xs : List ℕ) → Rises xs → Each (λ x. x < n) xs → Rises (xs ++ n ∷ [])
rises_push n [] r u = (tt, tt)
rises_push n (x ∷ xs) r u = (each_append (λ y. x < y) xs n r.0 u.0, rises_push n xs r.1 u.1)

dones_rise_by : (o : Option Notice) (n : ℕ) (ds : List ℕ) → Rises ds → Each (λ x. x < n) ds →
    Rises (if is_some o then ds ++ n ∷ [] else ds)
dones_rise_by None n ds r u = r
dones_rise_by (Some said) n ds r u = rises_push n ds r u

dones_rise : (log : List Act) (m : ℕ) → Rises (dones log m)
dones_rise [] m = tt
dones_rise (act ∷ older) m =
    dones_rise_by (notice_to m act older) (length older + 1) (dones older m) (dones_rise older m)
    (each_map (λ x. x ≤ length older) (λ x. x < length older + 1) (dones older m) (dones_under older m)
    (λ x k. omega arith))

count_all : (b : ℕ) (xs : List ℕ) → Each (λ y. b ≤ y) xs → count_from b xs ≡ length xs
count_all b [] h = refl
count_all b (x ∷ xs) h = let k : count_from b xs ≡ length xs =
    count_all b xs h.1 in rw (le-leb b x h.0, k) (omega arith)

count_few : (b : ℕ) (xs : List ℕ) → count_from b xs ≤ length xs
count_few b [] = omega arith
count_few b (x ∷ xs) = at (nat_le b x) (count_from b xs) (length xs) (count_few b xs)
  where
    at : (c : Bool) (n k : ℕ) → n ≤ k → (if c then n + 1 else n) ≤ suc k
    at true n k h = omega arith
    at false n k h = omega arith

first_place : (c : Bool) (n k : ℕ) → n ≤ k → (c ≡ true → n ≡ k) → c ≡ nat_lt (suc k - (if c then n + 1 else n)) 1
first_place true n k h e = let d : n ≡ k = e refl in sym (lt-ltb (suc k - (n + 1)) 1 (omega arith))
first_place false n k h e = sym (le-ltb (suc k - n) 1 (omega arith))

later_place : (c : Bool) (n k i : ℕ) (v : Bool) → n ≤ k → (c ≡ true → n ≡ k) → v ≡ nat_lt (k - n) (i + 1) →
    v ≡ nat_lt (suc k - (if c then n + 1 else n)) (suc i + 1)
later_place true n k i v h e w =
    let d : n ≡ k = e refl in
    w ∙ lt-ltb (k - n) (i + 1) (omega arith) ∙ sym (lt-ltb (suc k - (n + 1)) (suc i + 1) (omega arith))
later_place false n k i v h e w =
    elim (cases_lt (k - n) (i + 1)) [
      | inl l ↦ w ∙ lt-ltb (k - n) (i + 1) l ∙ sym (lt-ltb (suc k - n) (suc i + 1) (omega arith))
      | inr g ↦ w ∙ le-ltb (k - n) (i + 1) g ∙ sym (le-ltb (suc k - n) (suc i + 1) (omega arith))
    ]

from_all : (b x : ℕ) (xs : List ℕ) → Each (λ y. x < y) xs → nat_le b x ≡ true → count_from b xs ≡ length xs
from_all b x xs u e =
    let l : b ≤ x = leb-true b x e in
    count_all b xs (each_map (λ y. x < y) (λ y. b ≤ y) xs u (λ y k. omega arith))

-- the element at a place isn't below b where it is one of the last, as many as aren't below b
place : (b : ℕ) (xs : List ℕ) (i : ℕ) → Rises xs → i < length xs →
    nat_le b (get_or xs i 0) ≡ nat_lt (length xs - count_from b xs) (i + 1)
place b [] i r h = absurd (omega arith)
place b (x ∷ xs) zero r h =
    first_place (nat_le b x) (count_from b xs) (length xs) (count_few b xs) (from_all b x xs r.0)
place b (x ∷ xs) (suc i) r h =
    later_place (nat_le b x) (count_from b xs) (length xs) i (nat_le b (get_or xs i 0)) (count_few b xs)
    (from_all b x xs r.0) (place b xs i r.1 (omega arith))

get_there : (xs : List ℕ) (i : ℕ) → i < length xs → slice_get xs i ≡ Some (get_or xs i 0)
get_there [] i h = absurd (omega arith)
get_there (x ∷ xs) zero h = refl
get_there (x ∷ xs) (suc i) h = get_there xs i (omega arith)

named_if : (b : Bool) (k n : ℕ) (o : Option ℕ) → (o ≡ Some n → (0 < n) × (n ≤ k)) →
    (if b then Some (suc k) else o) ≡ Some n → (0 < n) × (n ≤ suc k)
named_if true k n o h e = let d : suc k ≡ n = cc in (omega arith, omega arith)
named_if false k n o h e = let w : (0 < n) × (n ≤ k) = h e in (w.0, let l = w.1 in omega arith)

named_within : (k s n : ℕ) → position_named k s ≡ Some n → (0 < n) × (n ≤ k)
named_within zero s n e = cc
named_within (suc k) s n e = named_if (suc k % 2 ^ 32 == s) k n (position_named k s) (named_within k s n) e

-- the position is one of the last j of k
abbrev is_late : ℕ → ℕ → Option ℕ → Bool
is_late k j None = false
is_late k j (Some n) = nat_lt (k - j) n

from_late : (b : ℕ) (xs : List ℕ) (s : ℕ) (o : Option ℕ) → Rises xs → position_named (length xs) s ≡ o →
    is_from (Some b) (at_position xs o) ≡ is_late (length xs) (count_from b xs) o
from_late b xs s None r e = refl
from_late b xs s (Some n) r e =
    let w : (0 < n) × (n ≤ length xs) = named_within (length xs) s n e in
    let l : n - 1 < length xs = let a = w.0 in let c = w.1 in omega arith in
    let p : nat_le b (get_or xs (n - 1) 0) ≡ nat_lt (length xs - count_from b xs) (n - 1 + 1) =
    place b xs (n - 1) r l in
    let d : n - 1 + 1 ≡ n = let a = w.0 in omega arith in
    rw (get_there xs (n - 1) l) (p ∙ ap (λ v. nat_lt (length xs - count_from b xs) v) d)

late_false : (k j n : ℕ) → (IsTrue false ↔ (k - j < n)) → false ≡ nat_lt (k - j) n
late_false k j n e =
    elim (cases_lt (k - j) n) [ inl l ↦ absurd (true≢false (sym (e.1 l))) | inr g ↦ sym (le-ltb (k - j) n g) ]

late_by : (a : Bool) (k j : ℕ) (o : Option ℕ) → (IsTrue a ↔ IsSomeAnd o (λ n. k - j < n)) → a ≡ is_late k j o
late_by true k j None e = absurd (e.0 refl)
late_by false k j None e = refl
late_by true k j (Some n) e = sym (lt-ltb (k - j) n (e.0 refl))
late_by false k j (Some n) e = late_false k j n e

mod_low : (n : ℕ) → n % 2 ^ 32 < 2 ^ 32
mod_low n = omega arith

-- no position equals what is no serial
named_large : (k s : ℕ) → 2 ^ 32 ≤ s → position_named k s ≡ None
named_large zero s h = refl
named_large (suc k) s h =
    rw (ne_eqb (suc k % 2 ^ 32) s (λ e. let l : suc k % 2 ^ 32 < 2 ^ 32 = mod_low (suc k) in omega arith))
    (named_large k s h)

recent_late : (k j s : ℕ) → s < 2 ^ 32 → j ≤ k →
    is_recent (k % 2 ^ 32) (min j (2 ^ 32)) s ≡ is_late k j (position_named k s)
recent_late k j s l w = late_by (is_recent (k % 2 ^ 32) (min j (2 ^ 32)) s) k j (position_named k s)
    (fresh_by_distance k j s (k % 2 ^ 32) (min j (2 ^ 32)) ((k % 2 ^ 32 + (2 ^ 32 - s)) % 2 ^ 32) l w refl refl refl)

fresh_late : (k j s : ℕ) → j ≤ k → is_fresh (k % 2 ^ 32) (min j (2 ^ 32)) s ≡ is_late k j (position_named k s)
fresh_late k j s w =
    elim (cases_lt s (2 ^ 32)) [
      | inl l ↦ rw (lt-ltb s (2 ^ 32) l) (recent_late k j s l w)
      | inr g ↦ rw (le-ltb s (2 ^ 32) g, named_large k s g) refl
    ]

-- the relay's test is the search for the done that the serial names
pub fresh_is : (log : List Act) (m b serial : ℕ) →
    is_from (Some b) (named log m serial)
    ≡ is_fresh (length (dones log m) % 2 ^ 32) (min (count_from b (dones log m)) (2 ^ 32)) serial
fresh_is log m b serial =
    from_late b (dones log m) serial (position_named (length (dones log m)) serial) (dones_rise log m) refl ∙
    sym (fresh_late (length (dones log m)) (count_from b (dones log m)) serial (count_few b (dones log m)))

no_late : (s : ℕ) (b : Bool) → (b && nat_lt s 0) ≡ false
no_late s true = le-ltb s 0 (omega arith)
no_late s false = refl

-- where no activation is present nothing is fresh
pub fresh_none : (dones serial : ℕ) → is_fresh dones 0 serial ≡ false
fresh_none dones serial = no_late ((dones + (2 ^ 32 - serial)) % 2 ^ 32) (nat_lt serial (2 ^ 32))
