-- Peers' labels rise with their numbers, so a label has one number.
use Rattle.std.proofs.Common.{◌≡◌, ℕ, zero, suc, ◌+◌, ◌<◌, ◌≤◌, List, [], ◌∷◌, ◌++◌, length, Some, ap, refl, subst, arith, inl, inr, ◌⊎◌}
use Rattle.std.specs.List.{slice_get}
use Rattle.std.proofs.lemmas.Bool.{cases_lt}
use Rattle.std.proofs.lemmas.Option.{slice_get_within}
use Rattle.broker_model.specs.declared.journal.Entry.{Entry}
use Rattle.broker_model.specs.declared.journal.Entry.TheVariants as entries
use Rattle.broker_model.specs.Ids.{Joined, peer_at}
use Rattle.broker_model.specs.Resolve.{with_joined, past_of}

-- one more joined peer

get_cases : (xs : List Joined) (y : Joined) (i : ℕ) (x : Joined) → slice_get (xs ++ y ∷ []) i ≡ Some x →
    (slice_get xs i ≡ Some x) ⊎ ((i ≡ length xs) × (y ≡ x))
get_cases [] y zero x e = inr (refl, cc)
get_cases [] y (suc i) x e = cc
get_cases (z ∷ xs) y zero x e = inl e
get_cases (z ∷ xs) y (suc i) x e =
    elim (get_cases xs y i x e) [
      | inl h ↦ inl h
      | inr h ↦ inr (ap suc h.0, h.1)
    ]

-- labels that rise, none above a bound
record Rise (joined : List Joined) (bound : ℕ) : Type 0 where
  within : (i : ℕ) (x : Joined) → slice_get joined i ≡ Some x → x.label ≤ bound
  rise : (i j : ℕ) (x y : Joined) → i < j → slice_get joined i ≡ Some x → slice_get joined j ≡ Some y →
      x.label < y.label

rise_more : (joined : List Joined) (bound : ℕ) (y : Joined) → y.label ≡ bound + 1 → Rise joined bound →
    Rise (joined ++ y ∷ []) (bound + 1)
rise_more joined bound y l r = record { within = within; rise = rise }
  where
    within : (i : ℕ) (x : Joined) → slice_get (joined ++ y ∷ []) i ≡ Some x → x.label ≤ bound + 1
    within i x e =
        elim (get_cases joined y i x e) [
          | inl h ↦ (let w : x.label ≤ bound = r.within i x h in omega arith)
          | inr h ↦ (let w : y.label ≡ x.label = ap (λ (p : Joined). p.label) h.1 in omega arith)
        ]

    later : (i j : ℕ) (x z : Joined) → i < j → slice_get joined i ≡ Some x →
        (slice_get joined j ≡ Some z) ⊎ ((j ≡ length joined) × (y ≡ z)) → x.label < z.label
    later i j x z l' a (inl b) = r.rise i j x z l' a b
    later i j x z l' a (inr b) =
        let w : x.label ≤ bound = r.within i x a in
        let s : y.label ≡ z.label = ap (λ (p : Joined). p.label) b.1 in
        omega arith

    first : (i j : ℕ) (x z : Joined) → i < j → (slice_get joined i ≡ Some x) ⊎ ((i ≡ length joined) × (y ≡ x)) →
        (slice_get joined j ≡ Some z) ⊎ ((j ≡ length joined) × (y ≡ z)) → x.label < z.label
    first i j x z l' (inl a) b = later i j x z l' a b
    first i j x z l' (inr a) (inl b) = let w : j < length joined = slice_get_within joined j z b in absurd (omega arith)
    first i j x z l' (inr a) (inr b) = absurd (omega arith)

    rise : (i j : ℕ) (x z : Joined) → i < j → slice_get (joined ++ y ∷ []) i ≡ Some x →
        slice_get (joined ++ y ∷ []) j ≡ Some z → x.label < z.label
    rise i j x z l' a b = first i j x z l' (get_cases joined y i x a) (get_cases joined y j z b)

rise_less : (joined : List Joined) (bound : ℕ) → Rise joined bound → Rise joined (bound + 1)
rise_less joined bound r =
    record { within = λ i x e. (let w : x.label ≤ bound = r.within i x e in omega arith); rise = r.rise }

rise_entry : (e : Entry) (joined : List Joined) (bound : ℕ) → Rise joined bound →
    Rise (with_joined e (bound + 1) joined) (bound + 1)
rise_entry (entries.Join role) joined bound r =
    rise_more joined bound (record { label = bound + 1; role = role }) refl r
rise_entry _ joined bound r = rise_less joined bound r

rises : (journal : List Entry) → Rise (past_of journal).joined (length journal)
rises [] = record { within = λ i x e. cc; rise = λ i j x y l a b. cc }
rises (e ∷ older) =
    let r : Rise (with_joined e (length older + 1) (past_of older).joined) (length older + 1) =
    rise_entry e (past_of older).joined (length older) (rises older) in
    let same : length older + 1 ≡ length (e ∷ older) = omega arith in
    subst (λ (n : ℕ). Rise (with_joined e (length older + 1) (past_of older).joined) n) same r

pub label_within : (journal : List Entry) (q : ℕ) (peer : Joined) → peer_at (past_of journal) q ≡ Some peer →
    peer.label ≤ length journal
label_within journal zero peer e = cc
label_within journal (suc q) peer e = (rises journal).within q peer e

labels_rise : (journal : List Entry) (q r : ℕ) (a b : Joined) → q < r → peer_at (past_of journal) q ≡ Some a →
    peer_at (past_of journal) r ≡ Some b →
    a.label < b.label
labels_rise journal zero r a b l e f = cc
labels_rise journal (suc q) zero a b l e f = cc
labels_rise journal (suc q) (suc r) a b l e f = (rises journal).rise q r a b (omega arith) e f

-- a label has one number
pub one_number : (journal : List Entry) (q r : ℕ) (a b : Joined) → peer_at (past_of journal) q ≡ Some a →
    peer_at (past_of journal) r ≡ Some b →
    a.label ≡ b.label → q ≡ r
one_number journal q r a b e f s =
    elim (cases_lt q r) [
      | inl l ↦ (let w : a.label < b.label = labels_rise journal q r a b l e f in absurd (omega arith))
      | inr g ↦
          elim (cases_lt r q) [
            | inl l ↦ (let w : b.label < a.label = labels_rise journal r q b a l f e in absurd (omega arith))
            | inr h ↦ omega arith
          ]
    ]
