-- Each change of the row keeps each peer under its number and its label.
use Rattle.std.proofs.Common.{◌≡◌, ℕ, zero, suc, ◌<◌, List, [], ◌∷◌, ◌++◌, length, get_or, map, Option, Some, None, IfSome, IfNone, slice_get, refl, sym, ap, ◌∙◌, subst, arith}
use Rattle.std.specs.Prelude.{filter}
use Rattle.std.specs.List.{remove, AllByRecursion}
use Rattle.std.proofs.Math.Seq.{map-set_same}
use Rattle.std.proofs.lemmas.List.{map-append}
use Rattle.std.proofs.lemmas.Option.{get_or_from_slice_get}
use Rattle.broker_audience.specs.declared.live.Live.{Live}
use Rattle.broker_audience.specs.Lives.{AreOver, is_number, number_of}
use Rattle.broker_audience.specs.Seated.{Roster, with_peer, AreNamed}
use Rattle.broker_audience.specs.Visits.{IsAt, HasNone, IsAboveAll, AreInOrder}
use Rattle.broker_audience.proofs.PeersInOrder.{over_unmapped, over_removed, over_pushed, removed_mapped, at_unmapped, none_unmapped}
use Rattle.broker_audience.proofs.UnmarkedAreQuiet.{number_there, number_nowhere}

abbrev number_of_peer : Live → ℕ
number_of_peer l = l.number

abbrev label_of_peer : Live → ℕ
label_of_peer l = l.label

-- one is written, with the number and the label that it has
pub named_written : (r : Roster) (place : ℕ) (l new : Live) → AreNamed r → slice_get r.items place ≡ Some l →
    new.number ≡ l.number → new.label ≡ l.label → AreNamed (with_peer r place new)
named_written r place l new named there number label =
    let here : get_or r.items place new ≡ l = get_or_from_slice_get r.items place l new there in
    record {
      numbers = named.numbers
          ∙ sym (map-set_same number_of_peer r.items place new new (number ∙ ap number_of_peer (sym here)));
      labels = named.labels
          ∙ sym (map-set_same label_of_peer r.items place new new (label ∙ ap label_of_peer (sym here)));
      numbers_rise = named.numbers_rise;
      labels_rise = named.labels_rise;
    }

same_mapped : (g : Live → ℕ) (f : Live → Live) → ((l : Live) → g (f l) ≡ g l) → (live : List Live) →
    map g live ≡ map g (map f live)
same_mapped g f same [] = refl
same_mapped g f same (l ∷ live) = rw (same l) (ap (λ ns. g l ∷ ns) (same_mapped g f same live))

-- all are
pub named_mapped : (r t : Roster) (f : Live → Live) → ((l : Live) → (f l).number ≡ l.number) →
    ((l : Live) → (f l).label ≡ l.label) → AreNamed r → t ≡ record r { items = t.items } →
    t.items ≡ map f r.items → AreNamed t
named_mapped r t f number label named rest items =
    let numbers : t.numbers ≡ r.numbers = ap (λ (v : Roster). v.numbers) rest in
    let labels : t.labels ≡ r.labels = ap (λ (v : Roster). v.labels) rest in
    record {
      numbers = numbers ∙ named.numbers ∙ same_mapped number_of_peer f number r.items
          ∙ ap (map number_of_peer) (sym items);
      labels = labels ∙ named.labels ∙ same_mapped label_of_peer f label r.items ∙ ap (map label_of_peer) (sym items);
      numbers_rise = subst (AreOver (λ n. n) 0) (sym numbers) named.numbers_rise;
      labels_rise = subst (AreOver (λ n. n) 0) (sym labels) named.labels_rise;
    }

-- one leaves
pub named_removed : (r t : Roster) (place : ℕ) → AreNamed r → t.numbers ≡ remove r.numbers place →
    t.labels ≡ remove r.labels place → t.items ≡ remove r.items place → AreNamed t
named_removed r t place named numbers labels items = record {
  numbers = numbers ∙ ap (λ (ns : List ℕ). remove ns place) named.numbers ∙ removed_mapped number_of_peer r.items place
      ∙ ap (map number_of_peer) (sym items);
  labels = labels ∙ ap (λ (ns : List ℕ). remove ns place) named.labels ∙ removed_mapped label_of_peer r.items place
      ∙ ap (map label_of_peer) (sym items);
  numbers_rise = subst (AreOver (λ n. n) 0) (sym numbers)
      (over_removed (λ n. n) place r.numbers 0 named.numbers_rise);
  labels_rise = subst (AreOver (λ n. n) 0) (sym labels) (over_removed (λ n. n) place r.labels 0 named.labels_rise);
}

below : (key : Live → ℕ) (n : ℕ) (live : List Live) → AllByRecursion (λ (m : Live). key m < n) live →
    AllByRecursion (λ (k : ℕ). k < n) (map key live)
below key n [] all = tt
below key n (l ∷ live) all = (all.0, below key n live all.1)

both : (a b : Live → ℕ) (n k : ℕ) (live : List Live) → AllByRecursion (λ (m : Live). (a m < n) × (b m < k)) live →
    AllByRecursion (λ (m : Live). a m < n) live × AllByRecursion (λ (m : Live). b m < k) live
both a b n k [] all = (tt, tt)
both a b n k (l ∷ live) all =
    let rest = both a b n k live all.1 in ((all.0.0, rest.0), (all.0.1, rest.1))

-- one more
pub named_pushed : (r t : Roster) (l : Live) → AreNamed r → IsAboveAll l r.items →
    t.numbers ≡ r.numbers ++ l.number ∷ [] → t.labels ≡ r.labels ++ l.label ∷ [] → t.items ≡ r.items ++ l ∷ [] →
    AreNamed t
named_pushed r t l named above numbers labels items =
    let all = both number_of_peer label_of_peer l.number l.label r.items above.others in
    record {
      numbers = numbers ∙ ap (λ (ns : List ℕ). ns ++ l.number ∷ []) named.numbers
          ∙ sym (map-append number_of_peer r.items (l ∷ [])) ∙ ap (map number_of_peer) (sym items);
      labels = labels ∙ ap (λ (ns : List ℕ). ns ++ l.label ∷ []) named.labels
          ∙ sym (map-append label_of_peer r.items (l ∷ [])) ∙ ap (map label_of_peer) (sym items);
      numbers_rise = subst (AreOver (λ n. n) 0) (sym numbers)
          (over_pushed (λ n. n) l.number r.numbers 0 named.numbers_rise above.number
          (subst (AllByRecursion (λ (k : ℕ). k < l.number)) (sym named.numbers)
          (below number_of_peer l.number r.items all.0)));
      labels_rise = subst (AreOver (λ n. n) 0) (sym labels)
          (over_pushed (λ n. n) l.label r.labels 0 named.labels_rise above.label
          (subst (AllByRecursion (λ (k : ℕ). k < l.label)) (sym named.labels)
          (below label_of_peer l.label r.items all.1)));
    }

-- they are in order
pub named_order : (r : Roster) → AreNamed r → AreInOrder r.items
named_order r named = record {
  numbers = over_unmapped number_of_peer r.items 0 (subst (AreOver (λ n. n) 0) named.numbers named.numbers_rise);
  labels = over_unmapped label_of_peer r.items 0 (subst (AreOver (λ n. n) 0) named.labels named.labels_rise);
}

-- and a place that is found is that of the peer
pub number_at : (r : Roster) (q place : ℕ) → AreNamed r → IsAt (λ n. n) q r.numbers place →
    IsAt (λ (l : Live). l.number) q r.items place
number_at r q place named at =
    at_unmapped number_of_peer r.items q place
    (subst (λ (ns : List ℕ). IsAt (λ n. n) q ns place) named.numbers at)

pub label_at : (r : Roster) (q place : ℕ) → AreNamed r → IsAt (λ n. n) q r.labels place →
    IsAt (λ (l : Live). l.label) q r.items place
label_at r q place named at =
    at_unmapped label_of_peer r.items q place
    (subst (λ (ns : List ℕ). IsAt (λ n. n) q ns place) named.labels at)

pub no_number : (r : Roster) (q : ℕ) → AreNamed r → HasNone (λ n. n) q r.numbers →
    HasNone (λ (l : Live). l.number) q r.items
no_number r q named none =
    none_unmapped number_of_peer r.items q (subst (HasNone (λ n. n) q) named.numbers none)

pub no_label : (r : Roster) (q : ℕ) → AreNamed r → HasNone (λ n. n) q r.labels →
    HasNone (λ (l : Live). l.label) q r.items
no_label r q named none = none_unmapped label_of_peer r.items q (subst (HasNone (λ n. n) q) named.labels none)

has_number : (q place : ℕ) (live : List Live) → IsAt (λ l. l.number) q live place →
    IfSome (slice_get live place) (λ l. l.number ≡ q)
has_number q place [] at = absurd (omega (arith, at.within))
has_number q zero (l ∷ live) at = at.has l
has_number q (suc place) (l ∷ live) at =
    has_number q place live (record { within = omega (arith, at.within); has = at.has })

-- what a search for a number says of the peers
pub record IsFound (q : ℕ) (live : List Live) (o : Option ℕ) : Type 0 where
  pub found : IfSome o (λ place. IfSome (slice_get live place) (λ l. l.number ≡ q))
  pub within : IfSome o (λ place. place < length live)
  pub first : IfSome o (λ place. slice_get live place ≡ number_of q live)
  pub none : IfNone o (filter (is_number q) live ≡ [])

pub number_found : (r : Roster) (q : ℕ) (o : Option ℕ) → AreNamed r → IfSome o (IsAt (λ n. n) q r.numbers) →
    IfNone o (HasNone (λ n. n) q r.numbers) → IsFound q r.items o
number_found r q None named at none =
    record { found = tt; within = tt; first = tt; none = number_nowhere q r.items (no_number r q named none) }
number_found r q (Some place) named at none =
    let here = number_at r q place named at in
    record {
      found = has_number q place r.items here;
      within = here.within;
      first = number_there q 0 place r.items (named_order r named).numbers here;
      none = tt;
    }
