-- A peer's part of the list of fields.
use Rattle.std.proofs.Common.{◌≡◌, ◌≢◌, ℕ, zero, suc, ◌+◌, ◌-◌, ◌<◌, ◌≤◌, List, [], ◌∷◌, ◌++◌, length, get_or, take, drop, filter, Bool, true, false, not, ◌&&◌, eqb, ltb, leb, refl, sym, ap, ◌∙◌, arith, append-nil, inl, inr, if◌then◌else◌}
use Rattle.std.specs.List.{insert, remove}
use Rattle.std.specs.List.Sorted.{IsPartitionedBy, IsPartitionPoint}
use Rattle.std.proofs.lemmas.Bool.{cases_eq, cases_lt}
use Rattle.std.proofs.lemmas.Bool.Decides.{nat_tests}
use Rattle.std.proofs.lemmas.List.{get_or-take, get_or-drop, length-drop, length-take-le}
use Rattle.std.proofs.lemmas.List.Sorted.{IsPartitionedBy-ltb, IsPartitionedBy-leb}
use Rattle.relay_objects.specs.declared.listed.LiveField.{LiveField}
use Rattle.relay_objects.specs.Listed.{of_peer, is_other, PeersFrom, PeersRise, LabelsRise, IsPart}
use Rattle.relay_objects.proofs.RisingNumbers.{one_number}
use Rattle.relay_objects.proofs.SiftedLists.{filter_keeps, remove_filters}

-- the part lies between two partition points

peer_from : (ws : List LiveField) (n i : ℕ) (d : LiveField) → PeersFrom n ws → i < length ws → n ≤ (get_or ws i d).peer
peer_from [] n i d rise lt = absurd (omega arith)
peer_from (w ∷ ws) n zero d rise lt = rise.0
peer_from (w ∷ ws) n (suc i) d rise lt = omega (arith, rise.0, peer_from ws w.peer i d rise.1 (omega arith))

peers_rise : (ws : List LiveField) (n i j : ℕ) (d : LiveField) → PeersFrom n ws → i ≤ j → j < length ws →
    (get_or ws i d).peer ≤ (get_or ws j d).peer
peers_rise [] n i j d rise le lt = absurd (omega arith)
peers_rise (w ∷ ws) n zero zero d rise le lt = omega arith
peers_rise (w ∷ ws) n zero (suc j) d rise le lt = peer_from ws w.peer j d rise.1 (omega arith)
peers_rise (w ∷ ws) n (suc i) zero d rise le lt = absurd (omega arith)
peers_rise (w ∷ ws) n (suc i) (suc j) d rise le lt = peers_rise ws w.peer i j d rise.1 (omega arith) (omega arith)

pub below_parted : (ws : List LiveField) (p : ℕ) → PeersRise ws → IsPartitionedBy (λ w. ltb w.peer p) ws
below_parted ws p rise = IsPartitionedBy-ltb (λ w. w.peer) ws p (λ i j d le lt. peers_rise ws 0 i j d rise le lt)

pub up_to_parted : (ws : List LiveField) (p : ℕ) → PeersRise ws → IsPartitionedBy (λ w. leb w.peer p) ws
up_to_parted ws p rise = IsPartitionedBy-leb (λ w. w.peer) ws p (λ i j d le lt. peers_rise ws 0 i j d rise le lt)

pub is_part : (ws : List LiveField) (p start stop : ℕ) →
    IsPartitionPoint (λ w. ltb w.peer p ≡ true) (λ w. ltb w.peer p ≡ false) ws start → start ≤ length ws →
    IsPartitionPoint (λ w. leb w.peer p ≡ true) (λ w. leb w.peer p ≡ false) ws stop → stop ≤ length ws →
    IsPart ws p start stop
is_part ws p start stop low low_in high high_in = record {
  ordered =
      let d : LiveField = record { peer = 0; label = 0 } in
      elim (cases_lt stop start) [
        | inl lt ↦
            let below = low.0 stop d (omega arith) lt in
            let above = high.1 stop d (omega arith) (omega arith) in
            grind (arith, nat_tests)
        | inr le ↦ le
      ];
  within = high_in;
  before = λ k d lt. let test = low.0 k d (omega arith) lt in grind (arith, nat_tests);
  inside = λ k d lo lt.
      let not_below = low.1 k d lo (omega arith) in
      let not_above = high.0 k d (omega arith) lt in
      grind (arith, nat_tests);
  behind = λ k d lo lt. let test = high.1 k d lo lt in grind (arith, nat_tests);
}

-- the part is what the test of the peer leaves

module _ (w : LiveField) (ws : List LiveField) (p : ℕ) where
  part_none : IsPart (w ∷ ws) p 0 0 → IsPart ws p 0 0
  part_none part = record {
    ordered = omega arith;
    within = omega arith;
    before = λ k d lt. absurd (omega arith);
    inside = λ k d lo lt. absurd (omega arith);
    behind = λ k d lo lt. part.behind (suc k) d (omega arith) (omega arith);
  }

  part_here : (stop : ℕ) → IsPart (w ∷ ws) p 0 (suc stop) → IsPart ws p 0 stop
  part_here stop part = record {
    ordered = omega arith;
    within = omega (arith, part.within);
    before = λ k d lt. absurd (omega arith);
    inside = λ k d lo lt. part.inside (suc k) d (omega arith) (omega arith);
    behind = λ k d lo lt. part.behind (suc k) d (omega arith) (omega arith);
  }

  part_later : (start stop : ℕ) → IsPart (w ∷ ws) p (suc start) (suc stop) → IsPart ws p start stop
  part_later start stop part = record {
    ordered = omega (arith, part.ordered);
    within = omega (arith, part.within);
    before = λ k d lt. part.before (suc k) d (omega arith);
    inside = λ k d lo lt. part.inside (suc k) d (omega arith) (omega arith);
    behind = λ k d lo lt. part.behind (suc k) d (omega arith) (omega arith);
  }

part_by : (ws : List LiveField) (p start n stop : ℕ) → start + n ≡ stop → IsPart ws p start stop →
    take n (drop start ws) ≡ filter (of_peer p) ws
part_by [] p zero zero stop e part = refl
part_by [] p zero (suc n) stop e part = refl
part_by [] p (suc start) zero stop e part = refl
part_by [] p (suc start) (suc n) stop e part = refl
part_by (w ∷ ws) p zero zero (suc stop) e part = absurd (omega arith)
part_by (w ∷ ws) p zero zero zero e part =
    let after : p < w.peer = part.behind 0 w (omega arith) (omega arith) in
    let test : eqb w.peer p ≡ false = grind (arith, nat_tests) in
    rw test (part_by ws p 0 0 0 refl (part_none w ws p part))
part_by (w ∷ ws) p zero (suc n) zero e part = absurd (omega arith)
part_by (w ∷ ws) p zero (suc n) (suc stop) e part =
    let here : w.peer ≡ p = part.inside 0 w (omega arith) (omega arith) in
    let test : eqb w.peer p ≡ true = grind (arith, nat_tests) in
    rw test (ap (λ rest. w ∷ rest) (part_by ws p 0 n stop (omega arith) (part_here w ws p stop part)))
part_by (w ∷ ws) p (suc start) n zero e part = absurd (omega arith)
part_by (w ∷ ws) p (suc start) n (suc stop) e part =
    let before : w.peer < p = part.before 0 w (omega arith) in
    let test : eqb w.peer p ≡ false = grind (arith, nat_tests) in
    rw test (part_by ws p start n stop (omega arith) (part_later w ws p start stop part))

pub part_is : (ws : List LiveField) (p start stop : ℕ) → IsPart ws p start stop →
    take (stop - start) (drop start ws) ≡ filter (of_peer p) ws
part_is ws p start stop part = part_by ws p start (stop - start) stop (omega (arith, part.ordered)) part

-- one field more, behind its peer's part

abbrev pub one_of : ℕ → LiveField → List LiveField
one_of p w = (if eqb w.peer p then w ∷ [] else [])

none_behind : (ws : List LiveField) (p q : ℕ) → p ≤ q →
    ((k : ℕ) (d : LiveField) → k < length ws → q < (get_or ws k d).peer) → filter (of_peer p) ws ≡ []
none_behind [] p q le high = refl
none_behind (w ∷ ws) p q le high =
    let first : q < w.peer = high 0 w (omega arith) in
    let test : eqb w.peer p ≡ false = grind (arith, nat_tests) in
    rw test (none_behind ws p q le (λ k d lt. high (suc k) d (omega arith)))

keep : (b : Bool) (v : LiveField) (xs ys zs : List LiveField) → xs ≡ ys ++ zs →
    (if b then v ∷ xs else xs) ≡ (if b then v ∷ ys else ys) ++ zs
keep true v xs ys zs e = ap (λ rest. v ∷ rest) e
keep false v xs ys zs e = e

insert_front : (ws : List LiveField) (p : ℕ) (w : LiveField) →
    ((k : ℕ) (d : LiveField) → k < length ws → w.peer < (get_or ws k d).peer) →
    filter (of_peer p) (w ∷ ws) ≡ filter (of_peer p) ws ++ one_of p w
insert_front ws p w high = elim (cases_eq w.peer p) [
  | inl same ↦
      let test : eqb w.peer p ≡ true = grind (arith, nat_tests) in
      rw (test, none_behind ws p w.peer (omega arith) high) refl
  | inr differs ↦
      let test : eqb w.peer p ≡ false = grind (arith, nat_tests) in
      rw (test, append-nil (filter (of_peer p) ws)) refl
]

insert_at : (ws : List LiveField) (p : ℕ) (w : LiveField) (i : ℕ) →
    ((k : ℕ) (d : LiveField) → i ≤ k → k < length ws → w.peer < (get_or ws k d).peer) →
    filter (of_peer p) (insert ws i w) ≡ filter (of_peer p) ws ++ one_of p w
insert_at ws p w zero high = insert_front ws p w (λ k d lt. high k d (omega arith) lt)
insert_at [] p w (suc i) high = refl
insert_at (v ∷ vs) p w (suc i) high =
    keep (eqb v.peer p) v _ _ (one_of p w)
    (insert_at vs p w i (λ k d le lt. high (suc k) d (omega arith) (omega arith)))

rise_at : (ws : List LiveField) (n : ℕ) (w : LiveField) (i : ℕ) → PeersFrom n ws → n ≤ w.peer →
    ((k : ℕ) (d : LiveField) → k < i → k < length ws → (get_or ws k d).peer ≤ w.peer) →
    ((k : ℕ) (d : LiveField) → i ≤ k → k < length ws → w.peer < (get_or ws k d).peer) → PeersFrom n (insert ws i w)
rise_at [] n w zero rise le low high = (le, tt)
rise_at (v ∷ vs) n w zero rise le low high =
    let first : w.peer < v.peer = high 0 v (omega arith) (omega arith) in
    (le, (omega arith, rise.1))
rise_at [] n w (suc i) rise le low high = (le, tt)
rise_at (v ∷ vs) n w (suc i) rise le low high = (
  rise.0,
  rise_at vs v.peer w i rise.1 (low 0 v (omega arith) (omega arith))
      (λ k d lt within. low (suc k) d (omega arith) (omega arith))
      (λ k d lo lt. high (suc k) d (omega arith) (omega arith)),
)

module _ (ws : List LiveField) (w : LiveField) (start stop : ℕ) (part : IsPart ws w.peer start stop) where
  up_to : (k : ℕ) (d : LiveField) → k < stop → (get_or ws k d).peer ≤ w.peer
  up_to k d lt = grind (arith, part.before k d, λ (lo : start ≤ k). part.inside k d lo lt)

  pub part_inserted : (p : ℕ) → filter (of_peer p) (insert ws stop w) ≡ filter (of_peer p) ws ++ one_of p w
  part_inserted p = insert_at ws p w stop part.behind

  pub rise_inserted : PeersRise ws → PeersRise (insert ws stop w)
  rise_inserted rise = rise_at ws 0 w stop rise (omega arith) (λ k d lt within. up_to k d lt) part.behind

-- one field less

abbrev pub field_label : LiveField → ℕ
field_label w = w.label

module _ (ws : List LiveField) (v : LiveField) (start stop : ℕ) (part : IsPart ws v.peer start stop) where
  in_part : (j : ℕ) (d : LiveField) → j < stop - start →
      get_or (take (stop - start) (drop start ws)) j d ≡ get_or ws (start + j) d
  in_part j d lt = get_or-take (stop - start) (drop start ws) j d lt ∙ get_or-drop start ws j d

  part_length : length (take (stop - start) (drop start ws)) ≡ stop - start
  part_length = length-take-le (stop - start) (drop start ws) (omega (arith, length-drop start ws, part.within))

  other_peer : (k : ℕ) (d : LiveField) → (get_or ws k d).peer ≢ v.peer → is_other v (get_or ws k d) ≡ true
  other_peer k d differs =
      let test : eqb (get_or ws k d).peer v.peer ≡ false = grind (arith, nat_tests) in
      rw test refl

  other_label : (k : ℕ) (d : LiveField) → (get_or ws k d).label ≢ v.label → is_other v (get_or ws k d) ≡ true
  other_label k d differs =
      let test : eqb (get_or ws k d).label v.label ≡ false = grind (arith, nat_tests) in
      by_peer (eqb (get_or ws k d).peer v.peer) (eqb (get_or ws k d).label v.label) test
    where
      by_peer : (a b : Bool) → b ≡ false → not (a && b) ≡ true
      by_peer a true is = absurd (cc)
      by_peer true false is = refl
      by_peer false false is = refl

  -- outside the part each field is another's
  outside : (k : ℕ) (d : LiveField) → k < length ws → ((start ≤ k) → k < stop → is_other v (get_or ws k d) ≡ true) →
      is_other v (get_or ws k d) ≡ true
  outside k d lt inside = elim (cases_lt k start) [
    | inl below ↦ other_peer k d (λ same. omega (arith, part.before k d below))
    | inr from ↦ elim (cases_lt k stop) [
      | inl under ↦ inside from under
      | inr behind ↦ other_peer k d (λ same. omega (arith, part.behind k d behind lt))
    ]
  ]

  pub field_absent :
      ((j : ℕ) (d : LiveField) → j < length (take (stop - start) (drop start ws)) →
      (get_or (take (stop - start) (drop start ws)) j d).label ≢ v.label) → ws ≡ filter (is_other v) ws
  field_absent none = filter_keeps (is_other v) ws (λ k d lt. outside k d lt (λ from under.
      let j = k - start in
      let here : start + j ≡ k = omega arith in
      let short : j < stop - start = omega arith in
      let there : get_or (take (stop - start) (drop start ws)) j d ≡ get_or ws k d =
      in_part j d short ∙ ap (λ i. get_or ws i d) here in
      other_label k d (λ same. none j d (omega (arith, part_length)) (ap field_label there ∙ same))))

  module _ (at : ℕ) (within : at < length (take (stop - start) (drop start ws)))
      (rise : LabelsRise (take (stop - start) (drop start ws)))
      (found : (d : LiveField) → (get_or (take (stop - start) (drop start ws)) at d).label ≡ v.label) where
    at_short : at < stop - start
    at_short = omega (arith, part_length)

    found_out : (d : LiveField) → is_other v (get_or ws (start + at) d) ≡ false
    found_out d =
        let label : (get_or ws (start + at) d).label ≡ v.label =
        ap field_label (sym (in_part at d at_short)) ∙ found d in
        let peer : (get_or ws (start + at) d).peer ≡ v.peer =
        part.inside (start + at) d (omega arith) (omega (arith, at_short)) in
        let test : eqb (get_or ws (start + at) d).label v.label ≡ true = grind (arith, nat_tests) in
        let other : eqb (get_or ws (start + at) d).peer v.peer ≡ true = grind (arith, nat_tests) in
        rw (other, test) refl

    others_stay : (k : ℕ) (d : LiveField) → k < length ws → k ≢ start + at → is_other v (get_or ws k d) ≡ true
    others_stay k d lt differs = outside k d lt (λ from under.
        let j = k - start in
        let here : start + j ≡ k = omega arith in
        let short : j < stop - start = omega arith in
        let there : get_or (take (stop - start) (drop start ws)) j d ≡ get_or ws k d =
        in_part j d short ∙ ap (λ i. get_or ws i d) here in
        other_label k d (λ same. differs (
        let one = one_number field_label (take (stop - start) (drop start ws)) 0 j at d rise
        (omega (arith, part_length)) within (ap field_label there ∙ same ∙ sym (found d)) in
        omega arith)))

    pub field_removed : remove ws (start + at) ≡ filter (is_other v) ws
    field_removed =
        remove_filters (is_other v) ws (start + at) (omega (arith, at_short, part.within)) found_out others_stay

rises_if : (w : LiveField) (b : Bool) (n : ℕ) (ws : List LiveField) → n ≤ w.peer → PeersFrom w.peer ws →
    PeersFrom n (if b then w ∷ ws else ws)
rises_if w true n ws le rest = (le, rest)
rises_if w false n [] le rest = tt
rises_if w false n (v ∷ vs) le rest = (omega (arith, rest.0), rest.1)

pub peers_filtered : (q : LiveField → Bool) (ws : List LiveField) (n : ℕ) → PeersFrom n ws → PeersFrom n (filter q ws)
peers_filtered q [] n rise = tt
peers_filtered q (w ∷ ws) n rise = rises_if w (q w) n (filter q ws) rise.0 (peers_filtered q ws w.peer rise.1)
