-- What happens to one peer of the slab happens to one of the row.
use Rattle.std.proofs.Common.{◌≡◌, ◌≢◌, ℕ, zero, suc, ◌+◌, ◌<◌, List, [], ◌∷◌, ◌++◌, length, get_or, set, Option, Some, None, IsSome, cond, is_some, slice_get, refl, sym, ap, ◌∙◌, arith, inl, inr}
use Rattle.std.specs.List.{remove}
use Rattle.std.proofs.lemmas.List.Sums.{sum_by-set}
use Rattle.std.proofs.lemmas.Bool.{cases_eq, cases_lt}
use Rattle.std.proofs.lemmas.List.{same_lists, get_or_read, get_or_append_left, get_or_push, length-append, length-set, get_or-set_same, get_or-set_other}
use Rattle.std.proofs.lemmas.List.Edits.{length-remove, get_or-remove_below, get_or-remove_above}
use Rattle.std.proofs.lemmas.Option.{same_Some, slice_get-get_or}
use Rattle.slab.specs.Slab.{Slab, get, ContainsKey, slab_len, Updates, with_value}
use Rattle.slab.proofs.SlabLemmas.{Updates-with_value, ContainsKey-within}
use Rattle.broker_audience.specs.declared.live.Live.{Live}
use Rattle.broker_audience.specs.declared.place.Place.{Place}
use Rattle.broker_audience.specs.Seated.{and_others, seated, AreHeld, AreApart, AreSeated}

there : (slot : Option Live) → IsSome slot → (l : Live) × (slot ≡ Some l)
there None held = absurd (cc)
there (Some l) held = (l, refl)

-- the peer that a place names
held_at : (s : Slab Live) (places : List Place) (k : ℕ) (d : Place) → AreHeld s places → k < length places →
    (l : Live) × (get s (get_or places k d).key ≡ Some l)
held_at s places k d held lt = there (get s (get_or places k d).key) (held k d lt)

held_rest : (s : Slab Live) (p : Place) (places : List Place) → AreHeld s (p ∷ places) → AreHeld s places
held_rest s p places held k d lt = held (suc k) d (omega arith)

seated_more : (s : Slab Live) (p : Place) (places : List Place) (l : Live) → get s p.key ≡ Some l →
    seated s (p ∷ places) ≡ l ∷ seated s places
seated_more s p places l is = ap (λ o. and_others o (seated s places)) is

pub seated_length : (s : Slab Live) (places : List Place) → AreHeld s places → length (seated s places) ≡ length places
seated_length s [] held = refl
seated_length s (p ∷ places) held =
    let it = held_at s (p ∷ places) 0 p held (omega arith) in
    ap length (seated_more s p places it.0 it.1) ∙ ap suc (seated_length s places (held_rest s p places held))

-- it stands at the same place of the row
seated_at : (s : Slab Live) (places : List Place) → AreHeld s places → (k : ℕ) (d : Place) (e : Live) →
    k < length places →
    get s (get_or places k d).key ≡ Some (get_or (seated s places) k e)
seated_at s [] held k d e lt = absurd (omega arith)
seated_at s (p ∷ places) held zero d e lt =
    let it = held_at s (p ∷ places) 0 p held (omega arith) in
    it.1 ∙ ap (λ (ls : List Live). Some (get_or ls 0 e)) (sym (seated_more s p places it.0 it.1))
seated_at s (p ∷ places) held (suc k) d e lt =
    let it = held_at s (p ∷ places) 0 p held (omega arith) in
    seated_at s places (held_rest s p places held) k d e (omega arith)
    ∙ ap (λ (ls : List Live). Some (get_or ls (suc k) e)) (sym (seated_more s p places it.0 it.1))

-- a place of the row is one of the index
pub place_within : (s : Slab Live) (places : List Place) (place : ℕ) → AreSeated s places →
    place < length (seated s places) → place < length places
place_within s places place seats lt = rw (seated_length s places seats.held) at lt

-- its key names somebody
pub key_held : (s : Slab Live) (places : List Place) (place : ℕ) (p : Place) → AreSeated s places →
    place < length places → p ≡ get_or places place p → ContainsKey s p.key
key_held s places place p seats lt read =
    let it = held_at s places place p seats.held lt in
    let key : get s p.key ≡ Some it.0 = ap (λ (q : Place). get s q.key) read ∙ it.1 in
    rw key refl

-- namely the one at the place of the row
pub peer_there : (s : Slab Live) (places : List Place) (place : ℕ) (p : Place) (l : Live) → AreSeated s places →
    place < length places → p ≡ get_or places place p →
    get s p.key ≡ Some l → slice_get (seated s places) place ≡ Some l
peer_there s places place p l seats lt read found =
    let long : place < length (seated s places) = rw (seated_length s places seats.held) lt in
    slice_get-get_or (seated s places) place l long
    ∙ sym (seated_at s places seats.held place p l lt) ∙ ap (λ (q : Place). get s q.key) (sym read) ∙ found

-- a write to the slot of a peer leaves the count
same_count : (s : Slab Live) (key : ℕ) (new : Live) → ContainsKey s key → slab_len (with_value s key new) ≡ slab_len s
same_count s key new held =
    let it = there (get s key) held in
    let within = ContainsKey-within s key held in
    let both = sum_by-set (λ (o : Option Live). cond (is_some o) 1 0) s.slots key (Some new) None within in
    omega (arith, rw it.1 at both)

-- the one at the place is written
module _ (s : Slab Live) (places : List Place) (seats : AreSeated s places) (place : ℕ)
    (within : place < length places) (p : Place) (read : p ≡ get_or places place p) (new : Live) where
  here : (d : Place) → p ≡ get_or places place d
  here d = get_or_read places place p within read d

  updates : Updates s (with_value s p.key new) p.key (Some new)
  updates = Updates-with_value s p.key new (key_held s places place p seats within read)

  other_slot : (k : ℕ) (d : Place) → k < length places → (place ≡ k → ⊥) →
      get (with_value s p.key new) (get_or places k d).key ≡ get s (get_or places k d).key
  other_slot k d lt other =
      updates.others (get_or places k d).key
      (λ same. seats.apart k place d lt within (λ e. other (sym e)) (same ∙ ap (λ (q : Place). q.key) (here d)))

  held_written : AreHeld (with_value s p.key new) places
  held_written k d lt = elim (cases_eq place k) [
    | inl same ↦
        let at : p ≡ get_or places k d = rw (← same) (here d) in
        rw (← at, updates.changed) refl
    | inr other ↦ rw (other_slot k d lt other) (seats.held k d lt)
  ]

  pub count_written : slab_len (with_value s p.key new) ≡ slab_len s
  count_written = same_count s p.key new (key_held s places place p seats within read)

  pub seats_written : AreSeated (with_value s p.key new) places
  seats_written = record {
    held = held_written;
    apart = seats.apart;
    counted = count_written ∙ seats.counted;
  }

  pub seated_written : seated (with_value s p.key new) places ≡ set (seated s places) place new
  seated_written =
      same_lists (seated (with_value s p.key new) places) (set (seated s places) place new)
      (seated_length (with_value s p.key new) places held_written
      ∙ sym (length-set (seated s places) place new ∙ seated_length s places seats.held))
      (λ k d lt. at k d (rw (seated_length (with_value s p.key new) places held_written) at lt))
    where
      at : (k : ℕ) (d : Live) → k < length places →
          get_or (seated (with_value s p.key new) places) k d ≡ get_or (set (seated s places) place new) k d
      at k d lt = elim (cases_eq place k) [
        | inl same ↦
            let there : place < length (seated s places) = rw (seated_length s places seats.held) within in
            let is : p ≡ get_or places k p = rw (← same) read in
            same_Some _ _
            (sym (seated_at (with_value s p.key new) places held_written k p d lt)
            ∙ ap (λ (q : Place). get (with_value s p.key new) q.key) (sym is) ∙ updates.changed)
            ∙ rw (← same) (sym (get_or-set_same (seated s places) place new d there))
        | inr other ↦
            same_Some _ _
            (sym (seated_at (with_value s p.key new) places held_written k p d lt) ∙ other_slot k p lt other
            ∙ seated_at s places seats.held k p d lt)
            ∙ sym (get_or-set_other (seated s places) place k new d (λ e. other (sym e)))
      ]

-- one leaves: its slot is empty, and its place is gone
module _ (s t : Slab Live) (places : List Place) (seats : AreSeated s places) (place : ℕ)
    (within : place < length places) (p : Place) (read : p ≡ get_or places place p)
    (updates : Updates s t p.key None) (len : slab_len t + 1 ≡ slab_len s) where
  stays : (k : ℕ) (d : Place) → k < length places → (place ≡ k → ⊥) →
      get t (get_or places k d).key ≡ get s (get_or places k d).key
  stays k d lt other =
      let here : p ≡ get_or places place d = get_or_read places place p within read d in
      updates.others (get_or places k d).key
      (λ same. seats.apart k place d lt within (λ e. other (sym e)) (same ∙ ap (λ (q : Place). q.key) here))

  held_left : AreHeld t (remove places place)
  held_left k d lt =
      let shorter = length-remove places place within in
      elim (cases_lt k place) [
        | inl less ↦ rw
            (get_or-remove_below places place d k less within, stays k d (omega arith) (λ e. absurd (omega arith)))
            (seats.held k d (omega arith))
        | inr more ↦ rw (
          get_or-remove_above places place d k more within,
          stays (k + 1) d (omega arith) (λ e. absurd (omega arith)),
        ) (seats.held (k + 1) d (omega arith))
      ]

  apart_left : AreApart (remove places place)
  apart_left i j d in_i in_j differs same =
      let shorter = length-remove places place within in
      elim (cases_lt i place) [
        | inl less_i ↦ elim (cases_lt j place) [
          | inl less_j ↦ seats.apart i j d (omega arith) (omega arith) differs (rw (
            get_or-remove_below places place d i less_i within,
            get_or-remove_below places place d j less_j within,
          ) at same)
          | inr more_j ↦ seats.apart i (j + 1) d (omega arith) (omega arith) (λ e. absurd (omega arith)) (rw (
            get_or-remove_below places place d i less_i within,
            get_or-remove_above places place d j more_j within,
          ) at same)
        ]
        | inr more_i ↦ elim (cases_lt j place) [
          | inl less_j ↦ seats.apart (i + 1) j d (omega arith) (omega arith) (λ e. absurd (omega arith)) (rw (
            get_or-remove_above places place d i more_i within,
            get_or-remove_below places place d j less_j within,
          ) at same)
          | inr more_j ↦ seats.apart (i + 1) (j + 1) d (omega arith) (omega arith) (λ e. differs (omega arith)) (rw (
            get_or-remove_above places place d i more_i within,
            get_or-remove_above places place d j more_j within,
          ) at same)
        ]
      ]

  pub seats_left : AreSeated t (remove places place)
  seats_left =
      let shorter = length-remove places place within in
      record { held = held_left; apart = apart_left; counted = omega (arith, seats.counted) }

  pub seated_left : seated t (remove places place) ≡ remove (seated s places) place
  seated_left =
      let long = seated_length s places seats.held in
      let there : place < length (seated s places) = rw long within in
      let shorter = length-remove places place within in
      let shorter_live = length-remove (seated s places) place there in
      same_lists (seated t (remove places place)) (remove (seated s places) place)
      (seated_length t (remove places place) held_left ∙ omega arith)
      (λ k d lt. at k d (rw (seated_length t (remove places place) held_left) at lt))
    where
      at : (k : ℕ) (d : Live) → k < length (remove places place) →
          get_or (seated t (remove places place)) k d ≡ get_or (remove (seated s places) place) k d
      at k d lt =
          let there : place < length (seated s places) = rw (seated_length s places seats.held) within in
          let shorter = length-remove places place within in
          elim (cases_lt k place) [
            | inl less ↦
                same_Some _ _
                (sym (seated_at t (remove places place) held_left k p d lt)
                ∙ ap (λ (q : Place). get t q.key) (get_or-remove_below places place p k less within)
                ∙ stays k p (omega arith) (λ e. absurd (omega arith))
                ∙ seated_at s places seats.held k p d (omega arith))
                ∙ sym (get_or-remove_below (seated s places) place d k less there)
            | inr more ↦
                same_Some _ _
                (sym (seated_at t (remove places place) held_left k p d lt)
                ∙ ap (λ (q : Place). get t q.key) (get_or-remove_above places place p k more within)
                ∙ stays (k + 1) p (omega arith) (λ e. absurd (omega arith))
                ∙ seated_at s places seats.held (k + 1) p d (omega arith))
                ∙ sym (get_or-remove_above (seated s places) place d k more there)
          ]

-- one more: it has a slot that was empty
module _ (s t : Slab Live) (places : List Place) (seats : AreSeated s places) (l : Live) (number label key : ℕ)
    (vacant : get s key ≡ None) (updates : Updates s t key (Some l))
    (len : slab_len t ≡ slab_len s + 1) where
  abbrev pub new_place : Place
  new_place = record { number = number; label = label; key = key }

  stays_put : (k : ℕ) (d : Place) → k < length places → get t (get_or places k d).key ≡ get s (get_or places k d).key
  stays_put k d lt =
      let it = held_at s places k d seats.held lt in
      updates.others (get_or places k d).key
      (λ same. let no : Some it.0 ≡ None = sym it.1 ∙ ap (get s) same ∙ vacant in absurd (cc))

  held_more : AreHeld t (places ++ new_place ∷ [])
  held_more k d lt =
      let longer = length-append places (new_place ∷ []) in
      elim (cases_lt k (length places)) [
        | inl old ↦ rw (get_or_append_left places (new_place ∷ []) d k old, stays_put k d old) (seats.held k d old)
        | inr last ↦ rw (get_or_push places new_place d k (omega arith), updates.changed)
            refl
      ]

  old_key : (k : ℕ) (d : Place) → k < length places → (get_or places k d).key ≢ key
  old_key k d lt same =
      let it = held_at s places k d seats.held lt in
      let no : Some it.0 ≡ None = sym it.1 ∙ ap (get s) same ∙ vacant in
      absurd (cc)

  apart_more : AreApart (places ++ new_place ∷ [])
  apart_more i j d in_i in_j differs same =
      let longer = length-append places (new_place ∷ []) in
      elim (cases_lt i (length places)) [
        | inl old_i ↦ elim (cases_lt j (length places)) [
          | inl old_j ↦ seats.apart i j d old_i old_j differs (rw (
            get_or_append_left places (new_place ∷ []) d i old_i,
            get_or_append_left places (new_place ∷ []) d j old_j,
          ) at same)
          | inr last_j ↦ old_key i d old_i (rw (
            get_or_append_left places (new_place ∷ []) d i old_i,
            get_or_push places new_place d j (omega arith),
          ) at same)
        ]
        | inr last_i ↦ elim (cases_lt j (length places)) [
          | inl old_j ↦ old_key j d old_j (sym (rw (
            get_or_push places new_place d i (omega arith),
            get_or_append_left places (new_place ∷ []) d j old_j,
          ) at same))
          | inr last_j ↦ differs (omega arith)
        ]
      ]

  pub seats_more : AreSeated t (places ++ new_place ∷ [])
  seats_more = record {
    held = held_more;
    apart = apart_more;
    counted = len ∙ ap (λ n. n + 1) seats.counted ∙ sym (length-append places (new_place ∷ []));
  }

  pub seated_more_peers : seated t (places ++ new_place ∷ []) ≡ seated s places ++ l ∷ []
  seated_more_peers =
      same_lists (seated t (places ++ new_place ∷ [])) (seated s places ++ l ∷ [])
      (seated_length t (places ++ new_place ∷ []) held_more ∙ length-append places (new_place ∷ [])
      ∙ ap (λ n. n + 1) (sym (seated_length s places seats.held))
      ∙ sym (length-append (seated s places) (l ∷ [])))
      (λ k d lt. at k d (rw (seated_length t (places ++ new_place ∷ []) held_more) at lt))
    where
      at : (k : ℕ) (d : Live) → k < length (places ++ new_place ∷ []) →
          get_or (seated t (places ++ new_place ∷ [])) k d ≡ get_or (seated s places ++ l ∷ []) k d
      at k d lt =
          let longer = length-append places (new_place ∷ []) in
          let long = seated_length s places seats.held in
          elim (cases_lt k (length places)) [
            | inl old ↦
                same_Some _ _
                (sym (seated_at t (places ++ new_place ∷ []) held_more k new_place d lt)
                ∙ ap (λ (q : Place). get t q.key) (get_or_append_left places (new_place ∷ []) new_place k old)
                ∙ stays_put k new_place old
                ∙ seated_at s places seats.held k new_place d old)
                ∙ sym (get_or_append_left (seated s places) (l ∷ []) d k (omega arith))
            | inr last ↦
                same_Some _ _
                (sym (seated_at t (places ++ new_place ∷ []) held_more k new_place d lt)
                ∙ ap (λ (q : Place). get t q.key) (get_or_push places new_place new_place k (omega arith))
                ∙ updates.changed)
                ∙ sym (get_or_push (seated s places) l d k (omega arith))
          ]
