-- The place of a peer's unread bytes among those that are held.
use Rattle.std.proofs.Common.{◌≡◌, ℕ, zero, suc, ◌+◌, ◌<◌, ◌≤◌, List, [], ◌∷◌, length, map, set, get_or, Bool, true, false, cond, not, Some, None, refl, sym, ap, subst, ◌∙◌, arith}
use Rattle.std.specs.Prelude.{◌==◌, ◌||◌, nat_lt, position, filter, if◌then◌else◌}
use Rattle.std.specs.List.{position_or_len}
use Rattle.std.proofs.lemmas.Bool.{ltb-true, ltb-false, eqb-true}
use Rattle.std.proofs.lemmas.Option.{same_Some}
use Rattle.wl_wire.specs.Streams.{begun}
use Rattle.broker_model.specs.declared.journal.Entry.{Entry}
use Rattle.broker_core.specs.Taking.{lives}
use Rattle.broker_model.proofs.EachElement.{map_filter}
use Rattle.seat_set.specs.declared.unread.Unread.{Unread}
use Rattle.seat_set.specs.Played.{Waiting, of_live, unread_by, with_unread}
use Rattle.seat_set.specs.Playing.{is_waiting}
use Rattle.seat_set.specs.Unread.{waiting}

abbrev is_of : ℕ → Unread → Bool
is_of q u = u.number == q

-- the first with the number
abbrev pub IsAt : ℕ → List Unread → ℕ → Type 0
IsAt q [] place = ⊥
IsAt q (u ∷ rest) zero = (u.number == q) ≡ true
IsAt q (u ∷ rest) (suc place) = ((u.number == q) ≡ false) × IsAt q rest place

first_at : (q : ℕ) (unread : List Unread) → position_or_len (is_of q) unread < length unread →
    IsAt q unread (position_or_len (is_of q) unread)
first_at q [] l = absurd (omega arith)
first_at q (u ∷ rest) l = by (u.number == q) refl l (first_at q rest)
  where
    by : (b : Bool) → (u.number == q) ≡ b → cond (not b) (1 + position_or_len (is_of q) rest) 0 < suc (length rest) →
        (position_or_len (is_of q) rest < length rest → IsAt q rest (position_or_len (is_of q) rest)) →
        IsAt q (u ∷ rest) (cond (not b) (1 + position_or_len (is_of q) rest) 0)
    by true e k f = e
    by false e k f =
        let place : suc (position_or_len (is_of q) rest) ≡ 1 + position_or_len (is_of q) rest = omega arith in
        subst (IsAt q (u ∷ rest)) place (e, f (omega arith))

nowhere : (q : ℕ) (unread : List Unread) → length unread ≤ position_or_len (is_of q) unread →
    is_waiting q (map waiting unread) ≡ false
nowhere q [] l = refl
nowhere q (u ∷ rest) l = by (u.number == q) refl l (nowhere q rest)
  where
    by : (b : Bool) → (u.number == q) ≡ b → suc (length rest) ≤ cond (not b) (1 + position_or_len (is_of q) rest) 0 →
        (length rest ≤ position_or_len (is_of q) rest → is_waiting q (map waiting rest) ≡ false) →
        is_waiting q (map waiting (u ∷ rest)) ≡ false
    by true e k f = absurd (omega arith)
    by false e k f = ap (λ (c : Bool). c || is_waiting q (map waiting rest)) e ∙ f (omega arith)

-- what the search for it found

found_by : (q : ℕ) (unread : List Unread) (place : ℕ) (b : Bool) →
    nat_lt (position_or_len (is_of q) unread) (length unread) ≡ b →
    Some place ≡ cond b (Some (position_or_len (is_of q) unread)) None → IsAt q unread place
found_by q unread place true e h =
    let same = same_Some place (position_or_len (is_of q) unread) h in
    subst (IsAt q unread) (sym same) (first_at q unread (ltb-true _ _ e))
found_by q unread place false e h = cc

pub found_at : (q : ℕ) (unread : List Unread) (place : ℕ) → Some place ≡ position (is_of q) unread → IsAt q unread place
found_at q unread place h = found_by q unread place (nat_lt (position_or_len (is_of q) unread) (length unread)) refl h

not_found_by : (q : ℕ) (unread : List Unread) (b : Bool) → nat_lt (position_or_len (is_of q) unread) (length unread) ≡ b
    →
    None ≡ cond b (Some (position_or_len (is_of q) unread)) None → is_waiting q (map waiting unread) ≡ false
not_found_by q unread true e h = cc
not_found_by q unread false e h = nowhere q unread (ltb-false _ _ e)

pub not_found : (q : ℕ) (unread : List Unread) → None ≡ position (is_of q) unread →
    is_waiting q (map waiting unread) ≡ false
not_found q unread h = not_found_by q unread (nat_lt (position_or_len (is_of q) unread) (length unread)) refl h

-- what stands at the place

pub number_at : (q : ℕ) (unread : List Unread) (place : ℕ) (d : Unread) → IsAt q unread place →
    (get_or unread place d).number ≡ q
number_at q [] place d h = absurd h
number_at q (u ∷ rest) zero d h = eqb-true u.number q h
number_at q (u ∷ rest) (suc place) d h = number_at q rest place d h.1

pub bytes_at : (q : ℕ) (unread : List Unread) (place : ℕ) (d : Unread) → IsAt q unread place →
    unread_by (map waiting unread) q ≡ begun (get_or unread place d).cutter
bytes_at q [] place d h = absurd h
bytes_at q (u ∷ rest) zero d h = ap (λ (b : Bool). (if b then begun u.cutter else unread_by (map waiting rest) q)) h
bytes_at q (u ∷ rest) (suc place) d h =
    ap (λ (b : Bool). (if b then begun u.cutter else unread_by (map waiting rest) q)) h.0
    ∙ bytes_at q rest place d h.1

-- and what stands there afterwards
pub set_at : (q : ℕ) (unread : List Unread) (place : ℕ) (u : Unread) → IsAt q unread place → u.number ≡ q →
    map waiting (set unread place u) ≡ with_unread q (begun u.cutter) (map waiting unread)
set_at q [] place u h n = absurd h
set_at q (v ∷ rest) zero u h n =
    let same : u.number ≡ v.number = n ∙ sym (eqb-true v.number q h) in
    ap (λ k. record { number = k; bytes = begun u.cutter } ∷ map waiting rest) same
    ∙ sym (ap (λ (b : Bool). (if b then record { number = v.number; bytes = begun u.cutter } ∷ map waiting rest
    else waiting v ∷ with_unread q (begun u.cutter) (map waiting rest))) h)
set_at q (v ∷ rest) (suc place) u h n =
    ap (λ (ws : List Waiting). waiting v ∷ ws) (set_at q rest place u h.1 n)
    ∙ sym (ap (λ (b : Bool). (if b then record { number = v.number; bytes = begun u.cutter } ∷ map waiting rest
    else waiting v ∷ with_unread q (begun u.cutter) (map waiting rest))) h.0)

-- those of the dead are given back
pub given_back : (journal : List Entry) (before after : List Unread) →
    after ≡ filter (λ u. lives journal u.number) before →
    map waiting after ≡ of_live journal (map waiting before)
given_back journal before after h = ap (map waiting) h ∙ map_filter waiting (λ w. lives journal w.number) before
