-- What reading the front of some keys does to the rest of their segments, and what a table says of what it finds.
use Rattle.std.proofs.Common.{◌≡◌, ℕ, zero, suc, ◌-◌, ◌<◌, ◌≤◌, Bool, true, false, ◌&&◌, List, [], ◌∷◌, ◌++◌, length, get_or, drop, Option, Some, None, refl, sym, ◌∙◌, ap, arith}
use Rattle.std.specs.Prelude.{nat_eq, nat_lt, ◌==◌, not, option_copied, IfSome}
use denote.Ref.{Bor}
use Rattle.std.specs.List.{starts_with}
use Rattle.std.proofs.lemmas.Bool.{and_parts, and_from, ltb-true}
use Rattle.std.proofs.lemmas.List.{append_assoc}
use Rattle.std.proofs.lemmas.List.Folds.{Any-from_list_any, list_all-append}
use Rattle.compose_method.specs.Table.{Table, IsTable, IsKeyText, AreKeys, single_of, begun_by, going_on, own_text, own_texts, text_of_single}
use Rattle.wl_wire.specs.Texts.{has_no_zero}
use Rattle.compose_method.specs.Segments.{Segments, typing, segments_from, segments, typed, rest_of}
use Rattle.compose_method.specs.declared.entries.Entry.{Entry}
use Rattle.compose_method.specs.declared.singles.Single.{Single}
use Rattle.compose_method.proofs.TypedKeysStay.{found_at, begins-length, segments-more}

-- an entry that is found has keys and a text of their sizes, and its keys begin those that were looked for
pub entry_fits : (t : Table) (keys : List ℕ) (e : Entry) → IsTable t → begun_by t.entries keys ≡ Some e →
    AreKeys e.keys × IsKeyText e.text × (length e.keys ≤ length keys)
entry_fits t keys e h found =
    let there = found_at (λ d. starts_with nat_eq keys d.keys) t.entries e found in (
      rw there.2 at (h.entry_keys there.0 e there.1),
      rw there.2 at (h.entry_texts there.0 e there.1),
      begins-length e.keys keys there.3,
    )

-- keys that an entry goes on from are fewer than an entry's
pub short_keys : (t : Table) (keys : List ℕ) → IsTable t → going_on t.entries keys ≡ true → length keys < 8
short_keys t keys h goes =
    let there = Any-from_list_any
    (λ e. starts_with nat_eq e.keys keys && nat_lt (length keys) (length e.keys)) t.entries goes in
    let e : Entry = there.1 in
    let sizes : AreKeys e.keys = rw there.3 at (h.entry_keys there.0 e there.2) in
    let longer : length keys < length e.keys = ltb-true _ _ (and_parts _ _ there.4).1 in
    let few : length e.keys ≤ 8 = sizes.few in
    omega arith

pub entry_sizes : (t : Table) (keys : List ℕ) (found : Option (Bor Entry)) → IsTable t →
    option_copied found ≡ begun_by t.entries keys
    → IfSome found (λ e. (2 ≤ length e.now.keys) × (length e.now.text ≤ 64))
entry_sizes t keys None h e = tt
entry_sizes t keys (Some entry) h e = let fits = entry_fits t keys entry.now h (sym e) in (fits.0.several, fits.1.few)

pub single_fits : (t : Table) (key : ℕ) (s : Single) → IsTable t → single_of t.singles key ≡ Some s → IsKeyText s.text
single_fits t key s h found =
    let there = found_at (λ x. x.key == key) t.singles s found in
    rw there.2 at (h.single_texts there.0 s there.1)

-- keys that are passed may as well be dropped
passed-drop : (t : Table) (keys : List ℕ) (n : ℕ) → segments_from t keys n ≡ segments_from t (drop n keys) 0
passed-drop t [] zero = refl
passed-drop t [] (suc n) = refl
passed-drop t (k ∷ ks) zero = refl
passed-drop t (k ∷ ks) (suc n) = passed-drop t ks n

pub reads_entry : (t : Table) (keys : List ℕ) (e : Entry) → begun_by t.entries keys ≡ Some e → 1 ≤ length e.keys →
    0 < length keys
    → segments t keys ≡ typing e.text (segments t (drop (length e.keys) keys))
reads_entry t [] e found some keys = absurd (omega arith)
reads_entry t (k ∷ ks) e found some keys =
    let size : suc (length e.keys - 1) ≡ length e.keys = omega arith in
    let read : segments t (k ∷ ks) ≡ typing e.text (segments_from t ks (length e.keys - 1)) = rw found refl in
    read ∙ ap (typing e.text) (passed-drop t ks (length e.keys - 1) ∙ ap (λ n. segments t (drop n (k ∷ ks))) size)

pub reads_rest : (t : Table) (keys : List ℕ) → begun_by t.entries keys ≡ None → going_on t.entries keys ≡ true →
    0 < length keys
    → segments t keys ≡ record { typed = []; rest = keys }
reads_rest t [] none goes keys = absurd (omega arith)
reads_rest t (k ∷ ks) none goes keys = rw (none, goes) refl

pub reads_own : (t : Table) (keys : List ℕ) → begun_by t.entries keys ≡ None → going_on t.entries keys ≡ false →
    0 < length keys
    → segments t keys ≡ typing (own_text t (get_or keys 0 0)) (segments t (drop 1 keys))
reads_own t [] none goes keys = absurd (omega arith)
reads_own t (k ∷ ks) none goes keys = rw (none, goes) refl

-- the same of texts that were typed before
pub types_more : (t : Table) (keys : List ℕ) (old text : List ℕ) (n : ℕ) →
    segments t keys ≡ typing text (segments t (drop n keys))
    → (old ++ typed t keys ≡ (old ++ text) ++ typed t (drop n keys)) × (rest_of t keys ≡ rest_of t (drop n keys))
types_more t keys old text n e =
    (ap (λ s. old ++ s.typed) e ∙ sym (append_assoc old text (typed t (drop n keys))), ap (λ (s : Segments). s.rest) e)

clean-append : (a b : List ℕ) → has_no_zero a ≡ true → has_no_zero b ≡ true → has_no_zero (a ++ b) ≡ true
clean-append a b h k = list_all-append (λ x. not (x == 0)) a b ∙ and_from _ _ h k

own_text-clean : (t : Table) (key : ℕ) → IsTable t → has_no_zero (own_text t key) ≡ true
own_text-clean t key h = by (single_of t.singles key) refl
  where
    by : (o : Option Single) → single_of t.singles key ≡ o → has_no_zero (text_of_single o) ≡ true
    by None is = refl
    by (Some s) is = (single_fits t key s h is).clean

-- no text of a table has a zero byte, so what is typed has none, and what is shown neither
pub typed-clean : (t : Table) (keys : List ℕ) (passed : ℕ) → IsTable t →
    has_no_zero (segments_from t keys passed).typed ≡ true
typed-clean t [] passed h = refl
typed-clean t (k ∷ ks) (suc passed) h = typed-clean t ks passed h
typed-clean t (k ∷ ks) zero h =
    by (begun_by t.entries (k ∷ ks)) (going_on t.entries (k ∷ ks)) refl refl (λ n. typed-clean t ks n h)
  where
    by : (o : Option Entry) (g : Bool) → begun_by t.entries (k ∷ ks) ≡ o → going_on t.entries (k ∷ ks) ≡ g
        → ((n : ℕ) → has_no_zero (segments_from t ks n).typed ≡ true) →
        has_no_zero (segments_from t (k ∷ ks) 0).typed ≡ true
    by (Some e) g is goes later =
        rw is (clean-append e.text (segments_from t ks (length e.keys - 1)).typed (entry_fits t (k ∷ ks) e h is).1.clean
        (later (length e.keys - 1)))
    by None true is goes later = rw (is, goes) refl
    by None false is goes later =
        rw (is, goes) (clean-append (own_text t k) (segments_from t ks 0).typed (own_text-clean t k h) (later 0))

pub own_texts-clean : (t : Table) (keys : List ℕ) → IsTable t → has_no_zero (own_texts t keys) ≡ true
own_texts-clean t [] h = refl
own_texts-clean t (k ∷ ks) h =
    clean-append (own_text t k) (own_texts t ks) (own_text-clean t k h) (own_texts-clean t ks h)

-- one more press, read behind the keys that wait, is one more press behind them all
pub pressed_once : (t : Table) (presses rest : List ℕ) (key : ℕ) → IsTable t → rest ≡ rest_of t presses
    → (typed t presses ++ typed t (rest ++ key ∷ []) ≡ typed t (presses ++ key ∷ []))
    × (rest_of t (rest ++ key ∷ []) ≡ rest_of t (presses ++ key ∷ []))
pressed_once t presses rest key h same =
    let e = segments-more t presses 0 key h (omega arith) in
    rw same (sym (ap (λ (s : Segments). s.typed) e), sym (ap (λ (s : Segments). s.rest) e))
