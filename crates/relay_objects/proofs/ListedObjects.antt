-- The lists beside the objects go with them.
use Rattle.std.proofs.Common.{◌≡◌, ◌≢◌, ℕ, zero, suc, ◌+◌, List, [], ◌∷◌, ◌++◌, get_or, map, filter, Bool, true, false, not, ◌&&◌, eqb, if◌then◌else◌, Some, None, refl, sym, ap, ◌∙◌, All, arith, inl, inr}
use Rattle.std.proofs.lemmas.Bool.{cases_eq}
use Rattle.std.proofs.lemmas.Bool.Decides.{nat_tests}
use Rattle.std.proofs.lemmas.Grind.{flat_map-append}
use Rattle.std.proofs.lemmas.List.{map-append, append-nil}
use Rattle.std.proofs.lemmas.List.Elements.{filter-append, All-push, All-filter, All-map, All-weaker, filter_agree}
use Rattle.relay_objects.specs.declared.object.Object.{Object}
use Rattle.relay_objects.specs.declared.object.Kind.{Kind}
use Rattle.relay_objects.specs.declared.object.Kind.TheVariants.{Peer, Surface, Field, Method, Popup, Grab, Thing, Board}
use Rattle.relay_objects.specs.declared.listed.LiveField.{LiveField}
use Rattle.relay_objects.specs.declared.listed.LivePopup.{LivePopup}
use Rattle.relay_objects.specs.declared.entered.Entered.{Entered}
use Rattle.relay_objects.specs.Objects.{find, not_label, is_field_kind}
use Rattle.relay_objects.specs.Rising.{RisesBy}
use Rattle.relay_objects.specs.Labels.{Rises}
use Rattle.relay_objects.specs.Listed.{of_peer, live_field, is_field_of, fields_of, field_entry, PeersRise, LabelsRise, is_other, without_field, is_popup_kind, popup_of_kind, popup_of, popups_of, without_popup, IsCalm, Lists}
use Rattle.relay_objects.proofs.SiftedLists.{filter_comm, filter_alike, filter-map}
use Rattle.relay_objects.proofs.RisingNumbers.{number_from, rises_filtered, rises_mapped}
use Rattle.relay_objects.proofs.PeerParts.{peers_filtered, field_label}

-- a change keeps what is listed of an object

pub record KeepsListed (g : Object → Object) : Type 0 where
  pub same_entry : (o : Object) → live_field (g o) ≡ live_field o
  pub same_field : (o : Object) → is_field_kind (g o).kind ≡ is_field_kind o.kind
  pub same_popup : (o : Object) → popup_of (g o) ≡ popup_of o

module _ (g : Object → Object) (keeps : KeepsListed g) where
  same_test : (p : ℕ) (o : Object) → is_field_of p (g o) ≡ is_field_of p o
  same_test p o =
      let peer : (g o).peer ≡ o.peer = ap (λ w. w.peer) (keeps.same_entry o) in
      rw (keeps.same_field o, peer) refl

  map_entries : (xs : List Object) → map live_field (map g xs) ≡ map live_field xs
  map_entries [] = refl
  map_entries (o ∷ xs) = rw (keeps.same_entry o, map_entries xs) refl

  fields_mapped : (p : ℕ) (os : List Object) → fields_of p os ≡ fields_of p (map g os)
  fields_mapped p os =
      sym (ap (map live_field) (filter-map (is_field_of p) g os) ∙ map_entries (filter (λ o. is_field_of p (g o)) os)
      ∙ ap (map live_field) (filter_agree (λ o. is_field_of p (g o)) (is_field_of p) (same_test p) os))

  popups_mapped : (os : List Object) → popups_of os ≡ popups_of (map g os)
  popups_mapped [] = refl
  popups_mapped (o ∷ os) = rw (keeps.same_popup o, ← (popups_mapped os)) refl

  module _ (os : List Object) (fields : List LiveField) (popups : List LivePopup) (entered : Entered)
      (lists : Lists os fields popups entered) where
    pub lists_mapped : (next : Entered) → All (IsCalm next) (map g os) → Lists (map g os) fields popups next
    lists_mapped next calm = record {
      peers_rise = lists.peers_rise;
      fields_are = λ p. lists.fields_are p ∙ fields_mapped p os;
      popups_are = lists.popups_are ∙ popups_mapped os;
      calm = calm;
    }

    pub lists_changed : ((o : Object) → IsCalm entered o → IsCalm entered (g o)) →
        Lists (map g os) fields popups entered
    lists_changed calm =
        lists_mapped entered
        (All-map (IsCalm entered) g os (All-weaker (IsCalm entered) (λ o. IsCalm entered (g o)) calm os lists.calm))

-- popups are taken out by what their objects are taken out by

abbrev no_popups : List LivePopup
no_popups = []

none_if : (b : Bool) → no_popups ≡ (if b then no_popups else no_popups)
none_if true = refl
none_if false = refl

module _ (q : LivePopup → Bool) (r : Object → Bool)
    (agree : (o : Object) (m s : ℕ) → q (record { peer = o.peer; label = o.label; method = m; surface = s }) ≡ r o)
  where
    popup_sifted : (o : Object) → filter q (popup_of o) ≡ (if r o then popup_of o else [])
    popup_sifted o = by_kind o.kind (r o) (agree o)
      where
        one : (b c : Bool) (w : LivePopup) → b ≡ c → (if b then w ∷ [] else []) ≡ (if c then w ∷ [] else [])
        one b c w e = ap (λ d. if d then w ∷ [] else []) e

        by_kind : (k : Kind) (b : Bool) →
            ((m s : ℕ) → q (record { peer = o.peer; label = o.label; method = m; surface = s }) ≡ b) →
            filter q (popup_of_kind o.peer o.label k) ≡ (if b then popup_of_kind o.peer o.label k else [])
        by_kind (Popup m s) b e = one _ b (record { peer = o.peer; label = o.label; method = m; surface = s }) (e m s)
        by_kind Peer b e = none_if b
        by_kind (Surface area) b e = none_if b
        by_kind (Field kept) b e = none_if b
        by_kind Method b e = none_if b
        by_kind (Grab m) b e = none_if b
        by_kind Thing b e = none_if b
        by_kind Board b e = none_if b

    put_popups : (b : Bool) (o : Object) (os : List Object) →
        (if b then popup_of o else []) ++ popups_of os ≡ popups_of (if b then o ∷ os else os)
    put_popups true o os = refl
    put_popups false o os = refl

    pub popups_sifted : (os : List Object) → filter q (popups_of os) ≡ popups_of (filter r os)
    popups_sifted [] = refl
    popups_sifted (o ∷ os) =
        filter-append q (popup_of o) (popups_of os)
        ∙ rw (popup_sifted o, popups_sifted os) (put_popups (r o) o (filter r os))

-- all objects of a peer

abbrev pub other_owner : ℕ → LiveField → Bool
other_owner p w = not (eqb w.peer p)

abbrev pub other_popup : ℕ → LivePopup → Bool
other_popup p w = not (eqb w.peer p)

abbrev pub other_object : ℕ → Object → Bool
other_object p o = not (eqb o.peer p)

fields_sifted : (q : LiveField → Bool) (p : ℕ) (os : List Object) →
    filter q (fields_of p os) ≡ fields_of p (filter (λ o. q (live_field o)) os)
fields_sifted q p os =
    filter-map q live_field (filter (is_field_of p) os)
    ∙ ap (map live_field) (filter_comm (λ o. q (live_field o)) (is_field_of p) os)

module _ (os : List Object) (fields : List LiveField) (popups : List LivePopup) (entered : Entered)
    (lists : Lists os fields popups entered) where
  pub lists_without_peer : (x : ℕ) →
      Lists (filter (other_object x) os) (filter (other_owner x) fields) (filter (other_popup x) popups) entered
  lists_without_peer x = record {
    peers_rise = peers_filtered (other_owner x) fields 0 lists.peers_rise;
    fields_are =
        λ p. filter_comm (of_peer p) (other_owner x) fields ∙ ap (filter (other_owner x)) (lists.fields_are p)
        ∙ fields_sifted (other_owner x) p os;
    popups_are =
        ap (filter (other_popup x)) lists.popups_are
        ∙ popups_sifted (other_popup x) (other_object x) (λ o m s. refl) os;
    calm = All-filter (other_object x) (IsCalm entered) os lists.calm;
  }

  -- one object more, behind the others

  module _ (o : Object) (later : List LiveField) (plus : List LivePopup) (next : Entered) where
    entry_is : (p : ℕ) (b : Bool) → (if b then live_field o ∷ [] else []) ≡ map live_field (if b then o ∷ [] else [])
    entry_is p true = refl
    entry_is p false = refl

    fields_behind : (p : ℕ) → fields_of p os ++ field_entry p o ≡ fields_of p (os ++ o ∷ [])
    fields_behind p =
        ap (λ ws. fields_of p os ++ ws) (entry_is p (is_field_of p o))
        ∙ sym (ap (map live_field) (filter-append (is_field_of p) os (o ∷ []))
        ∙ map-append live_field (filter (is_field_of p) os) (filter (is_field_of p) (o ∷ [])))

    popups_behind : popups_of os ++ popup_of o ≡ popups_of (os ++ o ∷ [])
    popups_behind =
        ap (λ ws. popups_of os ++ ws) (sym (append-nil (popup_of o))) ∙ sym (flat_map-append popup_of os (o ∷ []))

    pub lists_made : PeersRise later →
        ((p : ℕ) → filter (of_peer p) later ≡ filter (of_peer p) fields ++ field_entry p o) →
        plus ≡ popups ++ popup_of o → ((v : Object) → IsCalm entered v → IsCalm next v) → IsCalm next o →
        Lists (os ++ o ∷ []) later plus next
    lists_made rise parts listed keeps calm = record {
      peers_rise = rise;
      fields_are = λ p. parts p ∙ ap (λ ws. ws ++ field_entry p o) (lists.fields_are p) ∙ fields_behind p;
      popups_are = listed ∙ ap (λ ws. ws ++ popup_of o) lists.popups_are ∙ popups_behind;
      calm = All-push (IsCalm next) os o (All-weaker (IsCalm entered) (IsCalm next) keeps os lists.calm) calm;
    }

  -- the labels of a peer's fields rise
  pub fields_rise : (p : ℕ) → Rises os → LabelsRise (filter (of_peer p) fields)
  fields_rise p rise =
      rw (lists.fields_are p)
      (rises_mapped (λ (o : Object). o.label) field_label live_field (λ o. refl) (filter (is_field_of p) os) 0
      (rises_filtered (λ (o : Object). o.label) (is_field_of p) os 0 rise))

-- one object less

abbrev SameFound : List Object → ℕ → Object → Type 0
SameFound os x o = All (λ v. eqb v.label x ≡ true → v ≡ o) os

alone_first : (v : Object) (vs : List Object) (x : ℕ) (o : Object) →
    RisesBy (λ (w : Object). w.label) (v.label + 1) vs → v ≡ o → v.label ≡ x → SameFound (v ∷ vs) x o
alone_first v vs x o rise here same zero d lt is = here
alone_first v vs x o rise here same (suc k) d lt is =
    let above = number_from (λ (w : Object). w.label) vs (v.label + 1) k d rise (omega arith) in
    absurd (grind (arith, nat_tests))

alone_later : (v : Object) (vs : List Object) (x : ℕ) (o : Object) → v.label ≢ x → SameFound vs x o →
    SameFound (v ∷ vs) x o
alone_later v vs x o differs rest zero d lt is = absurd (grind (arith, nat_tests))
alone_later v vs x o differs rest (suc k) d lt is = rest k d (omega arith) is

-- the found object is the only one with its label
alone : (os : List Object) (n x : ℕ) (o : Object) → RisesBy (λ (v : Object). v.label) n os → Some o ≡ find os x →
    SameFound os x o
alone [] n x o rise found = λ k d lt. absurd (omega arith)
alone (v ∷ vs) n x o rise found = elim (cases_eq v.label x) [
  | inl same ↦ alone_first v vs x o rise.1 (grind (arith, nat_tests)) same
  | inr differs ↦ alone_later v vs x o differs (alone vs (v.label + 1) x o rise.1 (grind (arith, nat_tests)))
]

found_label : (os : List Object) (x : ℕ) (o : Object) → Some o ≡ find os x → o.label ≡ x
found_label [] x o found = absurd (cc)
found_label (v ∷ vs) x o found = elim (cases_eq v.label x) [
  | inl same ↦ grind (arith, nat_tests)
  | inr differs ↦ found_label vs x o (grind (arith, nat_tests))
]

module _ (x : ℕ) (o : Object) where
  sift_first : (q : Object → Bool) → q o ≡ false → (v : Object) (vs : List Object) (b : Bool) → (b ≡ true → v ≡ o) →
      filter q vs ≡ filter q (filter (not_label x) vs) →
      filter q (v ∷ vs) ≡ filter q (if not b then v ∷ filter (not_label x) vs else filter (not_label x) vs)
  sift_first q off v vs true same rest =
      let test : q v ≡ false = ap q (same refl) ∙ off in
      rw test rest
  sift_first q off v vs false same rest = ap (λ ws. if q v then v ∷ ws else ws) rest

  -- an object that passes no test is missed by none
  sift_none : (q : Object → Bool) → q o ≡ false → (os : List Object) → SameFound os x o →
      filter q os ≡ filter q (filter (not_label x) os)
  sift_none q off [] only = refl
  sift_none q off (v ∷ vs) only =
      sift_first q off v vs (eqb v.label x) (only 0 v (omega arith))
      (sift_none q off vs (λ k d lt. only (suc k) d (omega arith)))

  no_popup : (k : Kind) (p y : ℕ) → is_popup_kind k ≡ false → popup_of_kind p y k ≡ []
  no_popup (Popup m s) p y off = absurd (cc)
  no_popup Peer p y off = refl
  no_popup (Surface area) p y off = refl
  no_popup (Field kept) p y off = refl
  no_popup Method p y off = refl
  no_popup (Grab m) p y off = refl
  no_popup Thing p y off = refl
  no_popup Board p y off = refl

  popups_first : is_popup_kind o.kind ≡ false → (v : Object) (vs : List Object) (b : Bool) → (b ≡ true → v ≡ o) →
      popups_of vs ≡ popups_of (filter (not_label x) vs) →
      popups_of (v ∷ vs) ≡ popups_of (if not b then v ∷ filter (not_label x) vs else filter (not_label x) vs)
  popups_first off v vs true same rest =
      let none : popup_of v ≡ [] = ap popup_of (same refl) ∙ no_popup o.kind o.peer o.label off in
      rw none rest
  popups_first off v vs false same rest = ap (λ ws. popup_of v ++ ws) rest

  popups_same : is_popup_kind o.kind ≡ false → (os : List Object) → SameFound os x o →
      popups_of os ≡ popups_of (filter (not_label x) os)
  popups_same off [] only = refl
  popups_same off (v ∷ vs) only =
      popups_first off v vs (eqb v.label x) (only 0 v (omega arith))
      (popups_same off vs (λ k d lt. only (suc k) d (omega arith)))

module _ (os : List Object) (fields : List LiveField) (popups : List LivePopup) (entered : Entered)
    (lists : Lists os fields popups entered) (x : ℕ) (o : Object) (rise : Rises os) (found : Some o ≡ find os x) where
  only : SameFound os x o
  only = alone os 0 x o rise found

  is_it : (v : Object) → (eqb v.label x ≡ true → v ≡ o) → is_other (live_field o) (live_field v) ≡ not_label x v
  is_it v same =
      let label : o.label ≡ x = found_label os x o found in
      let test : eqb v.label o.label ≡ eqb v.label x = ap (eqb v.label) label in
      rw test (by_label (eqb v.label x) (λ is.
      let here = ap (λ (w : Object). w.peer) (same is) in
      grind (arith, nat_tests)))
    where
      by_label : (b : Bool) → (b ≡ true → eqb v.peer o.peer ≡ true) → not (eqb v.peer o.peer && b) ≡ not b
      by_label true is = rw (is refl) refl
      by_label false is = both (eqb v.peer o.peer)
        where
          both : (a : Bool) → not (a && false) ≡ true
          both true = refl
          both false = refl

  sift_same : filter (λ v. is_other (live_field o) (live_field v)) os ≡ filter (not_label x) os
  sift_same = filter_alike (λ v. is_other (live_field o) (live_field v)) (not_label x) os
      (λ k d lt. is_it (get_or os k d) (only k d lt))

  fields_without : (b : Bool) → is_field_kind o.kind ≡ b → (p : ℕ) →
      filter (of_peer p) (if b then filter (is_other (live_field o)) fields else fields)
      ≡ fields_of p (filter (not_label x) os)
  fields_without true is p =
      filter_comm (of_peer p) (is_other (live_field o)) fields
      ∙ ap (filter (is_other (live_field o))) (lists.fields_are p)
      ∙ fields_sifted (is_other (live_field o)) p os ∙ ap (fields_of p) sift_same
  fields_without false is p =
      lists.fields_are p ∙ ap (map live_field) (sift_none x o (is_field_of p) (rw is refl) os only)

  rise_without : (b : Bool) → PeersRise (if b then filter (is_other (live_field o)) fields else fields)
  rise_without true = peers_filtered (is_other (live_field o)) fields 0 lists.peers_rise
  rise_without false = lists.peers_rise

  popups_without : (b : Bool) → is_popup_kind o.kind ≡ b →
      (if b then filter (λ w. not (eqb w.label o.label)) popups else popups) ≡ popups_of (filter (not_label x) os)
  popups_without true is =
      ap (filter (λ w. not (eqb w.label o.label))) lists.popups_are
      ∙ popups_sifted (λ w. not (eqb w.label o.label)) (not_label o.label) (λ v m s. refl) os
      ∙ ap (λ y. popups_of (filter (not_label y) os)) (found_label os x o found)
  popups_without false is = lists.popups_are ∙ popups_same x o is os only

  pub lists_without : Lists (filter (not_label x) os) (without_field o fields) (without_popup o popups) entered
  lists_without = record {
    peers_rise = rise_without (is_field_kind o.kind);
    fields_are = fields_without (is_field_kind o.kind) refl;
    popups_are = popups_without (is_popup_kind o.kind) refl;
    calm = All-filter (not_label x) (IsCalm entered) os lists.calm;
  }

-- where no object has the label, none goes
pub none_goes : (os : List Object) (x : ℕ) → None ≡ find os x → os ≡ filter (not_label x) os
none_goes [] x none = refl
none_goes (v ∷ vs) x none = elim (cases_eq v.label x) [
  | inl same ↦ absurd (grind (arith, nat_tests))
  | inr differs ↦
      let test : eqb v.label x ≡ false = grind (arith, nat_tests) in
      rw test (ap (λ ws. v ∷ ws) (none_goes vs x (grind (arith, nat_tests))))
]
