-- A peer that joins has the highest number and label, and nothing is gathered for it.
use Rattle.std.proofs.Common.{◌≡◌, ℕ, zero, suc, ◌+◌, ◌<◌, List, [], ◌∷◌, length, get_or, slice_get, Some, map, refl, sym, ap, arith}
use Rattle.relay_model.specs.declared.role.Role.{Role}
use Rattle.broker_model.specs.declared.journal.Entry.{Entry}
use Rattle.broker_model.specs.Resolve.{past_of}
use Rattle.broker_model.proofs.LabelsRiseByNumber.{label_within}
use Rattle.broker_audience.specs.declared.live.Live.{Live}
use Rattle.broker_audience.specs.Changes.{IsNewcomer}
use Rattle.broker_audience.specs.Lives.{Numbered, who, AreOver}
use Rattle.broker_audience.specs.Visits.{IsAboveAll, IsNew, IsAt, HasNone}
use Rattle.std.proofs.lemmas.Bool.{eq-eqb, ne_eqb}
use Rattle.broker_audience.proofs.PeersInOrder.{key_over}
use Rattle.broker_core.specs.Stands.{roster}
use Rattle.broker_core.specs.Watched.{number_at}
use Rattle.broker_model.proofs.EachElement.{each_weaker}
use Rattle.broker_core.proofs.ReadyForEnd.{place_in_joined}
use Rattle.broker_core.proofs.RosterAfterEntry.{each_alive}

pub above_all : (journal : List Entry) (live : List Live) → map who live ≡ roster journal → (l : Live) →
    l.number ≡ length (past_of journal).joined + 1 →
    l.label ≡ length journal + 1 → IsAboveAll l live
above_all journal live is l number label = record {
  number = omega arith;
  label = omega arith;
  others = each_weaker _ (λ (m : Live). (m.number < l.number) × (m.label < l.label)) live
      (λ m alive.
      let place = place_in_joined (past_of journal).joined m.number _ alive.0 in
      let within = label_within journal m.number _ alive.0 in
      (omega (arith, place.1), omega (arith, within)))
      (each_alive journal live is);
}

pub newcomer_number : (capacity number label : ℕ) (role : Role) (l : Live) → IsNewcomer capacity number label role l →
    l.number ≡ number
newcomer_number capacity number label role l new = ap (λ (n : Numbered). n.number) new.is

pub newcomer_label : (capacity number label : ℕ) (role : Role) (l : Live) → IsNewcomer capacity number label role l →
    l.label ≡ label
newcomer_label capacity number label role l new = ap (λ (n : Numbered). n.peer.label) new.is

pub newcomer_new : (capacity number label : ℕ) (role : Role) (l : Live) → IsNewcomer capacity number label role l →
    IsNew l
newcomer_new capacity number label role l new = record {
  quiet = rw new.gathering refl;
  calm = record { choked = new.choked; refused = new.refused };
  bounded = rw new.store (omega arith);
}

-- the peer with the label, among those in order
pub number_there : (base place : ℕ) (live : List Live) (label : ℕ) (x : Live) → AreOver (λ l. l.label) base live →
    IsAt (λ l. l.label) label live place →
    slice_get live place ≡ Some x → x.number ≡ number_at (map who live) label
number_there base place [] label x over at is = absurd (cc)
number_there base zero (l ∷ live) label x over at is =
    let same : l ≡ x = cc in
    rw (eq-eqb l.label label (at.has l)) (ap (λ (m : Live). m.number) (sym same))
number_there base (suc place) (l ∷ live) label x over at is =
    let later : IsAt (λ l. l.label) label live place = record { within = omega (arith, at.within); has = at.has } in
    let above : l.label < (get_or live place l).label =
    key_over (λ l. l.label) live l.label place l over.1 later.within in
    let has = at.has l in
    rw (ne_eqb l.label label (λ e. absurd (omega (arith, above, has))))
    (number_there l.label place live label x over.1 later is)

pub number_nowhere : (live : List Live) (label : ℕ) → HasNone (λ l. l.label) label live →
    0 ≡ number_at (map who live) label
number_nowhere [] label none = refl
number_nowhere (l ∷ live) label none =
    rw (ne_eqb l.label label (none 0 l (omega arith)))
    (number_nowhere live label (λ k d lt. none (suc k) d (omega arith)))
