-- A legal call adds to the steps of its pass what it made, and the pass has seen more
use Rattle.std.proofs.Common.{◌≡◌, ℕ, [], ◌∷◌, ◌++◌, map, refl, sym, ap, ◌∙◌, append_assoc, append-nil}
use Rattle.std.proofs.lemmas.List.{map-append}
use Rattle.broker_steps.specs.declared.limits.Limits.{Limits}
use Rattle.broker_model.specs.declared.journal.Entry.{Entry}
use Rattle.turn_lock.specs.Pairs.{own, NoneOf}
use Rattle.hub_lock.specs.Seats.{having_seen}
use Rattle.turn_lock.proofs.PairsOfNumbers.{own-append, own-here}
use Rattle.hub_lock.specs.declared.step.OuterStep.{OuterStep}
use Rattle.hub_lock.specs.Histories.{History, only}
use Rattle.hub_lock.specs.Passes.{PassSeat, PeerPass}
use Rattle.hub_lock.specs.Calls.{Legal, pass_having_seen}
use Rattle.hub_lock.proofs.LegalCalls.{seen-more}
use Rattle.hub_calls.specs.Made.{entries_by, SawMore}

own_same : (n : ℕ) (seen rest : History) → NoneOf n rest → own n (seen ++ rest) ≡ own n seen
own_same n seen rest free = own-append n seen rest ∙ ap (λ z. own n seen ++ z) free ∙ append-nil (own n seen)

own_longer : (n : ℕ) (s : OuterStep) (seen rest : History) → NoneOf n rest
    → own n ((seen ++ rest) ++ (n, s) ∷ []) ≡ own n seen ++ s ∷ []
own_longer n s seen rest free =
    own-append n (seen ++ rest) ((n, s) ∷ []) ∙ ap (λ z. own n (seen ++ rest) ++ z) (own-here n (n, s) [] refl)
    ∙ ap (λ z. z ++ s ∷ []) (own_same n seen rest free)

abbrev entry_in : OuterStep → Entry
entry_in s = s.entry

-- nothing was made
pub entries_same : (seat : PassSeat) (rest after : History) → NoneOf seat.number rest → after ≡ seat.seen ++ rest
    → entries_by (having_seen seat after) ≡ entries_by seat
entries_same seat rest after free is =
    ap (map entry_in) (ap (own seat.number) is ∙ own_same seat.number seat.seen rest free)

-- a step with this entry was
pub entries_one : (seat : PassSeat) (rest after : History) (e : Entry) → NoneOf seat.number rest
    → after ≡ (seat.seen ++ rest) ++ (seat.number, only e) ∷ [] →
    entries_by (having_seen seat after) ≡ entries_by seat ++ e ∷ []
entries_one seat rest after e free is =
    ap (map entry_in) (ap (own seat.number) is ∙ own_longer seat.number (only e) seat.seen rest free)
    ∙ map-append entry_in (own seat.number seat.seen) (only e ∷ [])

-- what is seen

pub saw_none : (limits : Limits) (h : History) → SawMore limits h h
saw_none limits h = record { more = []; grew = sym (append-nil h); lawful = λ k. k }

pub saw_both : (limits : Limits) (a b c : History) → SawMore limits a b → SawMore limits b c → SawMore limits a c
saw_both limits a b c first next = record {
  more = first.more ++ next.more;
  grew = next.grew ∙ ap (λ h. h ++ next.more) first.grew ∙ append_assoc a first.more next.more;
  lawful = λ k. next.lawful (first.lawful k);
}

pub saw_legal : (limits : Limits) (seat : PassSeat) (after : History) (Told : History → Type 0) →
    Legal limits seat after Told → SawMore limits seat.seen after
saw_legal limits seat after Told k =
    let m = seen-more limits seat after Told k in
    record { more = m.0; grew = m.1; lawful = λ before. k.lawful_after }

pub pass_both : (a b c : PeerPass) → b ≡ pass_having_seen a b.seat.seen → c ≡ pass_having_seen b c.seat.seen
    → c ≡ pass_having_seen a c.seat.seen
pass_both a b c first next = next ∙ ap (λ (p : PeerPass). pass_having_seen p c.seat.seen) first

pub same_peer : (a b : PeerPass) → b ≡ pass_having_seen a b.seat.seen → b.peer ≡ a.peer
same_peer a b is = ap (λ (p : PeerPass). p.peer) is
