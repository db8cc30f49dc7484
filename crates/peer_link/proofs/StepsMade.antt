-- What a legal call adds to the steps of its pass
use Rattle.std.proofs.Common.{◌≡◌, ℕ, zero, suc, ◌+◌, ◌≤◌, List, [], ◌∷◌, ◌++◌, length, map, Option, Some, None, refl, sym, ap, ◌∙◌, arith, append_assoc, append-nil, length-append}
use Rattle.std.proofs.lemmas.List.{map-append}
use Rattle.broker_steps.specs.declared.limits.Limits.{Limits}
use Rattle.broker_model.specs.declared.journal.Entry.{Entry}
use Rattle.broker_model.specs.declared.journal.Entry.TheVariants as entries
use Rattle.broker_model.specs.Settle.{due, cause_of, with_end, settled, number_alive, history}
use Rattle.turn_lock.specs.Pairs.{own, NoneOf}
use Rattle.hub_lock.specs.Seats.{having_seen}
use Rattle.turn_lock.proofs.PairsOfNumbers.{own-append, own-here}
use Rattle.hub_lock.specs.declared.step.OuterStep.{OuterStep}
use Rattle.hub_lock.specs.Histories.{History, entries_of, only}
use Rattle.hub_lock.specs.Passes.{PassSeat, PeerPass, steps_of}
use Rattle.hub_lock.specs.Calls.{Legal, pass_having_seen}
use Rattle.hub_lock.proofs.JournalOfSteps.{length-entries}
use Rattle.hub_lock.proofs.StepsCounted.{own-few}
use Rattle.hub_lock.proofs.LegalCalls.{seen-more}
use Rattle.peer_link.specs.Made.{entries_by, journal_of, SawMore}

-- the pass's own pairs

pub own-same : (n : ℕ) (seen rest : History) → NoneOf n rest → own n (seen ++ rest) ≡ own n seen
own-same n seen rest free = own-append n seen rest ∙ ap (λ z. own n seen ++ z) free ∙ append-nil (own n seen)

pub own-one : (n : ℕ) (s : OuterStep) (h : History) → own n (h ++ (n, s) ∷ []) ≡ own n h ++ s ∷ []
own-one n s h = own-append n h ((n, s) ∷ []) ∙ ap (λ z. own n h ++ z) (own-here n (n, s) [] refl)

own-longer : (n : ℕ) (s : OuterStep) (seen rest : History) → NoneOf n rest
    → own n ((seen ++ rest) ++ (n, s) ∷ []) ≡ own n seen ++ s ∷ []
own-longer n s seen rest free = own-one n s (seen ++ rest) ∙ ap (λ z. z ++ s ∷ []) (own-same n seen rest free)

abbrev entry_in : OuterStep → Entry
entry_in s = s.entry

pub entries-same : (seat : PassSeat) (rest after : History) → NoneOf seat.number rest → after ≡ seat.seen ++ rest
    → entries_by (having_seen seat after) ≡ entries_by seat
entries-same seat rest after free is =
    ap (map entry_in) (ap (own seat.number) is ∙ own-same seat.number seat.seen rest free)

pub entries-one : (seat : PassSeat) (rest after : History) (e : Entry) → NoneOf seat.number rest
    → after ≡ (seat.seen ++ rest) ++ (seat.number, only e) ∷ [] →
    entries_by (having_seen seat after) ≡ entries_by seat ++ e ∷ []
entries-one seat rest after e free is =
    ap (map entry_in) (ap (own seat.number) is ∙ own-longer seat.number (only e) seat.seen rest free)
    ∙ map-append entry_in (own seat.number seat.seen) (only e ∷ [])

pub steps-one : (seat : PassSeat) (rest after : History) (e : Entry) → NoneOf seat.number rest
    → after ≡ (seat.seen ++ rest) ++ (seat.number, only e) ∷ [] → steps_of (having_seen seat after) ≡ steps_of seat + 1
steps-one seat rest after e free is =
    ap length (ap (own seat.number) is ∙ own-longer seat.number (only e) seat.seen rest free)
    ∙ length-append (own seat.number seat.seen) (only e ∷ [])

-- a journal is as long as its history at least

settled-long_by : (capacity fuel : ℕ) (journal : List Entry) (o : Option ℕ)
    → ((later : List Entry) → length later ≤ length (settled capacity fuel later)) →
    length journal ≤ length (settled capacity fuel (with_end journal o))
settled-long_by capacity fuel journal None k = k journal
settled-long_by capacity fuel journal (Some q) k =
    let more = k (entries.End q (cause_of journal q) ∷ journal) in omega (arith, more)

settled-long : (capacity fuel : ℕ) (journal : List Entry) → length journal ≤ length (settled capacity fuel journal)
settled-long capacity zero journal = omega arith
settled-long capacity (suc fuel) journal =
    settled-long_by capacity fuel journal (due capacity journal) (settled-long capacity fuel)

history-long : (capacity : ℕ) (es : List Entry) → length es ≤ length (history capacity es)
history-long capacity [] = omega arith
history-long capacity (e ∷ es) =
    let J : List Entry = e ∷ history capacity es in
    let s = settled-long capacity (number_alive J) J in
    let r = history-long capacity es in omega (arith, s, r)

pub few-steps : (limits : Limits) (n : ℕ) (h : History) → length (own n h) ≤ length (journal_of limits h)
few-steps limits n h =
    let a = own-few n h in
    let b = length-entries h in
    let c = history-long limits.store (entries_of h) in omega (arith, a, b, c)

-- the pass has seen more

pub saw-none : (limits : Limits) (h : History) → SawMore limits h h
saw-none limits h = record { more = []; grew = sym (append-nil h); lawful = λ k. k }

pub saw-both : (limits : Limits) (a b c : History) → SawMore limits a b → SawMore limits b c → SawMore limits a c
saw-both limits a b c first next = record {
  more = first.more ++ next.more;
  grew = next.grew ∙ ap (λ h. h ++ next.more) first.grew ∙ append_assoc a first.more next.more;
  lawful = λ k. next.lawful (first.lawful k);
}

pub saw-legal : (limits : Limits) (seat : PassSeat) (after : History) (Told : History → Type 0) →
    Legal limits seat after Told
    → SawMore limits seat.seen after
saw-legal limits seat after Told k =
    let m = seen-more limits seat after Told k in
    record { more = m.0; grew = m.1; lawful = λ before. k.lawful_after }

pub pass-both : (a b c : PeerPass) → b ≡ pass_having_seen a b.seat.seen → c ≡ pass_having_seen b c.seat.seen
    → c ≡ pass_having_seen a c.seat.seen
pass-both a b c first next = next ∙ ap (λ (p : PeerPass). pass_having_seen p c.seat.seen) first

pub seat-both : (a b c : PassSeat) → b ≡ having_seen a b.seen → c ≡ having_seen b c.seen → c ≡ having_seen a c.seen
seat-both a b c first next = next ∙ ap (λ (s : PassSeat). having_seen s c.seen) first
