-- The root makes one step at most for a peer that joins, and the passes of a set-up few
use Rattle.std.proofs.Common.{◌≡◌, ◌≤◌, ℕ, ◌+◌, List, [], ◌∷◌, ◌++◌, map, length, Result, Ok, Err, refl, ap, subst, ◌∙◌, inl, inr, arith, append-nil, length-append}
use Rattle.std.proofs.lemmas.List.{length-map}
use Rattle.wl_wire.specs.Messages.{messages}
use Rattle.relay_model.specs.declared.role.Role.{Role}
use Rattle.broker_steps.specs.declared.limits.Limits.{Limits}
use Rattle.broker_model.specs.declared.journal.Entry.{Entry}
use Rattle.broker_core.specs.declared.answers.JoinRefusal.{JoinRefusal}
use Rattle.turn_lock.specs.Pairs.{own, total, NoneOf, IsGrown}
use Rattle.hub_lock.specs.Seats.{met_with}
use Rattle.turn_lock.proofs.PairsOfNumbers.{own-here, own-append, own-seen}
use Rattle.hub_lock.specs.declared.step.OuterStep.{OuterStep}
use Rattle.hub_lock.specs.Histories.{History}
use Rattle.hub_lock.specs.Passes.{PassSeat, PeerPass, steps_of}
use Rattle.hub_lock.specs.Calls.{LegalJoin, IsJoined}
use Rattle.hub_calls.specs.declared.stop.PassStop.{PassStop}
use Rattle.hub_calls.specs.declared.stop.PassStop.TheVariants as stops
use Rattle.hub_calls.specs.Made.{entries_by}
use Rattle.hub_calls.specs.Submitted.{Submits, message_entry, entries_in}
use Rattle.trial_threads.specs.Begun.{AreBack}
use Rattle.trial_threads.specs.NoJobs.{count_in}

-- ---- the root

own_grown : (n : ℕ) (before after : History) → IsGrown n before after →
    length (own n after) ≤ length (own n before) + 1
own_grown n before after (inl same) =
    let e = ap (λ (h : History). length (own n h)) same in omega arith
own_grown n before after (inr more) =
    let s : OuterStep = more.0 in
    let e : own n after ≡ own n before ++ s ∷ [] =
    ap (own n) more.1 ∙ own-append n before ((n, s) ∷ [])
    ∙ ap (λ (l : List OuterStep). own n before ++ l) (own-here n (n, s) [] refl) in
    let l = ap length e in
    let m = length-append (own n before) (s ∷ []) in omega arith

pub joined_one : (limits : Limits) (root : PassSeat) (seen : History) (role : Role) (r : Result ℕ JoinRefusal) →
    LegalJoin limits root seen role r → length (own root.number seen) ≤ steps_of root + 1
joined_one limits root seen role r k =
    let n : ℕ = root.number in
    let same : own n (root.seen ++ k.rest) ≡ own n root.seen =
    own-append n root.seen k.rest ∙ ap (λ (l : List OuterStep). own n root.seen ++ l) k.apart
    ∙ append-nil (own n root.seen) in
    let l = ap length same in
    let g = own_grown n (root.seen ++ k.rest) seen k.grows in omega arith

-- it made none since
pub back_one : (limits : Limits) (before root after : PassSeat) (role : Role) (first reader writer : PeerPass) →
    IsJoined limits before root role first writer → AreBack root after reader.seat writer.seat →
    length (own before.number after.seen) ≤ steps_of before + 1
back_one limits before root after role first reader writer k b =
    let mid : PassSeat = met_with root reader.seat in
    let number : root.number ≡ before.number = ap (λ (s : PassSeat). s.number) k.left in
    let since : own root.number after.seen ≡ own root.number k.seen =
    own-seen after.seen mid.seen root.number b.then.mine
    ∙ own-seen mid.seen root.seen root.number b.first.mine
    ∙ ap (λ (s : PassSeat). own root.number s.seen) k.left in
    let same : own before.number after.seen ≡ own before.number k.seen =
    subst (λ (n : ℕ). own n after.seen ≡ own n k.seen) number since in
    let l = ap length same in
    let one = joined_one limits before k.seen role (Ok first.peer) k.legal in omega arith

-- ---- the passes

abbrev entry_in : OuterStep → Entry
entry_in step = step.entry

-- a pass that had made nothing made the first of these entries
first_few : (before after : PeerPass) (all made : List Entry) (next : Entry) (left : List Entry) →
    NoneOf before.seat.number before.seat.seen → all ≡ made ++ next ∷ left →
    entries_by after.seat ≡ entries_by before.seat ++ made → steps_of after.seat ≤ length all
first_few before after all made next left fresh is made-is =
    let none : entries_by before.seat ≡ [] = ap (map entry_in) fresh in
    let e : entries_by after.seat ≡ made = made-is ∙ ap (λ (l : List Entry). l ++ made) none in
    let l = ap length e in
    let steps = length-map (own after.seat.number after.seat.seen) entry_in in
    let whole = ap length is in
    let both = length-append made (next ∷ left) in omega arith

pub setup_few : (limits : Limits) (before after : PeerPass) (q : ℕ) (setup : List ℕ) (stop : PassStop) →
    NoneOf before.seat.number before.seat.seen → Submits limits before after (entries_in q setup) (Err stop) →
    steps_of after.seat ≤ count_in setup
setup_few limits before after q setup (stops.JournalFull kept) fresh k =
    let few = first_few before after (entries_in q setup) k.made k.next k.left fresh k.all_are k.entries in
    let as_many = length-map (messages setup) (message_entry q) in omega arith
setup_few limits before after q setup stops.NoMemory fresh k =
    let few = first_few before after (entries_in q setup) k.made k.next k.left fresh k.all_are k.entries in
    let as_many = length-map (messages setup) (message_entry q) in omega arith

-- the two that came back
pub back_few : (root after reader writer : PassSeat) (most : ℕ) → AreBack root after reader writer →
    NoneOf writer.number writer.seen → steps_of reader ≤ most →
    total (writer.number ∷ reader.number ∷ []) after.seen ≤ most
back_few root after reader writer most b fresh few =
    let mid : PassSeat = met_with root reader in
    let w = ap length (own-seen after.seen writer.seen writer.number b.then.theirs ∙ fresh) in
    let r = ap length (own-seen after.seen mid.seen reader.number (b.then.taken reader.number (inl refl))
    ∙ own-seen mid.seen reader.seen reader.number b.first.theirs) in omega arith
