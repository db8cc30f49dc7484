-- Where the next user's peer didn't begin, the root has made few steps
use Rattle.std.proofs.Common.{◌≡◌, ◌≤◌, ◌<◌, ℕ, ◌+◌, List, [], ◌∷◌, ◌++◌, length, refl, sym, ap, ◌∙◌, arith, append-nil}
use Rattle.client_side.specs.Messages.{field_setup, method_setup}
use Rattle.turn_lock.specs.Pairs.{own, total}
use Rattle.hub_lock.specs.Histories.{History}
use Rattle.hub_lock.specs.Passes.{HubId, PassSeat, steps_of}
use Rattle.trial_threads.specs.declared.no_job.NoJob.{NoJob}
use Rattle.trial_threads.specs.declared.no_job.NoJob.TheVariants as none
use Rattle.trial_threads.specs.NoJobs.{IsWithout, count_of}
use Rattle.trial_threads.specs.declared.running.Running.{Running}
use Rattle.trial_threads.specs.BegunJobs.{WasFullEarly, IsUnbegun}
use Rattle.trial_threads.specs.Peers.{HaveJoined}

made_few : (root after : PassSeat) (n : ℕ) → root.number ≡ 0 → length (own 0 root.seen) ≡ n →
    steps_of after ≤ steps_of root + 1 → steps_of after ≤ n + 1
made_few root after n number made more =
    let same = ap (λ (m : ℕ). length (own m root.seen)) number in omega (arith, same, made, more)

back_few : (ns back old : List ℕ) (h : History) (some most : ℕ) → ns ≡ back ++ old → old ≡ [] → total back h ≤ some →
    some ≤ most → total ns h ≤ most
back_few ns back old h some most taken none few le =
    let is : ns ≡ back = taken ∙ ap (λ (l : List ℕ). back ++ l) none ∙ append-nil back in
    let same = ap (λ (l : List ℕ). total l h) is in omega (arith, same, few, le)

unbegun : (hub : HubId) (root after : PassSeat) (rs : List Running) (some : ℕ) (why : NoJob) →
    some ≤ count_of field_setup + count_of method_setup → HaveJoined root (length rs) rs → length rs ≤ 17 →
    IsWithout hub root after some why → ((n : ℕ) → why ≡ none.TooManyPeers n → ⊥) →
    IsUnbegun hub.limits after rs why
unbegun hub root after rs some (none.TooManyPeers alive) le h jobs w few = few alive refl
unbegun hub root after rs some none.NoMemory le h jobs w few = tt
unbegun hub root after rs some (none.JournalFull kept) le h jobs w few = record {
  full = w.cause;
  number = w.number ∙ h.number;
  jobs = jobs;
  made = made_few root after (length rs) h.number h.made w.made;
  out = w.out ∙ h.out;
  few = back_few after.taken w.back root.taken after.seen some _ w.taken h.none w.few le;
}

-- fewer peers have joined than may be alive
pub few_joined : (root : PassSeat) (n : ℕ) (rs : List Running) → HaveJoined root n rs → n ≤ 17 →
    length (own 0 root.seen) < 64
few_joined root n rs h le = let made = h.made in omega (arith, made, le)

first_le : (a b : ℕ) → a ≤ a + b
first_le a b = omega arith

second_le : (a b : ℕ) → b ≤ a + b
second_le a b = omega arith

pub field_unbegun : (hub : HubId) (root after : PassSeat) (rs : List Running) (why : NoJob) →
    HaveJoined root (length rs) rs → length rs ≤ 17 → IsWithout hub root after (count_of field_setup) why →
    ((n : ℕ) → why ≡ none.TooManyPeers n → ⊥) → IsUnbegun hub.limits after rs why
field_unbegun hub root after rs why =
    unbegun hub root after rs (count_of field_setup) why (first_le (count_of field_setup) (count_of method_setup))

pub method_unbegun : (hub : HubId) (root after : PassSeat) (rs : List Running) (why : NoJob) →
    HaveJoined root (length rs) rs → length rs ≤ 17 → IsWithout hub root after (count_of method_setup) why →
    ((n : ℕ) → why ≡ none.TooManyPeers n → ⊥) → IsUnbegun hub.limits after rs why
method_unbegun hub root after rs why =
    unbegun hub root after rs (count_of method_setup) why (second_le (count_of field_setup) (count_of method_setup))
