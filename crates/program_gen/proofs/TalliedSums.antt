-- What a tally has after it was told of all that was put.
use Rattle.std.proofs.Common.{◌≡◌, ℕ, ◌-◌, ◌^◌, ◌<◌, ◌≤◌, List, [], ◌∷◌, ◌++◌, length, refl, sym, ap, subst, ◌∙◌, arith}
use Rattle.std.specs.List.{sum_by}
use Rattle.std.proofs.lemmas.List.Sums.{sum_by-cons}
use Rattle.broker_model.specs.declared.journal.Entry.{Entry}
use Rattle.broker_core.specs.Reached.{Reached}
use Rattle.broker_core.specs.Watched.{Watched, watched_since}
use Rattle.broker_core.specs.Watched.Watched.{Entered, Placed, Passed, Modified, Put}
use Rattle.program_gen.specs.declared.tally.Tally.{Tally}
use Rattle.program_gen.specs.Journals.{limits, of_put, put_sum, method_dones}
use Rattle.program_gen.specs.Counts.{field_dones, activates, all_bytes}
use Rattle.program_gen.specs.Tallies.{raised, tallied, MayTally, tally_of}
use Rattle.program_gen.proofs.PutSums.{put_more}
use Rattle.program_gen.proofs.RoomLeft.{AreWithin}

-- one of its counts, and what raises it
record IsRaised (part : Tally → ℕ) (count : ℕ → List ℕ → ℕ) : Type 0 where
  raises : (event : Watched) (t : Tally) → part t ≤ 2 ^ 64 - 1 →
      part (tallied event t) ≡ raised (part t) (of_put count event)

-- a sum that stands still at its last value
raised_sum : (part : Tally → ℕ) (count : ℕ → List ℕ → ℕ) → IsRaised part count → (t : Tally) (events : List Watched)
    (after : Tally) → part t ≤ 2 ^ 64 - 1 → Reached MayTally t events after →
    part after ≡ raised (part t) (sum_by (of_put count) events)
raised_sum part count is t [] after l same = ap part same ∙ omega arith
raised_sum part count is t (event ∷ events) after l h =
    let mid : Tally = h.0 in
    let first : part mid ≡ raised (part t) (of_put count event) = ap part h.1 ∙ is.raises event t l in
    let rest = raised_sum part count is mid events after (omega arith) h.2 in
    let sum = sum_by-cons (of_put count) event events in
    omega arith

part_is : (part : Tally → ℕ) (count : ℕ → List ℕ → ℕ) → IsRaised part count → (journal more : List Entry)
    (t after : Tally) → part t ≡ put_sum count journal → part t ≤ 2 ^ 64 - 1 →
    Reached MayTally t (watched_since limits.store (length journal) (more ++ journal)) after →
    put_sum count (more ++ journal) < 2 ^ 64 → part after ≡ put_sum count (more ++ journal)
part_is part count is journal more t after was l h few =
    let raise = raised_sum part count is t (watched_since limits.store (length journal) (more ++ journal)) after l h in
    let sum = put_more count more journal in
    omega arith

same_tally : (t u : Tally) → t.dones ≡ u.dones → t.activates ≡ u.activates → t.method_dones ≡ u.method_dones →
    t.queued ≡ u.queued → t ≡ u
same_tally t u a b c d =
    ap (λ n. record { dones = n; activates = t.activates; method_dones = t.method_dones; queued = t.queued }) a
    ∙ ap (λ n. record { dones = u.dones; activates = n; method_dones = t.method_dones; queued = t.queued }) b
    ∙ ap (λ n. record { dones = u.dones; activates = u.activates; method_dones = n; queued = t.queued }) c
    ∙ ap (λ n. record { dones = u.dones; activates = u.activates; method_dones = u.method_dones; queued = n }) d

dones_raised : IsRaised (λ x. x.dones) field_dones
dones_raised = record { raises = by }
  where
    by : (event : Watched) (t : Tally) → t.dones ≤ 2 ^ 64 - 1 →
        (tallied event t).dones ≡ raised t.dones (of_put field_dones event)
    by (Put n q bytes tokens) t l = refl
    by (Entered n e act log) t l = omega arith
    by (Placed n q id x y) t l = omega arith
    by (Passed n time key state) t l = omega arith
    by (Modified n mods) t l = omega arith

activates_raised : IsRaised (λ x. x.activates) activates
activates_raised = record { raises = by }
  where
    by : (event : Watched) (t : Tally) → t.activates ≤ 2 ^ 64 - 1 →
        (tallied event t).activates ≡ raised t.activates (of_put activates event)
    by (Put n q bytes tokens) t l = refl
    by (Entered n e act log) t l = omega arith
    by (Placed n q id x y) t l = omega arith
    by (Passed n time key state) t l = omega arith
    by (Modified n mods) t l = omega arith

method_dones_raised : IsRaised (λ x. x.method_dones) method_dones
method_dones_raised = record { raises = by }
  where
    by : (event : Watched) (t : Tally) → t.method_dones ≤ 2 ^ 64 - 1 →
        (tallied event t).method_dones ≡ raised t.method_dones (of_put method_dones event)
    by (Put n q bytes tokens) t l = refl
    by (Entered n e act log) t l = omega arith
    by (Placed n q id x y) t l = omega arith
    by (Passed n time key state) t l = omega arith
    by (Modified n mods) t l = omega arith

queued_raised : IsRaised (λ x. x.queued) all_bytes
queued_raised = record { raises = by }
  where
    by : (event : Watched) (t : Tally) → t.queued ≤ 2 ^ 64 - 1 →
        (tallied event t).queued ≡ raised t.queued (of_put all_bytes event)
    by (Put n q bytes tokens) t l = refl
    by (Entered n e act log) t l = omega arith
    by (Placed n q id x y) t l = omega arith
    by (Passed n time key state) t l = omega arith
    by (Modified n mods) t l = omega arith

tallied_on : (journal more : List Entry) (t after : Tally) → t ≡ tally_of journal → AreWithin journal →
    Reached MayTally t (watched_since limits.store (length journal) (more ++ journal)) after →
    AreWithin (more ++ journal) → after ≡ tally_of (more ++ journal)
tallied_on journal more t after was few h within =
    let dones : t.dones ≡ put_sum field_dones journal = ap (λ (x : Tally). x.dones) was in
    let active : t.activates ≡ put_sum activates journal = ap (λ (x : Tally). x.activates) was in
    let method : t.method_dones ≡ put_sum method_dones journal = ap (λ (x : Tally). x.method_dones) was in
    let queued : t.queued ≡ put_sum all_bytes journal = ap (λ (x : Tally). x.queued) was in
    let dones_few = few.dones in
    let active_few = few.activates in
    let method_few = few.method_dones in
    let queued_few = few.queued in
    let method_within = within.method_dones in
    same_tally after (tally_of (more ++ journal))
    (part_is (λ x. x.dones) field_dones dones_raised journal more t after dones (omega arith) h
    within.dones)
    (part_is (λ x. x.activates) activates activates_raised journal more t after active (omega arith)
    h within.activates)
    (part_is (λ x. x.method_dones) method_dones method_dones_raised journal more t after method
    (omega arith) h (omega arith))
    (part_is (λ x. x.queued) all_bytes queued_raised journal more t after queued (omega arith) h
    within.queued)

-- a tally of a journal that was told of what the journal has more is that of the longer one
pub tallied_more : (journal more later : List Entry) (t after : Tally) → later ≡ more ++ journal →
    t ≡ tally_of journal → AreWithin journal →
    Reached MayTally t (watched_since limits.store (length journal) later) after → AreWithin later →
    after ≡ tally_of later
tallied_more journal more later t after is was few h within =
    subst (λ (j : List Entry). Reached MayTally t (watched_since limits.store (length journal) j) after → AreWithin j →
    after ≡ tally_of j) (sym is) (tallied_on journal more t after was few) h within
