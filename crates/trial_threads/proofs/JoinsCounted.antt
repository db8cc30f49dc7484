-- As many peers have joined as the root made steps, where these are joins
use Rattle.std.proofs.Common.{◌≡◌, ◌≢◌, ℕ, zero, suc, ◌+◌, List, [], ◌∷◌, ◌++◌, length, map, reverse, Bool, true, false, Option, Some, None, refl, sym, ap, subst, ◌∙◌, arith, length-append}
use Rattle.std.proofs.lemmas.List.{reverse-append}
use Rattle.std.proofs.lemmas.Bool.{false≢true}
use mathlib.Core.Logic.{dite}
use native.Mathlib.Decide.{ℕ_discrete}
use Rattle.broker_steps.specs.declared.limits.Limits.{Limits}
use Rattle.broker_model.specs.declared.journal.Entry.{Entry}
use Rattle.broker_model.specs.declared.journal.Entry.TheVariants as entries
use Rattle.broker_model.specs.Resolve.{past_of}
use Rattle.broker_model.specs.Settle.{history}
use Rattle.broker_core.proofs.AliveAfterEntry.{same_settled}
use Rattle.turn_lock.specs.Pairs.{own}
use Rattle.turn_lock.proofs.PairsOfNumbers.{own-here, own-else}
use Rattle.hub_lock.specs.declared.step.OuterStep.{OuterStep}
use Rattle.hub_lock.specs.Histories.{History, entries_of}
use Rattle.hub_lock.specs.Lawful.{IsLawful, IsMadeBy, AreMadeBy}
use Rattle.hub_calls.specs.Made.{journal_of}
use Rattle.hub_calls.specs.Counted.{entries_of_pass, is_join}
use Rattle.trial_threads.proofs.JoinsOfJobs.{AreJoins}

-- how many of the entries are joins

abbrev one_if : Bool → ℕ
one_if true = 1
one_if false = 0

abbrev joins : List Entry → ℕ
joins [] = 0
joins (e ∷ es) = one_if (is_join e) + joins es

joins_append : (a b : List Entry) → joins (a ++ b) ≡ joins a + joins b
joins_append [] b = omega arith
joins_append (e ∷ a) b = let more = joins_append a b in omega arith

joins_reverse : (es : List Entry) → joins (reverse es) ≡ joins es
joins_reverse [] = refl
joins_reverse (e ∷ es) =
    let rest = joins_reverse es in
    let apart = joins_append (reverse es) (e ∷ []) in
    let is = ap joins (reverse-append (e ∷ []) es) in omega arith

-- as many have joined in a journal

joined_by : (e : Entry) (older : List Entry) →
    length (past_of (e ∷ older)).joined ≡ one_if (is_join e) + length (past_of older).joined
joined_by (entries.Join role) older =
    let one = length-append (past_of older).joined (record { label = length older + 1; role = role } ∷ []) in omega arith
joined_by (entries.Message q id opcode body) older = omega arith
joined_by (entries.Tokens q tokens) older = omega arith
joined_by (entries.BadSize q head) older = omega arith
joined_by (entries.End q cause) older = omega arith
joined_by (entries.Shell step) older = omega arith
joined_by (entries.Took q bytes) older = omega arith

joined_in : (store : ℕ) (es : List Entry) → length (past_of (history store es)).joined ≡ joins es
joined_in store [] = refl
joined_in store (e ∷ older) =
    let journal : List Entry = history store older in
    let rest = joined_in store older in
    let one = joined_by e journal in
    let same = ap length (same_settled store (e ∷ journal)).joined in omega arith

-- a step is a join exactly where it is the root's

abbrev entry_in : OuterStep → Entry
entry_in s = s.entry

behind : (s : ℕ × OuterStep) (h : History) → AreJoins (entries_of_pass 0 (s ∷ h)) → AreJoins (entries_of_pass 0 h)
behind s h all = dite (ℕ_discrete s.0 0)
    (λ e. (subst (λ (steps : List OuterStep). AreJoins (map entry_in steps)) (own-here 0 s h e) all).1)
    (λ e. subst (λ (steps : List OuterStep). AreJoins (map entry_in steps)) (own-else 0 s h e) all)

here : (s : ℕ × OuterStep) (h : History) → s.0 ≡ 0 → AreJoins (entries_of_pass 0 (s ∷ h)) →
    is_join s.1.entry ≡ true
here s h e all = (subst (λ (steps : List OuterStep). AreJoins (map entry_in steps)) (own-here 0 s h e) all).0

made_by_root : (all : History) (n : ℕ) (e : Entry) → IsMadeBy all n e → is_join e ≡ true → n ≡ 0
made_by_root all n (entries.Join role) m e-is = m
made_by_root all n (entries.Message q id opcode body) m e-is = absurd (false≢true e-is)
made_by_root all n (entries.Tokens q tokens) m e-is = absurd (false≢true e-is)
made_by_root all n (entries.BadSize q head) m e-is = absurd (false≢true e-is)
made_by_root all n (entries.End q cause) m e-is = absurd (false≢true e-is)
made_by_root all n (entries.Shell step) m e-is = absurd (false≢true e-is)
made_by_root all n (entries.Took q bytes) m e-is = absurd (false≢true e-is)

counts_by : (s : ℕ × OuterStep) (h : History) (b : Bool) → is_join s.1.entry ≡ b →
    (is_join s.1.entry ≡ true → s.0 ≡ 0) → AreJoins (entries_of_pass 0 (s ∷ h)) →
    length (own 0 (s ∷ h)) ≡ one_if b + length (own 0 h)
counts_by s h true is root all = let more = ap length (own-here 0 s h (root is)) in omega arith
counts_by s h false is root all =
    let more = ap length (own-else 0 s h (λ e. false≢true (sym is ∙ here s h e all))) in omega arith

own_joins : (all h : History) → AreMadeBy all h → AreJoins (entries_of_pass 0 h) →
    joins (map (λ (s : ℕ × OuterStep). s.1.entry) h) ≡ length (own 0 h)
own_joins all [] made j = refl
own_joins all (s ∷ h) made j =
    let rest = own_joins all h made.1 (behind s h j) in
    let one = counts_by s h (is_join s.1.entry) refl (made_by_root all s.0 s.1.entry made.0) j in omega arith

-- so many peers have joined
pub joined_count : (limits : Limits) (h : History) → IsLawful limits h → AreJoins (entries_of_pass 0 h) →
    length (past_of (journal_of limits h)).joined ≡ length (own 0 h)
joined_count limits h lawful all =
    joined_in limits.store (entries_of h)
    ∙ joins_reverse (map (λ (s : ℕ × OuterStep). s.1.entry) h)
    ∙ own_joins h h lawful.made_by all
