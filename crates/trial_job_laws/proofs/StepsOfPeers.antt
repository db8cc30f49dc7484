-- A peer's steps in the journal are those that its reader's pass made
use Rattle.std.proofs.Common.{◌≡◌, ℕ, Bool, true, false, List, [], ◌∷◌, ◌++◌, map, Some, refl, sym, ap, subst, ◌∙◌}
use Rattle.std.specs.Prelude.{if◌then◌else◌, ◌==◌}
use Rattle.std.specs.List.{AllByRecursion}
use Rattle.std.proofs.lemmas.Bool.{eq-eqb, eqb-true}
use Rattle.std.proofs.lemmas.List.{append_assoc, append-nil}
use Rattle.relay_model.specs.declared.act.EndCause.TheVariants.{Gone, Bad, Full}
use Rattle.broker_steps.specs.declared.limits.Limits.{Limits}
use Rattle.broker_model.specs.declared.journal.Entry.{Entry}
use Rattle.broker_model.specs.declared.journal.Entry.TheVariants as entries
use Rattle.broker_model.specs.Settle.{history}
use Rattle.turn_lock.specs.Pairs.{own}
use Rattle.hub_lock.specs.declared.step.OuterStep.{OuterStep}
use Rattle.hub_lock.specs.Histories.{History, entries_of, reader_of}
use Rattle.hub_lock.specs.Lawful.{IsLawful, IsMadeBy, AreMadeBy}
use Rattle.hub_calls.specs.Made.{journal_of}
use Rattle.hub_calls.specs.Counted.{entries_of_pass}
use Rattle.hub_calls.proofs.OthersTakeNothing.{entries-append}
use Rattle.trial_laws.specs.TypedLogs.{is_step_of, steps_by}
use Rattle.trial_laws.proofs.StepsSent.{step_steps}

-- ---- of a journal, those of its outer steps

pub steps_outer : (capacity : ℕ) (es : List Entry) (q : ℕ) → steps_by (history capacity es) q ≡ steps_by es q
steps_outer capacity [] q = refl
steps_outer capacity (e ∷ es) q =
    step_steps capacity e (history capacity es) q
    ∙ ap (λ (l : List Entry). l ++ (if is_step_of q e then e ∷ [] else [])) (steps_outer capacity es q)

steps-append : (xs ys : List Entry) (q : ℕ) → steps_by (xs ++ ys) q ≡ steps_by ys q ++ steps_by xs q
steps-append [] ys q = sym (append-nil (steps_by ys q))
steps-append (x ∷ xs) ys q =
    ap (λ (l : List Entry). l ++ (if is_step_of q x then x ∷ [] else [])) (steps-append xs ys q)
    ∙ append_assoc (steps_by ys q) (steps_by xs q) (if is_step_of q x then x ∷ [] else [])

-- ---- of a history, those of the peer's reader

-- each is a step of the peer
abbrev pub AreStepsOf : ℕ → List Entry → Type 0
AreStepsOf q es = AllByRecursion (λ (e : Entry). is_step_of q e ≡ true) es

read_by : (h : History) (n q : ℕ) (e : Entry) → IsMadeBy h n e → is_step_of q e ≡ true → reader_of h q ≡ Some n
read_by h n q (entries.Message k id opcode body) made is =
    subst (λ m. reader_of h m ≡ Some n) (eqb-true k q is) made
read_by h n q (entries.Tokens k tokens) made is = subst (λ m. reader_of h m ≡ Some n) (eqb-true k q is) made
read_by h n q (entries.BadSize k head) made is = subst (λ m. reader_of h m ≡ Some n) (eqb-true k q is) made
read_by h n q (entries.End k Gone) made is = subst (λ m. reader_of h m ≡ Some n) (eqb-true k q is) made
read_by h n q (entries.End k Bad) made is = cc
read_by h n q (entries.End k Full) made is = cc
read_by h n q (entries.Join role) made is = cc
read_by h n q (entries.Shell step) made is = cc
read_by h n q (entries.Took k bytes) made is = cc

abbrev entry_in : OuterStep → Entry
entry_in s = s.entry

-- the history without what others made
in_history : (h xs : History) (n q : ℕ) → AreMadeBy h xs → reader_of h q ≡ Some n →
    AreStepsOf q (map entry_in (own n xs)) → steps_by (entries_of xs) q ≡ map entry_in (own n xs)
in_history h [] n q made reads own-are = refl
in_history h (x ∷ xs) n q made reads own-are =
    ap (λ (es : List Entry). steps_by es q) (entries-append (x ∷ []) xs)
    ∙ steps-append (entries_of xs) (x.1.entry ∷ []) q
    ∙ by (x.0 == n) refl own-are (λ are. in_history h xs n q made.1 reads are)
  where
    one : (b : Bool) → is_step_of q x.1.entry ≡ b →
        steps_by (x.1.entry ∷ []) q ≡ (if b then x.1.entry ∷ [] else [])
    one b e = ap (λ (t : Bool). if t then x.1.entry ∷ [] else []) e

    by : (b : Bool) → (x.0 == n) ≡ b →
        AreStepsOf q (map entry_in (if b then x.1 ∷ own n xs else own n xs)) →
        (AreStepsOf q (map entry_in (own n xs)) → steps_by (entries_of xs) q ≡ map entry_in (own n xs)) →
        steps_by (x.1.entry ∷ []) q ++ steps_by (entries_of xs) q
        ≡ map entry_in (if b then x.1 ∷ own n xs else own n xs)
    by true e are k =
        ap (λ (l : List Entry). l ++ steps_by (entries_of xs) q) (one true are.0)
        ∙ ap (λ (l : List Entry). x.1.entry ∷ l) (k are.1)
    by false e are k =
        ap (λ (l : List Entry). l ++ steps_by (entries_of xs) q) (one false (other (is_step_of q x.1.entry) refl))
        ∙ k are
      where
        other : (b : Bool) → is_step_of q x.1.entry ≡ b → b ≡ false
        other false is = refl
        other true is =
            let same : Some x.0 ≡ Some n = sym (read_by h x.0 q x.1.entry made.0 is) ∙ reads in
            let number : x.0 ≡ n = cc in
            absurd (let yes : (x.0 == n) ≡ true = eq-eqb x.0 n number in cc)

-- ---- of the one journal

pub steps_of_reader : (limits : Limits) (h : History) (q n : ℕ) → IsLawful limits h → reader_of h q ≡ Some n →
    AreStepsOf q (entries_of_pass n h) → steps_by (journal_of limits h) q ≡ entries_of_pass n h
steps_of_reader limits h q n lawful reads are =
    steps_outer limits.store (entries_of h) q ∙ in_history h h n q lawful.made_by reads are
