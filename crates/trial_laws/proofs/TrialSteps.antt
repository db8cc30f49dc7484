-- What the steps of a trial are: its shell says keys with numbers of 32 bits, and its journal has few ends.
use Rattle.std.proofs.Common.{◌≡◌, ℕ, zero, suc, ◌+◌, ◌*◌, ◌≤◌, List, [], ◌∷◌, length, Option, Some, None, refl, arith}
use Rattle.std.specs.List.{AllByRecursion}
use Rattle.broker_steps.specs.declared.step.ShellStep.{ShellStep}
use Rattle.broker_steps.specs.declared.step.ShellStep.TheVariants as shell
use Rattle.broker_model.specs.declared.journal.Entry.{Entry}
use Rattle.broker_model.specs.declared.journal.Entry.TheVariants as entries
use Rattle.broker_model.specs.Limits.{number_counted}
use Rattle.broker_model.specs.Settle.{due, cause_of, with_end, settled, settle, number_alive}
use Rattle.broker_model.proofs.SettlingEnds.{ends_fewer}
use Rattle.broker_core.proofs.AliveAfterEntry.{counted_cons, same_settled, alive_plain, alive_join}
use Rattle.broker_telling.specs.Sayable.{IsWord}

-- the shell moves the focus, or says a key
abbrev pub IsOfShell : ShellStep → Type 0
IsOfShell (shell.Focus q id) = Unit {0}
IsOfShell shell.Unfocus = Unit {0}
IsOfShell (shell.Key time key state) = IsWord time × IsWord key × IsWord state
IsOfShell _ = ⊥

-- no end is a step of a trial
abbrev pub IsTrialStep : Entry → Type 0
IsTrialStep (entries.Message q id opcode body) = Unit {0}
IsTrialStep (entries.Shell step) = IsOfShell step
IsTrialStep (entries.Join role) = Unit {0}
IsTrialStep (entries.Took q bytes) = Unit {0}
IsTrialStep _ = ⊥

-- what the shell says is such
abbrev pub HasShell : Entry → Type 0
HasShell (entries.Shell step) = IsOfShell step
HasShell _ = Unit {0}

-- each of the shell's steps is such, and there are fewer ends than steps
pub record IsOfTrial (journal : List Entry) : Type 0 where
  pub shells : AllByRecursion HasShell journal
  pub few : length journal + number_alive journal ≤ 2 * number_counted journal

step_shell : (e : Entry) → IsTrialStep e → HasShell e
step_shell (entries.Message q id opcode body) s = tt
step_shell (entries.Shell step) s = s
step_shell (entries.Join role) s = tt
step_shell (entries.Took q bytes) s = tt
step_shell _ s = absurd s

-- ---- the ends that follow

end_shells : (journal : List Entry) (o : Option ℕ) → AllByRecursion HasShell journal →
    AllByRecursion HasShell (with_end journal o)
end_shells journal None h = h
end_shells journal (Some q) h = (tt, h)

settled_shells : (capacity fuel : ℕ) (journal : List Entry) → AllByRecursion HasShell journal →
    AllByRecursion HasShell (settled capacity fuel journal)
settled_shells capacity zero journal h = h
settled_shells capacity (suc n) journal h =
    settled_shells capacity n (with_end journal (due capacity journal)) (end_shells journal (due capacity journal) h)

-- each takes a peer that was alive
settled_few : (capacity fuel : ℕ) (journal : List Entry) →
    length (settled capacity fuel journal) + number_alive (settled capacity fuel journal)
    ≤ length journal + number_alive journal
settled_few capacity zero journal = omega arith
settled_few capacity (suc n) journal = by (due capacity journal) refl (λ later. settled_few capacity n later)
  where
    by : (o : Option ℕ) → due capacity journal ≡ o →
        ((later : List Entry) → length (settled capacity n later) + number_alive (settled capacity n later)
        ≤ length later + number_alive later) →
        length (settled capacity n (with_end journal o)) + number_alive (settled capacity n (with_end journal o))
        ≤ length journal + number_alive journal
    by None e k = k journal
    by (Some q) e k =
        let rest = k (entries.End q (cause_of journal q) ∷ journal) in
        let less = ends_fewer capacity journal q (cause_of journal q) e in
        omega arith

-- ---- one more step

step_few : (e : Entry) (older : List Entry) → IsTrialStep e →
    (number_alive (e ∷ older) ≤ number_alive older + 1) × (number_counted (e ∷ older) ≡ 1 + number_counted older)
step_few (entries.Message q id opcode body) older s =
    (let same = alive_plain (entries.Message q id opcode body) older tt in
    (omega arith, counted_cons (entries.Message q id opcode body) older))
step_few (entries.Shell step) older s =
    (let same = alive_plain (entries.Shell step) older tt in (omega arith, counted_cons (entries.Shell step) older))
step_few (entries.Join role) older s =
    (let more = alive_join role older in (omega arith, counted_cons (entries.Join role) older))
step_few (entries.Took q bytes) older s =
    (let same = alive_plain (entries.Took q bytes) older tt in (omega arith, counted_cons (entries.Took q bytes) older))
step_few _ older s = absurd s

pub still_of_trial : (capacity : ℕ) (e : Entry) (journal : List Entry) → IsTrialStep e → IsOfTrial journal →
    IsOfTrial (settle capacity (e ∷ journal))
still_of_trial capacity e journal s h = record {
  shells = settled_shells capacity (number_alive (e ∷ journal)) (e ∷ journal) (step_shell e s, h.shells);
  few =
      (let one = step_few e journal s in
      let alive = one.0 in
      let counted = one.1 in
      let same = (same_settled capacity (e ∷ journal)).counted in
      let ends = settled_few capacity (number_alive (e ∷ journal)) (e ∷ journal) in
      let before = h.few in
      omega arith);
}

-- nothing was said yet
pub none_of_trial : IsOfTrial []
none_of_trial = record { shells = tt; few = omega arith }
