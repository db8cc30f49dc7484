-- The shell's orders in the journal are those of its pass
use Rattle.std.proofs.Common.{◌≡◌, ℕ, zero, suc, Bool, true, false, List, [], ◌∷◌, ◌++◌, map, Option, Some, None, Result, Ok, Err, refl, sym, ap, subst, ◌∙◌}
use Rattle.std.specs.Prelude.{if◌then◌else◌, ◌==◌}
use Rattle.std.proofs.lemmas.Bool.{eq-eqb}
use Rattle.std.proofs.lemmas.List.{append_assoc, append-nil}
use mathlib.Core.Logic.{dite}
use native.Mathlib.Decide.{ℕ_discrete}
use Rattle.broker_steps.specs.declared.step.ShellStep.{ShellStep}
use Rattle.broker_model.specs.declared.journal.Entry.{Entry}
use Rattle.broker_model.specs.declared.journal.Entry.TheVariants as entries
use Rattle.broker_model.specs.Settle.{due, with_end, settled, number_alive, history}
use Rattle.turn_lock.specs.Pairs.{own}
use Rattle.turn_lock.proofs.PairsOfNumbers.{own-here, own-else}
use Rattle.hub_lock.specs.declared.step.OuterStep.{OuterStep}
use Rattle.hub_lock.specs.Histories.{History, entries_of}
use Rattle.hub_calls.specs.Made.{entries_by, journal_of}
use Rattle.hub_calls.specs.Counted.{entries_of_pass}
use Rattle.hub_calls.proofs.OthersTakeNothing.{entries-append}
use Rattle.hub_calls.proofs.PassesCounted.{steps_stay}
use Rattle.trial_typing.specs.declared.job_end.JobEnd.{JobEnd}
use Rattle.trial_typing.specs.declared.job_end.JobEnd.TheVariants as ends
use Rattle.trial_typing.specs.ShellLaw.{ordered, Orders}
use Rattle.trial_laws.specs.RelayedBatches.{IsFrontOf}
use Rattle.trial_job_laws.specs.ShellTold.{orders_of, is_order, OrdersAreOf, HaveNoOrder, HasOrdered}
use Rattle.trial_job_laws.specs.JobLaws.{ShellHasOrdered, OnlyShellOrders}

-- ---- of a journal, those of its outer steps

orders-cons : (e : Entry) (es : List Entry) → orders_of (e ∷ es) ≡ orders_of es ++ orders_of (e ∷ [])
orders-cons (entries.Shell step) es = refl
orders-cons (entries.Join role) es = sym (append-nil (orders_of es))
orders-cons (entries.Message q id opcode body) es = sym (append-nil (orders_of es))
orders-cons (entries.Tokens q tokens) es = sym (append-nil (orders_of es))
orders-cons (entries.BadSize q head) es = sym (append-nil (orders_of es))
orders-cons (entries.End q cause) es = sym (append-nil (orders_of es))
orders-cons (entries.Took q bytes) es = sym (append-nil (orders_of es))

end_orders : (journal : List Entry) (o : Option ℕ) → orders_of (with_end journal o) ≡ orders_of journal
end_orders journal None = refl
end_orders journal (Some q) = refl

settled_orders : (capacity fuel : ℕ) (journal : List Entry) →
    orders_of (settled capacity fuel journal) ≡ orders_of journal
settled_orders capacity zero journal = refl
settled_orders capacity (suc fuel) journal =
    settled_orders capacity fuel (with_end journal (due capacity journal))
    ∙ end_orders journal (due capacity journal)

orders_outer : (capacity : ℕ) (es : List Entry) → orders_of (history capacity es) ≡ orders_of es
orders_outer capacity [] = refl
orders_outer capacity (e ∷ es) =
    let journal : List Entry = e ∷ history capacity es in
    settled_orders capacity (number_alive journal) journal
    ∙ orders-cons e (history capacity es)
    ∙ ap (λ (l : List ShellStep). l ++ orders_of (e ∷ [])) (orders_outer capacity es)
    ∙ sym (orders-cons e es)

orders-append : (xs ys : List Entry) → orders_of (xs ++ ys) ≡ orders_of ys ++ orders_of xs
orders-append [] ys = sym (append-nil (orders_of ys))
orders-append (x ∷ xs) ys =
    orders-cons x (xs ++ ys) ∙ ap (λ (l : List ShellStep). l ++ orders_of (x ∷ [])) (orders-append xs ys)
    ∙ append_assoc (orders_of ys) (orders_of xs) (orders_of (x ∷ []))
    ∙ ap (λ (l : List ShellStep). orders_of ys ++ l) (sym (orders-cons x xs))

-- ---- of a history, those of one pass

-- the orders among entries, the oldest first
abbrev orders_among : List Entry → List ShellStep
orders_among [] = []
orders_among (e ∷ es) = orders_of (e ∷ []) ++ orders_among es

abbrev entry_in : OuterStep → Entry
entry_in s = s.entry

no_order : (e : Entry) → is_order e ≡ false → orders_of (e ∷ []) ≡ []
no_order (entries.Shell step) h = cc
no_order (entries.Join role) h = refl
no_order (entries.Message q id opcode body) h = refl
no_order (entries.Tokens q tokens) h = refl
no_order (entries.BadSize q head) h = refl
no_order (entries.End q cause) h = refl
no_order (entries.Took q bytes) h = refl

in_history : (xs : History) (n : ℕ) → OrdersAreOf n xs →
    orders_of (entries_of xs) ≡ orders_among (map entry_in (own n xs))
in_history [] n are = refl
in_history (x ∷ xs) n are =
    ap orders_of (entries-append (x ∷ []) xs) ∙ orders-append (entries_of xs) (x.1.entry ∷ [])
    ∙ by (x.0 == n) refl (in_history xs n are.1)
  where
    by : (b : Bool) → (x.0 == n) ≡ b → orders_of (entries_of xs) ≡ orders_among (map entry_in (own n xs)) →
        orders_of (x.1.entry ∷ []) ++ orders_of (entries_of xs)
        ≡ orders_among (map entry_in (if b then x.1 ∷ own n xs else own n xs))
    by true e k = ap (λ (l : List ShellStep). orders_of (x.1.entry ∷ []) ++ l) k
    by false e k =
        ap (λ (l : List ShellStep). l ++ orders_of (entries_of xs))
        (no_order x.1.entry (other (is_order x.1.entry) refl)) ∙ k
      where
        other : (b : Bool) → is_order x.1.entry ≡ b → b ≡ false
        other false is = refl
        other true is = absurd (let yes : (x.0 == n) ≡ true = eq-eqb x.0 n (are.0 is) in cc)

-- ---- the job's orders

ordered_are : (steps : List ShellStep) → orders_among (ordered steps) ≡ steps
ordered_are [] = refl
ordered_are (s ∷ steps) = ap (λ (l : List ShellStep). s ∷ l) (ordered_are steps)

among-append : (xs ys : List Entry) → orders_among (xs ++ ys) ≡ orders_among xs ++ orders_among ys
among-append [] ys = refl
among-append (x ∷ xs) ys =
    ap (λ (l : List ShellStep). orders_of (x ∷ []) ++ l) (among-append xs ys)
    ∙ sym (append_assoc (orders_of (x ∷ [])) (orders_among xs) (orders_among ys))

front_ordered : (journal made rest : List Entry) (steps : List ShellStep) → orders_of journal ≡ orders_among made →
    ordered steps ≡ made ++ rest → IsFrontOf (orders_of journal) steps
front_ordered journal made rest steps is all = record {
  rest = orders_among rest;
  is = ap (λ (l : List ShellStep). l ++ orders_among rest) is ∙ sym (among-append made rest)
      ∙ ap orders_among (sym all) ∙ ordered_are steps;
}

pub shell_has_ordered : ShellHasOrdered
shell_has_ordered limits h pass steps r lawful seen are = by r
  where
    is : orders_of (journal_of limits h) ≡ orders_among (entries_by pass)
    is = orders_outer limits.store (entries_of h) ∙ in_history h pass.number are
        ∙ ap orders_among (steps_stay pass h seen)

    by : (r : Result (Unit {0}) JobEnd) → Orders limits pass steps r → HasOrdered (journal_of limits h) steps r
    by (Ok done) k = is ∙ ap orders_among k ∙ ordered_are steps
    by (Err (ends.JournalFull kept)) k =
        front_ordered (journal_of limits h) (entries_by pass) (ordered (k.next ∷ k.later)) steps is k.orders
    by (Err ends.BadEvent) k = absurd k
    by (Err ends.NoMemory) k = front_ordered (journal_of limits h) (entries_by pass) k.rest steps is k.is

-- ---- whose orders they are

none_here : (x : ℕ × OuterStep) (h : History) → HaveNoOrder (entries_of_pass x.0 (x ∷ h)) → is_order x.1.entry ≡ false
none_here x h none =
    (subst (λ (steps : List OuterStep). HaveNoOrder (map entry_in steps)) (own-here x.0 x h refl) none).0

none_behind : (x : ℕ × OuterStep) (h : History) (n : ℕ) → HaveNoOrder (entries_of_pass n (x ∷ h)) →
    HaveNoOrder (entries_of_pass n h)
none_behind x h n none = dite (ℕ_discrete x.0 n)
    (λ e. (subst (λ (steps : List OuterStep). HaveNoOrder (map entry_in steps)) (own-here n x h e) none).1)
    (λ e. subst (λ (steps : List OuterStep). HaveNoOrder (map entry_in steps)) (own-else n x h e) none)

pub only_shell_orders : OnlyShellOrders
only_shell_orders ns [] n of none = tt
only_shell_orders ns (x ∷ h) n of none = (
  λ yes. dite (ℕ_discrete x.0 n) (λ e. e)
      (λ other. absurd (let no : is_order x.1.entry ≡ false = none_here x h (none x.0 of.0 other) in cc)),
  only_shell_orders ns h n of.1 (λ m i d. none_behind x h m (none m i d)),
)
