-- The shell's orders in the one journal
use Rattle.std.specs.Prelude.{◌≡◌, ℕ, Bool, true, false, List, [], ◌∷◌, ◌++◌, Result, Ok, Err}
use Rattle.std.specs.List.{AllByRecursion, list_any}
use Rattle.broker_steps.specs.declared.step.ShellStep.{ShellStep}
use Rattle.broker_steps.specs.declared.step.ShellStep.TheVariants as shells
use Rattle.broker_model.specs.declared.journal.Entry.{Entry}
use Rattle.broker_model.specs.declared.journal.Entry.TheVariants as entries
use Rattle.hub_lock.specs.declared.step.OuterStep.{OuterStep}
use Rattle.hub_lock.specs.Histories.{History}
use Rattle.trial_laws.specs.RelayedBatches.{IsFrontOf}
use Rattle.trial_typing.specs.declared.job_end.JobEnd.{JobEnd}

-- the shell's orders in a journal, in order
abbrev pub orders_of : List Entry → List ShellStep
orders_of [] = []
orders_of (entries.Shell step ∷ older) = orders_of older ++ step ∷ []
orders_of (_ ∷ older) = orders_of older

abbrev pub is_order : Entry → Bool
is_order (entries.Shell step) = true
is_order _ = false

-- each order in the history is of the pass with the number n
abbrev pub OrdersAreOf : ℕ → History → Type 0
OrdersAreOf n h = AllByRecursion (λ (s : ℕ × OuterStep). is_order s.1.entry ≡ true → s.0 ≡ n) h

-- none of these is an order
abbrev pub HaveNoOrder : List Entry → Type 0
HaveNoOrder es = AllByRecursion (λ (e : Entry). is_order e ≡ false) es

-- the journal's orders are these, in order, or the first of them where the job didn't end well
abbrev pub HasOrdered : List Entry → List ShellStep → Result (Unit {0}) JobEnd → Type 0
HasOrdered journal steps (Ok done) = orders_of journal ≡ steps
HasOrdered journal steps (Err end) = IsFrontOf (orders_of journal) steps

-- the shell moves the focus, or says a key
abbrev pub IsFocusOrKey : ShellStep → Type 0
IsFocusOrKey (shells.Focus q id) = Unit {0}
IsFocusOrKey shells.Unfocus = Unit {0}
IsFocusOrKey (shells.Key time key state) = Unit {0}
IsFocusOrKey _ = ⊥

-- the shell gives a keymap
abbrev pub is_keymap : Entry → Bool
is_keymap (entries.Shell (shells.Keymap keymap)) = true
is_keymap _ = false

-- the journal has one
abbrev pub HasKeymap : List Entry → Type 0
HasKeymap journal = list_any is_keymap journal ≡ true
