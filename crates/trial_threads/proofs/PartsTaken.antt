-- What of the actions is whose, one action after the other
use Rattle.std.proofs.Common.{◌≡◌, ℕ, ◌+◌, ◌<◌, ◌≤◌, List, ◌++◌, length, drop, get_or, sym, ap, ◌∙◌, append_assoc, append-nil}
use Rattle.std.specs.Prelude.{◌%◌, ◌^◌}
use Rattle.std.proofs.lemmas.List.{drop_more, drop_all}
use Rattle.trial_script.specs.declared.action.Action.{Action}
use Rattle.trial_script.specs.declared.action.Edits.{Edits}
use Rattle.trial_script.specs.declared.action.FieldEdit.{FieldEdit}
use Rattle.broker_steps.specs.declared.step.ShellStep.{ShellStep}
use Rattle.trial_threads.specs.Users.{batches_for, batches_in, edits_for, edits_in, ordered_for, orders_in}

-- so many were taken, and one is more

pub batches_step : (xs : List Action) (i : ℕ) (d : Action) (got all : List Edits) → i < length xs →
    got ++ batches_in (drop i xs) ≡ all →
    (got ++ batches_for (get_or xs i d)) ++ batches_in (drop (i + 1) xs) ≡ all
batches_step xs i d got all lt is =
    append_assoc got (batches_for (get_or xs i d)) (batches_in (drop (i + 1) xs))
    ∙ ap (λ (l : List Action). got ++ batches_in l) (sym (drop_more xs i d lt)) ∙ is

pub batches_done : (xs : List Action) (i : ℕ) (got all : List Edits) → length xs ≤ i →
    got ++ batches_in (drop i xs) ≡ all → got ≡ all
batches_done xs i got all le is =
    sym (append-nil got) ∙ ap (λ (l : List Action). got ++ batches_in l) (sym (drop_all i xs le)) ∙ is

pub edits_step : (n : ℕ) (xs : List Action) (i : ℕ) (d : Action) (got all : List FieldEdit) → i < length xs →
    got ++ edits_in n (drop i xs) ≡ all →
    (got ++ edits_for n (get_or xs i d)) ++ edits_in n (drop (i + 1) xs) ≡ all
edits_step n xs i d got all lt is =
    append_assoc got (edits_for n (get_or xs i d)) (edits_in n (drop (i + 1) xs))
    ∙ ap (λ (l : List Action). got ++ edits_in n l) (sym (drop_more xs i d lt)) ∙ is

pub edits_done : (n : ℕ) (xs : List Action) (i : ℕ) (got all : List FieldEdit) → length xs ≤ i →
    got ++ edits_in n (drop i xs) ≡ all → got ≡ all
edits_done n xs i got all le is =
    sym (append-nil got) ∙ ap (λ (l : List Action). got ++ edits_in n l) (sym (drop_all i xs le)) ∙ is

pub orders_step : (time : ℕ) (xs : List Action) (i : ℕ) (d : Action) (got all : List ShellStep) → i < length xs →
    got ++ orders_in time (drop i xs) ≡ all →
    (got ++ ordered_for time (get_or xs i d)) ++ orders_in ((time + 1) % 2 ^ 32) (drop (i + 1) xs) ≡ all
orders_step time xs i d got all lt is =
    append_assoc got (ordered_for time (get_or xs i d)) (orders_in ((time + 1) % 2 ^ 32) (drop (i + 1) xs))
    ∙ ap (λ (l : List Action). got ++ orders_in time l) (sym (drop_more xs i d lt)) ∙ is

pub orders_done : (time : ℕ) (xs : List Action) (i : ℕ) (got all : List ShellStep) → length xs ≤ i →
    got ++ orders_in time (drop i xs) ≡ all → got ≡ all
orders_done time xs i got all le is =
    sym (append-nil got) ∙ ap (λ (l : List Action). got ++ orders_in time l) (sym (drop_all i xs le)) ∙ is
