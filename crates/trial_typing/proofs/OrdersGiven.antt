-- Orders that are given one after the other
use Rattle.std.proofs.Common.{◌≡◌, ℕ, ◌+◌, ◌<◌, ◌≤◌, List, [], ◌∷◌, ◌++◌, length, take, drop, Err, sym, ap, subst, ◌∙◌, take_all, append_assoc}
use Rattle.std.specs.Prelude.{slice_index_or}
use Rattle.std.proofs.lemmas.List.{take_more, take-append-drop, map-append}
use Rattle.broker_steps.specs.declared.limits.Limits.{Limits}
use Rattle.broker_steps.specs.declared.step.ShellStep.{ShellStep}
use Rattle.broker_model.specs.declared.journal.Entry.{Entry}
use Rattle.broker_model.specs.declared.journal.Entry.TheVariants as entries
use Rattle.hub_lock.specs.Seats.{having_seen}
use Rattle.hub_lock.specs.Passes.{PassSeat}
use Rattle.hub_calls.specs.declared.stop.PassStop.{PassStop}
use Rattle.hub_calls.specs.declared.stop.PassStop.TheVariants as stops
use Rattle.hub_calls.specs.Made.{entries_by}
use Rattle.hub_calls.specs.Ordered as calls
use Rattle.trial_typing.specs.Ends.{end_by}
use Rattle.trial_typing.specs.Fronts.{IsFrontOf}
use Rattle.trial_typing.specs.ShellLaw.{ordered, Orders}

-- one more of them is given
pub one_more : (items : List ShellStep) (i : ℕ) (d : ShellStep) → i < length items →
    ordered (take (i + 1) items) ≡ ordered (take i items) ++ entries.Shell (slice_index_or items i d) ∷ []
one_more items i d lt =
    ap ordered (take_more items i d lt)
    ∙ map-append (λ (step : ShellStep). entries.Shell step) (take i items) (slice_index_or items i d ∷ [])

-- the first of them
pub front_of : (items : List ShellStep) (i : ℕ) → IsFrontOf (ordered (take i items)) (ordered items)
front_of items i = record {
  rest = ordered (drop i items);
  is = ap ordered (sym (take-append-drop i items))
      ∙ map-append (λ (step : ShellStep). entries.Shell step) (take i items) (drop i items);
}

-- the first of them, the next and those behind it
all_but : (items : List ShellStep) (i : ℕ) (d : ShellStep) → i < length items →
    ordered items ≡ ordered (take i items) ++ ordered (slice_index_or items i d ∷ drop (i + 1) items)
all_but items i d lt =
    ap ordered (sym (take-append-drop (i + 1) items))
    ∙ map-append (λ (step : ShellStep). entries.Shell step) (take (i + 1) items) (drop (i + 1) items)
    ∙ ap (λ (es : List Entry). es ++ ordered (drop (i + 1) items)) (one_more items i d lt)
    ∙ append_assoc (ordered (take i items)) (entries.Shell (slice_index_or items i d) ∷ [])
    (ordered (drop (i + 1) items))

-- all of them
pub all_of : (items : List ShellStep) (i : ℕ) → length items ≤ i → ordered (take i items) ≡ ordered items
all_of items i le = ap ordered (take_all i items le)

-- a pass that saw more, and then more
pub seat_both : (a b c : PassSeat) → b ≡ having_seen a b.seen → c ≡ having_seen b c.seen → c ≡ having_seen a c.seen
seat_both a b c first next = next ∙ ap (λ (s : PassSeat). having_seen s c.seen) first

-- the next isn't
pub stops_at : (limits : Limits) (now after : PassSeat) (items : List ShellStep) (i : ℕ) (d : ShellStep)
    (stop : PassStop)
    → i < length items → entries_by now ≡ ordered (take i items) →
    calls.Orders limits now after (slice_index_or items i d) (Err stop) → Orders limits after items (Err (end_by stop))
stops_at limits now after items i d (stops.JournalFull kept) lt so k = record {
  next = slice_index_or items i d;
  later = drop (i + 1) items;
  orders = all_but items i d lt
      ∙ ap (λ (es : List Entry). es ++ ordered (slice_index_or items i d ∷ drop (i + 1) items)) (sym (k.0 ∙ so));
  full = k.1;
}
stops_at limits now after items i d stops.NoMemory lt so k =
    subst (λ (es : List Entry). IsFrontOf es (ordered items)) (sym (k ∙ so)) (front_of items i)
