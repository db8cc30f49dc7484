-- What the texts of an event that was read hold.
use Rattle.std.specs.Prelude.{ℕ, ◌≤◌, List, length}
use Rattle.std.specs.Option.{option_copied}
use Rattle.wl_proto.specs.declared.event.Event.{Event}
use Rattle.wl_proto.specs.declared.event.Event.TheVariants as events
use Rattle.trial_field.specs.Log.{HasNoZero}
use Rattle.trial_field.specs.declared.batch_view.TheConstants.{MAX_STRING, MAX_PREEDIT}
use Rattle.client_side.specs.FieldState.{text_or_empty}

-- at most so long, with no zero byte
abbrev pub IsFittingText : ℕ → List ℕ → Type 0
IsFittingText most text = (length text ≤ most) × HasNoZero text

-- the texts of edits fit a batch
abbrev pub IsFitting : Event → Type 0
IsFitting (events.PreeditString t begin end) =
    IsFittingText MAX_PREEDIT (text_or_empty (option_copied t))
IsFitting (events.CommitString t) = IsFittingText MAX_STRING (text_or_empty (option_copied t))
IsFitting _ = Unit {0}
