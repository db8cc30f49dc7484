-- What happened to a field, by its log and by the events that came
use Rattle.std.specs.Prelude.{List, [], ◌∷◌, ◌++◌}
use Rattle.trial_field.specs.Log.{Entry}
use Rattle.client_side.specs.Happenings.{Happening, edited, batch, entered, left}
pub use Rattle.client_side.specs.HappenedLists.{told_in, waiting_after, happenings}

-- a log's own edits, in order; the log has the newest first
abbrev pub edits_in : List Happening → List Entry
edits_in [] = []
edits_in (edited edit ∷ older) = edits_in older ++ edit ∷ []
edits_in (batch edits serial ∷ older) = edits_in older
edits_in (entered ∷ older) = edits_in older
edits_in (left ∷ older) = edits_in older
