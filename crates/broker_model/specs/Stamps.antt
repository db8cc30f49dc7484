-- The stamps beside a journal: when each entry came, and through which link. No other definition
-- reads a stamp.
use Rattle.std.specs.Prelude.{ℕ, List, [], ◌∷◌, drop, max, Bool, true, false, if◌then◌else◌}
use Rattle.relay_model.specs.declared.act.EndCause.TheVariants.{Bad, Full}
use Rattle.broker_steps.specs.declared.stamp.Stamp.{Stamp}
use Rattle.broker_steps.specs.declared.step.ShellStep.TheVariants as shell
use Rattle.broker_model.specs.declared.journal.Entry.{Entry}
use Rattle.broker_model.specs.declared.journal.Entry.TheVariants as entries

-- all stamps, the newest first; how many of the oldest were let go; and how many more may be put
-- before memory has to be taken
pub record StampsKept : Type 0 where
  pub stamps : List Stamp
  pub kept_from : ℕ
  pub room : ℕ

-- the moment of the newest entry; 0 where there is none
abbrev pub latest : List Stamp → ℕ
latest [] = 0
latest (s ∷ older) = s.moment

-- the moment that the entry says, where it says one
abbrev pub said_moment : Entry → ℕ
said_moment (entries.Shell (shell.At moment)) = moment
said_moment _ = 0

-- the entry is an end that follows from a step
abbrev pub follows : Entry → Bool
follows (entries.End q Bad) = true
follows (entries.End q Full) = true
follows _ = false

-- The stamp of an entry after those with these stamps. A step's has the author that its call gave,
-- and the greatest of the moment that the call gave, the one that the entry says, and that of the
-- entry before. An end that follows has no author, and the moment of the entry before.
abbrev pub stamp_of : Entry → (given : Stamp) → List Stamp → Stamp
stamp_of e given older =
    (if follows e
    then record { moment = latest older; author = 0 }
    else record {
      moment = max given.moment (max (said_moment e) (latest older));
      author = given.author;
    })

-- no moment, of no author
abbrev pub no_stamp : Stamp
no_stamp = record { moment = 0; author = 0 }

-- the stamp that the newest step's call gave
abbrev pub newest : List Stamp → Stamp
newest [] = no_stamp
newest (s ∷ older) = s

-- what calls gave with the steps before an entry
abbrev pub given_before : Entry → List Stamp → List Stamp
given_before e given = (if follows e then given else drop 1 given)

-- the stamps of a journal, for those that the calls gave with its steps; all with the newest first
abbrev pub stamps : List Entry → (given : List Stamp) → List Stamp
stamps [] given = []
stamps (e ∷ older) given = let before =
    stamps older (given_before e given) in stamp_of e (newest given) before ∷ before

-- the stamps of the steps alone, without those of the ends that follow
abbrev pub step_stamps : List Entry → List Stamp → List Stamp
step_stamps [] stamps = []
step_stamps (e ∷ older) [] = []
step_stamps (e ∷ older) (s ∷ before) =
    (if follows e then step_stamps older before else s ∷ step_stamps older before)
