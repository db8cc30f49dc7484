-- Histories of a hub: outer steps, each with the number of the pass whose call made it, the oldest
-- first
use Rattle.std.specs.Prelude.{ℕ, zero, suc, ◌+◌, List, [], ◌∷◌, ◌++◌, length, map, reverse, if◌then◌else◌, Option, Some, None, option_map}
use Rattle.std.specs.List.{slice_get, sum_by}
use Rattle.broker_steps.specs.declared.limits.Limits.{Limits}
use Rattle.broker_steps.specs.declared.stamp.Stamp.{Stamp}
use Rattle.broker_model.specs.declared.journal.Entry.{Entry}
use Rattle.broker_model.specs.declared.journal.Entry.TheVariants as entries
use Rattle.broker_model.specs.Resolve.{past_of}
use Rattle.broker_model.specs.Settle.{history}
use Rattle.broker_model.specs.Stamps.{follows, stamps}
use Rattle.broker_core.specs.Broker.{Broker}
use Rattle.turn_lock.specs.Pairs.{own}
use Rattle.hub_lock.specs.declared.step.OuterStep.{OuterStep}

abbrev pub History : Type 0
History = List (ℕ × OuterStep)

-- what a call of the pass with the number n gives with its step: it is the author, and says no
-- moment
abbrev pub stamp_by : ℕ → Stamp
stamp_by n = record { moment = 0; author = n }

-- the entries, the newest first
abbrev pub entries_of : History → List Entry
entries_of h = reverse (map (λ (s : ℕ × OuterStep). s.1.entry) h)

-- what the calls gave with them
abbrev pub given_of : History → List Stamp
given_of h = reverse (map (λ (s : ℕ × OuterStep). stamp_by s.0) h)

-- the one journal that these steps make, and its stamps; nothing of it was let go
abbrev pub broker_of : Limits → History → Broker
broker_of limits h =
    let journal = history limits.store (entries_of h) in
    record {
      limits = limits;
      journal = journal;
      stamps = stamps journal (given_of h);
      kept_from = 0;
    }

-- the number of the reader's pass of the peer that joins by the step
abbrev pub reader_in : Option ℕ → List ℕ
reader_in None = []
reader_in (Some reader) = reader ∷ []

-- those of all that joined, in order
abbrev pub readers_of : History → List ℕ
readers_of [] = []
readers_of (s ∷ rest) = reader_in s.1.reader ++ readers_of rest

-- what has a number, from 1
abbrev pub numbered_in : List ℕ → ℕ → Option ℕ
numbered_in xs zero = None
numbered_in xs (suc k) = slice_get xs k

-- the number of the pass of the reader of the peer q; that of its writer is the next
abbrev pub reader_of : History → ℕ → Option ℕ
reader_of h q = numbered_in (readers_of h) q

abbrev pub writer_of : History → ℕ → Option ℕ
writer_of h q = option_map (λ reader. reader + 1) (reader_of h q)

-- a step that isn't a join, and a join of a peer with this reader
abbrev pub only : Entry → OuterStep
only e = record { entry = e; reader = None }

abbrev pub joining : Entry → ℕ → OuterStep
joining e reader = record { entry = e; reader = Some reader }

-- an entry after a journal, where these are the readers of those that join, in order
abbrev pub step_after : (readers : List ℕ) → List Entry → Entry → OuterStep
step_after readers older (entries.Join role) =
    record { entry = entries.Join role; reader = slice_get readers (length (past_of older).joined) }
step_after readers older e = only e

-- the steps of a journal and its stamps, each with its author
abbrev pub steps_in : (readers : List ℕ) → List Entry → List Stamp → History
steps_in readers [] stamps = []
steps_in readers (e ∷ older) [] = []
steps_in readers (e ∷ older) (s ∷ before) =
    (if follows e then steps_in readers older before
    else steps_in readers older before ++ (s.author, step_after readers older e) ∷ [])

-- how many bytes an entry takes of what is stored
abbrev pub bytes_by : Entry → ℕ
bytes_by (entries.Took q bytes) = bytes
bytes_by _ = 0

-- how many bytes steps take
abbrev pub bytes_taken : List OuterStep → ℕ
bytes_taken steps = sum_by (λ (s : OuterStep). bytes_by s.entry) steps

-- how many bytes entries take
abbrev pub taken_in : List Entry → ℕ
taken_in es = sum_by bytes_by es

-- how many bytes the steps of these numbers take, where the numbers are distinct
abbrev pub total_taken : List ℕ → History → ℕ
total_taken [] h = 0
total_taken (n ∷ ns) h = bytes_taken (own n h) + total_taken ns h
