-- Which passes made the steps of a history
use Rattle.std.specs.Prelude.{◌≡◌, ℕ, Bool, true, false, List, [], ◌∷◌, length, map}
use Rattle.broker_model.specs.declared.journal.Entry.{Entry}
use Rattle.broker_model.specs.declared.journal.Entry.TheVariants as entries
use Rattle.turn_lock.specs.Pairs.{own, HasSeen, IsIn, IsDistinct, total}
use Rattle.hub_lock.specs.declared.step.OuterStep.{OuterStep}
use Rattle.hub_lock.specs.Histories.{History}
use Rattle.hub_lock.specs.Passes.{PassSeat}
use Rattle.hub_calls.specs.Made.{entries_by}

-- the entries of the steps that the pass with this number made
abbrev pub entries_of_pass : ℕ → History → List Entry
entries_of_pass n h = map (λ (step : OuterStep). step.entry) (own n h)

-- each step has one of these numbers
abbrev pub AreOfPasses : List ℕ → History → Type 0
AreOfPasses ns [] = Unit {0}
AreOfPasses ns (s ∷ rest) = IsIn s.0 ns × AreOfPasses ns rest

-- where as many steps as there are have one of these numbers, each has one
abbrev pub StepsAreOfPasses : Type 0
StepsAreOfPasses =
    (ns : List ℕ) (h : History) → IsDistinct ns → total ns h ≡ length h → AreOfPasses ns h

-- what a pass made by the time that it came back is all that it made, in whatever follows
abbrev pub StepsStay : Type 0
StepsStay =
    (seat : PassSeat) (h : History) → HasSeen h seat.number seat.seen →
    entries_of_pass seat.number h ≡ entries_by seat

-- what was seen of a history that was seen was seen
abbrev pub SeenStays : Type 0
SeenStays =
    (h before seen : History) (n : ℕ) → HasSeen h n before → HasSeen before n seen →
    HasSeen h n seen

abbrev pub is_join : Entry → Bool
is_join (entries.Join role) = true
is_join _ = false

-- none of them is a join
abbrev pub HaveNoJoin : List Entry → Type 0
HaveNoJoin [] = Unit {0}
HaveNoJoin (e ∷ es) = (is_join e ≡ false) × HaveNoJoin es

-- each join is the root's, whose number is 0
abbrev pub JoinsAreOfRoot : History → Type 0
JoinsAreOfRoot [] = Unit {0}
JoinsAreOfRoot (s ∷ rest) = (is_join s.1.entry ≡ true → s.0 ≡ 0) × JoinsAreOfRoot rest

-- where each step is the root's or of one of these passes, and none of these joined a peer, each
-- join is the root's
abbrev pub OnlyRootJoins : Type 0
OnlyRootJoins =
    (ns : List ℕ) (h : History) → AreOfPasses (0 ∷ ns) h →
    ((n : ℕ) → IsIn n ns → HaveNoJoin (entries_of_pass n h)) → JoinsAreOfRoot h
