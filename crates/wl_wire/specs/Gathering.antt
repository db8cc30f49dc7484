-- What becomes of the bytes that an assembler holds while it feeds.
use Rattle.std.specs.Prelude.{◌≡◌, ℕ, ◌+◌, ◌≤◌, List, ◌++◌, length, take}
use Rattle.wl_wire.specs.declared.assembler.Fed.{Fed}
use Rattle.wl_wire.specs.declared.assembler.Fed.TheVariants as fed
use Rattle.wl_wire.specs.declared.assembler.Phase.{Phase}
use Rattle.wl_wire.specs.declared.assembler.Phase.TheVariants.{Open, Whole, Bad}
use Rattle.wl_wire.specs.Messages.{size_of, IsMessage, IsPartial, IsBad}

abbrev pub Gathers : List ℕ → List ℕ → Fed → List ℕ → Type 0
Gathers old piece (fed.Whole used) new =
    (used ≤ length piece) × (new ≡ old ++ take used piece) × IsMessage new
Gathers old piece fed.Need new = (new ≡ old ++ piece) × IsPartial new
Gathers old piece (fed.BadSize n) new =
    (n ≡ size_of new) × (new ≡ take 8 (old ++ piece)) × IsBad new

abbrev pub taken_of : Fed → ℕ
taken_of (fed.Whole used) = used
taken_of fed.Need = 0
taken_of (fed.BadSize n) = 0

-- what was told of a piece's rest, told of the whole piece
abbrev pub told_behind : ℕ → Fed → Fed
told_behind used (fed.Whole more) = fed.Whole (used + more)
told_behind used fed.Need = fed.Need
told_behind used (fed.BadSize n) = fed.BadSize n

abbrev pub phase_of : Fed → Phase
phase_of (fed.Whole used) = Whole
phase_of fed.Need = Open
phase_of (fed.BadSize n) = Bad
