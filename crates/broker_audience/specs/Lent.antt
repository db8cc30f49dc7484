-- What a row of peers ends as, where one of them is lent to be changed.
use Rattle.std.specs.Prelude.{ℕ}
use Rattle.std.specs.Borrow.{Lends, MutBor, Fml}
use Rattle.broker_audience.specs.declared.live.Live.{Live}
use Rattle.broker_audience.specs.contracts.live.Live as live
use Rattle.broker_audience.specs.contracts.roster.Roster as roster
use Rattle.broker_audience.specs.Seated.{Roster, with_peer}

-- the last value of the peer is at the place, and all else is as before
abbrev pub LendsPeer : MutBor Roster → ℕ → MutBor Live → Fml
LendsPeer r place l = Lends roster.the_row live.the_row r l (with_peer r.now place)
