-- What the lines of an audit play: each step, and after it takes of all that is stored.
use Rattle.std.specs.Prelude.{ℕ, zero, suc, ◌+◌, List, [], ◌++◌, length, replicate, if◌then◌else◌}
use Rattle.broker_steps.specs.declared.limits.Limits.{Limits}
use Rattle.broker_steps.specs.Ranges.{entry_limit, store_limit, weight_limit}
use Rattle.session_text.specs.declared.line.SessionLine.{SessionLine}
use Rattle.session_text.specs.declared.line.SessionLine.TheVariants.{Take}
use Rattle.broker_model.specs.Resolve.{past_of}
use Rattle.seat_set.specs.Played.{Play, Played, line_played}
use Rattle.seat_set.specs.Laws.{lines_played}

-- the greatest limits that a session may set
abbrev pub audit_limits : Limits
audit_limits = record { entries = entry_limit; store = store_limit; weight = weight_limit }

-- Takes of the peer q until nothing is stored: so many of 4,096 bytes empty any store, and where
-- nothing is stored a take plays nothing.
unfoldable pub takes_of : ℕ → List SessionLine
takes_of q = replicate 256 (Take q 4096)

-- the same of so many peers, by rising number from q on
abbrev pub takes_from : ℕ → ℕ → List SessionLine
takes_from q zero = []
takes_from q (suc n) = takes_of q ++ takes_from (q + 1) n

-- after a step all that is stored is taken, peer by peer
abbrev pub emptied : Played → Played
emptied p =
    (if p.is_full then p
    else lines_played audit_limits (takes_from 1 (length (past_of p.play.journal).joined)) p.play)

-- what a step's line plays
abbrev pub step_judged : SessionLine → Play → Played
step_judged line play = emptied (line_played audit_limits line play)
