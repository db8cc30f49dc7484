-- Where a line of a session leads, by what it means.
use Rattle.std.specs.Prelude.{◌≡◌, ℕ, ◌+◌, length, Option, None, Some}
use Rattle.std.specs.Option.{option_map}
use Rattle.session_text.specs.declared.line.SessionLine.{SessionLine}
use Rattle.seat_set.specs.Played.{line_played}
use Rattle.seat_set.specs.Playing.{Playing}
use Rattle.program_run.specs.declared.last_line.LastLine.{LastLine}
use Rattle.program_run.specs.declared.last_line.LastLine.TheVariants as last
use Rattle.program_run.specs.declared.session_line.Meaning.{Meaning}
use Rattle.program_run.specs.declared.session_line.Meaning.TheVariants as meaning
use Rattle.program_run.specs.declared.session_line.Stage.{Stage}
use Rattle.program_run.specs.Session.{full_at, next_stage}

-- where a line that was played led, and how the output ends if the journal was full for it
pub record IsLed (player player_after : Playing) (line : SessionLine) (end : Option LastLine) :
    Type 0 where
  pub full : end ≡ option_map last.Full (full_at (line_played player.limits line player.play))
  pub play : end ≡ None → player_after ≡ record player {
    play = (line_played player.limits line player.play).play;
    stamps = player_after.stamps;
    kept_from = player_after.kept_from;
  }
  pub journal : player_after.play.journal
      ≡ (line_played player.limits line player.play).play.journal
  pub limits : player_after.limits ≡ player.limits

-- where a line of this meaning led after so many: one that isn't played leads nowhere, and ends
-- the output
abbrev pub IsLedBy : ℕ → Playing → Playing → Meaning → Option LastLine → Type 0
IsLedBy n player player_after (meaning.Play stamp found) end =
    IsLed player player_after found end
IsLedBy n player player_after meaning.End end =
    (player_after ≡ player) × (end ≡ Some (last.End (length player.play.journal)))
IsLedBy n player player_after meaning.Bad end =
    (player_after ≡ player) × (end ≡ Some (last.Bad (n + 1)))

-- how the line behind one of this meaning is read
abbrev pub stage_behind : Stage → Meaning → Stage
stage_behind stage (meaning.Play stamp found) = next_stage stage stamp
stage_behind stage meaning.End = stage
stage_behind stage meaning.Bad = stage
