-- A session as far as it is played.
use Rattle.std.specs.Prelude.{◌≡◌, ℕ, List, [], Option, Some, None}
use Rattle.lines_transcript.specs.Printed.{Printing, blank}
use Rattle.seat_set.specs.Playing.{Playing}
use Rattle.program_run.specs.declared.session.SessionPlay.{SessionPlay}
use Rattle.program_run.specs.declared.session_line.Stage.{Stage}
use Rattle.program_run.specs.PlayerScript.{PlayerStands, PlayerHolds}

-- before its header and behind it
abbrev pub StandsBy : Stage → Option Playing → ℕ → List (List ℕ) → List ℕ → Type 0
StandsBy stage None before done output = (before ≡ 0) × (done ≡ []) × (output ≡ [])
StandsBy stage (Some player) before done output = PlayerStands stage player before done output

-- these lines were played, and came to this output
abbrev pub SessionStands : SessionPlay → List (List ℕ) → List ℕ → Type 0
SessionStands session done output = StandsBy session.stage session.player session.before done output

-- before its header nothing is gathered
abbrev pub HoldsBy : Option Playing → Printing → List ℕ → Type 0
HoldsBy None printer gathered = (printer ≡ blank) × (gathered ≡ [])
HoldsBy (Some player) printer gathered = PlayerHolds player printer gathered

-- so much output was gathered since the buffer was cleared
abbrev pub SessionHolds : SessionPlay → List ℕ → Type 0
SessionHolds session gathered = HoldsBy session.player session.printer gathered

-- the bytes in its buffer
abbrev pub session_text : SessionPlay → List ℕ
session_text session = session.printer.text
