-- What a field's log asks to be sent
use Rattle.std.specs.Prelude.{◌≡◌, List, ◌++◌}
use Rattle.client_side.specs.FieldLog.{sends_of}
use Rattle.client_side.specs.FieldState.{State, HasLog}
use Rattle.client_side.specs.Happenings.{Happening}
use Rattle.client_side.specs.Messages.{Sent, spelled, field_setup}

-- these requests were sent, and those wait
pub record IsSent (s : State) (log : List Happening) (sents waits : List Sent) : Type 0 where
  pub all : field_setup ++ sends_of log ≡ sents ++ waits
  pub has : HasLog log (spelled sents) s
