-- What the method's log asks to be sent
use Rattle.std.specs.Prelude.{◌≡◌, ◌++◌, List}
use Rattle.client_side.specs.Messages.{Sent, spelled}
use Rattle.client_side.specs.MethodLog.{Happening, typist_of}
use Rattle.client_side.specs.MethodState.{State}
use Rattle.trial_run.specs.Typists.{meanings_of}
use Rattle.trial_run.specs.declared.typist.TrialTypist.{TrialTypist}
use Rattle.trial_laws.specs.TypedLogs.{requests_of}

-- the client typed by its log, these requests were sent, and those wait
pub record IsAsked (typist : TrialTypist) (s : State TrialTypist) (log : List Happening)
    (sents waits : List Sent) : Type 0 where
  pub typing : s.typist ≡ typist_of meanings_of typist log
  pub all : requests_of typist log ≡ sents ++ waits
  pub bytes : s.to_send ≡ spelled waits
