-- What a log has of what its client hears
use Rattle.std.specs.Prelude.{◌≡◌, ℕ, true, false, List, [], ◌++◌}
use Rattle.wl_proto.specs.Messages.{IsPartial, joined}
use Rattle.wl_proto.specs.declared.interface.Interface.{Interface}
use Rattle.wl_proto.specs.declared.event.Event.{Event}
use Rattle.client_side.specs.Client.{Client, Step, after_all, IsWrong}
use Rattle.client_side.specs.Events.{AreEvents}

-- what events make of a log, the newest first, from a state on
abbrev pub Logging : Type 0 → Type 0 → Type 0
Logging S X = List Event → S → List X → List X

-- The bytes begin with events that take the client from the old state to the new. The log has what
-- they make happen, but for the last things, which are these.
pub record Hears {S X : Type 0} (objects : List Interface) (step : Step S) (logging : Logging S X)
    (old new : S) (bytes rest : List ℕ) (log log_after missing : List X)
    : Type 0 where
  pub messages : List (List ℕ)
  pub events : List Event
  pub are : AreEvents objects messages events
  pub front : bytes ≡ joined messages ++ rest
  pub state-is : new ≡ after_all step events old
  pub log-is : logging events old log ≡ missing ++ log_after

-- they are events and a part of a message, and the log has all that they make happen
pub record Accepts {S X : Type 0} (objects : List Interface) (step : Step S)
    (logging : Logging S X)
    (old new : Client S) (log log_after : List X) (piece : List ℕ)
    : Type 0 where
  pub hears : Hears objects step logging old.state new.state (old.held ++ piece) new.held
      log log_after []
  pub partial : IsPartial new.held
  pub good : new.is_bad ≡ false

-- they are events, and then go wrong; the log has all that these make happen
pub record Refuses {S X : Type 0} (objects : List Interface) (step : Step S)
    (logging : Logging S X)
    (old new : Client S) (log log_after : List X) (piece : List ℕ)
    : Type 0 where
  pub rest : List ℕ
  pub hears : Hears objects step logging old.state new.state (old.held ++ piece) rest
      log log_after []
  pub wrong : IsWrong objects rest
  pub held : new.held ≡ old.held ++ piece
  pub bad : new.is_bad ≡ true

-- they begin with events, or none of them were taken; behind what it had the log has the first of
-- what they make happen
pub record HearsSome {S X : Type 0} (objects : List Interface) (step : Step S)
    (logging : Logging S X)
    (old new : Client S) (log log_after : List X) (piece : List ℕ)
    : Type 0 where
  pub rest : List ℕ
  pub missing : List X
  pub written : List X
  pub keeps : log_after ≡ written ++ log
  pub hears : Hears objects step logging old.state new.state (old.held ++ piece) rest
      log log_after missing
