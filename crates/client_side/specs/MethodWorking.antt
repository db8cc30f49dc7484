-- The method's client at work: its state, and the room for what it sends.
use Rattle.std.specs.Prelude.{ℕ}
use Rattle.client_side.specs.MethodState.{State}
use Rattle.client_side.specs.Outgoing.{Outgoing}

pub record Working (S : Type 0) : Type 0 where
  pub state : State S
  pub room : ℕ

-- by what its typist is, how many dones came, and what waits
abbrev pub working : {S : Type 0} → S → ℕ → Outgoing → Working S
working typing dones out = record {
  state = record { typist = record { typing = typing; dones = dones }; to_send = out.bytes };
  room = out.room;
}
