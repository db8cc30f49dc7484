-- A field's client at work: its state, and the room for what it sends.
use Rattle.std.specs.Prelude.{ℕ}
use Rattle.client_side.specs.FieldState.{State}
use Rattle.client_side.specs.declared.field_state.FieldState.TheInside.{Inside}

pub record Working : Type 0 where
  pub state : State
  pub room : ℕ

abbrev pub working : Inside → Working
working f = record {
  state = record {
    field = record { text = f.field; is_entered = f.is_entered; commits = f.commits };
    pending = f.pending;
    to_send = f.out.bytes;
  };
  room = f.out.room;
}
