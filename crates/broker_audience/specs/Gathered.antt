-- A group as it is gathered for one peer, in a buffer of a capacity.
use Rattle.std.specs.Prelude.{ℕ, ◌+◌, length, Bool, true, false, not, ◌&&◌, nat_le, if◌then◌else◌, Some}
use Rattle.wl_proto.specs.Rows.{Message}
use Rattle.wl_proto.specs.Spelling.{message_len}
use Rattle.broker_model.specs.Groups.{Piece, nothing, followed_by, message_piece}

-- what is gathered, how many bytes there may be, and whether something was left out
pub record Gathered : Type 0 where
  pub group : Piece
  pub capacity : ℕ
  pub is_over : Bool

-- nothing is gathered, and nothing was left out
abbrev pub empty : ℕ → Gathered
empty capacity = record { group = nothing; capacity = capacity; is_over = false }

-- the message goes behind what is gathered where nothing was left out before and all fits;
-- otherwise it is left out
abbrev pub with_message : ℕ → Message → Gathered → Gathered
with_message id m g =
    (if not g.is_over && nat_le (length g.group.bytes + message_len m) g.capacity
    then record g { group = followed_by g.group (message_piece id (Some m)) }
    else record g { is_over = true })
