-- What bytes begin with.
use Rattle.std.specs.Prelude.{◌≡◌, ℕ, ◌≤◌, List, [], ◌∷◌, length, take, drop, Some, None}
use Rattle.wl_wire.specs.declared.front.Front.{Front}
use Rattle.wl_wire.specs.declared.front.Front.TheVariants as front
use Rattle.wl_wire.specs.Messages.{id_of, opcode_of, body_of, size_of, IsGoodSize, IsMessage, IsPartial, IsBad, messages, bad_size}

-- the whole message that the bytes begin with, by its parts, and how many of the bytes it has
pub record IsFrontMessage (id opcode : ℕ) (body bytes : List ℕ) (used : ℕ) : Type 0 where
  pub good : IsGoodSize used
  pub within : used ≤ length bytes
  pub whole : IsMessage (take used bytes)
  pub same_id : id ≡ id_of (take used bytes)
  pub same_opcode : opcode ≡ opcode_of (take used bytes)
  pub same_body : body ≡ body_of (take used bytes)

-- a whole message, a part of one, or a header with a bad size
abbrev pub IsFront : List ℕ → Front → Type 0
IsFront bytes (front.Whole raw used) = IsFrontMessage raw.id raw.opcode raw.body.now bytes used
IsFront bytes front.Part = IsPartial bytes
IsFront bytes front.BadSize = IsBad bytes

-- what stands at the front tells the messages that bytes begin with, and the bad size behind them
abbrev pub HasMessages : List ℕ → Front → Type 0
HasMessages bytes (front.Whole raw used) =
    let rest = drop used bytes in
    (messages bytes ≡ take used bytes ∷ messages rest) × (bad_size bytes ≡ bad_size rest)
HasMessages bytes front.Part = (messages bytes ≡ []) × (bad_size bytes ≡ None)
HasMessages bytes front.BadSize = (messages bytes ≡ []) × (bad_size bytes ≡ Some (size_of bytes))
