-- What is cut from a piece of a peer's bytes, behind those that wait.
use Rattle.std.specs.Prelude.{◌≡◌, ℕ, ◌<◌, ◌≤◌, List, [], ◌∷◌, ◌++◌, length, drop, None}
use Rattle.wl_wire.specs.Messages.{id_of, opcode_of, body_of, behind, bad_size_at, IsBad}
use Rattle.wl_wire.specs.Streams.{Assembly, begun, bytes_of, HasMessage}
use Rattle.broker_model.specs.Ranges.{IsBody}
use Rattle.broker_model.specs.declared.journal.Entry.TheVariants as entries
use Rattle.broker_cutter.specs.declared.cutter.Cut.{Cut}
use Rattle.broker_cutter.specs.declared.cutter.Cut.TheVariants as cut
use Rattle.broker_cutter.specs.Steps.{steps_in}

-- the message that bytes begin with, of which so many bytes of the piece are the end: its step
-- comes first, and its bytes are gone from what is left
pub record IsFirst (id opcode : ℕ) (body bytes piece : List ℕ) (used : ℕ)
    (left : List ℕ) : Type 0 where
  pub some : 0 < used
  pub within : used ≤ length piece
  pub valid : IsBody body
  pub steps : (q : ℕ) →
      steps_in q bytes ≡ entries.Message q id opcode body ∷ steps_in q (drop used piece)
  pub behind_same : behind bytes ≡ behind (drop used piece)
  pub none_left : left ≡ []

-- bytes that give no step yet, and wait for more
pub record IsUnfinished (bytes left : List ℕ) : Type 0 where
  pub steps : (q : ℕ) → steps_in q bytes ≡ []
  pub all_behind : behind bytes ≡ bytes
  pub all_left : left ≡ bytes
  pub good : bad_size_at bytes ≡ None

-- a header with a bad size, the last step of bytes: it stays what waits
pub record IsLast (head bytes left : List ℕ) : Type 0 where
  pub valid : IsBad head
  pub steps : (q : ℕ) → steps_in q bytes ≡ entries.BadSize q head ∷ []
  pub stays : left ≡ head

-- the message that is held is the first of the bytes
abbrev pub IsHeld : Assembly → (bytes piece : List ℕ) → ℕ → Type 0
IsHeld new bytes piece used =
    let m = bytes_of new in
    HasMessage new × IsFirst (id_of m) (opcode_of m) (body_of m) bytes piece used (begun new)

abbrev pub Cuts : Assembly → List ℕ → Cut → Assembly → Type 0
Cuts old piece (cut.Message raw used) new =
    IsFirst raw.id raw.opcode raw.body.now (begun old ++ piece) piece used (begun new)
Cuts old piece (cut.Held used) new = IsHeld new (begun old ++ piece) piece used
Cuts old piece cut.Nothing new = IsUnfinished (begun old ++ piece) (begun new)
Cuts old piece (cut.BadSize head) new = IsLast head (begun old ++ piece) (begun new)
