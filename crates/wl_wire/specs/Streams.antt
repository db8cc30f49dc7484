-- What an assembler holds, what a feed does to it, and what it tells of all bytes that were fed.
use Rattle.std.specs.Prelude.{◌≡◌, ℕ, ◌<◌, ◌≤◌, List, [], ◌∷◌, ◌++◌, length, take, Some, None}
use Rattle.wl_wire.specs.declared.assembler.Fed.{Fed}
use Rattle.wl_wire.specs.declared.assembler.Fed.TheVariants as fed
use Rattle.wl_wire.specs.declared.assembler.Phase.{Phase}
use Rattle.wl_wire.specs.declared.assembler.Phase.TheVariants as phase
use Rattle.wl_wire.specs.Messages.{size_of, IsMessage, IsPartial, IsBad, messages, bad_size, joined}

-- what an assembler holds: the bytes of a message that isn't whole, a whole message, or the header
-- of a bad size
pub data Assembly : Type 0 where
  Begun : List ℕ → Assembly
  Whole : List ℕ → Assembly
  Bad : List ℕ → Assembly

-- what an assembler's phase and bytes stand for
abbrev pub assembly : Phase → List ℕ → Assembly
assembly phase.Open held = Begun held
assembly phase.Whole held = Whole held
assembly phase.Bad held = Bad held

-- the bytes that are held
abbrev pub bytes_of : Assembly → List ℕ
bytes_of (Begun bytes) = bytes
bytes_of (Whole message) = message
bytes_of (Bad header) = header

-- a whole message is held
abbrev pub HasMessage : Assembly → Type 0
HasMessage (Begun bytes) = ⊥
HasMessage (Whole message) = IsMessage message
HasMessage (Bad header) = ⊥

-- the header of a bad size is held
abbrev pub HasBadSize : Assembly → Type 0
HasBadSize (Begun bytes) = ⊥
HasBadSize (Whole message) = ⊥
HasBadSize (Bad header) = IsBad header

-- what a feed told can be asked for: the message, or the header
abbrev pub HasTold : Fed → Assembly → Type 0
HasTold (fed.Whole used) new = HasMessage new
HasTold fed.Need new = Unit {0}
HasTold (fed.BadSize n) new = HasBadSize new

-- the bytes that the next piece goes on from
abbrev pub begun : Assembly → List ℕ
begun (Begun bytes) = bytes
begun (Whole message) = []
begun (Bad header) = header

-- what one feed does: it takes bytes up to the end of a message, or takes all of the piece
abbrev pub Feeds : Assembly → List ℕ → Fed → Assembly → Type 0
Feeds old piece (fed.Whole used) new =
    let message = begun old ++ take used piece in
    (0 < used) × (used ≤ length piece) × IsMessage message × (new ≡ Whole message)
Feeds old piece fed.Need new =
    let bytes = begun old ++ piece in
    IsPartial bytes × (new ≡ Begun bytes)
Feeds old piece (fed.BadSize n) new =
    let header = take 8 (begun old ++ piece) in
    IsBad header × (n ≡ size_of header) × (new ≡ Bad header)

-- what is held of the bytes behind the whole messages
abbrev pub Holds : Assembly → List ℕ → Type 0
Holds (Begun bytes) rest = (rest ≡ bytes) × IsPartial bytes
Holds (Whole message) rest = rest ≡ []
Holds (Bad header) rest = (more : List ℕ) × (rest ≡ header ++ more) × IsBad header

-- these are all bytes that the assembler took since it was made
pub record HasFed (stream : List ℕ) (a : Assembly) : Type 0 where
  pub rest : List ℕ
  pub whole : stream ≡ joined (messages stream) ++ rest
  pub holds : Holds a rest

-- a feed told exactly what all bytes fed so far have: one more message, or no more, or a bad size
-- behind them
abbrev pub FedOn : List ℕ → List ℕ → Fed → Assembly → Type 0
FedOn stream piece (fed.Whole used) new =
    let taken = stream ++ take used piece in
    HasFed taken new × (messages taken ≡ messages stream ++ (bytes_of new ∷ []))
    × (bad_size taken ≡ None)
FedOn stream piece fed.Need new =
    let taken = stream ++ piece in
    HasFed taken new × (messages taken ≡ messages stream) × (bad_size taken ≡ None)
FedOn stream piece (fed.BadSize n) new =
    let taken = stream ++ piece in
    HasFed taken new × (messages taken ≡ messages stream) × (bad_size taken ≡ Some n)
