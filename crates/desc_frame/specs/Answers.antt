-- What a reader of frames answers, and which bytes it took.
use Rattle.std.specs.Prelude.{◌≡◌, ℕ, ◌^◌, ◌<◌, List, [], ◌++◌, length, take, Option, None, Some}
use Rattle.std.specs.Io.KnownBytes.{Appends, Consumes, IsAtEnd}
use Rattle.desc_frame.specs.declared.Got.{Got}
use Rattle.desc_frame.specs.declared.Got.TheVariants.{Bytes, End, Torn, BadFrame, ReadFault}
use Rattle.desc_frame.specs.Frames.{Frame, frame, IsFrame, WithinLimits, IsShort, header, spelling}

-- a source gave these bytes
pub record Gave (given_before given_after left_before left_after : Option (List ℕ))
    (bytes : List ℕ) : Type 0 where
  pub given : Appends given_before given_after bytes
  pub left : Consumes left_before left_after bytes

-- the first n bytes and the first t tokens are a frame, and this is its spelling
pub record IsFrameOf (n t : ℕ) (bytes tokens taken : List ℕ) : Type 0 where
  pub n_bytes : length (take n bytes) ≡ n
  pub t_tokens : length (take t tokens) ≡ t
  pub is : IsFrame (frame (take n bytes) (take t tokens))
  pub spelled : taken ≡ spelling (frame (take n bytes) (take t tokens))

-- a header that is past its limits
pub record IsBadHeader (n t : ℕ) (taken : List ℕ) : Type 0 where
  pub words : (n < 2 ^ 16) × (t < 2 ^ 16)
  pub bad : WithinLimits n t → ⊥
  pub bytes : taken ≡ header n t

-- why there is no frame, by the bytes that were taken and those that are left
abbrev pub Stops : Got → List ℕ → Option (List ℕ) → Type 0
Stops (Bytes n t) taken left = ⊥
Stops End taken left = (taken ≡ []) × IsAtEnd left
Stops (Torn n) taken left = (0 < n) × (length taken ≡ n) × IsShort taken × IsAtEnd left
Stops (BadFrame n t) taken left = IsBadHeader n t taken
Stops ReadFault taken left = IsShort taken

-- what the answer says of the bytes that were taken for it, of those that are left, and of the
-- buffers
abbrev pub Tells : Got → List ℕ → Option (List ℕ) → List ℕ → List ℕ → Type 0
Tells (Bytes n t) taken left bytes tokens = IsFrameOf n t bytes tokens taken
Tells End taken left bytes tokens = Stops End taken left
Tells (Torn n) taken left bytes tokens = Stops (Torn n) taken left
Tells (BadFrame n t) taken left bytes tokens = Stops (BadFrame n t) taken left
Tells ReadFault taken left bytes tokens = Stops ReadFault taken left

-- what stands at the front of bytes that are all there are
abbrev pub Begins : Got → List ℕ → Type 0
Begins (Bytes n t) all =
    (f : Frame) × (rest : List ℕ) × IsFrame f × (length f.bytes ≡ n) × (length f.tokens ≡ t)
    × (all ≡ spelling f ++ rest)
Begins End all = all ≡ []
Begins (Torn n) all = (0 < n) × (length all ≡ n) × IsShort all
Begins (BadFrame n t) all =
    (bad : List ℕ) × (rest : List ℕ) × IsBadHeader n t bad × (all ≡ bad ++ rest)
Begins ReadFault all = ⊥

-- what is answered from then on, if anything is settled
abbrev pub settled : Got → Option Got
settled (Bytes n t) = None
settled End = Some End
settled (Torn n) = Some (Torn n)
settled (BadFrame n t) = Some (BadFrame n t)
settled ReadFault = Some ReadFault

-- bytes have one answer at their front, and one frame
abbrev pub HasOneAnswer : Type 0
HasOneAnswer = (all : List ℕ) (got other : Got) → Begins got all → Begins other all → got ≡ other

abbrev pub HasOneFrame : Type 0
HasOneFrame =
    (f g : Frame) (after behind : List ℕ) → IsFrame f → IsFrame g →
    spelling f ++ after ≡ spelling g ++ behind → (f ≡ g) × (after ≡ behind)
