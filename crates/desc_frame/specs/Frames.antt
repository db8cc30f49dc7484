-- Frames: bytes that travel with the tokens of their descriptors.
use Rattle.std.specs.Prelude.{◌≡◌, ℕ, ◌+◌, ◌*◌, ◌^◌, ◌<◌, ◌≤◌, ◌⊎◌, List, ◌++◌, length, All, flat_map}
use Rattle.byteorder.specs.Endian.{little_bytes}

-- the bytes of a frame, and the tokens that stand before them
pub record Frame : Type 0 where
  pub bytes : List ℕ
  pub tokens : List ℕ

abbrev pub frame : List ℕ → List ℕ → Frame
frame bytes tokens = record { bytes = bytes; tokens = tokens }

-- the numbers of bytes and of tokens that a header may have
pub record WithinLimits (n t : ℕ) : Type 0 where
  pub some : 1 ≤ n
  pub bytes : n ≤ 4096
  pub tokens : t ≤ 256

-- a frame has 1 to 4096 bytes and up to 256 tokens of 32 bits
pub record IsFrame (f : Frame) : Type 0 where
  pub limits : WithinLimits (length f.bytes) (length f.tokens)
  pub bytes : All (λ byte. byte < 256) f.bytes
  pub tokens : All (λ token. token < 2 ^ 32) f.tokens

-- two numbers of 16 bits, the lowest byte first
abbrev pub header : ℕ → ℕ → List ℕ
header n t = little_bytes 2 n ++ little_bytes 2 t

-- the tokens of 32 bits, the lowest byte of each first
abbrev pub spelled_tokens : List ℕ → List ℕ
spelled_tokens tokens = flat_map (little_bytes 4) tokens

-- the header, the tokens, and the bytes
abbrev pub spelling : Frame → List ℕ
spelling f = header (length f.bytes) (length f.tokens) ++ (spelled_tokens f.tokens ++ f.bytes)

-- a header within its limits, with less behind it than it announces
pub record IsCutShort (bytes : List ℕ) : Type 0 where
  pub n : ℕ
  pub t : ℕ
  pub rest : List ℕ
  pub is : bytes ≡ header n t ++ rest
  pub limits : WithinLimits n t
  pub short : length rest < 4 * t + n

-- less than a frame: less than a header, or a frame that is cut short
abbrev pub IsShort : List ℕ → Type 0
IsShort bytes = (length bytes < 4) ⊎ IsCutShort bytes
