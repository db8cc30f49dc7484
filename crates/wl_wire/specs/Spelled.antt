-- The grammar: which bytes spell an argument. Padding may be any bytes.
use Rattle.std.specs.Prelude.{◌≡◌, ℕ, ℤ, ◌+◌, ◌-◌, ◌%◌, ◌^◌, ◌<◌, List, ◌∷◌, ◌++◌, length, IsTrue, FitsSigned, Option, Some, None, Result, Ok, Err}
use Rattle.std.specs.Int.{w32}
use Rattle.wl_wire.specs.Texts.{is_text}
use Rattle.wl_wire.specs.Spelling.{word_bytes, int_bytes}
use Rattle.wl_wire.specs.declared.arg_reader.Malformed.{Malformed}

abbrev pub IsUint : ℕ → List ℕ → Type 0
IsUint n bytes = (n < 2 ^ 32) × (bytes ≡ word_bytes n)

abbrev pub IsInt : ℤ → List ℕ → Type 0
IsInt z bytes = FitsSigned w32 z × (bytes ≡ int_bytes z)

-- a string that isn't null: a length that counts the zero byte, the text, the zero byte, and
-- padding up to a multiple of 4
pub record IsTextSpelled (t bytes : List ℕ) : Type 0 where
  pub text : IsTrue (is_text t)
  pub short : length t + 1 < 2 ^ 32
  pub padding : List ℕ
  pub len : length padding ≡ 3 - length t % 4
  pub is : bytes ≡ (word_bytes (length t + 1) ++ t) ++ (0 ∷ padding)

-- a string: the length 0 is the null string
abbrev pub IsString : Option (List ℕ) → List ℕ → Type 0
IsString None bytes = bytes ≡ word_bytes 0
IsString (Some t) bytes = IsTextSpelled t bytes

-- an argument was taken from the front of what was left; or none stands there, and all is left
abbrev pub TakesSpelled : {X Y : Type 0} → (Y → List ℕ → Type 0) → (X → Y) → Result X Malformed →
    List ℕ → List ℕ → Type 0
TakesSpelled IsSpelled view (Ok x) old new =
    (front : List ℕ) × IsSpelled (view x) front × (old ≡ front ++ new)
TakesSpelled {X} {Y} IsSpelled view (Err e) old new =
    (new ≡ old) × ((y : Y) (front rest : List ℕ) → IsSpelled y front → old ≡ front ++ rest → ⊥)

-- the same of a function that returns what is left
abbrev pub GivesSpelled : {X Y : Type 0} → (Y → List ℕ → Type 0) → (X → Y × List ℕ) →
    Result X Malformed → List ℕ → Type 0
GivesSpelled IsSpelled view (Ok x) bytes =
    (front : List ℕ) × IsSpelled (view x).0 front × (bytes ≡ front ++ (view x).1)
GivesSpelled {X} {Y} IsSpelled view (Err e) bytes =
    (y : Y) (front rest : List ℕ) → IsSpelled y front → bytes ≡ front ++ rest → ⊥
