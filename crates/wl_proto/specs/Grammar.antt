-- The arguments of a message as values.
use Rattle.std.specs.Prelude.{ℕ, ℤ, List, Option, Some, None}

-- an argument: a word, a number with a sign, a text, the null string, or the token of a descriptor
pub data Value : Type 0 where
  word : ℕ → Value
  signed : ℤ → Value
  text : List ℕ → Value
  null : Value
  token : ℕ → Value

abbrev pub string_value : Option (List ℕ) → Value
string_value None = null
string_value (Some t) = text t
