-- The grammar: what a body is a spelling of, with any padding.
use Rattle.std.specs.Prelude.{◌≡◌, ℕ, ◌^◌, ◌<◌, List, [], ◌∷◌, ◌++◌, IsTrue, Option, Some, None, Result, Ok, Err, FitsSigned}
use Rattle.std.specs.Int.{w32}
use Rattle.wl_wire.specs.Texts.{is_text}
use Rattle.wl_wire.specs.Spelled.{IsUint, IsInt, IsString}
use Rattle.wl_proto.specs.declared.table.Kind.{Kind}
use Rattle.wl_proto.specs.declared.table.Kind.TheVariants.{Uint, Int, Object, NewId, Text, TextOrNull, Descriptor}
use Rattle.wl_proto.specs.Grammar.{Value, word, signed, text, null, token}
use Rattle.wl_proto.specs.declared.interface.Interface.{Interface}
use Rattle.wl_proto.specs.declared.refuse.Refuse.{Refuse}
use Rattle.wl_proto.specs.declared.refuse.Refuse.TheVariants as refuse
use Rattle.wl_proto.specs.Rows.{Message}
use Rattle.wl_proto.specs.Reading.{first_of}

-- the bytes are an argument of the kind with this value
abbrev pub IsSpelled : Kind → Value → List ℕ → Type 0
IsSpelled Uint (word n) bytes = IsUint n bytes
IsSpelled Object (word n) bytes = IsUint n bytes
IsSpelled NewId (word n) bytes = IsUint n bytes
IsSpelled Int (signed z) bytes = IsInt z bytes
IsSpelled Text (text t) bytes = IsString (Some t) bytes
IsSpelled TextOrNull (text t) bytes = IsString (Some t) bytes
IsSpelled TextOrNull null bytes = IsString None bytes
IsSpelled Descriptor (token n) bytes = bytes ≡ []
IsSpelled _ _ bytes = ⊥

-- the body is a spelling of these values of these kinds
abbrev pub Spelled : List Kind → List Value → List ℕ → Type 0
Spelled [] [] bytes = bytes ≡ []
Spelled (k ∷ ks) (v ∷ vs) bytes =
    (front : List ℕ) × (rest : List ℕ) × IsSpelled k v front × (bytes ≡ front ++ rest)
    × Spelled ks vs rest
Spelled _ _ bytes = ⊥

-- each descriptor is the first token
abbrev pub IsToken : List ℕ → Value → Type 0
IsToken tokens (token t) = first_of tokens ≡ Some t
IsToken tokens _ = Unit {0}

abbrev pub AreTokens : List ℕ → List Value → Type 0
AreTokens tokens [] = Unit {0}
AreTokens tokens (v ∷ vs) = IsToken tokens v × AreTokens tokens vs

-- the values with each descriptor left open
abbrev pub open_value : Value → Value
open_value (token t) = token 0
open_value v = v

abbrev pub open_values : List Value → List Value
open_values [] = []
open_values (v ∷ vs) = open_value v ∷ open_values vs

-- the value is one of the kind that can be written
abbrev pub IsOfKind : Kind → Value → Type 0
IsOfKind Uint (word n) = n < 2 ^ 32
IsOfKind Object (word n) = n < 2 ^ 32
IsOfKind NewId (word n) = n < 2 ^ 32
IsOfKind Int (signed z) = FitsSigned w32 z
IsOfKind Text (text t) = IsTrue (is_text t)
IsOfKind TextOrNull (text t) = IsTrue (is_text t)
IsOfKind TextOrNull null = Unit {0}
IsOfKind Descriptor (token n) = Unit {0}
IsOfKind _ _ = ⊥

abbrev pub AreOfKinds : List Kind → List Value → Type 0
AreOfKinds [] [] = Unit {0}
AreOfKinds (k ∷ ks) (v ∷ vs) = IsOfKind k v × AreOfKinds ks vs
AreOfKinds _ _ = ⊥

-- the value has the kind
abbrev pub HasKind : Kind → Value → Type 0
HasKind Uint (word n) = Unit {0}
HasKind Object (word n) = Unit {0}
HasKind NewId (word n) = Unit {0}
HasKind Int (signed z) = Unit {0}
HasKind Text (text t) = Unit {0}
HasKind TextOrNull (text t) = Unit {0}
HasKind TextOrNull null = Unit {0}
HasKind Descriptor (token n) = Unit {0}
HasKind _ _ = ⊥

abbrev pub HaveKinds : List Kind → List Value → Type 0
HaveKinds [] [] = Unit {0}
HaveKinds (k ∷ ks) (v ∷ vs) = HasKind k v × HaveKinds ks vs
HaveKinds _ _ = ⊥

-- the message is of this row, and the body is a spelling of its values
pub record IsRead (kinds : Option (List Kind)) (i : Interface) (opcode : ℕ) (tokens body : List ℕ)
    (m : Message) : Type 0 where
  pub interface-is : m.interface ≡ i
  pub opcode-is : m.opcode ≡ opcode
  pub row : List Kind
  pub row-is : kinds ≡ Some row
  pub spelled : Spelled row m.values body
  pub tokens-are : AreTokens tokens m.values

-- the row is there, and no values of it are spelled so with these tokens
pub record IsMalformed (kinds : Option (List Kind)) (tokens body : List ℕ) : Type 0 where
  pub row : List Kind
  pub row-is : kinds ≡ Some row
  pub none : (vs : List Value) → Spelled row vs body → AreTokens tokens vs → ⊥

-- what a reader answers
abbrev pub Answers : {X : Type 0} → (X → Message) → Option (List Kind) → Interface → ℕ → List ℕ →
    List ℕ → Result X Refuse → Type 0
Answers view kinds i opcode tokens body (Ok x) = IsRead kinds i opcode tokens body (view x)
Answers view kinds i opcode tokens body (Err refuse.Opcode) = kinds ≡ None
Answers view kinds i opcode tokens body (Err refuse.Malformed) = IsMalformed kinds tokens body
