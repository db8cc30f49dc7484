-- What the body of a message reads as, by computation.
use Rattle.std.specs.Prelude.{◌≡◌, ℕ, ◌==◌, if◌then◌else◌, List, [], ◌∷◌, length, Option, Some, None, Result, Ok, Err}
use Rattle.wl_wire.specs.Reading.{◌>>=◌, word_at, int_at, string_at}
use Rattle.wl_wire.specs.declared.arg_reader.Malformed.{Malformed}
use Rattle.wl_proto.specs.declared.interface.Interface.{Interface}
use Rattle.wl_proto.specs.declared.table.Kind.{Kind}
use Rattle.wl_proto.specs.declared.table.Kind.TheVariants.{Uint, Int, Object, NewId, Text, TextOrNull, Descriptor}
use Rattle.wl_proto.specs.declared.refuse.Refuse.{Refuse}
use Rattle.wl_proto.specs.declared.refuse.Refuse.TheVariants as refuse
use Rattle.wl_proto.specs.Grammar.{Value, word, signed, text, token, string_value}
use Rattle.wl_proto.specs.Rows.{Message, message, request_kinds, event_kinds}

-- what one reading gave is this
abbrev pub Takes : {X Y : Type 0} → (X → Y) → Result X Malformed → List ℕ → Option (Y × List ℕ) →
    Type 0
Takes view (Ok x) new read = read ≡ Some (view x, new)
Takes view (Err e) new read = read ≡ None

-- a string that isn't null
unfoldable pub text_at : List ℕ → Option (List ℕ × List ℕ)
text_at bytes = string_at bytes >>= (λ s. s.0 >>= (λ t. Some (t, s.1)))

-- the first token
abbrev pub first_of : List ℕ → Option ℕ
first_of [] = None
first_of (t ∷ ts) = Some t

-- it is the first token, if there is one
abbrev pub TokenIs : Result ℕ Malformed → List ℕ → Type 0
TokenIs (Ok t) tokens = first_of tokens ≡ Some t
TokenIs (Err e) tokens = first_of tokens ≡ None

-- an argument of a kind at the front of the bytes
abbrev pub value_at : List ℕ → Kind → List ℕ → Option (Value × List ℕ)
value_at tokens Uint bytes = word_at bytes >>= (λ w. Some (word w.0, w.1))
value_at tokens Int bytes = int_at bytes >>= (λ w. Some (signed w.0, w.1))
value_at tokens Object bytes = word_at bytes >>= (λ w. Some (word w.0, w.1))
value_at tokens NewId bytes = word_at bytes >>= (λ w. Some (word w.0, w.1))
value_at tokens Text bytes = text_at bytes >>= (λ t. Some (text t.0, t.1))
value_at tokens TextOrNull bytes = string_at bytes >>= (λ s. Some (string_value s.0, s.1))
value_at tokens Descriptor bytes = first_of tokens >>= (λ t. Some (token t, bytes))

-- arguments of these kinds, and nothing after them
abbrev pub values_at : List ℕ → List Kind → List ℕ → Option (List Value)
values_at tokens [] bytes = if length bytes == 0 then Some [] else None
values_at tokens (k ∷ ks) bytes =
    value_at tokens k bytes >>= (λ v. values_at tokens ks v.1 >>= (λ vs. Some (v.0 ∷ vs)))

-- a message of the row, or none of it
abbrev pub all_read : Interface → ℕ → Option (List Value) → Result Message Refuse
all_read i n (Some vs) = Ok (message i n vs)
all_read i n None = Err refuse.Malformed

abbrev pub by_row : Interface → ℕ → List ℕ → List ℕ → Option (List Kind) → Result Message Refuse
by_row i n tokens body (Some ks) = all_read i n (values_at tokens ks body)
by_row i n tokens body None = Err refuse.Opcode

-- a request by its row
unfoldable pub request_reading : Interface → ℕ → List ℕ → List ℕ → Result Message Refuse
request_reading i n tokens body = by_row i n tokens body (request_kinds i n)

-- an event by its row
unfoldable pub event_reading : Interface → ℕ → List ℕ → List ℕ → Result Message Refuse
event_reading i n tokens body = by_row i n tokens body (event_kinds i n)

-- what was returned is what this says
abbrev pub Gives : {X Y : Type 0} → (X → Y) → Result X Refuse → Result Y Refuse → Type 0
Gives view (Ok x) read = read ≡ Ok (view x)
Gives view (Err e) read = read ≡ Err e
