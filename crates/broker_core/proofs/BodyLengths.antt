-- A message has as many bytes as its length says.
use Rattle.std.proofs.Common.{◌≡◌, ℕ, ◌+◌, ◌-◌, List, [], ◌∷◌, ◌++◌, length, arith, refl, length-append, length-take, map, sym, ap, ap₂, ◌∙◌, append_assoc, append-nil, Result, Ok, Err, ℤ, ◌≤◌, ◌<◌, false, cond, ltb, eqb, ◌&&◌, get_or, take, drop, Option, Some, None, inl, inr}
use Rattle.wl_proto.specs.Grammar.{Value, word, signed, text, token, string_value}
use Rattle.wl_proto.specs.Rows.{Message, request_kinds}
use Rattle.wl_proto.specs.Spelling.{value_len, values_len, row_bytes, message_len, message_bytes}
use Rattle.wl_proto.proofs.WrittenIsWhole.{spelling_length}
use Rattle.std.proofs.lemmas.List.{map-append, length-drop}
use Rattle.broker_model.specs.Groups.{Token, Piece, nothing, later, followed_by}
use Rattle.std.specs.Int.{w32, from_le_bytes, cast_signed}
use Rattle.std.proofs.lemmas.Bool.{ltb-false, eqb-false, cases_lt}
use Rattle.std.proofs.lemmas.Option.{cond_some}
use Rattle.wl_wire.specs.Texts.{is_text}
use Rattle.wl_wire.specs.Reading.{◌>>=◌, padded, word_at, int_at, text_at as text_behind, string_behind, string_at}
use Rattle.wl_wire.proofs.ArgumentsReadBack.{guard, some_is, bound, chosen}
use Rattle.wl_proto.specs.declared.interface.Interface.{Interface}
use Rattle.wl_proto.specs.declared.table.Kind.{Kind}
use Rattle.wl_proto.specs.declared.table.Kind.TheVariants.{Uint, Int, Object, NewId, Text, TextOrNull, Descriptor}
use Rattle.wl_proto.specs.declared.refuse.Refuse.{Refuse}
use Rattle.wl_proto.specs.Reading.{first_of, text_at, value_at, values_at, all_read, by_row, request_reading}

-- whether or not it is short enough to be written
pub message_length : (id : ℕ) (m : Message) → length (message_bytes id m) ≡ message_len m
unfolding row_bytes
message_length id m = omega (arith, spelling_length m.values)

-- Pieces one behind the other.

abbrev piece : List ℕ → List Token → Piece
piece bytes tokens = record { bytes = bytes; tokens = tokens }

-- tokens behind no bytes, and behind bytes and more bytes

later_none : (tokens : List Token) → map (later 0) tokens ≡ tokens
later_none [] = refl
later_none (t ∷ rest) =
    ap₂ (λ (n : ℕ) (l : List Token). record t { offset = n } ∷ l) {x = 0 + t.offset} {y = t.offset} (omega arith)
    (later_none rest)

later_twice : (m n : ℕ) (tokens : List Token) → map (later m) (map (later n) tokens) ≡ map (later (m + n)) tokens
later_twice m n [] = refl
later_twice m n (t ∷ rest) =
    ap₂ (λ (k : ℕ) (l : List Token). record t { offset = k } ∷ l) {x = m + (n + t.offset)} {y = (m + n) + t.offset}
    (omega arith) (later_twice m n rest)

-- nothing changes a piece, before it or behind it

pub behind_nothing : (a : Piece) → followed_by nothing a ≡ a
behind_nothing a = ap (λ (l : List Token). piece a.bytes l) (later_none a.tokens)

pub before_nothing : (a : Piece) → followed_by a nothing ≡ a
before_nothing a = ap₂ piece (append-nil a.bytes) (append-nil a.tokens)

-- the order of joining does not matter
pub followed_twice : (a b c : Piece) → followed_by (followed_by a b) c ≡ followed_by a (followed_by b c)
followed_twice a b c =
    let far : map (later (length (a.bytes ++ b.bytes))) c.tokens
    ≡ map (later (length a.bytes)) (map (later (length b.bytes)) c.tokens) =
    ap (λ (n : ℕ). map (later n) c.tokens) (length-append a.bytes b.bytes)
    ∙ sym (later_twice (length a.bytes) (length b.bytes) c.tokens) in
    ap₂ piece (append_assoc a.bytes b.bytes c.bytes)
    (append_assoc a.tokens (map (later (length a.bytes)) b.tokens) (map (later (length (a.bytes ++ b.bytes))) c.tokens)
    ∙ ap (λ (l : List Token). a.tokens ++ (map (later (length a.bytes)) b.tokens ++ l)) far
    ∙ ap (λ (l : List Token). a.tokens ++ l)
    (sym (map-append (later (length a.bytes)) b.tokens (map (later (length b.bytes)) c.tokens))))

-- The arguments that a body reads as are spelled by no more bytes than it has.

-- what is read and what is left have no more bytes than there were

word_takes : (bytes : List ℕ) (n : ℕ) (rest : List ℕ) → word_at bytes ≡ Some (n, rest) → 4 + length rest ≤ length bytes
unfolding word_at
word_takes bytes n rest e =
    let g = guard (ltb (length bytes) 4) (Some (from_le_bytes w32 (take 4 bytes), drop 4 bytes)) (n, rest) e in
    let long : 4 ≤ length bytes = ltb-false _ _ g.0 in
    let pair = some_is (from_le_bytes w32 (take 4 bytes), drop 4 bytes) (n, rest) g.1 in
    let left : length (drop 4 bytes) ≡ length rest = ap (λ (p : ℕ × List ℕ). length p.1) pair in
    omega (arith, length-drop 4 bytes)

abbrev as_int : ℕ × List ℕ → Option (ℤ × List ℕ)
as_int w = Some (cast_signed w32 w.0, w.1)

int_takes : (bytes : List ℕ) (z : ℤ) (rest : List ℕ) → int_at bytes ≡ Some (z, rest) → 4 + length rest ≤ length bytes
unfolding int_at
int_takes bytes z rest e =
    let (w, was, made) = bound (word_at bytes) as_int (z, rest) e in
    let left : length w.1 ≡ length rest =
    ap (λ (p : ℤ × List ℕ). length p.1) (some_is (cast_signed w32 w.0, w.1) (z, rest) made) in
    omega (arith, word_takes bytes w.0 w.1 was)

text_takes : (len : ℕ) (bytes t rest : List ℕ) → 0 < len → text_behind len bytes ≡ Some (t, rest) →
    value_len (text t) + length rest ≤ 4 + length bytes
unfolding text_behind
text_takes len bytes t rest some e =
    let k = len - 1 in
    let body = take k bytes in
    let test = eqb (get_or bytes k 0) 0 && is_text body in
    let g = guard (ltb (length bytes) (padded len)) (cond test (Some (body, drop (padded len) bytes)) None)
    (t, rest) e in
    let (passed, pair) = cond_some test (body, drop (padded len) bytes) (t, rest) g.1 in
    let long : padded len ≤ length bytes = ltb-false _ _ g.0 in
    let size : length body ≡ length t = ap (λ (p : List ℕ × List ℕ). length p.0) pair in
    let left : length (drop (padded len) bytes) ≡ length rest = ap (λ (p : List ℕ × List ℕ). length p.1) pair in
    omega (arith, length-take k bytes, length-drop (padded len) bytes)

abbrev kept : List ℕ × List ℕ → Option (Option (List ℕ) × List ℕ)
kept t = Some (Some t.0, t.1)

pos_of : (n : ℕ) → eqb n 0 ≡ false → 0 < n
pos_of n e = let no = eqb-false n 0 e in elim (cases_lt 0 n) [ inl lt ↦ lt | inr le ↦ absurd (no (omega arith)) ]

string_takes : (bytes : List ℕ) (s : Option (List ℕ)) (rest : List ℕ) → string_at bytes ≡ Some (s, rest) →
    value_len (string_value s) + length rest ≤ length bytes
unfolding string_at string_behind
string_takes bytes s rest e =
    let (w, was, then) = bound (word_at bytes) (λ w. string_behind w.0 w.1) (s, rest) e in
    let first : 4 + length w.1 ≤ length bytes = word_takes bytes w.0 w.1 was in
    elim (chosen (eqb w.0 0) (Some (None, w.1)) (text_behind w.0 w.1 >>= kept) (Some (s, rest)) then) [
      | inl h ↦
          (let size : value_len (string_value None) + length w.1 ≡ value_len (string_value s) + length rest =
          ap (λ (p : Option (List ℕ) × List ℕ). value_len (string_value p.0) + length p.1)
          (some_is (None, w.1) (s, rest) h.1) in
          omega arith)
      | inr h ↦ behind w.0 w.1 (pos_of w.0 h.0) h.1 first
    ]
  where
    behind : (len : ℕ) (left : List ℕ) → 0 < len → (text_behind len left >>= kept) ≡ Some (s, rest) →
        4 + length left ≤ length bytes →
        value_len (string_value s) + length rest ≤ length bytes
    behind len left some e first =
        let (t, was, made) = bound (text_behind len left) kept (s, rest) e in
        let size : value_len (text t.0) + length t.1 ≡ value_len (string_value s) + length rest =
        ap (λ (p : Option (List ℕ) × List ℕ). value_len (string_value p.0) + length p.1)
        (some_is (Some t.0, t.1) (s, rest) made) in
        let within : value_len (text t.0) + length t.1 ≤ 4 + length left = text_takes len left t.0 t.1 some was in
        omega arith

abbrev not_null : Option (List ℕ) × List ℕ → Option (List ℕ × List ℕ)
not_null s = s.0 >>= (λ t. Some (t, s.1))

not_null_takes : (n : ℕ) (o : Option (List ℕ)) (left t rest : List ℕ) → not_null (o, left) ≡ Some (t, rest) →
    value_len (string_value o) + length left ≤ n → value_len (text t) + length rest ≤ n
not_null_takes n None left t rest e h = absurd cc
not_null_takes n (Some u) left t rest e h =
    let size : value_len (text u) + length left ≡ value_len (text t) + length rest =
    ap (λ (p : List ℕ × List ℕ). value_len (text p.0) + length p.1) (some_is (u, left) (t, rest) e) in
    omega arith

text_at_takes : (bytes t rest : List ℕ) → text_at bytes ≡ Some (t, rest) →
    value_len (text t) + length rest ≤ length bytes
unfolding text_at
text_at_takes bytes t rest e =
    let (s, was, made) = bound (string_at bytes) not_null (t, rest) e in
    not_null_takes (length bytes) s.0 s.1 t rest made (string_takes bytes s.0 s.1 was)

abbrev At : Type 0
At = Value × List ℕ

abbrev size_of : At → ℕ
size_of p = value_len p.0 + length p.1

abbrev as_word : ℕ × List ℕ → Option At
as_word w = Some (word w.0, w.1)

abbrev as_signed : ℤ × List ℕ → Option At
as_signed w = Some (signed w.0, w.1)

abbrev as_text : List ℕ × List ℕ → Option At
as_text t = Some (text t.0, t.1)

abbrev as_string : Option (List ℕ) × List ℕ → Option At
as_string s = Some (string_value s.0, s.1)

word_value : (bytes : List ℕ) (v : Value) (rest : List ℕ) → (word_at bytes >>= as_word) ≡ Some (v, rest) →
    value_len v + length rest ≤ length bytes
word_value bytes v rest e =
    let (w, was, made) = bound (word_at bytes) as_word (v, rest) e in
    let size : 4 + length w.1 ≡ value_len v + length rest = ap size_of (some_is (word w.0, w.1) (v, rest) made) in
    omega (arith, word_takes bytes w.0 w.1 was)

value_takes : (tokens : List ℕ) (k : Kind) (bytes : List ℕ) (v : Value) (rest : List ℕ) →
    value_at tokens k bytes ≡ Some (v, rest) →
    value_len v + length rest ≤ length bytes
value_takes tokens Uint bytes v rest e = word_value bytes v rest e
value_takes tokens Object bytes v rest e = word_value bytes v rest e
value_takes tokens NewId bytes v rest e = word_value bytes v rest e
value_takes tokens Int bytes v rest e =
    let (w, was, made) = bound (int_at bytes) as_signed (v, rest) e in
    let size : 4 + length w.1 ≡ value_len v + length rest = ap size_of (some_is (signed w.0, w.1) (v, rest) made) in
    omega (arith, int_takes bytes w.0 w.1 was)
value_takes tokens Text bytes v rest e =
    let (t, was, made) = bound (text_at bytes) as_text (v, rest) e in
    let size : value_len (text t.0) + length t.1 ≡ value_len v + length rest =
    ap size_of (some_is (text t.0, t.1) (v, rest) made) in
    let within : value_len (text t.0) + length t.1 ≤ length bytes = text_at_takes bytes t.0 t.1 was in
    omega arith
value_takes tokens TextOrNull bytes v rest e =
    let (s, was, made) = bound (string_at bytes) as_string (v, rest) e in
    let size : value_len (string_value s.0) + length s.1 ≡ value_len v + length rest =
    ap size_of (some_is (string_value s.0, s.1) (v, rest) made) in
    let within : value_len (string_value s.0) + length s.1 ≤ length bytes = string_takes bytes s.0 s.1 was in
    omega arith
value_takes tokens Descriptor bytes v rest e =
    let f : ℕ → Option At = λ t. Some (token t, bytes) in
    let (t, was, made) = bound (first_of tokens) f (v, rest) e in
    let size : 0 + length bytes ≡ value_len v + length rest = ap size_of (some_is (token t, bytes) (v, rest) made) in
    omega arith

values_take : (tokens : List ℕ) (ks : List Kind) (bytes : List ℕ) (vs : List Value) →
    values_at tokens ks bytes ≡ Some vs → values_len vs ≤ length bytes
values_take tokens [] bytes vs e =
    let (none, is) = cond_some (eqb (length bytes) 0) [] vs e in
    let size : 0 ≡ values_len vs = ap values_len is in
    omega arith
values_take tokens (k ∷ ks) bytes vs e =
    let more : At → Option (List Value) = λ v. values_at tokens ks v.1 >>= (λ ws. Some (v.0 ∷ ws)) in
    let (v, was, then) = bound (value_at tokens k bytes) more vs e in
    let with : List Value → Option (List Value) = λ ws. Some (v.0 ∷ ws) in
    let (ws, were, made) = bound (values_at tokens ks v.1) with vs then in
    let first : value_len v.0 + length v.1 ≤ length bytes = value_takes tokens k bytes v.0 v.1 was in
    let others : values_len ws ≤ length v.1 = values_take tokens ks v.1 ws were in
    let size : value_len v.0 + values_len ws ≡ values_len vs = ap values_len (some_is (v.0 ∷ ws) vs made) in
    omega arith

-- the arguments that were read take at most n bytes
abbrev pub IsReadWithin : ℕ → Result Message Refuse → Type 0
IsReadWithin n (Ok m) = values_len m.values ≤ n
IsReadWithin n (Err r) = Unit {0}

all_within : (i : Interface) (opcode n : ℕ) (o : Option (List Value)) →
    ((vs : List Value) → o ≡ Some vs → values_len vs ≤ n) →
    IsReadWithin n (all_read i opcode o)
all_within i opcode n (Some vs) h = h vs refl
all_within i opcode n None h = tt

row_within : (i : Interface) (opcode : ℕ) (tokens body : List ℕ) (kinds : Option (List Kind)) →
    IsReadWithin (length body) (by_row i opcode tokens body kinds)
row_within i opcode tokens body (Some ks) =
    all_within i opcode (length body) (values_at tokens ks body) (λ vs e. values_take tokens ks body vs e)
row_within i opcode tokens body None = tt

-- a request reads as no more than its body has
pub request_within : (i : Interface) (opcode : ℕ) (tokens body : List ℕ) →
    IsReadWithin (length body) (request_reading i opcode tokens body)
unfolding request_reading
request_within i opcode tokens body = row_within i opcode tokens body (request_kinds i opcode)
