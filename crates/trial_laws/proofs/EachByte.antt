-- Lists of bytes: what is spelled, what texts are, and what stands in them.
use Rattle.std.proofs.Common.{◌≡◌, ℕ, zero, suc, ◌+◌, ◌*◌, ◌/◌, ◌%◌, ◌<◌, ◌≤◌, ltb, Bool, true, false, List, [], ◌∷◌, ◌++◌, length, take, drop, refl, subst, arith, inl, inr, ◌⊎◌}
use Rattle.std.specs.Prelude.{if◌then◌else◌}
use Rattle.std.specs.List.{AllByRecursion}
use Rattle.std.specs.Str.{encode_utf8_all}
use lib.Utf8.{scalar, scalars, encode, scalar_cases}
use Rattle.std.proofs.lemmas.Bool.{and_parts, ltb-true}
use Rattle.wl_wire.specs.Texts.{is_text, IsBytes}
use Rattle.wl_wire.specs.Messages.{messages, joined}
use Rattle.wl_wire.specs.Spelling.{word_bytes, text_bytes, zeros}
use Rattle.wl_wire.proofs.MessagesHoweverCut.{longest}
use Rattle.wl_wire.proofs.TextsKnown.{is_text-utf8}
use Rattle.wl_proto.specs.Grammar.{Value, word, signed, text, null, token}
use Rattle.wl_proto.specs.Spelling.{value_bytes, spelling, values_len, row_bytes, message_bytes}
use Rattle.wl_proto.specs.Rows.{Message}

abbrev pub IsByte : ℕ → Type 0
IsByte b = b < 256

abbrev pub EachByte : List ℕ → Type 0
EachByte bytes = AllByRecursion IsByte bytes

pub is_bytes : (bytes : List ℕ) → EachByte bytes → IsBytes bytes
is_bytes [] h i = omega arith
is_bytes (b ∷ bytes) h zero = h.0
is_bytes (b ∷ bytes) h (suc i) = is_bytes bytes h.1 i

pub each_byte : (bytes : List ℕ) → IsBytes bytes → EachByte bytes
each_byte [] h = tt
each_byte (b ∷ bytes) h = (h 0, each_byte bytes (λ i. h (suc i)))

pub both_bytes : (xs ys : List ℕ) → EachByte xs → EachByte ys → EachByte (xs ++ ys)
both_bytes [] ys h k = k
both_bytes (x ∷ xs) ys h k = (h.0, both_bytes xs ys h.1 k)

pub left_bytes : (xs ys : List ℕ) → EachByte (xs ++ ys) → EachByte xs
left_bytes [] ys h = tt
left_bytes (x ∷ xs) ys h = (h.0, left_bytes xs ys h.1)

pub right_bytes : (xs ys : List ℕ) → EachByte (xs ++ ys) → EachByte ys
right_bytes [] ys h = h
right_bytes (x ∷ xs) ys h = right_bytes xs ys h.1

pub take_bytes : (n : ℕ) (xs : List ℕ) → EachByte xs → EachByte (take n xs)
take_bytes zero xs h = tt
take_bytes (suc n) [] h = tt
take_bytes (suc n) (x ∷ xs) h = (h.0, take_bytes n xs h.1)

pub drop_bytes : (n : ℕ) (xs : List ℕ) → EachByte xs → EachByte (drop n xs)
drop_bytes zero xs h = h
drop_bytes (suc n) [] h = tt
drop_bytes (suc n) (x ∷ xs) h = drop_bytes n xs h.1

-- ---- messages

abbrev pub AllBytes : List (List ℕ) → Type 0
AllBytes ms = AllByRecursion EachByte ms

parts_bytes : (ms : List (List ℕ)) → EachByte (joined ms) → AllBytes ms
parts_bytes [] h = tt
parts_bytes (m ∷ ms) h = (left_bytes m (joined ms) h, parts_bytes ms (right_bytes m (joined ms) h))

pub messages_bytes : (bytes : List ℕ) → EachByte bytes → AllBytes (messages bytes)
messages_bytes bytes h =
    let l = longest bytes in
    parts_bytes (messages bytes) (left_bytes (joined (messages bytes)) l.rest (subst EachByte l.front h))

-- ---- what is spelled

word_each : (n : ℕ) → EachByte (word_bytes n)
word_each n = (omega arith, (omega arith, (omega arith, (omega arith, tt))))

zeros_each : (n : ℕ) → EachByte (zeros n)
zeros_each n = take_bytes _ (0 ∷ 0 ∷ 0 ∷ 0 ∷ []) (omega arith, (omega arith, (omega arith, (omega arith, tt))))

text_each : (t : List ℕ) → EachByte t → EachByte (text_bytes t)
unfolding text_bytes
text_each t h =
    both_bytes (word_bytes (length t + 1) ++ t) (zeros (length t))
    (both_bytes (word_bytes (length t + 1)) t (word_each _) h) (zeros_each (length t))

-- the text of a value is one of bytes
abbrev pub HasByteText : Value → Type 0
HasByteText (text t) = EachByte t
HasByteText _ = Unit {0}

value_each : (v : Value) → HasByteText v → EachByte (value_bytes v)
value_each (word n) h = word_each n
value_each (signed z) h = (omega arith, (omega arith, (omega arith, (omega arith, tt))))
value_each (text t) h = text_each t h
value_each null h = word_each 0
value_each (token n) h = tt

spelling_each : (vs : List Value) → AllByRecursion HasByteText vs → EachByte (spelling vs)
spelling_each [] h = tt
spelling_each (v ∷ vs) h = both_bytes (value_bytes v) (spelling vs) (value_each v h.0) (spelling_each vs h.1)

pub message_each : (id : ℕ) (m : Message) → AllByRecursion HasByteText m.values → EachByte (message_bytes id m)
unfolding row_bytes
message_each id m h =
    let head : List ℕ = word_bytes (65536 * (8 + values_len m.values) + m.opcode) in
    both_bytes (word_bytes id ++ head) (spelling m.values)
    (both_bytes (word_bytes id) head (word_each id) (word_each _)) (spelling_each m.values h)

-- ---- texts of the protocol

encode_each : (c : ℕ) → c < 1114112 → EachByte (encode c)
unfolding encode
encode_each c l = by (ltb c 128) (ltb c 2048) (ltb c 65536) refl refl refl
  where
    by : (a b d : Bool) → ltb c 128 ≡ a → ltb c 2048 ≡ b → ltb c 65536 ≡ d →
        EachByte (if a then c ∷ [] else (if b then (192 + c / 64) ∷ (128 + c % 64) ∷ []
        else (if d then (224 + c / 4096) ∷ (128 + c / 64 % 64) ∷ (128 + c % 64) ∷ []
        else (240 + c / 262144) ∷ (128 + c / 4096 % 64) ∷ (128 + c / 64 % 64) ∷ (128 + c % 64) ∷ [])))
    by true b d e f g = (let s : c < 128 = ltb-true c 128 e in (omega arith, tt))
    by false true d e f g = (let s : c < 2048 = ltb-true c 2048 f in (omega arith, (omega arith, tt)))
    by false false true e f g =
        (let s : c < 65536 = ltb-true c 65536 g in (omega arith, (omega arith, (omega arith, tt))))
    by false false false e f g = (omega arith, (omega arith, (omega arith, (omega arith, tt))))

scalar_low : (c : ℕ) → scalar c ≡ true → c < 1114112
scalar_low c e = by (scalar_cases c e)
  where
    by : (c < 55296) ⊎ ((57344 ≤ c) × (c < 1114112)) → c < 1114112
    by (inl h) = omega arith
    by (inr h) = h.1

encoded_each : (cs : List ℕ) → scalars cs ≡ true → EachByte (encode_utf8_all cs)
encoded_each [] h = tt
encoded_each (c ∷ cs) h =
    let parts = and_parts (scalar c) (scalars cs) h in
    both_bytes (encode c) (encode_utf8_all cs) (encode_each c (scalar_low c parts.0)) (encoded_each cs parts.1)

-- a text of the protocol is one of bytes
pub text_of_bytes : (t : List ℕ) → is_text t ≡ true → EachByte t
text_of_bytes t h = (let u = is_text-utf8 t h in subst EachByte u.1.1 (encoded_each u.0 u.1.0))
