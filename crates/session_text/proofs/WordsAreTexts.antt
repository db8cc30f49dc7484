-- A word reads as the text or the bytes that it spells, and as no other.
use Rattle.std.proofs.Common.{◌≡◌, ℕ, ◌*◌, ◌+◌, ◌≤◌, true, false, ◌&&◌, List, [], ◌∷◌, length, Some, Result, Ok, Err, sym, refl, ap, subst, arith, lit<}
use Rattle.std.specs.Prelude.{codes, nat_lt, nat_le}
use Rattle.std.specs.Str.{bytes_eq}
use Rattle.std.proofs.lemmas.Bool.{and_parts, lt-ltb, leb-true, le-leb}
use Rattle.std.proofs.lemmas.Option.{cond_some}
use Rattle.std.proofs.lemmas.Slice.Eq.{bytes_eq-Decides}
use Rattle.std.proofs.lemmas.Str.{is_utf8-from_IsUtf8, IsUtf8-nil}
use Rattle.hex.specs.Hex.{encode_lower, lower_digits, decode_of}
use Rattle.hex.specs.declared.error.FromHexError.{FromHexError}
use Rattle.hex.proofs.HexLemmas.{decode_of-encode_lower, decode_of-ok, length-encode_with}
use Rattle.wl_wire.specs.Texts.{is_text}
use Rattle.session_text.specs.Words.{text_of, bytes_of, decoded, hex_word, kept, IsTextWithin, IsBytesWithin}
use Rattle.session_text.proofs.TestsLetThrough.{arm, kept_some}

decoded_sound : (limit : ℕ) (word t : List ℕ) (r : Result (List ℕ) FromHexError) → decode_of word ≡ r →
    decoded limit word r ≡ Some t → IsBytesWithin limit t × (word ≡ hex_word t)
decoded_sound limit word t (Err d) is e = cc
decoded_sound limit word t (Ok []) is e = cc
decoded_sound limit word t (Ok (b ∷ bytes)) is e =
    let some = nat_lt 0 (length (b ∷ bytes)) in
    let within = nat_le (length (b ∷ bytes)) limit in
    let (all, same) = cond_some (some && within && bytes_eq (encode_lower (b ∷ bytes)) word) (b ∷ bytes) t e in
    let (front, printed) = and_parts (some && within) (bytes_eq (encode_lower (b ∷ bytes)) word) all in
    let (_, fits) = and_parts some within front in
    subst (λ v. IsBytesWithin limit v × (word ≡ hex_word v)) same (
      ((decode_of-ok word (b ∷ bytes) is).3, omega arith, leb-true (length (b ∷ bytes)) limit fits),
      sym ((bytes_eq-Decides (encode_lower (b ∷ bytes)) word).0 printed),
    )

pub bytes_sound : (limit : ℕ) (word t : List ℕ) → bytes_of limit word ≡ Some t →
    IsBytesWithin limit t × (word ≡ hex_word t)
unfolding bytes_of
bytes_sound limit word t e = decoded_sound limit word t (decode_of word) refl e

pub bytes_complete : (limit : ℕ) (t : List ℕ) → IsBytesWithin limit t → bytes_of limit (hex_word t) ≡ Some t
unfolding bytes_of
bytes_complete limit [] h = absurd (omega arith)
bytes_complete limit (b ∷ bytes) h =
    let decodes = decode_of-encode_lower (b ∷ bytes) h.0 in
    let same : bytes_eq (encode_lower (b ∷ bytes)) (encode_lower (b ∷ bytes)) ≡ true =
    (bytes_eq-Decides (encode_lower (b ∷ bytes)) (encode_lower (b ∷ bytes))).1 refl in
    let some : nat_lt 0 (length (b ∷ bytes)) ≡ true = lt-ltb 0 (length (b ∷ bytes)) (omega arith) in
    let within : nat_le (length (b ∷ bytes)) limit ≡ true = le-leb (length (b ∷ bytes)) limit h.2 in
    rw (decodes, within, same, some) refl

pub is_text_nil : is_text [] ≡ true
is_text_nil = is_utf8-from_IsUtf8 [] IsUtf8-nil

pub text_sound : (limit : ℕ) (word t : List ℕ) → text_of limit word ≡ Some t →
    IsTextWithin limit t × (word ≡ hex_word t)
unfolding text_of
text_sound limit word t e =
    arm word (codes "-") (Some []) (kept is_text (bytes_of limit word)) t e
    (λ is f. let empty : [] ≡ t = cc in
    subst (λ v. IsTextWithin limit v × (word ≡ hex_word v)) empty (((is_text_nil, λ i. lit< tt), omega arith), is))
    (λ f.
    let (read, clean) = kept_some is_text (bytes_of limit word) t f in
    let known = bytes_sound limit word t read in
    (((clean, known.0.0), known.0.2), known.1))

-- the hex of a byte or more is no dash
not_dash : (b : ℕ) (bytes : List ℕ) → bytes_eq (encode_lower (b ∷ bytes)) (codes "-") ≡ false
not_dash b bytes =
    elim (bytes_eq (encode_lower (b ∷ bytes)) (codes "-")) as
    (λ v. bytes_eq (encode_lower (b ∷ bytes)) (codes "-") ≡ v → v ≡ false) [
      | true ↦ λ is. let len = ap length ((bytes_eq-Decides (encode_lower (b ∷ bytes)) (codes "-")).0 is) in
          absurd (omega (arith, len, length-encode_with lower_digits (b ∷ bytes)))
      | false ↦ λ is. refl
    ] refl

pub text_complete : (limit : ℕ) (t : List ℕ) → IsTextWithin limit t → text_of limit (hex_word t) ≡ Some t
unfolding text_of
text_complete limit [] h = refl
text_complete limit (b ∷ bytes) h =
    let read : bytes_of limit (encode_lower (b ∷ bytes)) ≡ Some (b ∷ bytes) =
    bytes_complete limit (b ∷ bytes) (h.0.1, omega arith, h.1) in
    rw (not_dash b bytes, read, h.0.0) refl

pub length-hex_word : (limit : ℕ) (t : List ℕ) → length t ≤ limit → length (hex_word t) ≤ 2 * limit + 1
length-hex_word limit [] h = omega arith
length-hex_word limit (b ∷ bytes) h = omega (arith, h, length-encode_with lower_digits (b ∷ bytes))
