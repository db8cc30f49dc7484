-- What is known of a text.
use Rattle.std.proofs.Common.{◌≡◌, ℕ, true, false, List, [], ◌∷◌, refl, arith}
use Rattle.std.specs.Prelude.{not, ◌==◌, ◌&&◌}
use Rattle.std.specs.Char.{is_ascii}
use Rattle.std.specs.Str.{IsUtf8, IsAscii, is_utf8}
use Rattle.std.proofs.lemmas.Str.{IsUtf8-from_is_utf8, is_utf8-from_IsUtf8, IsUtf8-nil}
use Rattle.std.proofs.lemmas.Str.{IsUtf8-from_ascii}
use Rattle.std.proofs.lemmas.Str.Ascii.{IsAscii-nil, IsAscii-cons}
use Rattle.std.proofs.lemmas.Bool.{and_parts, ltb-true}
use Rattle.wl_wire.specs.Texts.{has_no_zero, is_plain, is_text}

pub is_text-nil : is_text [] ≡ true
is_text-nil = rw (is_utf8-from_IsUtf8 [] IsUtf8-nil) refl

pub is_text-of : (t : List ℕ) → has_no_zero t ≡ true → IsUtf8 t → is_text t ≡ true
is_text-of t free utf8 = rw (free, is_utf8-from_IsUtf8 t utf8) refl

pub is_text-utf8 : (t : List ℕ) → is_text t ≡ true → IsUtf8 t
is_text-utf8 t h = IsUtf8-from_is_utf8 t (and_parts (has_no_zero t) (is_utf8 t) h).1

pub not_utf8 : (t : List ℕ) → (IsUtf8 t → ⊥) → is_utf8 t ≡ false
not_utf8 t wrong =
    elim (is_utf8 t) as
    (λ b. is_utf8 t ≡ b → b ≡ false) [ true ↦ λ is. absurd (wrong (IsUtf8-from_is_utf8 t is)) | false ↦ λ is. refl ]
    refl

pub is_text-not_utf8 : (t : List ℕ) → has_no_zero t ≡ true → (IsUtf8 t → ⊥) → is_text t ≡ false
is_text-not_utf8 t free wrong = rw (free, not_utf8 t wrong) refl

plain_parts : (b : ℕ) (t : List ℕ) → is_plain (b ∷ t) ≡ true → (not (b == 0) && is_ascii b ≡ true) × (is_plain t ≡ true)
plain_parts b t h = and_parts (not (b == 0) && is_ascii b) (is_plain t) h

plain_clean : (t : List ℕ) → is_plain t ≡ true → has_no_zero t ≡ true
plain_clean [] h = refl
plain_clean (b ∷ t) h =
    let parts = plain_parts b t h in
    rw ((and_parts (not (b == 0)) (is_ascii b) parts.0).0, plain_clean t parts.1) refl

plain_ascii : (t : List ℕ) → is_plain t ≡ true → IsAscii t
plain_ascii [] h = IsAscii-nil
plain_ascii (b ∷ t) h =
    let parts = plain_parts b t h in
    let small = ltb-true b 128 (and_parts (not (b == 0)) (is_ascii b) parts.0).1 in
    IsAscii-cons b t (omega (arith, small)) (plain_ascii t parts.1)

pub plain_utf8 : (t : List ℕ) → is_plain t ≡ true → IsUtf8 t
plain_utf8 t h = IsUtf8-from_ascii t (plain_ascii t h)

pub is_text-plain : (t : List ℕ) → is_plain t ≡ true → is_text t ≡ true
is_text-plain t h = is_text-of t (plain_clean t h) (plain_utf8 t h)
