-- The kinds of words after a line's first: each is read as the value that it spells, and as no other.
use Rattle.std.proofs.Common.{◌≡◌, ℕ, ◌*◌, ◌+◌, ◌^◌, ◌<◌, ◌≤◌, Bool, true, leb, ◌&&◌, List, length, Option, Some, None, refl, subst, arith}
use Rattle.std.specs.Prelude.{codes, IsTrue}
use Rattle.std.specs.Fmt.{decimal, signed_decimal}
use Rattle.std.proofs.lemmas.Bool.{and_parts, leb-true, le-leb}
use Rattle.std.proofs.lemmas.Fmt.{length-decimal-le, length_signed_le}
use lib.IntN.{ℤ, pos, negsuc}
use Rattle.relay_model.specs.declared.role.Role.{Role}
use Rattle.relay_model.specs.declared.role.Role.TheVariants.{App, Method, Keyed}
use Rattle.broker_steps.specs.Ranges.{is_size}
use Rattle.session_text.specs.Words.{IsTextWithin, IsBytesWithin, fits_i32, hex_word, role_word, number_of, long_number_of, signed_of, size_of, state_of, text_of, bytes_of, count_of, role_of}
use Rattle.broker_steps.specs.Ranges.{IsWithin}
use Rattle.session_text.proofs.TestsLetThrough.{arm, kept_some}
use Rattle.session_text.proofs.WrittenNumbers.{number_sound, number_complete, signed_sound, signed_complete, mag_i32}
use Rattle.session_text.proofs.LongNumbers.{long_sound, long_complete}
use Rattle.session_text.proofs.WordsAreTexts.{text_sound, text_complete, bytes_sound, bytes_complete, length-hex_word}
use Rattle.session_text.proofs.LinesSplit.{lacks, IsOutside, space, zero, decimal_lacks, signed_lacks, hex_lacks}

pub record Kind {A : Type 0} (read : List ℕ → Option A) (spell : A → List ℕ) (Is : A → Type 0) (most : ℕ) : Type 0 where
  pub sound : (word : List ℕ) (x : A) → read word ≡ Some x → Is x × (word ≡ spell x)
  pub complete : (x : A) → Is x → read (spell x) ≡ Some x
  pub spaceless : (x : A) → Is x → lacks 32 (spell x) ≡ true
  pub zeroless : (x : A) → Is x → lacks 0 (spell x) ≡ true
  pub short : (x : A) → Is x → length (spell x) ≤ most

pub numbers : Kind number_of decimal (λ n. n < 2 ^ 32) 10
numbers = record {
  sound = number_sound;
  complete = number_complete;
  spaceless = λ n h. decimal_lacks 32 space n (omega arith);
  zeroless = λ n h. decimal_lacks 0 zero n (omega arith);
  short = λ n h. length-decimal-le 10 n (omega arith) (omega arith) (omega arith);
}

signed_short : (z : ℤ) → fits_i32 z ≡ true → length (signed_decimal z) ≤ 11
signed_short z h = let small = mag_i32 z h in length_signed_le 10 z (omega (arith, small)) (omega (arith, small))

signed_clean : (b : ℕ) → IsOutside b → (z : ℤ) → fits_i32 z ≡ true → lacks b (signed_decimal z) ≡ true
signed_clean b out z h = let small = mag_i32 z h in signed_lacks b out z (omega (arith, small))

pub long_numbers : Kind long_number_of decimal (λ n. n < 2 ^ 64) 20
long_numbers = record {
  sound = long_sound;
  complete = long_complete;
  spaceless = λ n h. decimal_lacks 32 space n h;
  zeroless = λ n h. decimal_lacks 0 zero n h;
  short = λ n h. length-decimal-le 20 n (omega arith) (omega arith) h;
}

pub signeds : Kind signed_of signed_decimal (λ z. IsTrue (fits_i32 z)) 11
signeds = record {
  sound = signed_sound;
  complete = signed_complete;
  spaceless = signed_clean 32 space;
  zeroless = signed_clean 0 zero;
  short = signed_short;
}

is_size_fits : (z : ℤ) → is_size z ≡ true → fits_i32 z ≡ true
is_size_fits (pos n) h = h
is_size_fits (negsuc n) h = cc

size_sound : (word : List ℕ) (z : ℤ) → size_of word ≡ Some z → (is_size z ≡ true) × (word ≡ signed_decimal z)
unfolding size_of
size_sound word z e = let (is, passes) = kept_some is_size (signed_of word) z e in (passes, (signed_sound word z is).1)

size_complete : (z : ℤ) → is_size z ≡ true → size_of (signed_decimal z) ≡ Some z
unfolding size_of
size_complete z h = rw (signed_complete z (is_size_fits z h), h) refl

pub sizes : Kind size_of signed_decimal (λ z. IsTrue (is_size z)) 11
sizes = record {
  sound = size_sound;
  complete = size_complete;
  spaceless = λ z h. signed_clean 32 space z (is_size_fits z h);
  zeroless = λ z h. signed_clean 0 zero z (is_size_fits z h);
  short = λ z h. signed_short z (is_size_fits z h);
}

state_sound : (word : List ℕ) (n : ℕ) → state_of word ≡ Some n → (n ≤ 1) × (word ≡ decimal n)
unfolding state_of
state_sound word n e = let (is, passes) =
    kept_some (λ n. leb n 1) (number_of word) n e in (leb-true n 1 passes, (number_sound word n is).1)

state_complete : (n : ℕ) → n ≤ 1 → state_of (decimal n) ≡ Some n
unfolding state_of
state_complete n h = rw (number_complete n (omega arith), le-leb n 1 h) refl

pub states : Kind state_of decimal (λ n. n ≤ 1) 10
states = record {
  sound = state_sound;
  complete = state_complete;
  spaceless = λ n h. decimal_lacks 32 space n (omega arith);
  zeroless = λ n h. decimal_lacks 0 zero n (omega arith);
  short = λ n h. length-decimal-le 10 n (omega arith) (omega arith) (omega arith);
}

pub texts : (limit : ℕ) → Kind (text_of limit) hex_word (IsTextWithin limit) (2 * limit + 1)
texts limit = record {
  sound = text_sound limit;
  complete = text_complete limit;
  spaceless = λ t h. hex_lacks 32 space t h.0.1;
  zeroless = λ t h. hex_lacks 0 zero t h.0.1;
  short = λ t h. length-hex_word limit t h.1;
}

pub pieces : (limit : ℕ) → Kind (bytes_of limit) hex_word (IsBytesWithin limit) (2 * limit + 1)
pieces limit = record {
  sound = bytes_sound limit;
  complete = bytes_complete limit;
  spaceless = λ t h. hex_lacks 32 space t h.0;
  zeroless = λ t h. hex_lacks 0 zero t h.0;
  short = λ t h. length-hex_word limit t h.2;
}

count_sound : (most : ℕ) (word : List ℕ) (n : ℕ) → count_of most word ≡ Some n → IsWithin most n × (word ≡ decimal n)
unfolding count_of
count_sound most word n e =
    let (is, passes) = kept_some (λ n. leb 1 n && leb n most) (number_of word) n e in
    let (low, high) = and_parts (leb 1 n) (leb n most) passes in
    ((leb-true 1 n low, leb-true n most high), (number_sound word n is).1)

count_complete : (most : ℕ) → most < 2 ^ 32 → (n : ℕ) → IsWithin most n → count_of most (decimal n) ≡ Some n
unfolding count_of
count_complete most small n h = rw (number_complete n (omega arith), le-leb 1 n h.0, le-leb n most h.1) refl

pub counts : (most : ℕ) → most < 2 ^ 32 → Kind (count_of most) decimal (IsWithin most) 10
counts most small = record {
  sound = count_sound most;
  complete = count_complete most small;
  spaceless = λ n h. decimal_lacks 32 space n (omega arith);
  zeroless = λ n h. decimal_lacks 0 zero n (omega arith);
  short = λ n h. length-decimal-le 10 n (omega arith) (omega arith) (omega arith);
}

role_sound : (word : List ℕ) (role : Role) → role_of word ≡ Some role → Unit {0} × (word ≡ role_word role)
unfolding role_of
role_sound word role e =
    arm word (codes "app") (Some App) _ role e
    (λ is one. let same : App ≡ role = cc in subst (λ r. Unit {0} × (word ≡ role_word r)) same (tt, is)) (λ e.
    arm word (codes "method") (Some Method) _ role e
    (λ is one. let same : Method ≡ role = cc in subst (λ r. Unit {0} × (word ≡ role_word r)) same (tt, is)) (λ e.
    arm word (codes "keyed") (Some Keyed) None role e
    (λ is one. let same : Keyed ≡ role = cc in subst (λ r. Unit {0} × (word ≡ role_word r)) same (tt, is))
    (λ e. absurd (cc e))))

role_complete : (role : Role) → Unit {0} → role_of (role_word role) ≡ Some role
unfolding role_of
role_complete App h = refl
role_complete Method h = refl
role_complete Keyed h = refl

-- no name of a role has the byte
abbrev all_lack : ℕ → Bool
all_lack b = lacks b (codes "app") && (lacks b (codes "method") && lacks b (codes "keyed"))

role_clean : (b : ℕ) → all_lack b ≡ true → (role : Role) → Unit {0} → lacks b (role_word role) ≡ true
role_clean b test role h = by role (and_parts (lacks b (codes "app")) _ test)
  where
    by : (r : Role) → (lacks b (codes "app") ≡ true) × ((lacks b (codes "method") && lacks b (codes "keyed")) ≡ true) →
        lacks b (role_word r) ≡ true
    by App each = each.0
    by Method each = (and_parts (lacks b (codes "method")) (lacks b (codes "keyed")) each.1).0
    by Keyed each = (and_parts (lacks b (codes "method")) (lacks b (codes "keyed")) each.1).1

role_short : (role : Role) → Unit {0} → length (role_word role) ≤ 6
role_short App h = omega arith
role_short Method h = omega arith
role_short Keyed h = omega arith

pub roles : Kind role_of role_word (λ role. Unit {0}) 6
roles = record {
  sound = role_sound;
  complete = role_complete;
  spaceless = role_clean 32 refl;
  zeroless = role_clean 0 refl;
  short = role_short;
}
