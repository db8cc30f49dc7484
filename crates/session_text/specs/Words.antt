-- The words of a line: decimal numbers, hex texts and bytes, and what each word reads as.
use Rattle.std.specs.Prelude.{◌≡◌, ℕ, zero, suc, ℤ, pos, negsuc, ◌-◌, ◌^◌, ◌≤◌, ◌&&◌, Bool, nat_lt, nat_le, if◌then◌else◌, List, [], ◌∷◌, length, get_or, codes, IsTrue, Option, Some, None, Result, Ok, Err}
use Rattle.std.specs.Str.{bytes_eq}
use Rattle.std.specs.Str.Parse.{digits_value, signed_digits_value}
use Rattle.std.specs.Fmt.{decimal, signed_decimal}
use Rattle.hex.specs.Hex.{encode_lower, decode_of}
use Rattle.hex.specs.declared.error.FromHexError.{FromHexError}
use Rattle.popup_place.specs.declared.geometry.Rect.{Rect}
use Rattle.popup_place.specs.declared.geometry.Size.{Size}
use Rattle.wl_wire.specs.Texts.{IsBytes, IsText, is_text}
use Rattle.broker_steps.specs.Ranges.{is_size}
use Rattle.relay_model.specs.declared.role.Role.{Role}
use Rattle.relay_model.specs.declared.role.Role.TheVariants.{App, Method, Keyed}

-- the most bytes of a text that stands alone in its request (zwp_input_method_v2.commit_string)
abbrev pub text_limit : ℕ
text_limit = 4083

-- the most bytes of a text that two numbers follow in its request
-- (zwp_text_input_v3.set_surrounding_text, zwp_input_method_v2.set_preedit_string)
abbrev pub cursor_text_limit : ℕ
cursor_text_limit = 4075

-- a text of at most so many bytes
abbrev pub IsTextWithin : ℕ → List ℕ → Type 0
IsTextWithin limit text = IsText text × (length text ≤ limit)

-- from one to so many bytes
abbrev pub IsBytesWithin : ℕ → List ℕ → Type 0
IsBytesWithin limit bytes = IsBytes bytes × (1 ≤ length bytes) × (length bytes ≤ limit)

-- the number has 32 bits and a sign
abbrev pub fits_i32 : ℤ → Bool
fits_i32 (pos n) = nat_lt n (2 ^ 31)
fits_i32 (negsuc n) = nat_lt n (2 ^ 31)

abbrev pub rect : ℤ → ℤ → ℤ → ℤ → Rect
rect x y w h = record { x = x; y = y; width = w; height = h }

abbrev pub size : ℤ → ℤ → Size
size w h = record { width = w; height = h }

abbrev pub rect_words : Rect → List (List ℕ)
rect_words rect =
    signed_decimal rect.x ∷ signed_decimal rect.y ∷ signed_decimal rect.width
    ∷ signed_decimal rect.height ∷ []

-- each number of the rectangle has 32 bits and a sign
abbrev pub IsRect : Rect → Type 0
IsRect rect =
    IsTrue (fits_i32 rect.x) × IsTrue (fits_i32 rect.y) × IsTrue (fits_i32 rect.width)
    × IsTrue (fits_i32 rect.height)

-- the same, and the size isn't negative
abbrev pub IsArea : Rect → Type 0
IsArea rect =
    IsTrue (fits_i32 rect.x) × IsTrue (fits_i32 rect.y) × IsTrue (is_size rect.width)
    × IsTrue (is_size rect.height)

abbrev pub role_word : Role → List ℕ
role_word App = codes "app"
role_word Method = codes "method"
role_word Keyed = codes "keyed"

-- a text or bytes as a word: pairs of lower-case hex digits, or a dash where there are none
abbrev pub hex_word : List ℕ → List ℕ
hex_word [] = codes "-"
hex_word (b ∷ bytes) = encode_lower (b ∷ bytes)

-- the value that the word has, if the test takes it and the word is what is printed of it, with no
-- sign and no zero too many
abbrev pub printed : {X : Type 0} → (List ℕ → X) → (X → Bool) → (X → List ℕ) → List ℕ → Option X
printed value test print word =
    if test (value word) && bytes_eq (print (value word)) word then Some (value word) else None

-- the number below 2 ^ 32 that is written so
unfoldable pub number_of : List ℕ → Option ℕ
number_of word = printed (digits_value 10) (λ n. nat_lt n (2 ^ 32)) decimal word

-- the number below 2 ^ 64 that is written so
unfoldable pub long_number_of : List ℕ → Option ℕ
long_number_of word = printed (digits_value 10) (λ n. nat_lt n (2 ^ 64)) decimal word

-- the number of 32 bits with a sign that is written so
unfoldable pub signed_of : List ℕ → Option ℤ
signed_of word = printed (signed_digits_value 10) fits_i32 signed_decimal word

-- from one to so many bytes, of which the first is no zero in front of others
abbrev pub IsPlain : ℕ → List ℕ → Type 0
IsPlain most word =
    (1 ≤ length word) × (length word ≤ most) × (get_or word 0 0 ≡ 48 → length word ≡ 1)

-- the number, if it has 64 bits
abbrev pub long_of : ℕ → Option ℕ
long_of n = (if nat_lt n (2 ^ 64) then Some n else None)

-- the number, if it has 32 bits
abbrev pub unsigned_of : ℕ → Option ℕ
unsigned_of n = (if nat_lt n (2 ^ 32) then Some n else None)

-- the number above zero or zero, if it has 32 bits with a sign
abbrev pub positive_of : ℕ → Option ℤ
positive_of n = (if nat_lt n (2 ^ 31) then Some (pos n) else None)

-- the number below zero with so many units, if it has 32 bits
abbrev pub negative_of : ℕ → Option ℤ
negative_of zero = None
negative_of (suc units) = (if nat_lt units (2 ^ 31) then Some (negsuc units) else None)

-- what the rest makes of the word's value, if it has one
infixl 10 ◌>>=◌
abbrev pub ◌>>=◌ : {A B : Type 0} → Option A → (A → Option B) → Option B
None >>= f = None
(Some x) >>= f = f x

abbrev pub kept : {A : Type 0} → (A → Bool) → Option A → Option A
kept test None = None
kept test (Some x) = (if test x then Some x else None)

-- the size that is written so
unfoldable pub size_of : List ℕ → Option ℤ
size_of word = kept is_size (signed_of word)

-- the state of a key that is written so: 0 for released, 1 for pressed
unfoldable pub state_of : List ℕ → Option ℕ
state_of word = kept (λ n. nat_le n 1) (number_of word)

-- the number from 1 to the greatest that is written so
unfoldable pub count_of : ℕ → List ℕ → Option ℕ
count_of most word = kept (λ n. nat_le 1 n && nat_le n most) (number_of word)

-- the numbers that the words are
unfoldable pub numbers_of : List (List ℕ) → Option (List ℕ)
numbers_of [] = Some []
numbers_of (word ∷ words) = number_of word >>= (λ n. numbers_of words >>= (λ ns. Some (n ∷ ns)))

-- the role that is written so
unfoldable pub role_of : List ℕ → Option Role
role_of word =
    if bytes_eq word (codes "app") then Some App
    else if bytes_eq word (codes "method") then Some Method
    else if bytes_eq word (codes "keyed") then Some Keyed else None

abbrev pub decoded : ℕ → List ℕ → Result (List ℕ) FromHexError → Option (List ℕ)
decoded limit word (Ok bytes) =
    if nat_lt 0 (length bytes) && nat_le (length bytes) limit && bytes_eq (encode_lower bytes) word
    then Some bytes else None
decoded limit word (Err e) = None

-- the value of a digit in lower case; 256 for any other byte
abbrev pub value_of : ℕ → ℕ
value_of c =
    if nat_le 48 c && nat_le c 57 then c - 48 else if nat_le 97 c && nat_le c 102 then c - 87
    else 256

-- the bytes, from one to so many, that are written so
unfoldable pub bytes_of : ℕ → List ℕ → Option (List ℕ)
bytes_of limit word = decoded limit word (decode_of word)

-- the text of at most so many bytes that is written so
unfoldable pub text_of : ℕ → List ℕ → Option (List ℕ)
text_of limit word =
    if bytes_eq word (codes "-") then Some [] else kept is_text (bytes_of limit word)
