-- The words that only scripts have: numbers of fields, texts of keys, and keys.
use Rattle.std.specs.Prelude.{ℕ, ◌≤◌, nat_le, List, [], ◌∷◌, length, Option, Some}
use Rattle.session_text.specs.Words.{◌>>=◌, kept, number_of, count_of, text_of, IsTextWithin}

-- the most fields of a trial
abbrev pub field_limit : ℕ
field_limit = 16

-- the longest text of a key or of a sequence of keys, in bytes
abbrev pub key_text_limit : ℕ
key_text_limit = 64

-- the most keys of a sequence
abbrev pub key_limit : ℕ
key_limit = 8

-- the most keys of a word
abbrev pub word_key_limit : ℕ
word_key_limit = 16

-- the highest number that a key chooses
abbrev pub choice_limit : ℕ
choice_limit = 9

-- a text of 1 to 64 bytes
abbrev pub IsKeyWord : List ℕ → Type 0
IsKeyWord text = IsTextWithin key_text_limit text × (1 ≤ length text)

-- the number of a field that is written so
unfoldable pub field_of : List ℕ → Option ℕ
field_of word = count_of field_limit word

-- the text of a key that is written so
unfoldable pub key_text_of : List ℕ → Option (List ℕ)
key_text_of word = kept (λ t. nat_le 1 (length t)) (text_of key_text_limit word)

-- the keys that are written so
unfoldable pub keys_of : List (List ℕ) → Option (List ℕ)
keys_of [] = Some []
keys_of (word ∷ words) = number_of word >>= (λ key. keys_of words >>= (λ keys. Some (key ∷ keys)))
