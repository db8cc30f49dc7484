-- The shape of the words, which is tested before `clap` reads them
use Rattle.std.specs.Prelude.{ℕ, ◌&&◌, Bool, false, nat_le, List, [], ◌∷◌, length, codes}
use Rattle.std.specs.Str.{bytes_eq}
use Rattle.serve_words.specs.Words.{are_pairs, values_of}

-- the option with this name stands at most once
abbrev pub stands_once_at_most : (name : List ℕ) → List (List ℕ) → Bool
stands_once_at_most name words = nat_le (length (values_of name words)) 1

-- each of the options stands at most once
abbrev pub stand_once_at_most : List (List ℕ) → Bool
stand_once_at_most words =
    stands_once_at_most (codes "--app") words && stands_once_at_most (codes "--method") words
    && stands_once_at_most (codes "--shell") words && stands_once_at_most (codes "--order") words
    && stands_once_at_most (codes "--entries") words && stands_once_at_most (codes "--store") words
    && stands_once_at_most (codes "--weight") words && stands_once_at_most (codes "--wait") words

-- pairs of an option and a value, each option at most once
abbrev pub has_shape : List (List ℕ) → Bool
has_shape words = are_pairs words && stand_once_at_most words

-- `serve`, and such pairs behind it
abbrev pub is_serve : List (List ℕ) → Bool
is_serve [] = false
is_serve (word ∷ words) = bytes_eq word (codes "serve") && has_shape words
