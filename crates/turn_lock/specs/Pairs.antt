-- Histories: lists of pairs of a seat's number and an entry, oldest first
use Rattle.std.specs.Prelude.{◌≡◌, ◌==◌, ◌+◌, ◌⊎◌, ℕ, List, [], ◌∷◌, ◌++◌, length, if◌then◌else◌, nat_lt}

-- the entries of the pairs that have this number, in order
abbrev pub own : {E : Type 0} → ℕ → List (ℕ × E) → List E
own n [] = []
own n (x ∷ xs) = if x.0 == n then x.1 ∷ own n xs else own n xs

-- no pair has this number
abbrev pub NoneOf : {E : Type 0} → ℕ → List (ℕ × E) → Type 0
NoneOf n h = own n h ≡ []

-- the history begins with what was seen, and past that no pair has this number
abbrev pub HasSeen : {E : Type 0} → (history : List (ℕ × E)) → ℕ → (seen : List (ℕ × E)) → Type 0
HasSeen h n seen = (rest : List _) × (h ≡ seen ++ rest) × NoneOf n rest

-- the second history is the first, or longer by one pair with this number
abbrev pub IsGrown : {E : Type 0} → ℕ → List (ℕ × E) → List (ℕ × E) → Type 0
IsGrown {E} n before after = (after ≡ before) ⊎ ((entry : E) × (after ≡ before ++ (n, entry) ∷ []))

-- of two histories of which one begins the other, the longer
abbrev pub longer : {E : Type 0} → List (ℕ × E) → List (ℕ × E) → List (ℕ × E)
longer xs ys = if nat_lt (length xs) (length ys) then ys else xs

-- the number is among these
abbrev pub IsIn : ℕ → List ℕ → Type 0
IsIn n [] = ⊥
IsIn n (m ∷ ms) = (m ≡ n) ⊎ IsIn n ms

-- no number stands twice
abbrev pub IsDistinct : List ℕ → Type 0
IsDistinct [] = Unit {0}
IsDistinct (n ∷ ns) = (IsIn n ns → ⊥) × IsDistinct ns

-- how many pairs have one of these numbers, where they are distinct
abbrev pub total : {E : Type 0} → List ℕ → List (ℕ × E) → ℕ
total [] h = 0
total (n ∷ ns) h = length (own n h) + total ns h
