-- How keys are read from the left, by entries first.
use Rattle.std.specs.Prelude.{ℕ, zero, suc, ◌-◌, Bool, true, false, List, [], ◌∷◌, ◌++◌, length, Option, Some, None}
use Rattle.compose_method.specs.Table.{Table, begun_by, going_on, own_text}
use Rattle.compose_method.specs.declared.entries.Entry.{Entry}

-- what is typed, and the keys that wait for more
pub record Segments : Type 0 where
  pub typed : List ℕ
  pub rest : List ℕ

abbrev pub typing : List ℕ → Segments → Segments
typing text s = record s { typed = text ++ s.typed }

-- at a place: the entry with which the keys begin is typed and its keys are passed; else keys that
-- are a proper prefix of an entry's wait; else the first key's own text is typed, and that key is
-- passed. `later n` reads on behind n keys after the first
abbrev pub read_at : Option Entry → Bool → List ℕ → List ℕ → (ℕ → Segments) → Segments
read_at (Some e) waits keys own later = typing e.text (later (length e.keys - 1))
read_at None true keys own later = record { typed = []; rest = keys }
read_at None false keys own later = typing own (later 0)

-- the keys are read, of which so many at the front are passed already
abbrev pub segments_from : Table → List ℕ → ℕ → Segments
segments_from t [] passed = record { typed = []; rest = [] }
segments_from t (k ∷ ks) (suc passed) = segments_from t ks passed
segments_from t (k ∷ ks) zero =
    read_at (begun_by t.entries (k ∷ ks)) (going_on t.entries (k ∷ ks)) (k ∷ ks) (own_text t k)
    (λ n. segments_from t ks n)

-- the leftmost segmentation of all keys pressed
abbrev pub segments : Table → List ℕ → Segments
segments t presses = segments_from t presses 0

-- what presses type
abbrev pub typed : Table → List ℕ → List ℕ
typed t presses = (segments t presses).typed

-- what waits for more presses
abbrev pub rest_of : Table → List ℕ → List ℕ
rest_of t presses = (segments t presses).rest
