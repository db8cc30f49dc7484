-- What a sink gained, piece behind piece
use Rattle.std.specs.Prelude.{◌≡◌, ℕ, ◌<◌, List, [], ◌∷◌, ◌++◌, length, take, Bool, true, false, Option}
use Rattle.std.specs.Io.KnownBytes.{Appends}
use Rattle.wl_wire.specs.Messages.{joined}

-- the last of the pieces was cut: a proper prefix of it was gained
pub record GainsCut (held held_after : Option (List ℕ)) (pieces : List (List ℕ)) : Type 0 where
  pub before : List (List ℕ)
  pub last : List ℕ
  pub pieces_are : pieces ≡ before ++ last ∷ []
  pub count : ℕ
  pub short : count < length last
  pub gained : Appends held held_after (joined before ++ take count last)

-- all pieces were gained, or all but the last, which a fault cut
abbrev pub Gains : (is_cut : Bool) → (held held_after : Option (List ℕ)) → List (List ℕ) → Type 0
Gains true held held_after pieces = GainsCut held held_after pieces
Gains false held held_after pieces = Appends held held_after (joined pieces)
