-- What each application is told, and who gained anything.
use Rattle.std.specs.Prelude.{◌≡◌, ℕ, zero, suc, ◌-◌, ◌<◌, ◌≤◌, ◌==◌, List, [], ◌∷◌, ◌++◌, Bool, true, false, if◌then◌else◌, Option, Some, None}
use Rattle.std.specs.List.{list_any}
use Rattle.relay_model.specs.declared.role.Role.{Role}
use Rattle.relay_model.specs.declared.role.Role.TheVariants.{App, Method, Keyed}
use Rattle.broker_model.specs.declared.journal.Entry.TheVariants.{Join}
use Rattle.broker_core.specs.Watched.{Watched}
use Rattle.broker_core.specs.Watched.Watched.{Entered, Put}
use Rattle.audit_fields.specs.FromField.{from_field}
use Rattle.audit_fields.specs.declared.side.Side.{Side}

-- a peer of the role has text fields
abbrev pub is_app : Role → Bool
is_app App = true
is_app Method = false
is_app Keyed = false

-- an application is there
abbrev pub is_app_in : Option Side → Bool
is_app_in None = false
is_app_in (Some side) = side.is_app

-- a peer that was told nothing
abbrev pub fresh_side : Role → Side
fresh_side role = record { is_app = is_app role; streams = record { told = []; begun = [] } }

-- a peer that is told more, if it is an application: that stays from its first field message on
abbrev pub told_side : List ℕ → Side → Side
told_side bytes side =
    (if side.is_app
    then record side {
      streams = record side.streams { told = from_field (side.streams.told ++ bytes) };
    }
    else side)

-- the peer at a place is told more
abbrev pub told_at : ℕ → List ℕ → List Side → List Side
told_at k bytes [] = []
told_at zero bytes (side ∷ sides) = told_side bytes side ∷ sides
told_at (suc k) bytes (side ∷ sides) = side ∷ told_at k bytes sides

-- the peer with the number is among those who gained
abbrev pub is_gained : ℕ → List ℕ → Bool
is_gained q gained = list_any (λ x. x == q) gained

-- and is from now on
abbrev pub gained_by : ℕ → List ℕ → List ℕ
gained_by q gained = (if is_gained q gained then gained else gained ++ q ∷ [])

-- the peers that joined, who gained, and whether there was no memory for something
pub record Gathering : Type 0 where
  pub sides : List Side
  pub gained : List ℕ
  pub is_short : Bool

-- the peer with the number gained these bytes
abbrev pub gathered_for : ℕ → List ℕ → Gathering → Gathering
gathered_for q bytes g =
    (if q == 0 then g
    else record g { sides = told_at (q - 1) bytes g.sides; gained = gained_by q g.gained })

-- with what is watched: who joins, and what is put
abbrev pub gathered : Watched → Gathering → Gathering
gathered (Entered n (Join role) act log) g = record g { sides = g.sides ++ fresh_side role ∷ [] }
gathered (Put n q bytes tokens) g = gathered_for q bytes g
gathered _ g = g

-- where memory was found, it was found before, and all that is watched was gathered
pub record IsGatheredBy (before : Gathering) (event : Watched) (after : Gathering) : Type 0 where
  pub whole : before.is_short ≡ false
  pub is : after ≡ gathered event before

-- which gatherings may follow one that is told something
abbrev pub MayGather : Gathering → Watched → Gathering → Type 0
MayGather before event after = after.is_short ≡ false → IsGatheredBy before event after

-- nobody with a number above the one and up to the other gained
abbrev pub NoneBetween : List ℕ → (above most : ℕ) → Type 0
NoneBetween gained above most = (q : ℕ) → above < q → q ≤ most → is_gained q gained ≡ false

-- no lower number than this, between the two, is that of one who gained
abbrev pub IsLeast : List ℕ → (above most : ℕ) → Option ℕ → Type 0
IsLeast gained above most None = NoneBetween gained above most
IsLeast gained above most (Some q) = (above < q) × (q ≤ most) × NoneBetween gained above (q - 1)
