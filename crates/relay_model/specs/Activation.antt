-- The method that serves, the dones that it is told, and the present activation.
use Rattle.std.specs.Prelude.{ℕ, ◌-◌, List, [], ◌∷◌, ◌++◌, length, Bool, false, ◌&&◌, ◌||◌, nat_le, if◌then◌else◌, Option, Some, None, is_some, is_none, slice_get}
use Rattle.relay_model.specs.declared.act.Act.{Act}
use Rattle.relay_model.specs.declared.act.Act.TheVariants.{Method, Commit, MCommit}
use Rattle.relay_model.specs.Objects.{next, is_at}
use Rattle.relay_model.specs.Focus.{where_alive}
use Rattle.relay_model.specs.Hold.{word, holder, begins_hold}
use Rattle.serial_count.specs.Serial.{named as position_named}

-- the method that serves: a live one that was made while no method served
abbrev pub serving : List Act → Option ℕ
serving [] = None
serving (Method p ∷ older) = (if is_none (serving older) then Some (next older) else serving older)
serving (act ∷ older) = where_alive (act ∷ older) (serving older)

-- what an act tells the serving method, each ended by a done
pub data Notice : Type 0 where
  Activates Updates Deactivates : Notice

-- the act made the method that serves from then on
abbrev pub makes_serving : Act → List Act → Bool
makes_serving (Method p) older = is_none (serving older)
makes_serving _ older = false

-- a hold begins, also one that takes the seat from another field, or a method comes while a field
-- holds
abbrev pub activates : Act → List Act → Bool
activates act older =
    begins_hold act older || (makes_serving act older && is_some (holder (act ∷ older)))

-- a commit of the holder without a word
abbrev pub updates : Act → List Act → Bool
updates (Commit f) older = is_at (holder older) f && is_none (word older f)
updates _ older = false

-- a hold ends, and none begins
abbrev pub deactivates : Act → List Act → Bool
deactivates act older = is_some (holder older) && is_none (holder (act ∷ older))

-- what the act says of the hold
abbrev pub notice : Act → List Act → Option Notice
notice act older =
    (if activates act older then Some Activates
    else (if updates act older then Some Updates
    else (if deactivates act older then Some Deactivates else None)))

-- what the act tells the method m, which is told only while it serves after the act
abbrev pub notice_to : ℕ → Act → List Act → Option Notice
notice_to m act older = (if is_at (serving (act ∷ older)) m then notice act older else None)

-- the acts that told m a done, rising
abbrev pub dones : List Act → ℕ → List ℕ
dones [] m = []
dones (act ∷ older) m =
    (if is_some (notice_to m act older) then dones older m ++ next older ∷ [] else dones older m)

-- the act that began the present activation of m after the act n, where `before` began it until
-- then
abbrev pub begun_by : ℕ → Option Notice → Option ℕ → Option ℕ
begun_by n (Some Activates) before = Some n
begun_by n (Some Updates) before = before
begun_by n (Some Deactivates) before = None
begun_by n None before = before

-- the last activation that was told to m, where no deactivation followed
abbrev pub begun_for : List Act → ℕ → Option ℕ
begun_for [] m = None
begun_for (act ∷ older) m = begun_by (next older) (notice_to m act older) (begun_for older m)

-- the act that began the present activation of a method, where there is one
abbrev pub begun_of : List Act → Option ℕ → Option ℕ
begun_of log None = None
begun_of log (Some m) = begun_for log m

-- the act that began the present activation
abbrev pub begun : List Act → Option ℕ
begun log = begun_of log (serving log)

-- the element at a place, counted from 1, where there is one
abbrev pub at_position : List ℕ → Option ℕ → Option ℕ
at_position xs None = None
at_position xs (Some n) = slice_get xs (n - 1)

-- the done of m that a serial names: the latest with that number modulo 2^32
-- (zwp_input_method_v2.commit)
abbrev pub named : List Act → ℕ → ℕ → Option ℕ
named log m serial = at_position (dones log m) (position_named (length (dones log m)) serial)

-- both are there, and the second isn't below the first
abbrev pub is_from : Option ℕ → Option ℕ → Bool
is_from None y = false
is_from (Some x) None = false
is_from (Some x) (Some y) = nat_le x y

-- a commit of the serving method whose serial names a done of the present activation
abbrev pub fresh : Act → List Act → Bool
fresh (MCommit m serial) older =
    is_at (serving older) m && is_from (begun older) (named older m serial)
fresh _ older = false
