-- What ids name: the objects that peers made under ids of their own.
use Rattle.std.specs.Prelude.{ℕ, zero, suc, List, [], ◌∷◌, Bool, not, ◌&&◌, ◌==◌, if◌then◌else◌, Option, Some, None}
use Rattle.std.specs.List.{count_by, slice_get}
use Rattle.wl_proto.specs.declared.interface.Interface.{Interface}
use Rattle.relay_model.specs.declared.act.Act.{Act}
use Rattle.relay_model.specs.declared.role.Role.{Role}
use Rattle.relay_model.specs.Objects.{alive}
use Rattle.relay_model.specs.Idle.{history}

-- an object that a peer made under an id; the display is made by joining, under id 1
pub record Made : Type 0 where
  pub peer : ℕ
  pub id : ℕ
  pub label : ℕ
  pub interface : Interface

-- a peer that joined
pub record Joined : Type 0 where
  pub label : ℕ
  pub role : Role

-- what entries come to: their acts, the newest first; what was made under ids, the newest first;
-- who joined, in order; and for each label the tokens that wait for the peer, in order
pub record Past : Type 0 where
  pub acts : List Act
  pub made : List Made
  pub joined : List Joined
  pub waiting : ℕ → List ℕ

-- the acts with Idle in the place of each that is idle
abbrev pub log_of : Past → List Act
log_of past = history past.acts

-- the peer with a number, from 1
abbrev pub peer_in : List Joined → ℕ → Option Joined
peer_in joined zero = None
peer_in joined (suc q) = slice_get joined q

-- the same, of what entries come to
abbrev pub peer_at : Past → ℕ → Option Joined
peer_at past q = peer_in past.joined q

-- the object that a peer's id names: the last that it made under the id and that is alive
abbrev pub named : List Act → List Made → (peer id : ℕ) → Option Made
named log [] peer id = None
named log (m ∷ older) peer id =
    (if (m.peer == peer) && (m.id == id) && alive log m.label then Some m
    else named log older peer id)

-- the same, of what entries come to
abbrev pub object_at : Past → (peer id : ℕ) → Option Made
object_at past peer id = named (log_of past) past.made peer id

-- a live object of the peer besides its display
abbrev pub is_counted : List Act → ℕ → Made → Bool
is_counted log peer m = (m.peer == peer) && not (m.id == 1) && alive log m.label

-- how many objects of the peer are alive besides its display
abbrev pub number_live : Past → ℕ → ℕ
number_live past peer = count_by (is_counted (log_of past) peer) past.made

-- what was made with the label, whether or not it is alive
abbrev pub made_as : List Made → ℕ → Option Made
made_as [] label = None
made_as (m ∷ older) label = (if m.label == label then Some m else made_as older label)
