-- The live objects of a history of acts, the newest act first, and when an act makes one too many.
use Rattle.std.specs.Prelude.{ℕ, List, [], ◌∷◌, ◌++◌, length, filter, count_by, Bool, true, false, not, ◌&&◌, ◌==◌, nat_le, if◌then◌else◌, Option, Some, None, option_map}
use Rattle.std.specs.List.{find}
use Rattle.relay_model.specs.declared.act.Act.{Act}
use Rattle.relay_model.specs.declared.act.Act.TheVariants as acts
use Rattle.relay_model.specs.Objects.{Object, is_peer, is_peer_kind, labels, made, maker, next, object, owner}
use Rattle.c_relay.specs.declared.census.Living.{Living}
use Rattle.c_relay.specs.declared.census.SeatLimits.{SeatLimits}

-- what is counted: limits, the live objects, and room for so many more
pub record Counted : Type 0 where
  pub limits : SeatLimits
  pub living : List Living
  pub room : ℕ

-- a live object with its label
abbrev pub living_of : ℕ → Object → Living
living_of x o = record { label = x; peer = o.peer; is_peer = is_peer_kind o.kind }

-- the object of a label in front of others, if it is there
abbrev pub in_front : ℕ → Option Object → List Living → List Living
in_front x None rest = rest
in_front x (Some o) rest = living_of x o ∷ rest

-- those of the labels that are there
abbrev pub living_at : (ℕ → Option Object) → List ℕ → List Living
living_at at [] = []
living_at at (x ∷ xs) = in_front x (at x) (living_at at xs)

-- the live objects of a history, by rising label
abbrev pub living : List Act → List Living
living log = living_at (object log) (labels log)

-- the peer of the object with the label, if it lives
abbrev pub owner_in : List Living → ℕ → Option ℕ
owner_in ls x = option_map (λ o. o.peer) (find (λ o. o.label == x) ls)

-- what the act leaves of those that were alive
abbrev pub left : Act → List Living → List Living
left (acts.Drop y) ls = filter (λ l. not (l.label == y)) ls
left (acts.Gone p cause) ls = filter (λ l. not (l.peer == p)) ls
left _ ls = ls

-- how many peers are alive
abbrev pub peers_in : List Act → ℕ
peers_in log = length (filter (is_peer log) (labels log))

-- an object that is there belongs to the peer p, and is not the peer itself
abbrev pub belongs : ℕ → Option Object → Bool
belongs p None = false
belongs p (Some o) = (o.peer == p) && not (is_peer_kind o.kind)

-- how many objects of the peer p are alive
abbrev pub objects_in : List Act → ℕ → ℕ
objects_in log p = length (filter (λ x. belongs p (object log x)) (labels log))

-- what is made, if anything is, is one too many among those that are alive
abbrev pub crowds : SeatLimits → List Living → Option Living → Bool
crowds limits ls None = false
crowds limits ls (Some l) =
    (if l.is_peer then nat_le limits.peers (count_by (λ (o : Living). o.is_peer) ls)
    else nat_le limits.objects
    (count_by (λ (o : Living). (o.peer == l.peer) && not o.is_peer) ls))

-- the same by the history: a peer where so many are alive as may be, or an object of a peer that has so many
abbrev pub over_for : SeatLimits → List Act → Option Object → Bool
over_for limits log None = false
over_for limits log (Some o) =
    (if is_peer_kind o.kind then nat_le limits.peers (peers_in log)
    else nat_le limits.objects (objects_in log o.peer))

-- the act, which comes next, makes one too many
abbrev pub is_over : SeatLimits → Act → List Act → Bool
is_over limits act log = over_for limits log (made act (next log) (owner (object log (maker act))))
