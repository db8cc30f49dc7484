-- The batches among the events that a seat hands out.
use Rattle.std.specs.Prelude.{◌≡◌, ℕ, List, ◌++◌, map, filter, nat_le, ◌==◌, ◌&&◌, Bool}
use Rattle.std.specs.List.{flat_map}
use Rattle.relay_model.specs.declared.act.Act.{Act}
use Rattle.relay_model.specs.declared.said.Said.{Said}
use Rattle.relay_model.specs.Events.{to}
use Rattle.relay_model.specs.Batch.{relayed}
use Rattle.relay_model.specs.Idle.{history}
use Rattle.c_relay.specs.Events.{Heard, heard_of}
use Rattle.c_relay.specs.Seated.{Seat}
use Rattle.c_relay.specs.Served.{Served}
use Rattle.broker_telling.specs.BatchesTold.{in_turn}

-- a preedit, a string, a deletion or the done of a batch
abbrev pub is_batch_kind : ℕ → Bool
is_batch_kind kind = nat_le 3 kind && nat_le kind 6

-- it is for the object f
abbrev pub is_for : ℕ → Heard → Bool
is_for f h = is_batch_kind h.event.kind && (h.event.to == f)

-- the events of groups that are told to f, as a seat hands them out
abbrev pub groups_heard : ℕ → List (List Said) → List Heard
groups_heard f groups = flat_map heard_of (map (to f) (in_turn groups))

-- What was handed out and what waits, the seat having taken these acts, are for each object the
-- whole batches that are relayed to it, in order and once each.
abbrev pub HandedBatches : Type 0
HandedBatches =
    (seat : Seat) (log : List Act) (handed : List Heard) (f : ℕ) → Served seat log handed →
    filter (is_for f) (handed ++ seat.heard) ≡ groups_heard f (relayed (history log) f)
