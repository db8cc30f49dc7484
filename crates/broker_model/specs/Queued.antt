-- What is queued for a field: the groups of whole batches that were put.
use Rattle.std.specs.Prelude.{ℕ, List, [], ◌∷◌, ◌++◌, Bool, false, ◌&&◌, if◌then◌else◌, Option, Some, None}
use Rattle.relay_model.specs.declared.said.Said.{Said}
use Rattle.relay_model.specs.Objects.{is_at, peer_of}
use Rattle.relay_model.specs.Hold.{holder}
use Rattle.relay_model.specs.Activation.{fresh}
use Rattle.relay_model.specs.Batch.{group_of}
use Rattle.broker_model.specs.declared.journal.Entry.{Entry}
use Rattle.broker_model.specs.Ids.{log_of}
use Rattle.broker_model.specs.Resolve.{past_of}
use Rattle.broker_model.specs.Out.{act_now, group_at, fits, before_group, out_for}

-- the newest entry commits a batch that is relayed to the field f
abbrev pub relays : Entry → List Entry → ℕ → Bool
relays e older f =
    fresh (act_now e older) (log_of (past_of older)) && is_at (holder (log_of (past_of older))) f

-- what the newest entry tells the peer p is put
abbrev pub is_put_for : ℕ → Entry → List Entry → Option ℕ → Bool
is_put_for capacity e older None = false
is_put_for capacity e older (Some p) =
    fits capacity (group_at e older p) (before_group e older p (out_for capacity older p))

-- what the newest entry tells the peer of the field f is put
abbrev pub is_put : ℕ → Entry → List Entry → ℕ → Bool
is_put capacity e older f = is_put_for capacity e older (peer_of (log_of (past_of older)) f)

-- the groups of whole batches that were put for the field f, in order: those of `relayed` that were
-- put
abbrev pub queued : ℕ → List Entry → ℕ → List (List Said)
queued capacity [] f = []
queued capacity (e ∷ older) f =
    (if relays e older f && is_put capacity e older f
    then queued capacity older f ++ group_of (act_now e older) (log_of (past_of older)) f ∷ []
    else queued capacity older f)
