-- What a step makes of a journal: its entry and the ends that follow from it, or nothing where
-- nobody takes it.
use Rattle.std.specs.Prelude.{ℕ, List, ◌∷◌, length, min, nat_le, ◌==◌, if◌then◌else◌, Option, Some, None}
use Rattle.relay_model.specs.declared.role.Role.{Role}
use Rattle.broker_steps.specs.declared.step.Step.{Step}
use Rattle.broker_steps.specs.declared.step.Step.TheVariants as steps
use Rattle.broker_model.specs.declared.journal.Entry.{Entry}
use Rattle.broker_model.specs.declared.journal.Entry.TheVariants as entries
use Rattle.broker_model.specs.Ids.{Joined, peer_at}
use Rattle.broker_model.specs.Resolve.{past_of}
use Rattle.broker_model.specs.Out.{stored, out_for}
use Rattle.broker_model.specs.Settle.{number_alive, settle}
use Rattle.broker_core.specs.Broker.{peer_entry}
use Rattle.broker_core.specs.Taking.{lives}

-- an entry, and the ends that follow from it
abbrev pub entered : ℕ → Entry → List Entry → List Entry
entered capacity e journal = settle capacity (e ∷ journal)

-- nobody joins where 64 peers are alive
abbrev pub after_join : ℕ → Role → List Entry → List Entry
after_join capacity role journal =
    (if nat_le 64 (number_alive journal) then journal
    else entered capacity (entries.Join role) journal)

-- a step of the peer q, if it is alive
abbrev pub after_peer : ℕ → ℕ → Entry → List Entry → List Entry
after_peer capacity q e journal = (if lives journal q then entered capacity e journal else journal)

-- the first m bytes that are stored for the peer q are taken, if there are any
abbrev pub after_taken : ℕ → ℕ → ℕ → List Entry → List Entry
after_taken capacity q m journal =
    (if m == 0 then journal else entered capacity (entries.Took q m) journal)

-- as many as are asked for, or as are stored
abbrev pub after_take : ℕ → ℕ → ℕ → List Entry → Option Joined → List Entry
after_take capacity q n journal None = journal
after_take capacity q n journal (Some peer) =
    after_taken capacity q (min n (length (stored (out_for capacity journal peer.label)))) journal

-- the journal after a step
abbrev pub after_step : ℕ → Step → List Entry → List Entry
after_step capacity (steps.Join role) journal = after_join capacity role journal
after_step capacity (steps.Peer q step) journal = after_peer capacity q (peer_entry q step) journal
after_step capacity (steps.Shell step) journal = entered capacity (entries.Shell step) journal
after_step capacity (steps.Take q n) journal =
    after_take capacity q n journal (peer_at (past_of journal) q)
