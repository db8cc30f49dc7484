-- The steps that bytes of a peer give, whole or cut anywhere.
use Rattle.std.specs.Prelude.{ℕ, List, [], ◌∷◌, ◌++◌, take, map, Option, Some, None}
use Rattle.wl_wire.specs.Messages.{id_of, opcode_of, body_of, messages, behind, bad_size}
use Rattle.broker_model.specs.declared.journal.Entry.{Entry}
use Rattle.broker_model.specs.declared.journal.Entry.TheVariants as entries

-- a whole message of the peer q
abbrev pub message_entry : ℕ → List ℕ → Entry
message_entry q bytes = entries.Message q (id_of bytes) (opcode_of bytes) (body_of bytes)

-- the header with a bad size that stands behind the whole messages, where one does
abbrev pub bad_entries : ℕ → List ℕ → Option ℕ → List Entry
bad_entries q rest None = []
bad_entries q rest (Some size) = entries.BadSize q (take 8 rest) ∷ []

-- the steps that the peer's bytes give
abbrev pub steps_in : ℕ → List ℕ → List Entry
steps_in q bytes =
    map (message_entry q) (messages bytes) ++ bad_entries q (behind bytes) (bad_size bytes)
