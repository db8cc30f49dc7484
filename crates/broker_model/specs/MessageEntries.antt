-- The entry of a message.
use Rattle.std.specs.Prelude.{ℕ, List}
use Rattle.wl_wire.specs.Messages.{id_of, opcode_of, body_of}
use Rattle.broker_model.specs.declared.journal.Entry.{Entry}
use Rattle.broker_model.specs.declared.journal.Entry.TheVariants as entries

-- the entry of a whole message of the peer with the number q
abbrev pub message_entry : ℕ → List ℕ → Entry
message_entry q m = entries.Message q (id_of m) (opcode_of m) (body_of m)
