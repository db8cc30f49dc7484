-- The message that bytes begin with, as it is sent: its entry.
use Rattle.std.proofs.Common.{◌≡◌, ℕ, List, take, ap, ◌∙◌}
use Rattle.wl_wire.specs.Messages.{id_of, opcode_of}
use Rattle.wl_wire.specs.Fronts.{IsFrontMessage}
use Rattle.broker_model.specs.declared.journal.Entry.{Entry}
use Rattle.broker_model.specs.declared.journal.Entry.TheVariants as entries
use Rattle.trial_run.specs.Steps.{message_entry}

pub front_entry : (q id opcode : ℕ) (body bytes : List ℕ) (used : ℕ) (e : Entry) →
    e ≡ entries.Message q id opcode body → IsFrontMessage id opcode body bytes used →
    e ≡ message_entry q (take used bytes)
front_entry q id opcode body bytes used e is f =
    let m : List ℕ = take used bytes in
    is ∙ ap (λ n. entries.Message q n opcode body) f.same_id
    ∙ ap (λ n. entries.Message q (id_of m) n body) f.same_opcode
    ∙ ap (entries.Message q (id_of m) (opcode_of m)) f.same_body
