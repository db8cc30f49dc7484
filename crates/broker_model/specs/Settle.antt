-- The ends that follow from a step, and the journal of a list of outer steps.
use Rattle.std.specs.Prelude.{ℕ, zero, suc, List, [], ◌∷◌, ◌++◌, Bool, true, false, ◌&&◌, ◌||◌, ◌==◌, if◌then◌else◌, Option, Some, None}
use Rattle.std.specs.List.{count_by}
use Rattle.relay_model.specs.declared.act.Act.{Act}
use Rattle.relay_model.specs.declared.act.Act.TheVariants as acts
use Rattle.relay_model.specs.declared.act.EndCause.{EndCause}
use Rattle.relay_model.specs.declared.act.EndCause.TheVariants.{Bad, Full}
use Rattle.relay_model.specs.Objects.{is_peer}
use Rattle.broker_model.specs.declared.journal.Entry.{Entry}
use Rattle.broker_model.specs.declared.journal.Entry.TheVariants as entries
use Rattle.broker_model.specs.Ids.{Joined, log_of}
use Rattle.broker_model.specs.Resolve.{past_of}
use Rattle.broker_model.specs.Out.{act_at, out_for}

-- the act is a refused message
abbrev pub is_bad : Act → Bool
is_bad (acts.Bad p fault x) = true
is_bad _ = false

-- the last message of the peer with the number q was refused
abbrev pub refused : List Entry → ℕ → Bool
refused [] q = false
refused (entries.Message n id opcode body ∷ older) q =
    (if n == q then is_bad (act_at (entries.Message n id opcode body) older) else refused older q)
refused (entries.BadSize n head ∷ older) q =
    (if n == q then is_bad (act_at (entries.BadSize n head) older) else refused older q)
refused (_ ∷ older) q = refused older q

-- the peer with the number q is alive, and its last message was refused or it is choked
abbrev pub is_due : ℕ → List Entry → ℕ → Joined → Bool
is_due capacity journal q peer =
    is_peer (log_of (past_of journal)) peer.label
    && (refused journal q || (out_for capacity journal peer.label).choked)

-- the lowest number of a peer that is due, from q on
abbrev pub due_from : ℕ → List Entry → ℕ → List Joined → Option ℕ
due_from capacity journal q [] = None
due_from capacity journal q (peer ∷ peers) =
    (if is_due capacity journal q peer then Some q else due_from capacity journal (suc q) peers)

-- the lowest number of a peer that is due
abbrev pub due : ℕ → List Entry → Option ℕ
due capacity journal = due_from capacity journal 1 (past_of journal).joined

-- why a peer that is due is ended
abbrev pub cause_of : List Entry → ℕ → EndCause
cause_of journal q = (if refused journal q then Bad else Full)

-- the end of the peer with that number, if there is one
abbrev pub with_end : List Entry → Option ℕ → List Entry
with_end journal None = journal
with_end journal (Some q) = entries.End q (cause_of journal q) ∷ journal

-- at most n ends are appended, each that of the lowest number that is due then
abbrev pub settled : ℕ → ℕ → List Entry → List Entry
settled capacity zero journal = journal
settled capacity (suc n) journal = settled capacity n (with_end journal (due capacity journal))

-- how many peers are alive, so how many ends can follow
abbrev pub number_alive : List Entry → ℕ
number_alive journal =
    count_by (λ peer. is_peer (log_of (past_of journal)) peer.label) (past_of journal).joined

-- while there is a live peer that is due, the one with the lowest number is ended
abbrev pub settle : ℕ → List Entry → List Entry
settle capacity journal = settled capacity (number_alive journal) journal

-- the journal of a list of outer steps, the newest first
abbrev pub history : ℕ → List Entry → List Entry
history capacity [] = []
history capacity (step ∷ older) = settle capacity (step ∷ history capacity older)

-- the step of an entry that no settling appended
abbrev pub step_of : Entry → List Entry
step_of (entries.End q Bad) = []
step_of (entries.End q Full) = []
step_of e = e ∷ []

-- the outer steps of a journal
abbrev pub outer : List Entry → List Entry
outer [] = []
outer (e ∷ older) = step_of e ++ outer older
