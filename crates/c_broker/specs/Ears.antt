-- What the shell is told and hasn't asked for yet.
use Rattle.std.specs.Prelude.{◌≡◌, ◌⊎◌, ◌≤◌, List, [], ◌∷◌, ◌++◌, length, Bool, true, false}
use Rattle.broker_model.specs.declared.journal.Entry.{Entry}
use Rattle.broker_model.specs.declared.journal.Entry.TheVariants as entries
use Rattle.broker_core.specs.Watched.{Watched}
use Rattle.broker_core.specs.Watched.Watched.{Entered, Placed, Passed, Modified, Put}
use Rattle.c_broker.specs.declared.ears.Sender.{Sender}
use Rattle.c_broker.specs.declared.ears.ShellEvent.{ShellEvent}
use Rattle.c_broker.specs.declared.ears.ShellEvent.TheVariants as shell
use Rattle.c_broker.specs.declared.ears.Heard.{Heard}
use Rattle.c_broker.specs.declared.ears.Heard.TheVariants as heard

-- the events that wait, the oldest first, whether some after them are lost, and whose message is
-- played
pub record Waits : Type 0 where
  pub events : List ShellEvent
  pub missed : Bool
  pub from : Sender

-- of what no message told
abbrev pub nobody : Sender
nobody = record { peer = 0; id = 0 }

-- nothing was heard yet
abbrev pub nothing_heard : Waits
nothing_heard = record { events = []; missed = false; from = nobody }

-- whose message the entry is
abbrev pub sender_of : Entry → Sender
sender_of (entries.Message q id opcode body) = record { peer = q; id = id }
sender_of _ = nobody

-- the event waits behind the others, or it is lost, which is only where 1,024 wait
abbrev pub Gains : Waits → ShellEvent → Waits → Type 0
Gains old event new =
    ((new ≡ record old { events = old.events ++ event ∷ [] })
    ⊎ ((1024 ≤ length old.events) × (new ≡ record old { missed = true })))

-- what is watched is told to the shell, if it is for it, with the sender of the entry before it
abbrev pub Hears : Waits → Watched → Waits → Type 0
Hears old (Entered n e act log) new = new ≡ record old { from = sender_of e }
Hears old (Placed n peer id x y) new = Gains old (shell.Placed peer id x y) new
Hears old (Passed n time key state) new = Gains old (shell.Passed old.from time key state) new
Hears old (Modified n mods) new = Gains old (shell.Modified old.from mods) new
Hears old (Put n peer bytes tokens) new = new ≡ old

-- what waits longest is handed out; where nothing does, it is said once if some were lost
abbrev pub Hands : Waits → Heard → Waits → Type 0
Hands old (heard.Event event) new =
    (old.events ≡ event ∷ new.events) × (new.missed ≡ old.missed)
Hands old heard.Missed new =
    (old.events ≡ []) × (old.missed ≡ true) × (new.events ≡ []) × (new.missed ≡ false)
Hands old heard.Nothing new = (old.events ≡ []) × (old.missed ≡ false) × (new ≡ old)
