-- What a seat stands for: the acts that it took, the newest first, and what waits.
use Rattle.std.specs.Prelude.{◌≡◌, ℕ, ◌+◌, ◌++◌, nat_le, List, ◌∷◌, length, Bool, true, false, Option, Some, None, Result, Ok, Err}
use Rattle.relay_model.specs.declared.act.Act.{Act}
use Rattle.relay_model.specs.declared.act.Act.TheVariants as acts
use Rattle.relay_model.specs.Idle.{history, is_live}
use Rattle.relay_core.specs.Kept.{Shown}
use Rattle.relay_core.specs.Stands.{StandsFor}
use Rattle.c_relay.specs.declared.census.Living.{Living}
use Rattle.c_relay.specs.declared.census.SeatLimits.{SeatLimits}
use Rattle.c_relay.specs.Living.{living, is_over}
use Rattle.c_relay.specs.declared.seat.Refusal.{Refusal}
use Rattle.c_relay.specs.declared.seat.Refusal.TheVariants.{NoMemory, Full, Long, Many}
use Rattle.c_relay.specs.declared.popups.KeptPopup.{KeptPopup}
use Rattle.c_relay.specs.KeptPopups.{kept_popups}
use Rattle.c_relay.specs.Events.{Heard, heard}

-- a seat as contracts see it
pub record Seat : Type 0 where
  pub relay : Shown
  pub heard : List Heard
  pub limits : SeatLimits
  pub living : List Living
  pub popups : List KeptPopup

-- the seat stands for the acts, the newest first, keeps which popups are shown, and these events wait
pub record Seated (seat : Seat) (log : List Act) (waits : List Heard) : Type 0 where
  pub relay : StandsFor seat.relay log
  pub popups : seat.popups ≡ kept_popups (history log)
  pub queue : seat.heard ≡ waits

-- the objects that live by the acts are counted
abbrev pub IsCounted : Seat → List Act → Type 0
IsCounted seat log = seat.living ≡ living (history log)

-- the texts of the act are such that a message can carry
abbrev pub fits : Act → Bool
fits (acts.Surround f text cursor anchor) = nat_le (length text) 4075
fits (acts.MPreedit m text begin end) = nat_le (length text) 4075
fits (acts.MString m text) = nat_le (length text) 4083
fits _ = true

-- An act was taken: it does something, its texts can be carried, it has the next number, and what it
-- tells waits behind what waited. Or it does nothing, and costs no number. Or it was refused; where
-- no number is left, or it makes one too many, it does something. In the last two the seat stands
-- for what it stood for, and the same events wait.
abbrev pub Takes : Seat → List Act → List Heard → Act → Result (Option ℕ) Refusal → Type 0
Takes new log waits act (Ok (Some number)) =
    (number ≡ length log + 1) × (is_live act (history log) ≡ true) × (fits act ≡ true)
    × Seated new (act ∷ log) (waits ++ heard act log)
Takes new log waits act (Ok None) = (is_live act (history log) ≡ false) × Seated new log waits
Takes new log waits act (Err NoMemory) = Seated new log waits
Takes new log waits act (Err Full) =
    (length log ≡ 4294967295) × (is_live act (history log) ≡ true) × Seated new log waits
Takes new log waits act (Err Long) = (fits act ≡ false) × Seated new log waits
Takes new log waits act (Err Many) = (is_live act (history log) ≡ true) × Seated new log waits

-- An act that was taken makes none too many, and is counted. One that was refused for that makes one
-- too many. After that and all else the same are counted.
abbrev pub Counts : Seat → List Act → Act → Result (Option ℕ) Refusal → Type 0
Counts new log act (Ok (Some number)) =
    (is_over new.limits act (history log) ≡ false) × IsCounted new (act ∷ log)
Counts new log act (Err Many) =
    (is_over new.limits act (history log) ≡ true) × IsCounted new log
Counts new log act _ = IsCounted new log
