-- Numbers that the embedder gave to labels.
use Rattle.std.specs.Prelude.{◌≡◌, ℕ, List, nat_eq, cond, Option, Some, Result, Ok}
use Rattle.std.specs.Option.{unwrap_or}
use Rattle.std.specs.Map.{lookup}
use Rattle.relay_model.specs.declared.act.Act.{Act}
use Rattle.c_relay.specs.declared.seat.Refusal.{Refusal}
use Rattle.c_relay.specs.Events.{Heard}
use Rattle.c_relay.specs.Seated.{Seat, Seated, Takes, IsCounted, Counts}

-- numbers of labels, each label at most once
abbrev pub Numbers : Type 0
Numbers = List (ℕ × ℕ)

-- the number of the label; 0 where it has none
abbrev pub number_at : Numbers → ℕ → ℕ
number_at numbers label = unwrap_or (lookup (nat_eq label) numbers) 0

-- a seat with numbers, as contracts see it
pub record Numbered : Type 0 where
  pub seat : Seat
  pub numbers : Numbers

-- the label has the number from now on, and each other label what it had
abbrev pub Gives : (old new : Numbers) → (label number : ℕ) → Type 0
Gives old new label number =
    (other : ℕ) → number_at new other ≡ cond (nat_eq label other) number (number_at old other)

-- each label has what it had
abbrev pub Keeps : (old new : Numbers) → Type 0
Keeps old new = (label : ℕ) → number_at new label ≡ number_at old label

-- what was made has the number, and each other label what it had
abbrev pub GivesMade : Result (Option ℕ) Refusal → (old new : Numbers) → ℕ → Type 0
GivesMade (Ok (Some label)) old new number = Gives old new label number
GivesMade _ old new number = Keeps old new

-- whatever a seat stood for, it took the act, did nothing or refused it, as the answer says
abbrev pub SeatTook : (old new : Seat) → Act → Result (Option ℕ) Refusal → Type 0
SeatTook old new act answer =
    (log : List Act) → (waits : List Heard) → Seated old log waits → Takes new log waits act answer

-- and its limits were held, and stay
abbrev pub SeatCounts : (old new : Seat) → Act → Result (Option ℕ) Refusal → Type 0
SeatCounts old new act answer =
    ((log : List Act) → (waits : List Heard) → Seated old log waits → IsCounted old log →
    Counts new log act answer)
    × (new.limits ≡ old.limits)
