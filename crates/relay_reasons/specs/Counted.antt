-- What a batch comes to, by the counts that are kept.
use Rattle.std.specs.Prelude.{ℕ, ◌+◌, ◌-◌, ◌%◌, ◌^◌, nat_lt, if◌then◌else◌, Option, Some, None}
use Rattle.relay_model.specs.Objects.{is_at}
use Rattle.relay_reasons.specs.declared.seat.Seat.{Seat}
use Rattle.relay_reasons.specs.declared.fate.Reason.{Reason}
use Rattle.relay_reasons.specs.declared.fate.Reason.TheVariants.{NotServing, NoActivation, NamesNoDone, EarlierActivation}
use Rattle.relay_reasons.specs.declared.fate.BatchFate.{BatchFate}
use Rattle.relay_reasons.specs.declared.fate.BatchFate.TheVariants.{Relayed, Unrelayed}

-- how many dones before the last the serial's one is, modulo 2^32
abbrev pub dones_ago : (count serial : ℕ) → ℕ
dones_ago count serial = (count + (2 ^ 32 - serial)) % 2 ^ 32

-- of so many dones, the last `since` of them in the activation that stands
abbrev pub reason_by : (count since ago : ℕ) → Option Reason
reason_by count since ago =
    (if nat_lt ago count then (if nat_lt ago since then None else Some EarlierActivation)
    else Some NamesNoDone)

-- relayed to the field with the count, unless there is a reason
abbrev pub fate_unless : Option Reason → ℕ → ℕ → BatchFate
fate_unless None f count = Relayed f count
fate_unless (Some why) f count = Unrelayed why

-- to the holder, if there is one
abbrev pub fate_to : Option ℕ → Option ℕ → Option Reason → BatchFate
fate_to (Some f) (Some count) why = fate_unless why f count
fate_to (Some f) None why = Unrelayed NoActivation
fate_to None commits why = Unrelayed NoActivation

-- what a batch of the method m with the serial comes to on the seat
abbrev pub fate_on : Seat → ℕ → ℕ → BatchFate
fate_on seat m serial =
    (if is_at seat.serving m
    then fate_to seat.holder seat.commits
    (reason_by seat.dones seat.since (dones_ago seat.dones serial))
    else Unrelayed NotServing)
