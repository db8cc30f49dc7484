-- What C is told of what a batch comes to.
use Rattle.std.specs.Prelude.{◌≡◌, ℕ, ℤ, pos, negsuc, List, Option, Some, None}
use Rattle.relay_model.specs.declared.act.Act.{Act}
use Rattle.relay_model.specs.Idle.{history}
use Rattle.relay_reasons.specs.declared.fate.BatchFate.{BatchFate}
use Rattle.relay_reasons.specs.declared.fate.BatchFate.TheVariants.{Relayed, Unrelayed}
use Rattle.relay_reasons.specs.declared.fate.Reason.TheVariants.{NotServing, NoActivation, NamesNoDone, EarlierActivation}
use Rattle.relay_reasons.specs.Fate.{fate}
use Rattle.c_relay.specs.Events.{Heard}
use Rattle.c_relay.specs.Seated.{Seated}
use Rattle.c_relay.specs.Numbers.{Numbered}
use Rattle.c_library.specs.declared.batches.Batch.{Batch}

-- the number by which C is told it
abbrev pub fate_code : BatchFate → ℤ
fate_code (Relayed field count) = pos 1
fate_code (Unrelayed NotServing) = pos 2
fate_code (Unrelayed NoActivation) = pos 3
fate_code (Unrelayed NamesNoDone) = pos 4
fate_code (Unrelayed EarlierActivation) = pos 5

-- the field and its count, or 0 both
abbrev pub batch_of : BatchFate → Batch
batch_of (Relayed field count) = record { field = field; serial = count }
batch_of (Unrelayed reason) = record { field = 0; serial = 0 }

-- What C had was asked: none, which answers that it is closed and writes nothing. Or a seat, which
-- stays as it was, and tells what a batch of the method comes to.
abbrev pub IsBatch : (old new : Option Numbered) → (method serial : ℕ) → (before after : Batch) →
    ℤ → Type 0
IsBatch None new method serial before after result =
    (new ≡ None) × (result ≡ negsuc 4) × (after ≡ before)
IsBatch (Some old) new method serial before after result =
    (new ≡ Some old)
    × ((log : List Act) → (waits : List Heard) → Seated old.seat log waits →
    (result ≡ fate_code (fate (history log) method serial))
    × (after ≡ batch_of (fate (history log) method serial)))
