-- What a batch comes to, by looking back over the acts before it.
use Rattle.std.specs.Prelude.{ℕ, List, Bool, not, ◌&&◌, nat_le, nat_lt, false, if◌then◌else◌, Option, Some, None, is_some, is_none}
use Rattle.relay_model.specs.declared.act.Act.{Act}
use Rattle.relay_model.specs.Objects.{is_at}
use Rattle.relay_model.specs.Hold.{holder}
use Rattle.relay_model.specs.Activation.{serving, begun, named}
use Rattle.relay_model.specs.Batch.{commit_count}
use Rattle.relay_reasons.specs.declared.fate.Reason.{Reason}
use Rattle.relay_reasons.specs.declared.fate.Reason.TheVariants.{NotServing, NoActivation, NamesNoDone, EarlierActivation}
use Rattle.relay_reasons.specs.declared.fate.BatchFate.{BatchFate}
use Rattle.relay_reasons.specs.declared.fate.BatchFate.TheVariants.{Relayed, Unrelayed}

-- by the act that began the activation and the done that is named, where the field f holds the seat
abbrev pub named_fate : ℕ → Option ℕ → ℕ → ℕ → BatchFate
named_fate b None f count = Unrelayed NamesNoDone
named_fate b (Some n) f count =
    (if nat_le b n then Relayed f count else Unrelayed EarlierActivation)

-- of the serving method, by the act that began the present activation and the holder; there are
-- both or none
abbrev pub serving_fate : List Act → Option ℕ → Option ℕ → Option ℕ → BatchFate
serving_fate log None held n = Unrelayed NoActivation
serving_fate log (Some b) None n = Unrelayed NoActivation
serving_fate log (Some b) (Some f) n = named_fate b n f (commit_count log f)

-- what a batch comes to that the method m commits with the serial after these acts
abbrev pub fate : List Act → ℕ → ℕ → BatchFate
fate log m serial =
    (if is_at (serving log) m then serving_fate log (begun log) (holder log) (named log m serial)
    else Unrelayed NotServing)

-- the activation began after the done
abbrev pub began_after : Option ℕ → Option ℕ → Bool
began_after None n = false
began_after (Some b) None = false
began_after (Some b) (Some n) = nat_lt n b

-- the condition of each reason
abbrev pub reason_holds : Reason → List Act → ℕ → ℕ → Bool
reason_holds NotServing log m serial = not (is_at (serving log) m)
reason_holds NoActivation log m serial = is_at (serving log) m && is_none (begun log)
reason_holds NamesNoDone log m serial =
    is_at (serving log) m && (is_some (begun log) && is_none (named log m serial))
reason_holds EarlierActivation log m serial =
    is_at (serving log) m && began_after (begun log) (named log m serial)
