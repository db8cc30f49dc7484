-- What came of a batch, and its words.
use Rattle.std.specs.Prelude.{ℕ, List, Bool, codes, if◌then◌else◌, Some, None}
use Rattle.relay_reasons.specs.declared.fate.BatchFate.{BatchFate}
use Rattle.relay_reasons.specs.declared.fate.BatchFate.TheVariants as fates
use Rattle.relay_reasons.specs.declared.fate.Reason.TheVariants.{NotServing, NoActivation, NamesNoDone, EarlierActivation}
use Rattle.lines_explained.specs.declared.outcome.WhyNobody.{WhyNobody}
use Rattle.lines_explained.specs.declared.outcome.WhyNobody.TheVariants.{Unrelayed, NoRoom}
use Rattle.lines_explained.specs.declared.outcome.Outcome.{Outcome}
use Rattle.lines_explained.specs.declared.outcome.Outcome.TheVariants.{Queued, ReachedNobody}
use Rattle.lines_explained.specs.Phrase.{phrase}

-- by what it comes to on the relay, and whether its group was put
abbrev pub outcome_of : BatchFate → Bool → Outcome
outcome_of (fates.Relayed f count) was_put =
    (if was_put then Queued f count else ReachedNobody NoRoom)
outcome_of (fates.Unrelayed why) was_put = ReachedNobody (Unrelayed why)

-- each reason in words
abbrev pub why_words : WhyNobody → List ℕ
why_words (Unrelayed NotServing) = codes "the method does not serve"
why_words (Unrelayed NoActivation) = codes "no activation stands"
why_words (Unrelayed NamesNoDone) = codes "the serial names no done"
why_words (Unrelayed EarlierActivation) = codes "the serial names a done of an earlier activation"
why_words NoRoom = codes "its group did not fit the store of the field's peer"

-- where it went, or why nowhere
abbrev pub outcome_words : Outcome → List ℕ
outcome_words (Queued f count) =
    phrase (codes ", queued for field") (Some f) (codes " with count") (Some count)
outcome_words (ReachedNobody why) = phrase (codes ", reached nobody: ") None (why_words why) None
