-- The lines of a recorded session are those of its steps.
use Rattle.std.proofs.Common.{◌≡◌, List, [], ◌∷◌, ◌++◌, drop, map, refl, ap, ◌∙◌}
use Rattle.std.proofs.lemmas.List.{map-append}
use Rattle.broker_steps.specs.declared.limits.Limits.{Limits}
use Rattle.broker_steps.specs.declared.stamp.Stamp.{Stamp}
use Rattle.broker_steps.specs.declared.step.Step.{Step}
use Rattle.session_text.specs.declared.line.SessionLine.{SessionLine}
use Rattle.session_text.specs.Steps.{step_line}
use Rattle.law_record.specs.Legal.{journal_of}
use Rattle.law_record.specs.RecordedLines.{StampedLine, played_lines}
use Rattle.law_record.specs.RecordLaws.{RecordedHasStepLines, lines_of_steps}
use Rattle.law_record.proofs.StepsRecorded.{one_more_step, stamp_at}

pub recorded_has_step_lines : RecordedHasStepLines
recorded_has_step_lines limits [] given = refl
recorded_has_step_lines limits (step ∷ older) given =
    let before : List StampedLine = lines_of_steps limits older (drop 1 given) in
    let last : StampedLine = (stamp_at step (journal_of limits older) given, step_line step) in
    ap played_lines (one_more_step step limits.store (journal_of limits older) given).lines
    ∙ map-append (λ (l : StampedLine). l.1) before (last ∷ [])
    ∙ ap (λ (ls : List SessionLine). ls ++ step_line step ∷ []) (recorded_has_step_lines limits older (drop 1 given))
