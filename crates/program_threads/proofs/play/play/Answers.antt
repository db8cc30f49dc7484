use Rattle.std.proofs.Common.{◌∙◌}
use Rattle.program_threads.proofs.TrialTold.{whole_told, cut_told, not_bad}
use Rattle.program_threads.proofs.play.play.Goals as goal

pub returns-in-Ok-clause-whole : goal.returns-in-Ok-clause-whole
returns-in-Ok-clause-whole g c = (
  c.in-Ok.trial,
  whole_told c.args.number _ _ _ (c.as_bytes.ensures.value ∙ c.in_ok-script.ensures) c.run_trial_threads.ensures
      c.in-Ok.is,
  c.in_ok-output_of-in-Ok.ensures,
)

pub returns-in-Err-JournalFull-clause-full : goal.returns-in-Err-JournalFull-clause-full
returns-in-Err-JournalFull-clause-full g c = λ _. (
  c.in-Err-JournalFull.field-0-0,
  c.in-Err-JournalFull.field-0-1,
  cut_told c.args.number _ _ _ _ _ (c.as_bytes.ensures.value ∙ c.in_ok-script.ensures) c.run_trial_threads.ensures
      c.in-Err-JournalFull.is c.in-Err-JournalFull.field-0-is,
)

pub unreachable-requires : goal.unreachable-requires
unreachable-requires g c =
    not_bad c.args.number _ _ _ _ (c.as_bytes.ensures.value ∙ c.in_ok-script.ensures) c.run_trial_threads.ensures
    c.in-Err-BadLine.is c.in-Err-BadLine.field-0-is
