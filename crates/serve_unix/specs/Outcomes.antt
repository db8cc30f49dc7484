-- What a thread hands over
use Rattle.std.specs.Prelude.{◌≡◌}
use Rattle.serve_jobs.specs.Tags.{Tag, Report, IsReportOf}
use Rattle.serve_unix.specs.declared.outcome.Outcome.{Outcome}
use Rattle.serve_unix.specs.declared.outcome.Outcome.TheVariants.{Done, Back}

module _ {J D : Type 0} where
  -- a result with the job's tag, and its report, or the job
  abbrev pub IsOutcomeOf : (J → Tag) → (D → Tag) → (D → Report) → J → Outcome J D → Type 0
  IsOutcomeOf tag done_tag report job (Done d) =
      (done_tag d ≡ tag job) × IsReportOf (done_tag d) (report d)
  IsOutcomeOf tag done_tag report job (Back j) = j ≡ job
