-- The jobs that a spawner started, and the results that it gave
use Rattle.std.specs.Prelude.{◌≡◌, List, ◌++◌, map, Result, MatchResult}
use Rattle.std.specs.declared.snapshot.Snapshot.{Snapshot}
use Rattle.serve_jobs.specs.Tags.{Tag, Report}

-- the reports of the results that were given
abbrev pub reports_of : {D : Type 0} → (D → Report) → List (Snapshot D) → List Report
reports_of report given = map (λ s. report s.value) given

-- the tags of the jobs whose results were given, and of those that run
abbrev pub tags_of : {H D : Type 0} → (H → Tag) → (D → Tag) → List (Snapshot D) → List H → List Tag
tags_of tag done_tag given running = map (λ s. done_tag s.value) given ++ map tag running

-- something begun that has the job's tag, or the job
abbrev pub Begins : {J H : Type 0} → (H → Tag) → (J → Tag) → J → Result H J → Type 0
Begins begun tag job r = MatchResult r (λ h. begun h ≡ tag job) (λ refused. refused ≡ job)
