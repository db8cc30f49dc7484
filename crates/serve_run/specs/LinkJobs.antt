-- What the links of letters bring: joins, and jobs. Passes are numbered from 1 in the order in
-- which they are made: a peer's reader's, then its writer's, or that of a shell. Links have the
-- numbers that their net gave them, one after the other.
use Rattle.std.specs.Prelude.{◌≡◌, ◌⊎◌, ℕ, ◌+◌, ◌≤◌, ◌==◌, if◌then◌else◌, List, [], ◌∷◌, ◌++◌, Option, Some, None}
use Rattle.std.specs.List.{slice_get}
use Rattle.relay_model.specs.declared.role.Role.{Role}
use Rattle.relay_model.specs.declared.role.Role.TheVariants as roles
use Rattle.broker_model.specs.declared.journal.Entry.TheVariants as entries
use Rattle.hub_lock.specs.declared.step.OuterStep.{OuterStep}
use Rattle.hub_lock.specs.Histories.{History, joining}
use Rattle.hub_lock.specs.Passes.{HubId}
use Rattle.serve_jobs.specs.Tags.{Part, Tag, Report}
use Rattle.serve_jobs.specs.Tags.Part.{reader, writer, shell}

-- a job of a link: the number of its pass, that of its link, and its part
pub record LinkedJob : Type 0 where
  pub number : ℕ
  pub link : ℕ
  pub part : Part

abbrev pub job : (number link : ℕ) → Part → LinkedJob
job number link part = record { number = number; link = link; part = part }

-- the role of the peer that a letter lets in; a shell is none
abbrev pub role_at : (letter : ℕ) → Option Role
role_at letter =
    (if letter == 97 then Some roles.App
    else (if letter == 109 then Some roles.Method
    else (if letter == 107 then Some roles.Keyed else None)))

-- the jobs of a link with this number whose first pass has that number
abbrev pub jobs_by : (next link : ℕ) → Option Role → List LinkedJob
jobs_by next link None = job next link shell ∷ []
jobs_by next link (Some role) = job next link reader ∷ job (next + 1) link writer ∷ []

-- how many passes it has
abbrev pub passes_by : Option Role → ℕ
passes_by None = 1
passes_by (Some role) = 2

-- the join of a link, if it has one
abbrev pub joins_by : (next : ℕ) → Option Role → List OuterStep
joins_by next None = []
joins_by next (Some role) = joining (entries.Join role) next ∷ []

-- the same of the links of these letters, in order
abbrev pub jobs_of : (next link : ℕ) → List ℕ → List LinkedJob
jobs_of next link [] = []
jobs_of next link (c ∷ rest) =
    jobs_by next link (role_at c) ++ jobs_of (next + passes_by (role_at c)) (link + 1) rest

abbrev pub passes_of : List ℕ → ℕ
passes_of [] = 0
passes_of (c ∷ rest) = passes_by (role_at c) + passes_of rest

abbrev pub joins_of : (next : ℕ) → List ℕ → List OuterStep
joins_of next [] = []
joins_of next (c ∷ rest) = joins_by next (role_at c) ++ joins_of (next + passes_by (role_at c)) rest

-- the job of a tag, and of a report
abbrev pub job_tagged : Tag → LinkedJob
job_tagged t = job t.number t.link t.part

abbrev pub job_reported : Report → LinkedJob
job_reported r = job r.number r.link r.part

-- the number is the root's, 0, or that of the pass of one of these jobs
abbrev pub IsOfJobs : List LinkedJob → ℕ → Type 0
IsOfJobs [] n = n ≡ 0
IsOfJobs (j ∷ jobs) n = (n ≡ j.number) ⊎ IsOfJobs jobs n

-- so it is with each step of the history
abbrev pub StepsAreOf : List LinkedJob → History → Type 0
StepsAreOf jobs [] = Unit {0}
StepsAreOf jobs (s ∷ rest) = IsOfJobs jobs s.0 × StepsAreOf jobs rest

-- the tag is that of a job on this hub
pub record IsOnHub (hub : HubId) (t : Tag) : Type 0 where
  pub turn : t.turn ≡ hub.turn
  pub limits : t.limits ≡ Some hub.limits

-- the tags from the n-th on are those of jobs on this hub
abbrev pub AreOnHub : HubId → ℕ → List Tag → Type 0
AreOnHub hub n tags = (i : ℕ) (t : Tag) → n ≤ i → slice_get tags i ≡ Some t → IsOnHub hub t
