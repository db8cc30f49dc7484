-- The peers of jobs, and what the root made of them
use Rattle.std.specs.Prelude.{◌≡◌, ◌≤◌, ◌+◌, ℕ, List, [], ◌∷◌, ◌++◌, length, map, Some}
use Rattle.relay_model.specs.declared.role.Role.TheVariants as roles
use Rattle.broker_model.specs.declared.journal.Entry.{Entry}
use Rattle.broker_model.specs.declared.journal.Entry.TheVariants as entries
use Rattle.turn_lock.specs.Pairs.{own}
use Rattle.hub_lock.specs.Histories.{History, reader_of, writer_of}
use Rattle.hub_lock.specs.Passes.{PassSeat, PeerPass}
use Rattle.hub_calls.specs.Counted.{entries_of_pass}
use Rattle.hub_calls.specs.Made.{entries_by}
use Rattle.trial_jobs.specs.declared.job.TrialJob.{TrialJob}
use Rattle.trial_jobs.specs.declared.job.TrialJob.TheVariants as jobs
use Rattle.trial_threads.specs.declared.running.Running.{Running}
use Rattle.trial_threads.specs.Back.{numbers_in}

-- the two passes are those of the peer q, and the writer's made takes alone
pub record IsPeer (h : History) (q : ℕ) (reader writer : PeerPass) : Type 0 where
  pub reads_for : reader.peer ≡ q
  pub writes_for : writer.peer ≡ q
  pub reads : reader_of h q ≡ Some reader.seat.number
  pub writes : writer_of h q ≡ Some writer.seat.number
  pub takes : (counts : List ℕ)
      × (entries_by writer.seat ≡ map (λ (n : ℕ). entries.Took q n) counts)

-- so are those of a job; the shell has no peer
abbrev pub PeerOf : History → ℕ → TrialJob → Type 0
PeerOf h q (jobs.Field job) = IsPeer h q job.reader job.writer
PeerOf h q (jobs.Method job) = IsPeer h q job.reader job.writer
PeerOf h q (jobs.Shell job) = Unit {0}

-- the peers of jobs have numbers in order, from q on
abbrev pub ArePeers : History → ℕ → List Running → Type 0
ArePeers h q [] = Unit {0}
ArePeers h q (r ∷ rs) = PeerOf h q r.job × ArePeers h (q + 1) rs

-- the same, as each job's writer has seen
abbrev pub SeesPeer : ℕ → TrialJob → Type 0
SeesPeer q (jobs.Field job) = IsPeer job.writer.seat.seen q job.reader job.writer
SeesPeer q (jobs.Method job) = IsPeer job.writer.seat.seen q job.reader job.writer
SeesPeer q (jobs.Shell job) = Unit {0}

abbrev pub SeePeers : ℕ → List Running → Type 0
SeePeers q [] = Unit {0}
SeePeers q (r ∷ rs) = SeesPeer q r.job × SeePeers (q + 1) rs

-- the join of a job's peer, in its role, and those of these jobs, in order; the shell has no peer
abbrev pub join_of : TrialJob → List Entry
join_of (jobs.Field job) = entries.Join roles.App ∷ []
join_of (jobs.Method job) = entries.Join roles.Method ∷ []
join_of (jobs.Shell job) = []

abbrev pub joins_of : List Running → List Entry
joins_of [] = []
joins_of (r ∷ rs) = join_of r.job ++ joins_of rs

-- The root joined the peers of these jobs, so many, in order, each in its role, and made nothing
-- else; their passes are those that are out, and none came back.
pub record HaveJoined (root : PassSeat) (n : ℕ) (rs : List Running) : Type 0 where
  pub number : root.number ≡ 0
  pub made : length (own 0 root.seen) ≡ n
  pub joins : entries_of_pass 0 root.seen ≡ joins_of rs
  pub out : root.out ≡ length (numbers_in rs)
  pub none : root.taken ≡ []
  pub peers : SeePeers 1 rs

-- so it did for all jobs, and there are some
pub record AllJoined (root : PassSeat) (rs : List Running) : Type 0 where
  pub count : ℕ
  pub joined : HaveJoined root count rs
  pub some : 1 ≤ length rs
