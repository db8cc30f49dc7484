-- The peers of jobs that begin have numbers in order, and the root only joins them, each in its role
use Rattle.std.proofs.Common.{◌≡◌, ℕ, ◌+◌, List, [], ◌∷◌, ◌++◌, length, map, Some, Ok, refl, sym, ap, subst, ◌∙◌, arith, append-nil, length-append}
use Rattle.std.specs.Prelude.{option_map}
use Rattle.std.proofs.lemmas.List.{map-append}
use Rattle.relay_model.specs.declared.role.Role.{Role}
use Rattle.relay_model.specs.declared.role.Role.TheVariants as roles
use Rattle.broker_steps.specs.declared.limits.Limits.{Limits}
use Rattle.broker_model.specs.declared.journal.Entry.{Entry}
use Rattle.broker_model.specs.declared.journal.Entry.TheVariants as entries
use Rattle.turn_lock.specs.Pairs.{own, NoneOf}
use Rattle.hub_lock.specs.Seats.{after_split}
use Rattle.turn_lock.proofs.PairsOfNumbers.{own-here, own-append}
use Rattle.hub_lock.specs.declared.step.OuterStep.{OuterStep}
use Rattle.hub_lock.specs.Histories.{History, reader_of, writer_of, joining}
use Rattle.hub_lock.specs.Passes.{HubId, PassSeat, PeerPass}
use Rattle.hub_lock.specs.Calls.{IsJoined, LegalJoin}
use Rattle.hub_calls.specs.Counted.{entries_of_pass}
use Rattle.hub_calls.specs.Made.{entries_by}
use Rattle.hub_calls.proofs.PassesGrow.{same_peer}
use Rattle.trial_threads.specs.Begun.{HasBegun}
use Rattle.trial_typing.specs.declared.field_job.FieldJob.{FieldJob}
use Rattle.trial_typing.specs.declared.shell_job.ShellJob.{ShellJob}
use Rattle.trial_jobs.specs.declared.method_job.MethodJob.{MethodJob}
use Rattle.trial_jobs.specs.declared.job.TrialJob.TheVariants as jobs
use Rattle.trial_threads.specs.declared.running.Running.{Running}
use Rattle.trial_threads.specs.Back.{numbers_of, numbers_in}
use Rattle.trial_threads.specs.Jobs.{idle_job}
use Rattle.trial_threads.specs.Peers.{IsPeer, SeesPeer, SeePeers, join_of, joins_of, HaveJoined}
use Rattle.trial_threads.proofs.JoinsCounted.{joined_count}
use Rattle.trial_threads.proofs.JoinsOfJobs.{only_joins, joins_more}
use Rattle.trial_threads.proofs.PassesBack.{numbers_more}

abbrev entry_in : OuterStep → Entry
entry_in s = s.entry

-- ---- a join

-- the root's steps are those before, and the join
join_more : (before rest after : History) (s : OuterStep) → NoneOf 0 rest → after ≡ (before ++ rest) ++ (0, s) ∷ [] →
    own 0 after ≡ own 0 before ++ s ∷ []
join_more before rest after s free is =
    ap (own 0) is ∙ own-append 0 (before ++ rest) ((0, s) ∷ [])
    ∙ ap (λ (l : List OuterStep). own 0 (before ++ rest) ++ l) (own-here 0 (0, s) [] refl)
    ∙ ap (λ (l : List OuterStep). l ++ s ∷ [])
    (own-append 0 before rest ∙ ap (λ (l : List OuterStep). own 0 before ++ l) free ∙ append-nil (own 0 before))

module _ (limits : Limits) (root : PassSeat) (seen : History) (role : Role) (q n : ℕ)
    (k : LegalJoin limits root seen role (Ok q)) (zero-is : root.number ≡ 0) (made : length (own 0 root.seen) ≡ n)
    (rs : List Running) (r : Running) (job : join_of r.job ≡ entries.Join role ∷ [])
    (old : entries_of_pass 0 root.seen ≡ joins_of rs) where
  abbrev step : OuterStep
  step = joining (entries.Join role) root.next

  steps : own 0 seen ≡ own 0 root.seen ++ step ∷ []
  steps =
      join_more root.seen k.rest seen step (subst (λ (m : ℕ). NoneOf m k.rest) zero-is k.apart) k.answer.joined

  pub made_one : length (own 0 seen) ≡ n + 1
  made_one = let l = ap length steps in let m = length-append (own 0 root.seen) (step ∷ []) in omega arith

  pub joins_one : entries_of_pass 0 seen ≡ joins_of (rs ++ r ∷ [])
  joins_one =
      ap (map entry_in) steps ∙ map-append entry_in (own 0 root.seen) (step ∷ [])
      ∙ ap (λ (es : List Entry). es ++ entries.Join role ∷ []) old
      ∙ ap (λ (es : List Entry). joins_of rs ++ es) (sym job) ∙ sym (joins_more rs r)

  pub peer_next : q ≡ n + 1
  peer_next =
      k.answer.number
      ∙ joined_count limits seen k.lawful_after (only_joins (entries_of_pass 0 seen) (rs ++ r ∷ []) joins_one)
      ∙ made_one

-- ---- a peer's passes, as they begin

begun_peer : (limits : Limits) (root root' : PassSeat) (role : Role) (reader writer : PeerPass) (n : ℕ)
    (b : HasBegun limits root root' role reader writer) → NoneOf writer.seat.number writer.seat.seen →
    b.first.peer ≡ n + 1 → IsPeer writer.seat.seen (n + 1) reader writer
begun_peer limits root root' role reader writer n b fresh q-is = record {
  reads_for = same_peer b.first reader b.same ∙ q-is;
  writes_for = b.joined.peer ∙ q-is;
  reads = reads ∙ ap (λ (m : ℕ). Some m) (sym reader-number);
  writes = ap (option_map (λ (r : ℕ). r + 1)) reads ∙ ap (λ (m : ℕ). Some m) (sym writer-number);
  takes = ([], ap (map entry_in) fresh);
}
  where
    seen-is : writer.seat.seen ≡ b.joined.seen
    seen-is = ap (λ (s : PassSeat). s.seen) b.joined.for_writer

    reader-number : reader.seat.number ≡ root.next
    reader-number = ap (λ (p : PeerPass). p.seat.number) b.same
        ∙ ap (λ (s : PassSeat). s.number) b.joined.for_reader

    writer-number : writer.seat.number ≡ root.next + 1
    writer-number = ap (λ (s : PassSeat). s.number) b.joined.for_writer

    reads : reader_of writer.seat.seen (n + 1) ≡ Some root.next
    reads = ap (λ (h : History). reader_of h (n + 1)) seen-is
        ∙ ap (reader_of b.joined.seen) (sym q-is) ∙ b.joined.legal.answer.has

-- ---- one job more

see_more : (q : ℕ) (rs : List Running) (r : Running) → SeePeers q rs → SeesPeer (q + length rs) r.job →
    SeePeers q (rs ++ r ∷ [])
see_more q [] r old one = (subst (λ (m : ℕ). SeesPeer m r.job) (omega arith) one, tt)
see_more q (x ∷ rs) r old one =
    (old.0, see_more (q + 1) rs r old.1 (subst (λ (m : ℕ). SeesPeer m r.job) (omega arith) one))

count_more : (rs : List Running) (r : Running) →
    length (numbers_in (rs ++ r ∷ [])) ≡ length (numbers_of r.job) + length (numbers_in rs)
count_more rs r = ap length (numbers_more [] rs r) ∙ length-append (numbers_of r.job) (numbers_in rs)

pub none_joined : (root : PassSeat) → root.number ≡ 0 → root.seen ≡ [] → root.out ≡ 0 → root.taken ≡ [] →
    HaveJoined root 0 []
none_joined root number seen out taken = record {
  number = number;
  made = ap (λ (h : History). length (own 0 h)) seen;
  joins = ap (λ (h : History). entries_of_pass 0 h) seen;
  out = out;
  none = taken;
  peers = tt;
}

peer_joined : (limits : Limits) (root root' : PassSeat) (role : Role) (reader writer : PeerPass) (rs : List Running)
    (r : Running) → HasBegun limits root root' role reader writer → NoneOf writer.seat.number writer.seat.seen →
    length (numbers_of r.job) ≡ 2 → join_of r.job ≡ entries.Join role ∷ [] →
    ((q : ℕ) → IsPeer writer.seat.seen q reader writer → SeesPeer q r.job) → HaveJoined root (length rs) rs →
    HaveJoined root' (length (rs ++ r ∷ [])) (rs ++ r ∷ [])
peer_joined limits root root' role reader writer rs r b fresh two job is h = record {
  number = ap (λ (s : PassSeat). s.number) b.joined.left ∙ h.number;
  made = ap (λ (s : PassSeat). length (own 0 s.seen)) b.joined.left
      ∙ made_one limits root b.joined.seen role b.first.peer (length rs) b.joined.legal h.number h.made rs r job h.joins
      ∙ sym (length-append rs (r ∷ []));
  joins = ap (λ (s : PassSeat). entries_of_pass 0 s.seen) b.joined.left
      ∙ joins_one limits root b.joined.seen role b.first.peer (length rs) b.joined.legal h.number h.made rs r job
      h.joins;
  out = (let out = ap (λ (s : PassSeat). s.out) b.joined.left in
      let more = count_more rs r in let old = h.out in omega arith);
  none = ap (λ (s : PassSeat). s.taken) b.joined.left ∙ h.none;
  peers = see_more 1 rs r h.peers (subst (λ (m : ℕ). SeesPeer m r.job) (omega arith)
      (is (length rs + 1) (begun_peer limits root root' role reader writer (length rs) b fresh
      (peer_next limits root b.joined.seen role b.first.peer (length rs) b.joined.legal h.number h.made rs r job
      h.joins))));
}

pub field_joined : (limits : Limits) (root root' : PassSeat) (rs : List Running) (job : FieldJob) →
    HasBegun limits root root' roles.App job.reader job.writer → NoneOf job.writer.seat.number job.writer.seat.seen →
    HaveJoined root (length rs) rs →
    HaveJoined root' (length (rs ++ idle_job (jobs.Field job) ∷ [])) (rs ++ idle_job (jobs.Field job) ∷ [])
field_joined limits root root' rs job b fresh h =
    peer_joined limits root root' roles.App job.reader job.writer rs (idle_job (jobs.Field job)) b fresh refl refl
    (λ q p. p) h

pub method_joined : (limits : Limits) (root root' : PassSeat) (rs : List Running) (job : MethodJob) →
    HasBegun limits root root' roles.Method job.reader job.writer → NoneOf job.writer.seat.number job.writer.seat.seen →
    HaveJoined root (length rs) rs →
    HaveJoined root' (length (rs ++ idle_job (jobs.Method job) ∷ [])) (rs ++ idle_job (jobs.Method job) ∷ [])
method_joined limits root root' rs job b fresh h =
    peer_joined limits root root' roles.Method job.reader job.writer rs (idle_job (jobs.Method job)) b fresh refl refl
    (λ q p. p) h

pub shell_joined : (root root' : PassSeat) (n : ℕ) (rs : List Running) (job : ShellJob) → root' ≡ after_split root →
    HaveJoined root n rs → HaveJoined root' n (rs ++ idle_job (jobs.Shell job) ∷ [])
shell_joined root root' n rs job left h = record {
  number = ap (λ (s : PassSeat). s.number) left ∙ h.number;
  made = ap (λ (s : PassSeat). length (own 0 s.seen)) left ∙ h.made;
  joins = ap (λ (s : PassSeat). entries_of_pass 0 s.seen) left ∙ h.joins
      ∙ sym (joins_more rs (idle_job (jobs.Shell job)) ∙ append-nil (joins_of rs));
  out = (let out = ap (λ (s : PassSeat). s.out) left in
      let more = count_more rs (idle_job (jobs.Shell job)) in let old = h.out in omega arith);
  none = ap (λ (s : PassSeat). s.taken) left ∙ h.none;
  peers = see_more 1 rs (idle_job (jobs.Shell job)) h.peers tt;
}
