-- What the answer tells of a trial
use Rattle.std.proofs.Common.{◌≡◌, ◌≤◌, ◌++◌, ◌∷◌, [], ℕ, List, length, Bool, Option, Some, None, Result, Ok, Err, refl, sym, ap, subst, ◌∙◌, inl, inr, arith, append_assoc}
use Rattle.std.specs.Prelude.{◌⊎◌}
use Rattle.std.specs.List.{AllByRecursion}
use Rattle.broker_steps.specs.declared.limits.Limits.{Limits}
use Rattle.broker_model.specs.declared.journal.Entry.{Entry}
use Rattle.broker_model.specs.declared.journal.Entry.TheVariants as entries
use Rattle.broker_model.specs.declared.journal.Kept.{Kept}
use Rattle.trial_client_logs.specs.declared.entry.FieldEntry.{FieldEntry}
use Rattle.trial_client_logs.specs.declared.method_log.MethodEntry.{MethodEntry}
use Rattle.broker_model.specs.Limits.{weight_of}
use Rattle.broker_model.specs.Settle.{outer}
use Rattle.turn_lock.specs.Pairs.{HasSeen, IsIn}
use Rattle.hub_lock.specs.Seats.{having_seen}
use Rattle.hub_lock.specs.declared.session.Session.{Session}
use Rattle.hub_lock.specs.Calls.{LegalCopy}
use Rattle.hub_lock.specs.Histories.{History, broker_of}
use Rattle.hub_lock.specs.Passes.{HubId, PassSeat, total_steps}
use Rattle.hub_lock.specs.Plays.{IsSessionOf}
use Rattle.hub_calls.specs.Made.{IsFullFor}
use Rattle.hub_calls.proofs.PassesCounted.{seen_stays}
use Rattle.trial_run.specs.declared.typist.TrialTypist.{TrialTypist}
use Rattle.trial_run.specs.Trial.{trial_limits, typist_of}
use Rattle.trial_script.specs.declared.script.Script.{Script}
use Rattle.trial_typing.specs.Sending.{IsFullForMessage, IsFullForTake}
use Rattle.client_side.specs.Messages.{Sent, spelled}
use Rattle.hub_lock.specs.Passes.{PeerPass}
use Rattle.trial_typing.specs.declared.job_end.JobEnd.{JobEnd}
use Rattle.trial_typing.specs.declared.job_end.JobEnd.TheVariants as ends
use Rattle.trial_jobs.specs.declared.job.TrialJob.{TrialJob}
use Rattle.trial_jobs.specs.declared.job.TrialJob.TheVariants as jobs
use Rattle.trial_threads.specs.declared.no_job.NoJob.{NoJob}
use Rattle.trial_threads.specs.declared.no_job.NoJob.TheVariants as none
use Rattle.trial_threads.specs.NoJobs.{WasFull}
use Rattle.trial_threads.proofs.LightMessages.{light_next}
use Rattle.trial_threads.specs.declared.running.Running.{Running}
use Rattle.trial_threads.specs.declared.stop.Stop.{Stop}
use Rattle.trial_threads.specs.declared.stop.Stop.TheVariants as stops
use Rattle.trial_threads.specs.declared.trial.ThreadTrial.{ThreadTrial}
use Rattle.trial_threads.specs.declared.trial.ThreadTrialEnd.{ThreadTrialEnd}
use Rattle.trial_threads.specs.declared.trial.ThreadTrialEnd.TheVariants as trial_ends
use Rattle.trial_threads.specs.Users.{Part}
use Rattle.trial_threads.specs.Jobs.{HasEnd, HasRun, AreIdle}
use Rattle.trial_threads.specs.BegunJobs.{WasFullEarly, IsUnbegun}
use Rattle.trial_threads.specs.Stops.{stop_by_begin}
use Rattle.trial_threads.specs.Back.{IsBack, JobIsBack, TookAllBack}
use Rattle.trial_threads.specs.Whole.{IsSeenBy, ArePasses, IsTrial, IsWhole, IsCut, IsStopped, AllPlayed, HavePlayed, ToldOf, Tells, bad_line_of, users_of}
use Rattle.trial_threads.proofs.PeersStay.{peers_at}
use Rattle.trial_threads.proofs.PassesAll.{once_all, passes_all, root_joins}
use Rattle.trial_threads.proofs.JobsListed.{all_by}
use Rattle.trial_threads.proofs.JobsPlayed.{done_each, rest_each, stopped_each, none_bad, none_many}
use Rattle.trial_threads.proofs.NeverEarly.{never_early}

-- ---- the journal was full in a front of the whole history

was_longer : (limits : Limits) (a m h : History) (kept : Kept) → h ≡ a ++ m → WasFull limits a kept →
    WasFull limits h kept
was_longer limits a m h kept is w = record {
  front = w.front;
  more = w.more ++ m;
  is = is ∙ ap (λ (x : History). x ++ m) w.is ∙ append_assoc w.front w.more m;
  entry = w.entry;
  light = w.light;
  full = w.full;
}

full_seen : (limits : Limits) (h : History) (pass : PassSeat) (e : Entry) (kept : Kept) → IsSeenBy h pass →
    weight_of e ≤ 4104 → IsFullFor limits pass.seen e kept → WasFull limits h kept
full_seen limits h pass e kept seen light full =
    record { front = pass.seen; more = seen.0; is = seen.1; entry = e; light = light; full = full }

full_peer : (limits : Limits) (h : History) (reader writer : PeerPass) (sents : List Sent) (kept : Kept) →
    IsSeenBy h reader.seat → IsSeenBy h writer.seat →
    IsFullForMessage limits reader sents kept ⊎ IsFullForTake limits writer kept → WasFull limits h kept
full_peer limits h reader writer sents kept reads writes (inl f) =
    full_seen limits h reader.seat f.next kept reads
    (light_next reader.peer (spelled sents) f.made f.next f.later f.all_are) f.full
full_peer limits h reader writer sents kept reads writes (inr f) =
    full_seen limits h writer.seat (entries.Took writer.peer 0) kept writes (omega arith) f

full_job : (limits : Limits) (typist : TrialTypist) (h : History) (job : TrialJob) (kept : Kept) → ArePasses h job →
    HasEnd limits typist job (Err (ends.JournalFull kept)) → WasFull limits h kept
full_job limits typist h (jobs.Field job) kept seen k =
    full_peer limits h job.reader job.writer _ kept seen.0 seen.1 k.1
full_job limits typist h (jobs.Method job) kept seen k =
    full_peer limits h job.reader job.writer _ kept seen.0 seen.1 k.1
full_job limits typist h (jobs.Shell job) kept seen k =
    full_seen limits h job.pass (entries.Shell k.next) kept seen (omega arith) k.full

full_in_all : (hub : HubId) (typist : TrialTypist) (h : History) (rs : List Running) (kept : Kept) →
    AllByRecursion (HasRun hub typist) rs → AllByRecursion (λ (r : Running). ArePasses h r.job) rs →
    IsStopped kept rs → WasFull hub.limits h kept
full_in_all hub typist h [] kept run passes f = absurd f
full_in_all hub typist h (r ∷ rs) kept run passes (inl e) =
    full_job hub.limits typist h r.job kept passes.0
    (subst (λ (x : Result Bool JobEnd). HasEnd hub.limits typist r.job x) e run.0.ends)
full_in_all hub typist h (r ∷ rs) kept run passes (inr f) = full_in_all hub typist h rs kept run.1 passes.1 f

-- ---- all that came back has seen fronts of what the session is of

pass_in : (root' root'' pass : PassSeat) → ((n : ℕ) → IsIn n root'.taken → HasSeen root''.seen n root'.seen) →
    IsBack root' pass → IsSeenBy root''.seen pass
pass_in root' root'' pass settled b =
    seen_stays root''.seen root'.seen pass.seen pass.number (settled pass.number b.taken) b.seen

job_in : (root' root'' : PassSeat) (job : TrialJob) →
    ((n : ℕ) → IsIn n root'.taken → HasSeen root''.seen n root'.seen) → JobIsBack root' job →
    ArePasses root''.seen job
job_in root' root'' (jobs.Field job) settled b =
    (pass_in root' root'' job.reader.seat settled b.0, pass_in root' root'' job.writer.seat settled b.1)
job_in root' root'' (jobs.Method job) settled b =
    (pass_in root' root'' job.reader.seat settled b.0, pass_in root' root'' job.writer.seat settled b.1)
job_in root' root'' (jobs.Shell job) settled b = pass_in root' root'' job.pass settled b

-- ---- what is copied when all passes came back

module _ (hub : HubId) (typist : TrialTypist) (parts : List Part) (root root' root'' : PassSeat) (rs : List Running)
    (t : ThreadTrial) (limits : hub.limits ≡ trial_limits) (took : TookAllBack root root' rs t.logs t.method_log)
    (settled : (n : ℕ) → IsIn n root'.taken → HasSeen root''.seen n root'.seen)
    (legal : LegalCopy hub.limits root' root''.seen (Ok t.session)) (is : root'' ≡ having_seen root' root''.seen)
    (steps : root'.out ≡ 0 → length (outer t.session.journal.entries) ≡ total_steps root'') where
  seen_all : AllByRecursion (λ (r : Running). ArePasses root''.seen r.job) rs
  seen_all = all_by (λ (r : Running). JobIsBack root' r.job) (λ (r : Running). ArePasses root''.seen r.job) rs
      (λ r b. job_in root' root'' r.job settled b) took.back

  is_trial : (stop : Option Stop) → AllPlayed hub typist parts root rs stop → IsTrial typist parts t
  is_trial stop p =
      let j = p.joined in record {
        hub = hub;
        limits = limits;
        jobs = rs;
        users = p.users;
        run = p.run;
        h = root''.seen;
        seen = seen_all;
        lawful = legal.lawful_after;
        session = subst (λ (h : History). IsSessionOf (broker_of hub.limits h) t.session) (sym legal.answer.same)
            legal.answer.copied;
        logs = took.logs;
        method_log = took.method_log;
        peers = peers_at root''.seen 1 rs seen_all j.joined.peers;
        root = root_joins hub.limits root root' j.count rs t.logs t.method_log root''.seen t.session j.joined took legal;
        once = once_all root root' j.count rs t.logs t.method_log j.joined took j.some;
        passes = passes_all root root' j.count rs t.logs t.method_log j.joined took j.some hub.limits root'' t.session is
            legal steps;
      }

  -- a journal isn't full before all users' peers have joined
  early : (kept : Kept) → AreIdle hub rs → WasFullEarly hub.limits root rs kept → ⊥
  early kept idle w =
      never_early hub root root' root'' rs t.logs t.method_log t.session kept w idle seen_all took settled legal is steps
      limits

  -- ---- by how it was played

  pub is_whole : HavePlayed hub typist parts root rs None → IsWhole typist parts t
  unfolding is_trial
  is_whole (inl p) =
      let done = done_each rs (sym p.stopped) in record {
        trial = is_trial None p;
        done = done;
        rested = rest_each hub typist rs rs rs done p.rested;
      }
  is_whole (inr n) = absurd (let no : None ≡ Some (stop_by_begin n.why) = n.stopped in cc)

  pub is_cut : (kept : Kept) → HavePlayed hub typist parts root rs (Some (stops.Full kept)) → IsCut typist parts kept t
  unfolding is_trial
  is_cut kept (inl p) =
      let stopped = stopped_each rs kept (sym p.stopped) in record {
        trial = is_trial (Some (stops.Full kept)) p;
        stopped = stopped;
        full = full_in_all hub typist root''.seen rs kept p.run seen_all stopped;
      }
  is_cut kept (inr n) = absurd (by n.why n.stopped n.unbegun)
    where
      by : (why : NoJob) → Some (stops.Full kept) ≡ Some (stop_by_begin why) → IsUnbegun hub.limits root rs why → ⊥
      by (none.JournalFull k) e u = early k n.idle u
      by (none.TooManyPeers alive) e u = u
      by none.NoMemory e u = let no : Some (stops.Full kept) ≡ Some stops.NoMemory = e in cc

  -- no peer met too many
  pub never_many : (n : ℕ) → HavePlayed hub typist parts root rs (Some (stops.TooManyPeers n)) → ⊥
  never_many n (inl p) = none_many rs n (sym p.stopped)
  never_many n (inr m) = by m.why m.stopped m.unbegun
    where
      by : (why : NoJob) → Some (stops.TooManyPeers n) ≡ Some (stop_by_begin why) → IsUnbegun hub.limits root rs why →
          ⊥
      by (none.JournalFull k) e u = let no : Some (stops.TooManyPeers n) ≡ Some (stops.Full k) = e in cc
      by (none.TooManyPeers alive) e u = u
      by none.NoMemory e u = let no : Some (stops.TooManyPeers n) ≡ Some stops.NoMemory = e in cc

  -- and the method's job heard no bad event
  pub never_bad : ((trial : IsTrial typist parts t) →
      AllByRecursion (λ (r : Running). r.ended ≡ Err ends.BadEvent → ⊥) trial.jobs) →
      HavePlayed hub typist parts root rs (Some stops.BadEvent) → ⊥
  unfolding is_trial
  never_bad none_heard (inl p) = none_bad rs (none_heard (is_trial (Some stops.BadEvent) p)) (sym p.stopped)
  never_bad none_heard (inr m) = by m.why m.stopped
    where
      by : (why : NoJob) → Some stops.BadEvent ≡ Some (stop_by_begin why) → ⊥
      by (none.JournalFull k) e = let no : Some stops.BadEvent ≡ Some (stops.Full k) = e in cc
      by (none.TooManyPeers n) e = let no : Some stops.BadEvent ≡ Some (stops.TooManyPeers n) = e in cc
      by none.NoMemory e = let no : Some stops.BadEvent ≡ Some stops.NoMemory = e in cc

-- of the script that was read
pub told_script : (s : Script) (typist : TrialTypist) (r : Result ThreadTrial ThreadTrialEnd) →
    bad_line_of s ≡ None → typist ≡ typist_of s → ToldOf typist (users_of s) r → Tells s r
told_script s typist (Ok t) none is h =
    (none, subst (λ (x : TrialTypist). IsWhole x (users_of s) t) is h)
told_script s typist (Err (trial_ends.JournalFull kept t)) none is h =
    (none, subst (λ (x : TrialTypist). IsCut x (users_of s) kept t) is h)
told_script s typist (Err (trial_ends.BadLine number)) none is h = absurd h
told_script s typist (Err trial_ends.NoMemory) none is h = tt
