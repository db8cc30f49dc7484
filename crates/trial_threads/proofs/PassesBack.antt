-- Passes that came back stay so, whatever the root sees since
use Rattle.std.proofs.Common.{◌≡◌, ◌++◌, [], ◌∷◌, ℕ, ◌-◌, ◌+◌, ◌≤◌, ◌<◌, List, length, take, drop, get_or, refl, sym, ap, ap₂, subst, ◌∙◌, inl, inr, arith, append_assoc, append-nil}
use Rattle.std.specs.List.{AllByRecursion}
use Rattle.std.proofs.lemmas.List.{length-append, drop_more}
use Rattle.trial_client_logs.specs.declared.entry.FieldEntry.{FieldEntry}
use Rattle.trial_client_logs.specs.declared.method_log.MethodEntry.{MethodEntry}
use Rattle.turn_lock.specs.Pairs.{HasSeen, IsIn}
use Rattle.hub_lock.specs.Seats.{met_with, IsMeeting, IsTallied}
use Rattle.hub_lock.specs.Passes.{PassSeat}
use Rattle.hub_calls.proofs.PassesCounted.{seen_stays}
use Rattle.trial_threads.specs.Begun as begun
use Rattle.trial_typing.specs.declared.field_job.FieldJob.{FieldJob}
use Rattle.trial_jobs.specs.declared.method_job.MethodJob.{MethodJob}
use Rattle.trial_jobs.specs.declared.job.TrialJob.{TrialJob}
use Rattle.trial_jobs.specs.declared.job.TrialJob.TheVariants as jobs
use Rattle.trial_threads.specs.declared.running.Running.{Running}
use Rattle.trial_threads.specs.Jobs.{field_logs, field_log_of, method_log_in, method_log_of}
use Rattle.trial_threads.specs.Back.{numbers_of, numbers_after, numbers_in, IsBack, JobIsBack, AreBack, SeesOn, TookBack, TookAllBack}
use Rattle.trial_threads.proofs.JobsListed.{all_by, all_both}

stays_back : (before after pass : PassSeat) → SeesOn before after → IsBack before pass → IsBack after pass
stays_back before after pass goes b = record {
  taken = goes.taken pass.number b.taken;
  seen = seen_stays after.seen before.seen pass.seen pass.number (goes.settled pass.number b.taken) b.seen;
}

pub job_stays : (before after : PassSeat) (job : TrialJob) → SeesOn before after → JobIsBack before job →
    JobIsBack after job
job_stays before after (jobs.Field job) goes b =
    (stays_back before after job.reader.seat goes b.0, stays_back before after job.writer.seat goes b.1)
job_stays before after (jobs.Method job) goes b =
    (stays_back before after job.reader.seat goes b.0, stays_back before after job.writer.seat goes b.1)
job_stays before after (jobs.Shell job) goes b = stays_back before after job.pass goes b

pub all_stay : (before after : PassSeat) (all : List Running) → SeesOn before after → AreBack before all →
    AreBack after all
all_stay before after all goes b =
    all_by (λ (r : Running). JobIsBack before r.job) (λ (r : Running). JobIsBack after r.job) all
    (λ r h. job_stays before after r.job goes h) b

pub sees_both : (a b c : PassSeat) → SeesOn a b → SeesOn b c → SeesOn a c
sees_both a b c one two = record {
  number = two.number ∙ one.number;
  named = two.named ∙ one.named;
  mine = seen_stays c.seen b.seen a.seen a.number
      (subst (λ (n : ℕ). HasSeen c.seen n b.seen) one.number two.mine) one.mine;
  taken = λ n i. two.taken n (one.taken n i);
  settled = λ n i. seen_stays c.seen b.seen a.seen n (two.settled n (one.taken n i)) (one.settled n i);
}

pub sees_none : (a : PassSeat) → SeesOn a a
sees_none a = record {
  number = refl;
  named = refl;
  mine = ([], sym (append-nil a.seen), refl);
  taken = λ n i. i;
  settled = λ n i. ([], sym (append-nil a.seen), refl);
}

-- one meeting
pub met_sees : (root pass after : PassSeat) → after ≡ met_with root pass → IsMeeting root pass after.seen →
    SeesOn root after
met_sees root pass after is m = record {
  number = ap (λ (s : PassSeat). s.number) is;
  named = ap (λ (s : PassSeat). s.named) is;
  mine = m.mine;
  taken = λ n i. subst (λ (s : PassSeat). IsIn n s.taken) (sym is) (inr i);
  settled = m.taken;
}

pub met_back : (root pass after : PassSeat) → after ≡ met_with root pass → IsMeeting root pass after.seen →
    IsBack after pass
met_back root pass after is m = record {
  taken = subst (λ (s : PassSeat). IsIn pass.number s.taken) (sym is) (inl refl);
  seen = m.theirs;
}

pub shell_back : (root after pass : PassSeat) → after ≡ met_with root pass → IsMeeting root pass after.seen →
    IsTallied after → (job : TrialJob) → JobIsBack after job ≡ IsBack after pass →
    numbers_of job ≡ pass.number ∷ [] → TookBack root after job
shell_back root after pass is m tallied job same number = record {
  sees = met_sees root pass after is m;
  back = subst (λ (P : Type 0). P) (sym same) (met_back root pass after is m);
  out = ap (λ (s : PassSeat). s.out) is ∙ ap (λ (ns : List ℕ). root.out - length ns) (sym number);
  numbers = ap (λ (s : PassSeat). s.taken) is ∙ ap (λ (ns : List ℕ). ns ++ root.taken) (sym number);
  tallied = tallied;
}

-- two of a peer
pub record TookBoth (root after reader writer : PassSeat) : Type 0 where
  pub sees : SeesOn root after
  pub reads : IsBack after reader
  pub writes : IsBack after writer
  pub out : after.out ≡ root.out - 2
  pub numbers : after.taken ≡ writer.number ∷ reader.number ∷ root.taken

pub both_back : (root after reader writer : PassSeat) → begun.AreBack root after reader writer →
    TookBoth root after reader writer
both_back root after reader writer b =
    let mid = met_with root reader in
    let one = met_sees root reader mid refl b.first in
    let two = met_sees mid writer after b.left b.then in record {
      sees = sees_both root mid after one two;
      reads = stays_back mid after reader two (met_back root reader mid refl b.first);
      writes = met_back mid writer after b.left b.then;
      out = ap (λ (s : PassSeat). s.out) b.left ∙ omega arith;
      numbers = ap (λ (s : PassSeat). s.taken) b.left;
    }

pub field_took : (root after : PassSeat) (job : FieldJob) →
    begun.AreBack root after job.reader.seat job.writer.seat → TookBack root after (jobs.Field job)
field_took root after job b = let k = both_back root after job.reader.seat job.writer.seat b in record {
  sees = k.sees;
  back = (k.reads, k.writes);
  out = k.out;
  numbers = k.numbers;
  tallied = b.tallied;
}

pub method_took : (root after : PassSeat) (job : MethodJob) →
    begun.AreBack root after job.reader.seat job.writer.seat → TookBack root after (jobs.Method job)
method_took root after job b = let k = both_back root after job.reader.seat job.writer.seat b in record {
  sees = k.sees;
  back = (k.reads, k.writes);
  out = k.out;
  numbers = k.numbers;
  tallied = b.tallied;
}

-- the jobs so far, and one more

pub numbers_more : (ns : List ℕ) (rs : List Running) (r : Running) →
    numbers_after ns (rs ++ r ∷ []) ≡ numbers_of r.job ++ numbers_after ns rs
numbers_more ns [] r = refl
numbers_more ns (x ∷ rs) r = numbers_more (numbers_of x.job ++ ns) rs r

pub logs_more : (rs : List Running) (r : Running) → field_logs (rs ++ r ∷ []) ≡ field_logs rs ++ field_log_of r.job
logs_more [] r = append-nil (field_log_of r.job)
logs_more (x ∷ rs) r =
    ap (λ (l : List (List FieldEntry)). field_log_of x.job ++ l) (logs_more rs r)
    ∙ sym (append_assoc (field_log_of x.job) (field_logs rs) (field_log_of r.job))

pub method_more : (rs : List Running) (r : Running) (log : List MethodEntry) →
    method_log_in (rs ++ r ∷ []) log ≡ method_log_of r.job (method_log_in rs log)
method_more [] r log = refl
method_more (x ∷ rs) r log = method_more rs r (method_log_of x.job log)

pub took_none : (a : PassSeat) → TookAllBack a a [] [] []
took_none a = record {
  sees = sees_none a;
  back = tt;
  out = omega arith;
  numbers = refl;
  tallied = λ some. absurd (omega (arith, some));
  logs = refl;
  method_log = refl;
}

pub took_more : (a b c : PassSeat) (rs : List Running) (r : Running) (fields fields' : List (List FieldEntry))
    (method method' : List MethodEntry) → TookAllBack a b rs fields method → TookBack b c r.job →
    fields' ≡ fields ++ field_log_of r.job → method' ≡ method_log_of r.job method →
    TookAllBack a c (rs ++ r ∷ []) fields' method'
took_more a b c rs r fields fields' method method' h one is-fields is-method = record {
  sees = sees_both a b c h.sees one.sees;
  back = all_both (λ (x : Running). JobIsBack c x.job) rs (r ∷ []) (all_stay b c rs one.sees h.back) (one.back, tt);
  out =
      let ns = numbers_more [] rs r in
      let l = ap length ns in
      let two = length-append (numbers_of r.job) (numbers_in rs) in
      let x = one.out in
      let y = h.out in omega arith;
  numbers = one.numbers ∙ ap (λ (ns : List ℕ). numbers_of r.job ++ ns) h.numbers ∙ sym (numbers_more a.taken rs r);
  tallied = λ some. one.tallied;
  logs = is-fields ∙ ap (λ (l : List (List FieldEntry)). l ++ field_log_of r.job) h.logs ∙ sym (logs_more rs r);
  method_log = is-method ∙ ap (method_log_of r.job) h.method_log ∙ sym (method_more rs r []);
}

-- the first of those that are left is taken out
pub first_out : (xs ys : List Running) (x : Running) → 0 < length xs → x ≡ get_or xs 0 x →
    ys ≡ take 0 xs ++ drop (0 + 1) xs → xs ≡ x ∷ ys
first_out xs ys x some is rest =
    drop_more xs 0 x some ∙ ap₂ (λ (y : Running) (l : List Running). y ∷ l) (sym is) (sym rest)
