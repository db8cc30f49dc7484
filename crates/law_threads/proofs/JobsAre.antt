-- The jobs of a trial are jobs of one hub, as their laws ask for, each with the law of its end
use Rattle.std.proofs.Common.{◌≡◌, ℕ, zero, suc, ◌+◌, ◌%◌, ◌^◌, true, List, [], ◌∷◌, ◌++◌, map, Some, None, refl, sym, ap, subst, ◌∙◌, inl, inr, arith}
use Rattle.std.specs.Prelude.{◌⊎◌}
use Rattle.std.specs.List.{AllByRecursion, slice_get}
use Rattle.broker_model.specs.declared.journal.Entry.{Entry}
use Rattle.broker_model.specs.declared.journal.Entry.TheVariants as entries
use Rattle.trial_script.specs.declared.action.Action.{Action}
use Rattle.trial_script.specs.declared.script.Script.{Script}
use Rattle.turn_lock.specs.Pairs.{IsIn}
use Rattle.hub_lock.specs.declared.step.OuterStep.{OuterStep}
use Rattle.hub_lock.specs.Histories.{History}
use Rattle.hub_lock.specs.Passes.{HubId, PeerPass}
use Rattle.hub_calls.specs.Counted.{entries_of_pass, AreOfPasses}
use Rattle.trial_run.specs.declared.typist.TrialTypist.{TrialTypist}
use Rattle.trial_run.specs.Trial.{typist_of}
use Rattle.trial_laws.specs.MethodLaws.{IsWritten}
use Rattle.trial_typing.specs.declared.field_job.FieldJob.{FieldJob}
use Rattle.trial_typing.specs.Ends.{done_of}
use Rattle.trial_jobs.specs.declared.job.TrialJob.{TrialJob}
use Rattle.trial_jobs.specs.declared.job.TrialJob.TheVariants as jobs
use Rattle.trial_jobs.specs.MethodLaw.{MethodEnds}
use Rattle.trial_job_laws.specs.OneTrial.{IsOfPeer, IsOfField, IsOfTrial, is_take, IsOnePeer, IsCutTrial}
use Rattle.trial_job_laws.specs.ShellTold.{IsFocusOrKey}
use Rattle.trial_threads.specs.declared.running.Running.{Running}
use Rattle.trial_threads.specs.declared.trial.ThreadTrial.{ThreadTrial}
use Rattle.trial_threads.specs.Jobs.{HasEnd, HasRun}
use Rattle.trial_threads.specs.Back.{numbers_of, numbers_after, numbers_in}
use Rattle.trial_threads.specs.Peers.{IsPeer, PeerOf, ArePeers}
use Rattle.trial_threads.specs.Whole.{IsSeenBy, ArePasses, IsTrial, users_of}
use Rattle.law_threads.proofs.JobsShaped.{AreFields, HasShape, all_front, all_back, HasRunning, running_of}
use Rattle.trial_threads.proofs.JoinsOfJobs.{only_joins}
use Rattle.trial_threads.proofs.ScriptFits.{is_fresh, committed_front, short_front, orders_fit}

-- ---- peers

takes_are : (q : ℕ) (counts : List ℕ) →
    AllByRecursion (λ (e : Entry). is_take e ≡ true) (map (λ (n : ℕ). entries.Took q n) counts)
takes_are q [] = tt
takes_are q (n ∷ counts) = (refl, takes_are q counts)

pub one_peer : (h : History) (q : ℕ) (reader writer : PeerPass) → IsPeer h q reader writer → IsSeenBy h reader.seat →
    IsSeenBy h writer.seat → IsOnePeer h q reader writer
one_peer h q reader writer p r w = record {
  passes = record {
    reads_for = p.reads_for;
    writes_for = p.writes_for;
    reads = p.reads;
    writes = p.writes;
    reader_seen = r;
    writer_seen = w;
  };
  takes = subst (AllByRecursion (λ (e : Entry). is_take e ≡ true)) (sym p.takes.1) (takes_are q p.takes.0);
}

peers_front : (h : History) (q : ℕ) (xs ys : List Running) → ArePeers h q (xs ++ ys) → ArePeers h q xs
peers_front h q [] ys p = tt
peers_front h q (x ∷ xs) ys p = (p.0, peers_front h (q + 1) xs ys p.1)

peer_of : (h : History) (q : ℕ) (rs : List Running) (fs : List FieldJob) → AreFields rs fs → ArePeers h q rs →
    (k : ℕ) (f : FieldJob) → slice_get fs k ≡ Some f → IsPeer h (k + q) f.reader f.writer
peer_of h q [] [] are p k f e = (let no : None ≡ Some f = e in cc)
peer_of h q (r ∷ rs) (x ∷ fs) are p zero f e =
    subst (λ n. IsPeer h n f.reader f.writer) (let n : q ≡ 0 + q = omega arith in n)
    (subst (λ (y : FieldJob). IsPeer h q y.reader y.writer) (let same : x ≡ f = cc in same)
    (subst (PeerOf h q) are.0 p.0))
peer_of h q (r ∷ rs) (x ∷ fs) are p (suc k) f e =
    subst (λ n. IsPeer h n f.reader f.writer) (let n : k + (q + 1) ≡ suc k + q = omega arith in n)
    (peer_of h (q + 1) rs fs are.1 p.1 k f e)
peer_of h q [] (x ∷ fs) are p k f e = absurd are
peer_of h q (r ∷ rs) [] are p k f e = absurd are

-- ---- whose passes they are

abbrev pub IsAmong : List Running → Running → Type 0
IsAmong [] r = ⊥
IsAmong (x ∷ xs) r = (x ≡ r) ⊎ IsAmong xs r

record InJob (rs : List Running) (n : ℕ) : Type 0 where
  r : Running
  among : IsAmong rs r
  of : IsIn n (numbers_of r.job)

in_either : (n : ℕ) (xs ys : List ℕ) → IsIn n (xs ++ ys) → IsIn n xs ⊎ IsIn n ys
in_either n [] ys i = inr i
in_either n (x ∷ xs) ys (inl e) = inl (inl e)
in_either n (x ∷ xs) ys (inr i) = more (in_either n xs ys i)
  where
    more : IsIn n xs ⊎ IsIn n ys → IsIn n (x ∷ xs) ⊎ IsIn n ys
    more (inl j) = inl (inr j)
    more (inr j) = inr j

in_jobs : (n : ℕ) (ns : List ℕ) (rs : List Running) → IsIn n (numbers_after ns rs) → IsIn n ns ⊎ InJob rs n
in_jobs n ns [] i = inl i
in_jobs n ns (r ∷ rs) i = by (in_jobs n (numbers_of r.job ++ ns) rs i)
  where
    by : IsIn n (numbers_of r.job ++ ns) ⊎ InJob rs n → IsIn n ns ⊎ InJob (r ∷ rs) n
    by (inr k) = inr (record { r = k.r; among = inr k.among; of = k.of })
    by (inl j) = here (in_either n (numbers_of r.job) ns j)
      where
        here : IsIn n (numbers_of r.job) ⊎ IsIn n ns → IsIn n ns ⊎ InJob (r ∷ rs) n
        here (inl a) = inr (record { r = r; among = inl refl; of = a })
        here (inr b) = inl b

among_either : (xs ys : List Running) (r : Running) → IsAmong (xs ++ ys) r → IsAmong xs r ⊎ IsAmong ys r
among_either [] ys r i = inr i
among_either (x ∷ xs) ys r (inl e) = inl (inl e)
among_either (x ∷ xs) ys r (inr i) = more (among_either xs ys r i)
  where
    more : IsAmong xs r ⊎ IsAmong ys r → IsAmong (x ∷ xs) r ⊎ IsAmong ys r
    more (inl j) = inl (inr j)
    more (inr j) = inr j

two_of : (n : ℕ) (reader writer : PeerPass) → IsIn n (writer.seat.number ∷ reader.seat.number ∷ []) →
    IsOfPeer reader writer n
two_of n reader writer (inl e) = inr (sym e)
two_of n reader writer (inr (inl e)) = inl (sym e)
two_of n reader writer (inr (inr i)) = absurd i

of_fields : (n : ℕ) (rs : List Running) (fs : List FieldJob) (r : Running) → AreFields rs fs → IsAmong rs r →
    IsIn n (numbers_of r.job) → IsOfField fs n
of_fields n [] [] r are i of = absurd i
of_fields n (x ∷ rs) (f ∷ fs) r are (inl e) of = record {
  k = 0;
  job = f;
  is = refl;
  of = two_of n f.reader f.writer
      (subst (λ (j : TrialJob). IsIn n (numbers_of j)) (ap (λ (y : Running). y.job) (sym e) ∙ are.0) of);
}
of_fields n (x ∷ rs) (f ∷ fs) r are (inr i) of =
    let k = of_fields n rs fs r are.1 i of in record { k = suc k.k; job = k.job; is = k.is; of = k.of }
of_fields n [] (f ∷ fs) r are i of = absurd are
of_fields n (x ∷ rs) [] r are i of = absurd are

whose : (n : ℕ) (rs : List Running) (number time : ℕ) (all : List Action) (s : HasShape rs number time all) →
    IsIn n (0 ∷ numbers_in rs) → IsOfTrial s.method s.rest.fields s.rest.shell n
whose n rs number time all s (inl e) = inl (sym e)
whose n rs number time all s (inr i) = by (in_jobs n [] rs i)
  where
    front_or_last : (r : Running) → IsIn n (numbers_of r.job) →
        IsAmong s.rest.front r ⊎ IsAmong (s.rest.last ∷ []) r → IsOfTrial s.method s.rest.fields s.rest.shell n
    front_or_last r of (inl f) = inr (inr (inr (of_fields n s.rest.front s.rest.fields r s.rest.are f of)))
    front_or_last r of (inr (inl e)) =
        shell_one (subst (λ (j : TrialJob). IsIn n (numbers_of j))
        (ap (λ (y : Running). y.job) (sym e) ∙ s.rest.last_is) of)
      where
        shell_one : IsIn n (s.rest.shell.pass.number ∷ []) → IsOfTrial s.method s.rest.fields s.rest.shell n
        shell_one (inl q) = inr (inl (sym q))
        shell_one (inr j) = absurd j
    front_or_last r of (inr (inr j)) = absurd j

    in_all : (r : Running) → IsIn n (numbers_of r.job) → IsAmong (s.first ∷ (s.rest.front ++ s.rest.last ∷ [])) r →
        IsOfTrial s.method s.rest.fields s.rest.shell n
    in_all r of (inl e) =
        inr (inr (inl (two_of n s.method.reader s.method.writer
        (subst (λ (j : TrialJob). IsIn n (numbers_of j)) (ap (λ (y : Running). y.job) (sym e) ∙ s.first_is) of))))
    in_all r of (inr j) = front_or_last r of (among_either s.rest.front (s.rest.last ∷ []) r j)

    by : IsIn n [] ⊎ InJob rs n → IsOfTrial s.method s.rest.fields s.rest.shell n
    by (inl j) = absurd j
    by (inr k) =
        in_all k.r k.of (subst (λ (l : List Running). IsAmong l k.r)
        (s.is ∙ ap (λ (l : List Running). s.first ∷ l) s.rest.is) k.among)

each_of : (rs : List Running) (number time : ℕ) (all : List Action) (s : HasShape rs number time all) (h : History) →
    AreOfPasses (0 ∷ numbers_in rs) h →
    AllByRecursion (λ (x : ℕ × OuterStep). IsOfTrial s.method s.rest.fields s.rest.shell x.0) h
each_of rs number time all s [] of = tt
each_of rs number time all s (x ∷ h) of =
    (whose x.0 rs number time all s of.0, each_of rs number time all s h of.1)

-- ---- one job of it

-- what holds of a job's running, however it ended
pub record Runs (hub : HubId) (typist : TrialTypist) (h : History) (r : Running) : Type 0 where
  pub run : HasRun hub typist r
  pub seen : ArePasses h r.job

all_run : (hub : HubId) (typist : TrialTypist) (h : History) (rs : List Running) →
    AllByRecursion (HasRun hub typist) rs → AllByRecursion (λ (r : Running). ArePasses h r.job) rs →
    AllByRecursion (Runs hub typist h) rs
all_run hub typist h [] a b = tt
all_run hub typist h (r ∷ rs) a b = (record { run = a.0; seen = b.0 }, all_run hub typist h rs a.1 b.1)

-- ---- all of them, by their shape

-- what holds of each, where it stands
pub record HaveRuns (hub : HubId) (typist : TrialTypist) (h : History) (rs : List Running) (number time : ℕ)
    (all : List Action) (s : HasShape rs number time all) : Type 0 where
  pub first : Runs hub typist h s.first
  pub last : Runs hub typist h s.rest.last
  pub field : (k : ℕ) (job : FieldJob) → slice_get s.rest.fields k ≡ Some job → HasRunning (Runs hub typist h) job
  pub method_peer : IsOnePeer h 1 s.method.reader s.method.writer
  pub field_peers : (k : ℕ) (job : FieldJob) → slice_get s.rest.fields k ≡ Some job →
      IsOnePeer h (k + 2) job.reader job.writer

have_runs : (hub : HubId) (typist : TrialTypist) (h : History) (rs : List Running) (number time : ℕ)
    (all : List Action) (s : HasShape rs number time all) → AllByRecursion (HasRun hub typist) rs →
    AllByRecursion (λ (r : Running). ArePasses h r.job) rs → ArePeers h 1 rs →
    HaveRuns hub typist h rs number time all s
have_runs hub typist h rs number time all s run seen peers =
    let shape : rs ≡ s.first ∷ (s.rest.front ++ s.rest.last ∷ []) =
    s.is ∙ ap (λ (l : List Running). s.first ∷ l) s.rest.is in
    let each : AllByRecursion (Runs hub typist h) (s.first ∷ (s.rest.front ++ s.rest.last ∷ [])) =
    subst (AllByRecursion (Runs hub typist h)) shape (all_run hub typist h rs run seen) in
    let of : ArePeers h 1 (s.first ∷ (s.rest.front ++ s.rest.last ∷ [])) = subst (ArePeers h 1) shape peers in
    let fronts : AllByRecursion (Runs hub typist h) s.rest.front =
    all_front (Runs hub typist h) s.rest.front (s.rest.last ∷ []) each.1 in
    let field = running_of (Runs hub typist h) s.rest.front s.rest.fields s.rest.are fronts in
    let method_seen : ArePasses h (jobs.Method s.method) = subst (ArePasses h) s.first_is each.0.seen in
    record {
      first = each.0;
      last = (all_back (Runs hub typist h) s.rest.front (s.rest.last ∷ []) each.1).0;
      field = field;
      method_peer = one_peer h 1 s.method.reader s.method.writer (subst (PeerOf h 1) s.first_is of.0) method_seen.0
          method_seen.1;
      field_peers = λ k job is.
          (let r = field k job is in
          let passes : ArePasses h (jobs.Field job) = subst (ArePasses h) r.job r.holds.seen in
          one_peer h (k + 2) job.reader job.writer
          (peer_of h 2 s.rest.front s.rest.fields s.rest.are
          (peers_front h 2 s.rest.front (s.rest.last ∷ []) of.1) k job is) passes.0 passes.1);
    }

-- ---- the jobs of a script's trial

pub jobs_are : (s : Script) (t : ThreadTrial) → IsWritten s → (w : IsTrial (typist_of s) (users_of s) t) →
    (p : HasShape w.jobs s.fields (s.first_line % 2 ^ 32) s.actions) →
    IsCutTrial w.hub.limits w.h (typist_of s) p.method p.rest.fields p.rest.shell
jobs_are s t written w p =
    let hub : HubId = w.hub in
    let h : History = w.h in
    let typist : TrialTypist = typist_of s in
    let time : ℕ = s.first_line % 2 ^ 32 in
    let k : HaveRuns hub typist h w.jobs s.fields time s.actions p =
    have_runs hub typist h w.jobs s.fields time s.actions p w.run w.seen w.peers in
    let method_ends : MethodEnds hub.limits typist p.method (done_of p.first.ended) =
    subst (λ (j : TrialJob). HasEnd hub.limits typist j p.first.ended) p.first_is k.first.run.ends in
    record {
      jobs = record {
        lawful = w.lawful;
        method_peer = k.method_peer;
        field_peers = k.field_peers;
        shell_seen = subst (ArePasses h) p.rest.last_is k.last.seen;
        joins = only_joins (entries_of_pass 0 h) w.jobs w.root;
        each = each_of w.jobs s.fields time s.actions p h w.passes;
        fresh = is_fresh s written;
        short = short_front p.method s.actions p.batches written.actions
            (committed_front hub.limits typist p.method (done_of p.first.ended) method_ends);
        keys = subst (AllByRecursion IsFocusOrKey) (sym p.rest.steps) (orders_fit time s.actions);
      };
      shell_ends = (
        done_of p.rest.last.ended,
        subst (λ (j : TrialJob). HasEnd hub.limits typist j p.rest.last.ended) p.rest.last_is k.last.run.ends,
      );
      method_ends = (done_of p.first.ended, method_ends);
      field_ends = λ n job is. (let r = k.field n job is in (
        done_of r.r.ended,
        subst (λ (j : TrialJob). HasEnd hub.limits typist j r.r.ended) r.job r.holds.run.ends,
      ));
    }
