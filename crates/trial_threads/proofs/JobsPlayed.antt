-- What begins, runs and is drained is played
use Rattle.std.proofs.Common.{◌≡◌, ◌++◌, [], ◌∷◌, ℕ, List, Bool, Option, Some, None, Result, Ok, Err, refl, sym, ap, subst, ◌∙◌, inl, inr}
use Rattle.std.specs.Prelude.{IfOk}
use Rattle.std.specs.List.{AllByRecursion}
use Rattle.broker_model.specs.declared.journal.Kept.{Kept}
use Rattle.hub_lock.specs.Passes.{HubId, PassSeat}
use Rattle.trial_run.specs.declared.typist.TrialTypist.{TrialTypist}
use Rattle.trial_typing.specs.declared.job_end.JobEnd.{JobEnd}
use Rattle.trial_typing.specs.declared.job_end.JobEnd.TheVariants as ends
use Rattle.trial_threads.specs.declared.no_job.NoJob.{NoJob}
use Rattle.trial_threads.specs.declared.running.Running.{Running}
use Rattle.trial_threads.specs.declared.stop.Stop.{Stop}
use Rattle.trial_threads.specs.declared.stop.Stop.TheVariants as stops
use Rattle.trial_threads.specs.Users.{Part}
use Rattle.trial_threads.specs.Jobs.{IsIdle, AreIdle, IsJobOf, AreJobsOf, TypeAs, HasRun, AreRun, IsRun, parts_in}
use Rattle.trial_threads.specs.BegunJobs.{HaveBegun, IsUnbegun}
use Rattle.trial_threads.specs.Drained.{AreDrained, GoesOn, HasRest, least_for_method, least_for_fields}
use Rattle.trial_threads.specs.Stops.{stop_by_begin, stop_by_job, stop_or, first_stop_in}
use Rattle.trial_threads.specs.Peers.{AllJoined}
use Rattle.trial_threads.specs.Whole.{IsDone, IsStopped, HaveDrained, HavePlayed}
use Rattle.trial_threads.proofs.PeersStay.{joined_keep}
use Rattle.trial_threads.proofs.JobsListed.{all_by, pairs_carry, parts_same, run_each}
use Rattle.trial_threads.proofs.JobsRun.{ready_of, of_kept}

pub have_drained : (hub : HubId) (typist : TrialTypist) (before mid after : List Running) → TypeAs typist before →
    AreRun hub before mid → AreDrained hub mid after → HaveDrained hub typist before after
have_drained hub typist before mid after types run d =
    let each = run_each hub typist before mid types run in record {
      users = parts_same (GoesOn hub) mid after (λ b a g. g.same) d.goes
          ∙ parts_same (IsRun hub) before mid (λ b a g. g.same) run;
      joined = λ root j. joined_keep hub.limits (GoesOn hub) root mid after (λ b a g. g.keeps) d.goes
          (joined_keep hub.limits (IsRun hub) root before mid (λ b a g. g.keeps) run j);
      run = pairs_carry (GoesOn hub) (HasRun hub typist) (HasRun hub typist) mid after (λ b a g h. g.run typist h)
          d.goes each;
      rested = d.rests typist each;
    }

pub run_of : (hub : HubId) (a b : List Running) → AreIdle hub a → AreRun hub a b → AreJobsOf hub b
run_of hub a b idle run =
    pairs_carry (IsRun hub) (IsIdle hub) (λ (r : Running). IsJobOf hub r.job) a b
    (λ x y r i. of_kept hub x.job y.job (ready_of hub x.job i.ready) r.keeps) run idle

pub idle_of : (hub : HubId) (rs : List Running) → AreIdle hub rs → AreJobsOf hub rs
idle_of hub rs idle =
    all_by (IsIdle hub) (λ (r : Running). IsJobOf hub r.job) rs (λ r i. ready_of hub r.job i.ready) idle

-- ---- how they ended

some_none : {A : Type 0} (x : A) → Some x ≡ None → ⊥
some_none {A} x e = subst (λ (o : Option A). IsSomething o) e tt
  where
    IsSomething : Option A → Type 0
    IsSomething (Some y) = Unit {0}
    IsSomething None = ⊥

-- the first of them, by how it ended

done_first : (r : Running) (rs : List Running) (x : Result Bool JobEnd) → r.ended ≡ x →
    first_stop_in (r ∷ rs) ≡ None → (first_stop_in rs ≡ None → AllByRecursion IsDone rs) →
    AllByRecursion IsDone (r ∷ rs)
done_first r rs (Ok goes_on) is e more =
    ((goes_on, is), more (sym (ap (λ y. stop_or y (first_stop_in rs)) is) ∙ e))
done_first r rs (Err end) is e more =
    absurd (some_none (stop_by_job end) (sym (ap (λ y. stop_or y (first_stop_in rs)) is) ∙ e))

pub done_each : (rs : List Running) → first_stop_in rs ≡ None → AllByRecursion IsDone rs
done_each [] e = tt
done_each (r ∷ rs) e = done_first r rs r.ended refl e (done_each rs)

pub rest_each : (hub : HubId) (typist : TrialTypist) (a b : List Running) (rs : List Running) → AllByRecursion IsDone rs
    → AllByRecursion (λ (r : Running). IfOk r.ended (λ goes_on.
    HasRest hub.limits typist (least_for_method a) (least_for_fields b) r.job)) rs →
    AllByRecursion (λ (r : Running). HasRest hub.limits typist (least_for_method a) (least_for_fields b) r.job) rs
rest_each hub typist a b [] done h = tt
rest_each hub typist a b (r ∷ rs) done h = (
  subst (λ (x : Result Bool JobEnd). IfOk x (λ goes_on.
      HasRest hub.limits typist (least_for_method a) (least_for_fields b) r.job)) done.0.1 h.0,
  rest_each hub typist a b rs done.1 h.1,
)

-- which end of a job stops it so

full_by : (end : JobEnd) (kept : Kept) → Some (stop_by_job end) ≡ Some (stops.Full kept) →
    end ≡ ends.JournalFull kept
full_by (ends.JournalFull k) kept e = let same : k ≡ kept = cc in ap ends.JournalFull same
full_by ends.BadEvent kept e = absurd (let no : Some stops.BadEvent ≡ Some (stops.Full kept) = e in cc)
full_by ends.NoMemory kept e = absurd (let no : Some stops.NoMemory ≡ Some (stops.Full kept) = e in cc)

bad_by : (end : JobEnd) → Some (stop_by_job end) ≡ Some stops.BadEvent → end ≡ ends.BadEvent
bad_by (ends.JournalFull k) e = absurd (let no : Some (stops.Full k) ≡ Some stops.BadEvent = e in cc)
bad_by ends.BadEvent e = refl
bad_by ends.NoMemory e = absurd (let no : Some stops.NoMemory ≡ Some stops.BadEvent = e in cc)

many_by : (end : JobEnd) (n : ℕ) → Some (stop_by_job end) ≡ Some (stops.TooManyPeers n) → ⊥
many_by (ends.JournalFull k) n e = let no : Some (stops.Full k) ≡ Some (stops.TooManyPeers n) = e in cc
many_by ends.BadEvent n e = let no : Some stops.BadEvent ≡ Some (stops.TooManyPeers n) = e in cc
many_by ends.NoMemory n e = let no : Some stops.NoMemory ≡ Some (stops.TooManyPeers n) = e in cc

-- a job met a full journal

stopped_first : (r : Running) (rs : List Running) (kept : Kept) (x : Result Bool JobEnd) → r.ended ≡ x →
    first_stop_in (r ∷ rs) ≡ Some (stops.Full kept) →
    (first_stop_in rs ≡ Some (stops.Full kept) → IsStopped kept rs) → IsStopped kept (r ∷ rs)
stopped_first r rs kept (Ok goes_on) is e more =
    inr (more (sym (ap (λ y. stop_or y (first_stop_in rs)) is) ∙ e))
stopped_first r rs kept (Err end) is e more =
    inl (is ∙ ap (λ (x : JobEnd). Err x) (full_by end kept (sym (ap (λ y. stop_or y (first_stop_in rs)) is) ∙ e)))

pub stopped_each : (rs : List Running) (kept : Kept) → first_stop_in rs ≡ Some (stops.Full kept) → IsStopped kept rs
stopped_each [] kept e = absurd (some_none (stops.Full kept) (sym e))
stopped_each (r ∷ rs) kept e = stopped_first r rs kept r.ended refl e (stopped_each rs kept)

-- none had a bad event

bad_first : (r : Running) (rs : List Running) (x : Result Bool JobEnd) → r.ended ≡ x →
    first_stop_in (r ∷ rs) ≡ Some stops.BadEvent → (r.ended ≡ Err ends.BadEvent → ⊥) →
    (first_stop_in rs ≡ Some stops.BadEvent → ⊥) → ⊥
bad_first r rs (Ok goes_on) is e none more = more (sym (ap (λ y. stop_or y (first_stop_in rs)) is) ∙ e)
bad_first r rs (Err end) is e none more =
    none (is ∙ ap (λ (x : JobEnd). Err x) (bad_by end (sym (ap (λ y. stop_or y (first_stop_in rs)) is) ∙ e)))

pub none_bad : (rs : List Running) → AllByRecursion (λ (r : Running). r.ended ≡ Err ends.BadEvent → ⊥) rs →
    first_stop_in rs ≡ Some stops.BadEvent → ⊥
none_bad [] none e = some_none stops.BadEvent (sym e)
none_bad (r ∷ rs) none e = bad_first r rs r.ended refl e none.0 (none_bad rs none.1)

-- and none met too many peers

many_first : (r : Running) (rs : List Running) (n : ℕ) (x : Result Bool JobEnd) → r.ended ≡ x →
    first_stop_in (r ∷ rs) ≡ Some (stops.TooManyPeers n) → (first_stop_in rs ≡ Some (stops.TooManyPeers n) → ⊥) → ⊥
many_first r rs n (Ok goes_on) is e more = more (sym (ap (λ y. stop_or y (first_stop_in rs)) is) ∙ e)
many_first r rs n (Err end) is e more = many_by end n (sym (ap (λ y. stop_or y (first_stop_in rs)) is) ∙ e)

pub none_many : (rs : List Running) (n : ℕ) → first_stop_in rs ≡ Some (stops.TooManyPeers n) → ⊥
none_many [] n e = some_none (stops.TooManyPeers n) (sym e)
none_many (r ∷ rs) n e = many_first r rs n r.ended refl e (none_many rs n)

-- ---- all began, or one didn't

pub played_all : (hub : HubId) (typist : TrialTypist) (parts : List Part) (root : PassSeat) (before after : List Running)
    → HaveBegun hub typist parts before → HaveDrained hub typist before after → AllJoined root before →
    HavePlayed hub typist parts root after (first_stop_in after)
played_all hub typist parts root before after b d joined = inl (record {
  users = d.users ∙ b.users;
  run = d.run;
  stopped = refl;
  rested = d.rested;
  joined = d.joined root joined;
})

pub played_first : (hub : HubId) (typist : TrialTypist) (parts : List Part) (root : PassSeat) (rs : List Running)
    (why : NoJob) → AreIdle hub rs → IsUnbegun hub.limits root rs why →
    HavePlayed hub typist parts root rs (Some (stop_by_begin why))
played_first hub typist parts root rs why idle u =
    inr (record { idle = idle; why = why; stopped = refl; unbegun = u })
