-- What a drain leaves of a job
use Rattle.std.proofs.Common.{◌≡◌, ◌≤◌, ◌++◌, [], ◌∷◌, ℕ, Bool, true, false, List, length, map, Result, Ok, Err, refl, sym, ap, subst, ◌∙◌, inl, inr, arith, append-nil}
use Rattle.std.specs.Prelude.{IfOk, max}
use Rattle.std.specs.List.{AllByRecursion}
use Rattle.std.proofs.lemmas.List.{take_all}
use Rattle.broker_steps.specs.declared.limits.Limits.{Limits}
use Rattle.trial_field.specs.Log.{Entry, Batch}
use Rattle.trial_script.specs.declared.action.FieldEdit.{FieldEdit}
use Rattle.client_side.specs.FieldLog.{sends_of}
use Rattle.client_side.specs.Messages.{Sent, spelled, field_setup}
use Rattle.trial_client_logs.specs.Logs.{edit_of, field_log}
use Rattle.hub_lock.specs.Passes.{HubId, journal_seen}
use Rattle.trial_run.specs.declared.typist.TrialTypist.{TrialTypist}
use Rattle.trial_typing.specs.declared.field_job.FieldJob.{FieldJob}
use Rattle.trial_typing.specs.declared.job_end.JobEnd.{JobEnd}
use Rattle.trial_typing.specs.Ends.{done_of}
use Rattle.hub_calls.specs.Submitted.{entries_in}
use Rattle.hub_calls.specs.Taken.{HasAll}
use Rattle.trial_typing.specs.FieldGoing.{FieldKeeps, IsFieldGoing, IsFieldAt, IsFieldPlayed, HasFieldRest, FieldRests}
use Rattle.trial_typing.specs.FieldLaw.{first_edits, IsFieldDone, FieldEnds}
use Rattle.trial_typing.specs.Sending.{HasMade, HasSent, HasSentFront, IsPast}
use Rattle.trial_typing.proofs.FieldDone as fields
use Rattle.trial_typing.proofs.FieldHeard.{are_all}
use Rattle.trial_typing.proofs.FieldKept.{keeps_none, saw_nothing}
use Rattle.trial_jobs.specs.declared.method_job.MethodJob.{MethodJob}
use Rattle.trial_jobs.specs.declared.job.TrialJob.{TrialJob}
use Rattle.trial_jobs.specs.declared.job.TrialJob.TheVariants as jobs
use Rattle.trial_jobs.specs.MethodGoing.{MethodKeeps, IsMethodAt, IsMethodPlayed, MethodGoes}
use Rattle.trial_jobs.specs.MethodLaw.{rounds, first_batches, MethodEnds}
use Rattle.trial_jobs.proofs.MethodDone.{same_first}
use Rattle.trial_jobs.proofs.MethodPlayed.{busy_at, played_rest, played_over, played_done}
use Rattle.hub_calls.proofs.PassesGrow.{saw_none}
use Rattle.trial_threads.specs.declared.running.Running.{Running}
use Rattle.trial_threads.specs.Users.{of_field, of_method}
use Rattle.trial_threads.specs.Jobs.{HasRun, KeepsPasses, IsJobOf, AreJobsOf, Pairwise}
use Rattle.trial_threads.specs.Drained.{seen_by_shell, seen_by_method, most_of, least_for_method, least_for_fields, IsFieldDrained, IsMethodDrained, HasRest, MethodRest, FieldRest, GoesOn, DrainsMethod, DrainsField, AreDrained}
use Rattle.trial_threads.proofs.JobsListed.{pairs_step, pairs_carry}
use Rattle.trial_threads.proofs.JobsRun.{of_kept, keeps_both}

abbrev with_end : TrialJob → Result Bool JobEnd → Running
with_end job r = record { job = job; ended = r }

-- ---- a job that stays as it is

pub keeps_itself : (limits : Limits) (job : TrialJob) → KeepsPasses limits job job
keeps_itself limits (jobs.Field job) = saw_nothing limits job.reader job.writer
keeps_itself limits (jobs.Method job) = saw_nothing limits job.reader job.writer
keeps_itself limits (jobs.Shell job) = (refl, saw_none limits job.pass.seen)

pub stays : (hub : HubId) (r : Running) → GoesOn hub r r
stays hub r = record {
  run = λ typist h. h;
  same = refl;
  keeps = keeps_itself hub.limits r.job;
  shell = refl;
}

-- nothing is asked where it is another's, or wasn't done

no_method : (hub : HubId) (typist : TrialTypist) (least : ℕ) (job : TrialJob) (r : Result Bool JobEnd) →
    MethodRest hub.limits typist least job → IfOk r (λ goes_on. MethodRest hub.limits typist least job)
no_method hub typist least job (Ok goes_on) h = h
no_method hub typist least job (Err end) h = tt

no_field : (hub : HubId) (least : ℕ) (job : TrialJob) (r : Result Bool JobEnd) →
    FieldRest hub.limits least job → IfOk r (λ goes_on. FieldRest hub.limits least job)
no_field hub least job (Ok goes_on) h = h
no_field hub least job (Err end) h = tt

pub method_unended : (hub : HubId) (least : ℕ) (r : Running) (end : JobEnd) → r.ended ≡ Err end →
    DrainsMethod hub least r r
method_unended hub least r end is = record {
  goes = stays hub r;
  rests = λ typist h. subst (λ (e : Result Bool JobEnd). IfOk e (λ goes_on. MethodRest hub.limits typist least r.job))
      (sym is) tt;
}

pub field_unended : (hub : HubId) (least : ℕ) (r : Running) (end : JobEnd) → r.ended ≡ Err end →
    DrainsField hub least r r
field_unended hub least r end is = record {
  goes = stays hub r;
  rests = λ typist h. subst (λ (e : Result Bool JobEnd). IfOk e (λ goes_on. FieldRest hub.limits least r.job))
      (sym is) tt;
  method = refl;
  stays = λ typist n h. h;
}

pub method_other : (hub : HubId) (least : ℕ) (r : Running) →
    ((typist : TrialTypist) → MethodRest hub.limits typist least r.job) → DrainsMethod hub least r r
method_other hub least r none =
    record { goes = stays hub r; rests = λ typist h. no_method hub typist least r.job r.ended (none typist) }

pub field_other : (hub : HubId) (least : ℕ) (r : Running) → FieldRest hub.limits least r.job → DrainsField hub least r r
field_other hub least r none = record {
  goes = stays hub r;
  rests = λ typist h. no_field hub least r.job r.ended none;
  method = refl;
  stays = λ typist n h. h;
}

pub method_same : (hub : HubId) (least : ℕ) (r : Running) (job : TrialJob) → r.job ≡ job →
    ((typist : TrialTypist) → MethodRest hub.limits typist least job) →
    DrainsMethod hub least r (with_end job r.ended)
method_same hub least r job is none =
    subst (λ (j : TrialJob). DrainsMethod hub least r (with_end j r.ended)) is
    (method_other hub least r (λ typist. subst (λ (j : TrialJob). MethodRest hub.limits typist least j) (sym is)
    (none typist)))

pub field_same : (hub : HubId) (least : ℕ) (r : Running) (job : TrialJob) → r.job ≡ job →
    FieldRest hub.limits least job → DrainsField hub least r (with_end job r.ended)
field_same hub least r job is none =
    subst (λ (j : TrialJob). DrainsField hub least r (with_end j r.ended)) is
    (field_other hub least r (subst (λ (j : TrialJob). FieldRest hub.limits least j) (sym is) none))

-- ---- the method's

-- the law by which it then has its end

method_ends : (limits : Limits) (typist : TrialTypist) (b : MethodJob) (r : Result Bool JobEnd) →
    MethodGoes limits typist b (first_batches b rounds) true r → MethodEnds limits typist b (done_of r)
method_ends limits typist b (Ok goes_on) h = played_done limits typist b goes_on h
method_ends limits typist b (Err end) h = h

method_plays : (limits : Limits) (typist : TrialTypist) (b : MethodJob) (r : Result Bool JobEnd) →
    MethodGoes limits typist b (first_batches b rounds) true r → IfOk r (IsMethodPlayed limits typist b)
method_plays limits typist b (Ok goes_on) h = h
method_plays limits typist b (Err end) h = tt

method_rests : (limits : Limits) (typist : TrialTypist) (b : MethodJob) (least : ℕ) (r : Result Bool JobEnd) →
    (r ≡ Ok true → least ≤ length (journal_seen b.writer.seat)) →
    MethodGoes limits typist b (first_batches b rounds) true r →
    IfOk r (λ goes_on. IsMethodDrained limits typist b least)
method_rests limits typist b least (Ok true) past h =
    let both = played_rest limits typist b h in record { done = both.0; rest = inl (both.1, past refl) }
method_rests limits typist b least (Ok false) past h =
    let both = played_over limits typist b h in record { done = both.0; rest = inr both.1 }
method_rests limits typist b least (Err end) past h = tt

abbrev MethodAnswers : Limits → (a b : MethodJob) → Bool → Result Bool JobEnd → Type 0
MethodAnswers limits a b goes_on r = (typist : TrialTypist) (own : List Batch) →
    IsMethodAt limits typist a own false goes_on → MethodGoes limits typist b own true r

method_goes : (limits : Limits) (typist : TrialTypist) (a b : MethodJob) (goes_on : Bool) (r : Result Bool JobEnd) →
    MethodKeeps limits a b → MethodAnswers limits a b goes_on r → IsMethodPlayed limits typist a goes_on →
    MethodGoes limits typist b (first_batches b rounds) true r
method_goes limits typist a b goes_on r k f h =
    subst (λ (own : List Batch). MethodGoes limits typist b own true r) (sym (same_first a b rounds k.same))
    (f typist (first_batches a rounds) (busy_at limits typist a (first_batches a rounds) goes_on h))

pub method_drains : (hub : HubId) (least : ℕ) (a b : MethodJob) (goes_on : Bool) (r : Result Bool JobEnd) →
    IsJobOf hub (jobs.Method a) → MethodKeeps hub.limits a b → MethodAnswers hub.limits a b goes_on r →
    (r ≡ Ok true → least ≤ length (journal_seen b.writer.seat)) →
    DrainsMethod hub least (with_end (jobs.Method a) (Ok goes_on)) (with_end (jobs.Method b) r)
method_drains hub least a b goes_on r of k f past = record {
  goes = record {
    run = λ typist h. record {
      of = of_kept hub (jobs.Method a) (jobs.Method b) of k.saw;
      ends = method_ends hub.limits typist b r (method_goes hub.limits typist a b goes_on r k f h.plays);
      plays = method_plays hub.limits typist b r (method_goes hub.limits typist a b goes_on r k f h.plays);
    };
    same = ap of_method k.same;
    keeps = k.saw;
    shell = refl;
  };
  rests = λ typist h. method_rests hub.limits typist b least r past
      (method_goes hub.limits typist a b goes_on r k f h.plays);
}

pub method_drained : (hub : HubId) (least : ℕ) (r : Running) (a b : MethodJob) (goes_on : Bool)
    (res : Result Bool JobEnd) → r.ended ≡ Ok goes_on → r.job ≡ jobs.Method a → IsJobOf hub r.job →
    MethodKeeps hub.limits a b → MethodAnswers hub.limits a b goes_on res →
    (res ≡ Ok true → least ≤ length (journal_seen b.writer.seat)) →
    DrainsMethod hub least r (with_end (jobs.Method b) res)
method_drained hub least r a b goes_on res ended is of k f past =
    subst (λ (j : TrialJob). DrainsMethod hub least (with_end j r.ended) (with_end (jobs.Method b) res)) (sym is)
    (subst (λ (e : Result Bool JobEnd). DrainsMethod hub least (with_end (jobs.Method a) e) (with_end (jobs.Method b) res))
    (sym ended)
    (method_drains hub least a b goes_on res (subst (λ (j : TrialJob). IsJobOf hub j) is of) k f past))

-- ---- a field's

all_edits : (b : FieldJob) → map edit_of b.edits ≡ first_edits b (length b.edits)
all_edits b = ap (map edit_of) (sym (take_all (length b.edits) b.edits (omega arith)))

-- what its log asks for was sent
all_sent : (limits : Limits) (b : FieldJob) (own : List Entry) (h : IsFieldGoing limits b own []) →
    HasSent limits b.reader b.writer (field_setup ++ sends_of (field_log b.log))
all_sent limits b own h = by h.made
  where
    all : field_setup ++ sends_of (field_log b.log) ≡ h.sents
    all = h.asked.all ∙ append-nil h.sents

    by : HasMade limits b.reader h.sents →
        HasSent limits b.reader b.writer (field_setup ++ sends_of (field_log b.log))
    by (inl e) = inl (e ∙ ap (λ (ss : List Sent). entries_in b.reader.peer (spelled ss)) (sym all))
    by (inr k) = inr (subst (λ (ss : List Sent). HasSentFront b.reader ss) (sym all) k.0, (k.1.0, inl k.1.1))

field_over : (limits : Limits) (b : FieldJob) → IsFieldAt limits b (map edit_of b.edits) false → IsFieldDone limits b
field_over limits b h =
    let first = subst (λ (own : List Entry). IsFieldAt limits b own false) (all_edits b) h in
    (fields.runs_done limits b b (length b.edits) false tt (omega arith) (omega arith) (keeps_none limits b) first
    (λ some. first)).ends

field_done : (limits : Limits) (b : FieldJob) (h : HasFieldRest limits b (map edit_of b.edits) true) →
    (done : IsFieldDone limits b) × HasAll limits b.writer done.taken
field_done limits b h = (
  record {
    own = h.0.heard.own-is;
    taken = h.0.taken;
    took = h.0.took;
    events = h.0.heard.events;
    read = are_all h.0.taken b.client (field_log b.log) (map edit_of b.edits) h.0.heard;
    told = h.0.heard.told;
    sent = all_sent limits b (map edit_of b.edits) h.0;
    text = h.0.asked.has.text;
    all = λ some. inl h.1.all;
  },
  h.1.all,
)

-- It is done, and nothing was left to take, in a journal long enough, unless the peer ended.
field_rest : (limits : Limits) (b : FieldJob) (least : ℕ) (goes_on : Bool) →
    (goes_on ≡ true → IsPast b.reader b.writer least) → HasFieldRest limits b (map edit_of b.edits) goes_on →
    IsFieldDrained limits b least
field_rest limits b least true past h =
    let both = field_done limits b h in record { done = both.0; rest = inl (both.1, past refl) }
field_rest limits b least false past h = record { done = field_over limits b h; rest = inr h.1 }

field_ends : (limits : Limits) (b : FieldJob) (r : Result Bool JobEnd) →
    FieldRests limits b (map edit_of b.edits) r → FieldEnds limits b (done_of r)
field_ends limits b (Ok true) h = (field_done limits b h).0
field_ends limits b (Ok false) h = field_over limits b h
field_ends limits b (Err end) h = h

field_plays : (limits : Limits) (b : FieldJob) (r : Result Bool JobEnd) →
    FieldRests limits b (map edit_of b.edits) r → IfOk r (IsFieldPlayed limits b)
field_plays limits b (Ok goes_on) h = (fields.rest_at limits b (map edit_of b.edits) goes_on h, λ some. h)
field_plays limits b (Err end) h = tt

past_true : (b : FieldJob) (least : ℕ) (goes_on : Bool) (r : Result Bool JobEnd) → r ≡ Ok goes_on →
    (r ≡ Ok true → IsPast b.reader b.writer least) → goes_on ≡ true → IsPast b.reader b.writer least
past_true b least goes_on r is past e = past (is ∙ ap (λ (x : Bool). Ok x) e)

field_rests : (limits : Limits) (b : FieldJob) (least : ℕ) (r : Result Bool JobEnd) →
    (r ≡ Ok true → IsPast b.reader b.writer least) → FieldRests limits b (map edit_of b.edits) r →
    IfOk r (λ goes_on. IsFieldDrained limits b least)
field_rests limits b least (Ok goes_on) past h =
    field_rest limits b least goes_on (past_true b least goes_on (Ok goes_on) refl past) h
field_rests limits b least (Err end) past h = tt

abbrev FieldAnswers : Limits → (a b : FieldJob) → Bool → Result Bool JobEnd → Type 0
FieldAnswers limits a b goes_on r = (own : List Entry) → IsFieldAt limits a own goes_on → FieldRests limits b own r

field_goes : (limits : Limits) (a b : FieldJob) (goes_on : Bool) (r : Result Bool JobEnd) → FieldKeeps limits a b →
    FieldAnswers limits a b goes_on r → IsFieldPlayed limits a goes_on → FieldRests limits b (map edit_of b.edits) r
field_goes limits a b goes_on r k f h =
    subst (λ (es : List FieldEdit). FieldRests limits b (map edit_of es) r) (sym k.same) (f (map edit_of a.edits) h.0)

no_rest : (hub : HubId) (typist : TrialTypist) (n : ℕ) (b : FieldJob) (r : Result Bool JobEnd) →
    IfOk r (λ goes_on. MethodRest hub.limits typist n (jobs.Field b))
no_rest hub typist n b r = no_method hub typist n (jobs.Field b) r tt

pub field_drains : (hub : HubId) (least : ℕ) (a b : FieldJob) (goes_on : Bool) (r : Result Bool JobEnd) →
    IsJobOf hub (jobs.Field a) → FieldKeeps hub.limits a b → FieldAnswers hub.limits a b goes_on r →
    (r ≡ Ok true → IsPast b.reader b.writer least) →
    DrainsField hub least (with_end (jobs.Field a) (Ok goes_on)) (with_end (jobs.Field b) r)
field_drains hub least a b goes_on r of k f past = record {
  goes = record {
    run = λ typist h. record {
      of = of_kept hub (jobs.Field a) (jobs.Field b) of k.saw;
      ends = field_ends hub.limits b r (field_goes hub.limits a b goes_on r k f h.plays);
      plays = field_plays hub.limits b r (field_goes hub.limits a b goes_on r k f h.plays);
    };
    same = ap of_field k.same;
    keeps = k.saw;
    shell = refl;
  };
  rests = λ typist h. field_rests hub.limits b least r past (field_goes hub.limits a b goes_on r k f h.plays);
  method = refl;
  stays = λ typist n h. no_rest hub typist n b r;
}

pub field_drained : (hub : HubId) (least : ℕ) (r : Running) (a b : FieldJob) (goes_on : Bool)
    (res : Result Bool JobEnd) → r.ended ≡ Ok goes_on → r.job ≡ jobs.Field a → IsJobOf hub r.job →
    FieldKeeps hub.limits a b → FieldAnswers hub.limits a b goes_on res →
    (res ≡ Ok true → IsPast b.reader b.writer least) → DrainsField hub least r (with_end (jobs.Field b) res)
field_drained hub least r a b goes_on res ended is of k f past =
    subst (λ (j : TrialJob). DrainsField hub least (with_end j r.ended) (with_end (jobs.Field b) res)) (sym is)
    (subst (λ (e : Result Bool JobEnd). DrainsField hub least (with_end (jobs.Field a) e) (with_end (jobs.Field b) res))
    (sym ended)
    (field_drains hub least a b goes_on res (subst (λ (j : TrialJob). IsJobOf hub j) is of) k f past))

-- ---- all jobs

most_same : (seen : TrialJob → ℕ) (R : Running → Running → Type 0) (n : ℕ) (before after : List Running) →
    ((b a : Running) → R b a → seen a.job ≡ seen b.job) → Pairwise R before after →
    most_of seen n after ≡ most_of seen n before
most_same seen R n [] [] f h = refl
most_same seen R n [] (y ∷ after) f h = absurd h
most_same seen R n (x ∷ before) [] f h = absurd h
most_same seen R n (x ∷ before) (y ∷ after) f h =
    ap (λ (m : ℕ). most_of seen (max n m) after) (f x y h.0)
    ∙ most_same seen R (max n (seen x.job)) before after f h.1

pub goes_both : (hub : HubId) (a b c : Running) → GoesOn hub a b → GoesOn hub b c → GoesOn hub a c
goes_both hub a b c one two = record {
  run = λ typist h. two.run typist (one.run typist h);
  same = two.same ∙ one.same;
  keeps = keeps_both hub.limits a.job b.job c.job one.keeps two.keeps;
  shell = two.shell ∙ one.shell;
}

-- each is drained that it is by its call
rest_both : (limits : Limits) (typist : TrialTypist) (n m : ℕ) (job : TrialJob) (r : Result Bool JobEnd) →
    IfOk r (λ goes_on. MethodRest limits typist n job) → IfOk r (λ goes_on. FieldRest limits m job) →
    IfOk r (λ goes_on. HasRest limits typist n m job)
rest_both limits typist n m (jobs.Field job) r one two = two
rest_both limits typist n m (jobs.Method job) r one two = one
rest_both limits typist n m (jobs.Shell job) r one two = one

rests_all : (hub : HubId) (typist : TrialTypist) (n m : ℕ) (a b c : List Running) →
    Pairwise (DrainsMethod hub n) a b → Pairwise (DrainsField hub m) b c →
    AllByRecursion (HasRun hub typist) a →
    AllByRecursion (λ (r : Running). IfOk r.ended (λ goes_on. HasRest hub.limits typist n m r.job)) c
rests_all hub typist n m [] [] [] one two h = tt
rests_all hub typist n m [] [] (z ∷ c) one two h = absurd two
rests_all hub typist n m [] (y ∷ b) c one two h = absurd one
rests_all hub typist n m (x ∷ a) [] c one two h = absurd one
rests_all hub typist n m (x ∷ a) (y ∷ b) [] one two h = absurd two
rests_all hub typist n m (x ∷ a) (y ∷ b) (z ∷ c) one two h = (
  rest_both hub.limits typist n m z.job z.ended (two.0.stays typist n (one.0.rests typist h.0))
      (two.0.rests typist (one.0.goes.run typist h.0)),
  rests_all hub typist n m a b c one.1 two.1 h.1,
)

pub all_drained : (hub : HubId) (n m : ℕ) (a b c : List Running) → n ≡ least_for_method a → m ≡ least_for_fields b →
    Pairwise (DrainsMethod hub n) a b → Pairwise (DrainsField hub m) b c → AreDrained hub a c
all_drained hub n m a b c n-is m-is one two = record {
  goes = pairs_step (DrainsMethod hub n) (DrainsField hub m) (GoesOn hub) a b c
      (λ x y z d e. goes_both hub x y z d.goes e.goes) one two;
  rests = λ typist h.
      subst (λ (k : ℕ). AllByRecursion (λ (r : Running). IfOk r.ended (λ goes_on.
      HasRest hub.limits typist k (least_for_fields c) r.job)) c) method-is
      (subst (λ (k : ℕ). AllByRecursion (λ (r : Running). IfOk r.ended (λ goes_on.
      HasRest hub.limits typist n k r.job)) c) fields-is (rests_all hub typist n m a b c one two h));
}
  where
    shell-b : least_for_method b ≡ least_for_method a
    shell-b = most_same seen_by_shell (DrainsMethod hub n) 0 a b (λ x y d. d.goes.shell) one

    shell-c : least_for_method c ≡ least_for_method b
    shell-c = most_same seen_by_shell (DrainsField hub m) 0 b c (λ x y d. d.goes.shell) two

    method-is : n ≡ least_for_method c
    method-is = n-is ∙ sym (shell-c ∙ shell-b)

    fields-is : m ≡ least_for_fields c
    fields-is = m-is ∙ ap (λ (k : ℕ). most_of seen_by_method k b) (sym shell-c)
        ∙ sym (most_same seen_by_method (DrainsField hub m) (least_for_method c) b c (λ x y d. d.method) two)

pub still_of : (hub : HubId) (n : ℕ) (a b : List Running) → Pairwise (DrainsMethod hub n) a b → AreJobsOf hub a →
    AreJobsOf hub b
still_of hub n a b d of =
    pairs_carry (DrainsMethod hub n) (λ (r : Running). IsJobOf hub r.job) (λ (r : Running). IsJobOf hub r.job) a b
    (λ x y e o. of_kept hub x.job y.job o e.goes.keeps) d of
