-- The method's job from its begin to its end
use Rattle.std.proofs.Common.{◌≡◌, ℕ, zero, suc, ◌+◌, ◌≤◌, Bool, true, false, List, [], ◌∷◌, ◌++◌, map, take, drop, Err, refl, sym, ap, subst, ◌∙◌, inl, inr, arith, append-nil, append_assoc}
use Rattle.std.proofs.lemmas.List.{take-append-drop, map-append}
use Rattle.broker_steps.specs.declared.limits.Limits.{Limits}
use Rattle.trial_field.specs.Log.{Batch}
use Rattle.trial_script.specs.declared.action.Edits.{Edits}
use Rattle.client_side.specs.Messages.{Sent, spelled, method_setup}
use Rattle.trial_client_logs.specs.Logs.{batch_of}
use Rattle.trial_client_logs.specs.MethodLogs.{method_log}
use Rattle.hub_lock.specs.Entry.{Entry as JournalEntry}
use Rattle.hub_lock.specs.declared.step.OuterStep.{OuterStep}
use Rattle.hub_lock.specs.Passes.{HubId}
use Rattle.hub_calls.specs.Made.{entries_by}
use Rattle.hub_calls.specs.Submitted.{entries_in}
use Rattle.hub_calls.specs.Taken.{HasTaken, HasAll}
use Rattle.trial_run.specs.declared.typist.TrialTypist.{TrialTypist}
use Rattle.trial_laws.specs.TypedLogs.{requests_of}
use Rattle.trial_typing.specs.Fronts.{IsFrontOf}
use Rattle.trial_typing.specs.Sending.{HasSent, HasMade, HasSentFront, HasHeardAll}
use Rattle.trial_typing.specs.declared.job_end.JobEnd.{JobEnd}
use Rattle.trial_typing.specs.declared.job_end.JobEnd.TheVariants as ends
use Rattle.trial_jobs.specs.declared.method_job.MethodJob.{MethodJob}
use Rattle.trial_jobs.specs.MethodLaw.{rounds, IsFresh, typist_in, begun_client, first_batches, IsMethodReady, HasCommitted, IsMethodDone, IsMethodCut, MethodStops}
use Rattle.trial_jobs.specs.MethodGoing.{IsMethodOf, IsMethodGoing, IsMethodOver, IsMethodAt, IsMethodPlayed, MethodGoes}
use Rattle.trial_jobs.proofs.MethodGoesOn.{asked_front}
use Rattle.trial_jobs.proofs.MethodHeard.{are_all}

pub ready_of : (hub : HubId) (job : MethodJob) → IsMethodReady hub job → IsMethodOf hub job
ready_of hub job r = record { reads = r.begun.reads; writes = r.begun.writes; one_peer = r.begun.one_peer }

abbrev entry_in : OuterStep → JournalEntry
entry_in step = step.entry

begins : (hub : HubId) (typist : TrialTypist) (job : MethodJob) → IsFresh typist → HasMade hub.limits job.reader
    method_setup →
    entries_by job.writer.seat ≡ [] →
    IsMethodGoing hub.limits typist (record job { client = begun_client typist; log = [] }) [] [] false
begins hub typist job f made fresh = record {
  taken = [];
  took = inl (fresh, refl);
  heard = record {
    events = [];
    messages = [];
    are = tt;
    front = refl;
    part = λ long. absurd (omega (arith, long));
    good = refl;
    told = refl;
    own-is = refl;
  };
  sents = method_setup;
  asked = record { typing = refl; all = refl; bytes = refl };
  made = made;
  short = tt;
  fresh = f;
  rests = λ e. absurd (let no : false ≡ true = e in cc);
}

pub ready_going : (hub : HubId) (job : MethodJob) → IsMethodReady hub job →
    IsMethodAt hub.limits (typist_in job) job (first_batches job 0) false true
ready_going hub job r =
    subst (λ (l : List _). IsMethodGoing hub.limits (typist_in job) (record job { log = l }) [] [] false) (sym r.log)
    (subst (λ (c : _). IsMethodGoing hub.limits (typist_in job) (record job { client = c; log = [] }) [] [] false)
    (sym r.client)
    (begins hub (typist_in job) job r.fresh r.begun.sent (ap (map entry_in) r.begun.fresh)))

-- ---- fronts of the batches

fewer : {A : Type 0} (n m : ℕ) (xs : List A) → n ≤ m → take n (take m xs) ≡ take n xs
fewer zero m xs le = refl
fewer (suc n) zero xs le = absurd (omega (arith, le))
fewer (suc n) (suc m) [] le = refl
fewer {A} (suc n) (suc m) (x ∷ xs) le = ap (λ (l : List A). x ∷ l) (fewer n m xs (omega (arith, le)))

first_front : (xs : List Edits) (n m : ℕ) → n ≤ m → IsFrontOf (map batch_of (take n xs)) (map batch_of (take m xs))
first_front xs n m le = record {
  rest = map batch_of (drop n (take m xs));
  is = ap (map batch_of) (sym (take-append-drop n (take m xs)))
      ∙ map-append batch_of (take n (take m xs)) (drop n (take m xs))
      ∙ ap (λ (l : List Edits). map batch_of l ++ map batch_of (drop n (take m xs))) (fewer n m xs le);
}

pub front_both : {A : Type 0} (a b c : List A) → IsFrontOf a b → IsFrontOf b c → IsFrontOf a c
front_both {A} a b c one two = record {
  rest = one.rest ++ two.rest;
  is = two.is ∙ ap (λ (l : List A). l ++ two.rest) one.is ∙ append_assoc a one.rest two.rest;
}

-- ---- what a part of the job left of a longer list of batches

longer_cut : (limits : Limits) (typist : TrialTypist) (job : MethodJob) (own all : List Batch) → IsFrontOf own all →
    IsMethodCut limits typist job own → IsMethodCut limits typist job all
longer_cut limits typist job own all f k = record {
  own-is = front_both _ own all k.own-is f;
  taken = k.taken;
  took = k.took;
  events = k.events;
  read = k.read;
  told = k.told;
  sent = k.sent;
}

wrong_cut : (limits : Limits) (typist : TrialTypist) (job : MethodJob) (own all : List Batch) → IsFrontOf own all →
    MethodStops limits typist job own ends.BadEvent → MethodStops limits typist job all ends.BadEvent
wrong_cut limits typist job own all f k = (
  record {
    own-is = front_both _ own all k.0.own-is f;
    taken = k.0.taken;
    took = k.0.took;
    events = k.0.events;
    read = k.0.read;
    told = k.0.told;
    sent = k.0.sent;
  },
  k.1,
)

pub stops_longer : (limits : Limits) (typist : TrialTypist) (job : MethodJob) (own all : List Batch) (end : JobEnd) →
    IsFrontOf own all → MethodStops limits typist job own end → MethodStops limits typist job all end
stops_longer limits typist job own all (ends.JournalFull kept) f k = (longer_cut limits typist job own all f k.0, k.1)
stops_longer limits typist job own all ends.BadEvent f k = wrong_cut limits typist job own all f k
stops_longer limits typist job own all ends.NoMemory f k = longer_cut limits typist job own all f k

over_longer : (limits : Limits) (typist : TrialTypist) (job : MethodJob) (own all : List Batch) → IsFrontOf own all →
    IsMethodOver limits typist job own → IsMethodOver limits typist job all
over_longer limits typist job own all f k = record {
  made = k.made;
  front = front_both k.made own all k.front f;
  waits = k.waits;
  going = k.going;
  over = k.over;
}

-- ---- the whole run

done_by : (limits : Limits) (typist : TrialTypist) (job : MethodJob) (own : List Batch) (waits : List Sent)
    (quiet : Bool)
    (h : IsMethodGoing limits typist job own waits quiet) → HasCommitted limits job →
    HasSent limits job.reader job.writer (requests_of typist (method_log job.log)) →
    HasHeardAll limits job.reader job.writer h.taken → IsMethodDone limits typist job
done_by limits typist job own waits quiet h committed sent all = record {
  own = committed;
  taken = h.taken;
  took = subst (λ (bytes : List ℕ). HasTaken limits job.writer bytes) (append-nil h.taken) h.took;
  events = h.heard.events;
  read = are_all h.taken job.client (method_log job.log) own h.heard;
  told = h.heard.told;
  sent = sent;
  typed = h.asked.typing;
  all = all;
}

sent_true : (limits : Limits) (typist : TrialTypist) (job : MethodJob) (own : List Batch)
    (h : IsMethodAt limits typist job own true true) →
    HasSent limits job.reader job.writer (requests_of typist (method_log job.log))
sent_true limits typist job own h = by h.made
  where
    all : requests_of typist (method_log job.log) ≡ h.sents
    all = h.asked.all ∙ append-nil h.sents

    by : HasMade limits job.reader h.sents →
        HasSent limits job.reader job.writer (requests_of typist (method_log job.log))
    by (inl e) = inl (e ∙ ap (λ (ss : List Sent). entries_in job.reader.peer (spelled ss)) (sym all))
    by (inr k) = inr (subst (λ (ss : List Sent). HasSentFront job.reader ss) (sym all) k.0, (k.1.0, inl k.1.1))

-- all rounds were made, and nothing is left to take
pub runs_rest : (limits : Limits) (typist : TrialTypist) (a b : MethodJob) (n : ℕ) → rounds ≤ n → n ≤ rounds →
    b.batches ≡ a.batches → IsMethodAt limits typist b (first_batches a n) true true →
    (done : IsMethodDone limits typist b) × HasAll limits b.writer done.taken
unfolding done_by
runs_rest limits typist a b n most least same h =
    let n-is : n ≡ rounds = omega (arith, most, least) in (
      done_by limits typist b (first_batches a n) [] true h
          (inl (h.heard.own-is ∙ ap (first_batches a) n-is
          ∙ ap (λ (l : List Edits). map batch_of (take rounds l)) (sym same)))
          (sent_true limits typist b (first_batches a n) h) (inl (h.rests refl).all),
      (h.rests refl).all,
    )

pub runs_done : (limits : Limits) (typist : TrialTypist) (a b : MethodJob) (n : ℕ) → rounds ≤ n → n ≤ rounds →
    b.batches ≡ a.batches → IsMethodAt limits typist b (first_batches a n) true true → IsMethodDone limits typist b
runs_done limits typist a b n most least same h = (runs_rest limits typist a b n most least same h).0

-- the peer ended
pub runs_over : (limits : Limits) (typist : TrialTypist) (a b : MethodJob) (n : ℕ) → n ≤ rounds →
    b.batches ≡ a.batches → IsMethodOver limits typist b (first_batches a n) → IsMethodDone limits typist b
runs_over limits typist a b n few same h =
    let f : IsFrontOf h.made (first_batches b rounds) =
    front_both h.made (first_batches a n) (first_batches b rounds) h.front
    (subst (λ (l : List Edits). IsFrontOf (first_batches a n) (map batch_of (take rounds l))) (sym same)
    (first_front a.batches n rounds few)) in
    done_by limits typist b h.made h.waits false h.going
    (inr (subst (λ (l : List Batch). IsFrontOf l (first_batches b rounds)) (sym h.going.heard.own-is) f, h.over))
    (inr (asked_front limits typist b h.made h.waits [] false h.going, h.over)) (inr h.over)

-- and by which it may go on

pub plays_done : (limits : Limits) (typist : TrialTypist) (a b : MethodJob) (n : ℕ) → rounds ≤ n → n ≤ rounds →
    b.batches ≡ a.batches → IsMethodAt limits typist b (first_batches a n) true true →
    IsMethodPlayed limits typist b true
plays_done limits typist a b n most least same h =
    let n-is : n ≡ rounds = omega (arith, most, least) in
    subst (λ (own : List Batch). IsMethodAt limits typist b own true true)
    (ap (first_batches a) n-is ∙ ap (λ (l : List Edits). map batch_of (take rounds l)) (sym same)) h

pub plays_over : (limits : Limits) (typist : TrialTypist) (a b : MethodJob) (n : ℕ) → n ≤ rounds →
    b.batches ≡ a.batches → IsMethodOver limits typist b (first_batches a n) → IsMethodPlayed limits typist b false
plays_over limits typist a b n few same h =
    over_longer limits typist b (first_batches a n) (first_batches b rounds)
    (subst (λ (l : List Edits). IsFrontOf (first_batches a n) (map batch_of (take rounds l))) (sym same)
    (first_front a.batches n rounds few)) h

-- it stopped
pub runs_stops : (limits : Limits) (typist : TrialTypist) (a b : MethodJob) (n : ℕ) (end : JobEnd) → n ≤ rounds →
    b.batches ≡ a.batches → MethodStops limits typist b (first_batches a n) end →
    MethodStops limits typist b (first_batches b rounds) end
runs_stops limits typist a b n end few same k =
    stops_longer limits typist b (first_batches a n) (first_batches b rounds) end
    (subst (λ (l : List Edits). IsFrontOf (first_batches a n) (map batch_of (take rounds l))) (sym same)
    (first_front a.batches n rounds few)) k

-- a part of the run, whose job has the batches of the first one
pub same_first : (a now : MethodJob) (n : ℕ) → now.batches ≡ a.batches → first_batches now n ≡ first_batches a n
same_first a now n same = ap (λ (l : List Edits). map batch_of (take n l)) same

pub next_stops : (limits : Limits) (typist : TrialTypist) (a now new : MethodJob) (n : ℕ) (end : JobEnd) →
    now.batches ≡ a.batches →
    (IsMethodAt limits typist now (first_batches now n) true true →
    MethodGoes limits typist new (first_batches now (n + 1)) true (Err end)) →
    IsMethodAt limits typist now (first_batches a n) true true →
    MethodStops limits typist new (first_batches a (n + 1)) end
next_stops limits typist a now new n end same f h =
    subst (λ (own : List Batch). MethodStops limits typist new own end) (same_first a now (n + 1) same)
    (f (subst (λ (own : List Batch). IsMethodAt limits typist now own true true) (sym (same_first a now n same)) h))

pub next_at : (limits : Limits) (typist : TrialTypist) (a now new : MethodJob) (n : ℕ) (goes_on : Bool) →
    now.batches ≡ a.batches →
    (IsMethodAt limits typist now (first_batches now n) true true →
    IsMethodAt limits typist new (first_batches now (n + 1)) true goes_on) →
    IsMethodAt limits typist now (first_batches a n) true true →
    IsMethodAt limits typist new (first_batches a (n + 1)) true goes_on
next_at limits typist a now new n goes_on same f h =
    subst (λ (own : List Batch). IsMethodAt limits typist new own true goes_on) (same_first a now (n + 1) same)
    (f (subst (λ (own : List Batch). IsMethodAt limits typist now own true true) (sym (same_first a now n same)) h))
