-- A field's job from its begin to its end
use Rattle.std.proofs.Common.{◌≡◌, ℕ, zero, suc, ◌+◌, ◌<◌, ◌≤◌, Bool, true, false, List, [], ◌∷◌, ◌++◌, length, map, take, drop, Result, Ok, Err, refl, sym, ap, subst, ◌∙◌, inl, inr, arith, append-nil, append_assoc}
use Rattle.std.specs.Prelude.{slice_index_or}
use Rattle.std.proofs.lemmas.List.{take_more, take_all, take-append-drop, map-append}
use Rattle.broker_steps.specs.declared.limits.Limits.{Limits}
use Rattle.trial_field.specs.Log.{Entry}
use Rattle.trial_script.specs.declared.action.FieldEdit.{FieldEdit}
use Rattle.client_side.specs.FieldLog.{sends_of}
use Rattle.client_side.specs.Messages.{Sent, spelled, field_setup}
use Rattle.trial_client_logs.specs.Logs.{edit_of, field_log}
use Rattle.broker_model.specs.declared.journal.Entry.{Entry as JournalEntry}
use Rattle.hub_lock.specs.declared.step.OuterStep.{OuterStep}
use Rattle.hub_lock.specs.Passes.{HubId}
use Rattle.hub_calls.specs.Made.{entries_by}
use Rattle.hub_calls.specs.Submitted.{entries_in}
use Rattle.trial_typing.specs.declared.field_job.FieldJob.{FieldJob}
use Rattle.trial_typing.specs.declared.job_end.JobEnd.{JobEnd}
use Rattle.trial_typing.specs.declared.job_end.JobEnd.TheVariants as ends
use Rattle.trial_typing.specs.FieldGoing.{IsFieldOf, FieldKeeps, IsFieldGoing, IsFieldAt, HasFieldRest, IsFieldPlayed, FieldGoes}
use Rattle.trial_typing.specs.FieldLaw.{first_edits, begun_client, IsFieldReady, IsFieldDone, IsFieldCut, FieldStops, FieldRuns}
use Rattle.trial_typing.specs.Sending.{HasSent, HasMade, HasSentFront, HasHeardAll}
use Rattle.trial_typing.proofs.FieldGoesOn.{asked_front}
use Rattle.trial_typing.proofs.FieldHeard.{are_all}

pub ready_of : (hub : HubId) (job : FieldJob) → IsFieldReady hub job → IsFieldOf hub job
ready_of hub job r = record { reads = r.begun.reads; writes = r.begun.writes; one_peer = r.begun.one_peer }

abbrev entry_in : OuterStep → JournalEntry
entry_in step = step.entry

begins : (hub : HubId) (job : FieldJob) → HasMade hub.limits job.reader field_setup →
    entries_by job.writer.seat ≡ [] → IsFieldGoing hub.limits (record job { client = begun_client; log = [] }) [] []
begins hub job made fresh = record {
  taken = [];
  took = inl (fresh, refl);
  heard = record {
    events = [];
    messages = [];
    rest = [];
    are = tt;
    front = refl;
    good = λ e. (refl, λ long. absurd (omega (arith, long)));
    bad = λ e. absurd (let no : false ≡ true = e in cc);
    waits = λ e. refl;
    told = refl;
    own-is = refl;
  };
  sents = field_setup;
  asked = record { all = refl; has = record { field = refl; text = refl; bytes = refl } };
  made = made;
}

pub ready_going : (hub : HubId) (job : FieldJob) → IsFieldReady hub job →
    IsFieldAt hub.limits job (first_edits job 0) true
ready_going hub job r =
    subst (λ (l : List _). IsFieldGoing hub.limits (record job { log = l }) [] []) (sym r.log)
    (subst (λ (c : _). IsFieldGoing hub.limits (record job { client = c; log = [] }) [] []) (sym r.client)
    (begins hub job r.begun.sent (ap (map entry_in) r.begun.fresh)))

-- one more edit
pub one_edit : (edits : List FieldEdit) (i : ℕ) (x : FieldEdit) → i < length edits → x ≡ slice_index_or edits i x →
    map edit_of (take i edits) ++ edit_of x ∷ [] ≡ map edit_of (take (i + 1) edits)
one_edit edits i x lt is =
    sym (ap (map edit_of) (take_more edits i x lt ∙ ap (λ (y : FieldEdit). take i edits ++ y ∷ []) (sym is))
    ∙ map-append edit_of (take i edits) (x ∷ []))

-- all that the log asks for was sent, or a front of it where the peer ended

sent_true : (limits : Limits) (job : FieldJob) (own : List Entry) (h : IsFieldGoing limits job own []) →
    HasSent limits job.reader job.writer (field_setup ++ sends_of (field_log job.log))
sent_true limits job own h = by h.made
  where
    all : field_setup ++ sends_of (field_log job.log) ≡ h.sents
    all = h.asked.all ∙ append-nil h.sents

    by : HasMade limits job.reader h.sents →
        HasSent limits job.reader job.writer (field_setup ++ sends_of (field_log job.log))
    by (inl e) = inl (e ∙ ap (λ (ss : List Sent). entries_in job.reader.peer (spelled ss)) (sym all))
    by (inr k) = inr (subst (λ (ss : List Sent). HasSentFront job.reader ss) (sym all) k.0, (k.1.0, inl k.1.1))

done_by : (limits : Limits) (job : FieldJob) (own : List Entry) (waits : List Sent)
    (h : IsFieldGoing limits job own waits) →
    own ≡ map edit_of job.edits →
    HasSent limits job.reader job.writer (field_setup ++ sends_of (field_log job.log)) →
    (1 ≤ length job.edits → HasHeardAll limits job.reader job.writer h.taken) → IsFieldDone limits job
done_by limits job own waits h is sent all = record {
  own = h.heard.own-is ∙ is;
  taken = h.taken;
  took = h.took;
  events = h.heard.events;
  read = are_all h.taken job.client (field_log job.log) own h.heard;
  told = h.heard.told;
  sent = sent;
  text = h.asked.has.text;
  all = all;
}

pub ended_done : (limits : Limits) (job : FieldJob) (own : List Entry) → IsFieldAt limits job own false →
    own ≡ map edit_of job.edits → IsFieldDone limits job
ended_done limits job own h is =
    done_by limits job own h.0.0 h.0.1 is
    (inr (
      asked_front limits job.reader job.client.state (field_log job.log) h.0.1.sents h.0.0 h.0.1.asked h.0.1.made,
      h.1,
    ))
    (λ least. inr h.1)

-- after an edit, and before the first
pub rest_done : (limits : Limits) (job : FieldJob) (own : List Entry) (goes_on : Bool) →
    HasFieldRest limits job own goes_on
    →
    own ≡ map edit_of job.edits → IsFieldDone limits job
rest_done limits job own true h is =
    done_by limits job own [] h.0 is (sent_true limits job own h.0) (λ least. inl h.1.all)
rest_done limits job own false h is = ended_done limits job own h is

none_done : (limits : Limits) (job : FieldJob) (own : List Entry) (goes_on : Bool) → IsFieldAt limits job own goes_on →
    own ≡ map edit_of job.edits → length job.edits ≡ 0 → IsFieldDone limits job
none_done limits job own true h is none =
    done_by limits job own [] h is (sent_true limits job own h) (λ least. absurd (omega (arith, least, none)))
none_done limits job own false h is none = ended_done limits job own h is

pub rest_at : (limits : Limits) (job : FieldJob) (own : List Entry) (goes_on : Bool) →
    HasFieldRest limits job own goes_on → IsFieldAt limits job own goes_on
rest_at limits job own true h = h.0
rest_at limits job own false h = h

-- where it stopped, it had made the first of its edits

longer_cut : (limits : Limits) (job : FieldJob) (own more : List Entry) → IsFieldCut limits job own →
    IsFieldCut limits job (own ++ more)
longer_cut limits job own more k = record {
  own-is = record {
    rest = k.own-is.rest ++ more;
    is = ap (λ (l : List Entry). l ++ more) k.own-is.is ∙ append_assoc _ k.own-is.rest more;
  };
  taken = k.taken;
  took = k.took;
  events = k.events;
  read = k.read;
  told = k.told;
  sent = k.sent;
}

pub stops_longer : (limits : Limits) (job : FieldJob) (own more all : List Entry) (end : JobEnd) → all ≡ own ++ more →
    FieldStops limits job own end → FieldStops limits job all end
stops_longer limits job own more all (ends.JournalFull kept) is k =
    (subst (λ (l : List Entry). IsFieldCut limits job l) (sym is) (longer_cut limits job own more k.0), k.1)
stops_longer limits job own more all ends.BadEvent is k = k
stops_longer limits job own more all ends.NoMemory is k =
    subst (λ (l : List Entry). IsFieldCut limits job l) (sym is) (longer_cut limits job own more k)

-- ---- the whole run

first_and_more : (edits : List FieldEdit) (n : ℕ) →
    map edit_of edits ≡ map edit_of (take n edits) ++ map edit_of (drop n edits)
first_and_more edits n =
    ap (map edit_of) (sym (take-append-drop n edits)) ∙ map-append edit_of (take n edits) (drop n edits)

pub runs_stops : (limits : Limits) (a b : FieldJob) (n : ℕ) (end : JobEnd) → FieldKeeps limits a b →
    FieldStops limits b (first_edits a n) end → FieldRuns limits a b (Err end)
runs_stops limits a b n end k s = record {
  saw = k.saw;
  same = k.same;
  ends = stops_longer limits b (first_edits a n) (map edit_of (drop n a.edits)) (map edit_of b.edits) end
      (ap (map edit_of) k.same ∙ first_and_more a.edits n) s;
}

runs_by : (limits : Limits) (a b : FieldJob) (n : ℕ) (goes_on : Bool) → n ≡ length a.edits → FieldKeeps limits a b →
    IsFieldAt limits b (first_edits a n) goes_on → (1 ≤ n → HasFieldRest limits b (first_edits a n) goes_on) →
    IsFieldDone limits b
runs_by limits a b zero goes_on all k h rests =
    none_done limits b (first_edits a zero) goes_on h
    (ap (map edit_of) (take_all zero a.edits (omega (arith, all)) ∙ sym k.same))
    (ap length k.same ∙ sym all)
runs_by limits a b (suc n) goes_on all k h rests =
    rest_done limits b (first_edits a (suc n)) goes_on (rests (omega arith))
    (ap (map edit_of) (take_all (suc n) a.edits (omega (arith, all)) ∙ sym k.same))

pub runs_done : (limits : Limits) (a b : FieldJob) (n : ℕ) (goes_on : Bool) (done : Unit {0}) → length a.edits ≤ n →
    n ≤ length a.edits → FieldKeeps limits a b → IsFieldAt limits b (first_edits a n) goes_on →
    (1 ≤ n → HasFieldRest limits b (first_edits a n) goes_on) → FieldRuns limits a b (Ok done)
runs_done limits a b n goes_on done most least k h rests = record {
  saw = k.saw;
  same = k.same;
  ends = runs_by limits a b n goes_on (omega (arith, most, least)) k h rests;
}

pub plays_done : (limits : Limits) (a b : FieldJob) (n : ℕ) (goes_on : Bool) → length a.edits ≤ n →
    FieldKeeps limits a b → IsFieldAt limits b (first_edits a n) goes_on →
    (1 ≤ n → HasFieldRest limits b (first_edits a n) goes_on) → IsFieldPlayed limits b goes_on
plays_done limits a b n goes_on most k h rests =
    let all : first_edits a n ≡ map edit_of b.edits = ap (map edit_of) (take_all n a.edits most ∙ sym k.same) in
    let many : length b.edits ≡ length a.edits = ap length k.same in (
      subst (λ (own : List Entry). IsFieldAt limits b own goes_on) all h,
      λ some. subst (λ (own : List Entry). HasFieldRest limits b own goes_on) all
          (rests (omega (arith, some, most, many))),
    )

-- a part of the run, whose job has the edits of the first one
same_first : (a now : FieldJob) (n : ℕ) → now.edits ≡ a.edits → first_edits now n ≡ first_edits a n
same_first a now n same = ap (λ (l : List FieldEdit). map edit_of (take n l)) same

pub next_at : (limits : Limits) (a now new : FieldJob) (n : ℕ) (goes_on after : Bool) → now.edits ≡ a.edits →
    (IsFieldAt limits now (first_edits now n) goes_on → IsFieldAt limits new (first_edits now (n + 1)) after) →
    IsFieldAt limits now (first_edits a n) goes_on → IsFieldAt limits new (first_edits a (n + 1)) after
next_at limits a now new n goes_on after same f h =
    subst (λ (own : List Entry). IsFieldAt limits new own after) (same_first a now (n + 1) same)
    (f (subst (λ (own : List Entry). IsFieldAt limits now own goes_on) (sym (same_first a now n same)) h))

pub next_goes : (limits : Limits) (a now new : FieldJob) (n : ℕ) (goes_on : Bool) (r : Result Bool JobEnd) →
    now.edits ≡ a.edits →
    (IsFieldAt limits now (first_edits now n) goes_on → FieldGoes limits new (first_edits now (n + 1)) r) →
    IsFieldAt limits now (first_edits a n) goes_on → FieldGoes limits new (first_edits a (n + 1)) r
next_goes limits a now new n goes_on r same f h =
    subst (λ (own : List Entry). FieldGoes limits new own r) (same_first a now (n + 1) same)
    (f (subst (λ (own : List Entry). IsFieldAt limits now own goes_on) (sym (same_first a now n same)) h))
