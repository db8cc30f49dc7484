-- What the method's log has of what the one journal tells its peer, and the peer's steps there
use Rattle.std.proofs.Common.{ℕ, ◌+◌, ◌^◌, ◌≤◌, ◌<◌, List, [], ◌∷◌, ◌++◌, length, map, Result, Ok, Err, sym, ap, subst, ◌∙◌, arith, length-append}
use Rattle.std.specs.List.{AllByRecursion}
use Rattle.std.proofs.lemmas.List.{append-nil, append_assoc}
use Rattle.broker_steps.specs.declared.limits.Limits.{Limits}
use Rattle.broker_steps.specs.declared.step.ShellStep.{ShellStep}
use Rattle.broker_steps.specs.declared.step.ShellStep.TheVariants as shells
use Rattle.wl_wire.specs.Messages.{messages}
use Rattle.wl_proto.specs.declared.event.Event.{Event}
use Rattle.client_side.specs.Events.{method_objects}
use Rattle.client_side.specs.MethodLog.{Happening}
use Rattle.client_side.specs.Messages.{Sent}
use Rattle.trial_client_logs.specs.MethodLogs.{settled, method_log}
use Rattle.broker_model.specs.declared.journal.Entry.{Entry}
use Rattle.broker_model.specs.declared.journal.Entry.TheVariants as entries
use Rattle.broker_model.specs.Limits.{number_counted}
use Rattle.broker_model.specs.Out.{out_for}
use Rattle.broker_model.specs.Resolve.{past_of}
use Rattle.broker_model.specs.Settle.{number_alive}
use Rattle.broker_core.proofs.AliveAfterEntry.{counted_cons}
use Rattle.hub_lock.specs.Histories.{History}
use Rattle.hub_lock.specs.Lawful.{IsLawful}
use Rattle.hub_lock.specs.Steps.{IsGiven}
use Rattle.hub_calls.specs.Made.{journal_of}
use Rattle.hub_calls.specs.Taken.{HasTaken}
use Rattle.trial_run.specs.declared.typist.TrialTypist.{TrialTypist}
use Rattle.trial_laws.specs.RelayedBatches.{IsFrontOf}
use Rattle.trial_laws.specs.ToldEvents.{events_told}
use Rattle.trial_laws.specs.TypedLogs.{events_of, requests_of, steps_by, steps_of, events_in}
use Rattle.trial_laws.proofs.MethodHeardAll.{taken_heard}
use Rattle.trial_laws.proofs.MethodIds.{AreKnown, requests_safe, known_steps, all_known}
use Rattle.trial_laws.proofs.ToldHeard.{IsSaid, SpellsAll, put_heard, spelled_events}
use Rattle.trial_laws.proofs.TrialSteps.{IsOfShell, HasShell}
use Rattle.trial_typing.specs.declared.job_end.JobEnd.{JobEnd}
use Rattle.trial_typing.specs.declared.job_end.JobEnd.TheVariants as ends
use Rattle.trial_typing.specs.Fronts as jobs
use Rattle.trial_typing.specs.Sending.{HasSentFront}
use Rattle.trial_jobs.specs.declared.method_job.MethodJob.{MethodJob}
use Rattle.trial_jobs.specs.MethodHearing.{HasShort}
use Rattle.trial_jobs.specs.MethodLaw.{IsFresh, IsMethodDone, IsMethodCut, MethodStops, MethodEnds}
use Rattle.trial_jobs.proofs.RequestsShort.{requests_short}
use Rattle.trial_laws.proofs.TextsRelayed.{front_on}
use Rattle.trial_job_laws.specs.Passes.{ArePassesOf}
use Rattle.trial_job_laws.specs.MethodTold.{IsMethodTold}
use Rattle.trial_job_laws.specs.ShellTold.{orders_of, IsFocusOrKey}
use Rattle.trial_job_laws.specs.JobLaws.{MethodsAreTold, MethodsHaveSent}
use Rattle.trial_job_laws.proofs.JournalsHeld.{lawful_each, lawful_held}
use Rattle.trial_job_laws.proofs.PassesSeen.{TookIn, took_in}
use Rattle.trial_job_laws.proofs.EventsRead.{method_begins}
use Rattle.trial_job_laws.proofs.RequestsInOrder.{front_by, front_sent, all_sent}

-- ---- the journal

-- the entries that are orders, each where the shell moves the focus or says a key
all-left : (xs ys : List ShellStep) → AllByRecursion IsFocusOrKey (xs ++ ys) → AllByRecursion IsFocusOrKey xs
all-left [] ys h = tt
all-left (x ∷ xs) ys h = (h.0, all-left xs ys h.1)

last_is : (xs : List ShellStep) (step : ShellStep) → AllByRecursion IsFocusOrKey (xs ++ step ∷ []) → IsFocusOrKey step
last_is [] step h = h.0
last_is (x ∷ xs) step h = last_is xs step h.1

of_shell : (step : ShellStep) → IsFocusOrKey step → IsGiven (entries.Shell step) → IsOfShell step
of_shell (shells.Focus q id) h given = tt
of_shell shells.Unfocus h given = tt
of_shell (shells.Key time key state) h given =
    (given.0.0, given.0.1, (let few : state ≤ 1 = given.1 in omega arith))
of_shell (shells.Area q id rect) h given = absurd h
of_shell (shells.Screen size) h given = absurd h
of_shell (shells.Mods mods) h given = absurd h
of_shell (shells.Keymap keymap) h given = absurd h
of_shell (shells.Repeat repeat) h given = absurd h
of_shell (shells.At moment) h given = absurd h

-- what an entry was given as, where that isn't an end
abbrev WasGiven : Entry → Type 0
WasGiven (entries.End q cause) = Unit {0}
WasGiven e = IsGiven e

was_given : (e : Entry) → IsGiven e → WasGiven e
was_given (entries.End q cause) given = tt
was_given (entries.Join role) given = given
was_given (entries.Message q id opcode body) given = given
was_given (entries.Tokens q tokens) given = given
was_given (entries.BadSize q head) given = given
was_given (entries.Shell step) given = given
was_given (entries.Took q bytes) given = given

have_shell : (journal : List Entry) → AllByRecursion WasGiven journal →
    AllByRecursion IsFocusOrKey (orders_of journal) → AllByRecursion HasShell journal
have_shell [] given h = tt
have_shell (entries.Shell step ∷ older) given h = (
  of_shell step (last_is (orders_of older) step h) given.0,
  have_shell older given.1 (all-left (orders_of older) (step ∷ []) h),
)
have_shell (entries.Join role ∷ older) given h = (tt, have_shell older given.1 h)
have_shell (entries.Message q id opcode body ∷ older) given h = (tt, have_shell older given.1 h)
have_shell (entries.Tokens q tokens ∷ older) given h = (tt, have_shell older given.1 h)
have_shell (entries.BadSize q head ∷ older) given h = (tt, have_shell older given.1 h)
have_shell (entries.End q cause ∷ older) given h = (tt, have_shell older given.1 h)
have_shell (entries.Took q bytes ∷ older) given h = (tt, have_shell older given.1 h)

-- fewer than 2^32 entries

joined_one : (e : Entry) (older : List Entry) → length (past_of older).joined ≤ number_counted older →
    length (past_of (e ∷ older)).joined ≤ number_counted (e ∷ older)
joined_one (entries.Join role) older few =
    (let one = length-append (past_of older).joined (record { label = length older + 1; role = role } ∷ []) in
    let count = counted_cons (entries.Join role) older in omega arith)
joined_one (entries.Message q id opcode body) older few =
    (let count = counted_cons (entries.Message q id opcode body) older in omega arith)
joined_one (entries.Tokens q tokens) older few =
    (let count = counted_cons (entries.Tokens q tokens) older in omega arith)
joined_one (entries.BadSize q head) older few =
    (let count = counted_cons (entries.BadSize q head) older in omega arith)
joined_one (entries.End q cause) older few =
    (let count = counted_cons (entries.End q cause) older in omega arith)
joined_one (entries.Shell step) older few =
    (let count = counted_cons (entries.Shell step) older in omega arith)
joined_one (entries.Took q bytes) older few =
    (let count = counted_cons (entries.Took q bytes) older in omega arith)

joined_few : (journal : List Entry) → length (past_of journal).joined ≤ number_counted journal
joined_few [] = omega arith
joined_few (e ∷ older) = joined_one e older (joined_few older)

pub few_entries : (limits : Limits) (h : History) → IsLawful limits h → length (journal_of limits h) < 2 ^ 32
few_entries limits h lawful =
    let journal : List Entry = journal_of limits h in
    let few = joined_few journal in
    let ends : length journal + number_alive journal ≤ number_counted journal + length (past_of journal).joined =
    lawful.shared.ends in
    let counted : number_counted journal ≤ limits.entries = lawful.shared.counted in
    let most : limits.entries ≤ 4000000 = lawful.limited.0.1 in
    omega arith

pub is_said : (limits : Limits) (h : History) → IsLawful limits h →
    AllByRecursion IsFocusOrKey (orders_of (journal_of limits h)) → IsSaid (journal_of limits h)
is_said limits h lawful orders =
    let given : AllByRecursion WasGiven (journal_of limits h) =
    lawful_each WasGiven (λ q cause. tt) was_given limits h lawful in
    record {
      held = lawful_held limits h lawful;
      shells = have_shell (journal_of limits h) given orders;
      few = few_entries limits h lawful;
    }

-- ---- what a job has, however it ended

record HasHeard (limits : Limits) (typist : TrialTypist) (job : MethodJob) : Type 0 where
  taken : List ℕ
  took : HasTaken limits job.writer taken
  events : List Event
  begins : jobs.BeginsWith method_objects taken events
  told : jobs.IsFrontOf (events_of (method_log job.log)) (map settled events)
  sent : HasSentFront job.reader (requests_of typist (method_log job.log))

of_done : (limits : Limits) (typist : TrialTypist) (job : MethodJob) → IsMethodDone limits typist job →
    HasHeard limits typist job
of_done limits typist job d = record {
  taken = d.taken;
  took = d.took;
  events = d.events;
  begins = d.read.begins;
  told = record { rest = []; is = sym d.told ∙ sym (append-nil _) };
  sent = front_by limits job.reader job.writer (requests_of typist (method_log job.log)) d.sent;
}

of_cut : (limits : Limits) (typist : TrialTypist) (job : MethodJob) (own : List _) → IsMethodCut limits typist job own →
    HasHeard limits typist job
of_cut limits typist job own c = record {
  taken = c.taken;
  took = c.took;
  events = c.events;
  begins = c.read;
  told = c.told;
  sent = c.sent;
}

of_stop : (limits : Limits) (typist : TrialTypist) (job : MethodJob) (own : List _) (end : JobEnd) →
    MethodStops limits typist job own end → HasHeard limits typist job
of_stop limits typist job own (ends.JournalFull kept) k = of_cut limits typist job own k.0
of_stop limits typist job own ends.BadEvent k = of_cut limits typist job own k.0
of_stop limits typist job own ends.NoMemory k = of_cut limits typist job own k

of_end : (limits : Limits) (typist : TrialTypist) (job : MethodJob) (r : Result (Unit {0}) JobEnd) →
    MethodEnds limits typist job r → HasHeard limits typist job
of_end limits typist job (Ok done) k = of_done limits typist job k
of_end limits typist job (Err end) k = of_stop limits typist job _ end k

pub sent_by : (limits : Limits) (typist : TrialTypist) (job : MethodJob) (r : Result (Unit {0}) JobEnd) →
    MethodEnds limits typist job r → HasSentFront job.reader (requests_of typist (method_log job.log))
sent_by limits typist job r k = (of_end limits typist job r k).sent

-- ---- the law

heard_front : (limits : Limits) (journal : List Entry) (typist : TrialTypist) (job : MethodJob)
    (k : HasHeard limits typist job) (t : TookIn limits journal 1 k.taken) →
    IsFrontOf (events_of (method_log job.log))
    (events_in (messages (out_for limits.store journal t.peer.label).put.bytes))
heard_front limits journal typist job k t =
    let out = out_for limits.store journal t.peer.label in
    let f = k.told in
    let begins : IsFrontOf (events_of (method_log job.log)) (events_in (messages k.taken)) =
    record {
      rest = f.rest ++ events_in (messages k.begins.rest);
      is = sym (append_assoc (events_of (method_log job.log)) f.rest (events_in (messages k.begins.rest)))
          ∙ ap (λ (l : List Event). l ++ events_in (messages k.begins.rest)) (sym f.is)
          ∙ sym (method_begins k.taken k.events k.begins);
    } in
    let taken : IsFrontOf (events_in (messages k.taken)) (events_in (messages out.put.bytes)) =
    subst (λ (b : List ℕ). IsFrontOf (events_in (messages b)) (events_in (messages out.put.bytes))) (sym t.is)
    (taken_heard out.taken out.put.bytes) in
    front_on _ _ _ begins taken

told_by : (limits : Limits) (h : History) (typist : TrialTypist) (job : MethodJob) → IsLawful limits h →
    ArePassesOf h 1 job.reader job.writer → IsFresh typist → HasShort (method_log job.log) →
    AllByRecursion IsFocusOrKey (orders_of (journal_of limits h)) → HasHeard limits typist job →
    IsMethodTold limits (journal_of limits h) typist (method_log job.log)
told_by limits h typist job lawful p fresh short orders k =
    let log : List Happening = method_log job.log in
    let ss : List Sent = requests_of typist log in
    let journal : List Entry = journal_of limits h in
    let t : TookIn limits journal 1 k.taken = took_in limits h 1 job.reader job.writer k.taken lawful p k.took in
    let sent : IsFrontOf (steps_by journal 1) (steps_of 1 ss) =
    front_sent limits h 1 job.reader job.writer ss lawful p (requests_short typist fresh log short) k.sent in
    let known : AreKnown (past_of journal).made t.peer.label =
    all_known journal t.peer t.joined
    (known_steps journal sent.rest ss sent.is (requests_safe typist log)) in
    let put : SpellsAll (out_for limits.store journal t.peer.label).put.bytes
    (events_told limits.store journal t.peer.label) =
    put_heard limits.store journal t.peer.label known (is_said limits h lawful orders) in
    let f = heard_front limits journal typist job k t in
    record {
      peer = t.peer;
      joined = t.joined;
      told = record {
        rest = f.rest;
        is = f.is ∙ spelled_events _ (events_told limits.store journal t.peer.label) put;
      };
      sent = sent;
    }

pub methods_are_told : MethodsAreTold
methods_are_told limits h typist job r lawful p fresh short orders k =
    told_by limits h typist job lawful p fresh short orders (of_end limits typist job r k)

pub methods_have_sent : MethodsHaveSent
methods_have_sent limits h typist job lawful p fresh short orders done = record {
  told = told_by limits h typist job lawful p fresh short orders (of_done limits typist job done);
  sent = all_sent limits h 1 job.reader job.writer (requests_of typist (method_log job.log)) lawful p
      (requests_short typist fresh (method_log job.log) short) done.sent;
}
