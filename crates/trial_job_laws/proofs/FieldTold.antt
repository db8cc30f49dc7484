-- What a field's log has of what the one journal tells the field, and its peer's steps there
use Rattle.std.proofs.Common.{◌≡◌, ℕ, ◌+◌, List, [], ◌∷◌, ◌++◌, length, map, take, drop, Result, Ok, Err, refl, sym, ap, subst, ◌∙◌, arith}
use Rattle.std.proofs.lemmas.List.{append-nil, take-append-drop}
use Rattle.broker_steps.specs.declared.limits.Limits.{Limits}
use Rattle.wl_wire.specs.Messages.{messages}
use Rattle.wl_proto.specs.declared.event.Event.{Event}
use Rattle.trial_field.specs.Log.{Batch, no_edits}
use Rattle.client_side.specs.Events.{field_objects}
use Rattle.client_side.specs.FieldLog.{sends_of}
use Rattle.client_side.specs.FieldState.{logged}
use Rattle.client_side.specs.Happenings.{Happening, edited, batch, entered, left}
use Rattle.client_side.specs.Messages.{field_setup}
use Rattle.trial_client_logs.specs.Logs.{field_log}
use Rattle.trial_client_logs.specs.MethodLogs.{settled}
use Rattle.broker_model.specs.declared.journal.Entry.{Entry}
use Rattle.broker_model.specs.Out.{out_for}
use Rattle.broker_model.specs.Queued.{queued}
use Rattle.broker_model.specs.Resolve.{past_of}
use Rattle.hub_lock.specs.Histories.{History, entries_of}
use Rattle.hub_lock.specs.Lawful.{IsLawful}
use Rattle.hub_calls.specs.Made.{journal_of}
use Rattle.hub_calls.specs.Taken.{HasTaken}
use Rattle.trial_laws.specs.FieldLogs as fields
use Rattle.trial_laws.specs.RelayedBatches.{batches_in, groups_told, IsFrontOf}
use Rattle.trial_laws.proofs.HeardInPieces.{waiting, happenings-append, messages_on}
use Rattle.trial_laws.proofs.ClientIds.{AreOwn}
use Rattle.trial_laws.proofs.GroupsHeard.{front_heard, batches-append, tells_front}
use Rattle.trial_laws.proofs.BatchesRelayed.{AreShortBodies, IsInput, IsTold, messages_joined, all_told}
use Rattle.trial_laws.proofs.TextsRelayed.{is_input, front_on, queued_front, no_input, queued_none, none_in_front}
use Rattle.trial_laws.specs.TypedLogs.{steps_by, steps_of}
use Rattle.trial_typing.specs.declared.field_job.FieldJob.{FieldJob}
use Rattle.trial_typing.specs.declared.job_end.JobEnd.{JobEnd}
use Rattle.trial_typing.specs.declared.job_end.JobEnd.TheVariants as ends
use Rattle.trial_typing.specs.Fronts as jobs
use Rattle.trial_typing.specs.Happened as said
use Rattle.trial_typing.specs.FieldLaw.{IsFieldDone, IsFieldCut, FieldStops, FieldEnds}
use Rattle.trial_typing.specs.Sending.{HasSentFront}
use Rattle.trial_typing.proofs.RequestsWhole.{AreShort, short-append, sends_short, setup_short}
use Rattle.trial_laws.proofs.TextsBatched.{journal_relays}
use Rattle.trial_job_laws.specs.Passes.{ArePassesOf, HasSentIn}
use Rattle.trial_job_laws.specs.FieldTold.{told_to, IsFieldTold}
use Rattle.trial_job_laws.specs.JobLaws.{FieldsAreTold, FieldsHaveSent}
use Rattle.trial_job_laws.proofs.StepsOfPeers.{steps_outer}
use Rattle.trial_job_laws.proofs.JournalsHeld.{lawful_bytes, lawful_short}
use Rattle.trial_job_laws.proofs.PassesSeen.{TookIn, took_in}
use Rattle.trial_job_laws.proofs.EventsRead.{same_happenings, field_begins}
use Rattle.trial_job_laws.proofs.RequestsInOrder.{front_by, front_sent, all_sent}
use Rattle.trial_job_laws.proofs.ObjectsMade.{field_own}
use Rattle.trial_job_laws.proofs.FieldsThere.{field_made}

-- ---- fronts

front_is : {A : Type 0} (xs ys zs : List A) → ys ≡ zs → IsFrontOf xs ys → IsFrontOf xs zs
front_is xs ys zs e f = record { rest = f.rest; is = f.is ∙ e }

happened_front : (xs ys : List Event) → IsFrontOf xs ys →
    IsFrontOf (fields.happenings xs no_edits) (fields.happenings ys no_edits)
happened_front xs ys f = record {
  rest = fields.happenings f.rest (waiting xs no_edits);
  is = sym (happenings-append xs f.rest no_edits) ∙ ap (λ (l : List Event). fields.happenings l no_edits) f.is;
}

batches_front : (xs ys : List Happening) → IsFrontOf xs ys → IsFrontOf (batches_in xs) (batches_in ys)
batches_front xs ys f = record {
  rest = batches_in f.rest;
  is = sym (batches-append xs f.rest) ∙ ap batches_in f.is;
}

-- ---- the words of jobs, and those of trials

pub told_same : (log : List Happening) → fields.told_in log ≡ said.told_in log
told_same [] = refl
told_same (edited edit ∷ older) = told_same older
told_same (batch edits serial ∷ older) =
    ap (λ (l : List Happening). l ++ batch edits serial ∷ []) (told_same older)
told_same (entered ∷ older) = ap (λ (l : List Happening). l ++ entered ∷ []) (told_same older)
told_same (left ∷ older) = ap (λ (l : List Happening). l ++ left ∷ []) (told_same older)

pub happened_same : (es : List Event) (w : Batch) → said.happenings es w ≡ fields.happenings es w
happened_same [] w = refl
happened_same (e ∷ es) w = ap (λ (l : List Happening). logged e w [] ++ l) (happened_same es (said.waiting_after e w))

-- ---- what a job has, however it ended

record HasHeard (limits : Limits) (job : FieldJob) : Type 0 where
  taken : List ℕ
  took : HasTaken limits job.writer taken
  events : List Event
  begins : jobs.BeginsWith field_objects taken events
  told : jobs.IsFrontOf (said.told_in (field_log job.log)) (said.happenings events no_edits)
  sent : HasSentFront job.reader (field_setup ++ sends_of (field_log job.log))

of_done : (limits : Limits) (job : FieldJob) → IsFieldDone limits job → HasHeard limits job
of_done limits job d = record {
  taken = d.taken;
  took = d.took;
  events = d.events;
  begins = d.read.begins;
  told = record { rest = []; is = sym d.told ∙ sym (append-nil _) };
  sent = front_by limits job.reader job.writer (field_setup ++ sends_of (field_log job.log)) d.sent;
}

of_cut : (limits : Limits) (job : FieldJob) (own : List _) → IsFieldCut limits job own → HasHeard limits job
of_cut limits job own c = record {
  taken = c.taken;
  took = c.took;
  events = c.events;
  begins = c.read;
  told = c.told;
  sent = c.sent;
}

of_stop : (limits : Limits) (job : FieldJob) (own : List _) (end : JobEnd) → FieldStops limits job own end →
    HasHeard limits job
of_stop limits job own (ends.JournalFull kept) k = of_cut limits job own k.0
of_stop limits job own ends.BadEvent k = absurd k
of_stop limits job own ends.NoMemory k = of_cut limits job own k

of_end : (limits : Limits) (job : FieldJob) (r : Result (Unit {0}) JobEnd) → FieldEnds limits job r →
    HasHeard limits job
of_end limits job (Ok done) k = of_done limits job k
of_end limits job (Err end) k = of_stop limits job _ end k

pub sent_by : (limits : Limits) (job : FieldJob) (r : Result (Unit {0}) JobEnd) → FieldEnds limits job r →
    HasSentFront job.reader (field_setup ++ sends_of (field_log job.log))
sent_by limits job r k = (of_end limits job r k).sent

-- ---- enters, leaves and batches

-- what the first n bytes tell is a front of what all of them tell
events_front : (n : ℕ) (put : List ℕ) →
    IsFrontOf (fields.events_in (messages (take n put))) (fields.events_in (messages put))
events_front n put =
    let all = ap messages (sym (take-append-drop n put)) ∙ messages_on (take n put) (drop n put) in
    front_is _ _ _ (ap fields.events_in (sym all)) (front_heard (messages (take n put)) _)

heard_front : (limits : Limits) (journal : List Entry) (q : ℕ) (job : FieldJob) (k : HasHeard limits job)
    (t : TookIn limits journal q k.taken) →
    IsFrontOf (fields.told_in (field_log job.log)) (told_to limits.store journal t.peer.label)
heard_front limits journal q job k t =
    let log : List Happening = field_log job.log in
    let out = out_for limits.store journal t.peer.label in
    let begins : IsFrontOf (map settled k.events) (fields.events_in (messages k.taken)) =
    record {
      rest = fields.events_in (messages k.begins.rest);
      is = sym (field_begins k.taken k.events k.begins);
    } in
    let taken : IsFrontOf (fields.events_in (messages k.taken)) (fields.events_in (messages out.put.bytes)) =
    subst (λ (b : List ℕ). IsFrontOf (fields.events_in (messages b)) (fields.events_in (messages out.put.bytes)))
    (sym t.is) (events_front out.taken out.put.bytes) in
    let f = k.told in
    let told : IsFrontOf (fields.told_in log) (fields.happenings (map settled k.events) no_edits) =
    record {
      rest = f.rest;
      is = ap (λ (l : List Happening). l ++ f.rest) (told_same log) ∙ sym f.is
          ∙ happened_same k.events no_edits ∙ sym (same_happenings k.events no_edits);
    } in
    front_on _ _ _ told (happened_front _ _ (front_on _ _ _ begins taken))

-- ---- batches

-- all that is put tells a front of what is queued
put_front : (capacity : ℕ) (journal : List Entry) (p f : ℕ) → IsInput journal p f → AreShortBodies journal →
    IsFrontOf (batches_in (told_to capacity journal p)) (groups_told (queued capacity journal f))
put_front capacity journal p f input short =
    let told : IsTold capacity journal p f = all_told capacity journal p f input short in
    let found : messages (out_for capacity journal p).put.bytes ≡ told.messages =
    ap messages told.bytes ∙ messages_joined told.messages told.each in
    subst (λ (ms : List (List ℕ)). IsFrontOf (batches_in (fields.happenings (fields.events_in ms) no_edits))
    (groups_told (queued capacity journal f))) (sym found)
    (tells_front told.messages (groups_told (queued capacity journal f)) told.tells)

-- ---- the law

are_short : (job : FieldJob) → AreShort (field_setup ++ sends_of (field_log job.log))
are_short job =
    short-append field_setup (sends_of (field_log job.log)) setup_short (sends_short (field_log job.log))

told_by : (limits : Limits) (h : History) (q : ℕ) (job : FieldJob) → IsLawful limits h →
    ArePassesOf h q job.reader job.writer → HasHeard limits job →
    IsFieldTold limits (journal_of limits h) q (field_log job.log)
told_by limits h q job lawful p k =
    let log : List Happening = field_log job.log in
    let journal : List Entry = journal_of limits h in
    let t : TookIn limits journal q k.taken = took_in limits h q job.reader job.writer k.taken lawful p k.took in
    let sent : IsFrontOf (steps_by journal q) (steps_of q (field_setup ++ sends_of log)) =
    front_sent limits h q job.reader job.writer (field_setup ++ sends_of log) lawful p (are_short job) k.sent in
    let own : AreOwn (past_of journal).made t.peer.label 7 =
    field_own limits.store (entries_of h) q sent.rest log t.peer
    (ap (λ (l : List Entry). l ++ sent.rest) (sym (steps_outer limits.store (entries_of h) q)) ∙ sent.is) t.joined in
    let short : AreShortBodies journal = lawful_short limits h lawful in
    let told : IsFrontOf (fields.told_in log) (told_to limits.store journal t.peer.label) =
    heard_front limits journal q job k t in
    let batches : IsFrontOf (batches_in (fields.told_in log)) (batches_in (told_to limits.store journal t.peer.label)) =
    batches_front _ _ told in
    record {
      peer = t.peer;
      joined = t.joined;
      told = told;
      batches = λ f is.
          front_is _ _ _ (journal_relays journal f (lawful_bytes limits h lawful) short)
          (front_on _ _ _ batches
          (front_on _ _ _ (put_front limits.store journal t.peer.label f
          (is_input journal t.peer.label f own is) short)
          (queued_front limits.store journal f lawful.shared.history)));
      none = λ no.
          none_in_front _ _ (ap groups_told (queued_none limits.store journal (length journal + 1) (omega arith)))
          (front_on _ _ _ batches (put_front limits.store journal t.peer.label (length journal + 1)
          (no_input journal t.peer.label own no) short));
      sent = sent;
    }

pub fields_are_told : FieldsAreTold
fields_are_told limits h q job r lawful p k = told_by limits h q job lawful p (of_end limits job r k)

pub fields_have_sent : FieldsHaveSent
fields_have_sent limits h q job lawful p done =
    let log : List Happening = field_log job.log in
    let told : IsFieldTold limits (journal_of limits h) q log = told_by limits h q job lawful p
    (of_done limits job done) in
    let sent : HasSentIn (journal_of limits h) q (field_setup ++ sends_of log) =
    all_sent limits h q job.reader job.writer (field_setup ++ sends_of log) lawful p (are_short job) done.sent in
    record { told = told; sent = sent; made = field_made limits h q log told.peer lawful told.joined sent }
