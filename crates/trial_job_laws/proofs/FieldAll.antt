-- A field that took all, as far as its writer has seen, has all that the one journal tells it
use Rattle.std.proofs.Common.{◌≡◌, ℕ, zero, suc, ◌+◌, ◌≤◌, ◌<◌, Bool, true, false, List, [], ◌∷◌, ◌++◌, length, map, Option, Some, None, refl, sym, ap, subst, ◌∙◌, arith, inl, inr, length-append}
use Rattle.std.specs.Prelude.{◌⊎◌, if◌then◌else◌, ◌==◌, get_or}
use Rattle.std.specs.List.{AllByRecursion, Contains}
use Rattle.std.proofs.lemmas.Bool.{eq-eqb}
use Rattle.std.proofs.lemmas.List.{append-nil}
use Rattle.std.proofs.lemmas.Option.{same_Some}
use Rattle.broker_steps.specs.declared.limits.Limits.{Limits}
use Rattle.wl_wire.specs.Messages.{AreMessages, IsPartial, messages, joined}
use Rattle.wl_wire.specs.Messages.{joined as joined_bytes}
use Rattle.wl_proto.specs.declared.event.Event.{Event}
use Rattle.relay_model.specs.declared.act.EndCause.{EndCause}
use Rattle.relay_model.specs.declared.act.EndCause.TheVariants.{Full}
use Rattle.relay_model.specs.Batch.{relayed}
use Rattle.relay_model.specs.Idle as idle
use Rattle.trial_field.specs.Log.{no_edits}
use Rattle.client_side.specs.Client.{IsWrong}
use Rattle.client_side.specs.Events.{field_objects}
use Rattle.client_side.specs.Happenings.{Happening}
use Rattle.trial_client_logs.specs.Logs.{field_log}
use Rattle.trial_client_logs.specs.MethodLogs.{settled}
use Rattle.broker_model.specs.declared.journal.Entry.{Entry}
use Rattle.broker_model.specs.declared.journal.Entry.TheVariants as entries
use Rattle.broker_model.specs.Ids.{Joined, log_of, peer_at}
use Rattle.broker_model.specs.Law.{maker_of, IsQueued, IsLeftOut}
use Rattle.broker_model.specs.Out.{Outgoing, out_for}
use Rattle.broker_model.specs.Queued.{queued}
use Rattle.broker_model.specs.Resolve.{past_of, resolve}
use Rattle.broker_model.specs.Settle.{due, cause_of, with_end, settled as ends_appended, settle, number_alive, history, outer}
use Rattle.broker_model.proofs.LabelsRiseByNumber.{one_number}
use Rattle.broker_model.proofs.QueuedForFields.{relay_law}
use Rattle.broker_core.specs.Stands.{end_of}
use Rattle.broker_telling.specs.Sayable.{HasBytes, AreBytes}
use Rattle.broker_telling.proofs.MessagesPut.{ArePut}
use Rattle.hub_lock.specs.declared.step.OuterStep.{OuterStep}
use Rattle.hub_lock.specs.Histories.{History, entries_of}
use Rattle.hub_lock.specs.Lawful.{IsLawful}
use Rattle.hub_calls.specs.Made.{journal_of}
use Rattle.hub_calls.specs.Taken.{HasAll}
use Rattle.hub_calls.proofs.OthersTakeNothing.{entries-append}
use Rattle.trial_run.proofs.FirstMessages.{first_is, found_first}
use Rattle.trial_run.proofs.FrontOfBytes.{partial_none, bad_none}
use Rattle.trial_laws.specs.FieldLogs as fields
use Rattle.trial_laws.specs.RelayedBatches.{batches_in, groups_told}
use Rattle.trial_laws.proofs.HeardInPieces.{waiting, happenings-append}
use Rattle.trial_laws.proofs.ClientIds.{AreOwn}
use Rattle.trial_laws.proofs.GroupsHeard.{IsStopped, Tells, spelled_on}
use Rattle.trial_laws.proofs.GroupsRead.{some_event}
use Rattle.trial_laws.proofs.BatchesRelayed.{AreShortBodies, IsInput, IsTold, messages_joined, all_told}
use Rattle.trial_laws.proofs.TextsRelayed.{is_input}
use Rattle.trial_typing.specs.declared.field_job.FieldJob.{FieldJob}
use Rattle.trial_typing.specs.Fronts.{AreEventsIn}
use Rattle.trial_typing.specs.FieldLaw.{IsFieldDone}
use Rattle.trial_laws.proofs.TextsBatched.{field_made, journal_relays}
use Rattle.trial_job_laws.specs.Passes.{HasEndIn}
use Rattle.trial_job_laws.specs.FieldTold.{told_to, IsFieldTold, IsQuiet, OthersAreFields, IsAllTold}
use Rattle.trial_job_laws.specs.JobLaws.{FieldsAreAllTold}
use Rattle.trial_job_laws.proofs.StepsOfPeers.{steps_outer}
use Rattle.trial_job_laws.proofs.JournalsHeld.{lawful_bytes, lawful_short, HoldsOfEnds}
use Rattle.trial_job_laws.proofs.EventsRead.{same_happenings, are_messages, field_begins}
use Rattle.trial_job_laws.proofs.ObjectsMade.{field_own}
use Rattle.trial_job_laws.proofs.FieldTold.{told_same, happened_same, fields_have_sent}
use Rattle.trial_job_laws.proofs.PutHeard.{IsEventful, put_eventful, eventful_whole, eventful_spelled}
use Rattle.trial_job_laws.proofs.PutSilent.{HaveNoMethod, Stays, PutElse, own_else, else_whole, silent_all, later_puts, joined_later, stays_base}

-- ---- the later entries

-- a journal with newer entries, of each of which this holds
pub record IsNewer (P : Entry → Type 0) (base journal : List Entry) : Type 0 where
  pub newer : List Entry
  pub is : journal ≡ newer ++ base
  pub each : AllByRecursion P newer

newer_end : (P : Entry → Type 0) → HoldsOfEnds P → (base journal : List Entry) (o : Option ℕ) →
    IsNewer P base journal → IsNewer P base (with_end journal o)
newer_end P end base journal None n = n
newer_end P end base journal (Some q) n = record {
  newer = entries.End q (cause_of journal q) ∷ n.newer;
  is = ap (λ (l : List Entry). entries.End q (cause_of journal q) ∷ l) n.is;
  each = (end q (cause_of journal q), n.each);
}

newer_ends : (P : Entry → Type 0) → HoldsOfEnds P → (capacity fuel : ℕ) (base journal : List Entry) →
    IsNewer P base journal → IsNewer P base (ends_appended capacity fuel journal)
newer_ends P end capacity zero base journal n = n
newer_ends P end capacity (suc fuel) base journal n =
    newer_ends P end capacity fuel base (with_end journal (due capacity journal))
    (newer_end P end base journal (due capacity journal) n)

pub newer_steps : (P : Entry → Type 0) → HoldsOfEnds P → (capacity : ℕ) (es base : List Entry) → AllByRecursion P es →
    IsNewer P (history capacity base) (history capacity (es ++ base))
newer_steps P end capacity [] base each = record { newer = []; is = refl; each = tt }
newer_steps P end capacity (e ∷ es) base each =
    let n = newer_steps P end capacity es base each.1 in
    let journal : List Entry = e ∷ history capacity (es ++ base) in
    newer_ends P end capacity (number_alive journal) (history capacity base) journal
    (record {
      newer = e ∷ n.newer;
      is = ap (λ (l : List Entry). e ∷ l) n.is;
      each = (each.0, n.each);
    })

-- so what is settled is no shorter
pub longer_settled : (capacity : ℕ) (journal : List Entry) → length journal ≤ length (settle capacity journal)
longer_settled capacity journal =
    let n = newer_ends (λ e. Unit {0}) (λ q cause. tt) capacity (number_alive journal) journal journal
    (record { newer = []; is = refl; each = tt }) in
    let long = ap length n.is in
    let parts = length-append n.newer journal in
    omega arith

each-both : (P : Entry → Type 0) (xs ys : List Entry) → AllByRecursion P xs → AllByRecursion P ys →
    AllByRecursion P (xs ++ ys)
each-both P [] ys a b = b
each-both P (x ∷ xs) ys a b = (a.0, each-both P xs ys a.1 b)

pub entries_each : (P : Entry → Type 0) (h : History) → AllByRecursion (λ (s : ℕ × OuterStep). P s.1.entry) h →
    AllByRecursion P (entries_of h)
entries_each P [] each = tt
entries_each P (x ∷ h) each =
    subst (AllByRecursion P) (sym (entries-append (x ∷ []) h))
    (each-both P (entries_of h) (x.1.entry ∷ []) (entries_each P h each.1) (each.0, tt))

-- ---- what the events were

pub each_right : {A : Type 0} (P : A → Type 0) (xs ys : List A) → AllByRecursion P (xs ++ ys) → AllByRecursion P ys
each_right P [] ys h = h
each_right P (x ∷ xs) ys h = each_right P xs ys h.1

-- the messages are what all bytes were read as, so nothing goes wrong behind the events
nothing_left : (ms : List (List ℕ)) (events : List Event) (r : AreEventsIn field_objects (joined ms) events) →
    AllByRecursion (IsEventful field_objects) ms → fields.events_in (messages (joined ms)) ≡ map settled events
nothing_left ms events r each =
    field_begins (joined ms) events r.begins
    ∙ ap (λ (l : List Event). map settled events ++ l) (none r.left) ∙ append-nil (map settled events)
  where
    found : messages (joined ms) ≡ ms
    found = messages_joined ms (eventful_whole field_objects ms each)

    behind : AllByRecursion (IsEventful field_objects) (messages r.begins.rest)
    behind =
        each_right (IsEventful field_objects) r.begins.messages (messages r.begins.rest)
        (subst (AllByRecursion (IsEventful field_objects))
        (sym found ∙ ap messages r.begins.front
        ∙ found_first r.begins.messages r.begins.rest
        (are_messages field_objects r.begins.messages events r.begins.are)) each)

    none : IsPartial r.begins.rest ⊎ IsWrong field_objects r.begins.rest →
        fields.events_in (messages r.begins.rest) ≡ []
    none (inl part) = ap fields.events_in (partial_none r.begins.rest part)
    none (inr (inl bad)) = ap fields.events_in (bad_none r.begins.rest bad)
    none (inr (inr w)) =
        let first : AllByRecursion (IsEventful field_objects) (w.0 ∷ messages w.1) =
        subst (AllByRecursion (IsEventful field_objects)) (ap messages w.2 ∙ first_is w.0 w.1 w.3) behind in
        absurd (w.4 first.0.event first.0.is)

-- ---- all of it

told_all : (limits : Limits) (job : FieldJob) (done : IsFieldDone limits job) (ms : List (List ℕ)) →
    done.taken ≡ joined ms → AllByRecursion (IsEventful field_objects) ms →
    fields.told_in (field_log job.log) ≡ fields.happenings (fields.events_in ms) no_edits
told_all limits job done ms is each =
    let read : AreEventsIn field_objects (joined ms) done.events =
    subst (λ (b : List ℕ). AreEventsIn field_objects b done.events) is done.read in
    let found : messages (joined ms) ≡ ms = messages_joined ms (eventful_whole field_objects ms each) in
    told_same (field_log job.log) ∙ done.told ∙ happened_same done.events no_edits
    ∙ sym (same_happenings done.events no_edits)
    ∙ ap (λ (l : List Event). fields.happenings l no_edits) (sym (nothing_left ms done.events read each))
    ∙ ap (λ (l : List (List ℕ)). fields.happenings (fields.events_in l) no_edits) found

-- what is put later tells nothing more
same_told : (put old : List ℕ) (ms : List (List ℕ)) → old ≡ joined ms → AllByRecursion (IsEventful field_objects) ms →
    (k : PutElse old put) →
    fields.happenings (fields.events_in (messages put)) no_edits ≡ fields.happenings (fields.events_in ms) no_edits
same_told put old ms is each k =
    let whole : AreMessages ms = eventful_whole field_objects ms each in
    let found : messages put ≡ ms ++ k.messages =
    ap messages (k.is ∙ ap (λ (l : List ℕ). l ++ joined k.messages) is)
    ∙ found_first ms (joined k.messages) whole
    ∙ ap (λ (l : List (List ℕ)). ms ++ l) (messages_joined k.messages (else_whole k.messages k.each)) in
    ap (λ (l : List (List ℕ)). fields.happenings (fields.events_in l) no_edits) found
    ∙ ap (λ (l : List Event). fields.happenings l no_edits)
    (spelled_on ms (eventful_spelled ms each) k.messages)
    ∙ happenings-append (fields.events_in ms) (fields.events_in k.messages) no_edits
    ∙ ap (λ (l : List Happening). fields.happenings (fields.events_in ms) no_edits ++ l)
    (silent_all k.messages (waiting (fields.events_in ms) no_edits) k.each)
    ∙ append-nil (fields.happenings (fields.events_in ms) no_edits)

-- ---- batches

-- who hears what comes behind messages wasn't stopped by them
not_stopped : (ms : List (List ℕ)) → IsStopped ms →
    ((more : List (List ℕ)) → fields.events_in (ms ++ more) ≡ fields.events_in ms ++ fields.events_in more) → ⊥
not_stopped ms s h =
    let x = some_event in
    let longer : length (fields.events_in ms ++ fields.events_in x.0) ≡ length (fields.events_in ms) =
    ap length (sym (h x.0) ∙ s x.0) in
    let parts : length (fields.events_in ms ++ fields.events_in x.0)
    ≡ length (fields.events_in ms) + length (fields.events_in x.0) =
    length-append (fields.events_in ms) (fields.events_in x.0) in
    let some : length (fields.events_in x.0) ≡ length (x.1 ∷ x.2) = ap length x.3 in
    absurd (omega arith)

tells_all : (ms : List (List ℕ)) (told : List Happening) → Tells ms told →
    ((more : List (List ℕ)) → fields.events_in (ms ++ more) ≡ fields.events_in ms ++ fields.events_in more) →
    batches_in (fields.happenings (fields.events_in ms) no_edits) ≡ told
tells_all ms told (inl g) h = g.is
tells_all ms told (inr s) h = absurd (not_stopped ms s.stopped h)

-- all that is put tells all that is queued
queued_all : (capacity : ℕ) (journal : List Entry) (p f : ℕ) → IsInput journal p f → AreShortBodies journal →
    (ms : List (List ℕ)) → (out_for capacity journal p).put.bytes ≡ joined ms →
    AllByRecursion (IsEventful field_objects) ms → batches_in (told_to capacity journal p) ≡ groups_told (queued capacity journal f)
queued_all capacity journal p f input short ms is each =
    let told : IsTold capacity journal p f = all_told capacity journal p f input short in
    let found : messages (out_for capacity journal p).put.bytes ≡ told.messages =
    ap messages told.bytes ∙ messages_joined told.messages told.each in
    let same : told.messages ≡ ms =
    sym found ∙ ap messages is ∙ messages_joined ms (eventful_whole field_objects ms each) in
    ap (λ (l : List (List ℕ)). batches_in (fields.happenings (fields.events_in l) no_edits)) found
    ∙ tells_all told.messages (groups_told (queued capacity journal f)) told.tells
    (subst (λ (l : List (List ℕ)). (more : List (List ℕ)) →
    fields.events_in (l ++ more) ≡ fields.events_in l ++ fields.events_in more) (sym same)
    (spelled_on ms (eventful_spelled ms each)))

-- a journal with an end has one of its peer
end_stays : (e : Entry) (older : List Entry) (q : ℕ) → HasEndIn older q → HasEndIn (e ∷ older) q
end_stays (entries.End n cause) older q h = by (n == q)
  where
    by : (b : Bool) → (c : EndCause) × ((if b then Some cause else end_of older q) ≡ Some c)
    by true = (cause, refl)
    by false = h
end_stays (entries.Join role) older q h = h
end_stays (entries.Message k id opcode body) older q h = h
end_stays (entries.Tokens k tokens) older q h = h
end_stays (entries.BadSize k head) older q h = h
end_stays (entries.Shell step) older q h = h
end_stays (entries.Took k n) older q h = h

ends_at : (journal : List Entry) (q k : ℕ) → k < length journal →
    get_or journal k (entries.End q Full) ≡ entries.End q Full → HasEndIn journal q
ends_at [] q k l at = absurd (omega arith)
ends_at (e ∷ older) q zero l at =
    subst (λ (x : Entry). HasEndIn (x ∷ older) q) (sym at)
    (Full, ap (λ (b : Bool). if b then Some Full else end_of older q) (eq-eqb q q refl))
ends_at (e ∷ older) q (suc k) l at = end_stays e older q (ends_at older q k (omega arith) at)

has_end : (journal : List Entry) (q : ℕ) → Contains journal (entries.End q Full) → HasEndIn journal q
has_end journal q c = ends_at journal q c.0 c.1 c.2

-- all that is relayed is queued, unless the peer ended
relayed_all : (capacity : ℕ) (journal : List Entry) (q f : ℕ) (peer : Joined) →
    history capacity (outer journal) ≡ journal → peer_at (past_of journal) q ≡ Some peer → maker_of (log_of (past_of journal)) f ≡ Some peer.label →
    (HasEndIn journal q → ⊥) →
    groups_told (queued capacity journal f) ≡ groups_told (relayed (idle.history (resolve journal)) f)
relayed_all capacity journal q f peer steps joined made lives =
    by (subst (λ (j : List Entry). IsQueued capacity j f ⊎ IsLeftOut capacity j f) steps
    (relay_law capacity (outer journal) f))
  where
    by : IsQueued capacity journal f ⊎ IsLeftOut capacity journal f →
        groups_told (queued capacity journal f) ≡ groups_told (relayed (idle.history (resolve journal)) f)
    by (inl k) = ap groups_told k
    by (inr l) =
        let same : l.peer.label ≡ peer.label = same_Some l.peer.label peer.label (sym l.made ∙ made) in
        let number : l.number ≡ q = one_number journal l.number q l.peer peer l.joined joined same in
        absurd (lives (has_end journal q (subst (λ n. Contains journal (entries.End n Full)) number l.ended)))

-- ---- the law

pub others_none : (limits : Limits) (h : History) → OthersAreFields (journal_of limits h) →
    HaveNoMethod (journal_of limits h)
others_none limits h others k peer other joined =
    let f = others k peer other joined in
    own_else (past_of (journal_of limits h)).made peer.label 7
    (field_own limits.store (entries_of h) k f.1.rest f.0 peer
    (ap (λ (l : List Entry). l ++ f.1.rest) (sym (steps_outer limits.store (entries_of h) k)) ∙ f.1.is) joined)

pub each-right : (P : Entry → Type 0) (xs ys : List Entry) → AllByRecursion P (xs ++ ys) → AllByRecursion P ys
each-right P [] ys h = h
each-right P (x ∷ xs) ys h = each-right P xs ys h.1

-- where the journal is that which its writer has seen, with newer entries
all_told_by : (limits : Limits) (h : History) (q : ℕ) (job : FieldJob) → IsLawful limits h →
    (done : IsFieldDone limits job) → (all : HasAll limits job.writer done.taken) →
    OthersAreFields (journal_of limits h) → IsFieldTold limits (journal_of limits h) q (field_log job.log) →
    (newer : List Entry) → journal_of limits h ≡ newer ++ journal_of limits job.writer.seat.seen →
    AllByRecursion (IsQuiet q) newer →
    peer_at (past_of (journal_of limits job.writer.seat.seen)) q ≡ Some all.taken.peer →
    IsAllTold limits (journal_of limits h) q (field_log job.log)
all_told_by limits h q job lawful done all others told newer grown quiet there =
    let journal : List Entry = journal_of limits h in
    let base : List Entry = journal_of limits job.writer.seat.seen in
    let peer : Joined = all.taken.peer in
    let p : ℕ = peer.label in
    let joined : peer_at (past_of journal) q ≡ Some peer =
    subst (λ (j : List Entry). peer_at (past_of j) q ≡ Some peer) (sym grown) (joined_later newer base q peer there) in
    let short : AreShortBodies journal = lawful_short limits h lawful in
    let sent = told.sent in
    let own : AreOwn (past_of journal).made p 7 =
    field_own limits.store (entries_of h) q sent.rest (field_log job.log) peer
    (ap (λ (l : List Entry). l ++ sent.rest) (sym (steps_outer limits.store (entries_of h) q)) ∙ sent.is) joined in
    let stays : Stays q peer (newer ++ base) =
    subst (Stays q peer) grown
    (record { joined = joined; own = own; none = others_none limits h others; short = short }) in
    let s : Stays q peer base = stays_base q peer newer base there stays in
    let bytes : AreBytes journal = lawful_bytes limits h lawful in
    let put : ArePut (IsEventful field_objects) (out_for limits.store base p).put.bytes =
    put_eventful limits.store base p s.own s.short (each-right HasBytes newer base (subst AreBytes grown bytes)) in
    let whole : ArePut (IsEventful field_objects) (out_for limits.store journal p).put.bytes =
    put_eventful limits.store journal p own short bytes in
    let taken : done.taken ≡ joined_bytes put.messages =
    all.all ∙ ap (λ (o : Outgoing). o.put.bytes) all.taken.out_is ∙ put.is in
    let k : PutElse (out_for limits.store base p).put.bytes (out_for limits.store journal p).put.bytes =
    subst (λ (j : List Entry). PutElse (out_for limits.store base p).put.bytes (out_for limits.store j p).put.bytes)
    (sym grown) (later_puts limits.store q peer newer base quiet there stays) in
    let is : fields.told_in (field_log job.log) ≡ told_to limits.store journal p =
    told_all limits job done put.messages taken put.each
    ∙ sym (same_told (out_for limits.store journal p).put.bytes (out_for limits.store base p).put.bytes put.messages
    put.is put.each k) in
    record {
      peer = peer;
      joined = joined;
      told = is;
      batches = λ lives f of.
          (let input : IsInput journal p f = is_input journal p f own of in
          ap batches_in is ∙ queued_all limits.store journal p f input short whole.messages whole.is whole.each
          ∙ relayed_all limits.store journal q f peer lawful.shared.history joined (field_made journal p f input of)
          lives
          ∙ journal_relays journal f bytes short);
    }

pub fields_are_all_told : FieldsAreAllTold
fields_are_all_told limits h q job lawful p done all later others other =
    let seen : History = job.writer.seat.seen in
    let rest : History = p.writer_seen.0 in
    let n = newer_steps (IsQuiet q) (λ k cause. tt) limits.store (entries_of rest) (entries_of seen)
    (entries_each (IsQuiet q) rest later) in
    let grown : journal_of limits h ≡ n.newer ++ journal_of limits seen =
    ap (journal_of limits) p.writer_seen.1 ∙ ap (history limits.store) (entries-append seen rest) ∙ n.is in
    let there : peer_at (past_of (journal_of limits seen)) q ≡ Some all.taken.peer =
    subst (λ k. peer_at (past_of (journal_of limits seen)) k ≡ Some all.taken.peer) p.writes_for all.taken.there in
    all_told_by limits h q job lawful done all others (fields_have_sent limits h q job lawful p done).told n.newer grown
    n.each there
