-- What a field's job leaves after each of its parts
use Rattle.std.proofs.Common.{◌≡◌, ℕ, true, false, List, [], ◌∷◌, ◌++◌, Ok, Err, sym, ap, subst, inl, inr, append-nil, take}
use Rattle.relay_model.specs.declared.act.EndCause.{EndCause}
use Rattle.broker_steps.specs.declared.limits.Limits.{Limits}
use Rattle.broker_model.specs.declared.journal.Entry.{Entry as JournalEntry}
use Rattle.trial_field.specs.Log.{Entry}
use Rattle.client_side.specs.Client.{Client}
use Rattle.client_side.specs.FieldLog.{sends_of}
use Rattle.client_side.specs.FieldState.{State, happens, HasLog}
use Rattle.client_side.specs.Happenings.{Happening, edited}
use Rattle.client_side.specs.Messages.{Sent, spelled, field_setup}
use Rattle.trial_client_logs.specs.declared.entry.FieldEntry.{FieldEntry}
use Rattle.trial_client_logs.specs.Logs.{field_log}
use Rattle.hub_lock.specs.Passes.{PeerPass}
use Rattle.hub_calls.specs.declared.stop.PassStop.{PassStop}
use Rattle.hub_calls.specs.declared.stop.PassStop.TheVariants as stops
use Rattle.hub_calls.specs.declared.submit.Sent as calls
use Rattle.hub_calls.specs.declared.submit.Sent.TheVariants as sent
use Rattle.hub_calls.specs.declared.take.Piece.TheVariants as pieces
use Rattle.hub_calls.specs.Made.{entries_by, SawMore, HasEnded, IsFullFor}
use Rattle.hub_calls.specs.Submitted.{entries_in, MadeFirst, Submits}
use Rattle.hub_calls.specs.Taken.{HasTaken, TakesMore, TakesPiece}
use Rattle.trial_typing.specs.declared.field_job.FieldJob.{FieldJob}
use Rattle.trial_typing.specs.Ends.{end_by}
use Rattle.trial_typing.specs.FieldAsked.{IsSent}
use Rattle.trial_typing.specs.FieldGoing.{IsFieldGoing, TookPiece, IsFieldAt, HasFieldRest, FieldSends}
use Rattle.trial_typing.specs.FieldHearing.{HeardOn, accepted, refused, unheard, HeardPart, Heard, HeardFirst}
use Rattle.trial_typing.specs.FieldLaw.{IsFieldCut, FieldStops}
use Rattle.trial_typing.specs.Sending.{HasSentFront, HasMade, IsFullForMessage}
use Rattle.trial_typing.proofs.FieldHeard.{goes_on, edit_on, all_first, first_on}
use Rattle.trial_typing.proofs.FieldSent.{waits_is, sent_all, sent_on, events_on, sents_short}
use Rattle.trial_typing.proofs.RequestsWhole.{AreShort}
use Rattle.trial_typing.proofs.FieldSubmits.{front_more, front_sents, made_front, front_log, all_made, full_for_next, first_made}

-- ---- what was asked for

-- the reader made a front of all that its log asks for
pub asked_front : (limits : Limits) (reader : PeerPass) (s : State) (log : List Happening) (sents waits : List Sent) →
    IsSent s log sents waits → HasMade limits reader sents → HasSentFront reader (field_setup ++ sends_of log)
asked_front limits reader s log sents waits asked made =
    subst (λ (ss : List Sent). HasSentFront reader ss) (sym asked.all)
    (front_sents reader sents waits (sents_short s log sents waits asked) (made_front limits reader sents made))

-- a job that is cut off
pub cut_by : (limits : Limits) (job : FieldJob) (own : List Entry) (taken : List ℕ) → HasTaken limits job.writer taken →
    HeardFirst taken (field_log job.log) own → HasSentFront job.reader (field_setup ++ sends_of (field_log job.log)) →
    IsFieldCut limits job own
cut_by limits job own taken took h sent = record {
  own-is = h.own-is;
  taken = taken;
  took = took;
  events = h.events;
  read = h.begins;
  told = h.told;
  sent = sent;
}

-- ---- what waits is submitted

heard_sent : (taken : List ℕ) (c : Client State) (log : List Happening) (own : List Entry) → Heard taken c log own →
    Heard taken (record c { state = record c.state { to_send = [] } }) log own
heard_sent taken c log own h = record {
  events = h.events;
  messages = h.messages;
  rest = h.rest;
  are = h.are;
  front = h.front;
  good = h.good;
  bad = h.bad;
  waits = h.waits;
  told = h.told;
  own-is = h.own-is;
}

module _ (limits : Limits) (job : FieldJob) (reader' : PeerPass) (own : List Entry) (waits : List Sent)
    (peer : reader'.peer ≡ job.reader.peer) (saw : SawMore limits job.reader.seat.seen reader'.seat.seen)
    (idle : (cause : EndCause) → HasEnded limits job.reader cause →
    entries_by reader'.seat ≡ entries_by job.reader.seat)
    (h : IsFieldGoing limits job own waits) where
  abbrev all : List JournalEntry
  all = entries_in job.reader.peer job.client.state.to_send

  abbrev s : State
  s = job.client.state

  abbrev past : List Happening
  past = field_log job.log

  short : AreShort h.sents
  short = sents_short s past h.sents waits h.asked

  waits-is : s.to_send ≡ spelled waits
  waits-is = waits_is s past h.sents waits h.asked

  abbrev sent-job : FieldJob
  sent-job = record job {
    reader = reader';
    client = record job.client { state = record s { to_send = [] } };
  }

  sent-going : HasMade limits reader' (h.sents ++ waits) → IsFieldGoing limits sent-job own []
  sent-going made = record {
    taken = h.taken;
    took = h.took;
    heard = heard_sent h.taken job.client past own h.heard;
    sents = h.sents ++ waits;
    asked = sent_all s past h.sents waits h.asked;
    made = made;
  }

  first-front : (Why : JournalEntry → Type 0) → MadeFirst job.reader reader' all Why →
      HasSentFront reader' (h.sents ++ waits)
  first-front Why f = first_made limits job.reader reader' h.sents waits s.to_send short waits-is peer saw idle Why f
      h.made

  sends_all : (client : Client State) →
      client ≡ record job.client { state = record s { to_send = [] } } →
      Submits limits job.reader reader' all (Ok sent.All) →
      IsFieldAt limits (record job { reader = reader'; client = client }) own true
  sends_all client is made =
      subst (λ (c : Client State). IsFieldGoing limits (record job { reader = reader'; client = c }) own []) (sym is)
      (sent-going (all_made limits job.reader reader' h.sents waits s.to_send short waits-is peer saw idle made h.made))

  sends_ended : (client : Client State) (cause : EndCause) →
      client ≡ record job.client { state = record s { to_send = [] } } →
      Submits limits job.reader reader' all (Ok (sent.Ended cause)) →
      IsFieldAt limits (record job { reader = reader'; client = client }) own false
  sends_ended client cause is made = (
    (
      [],
      subst (λ (c : Client State). IsFieldGoing limits (record job { reader = reader'; client = c }) own []) (sym is)
          (sent-going (inr (first-front (λ next. HasEnded limits reader' cause) made, (cause, made.why)))),
    ),
    (cause, inl made.why),
  )

  pub sends_ok : (client : Client State) (answer : calls.Sent) →
      client ≡ record job.client { state = record s { to_send = [] } } →
      Submits limits job.reader reader' all (Ok answer) →
      FieldSends limits (record job { reader = reader'; client = client }) own (Ok answer)
  sends_ok client sent.All is made = sends_all client is made
  sends_ok client (sent.Ended cause) is made = sends_ended client cause is made

  sent-cut : HasSentFront reader' (h.sents ++ waits) → IsFieldCut limits (record job { reader = reader' }) own
  sent-cut f =
      cut_by limits (record job { reader = reader' }) own h.taken h.took
      (all_first h.taken job.client past own h.heard)
      (subst (λ (ss : List Sent). HasSentFront reader' ss) (sym h.asked.all) f)

  pub sends_stops : (stop : PassStop) → Submits limits job.reader reader' all (Err stop) →
      FieldStops limits (record job { reader = reader' }) own (end_by stop)
  sends_stops (stops.JournalFull kept) made = (
    sent-cut (first-front (λ next. IsFullFor limits reader'.seat.seen next kept) made),
    inl (subst (λ (ss : List Sent). IsFullForMessage limits reader' ss kept) (sym h.asked.all)
        (full_for_next limits job.reader reader' h.sents waits s.to_send short waits-is peer saw idle kept made
        h.made)),
  )
  sends_stops stops.NoMemory made = sent-cut (first-front (λ next. Unit {0}) made)

-- ---- a take

sent_heard : (old new : Client State) (log after : List Happening) (piece : List ℕ) (sents waits : List Sent) →
    IsSent old.state log sents waits → HeardOn old new log after piece →
    (more : List Sent) × IsSent new.state after sents (waits ++ more)
sent_heard old new log after piece sents waits h (accepted e a) =
    events_on old.state new.state a.hears.events log after sents waits h a.hears.state-is a.hears.log-is
sent_heard old new log after piece sents waits h (refused e r) =
    events_on old.state new.state r.hears.events log after sents waits h r.hears.state-is r.hears.log-is
sent_heard old new log after piece sents waits h (unheard e same kept) = (
  [],
  subst (λ (c : Client State). IsSent c.state after sents (waits ++ [])) (sym same)
      (subst (λ (l : List Happening). IsSent old.state l sents (waits ++ [])) (sym kept)
      (subst (λ (w : List Sent). IsSent old.state log sents w) (sym (append-nil waits)) h)),
)

-- bytes came
pub took_bytes : (limits : Limits) (job : FieldJob) (writer' : PeerPass) (own : List Entry) (buf : List ℕ) (count : ℕ) →
    TakesMore limits job.writer writer' buf count → IsFieldAt limits job own true →
    TookPiece limits (record job { writer = writer' }) own (take count buf)
took_bytes limits job writer' own buf count t h = record {
  taken = h.taken;
  took = inr (t.more h.taken h.took);
  heard = h.heard;
  sents = h.sents;
  asked = h.asked;
  made = h.made;
}

-- they are heard
pub heard_bytes : (limits : Limits) (job : FieldJob) (client : Client State) (log : List FieldEntry) (own : List Entry)
    (piece : List ℕ) → HeardOn job.client client (field_log job.log) (field_log log) piece →
    TookPiece limits job own piece →
    (waits : List Sent) × IsFieldGoing limits (record job { client = client; log = log }) own waits
heard_bytes limits job client log own piece k h =
    let a = sent_heard job.client client (field_log job.log) (field_log log) piece h.sents [] h.asked k in (
      a.0,
      record {
        taken = h.taken ++ piece;
        took = h.took;
        heard = goes_on h.taken piece job.client client (field_log job.log) (field_log log) own h.heard k;
        sents = h.sents;
        asked = a.1;
        made = h.made;
      },
    )

-- or the first of what they make happen is
pub heard_part : (limits : Limits) (job : FieldJob) (client : Client State) (log : List FieldEntry) (own : List Entry)
    (piece : List ℕ) → HeardPart job.client client (field_log job.log) (field_log log) piece →
    TookPiece limits job own piece → IsFieldCut limits (record job { client = client; log = log }) own
heard_part limits job client log own piece k h =
    cut_by limits (record job { client = client; log = log }) own (h.taken ++ piece) h.took
    (first_on h.taken piece job.client client (field_log job.log) (field_log log) own h.heard k.stays k.some)
    (front_log job.reader (field_log job.log) (field_log log) (record { more = k.some.written; is = k.some.keeps })
    (asked_front limits job.reader job.client.state (field_log job.log) h.sents [] h.asked h.made))

-- nothing came

same_going : (limits : Limits) (job : FieldJob) (writer' : PeerPass) (own : List Entry) (waits : List Sent)
    (h : IsFieldGoing limits job own waits) → HasTaken limits writer' h.taken →
    IsFieldGoing limits (record job { writer = writer' }) own waits
same_going limits job writer' own waits h took = record {
  taken = h.taken;
  took = took;
  heard = h.heard;
  sents = h.sents;
  asked = h.asked;
  made = h.made;
}

pub took_none : (limits : Limits) (job : FieldJob) (writer' : PeerPass) (own : List Entry) (buf : List ℕ) →
    TakesPiece limits job.writer writer' buf (Ok pieces.Empty) → IsFieldAt limits job own true →
    HasFieldRest limits (record job { writer = writer' }) own true
took_none limits job writer' own buf t h = (
  record {
    taken = h.taken;
    took = inr (t.0.same h.taken h.took);
    heard = h.heard;
    sents = h.sents;
    asked = h.asked;
    made = h.made;
  },
  record { all = t.0.why h.taken h.took; lives = t.1 },
)

pub took_closed : (limits : Limits) (job : FieldJob) (writer' : PeerPass) (own : List Entry) (buf : List ℕ) →
    TakesPiece limits job.writer writer' buf (Ok pieces.Closed) → IsFieldAt limits job own true →
    IsFieldAt limits (record job { writer = writer' }) own false
took_closed limits job writer' own buf t h = (
  ([], same_going limits job writer' own [] h (inr (t.0.same h.taken h.took))),
  (t.1.0, inr t.1.1),
)

take-cut : (limits : Limits) (job : FieldJob) (writer' : PeerPass) (own : List Entry) (waits : List Sent)
    (h : IsFieldGoing limits job own waits) → HasTaken limits writer' h.taken →
    IsFieldCut limits (record job { writer = writer' }) own
take-cut limits job writer' own waits h took =
    cut_by limits (record job { writer = writer' }) own h.taken took
    (all_first h.taken job.client (field_log job.log) own h.heard)
    (asked_front limits job.reader job.client.state (field_log job.log) h.sents waits h.asked h.made)

pub took_stops : (limits : Limits) (job : FieldJob) (writer' : PeerPass) (own : List Entry) (buf : List ℕ)
    (stop : PassStop) → TakesPiece limits job.writer writer' buf (Err stop) → IsFieldAt limits job own true →
    FieldStops limits (record job { writer = writer' }) own (end_by stop)
took_stops limits job writer' own buf (stops.JournalFull kept) t h = (
  take-cut limits job writer' own [] h (inr (t.0.same h.taken h.took)),
  inr t.1,
)
took_stops limits job writer' own buf stops.NoMemory t h =
    take-cut limits job writer' own [] h (inr (t.same h.taken h.took))

-- ---- an own edit

pub edits_more : (limits : Limits) (job : FieldJob) (client : Client State) (log : List FieldEntry) (own : List Entry)
    (waits : List Sent) (edit : Entry) →
    client ≡ record job.client { state = happens (edited edit) job.client.state } →
    field_log log ≡ edited edit ∷ field_log job.log →
    ((l : List Happening) (sent : List ℕ) → HasLog l sent job.client.state → HasLog (edited edit ∷ l) sent client.state)
    →
    IsFieldGoing limits job own waits →
    (now : List Sent) × IsFieldGoing limits (record job { client = client; log = log }) (own ++ edit ∷ []) now
edits_more limits job client log own waits edit is to has h =
    let old : List Happening = field_log job.log in
    let a = sent_on job.client.state client.state old (field_log log) h.sents waits h.asked
    (record { more = edited edit ∷ []; is = to })
    (subst (λ (l : List Happening). HasLog l (spelled h.sents) client.state) (sym to)
    (has old (spelled h.sents) h.asked.has)) in (
      waits ++ a.0,
      record {
        taken = h.taken;
        took = h.took;
        heard = edit_on h.taken job.client client old (field_log log) own edit h.heard
            (ap (λ (c : Client State). c.is_bad) is) (ap (λ (c : Client State). c.held) is)
            (ap (λ (c : Client State). c.state.pending) is) to;
        sents = h.sents;
        asked = a.1;
        made = h.made;
      },
    )

-- it isn't made, or not written down
pub edits_cut : (limits : Limits) (job : FieldJob) (client : Client State) (own : List Entry) (waits : List Sent)
    (edit : Entry) → IsFieldGoing limits job own waits →
    IsFieldCut limits (record job { client = client }) (own ++ edit ∷ [])
edits_cut limits job client own waits edit h =
    let f = all_first h.taken job.client (field_log job.log) own h.heard in
    cut_by limits (record job { client = client }) (own ++ edit ∷ []) h.taken h.took
    (record {
      events = f.events;
      begins = f.begins;
      told = f.told;
      own-is = front_more _ own (edit ∷ []) f.own-is;
    })
    (asked_front limits job.reader job.client.state (field_log job.log) h.sents waits h.asked h.made)
