-- What the method's job leaves after each of its parts
use Rattle.std.proofs.Common.{◌≡◌, ℕ, Bool, true, false, List, [], ◌++◌, map, Ok, Err, sym, ap, subst, inl, inr, append-nil, take}
use Rattle.trial_run.specs.EndCause.{EndCause}
use Rattle.broker_steps.specs.declared.limits.Limits.{Limits}
use Rattle.hub_lock.specs.Entry.{Entry as JournalEntry}
use Rattle.trial_field.specs.Log.{Batch}
use Rattle.client_side.specs.Client.{Client, IsWrong}
use Rattle.client_side.specs.Events.{method_objects}
use Rattle.client_side.specs.MethodLog.{Happening}
use Rattle.client_side.specs.MethodState.{State}
use Rattle.client_side.specs.Messages.{Sent}
use Rattle.trial_client_logs.specs.declared.method_log.MethodEntry.{MethodEntry}
use Rattle.trial_client_logs.specs.MethodLogs.{method_log, settled}
use Rattle.hub_lock.specs.Passes.{PeerPass}
use Rattle.hub_calls.specs.declared.stop.PassStop.{PassStop}
use Rattle.hub_calls.specs.declared.stop.PassStop.TheVariants as stops
use Rattle.hub_calls.specs.declared.submit.Sent as calls
use Rattle.hub_calls.specs.declared.submit.Sent.TheVariants as sent
use Rattle.hub_calls.specs.declared.take.Piece.TheVariants as pieces
use Rattle.hub_calls.specs.Made.{entries_by, SawMore, HasEnded, IsFullFor}
use Rattle.hub_calls.specs.Submitted.{entries_in, MadeFirst, Submits}
use Rattle.hub_calls.specs.Taken.{HasTaken, TakesMore, TakesPiece}
use Rattle.trial_run.specs.declared.typist.TrialTypist.{TrialTypist}
use Rattle.trial_laws.specs.TypedLogs.{requests_of}
use Rattle.trial_typing.specs.Ends.{end_by}
use Rattle.trial_typing.specs.Fronts.{IsFrontOf}
use Rattle.trial_typing.specs.Sending.{HasSentFront, HasMade, IsCaughtUp, IsFullForMessage}
use Rattle.trial_typing.specs.declared.job_end.JobEnd.{JobEnd}
use Rattle.trial_typing.specs.declared.job_end.JobEnd.TheVariants as ends
use Rattle.trial_typing.proofs.RequestsWhole.{AreShort}
use Rattle.trial_typing.proofs.FieldSubmits.{front_sents, made_front, all_made, full_for_next, first_made}
use Rattle.trial_jobs.specs.declared.method_job.MethodJob.{MethodJob}
use Rattle.trial_jobs.specs.MethodHearing.{HearsPiece, Heard, HeardFirst, HasShort}
use Rattle.trial_jobs.specs.MethodLaw.{IsMethodCut, MethodStops}
use Rattle.trial_jobs.specs.MethodGoing.{IsMethodBehind, IsMethodGoing, TookPiece, IsMethodAt, MethodSends}
use Rattle.trial_jobs.proofs.RequestsShort.{requests_short, short-front, asks_more}
use Rattle.trial_jobs.proofs.MethodAskedOn.{asked_on, asked_sent}
use Rattle.trial_jobs.proofs.MethodLogs.{short_after}
use Rattle.trial_jobs.proofs.MethodHeard.{accepts_on, all_first, first_on}

-- ---- what was asked for

pub sents_short : (limits : Limits) (typist : TrialTypist) (job : MethodJob) (own : List Batch) (waits : List Sent)
    (piece : List ℕ) (quiet : Bool) (h : IsMethodBehind limits typist job own waits piece quiet) → AreShort h.sents
sents_short limits typist job own waits piece quiet h =
    short-front h.sents waits
    (subst AreShort h.asked.all (requests_short typist h.fresh (method_log job.log) h.short))

-- the reader made a front of all that its log asks for
pub asked_front : (limits : Limits) (typist : TrialTypist) (job : MethodJob) (own : List Batch) (waits : List Sent)
    (piece : List ℕ) (quiet : Bool) → IsMethodBehind limits typist job own waits piece quiet →
    HasSentFront job.reader (requests_of typist (method_log job.log))
asked_front limits typist job own waits piece quiet h =
    subst (λ (ss : List Sent). HasSentFront job.reader ss) (sym h.asked.all)
    (front_sents job.reader h.sents waits (sents_short limits typist job own waits piece quiet h)
    (made_front limits job.reader h.sents h.made))

-- a job that is cut off
pub cut_by : (limits : Limits) (typist : TrialTypist) (job : MethodJob) (own : List Batch) (taken : List ℕ) →
    HasTaken limits job.writer taken → HeardFirst taken (method_log job.log) own →
    HasSentFront job.reader (requests_of typist (method_log job.log)) → IsMethodCut limits typist job own
cut_by limits typist job own taken took h sent = record {
  own-is = h.own-is;
  taken = taken;
  took = took;
  events = h.events;
  read = h.begins;
  told = h.told;
  sent = sent;
}

-- ---- what waits is submitted

heard_sent : (taken : List ℕ) (c : Client (State TrialTypist)) (log : List Happening) (own : List Batch) →
    Heard taken c log own → Heard taken (record c { state = record c.state { to_send = [] } }) log own
heard_sent taken c log own h = record {
  events = h.events;
  messages = h.messages;
  are = h.are;
  front = h.front;
  part = h.part;
  good = h.good;
  told = h.told;
  own-is = h.own-is;
}

never : {A : Type 0} → false ≡ true → A
never e = absurd (let no : false ≡ true = e in cc)

own_front : (own : List Batch) → IsFrontOf own own
own_front own = record { rest = []; is = sym (append-nil own) }

module _ (limits : Limits) (typist : TrialTypist) (job : MethodJob) (reader' : PeerPass) (own : List Batch)
    (waits : List Sent) (peer : reader'.peer ≡ job.reader.peer)
    (saw : SawMore limits job.reader.seat.seen reader'.seat.seen)
    (idle : (cause : EndCause) → HasEnded limits job.reader cause →
    entries_by reader'.seat ≡ entries_by job.reader.seat)
    (quiet : Bool) (h : IsMethodGoing limits typist job own waits quiet) where
  abbrev all : List JournalEntry
  all = entries_in job.reader.peer job.client.state.to_send

  abbrev s : State TrialTypist
  s = job.client.state

  abbrev past : List Happening
  past = method_log job.log

  short : AreShort h.sents
  short = sents_short limits typist job own waits [] quiet h

  abbrev sent-job : MethodJob
  sent-job = record job {
    reader = reader';
    client = record job.client { state = record s { to_send = [] } };
  }

  sent-going : (q : Bool) → (q ≡ true → IsCaughtUp limits job.writer h.taken) → HasMade limits reader' (h.sents ++ waits) →
      IsMethodGoing limits typist sent-job own [] q
  sent-going q rests made = record {
    taken = h.taken;
    took = h.took;
    heard = heard_sent h.taken job.client past own h.heard;
    sents = h.sents ++ waits;
    asked = asked_sent typist s past h.sents waits h.asked;
    made = made;
    short = h.short;
    fresh = h.fresh;
    rests = rests;
  }

  first-front : (Why : JournalEntry → Type 0) → MadeFirst job.reader reader' all Why →
      HasSentFront reader' (h.sents ++ waits)
  first-front Why f =
      first_made limits job.reader reader' h.sents waits s.to_send short h.asked.bytes peer saw idle Why f h.made

  sends_all : (client : Client (State TrialTypist)) →
      client ≡ record job.client { state = record s { to_send = [] } } →
      Submits limits job.reader reader' all (Ok sent.All) →
      IsMethodAt limits typist (record job { reader = reader'; client = client }) own quiet true
  sends_all client is made =
      subst
      (λ (c : Client (State TrialTypist)). IsMethodGoing limits typist (record job { reader = reader'; client = c }) own
      [] quiet)
      (sym is)
      (sent-going quiet h.rests (all_made limits job.reader reader' h.sents waits s.to_send short h.asked.bytes peer saw
      idle made h.made))

  sends_ended : (client : Client (State TrialTypist)) (cause : EndCause) →
      client ≡ record job.client { state = record s { to_send = [] } } →
      Submits limits job.reader reader' all (Ok (sent.Ended cause)) →
      IsMethodAt limits typist (record job { reader = reader'; client = client }) own quiet false
  sends_ended client cause is made = record {
    made = own;
    front = own_front own;
    waits = [];
    going = subst
        (λ (c : Client (State TrialTypist)). IsMethodGoing limits typist (record job { reader = reader'; client = c })
        own [] false)
        (sym is)
        (sent-going false never (inr (first-front (λ next. HasEnded limits reader' cause) made, (cause, made.why))));
    over = (cause, inl made.why);
  }

  pub sends_ok : (client : Client (State TrialTypist)) (answer : calls.Sent) →
      client ≡ record job.client { state = record s { to_send = [] } } →
      Submits limits job.reader reader' all (Ok answer) →
      MethodSends limits typist (record job { reader = reader'; client = client }) own quiet (Ok answer)
  sends_ok client sent.All is made = sends_all client is made
  sends_ok client (sent.Ended cause) is made = sends_ended client cause is made

  sent-cut : HasSentFront reader' (h.sents ++ waits) → IsMethodCut limits typist (record job { reader = reader' }) own
  sent-cut f =
      cut_by limits typist (record job { reader = reader' }) own (h.taken ++ []) h.took
      (subst (λ (bytes : List ℕ). HeardFirst bytes past own) (sym (append-nil h.taken))
      (all_first h.taken job.client past own h.heard))
      (subst (λ (ss : List Sent). HasSentFront reader' ss) (sym h.asked.all) f)

  pub sends_stops : (stop : PassStop) → Submits limits job.reader reader' all (Err stop) →
      MethodStops limits typist (record job { reader = reader' }) own (end_by stop)
  sends_stops (stops.JournalFull kept) made = (
    sent-cut (first-front (λ next. IsFullFor limits reader'.seat.seen next kept) made),
    inl (subst (λ (ss : List Sent). IsFullForMessage limits reader' ss kept) (sym h.asked.all)
        (full_for_next limits job.reader reader' h.sents waits s.to_send short h.asked.bytes peer saw idle kept made
        h.made)),
  )
  sends_stops stops.NoMemory made = sent-cut (first-front (λ next. Unit {0}) made)

-- ---- a take

pub took_bytes : (limits : Limits) (typist : TrialTypist) (job : MethodJob) (writer' : PeerPass) (own : List Batch)
    (buf : List ℕ) (count : ℕ) → TakesMore limits job.writer writer' buf count →
    IsMethodAt limits typist job own false true →
    TookPiece limits typist (record job { writer = writer' }) own (take count buf)
took_bytes limits typist job writer' own buf count t h = record {
  taken = h.taken;
  took = subst (λ (bytes : List ℕ). HasTaken limits writer' bytes)
      (ap (λ (bytes : List ℕ). bytes ++ take count buf) (append-nil h.taken)) (inr (t.more (h.taken ++ []) h.took));
  heard = h.heard;
  sents = h.sents;
  asked = h.asked;
  made = h.made;
  short = h.short;
  fresh = h.fresh;
  rests = never;
}

-- ---- what came is heard

module _ (limits : Limits) (typist : TrialTypist) (job : MethodJob) (client : Client (State TrialTypist))
    (log : List MethodEntry) (own : List Batch) (piece : List ℕ) (h : TookPiece limits typist job own piece) where
  abbrev before : List Happening
  before = method_log job.log

  abbrev after : List Happening
  after = method_log log

  abbrev heard-job : MethodJob
  heard-job = record job { client = client; log = log }

  pub heard_bytes : HearsPiece job.client client before after piece (Ok tt) →
      (waits : List Sent) × IsMethodGoing limits typist heard-job own waits false
  heard_bytes a =
      let k = asked_on typist a.hears.events job.client.state client.state before after h.sents [] h.asked
      a.hears.state-is a.hears.log-is in (
        k.0,
        record {
          taken = h.taken ++ piece;
          took = subst (λ (bytes : List ℕ). HasTaken limits job.writer bytes) (sym (append-nil (h.taken ++ piece)))
              h.took;
          heard = accepts_on h.taken piece job.client client before after own h.heard a;
          sents = h.sents;
          asked = k.1;
          made = h.made;
          short = subst HasShort a.hears.log-is (short_after (map settled a.hears.events) before h.short);
          fresh = h.fresh;
          rests = never;
        },
      )

  longer_front : (more : List Happening) → after ≡ more ++ before → HasSentFront job.reader (requests_of typist after)
  longer_front more is =
      let k = asks_more typist more before after is in
      subst (λ (ss : List Sent). HasSentFront job.reader ss) (sym k.is)
      (front_sents job.reader (requests_of typist before) k.more
      (requests_short typist h.fresh before h.short) (asked_front limits typist job own [] piece false h))

  pub heard_stops : (end : JobEnd) → HearsPiece job.client client before after piece (Err end) →
      MethodStops limits typist heard-job own end
  heard_stops (ends.JournalFull kept) k = absurd k
  heard_stops ends.BadEvent k =
      let r = k h.heard.good in
      let m = asked_on typist r.hears.events job.client.state client.state before after h.sents [] h.asked
      r.hears.state-is r.hears.log-is in
      let f = first_on h.taken piece r.rest job.client client before after [] own h.heard r.hears in (
        record {
          own-is = f.0.own-is;
          taken = h.taken ++ piece;
          took = h.took;
          events = f.0.events;
          read = f.0.begins;
          told = f.0.told;
          sent = subst (λ (ss : List Sent). HasSentFront job.reader ss) (sym m.1.all)
              (front_sents job.reader h.sents m.0 (sents_short limits typist job own [] piece false h)
              (made_front limits job.reader h.sents h.made));
        },
        subst (λ (rest : List ℕ). IsWrong method_objects rest) (sym f.1) r.wrong,
      )
  heard_stops ends.NoMemory k =
      cut_by limits typist heard-job own (h.taken ++ piece) h.took
      (first_on h.taken piece k.rest job.client client before after k.missing own h.heard k.hears).0
      (longer_front k.written k.keeps)

-- ---- nothing came

same_going : (limits : Limits) (typist : TrialTypist) (job : MethodJob) (writer' : PeerPass) (own : List Batch)
    (q : Bool) (h : IsMethodAt limits typist job own false true) → HasTaken limits writer' (h.taken ++ []) →
    (q ≡ true → IsCaughtUp limits writer' h.taken) → IsMethodGoing limits typist (record job { writer = writer' }) own [] q
same_going limits typist job writer' own q h took rests = record {
  taken = h.taken;
  took = took;
  heard = h.heard;
  sents = h.sents;
  asked = h.asked;
  made = h.made;
  short = h.short;
  fresh = h.fresh;
  rests = rests;
}

pub took_none : (limits : Limits) (typist : TrialTypist) (job : MethodJob) (writer' : PeerPass) (own : List Batch)
    (buf : List ℕ) → TakesPiece limits job.writer writer' buf (Ok pieces.Empty) →
    IsMethodAt limits typist job own false true →
    IsMethodAt limits typist (record job { writer = writer' }) own true true
took_none limits typist job writer' own buf t h =
    same_going limits typist job writer' own true h (inr (t.0.same (h.taken ++ []) h.took))
    (λ e. subst (λ (bytes : List ℕ). IsCaughtUp limits writer' bytes) (append-nil h.taken)
    (record { all = t.0.why (h.taken ++ []) h.took; lives = t.1 }))

pub took_closed : (limits : Limits) (typist : TrialTypist) (job : MethodJob) (writer' : PeerPass) (own : List Batch)
    (buf : List ℕ) → TakesPiece limits job.writer writer' buf (Ok pieces.Closed) →
    IsMethodAt limits typist job own false true →
    IsMethodAt limits typist (record job { writer = writer' }) own false false
took_closed limits typist job writer' own buf t h = record {
  made = own;
  front = own_front own;
  waits = [];
  going = same_going limits typist job writer' own false h (inr (t.0.same (h.taken ++ []) h.took)) never;
  over = (t.1.0, inr t.1.1);
}

take-cut : (limits : Limits) (typist : TrialTypist) (job : MethodJob) (writer' : PeerPass) (own : List Batch)
    (h : IsMethodAt limits typist job own false true) → HasTaken limits writer' (h.taken ++ []) →
    IsMethodCut limits typist (record job { writer = writer' }) own
take-cut limits typist job writer' own h took =
    cut_by limits typist (record job { writer = writer' }) own (h.taken ++ []) took
    (subst (λ (bytes : List ℕ). HeardFirst bytes (method_log job.log) own) (sym (append-nil h.taken))
    (all_first h.taken job.client (method_log job.log) own h.heard))
    (asked_front limits typist job own [] [] false h)

pub took_stops : (limits : Limits) (typist : TrialTypist) (job : MethodJob) (writer' : PeerPass) (own : List Batch)
    (buf : List ℕ) (stop : PassStop) → TakesPiece limits job.writer writer' buf (Err stop) →
    IsMethodAt limits typist job own false true →
    MethodStops limits typist (record job { writer = writer' }) own (end_by stop)
took_stops limits typist job writer' own buf (stops.JournalFull kept) t h = (
  take-cut limits typist job writer' own h (inr (t.0.same (h.taken ++ []) h.took)),
  inr t.1,
)
took_stops limits typist job writer' own buf stops.NoMemory t h =
    take-cut limits typist job writer' own h (inr (t.same (h.taken ++ []) h.took))

-- one that is quiet goes on so
pub busy : (limits : Limits) (typist : TrialTypist) (job : MethodJob) (own : List Batch) →
    IsMethodAt limits typist job own true true → IsMethodAt limits typist job own false true
busy limits typist job own h = record {
  taken = h.taken;
  took = h.took;
  heard = h.heard;
  sents = h.sents;
  asked = h.asked;
  made = h.made;
  short = h.short;
  fresh = h.fresh;
  rests = never;
}
