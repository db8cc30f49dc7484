-- What the method's client heard in pieces is in its log
use Rattle.std.proofs.Common.{◌≡◌, ℕ, List, [], ◌++◌, map, refl, sym, ap, ◌∙◌, inl, append-nil}
use Rattle.std.proofs.lemmas.List.{map-append}
use Rattle.wl_proto.specs.declared.event.Event.{Event}
use Rattle.trial_field.specs.Log.{Batch}
use Rattle.client_side.specs.Client.{Client}
use Rattle.client_side.specs.Events.{method_objects}
use Rattle.client_side.specs.MethodLog.{Happening}
use Rattle.client_side.specs.MethodState.{State, after_event}
use Rattle.trial_client_logs.specs.Hearing.{Hears, Accepts}
use Rattle.trial_client_logs.specs.MethodLogs.{settled, log_after}
use Rattle.trial_run.specs.Typists.{meanings_of}
use Rattle.trial_run.specs.declared.typist.TrialTypist.{TrialTypist}
use Rattle.trial_laws.specs.TypedLogs.{events_of, batches_of}
use Rattle.trial_typing.specs.Fronts.{AreEventsIn}
use Rattle.trial_typing.proofs.FieldHeard.{are-both, front_on}
use Rattle.trial_jobs.specs.MethodHearing.{Heard, HeardFirst}
use Rattle.trial_jobs.proofs.MethodLogs.{events_after, batches_after, events-append, batches-append}

-- what is left of the bytes is a part of an event
pub are_all : (taken : List ℕ) (c : Client (State TrialTypist)) (log : List Happening) (own : List Batch)
    (h : Heard taken c log own) → AreEventsIn method_objects taken h.events
are_all taken c log own h = record {
  begins = record { messages = h.messages; rest = c.held; are = h.are; front = h.front };
  left = inl h.part;
}

-- the events of a log that went on
told_on : (came more : List Event) (s : State TrialTypist) (log after : List Happening) →
    events_of log ≡ map settled came → log_after more s log ≡ after → events_of after ≡ map settled (came ++ more)
told_on came more s log after told is =
    ap events_of (sym is) ∙ events_after (map settled more) log
    ∙ ap (λ (l : List Event). l ++ map settled more) told ∙ sym (map-append settled came more)

-- a piece is accepted
pub accepts_on : (taken piece : List ℕ) (old new : Client (State TrialTypist)) (log after : List Happening)
    (own : List Batch) → Heard taken old log own →
    Accepts method_objects (after_event meanings_of) log_after old new log after piece →
    Heard (taken ++ piece) new after own
accepts_on taken piece old new log after own h a =
    let k = a.hears in record {
      events = h.events ++ k.events;
      messages = h.messages ++ k.messages;
      are = are-both method_objects h.messages h.events k.messages k.events h.are k.are;
      front = front_on taken piece old.held old.held new.held h.messages k.messages h.front refl k.front;
      part = a.partial;
      good = a.good;
      told = told_on h.events k.events old.state log after h.told k.log-is;
      own-is = ap batches_of (sym k.log-is) ∙ batches_after (map settled k.events) log ∙ h.own-is;
    }

-- where all was heard
pub all_first : (taken : List ℕ) (c : Client (State TrialTypist)) (log : List Happening) (own : List Batch) →
    Heard taken c log own → HeardFirst taken log own
all_first taken c log own h = record {
  events = h.events;
  begins = record { messages = h.messages; rest = c.held; are = h.are; front = h.front };
  told = record { rest = []; is = sym h.told ∙ sym (append-nil (events_of log)) };
  own-is = record { rest = []; is = sym h.own-is ∙ sym (append-nil (batches_of log)) };
}

-- where only the first of the events were written down, in bytes that go on with others
pub first_on : (taken piece rest : List ℕ) (old new : Client (State TrialTypist)) (log after missing : List Happening)
    (own : List Batch) → Heard taken old log own →
    Hears method_objects (after_event meanings_of) log_after old.state new.state (old.held ++ piece) rest log after
    missing → (first : HeardFirst (taken ++ piece) after own) × (first.begins.rest ≡ rest)
first_on taken piece rest old new log after missing own h k =
    let all : List Happening = log_after k.events old.state log in (
      record {
        events = h.events ++ k.events;
        begins = record {
          messages = h.messages ++ k.messages;
          rest = rest;
          are = are-both method_objects h.messages h.events k.messages k.events h.are k.are;
          front = front_on taken piece old.held old.held rest h.messages k.messages h.front refl k.front;
        };
        told = record {
          rest = events_of missing;
          is = sym (told_on h.events k.events old.state log all h.told refl) ∙ ap events_of k.log-is
              ∙ events-append missing after;
        };
        own-is = record {
          rest = batches_of missing;
          is = sym h.own-is ∙ sym (batches_after (map settled k.events) log) ∙ ap batches_of k.log-is
              ∙ batches-append missing after;
        };
      },
      refl,
    )
