-- What the method's log asks for was sent, or waits, whatever happens
use Rattle.std.proofs.Common.{◌≡◌, List, [], ◌∷◌, ◌++◌, map, refl, sym, ap, subst, ◌∙◌, append_assoc, append-nil}
use Rattle.wl_proto.specs.declared.event.Event.{Event}
use Rattle.wl_proto.specs.declared.event.Event.TheVariants as events
use Rattle.client_side.specs.Client.{after_all}
use Rattle.client_side.specs.Messages.{Sent, spelled, method_setup}
use Rattle.client_side.specs.MethodLog.{Happening, came, Typist, typist_after, sent_for, typist_of, sends_of}
use Rattle.client_side.specs.MethodState.{State, happens, after_event, log_after}
use Rattle.client_side.proofs.SpelledInTurn.{spelled-append}
use Rattle.trial_client_logs.specs.MethodLogs.{settled}
use Rattle.trial_client_logs.specs.MethodLogs as logs
use Rattle.trial_run.specs.Typists.{meanings_of}
use Rattle.trial_run.specs.declared.typist.TrialTypist.{TrialTypist}
use Rattle.trial_jobs.specs.MethodAsked.{IsAsked}

-- what an event does doesn't hang on where its text lies

settles : (event : Event) (s : State TrialTypist) →
    happens meanings_of (came (settled event)) s ≡ happens meanings_of (came event) s
settles (events.Error object code message) s = refl
settles (events.Global name interface version) s = refl
settles (events.PreeditString t begin end) s = refl
settles (events.CommitString t) s = refl
settles (events.SurroundingText text cursor anchor) s = refl
settles _ s = refl

settled_all : (all : List Event) (s : State TrialTypist) →
    after_all (after_event meanings_of) (map settled all) s ≡ after_all (after_event meanings_of) all s
settled_all [] s = refl
settled_all (event ∷ more) s =
    ap (after_all (after_event meanings_of) (map settled more)) (settles event s)
    ∙ settled_all more (after_event meanings_of event s)

-- one thing more happens
pub asked_one : (typist : TrialTypist) (h : Happening) (s : State TrialTypist) (log : List Happening)
    (sents waits : List Sent) → IsAsked typist s log sents waits →
    IsAsked typist (happens meanings_of h s) (h ∷ log) sents (waits ++ sent_for meanings_of h s.typist)
asked_one typist h s log sents waits a =
    let more : List Sent = sent_for meanings_of h (typist_of meanings_of typist log) in record {
      typing = ap (typist_after meanings_of h) a.typing;
      all = sym (append_assoc method_setup (sends_of meanings_of typist log) more)
          ∙ ap (λ (l : List Sent). l ++ more) a.all ∙ append_assoc sents waits more
          ∙ ap (λ (t : Typist TrialTypist). sents ++ (waits ++ sent_for meanings_of h t)) (sym a.typing);
      bytes = ap (λ (b : List _). b ++ spelled (sent_for meanings_of h s.typist)) a.bytes
          ∙ sym (spelled-append waits (sent_for meanings_of h s.typist));
    }

asked_all : (typist : TrialTypist) (all : List Event) (s : State TrialTypist) (log : List Happening)
    (sents waits : List Sent) → IsAsked typist s log sents waits →
    (more : List Sent)
    × IsAsked typist (after_all (after_event meanings_of) all s) (log_after all log) sents (waits ++ more)
asked_all typist [] s log sents waits a =
    ([], subst (λ (w : List Sent). IsAsked typist s log sents w) (sym (append-nil waits)) a)
asked_all typist (event ∷ all) s log sents waits a =
    let now : List Sent = sent_for meanings_of (came event) s.typist in
    let k = asked_all typist all (after_event meanings_of event s) (came event ∷ log) sents (waits ++ now)
    (asked_one typist (came event) s log sents waits a) in (
      now ++ k.0,
      subst
          (λ (w : List Sent). IsAsked typist (after_all (after_event meanings_of) all (after_event meanings_of event s))
          (log_after all (came event ∷ log)) sents w)
          (append_assoc waits now k.0) k.1,
    )

-- events came
pub asked_on : (typist : TrialTypist) (all : List Event) (s new : State TrialTypist) (log after : List Happening)
    (sents waits : List Sent) → IsAsked typist s log sents waits →
    new ≡ after_all (after_event meanings_of) all s → logs.log_after all s log ≡ after →
    (more : List Sent) × IsAsked typist new after sents (waits ++ more)
asked_on typist all s new log after sents waits a is to =
    let k = asked_all typist (map settled all) s log sents waits a in (
      k.0,
      subst (λ (l : List Happening). IsAsked typist new l sents (waits ++ k.0)) to
          (subst (λ (n : State TrialTypist). IsAsked typist n (log_after (map settled all) log) sents (waits ++ k.0))
          (settled_all all s ∙ sym is) k.1),
    )

-- what waited was sent
pub asked_sent : (typist : TrialTypist) (s : State TrialTypist) (log : List Happening) (sents waits : List Sent) →
    IsAsked typist s log sents waits → IsAsked typist (record s { to_send = [] }) log (sents ++ waits) []
asked_sent typist s log sents waits a =
    record { typing = a.typing; all = a.all ∙ sym (append-nil (sents ++ waits)); bytes = refl }
