-- The method typed by a log: it heard what its peer took, and its peer said what the log asks for.
use Rattle.std.proofs.Common.{◌≡◌, ℕ, ◌+◌, ◌-◌, Bool, true, false, List, [], ◌∷◌, ◌++◌, length, refl, sym, ap, subst, ◌∙◌, arith}
use Rattle.std.proofs.lemmas.List.{append-nil}
use Rattle.std.proofs.lemmas.Bool.{ne_eqb}
use Rattle.broker_steps.specs.declared.step.ShellStep.TheVariants as shell
use Rattle.wl_wire.specs.Messages.{messages}
use Rattle.trial_field.specs.Log.{Batch}
use Rattle.client_side.specs.Messages.{Sent}
use Rattle.client_side.specs.MethodLog.{Happening, committed}
use Rattle.trial_script.specs.declared.action.Action.{Action}
use Rattle.trial_script.specs.declared.action.Action.TheVariants as actions
use Rattle.trial_script.specs.Grammar.{IsAction, AreEdits}
use Rattle.broker_model.specs.declared.journal.Entry as journals
use Rattle.broker_model.specs.declared.journal.Entry.TheVariants as entries
use Rattle.broker_model.specs.Ids.{Joined}
use Rattle.broker_model.specs.Out.{took_at}
use Rattle.broker_model.specs.Resolve.{past_of}
use Rattle.broker_model.specs.Stamps.{no_stamp}
use Rattle.broker_core.specs.Broker.{Broker, with_step}
use Rattle.trial_run.specs.declared.typist.TrialTypist.{TrialTypist}
use Rattle.trial_run.specs.declared.whose.Whose.TheVariants as whose
use Rattle.trial_run.specs.Ran.{Ran, went}
use Rattle.trial_run.specs.Steps.{messages_sent, next_bytes}
use Rattle.trial_run.specs.Play.{FieldPlay, TrialPlay, hears, sent, edits, commits, pauses}
use Rattle.trial_run.specs.Rounds.{with_broker, sends_waiting, sends, took, one_take, rounds}
use Rattle.trial_run.specs.Lines.{surface_id, edit_of, batch_of, acted, line_played}
use Rattle.broker_telling.specs.Sayable.{IsWord}
use Rattle.trial_laws.proofs.PhasesKeep.{take_entry, with_entry}
use Rattle.trial_laws.proofs.TakesCount.{both_went, same_went}
use Rattle.trial_laws.proofs.BytesTaken.{other_take}
use Rattle.trial_laws.proofs.RequestsWait.{messages_spelled, bytes_each}
use Rattle.trial_laws.specs.TypedLogs.{is_step_of, batch_by, with_batch}
use Rattle.trial_laws.proofs.TrialSteps.{IsTrialStep}
use Rattle.trial_laws.proofs.RequestsShort.{IsShortHappening}
use Rattle.trial_laws.proofs.MethodHears.{HasTyped, hears_on, is_sent, from_here, is_committed}
use Rattle.trial_laws.proofs.StepsSent.{PeerDid, other_did, took_did, requests_did}
use Rattle.trial_laws.proofs.PhasesGo.{Goes, in_turn, IsOthers, IsLeft, IsCarried, took_is, field_sends, rounds_go, shell_goes, pressed_goes}

-- ---- what a trial keeps

-- The method's peer did what its client heard and sent. Since the log was the base, only events came.
pub record IsTyping (first : TrialTypist) (own : List Batch) (base : List Happening) (t : TrialPlay) : Type 0 where
  pub peer : Joined
  pub bytes : List ℕ
  pub sent : List Sent
  pub did : PeerDid peer bytes sent t.broker
  pub typed : HasTyped first own base bytes sent t.method

-- and nothing waits to be sent
pub record IsIdle (first : TrialTypist) (own : List Batch) (base : List Happening) (t : TrialPlay) : Type 0 where
  pub peer : Joined
  pub bytes : List ℕ
  pub sent : List Sent
  pub did : PeerDid peer bytes sent t.broker
  pub typed : HasTyped first own base bytes sent t.method
  pub none : typed.is.waits ≡ []

-- what isn't the method's changes nothing
others_did : (e : journals.Entry) (b : Broker) (peer : Joined) (bytes : List ℕ) (sent : List Sent) → IsOthers e →
    PeerDid peer bytes sent b → PeerDid peer bytes sent (with_step e no_stamp b)
others_did e b peer bytes sent o h =
    other_did e b peer bytes sent (takes_none e o) (is_step e o) (is_none e o) h
  where
    takes_none : (x : journals.Entry) → IsOthers x → took_at x (past_of b.journal) peer.label ≡ 0
    takes_none (entries.Message q id opcode body) o = refl
    takes_none (entries.Shell step) o = refl
    takes_none (entries.Join role) o = refl
    takes_none _ o = absurd o

    is_step : (x : journals.Entry) → IsOthers x → IsTrialStep x
    is_step (entries.Message q id opcode body) o = tt
    is_step (entries.Shell step) o = o
    is_step (entries.Join role) o = tt
    is_step _ o = absurd o

    is_none : (x : journals.Entry) → IsOthers x → is_step_of 1 x ≡ false
    is_none (entries.Message q id opcode body) o = ne_eqb q 1 o
    is_none (entries.Shell step) o = refl
    is_none (entries.Join role) o = refl
    is_none _ o = absurd o

-- nor does what another takes
take_did : (k : ℕ) (b : Broker) (peer : Joined) (bytes : List ℕ) (sent : List Sent) → PeerDid peer bytes sent b →
    PeerDid peer bytes sent (with_step (entries.Took (k + 2) (length (next_bytes (k + 2) b))) no_stamp b)
take_did k b peer bytes sent h =
    other_did (entries.Took (k + 2) (length (next_bytes (k + 2) b))) b peer bytes sent
    (other_take b.journal (k + 2) 1 (length (next_bytes (k + 2) b)) peer h.joined (λ e. absurd (omega arith)))
    tt refl h

-- it takes what comes next, and hears it
own_take : (first : TrialTypist) (own : List Batch) (base : List Happening) (t : TrialPlay) →
    IsIdle first own base t →
    IsTyping first own base (hears whose.Method (next_bytes 1 t.broker) (with_entry (take_entry whose.Method t) t))
own_take first own base t h = record {
  peer = h.peer;
  bytes = h.bytes ++ next_bytes 1 t.broker;
  sent = h.sent;
  did = took_did t.broker h.peer h.bytes h.sent h.did;
  typed = hears_on first own base h.sent h.bytes (next_bytes 1 t.broker) t.method h.typed;
}

-- the same log, after all is sent
pub record IsSent (first : TrialTypist) (own : List Batch) (base log : List Happening) (t : TrialPlay) : Type 0 where
  pub idle : IsIdle first own base t
  pub same : idle.typed.log ≡ log

-- what waits is sent
pub sends_typed : (first : TrialTypist) (own : List Batch) (base : List Happening) (t end : TrialPlay)
    (h : IsTyping first own base t) → sends whose.Method t ≡ went end → IsSent first own base h.typed.log end
unfolding sends sends_waiting
sends_typed first own base t end h e =
    let both = both_went (sends_waiting whose.Method t) (λ now. went (sent whose.Method now)) end e in
    let waits : List Sent = h.typed.is.waits in
    let found : messages t.method.state.to_send ≡ bytes_each waits =
    ap messages h.typed.is.bytes ∙ messages_spelled waits h.typed.is.short in
    let r : Ran Broker = messages_sent 1 (bytes_each waits) t.broker in
    let same : with_broker t r ≡ went both.mid =
    ap (λ (ms : List (List ℕ)). with_broker t (messages_sent 1 ms t.broker)) (sym found) ∙ both.first in
    let goes : r ≡ went r.now =
    ap (λ (b : Bool). let x : Ran Broker = record { now = r.now; is_full = b } in x)
    (ap (λ (x : Ran TrialPlay). x.is_full) same) in
    let did : PeerDid h.peer h.bytes (h.sent ++ waits) r.now =
    requests_did waits t.broker r.now h.peer h.bytes h.sent h.typed.is.short h.did goes in
    let now = is_sent first own base h.bytes h.sent t.method h.typed in
    let done : IsSent first own base h.typed.log (sent whose.Method (record t { broker = r.now })) = record {
      idle = record {
        peer = h.peer;
        bytes = h.bytes;
        sent = h.sent ++ waits;
        did = did;
        typed = now.0;
        none = now.1;
      };
      same = now.2;
    } in
    subst (λ (u : TrialPlay). IsSent first own base h.typed.log u)
    (ap (λ (x : Ran TrialPlay). sent whose.Method x.now) same
    ∙ same_went (sent whose.Method both.mid) end both.second) done

method_takes : (first : TrialTypist) (own : List Batch) (base : List Happening) →
    Goes (IsIdle first own base) (one_take whose.Method)
unfolding one_take
method_takes first own base t end h e =
    let bytes : List ℕ = next_bytes 1 t.broker in
    let both = both_went (took whose.Method t) (λ now. sends whose.Method (hears whose.Method bytes now)) end e in
    (sends_typed first own base (hears whose.Method bytes both.mid) end
    (subst (λ (u : TrialPlay). IsTyping first own base (hears whose.Method bytes u))
    (took_is whose.Method t both.mid both.first) (own_take first own base t h))
    both.second).idle

-- this log is left as it is by what isn't the method's
pub sent_left : (first : TrialTypist) (own : List Batch) (base log : List Happening) →
    IsLeft (IsSent first own base log)
sent_left first own base log = record {
  others = λ e t o s.
      let h = s.idle in
      record {
        idle = record {
          peer = h.peer;
          bytes = h.bytes;
          sent = h.sent;
          did = others_did e t.broker h.peer h.bytes h.sent o h.did;
          typed = h.typed;
          none = h.none;
        };
        same = s.same;
      };
  fields = λ xs t s.
      let h = s.idle in
      record {
        idle =
            record { peer = h.peer; bytes = h.bytes; sent = h.sent; did = h.did; typed = h.typed; none = h.none };
        same = s.same;
      };
}

idle_left : (first : TrialTypist) (own : List Batch) (base : List Happening) → IsLeft (IsIdle first own base)
idle_left first own base = record {
  others = λ e t o h. ((sent_left first own base h.typed.log).others e t o (record { idle = h; same = refl })).idle;
  fields = λ xs t h. ((sent_left first own base h.typed.log).fields xs t (record { idle = h; same = refl })).idle;
}

idle_carried : (first : TrialTypist) (own : List Batch) (base : List Happening) → IsCarried (IsIdle first own base)
idle_carried first own base = record {
  left = idle_left first own base;
  taking = λ k t h. record {
    peer = h.peer;
    bytes = h.bytes;
    sent = h.sent;
    did = take_did k t.broker h.peer h.bytes h.sent h.did;
    typed = h.typed;
    none = h.none;
  };
  method = method_takes first own base;
}

-- ---- one line

-- from here on, with no batch
no_batch : (first : TrialTypist) (own : List Batch) (base : List Happening) (t : TrialPlay)
    (h : IsIdle first own base t) → IsIdle first (own ++ []) h.typed.log t
no_batch first own base t h =
    let now = from_here first own base h.bytes h.sent t.method h.typed in
    subst (λ (l : List Batch). IsIdle first l h.typed.log t) (sym (append-nil own))
    (record {
      peer = h.peer;
      bytes = h.bytes;
      sent = h.sent;
      did = h.did;
      typed = now.0;
      none = now.1 ∙ h.none;
    })

committed_typed : (first : TrialTypist) (own : List Batch) (base : List Happening) (batch : Batch) (t : TrialPlay) →
    IsShortHappening (committed batch) → (h : IsIdle first own base t) →
    IsTyping first (own ++ batch ∷ []) (committed batch ∷ h.typed.log) (commits batch t)
committed_typed first own base batch t k h = record {
  peer = h.peer;
  bytes = h.bytes;
  sent = h.sent;
  did = h.did;
  typed = is_committed first own base h.bytes h.sent batch t.method k h.typed;
}

fields_typed : (first : TrialTypist) (own : List Batch) (base : List Happening) (xs : List FieldPlay) (t : TrialPlay)
    (h : IsIdle first own base t) → IsIdle first (own ++ []) h.typed.log (record t { fields = xs })
fields_typed first own base xs t h =
    (idle_left first (own ++ []) h.typed.log).fields xs t (no_batch first own base t h)

acted_typed : (first : TrialTypist) (own : List Batch) (base : List Happening) (time : ℕ) (action : Action)
    (t end : TrialPlay) → IsWord time → IsAction action → (h : IsIdle first own base t) →
    acted time action t ≡ went end → IsIdle first (own ++ batch_by action) (with_batch action h.typed.log) end
unfolding acted
acted_typed first own base time (actions.Use f) t end w a h e =
    let log : List Happening = h.typed.log in
    shell_goes (IsIdle first (own ++ []) log) (idle_left first (own ++ []) log) (shell.Focus (f + 1) surface_id) tt
    t end (no_batch first own base t h) e
acted_typed first own base time actions.Leave t end w a h e =
    let log : List Happening = h.typed.log in
    shell_goes (IsIdle first (own ++ []) log) (idle_left first (own ++ []) log) shell.Unfocus tt t end
    (no_batch first own base t h) e
acted_typed first own base time (actions.Press key) t end w a h e =
    let log : List Happening = h.typed.log in
    pressed_goes (IsIdle first (own ++ []) log) (idle_left first (own ++ []) log) time key w a t end
    (no_batch first own base t h) e
acted_typed first own base time (actions.Batch b) t end w a h e =
    let k : AreEdits b = a in
    (sends_typed first (own ++ batch_of b ∷ []) (committed (batch_of b) ∷ h.typed.log) (commits (batch_of b) t) end
    (committed_typed first own base (batch_of b) t (k.string.1, k.preedit.1) h) e).idle
acted_typed first own base time (actions.Edit f x) t end w a h e =
    let log : List Happening = h.typed.log in
    field_sends (IsIdle first (own ++ []) log) (idle_left first (own ++ []) log) (f - 1)
    (edits (f - 1) (edit_of x) t) end
    (fields_typed first own base (edits (f - 1) (edit_of x) t).fields t h) e
acted_typed first own base time (actions.Pause f) t end w a h e =
    subst (λ (u : TrialPlay). IsIdle first (own ++ []) h.typed.log u) (same_went (pauses (f - 1) true t) end e)
    (fields_typed first own base (pauses (f - 1) true t).fields t h)
acted_typed first own base time (actions.Resume f) t end w a h e =
    subst (λ (u : TrialPlay). IsIdle first (own ++ []) h.typed.log u) (same_went (pauses (f - 1) false t) end e)
    (fields_typed first own base (pauses (f - 1) false t).fields t h)
acted_typed first own base time (actions.Show f) t end w a h e =
    subst (λ (r : Ran TrialPlay). IsIdle first (own ++ []) h.typed.log r.now) e
    (let k = no_batch first own base t h in
    record { peer = k.peer; bytes = k.bytes; sent = k.sent; did = k.did; typed = k.typed; none = k.none })

pub line_typed : (first : TrialTypist) (own : List Batch) (base : List Happening) (time : ℕ) (action : Action)
    (t end : TrialPlay) → IsWord time → IsAction action → (h : IsIdle first own base t) →
    line_played time action t ≡ went end → IsIdle first (own ++ batch_by action) (with_batch action h.typed.log) end
unfolding line_played
line_typed first own base time action t end w a h e =
    let next : List Batch = own ++ batch_by action in
    let log : List Happening = with_batch action h.typed.log in
    in_turn (IsIdle first next log) (acted time action t) (λ now. rounds now.most now) end e
    (λ mid f. acted_typed first own base time action t mid w a h f)
    (λ u last k f. rounds_go (IsIdle first next log) (idle_carried first next log) u.most u last k f)
