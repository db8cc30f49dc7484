-- Each log of a script's first actions, and the method's.
use Rattle.std.proofs.Common.{◌≡◌, ℕ, zero, suc, ◌+◌, ◌%◌, ◌^◌, ◌≤◌, Bool, true, false, List, [], ◌∷◌, ◌++◌, length, take, Some, refl, sym, ap, subst, ◌∙◌, arith, append_assoc}
use Rattle.std.specs.Prelude.{◌==◌, if◌then◌else◌, nat_le}
use Rattle.std.specs.List.{AllByRecursion, slice_get}
use Rattle.std.proofs.Math.Seq.{take-length}
use Rattle.std.proofs.lemmas.List.{append-nil}
use Rattle.std.proofs.lemmas.Bool.{ne_eqb}
use Rattle.std.proofs.lemmas.Option.{same_Some}
use Rattle.relay_model.specs.declared.role.Role.TheVariants.{Method}
use Rattle.broker_steps.specs.declared.limits.Limits.{Limits}
use Rattle.wl_wire.specs.Messages.{messages}
use Rattle.trial_field.specs.Log.{Batch}
use Rattle.client_side.specs.Messages.{Sent}
use Rattle.client_side.specs.MethodLog.{Happening}
use Rattle.trial_script.specs.declared.action.Action.{Action}
use Rattle.trial_script.specs.declared.script.Script.{Script}
use Rattle.trial_script.specs.Grammar.{IsAction}
use Rattle.trial_script.specs.Rules.{has_words}
use Rattle.broker_model.specs.declared.journal.Entry as journals
use Rattle.broker_model.specs.declared.journal.Entry.TheVariants as entries
use Rattle.broker_model.specs.Ids.{Joined, peer_in}
use Rattle.broker_model.specs.Limits.{is_full}
use Rattle.broker_model.specs.Out.{out_for}
use Rattle.broker_model.specs.Resolve.{past_of, with_joined}
use Rattle.broker_model.specs.Settle.{number_alive, settle}
use Rattle.broker_model.specs.Stamps.{no_stamp}
use Rattle.broker_core.specs.Broker.{Broker, with_step}
use Rattle.trial_run.specs.declared.typist.TrialTypist.{TrialTypist}
use Rattle.trial_run.specs.declared.whose.Whose.TheVariants as whose
use Rattle.trial_run.specs.Ran.{Ran, went, halted, ◌>>=◌}
use Rattle.trial_run.specs.Steps.{stepped, joined}
use Rattle.trial_run.specs.Play.{TrialPlay}
use Rattle.trial_run.specs.Rounds.{with_broker, sends}
use Rattle.trial_run.specs.Lines.{line_played, actions_played}
use Rattle.trial_run.specs.Trial.{unplayed, typist_of, method_joined, fields_joined, played_with, trial_played}
use Rattle.broker_telling.specs.Sayable.{IsWord}
use Rattle.trial_laws.specs.FieldLogs.{bytes_taken, trial_to}
use Rattle.trial_laws.specs.RelayedBatches.{IsFrontOf}
use Rattle.trial_laws.proofs.PhasesKeep.{with_entry}
use Rattle.trial_laws.proofs.TakesCount.{both_went, same_went}
use Rattle.trial_laws.proofs.BytesTaken.{step_grows, step_joined, none_taken_yet}
use Rattle.trial_laws.proofs.FieldsJoin.{can_join}
use Rattle.trial_laws.proofs.TextsFolded.{limits_same}
use Rattle.trial_laws.specs.TypedLogs.{steps_by, steps_of, batch_by, own_batches, with_batch, requests_of, events_in}
use Rattle.trial_laws.specs.MethodLaws.{IsWritten, IsLogged, IsNext, MethodSendsItsLog, MethodLogsGoOn}
use Rattle.trial_laws.proofs.TrialSteps.{IsOfTrial, still_of_trial, none_of_trial}
use Rattle.trial_laws.proofs.KeysShort.{KeysWait}
use Rattle.trial_laws.proofs.MethodHears.{HasTyped, is_new}
use Rattle.trial_laws.proofs.StepsSent.{step_steps, PeerDid}
use Rattle.trial_laws.proofs.PhasesGo.{fields_go}
use Rattle.trial_laws.proofs.MethodTyped.{IsIdle, IsSent, sends_typed, sent_left, line_typed}

-- ---- the method joins

-- it is the first peer, took nothing, and said nothing yet
join_did : (b : Broker) → b.journal ≡ [] →
    PeerDid (record { label = length b.journal + 1; role = Method }) [] [] (with_step (entries.Join Method) no_stamp b)
join_did b none =
    let store : ℕ = b.limits.store in
    let e : journals.Entry = entries.Join Method in
    let after : List journals.Entry = settle store (e ∷ b.journal) in
    let peer : Joined = record { label = length b.journal + 1; role = Method } in
    let taken : (out_for store after peer.label).taken ≡ 0 =
    (step_grows store e b.journal peer.label).taken
    ∙ ap (λ n. n + 0) (none_taken_yet store b.journal peer.label (omega arith)) in
    let steps : steps_by after 1 ≡ [] =
    step_steps store e b.journal 1 ∙ ap (λ (j : List journals.Entry). steps_by j 1 ++ []) none in
    record {
      joined =
          step_joined (λ joined. peer_in joined 1 ≡ Some peer) store e b.journal
          (subst (λ (j : List journals.Entry).
          peer_in (with_joined e (length b.journal + 1) (past_of j).joined) 1 ≡ Some peer) (sym none) refl);
      within = subst (λ n. n ≤ length (out_for store after peer.label).put.bytes) (sym taken) (omega arith);
      taken = ap (λ n. take n (out_for store after peer.label).put.bytes) taken;
      said = record {
        front = record { rest = []; is = append-nil (steps_by after 1) ∙ steps };
        all = λ l. steps;
      };
      steps = still_of_trial store e b.journal tt (subst IsOfTrial (sym none) none_of_trial);
    }

method_typed : (first : TrialTypist) (t mid : TrialPlay) → t.broker.journal ≡ [] →
    (h : HasTyped first [] [] [] [] t.method) → method_joined t ≡ went mid → IsSent first [] [] h.log mid
unfolding method_joined joined stepped
method_typed first t mid none typed e =
    by (nat_le 64 (number_alive t.broker.journal)) (is_full t.broker.limits t.broker.journal (entries.Join Method))
    (can_join t 0 (ap (λ (l : List journals.Entry). length (past_of l).joined) none) (omega arith)) e
  where
    by : (many full : Bool) → many ≡ false → (with_broker t (if many then went t.broker
        else (if full then halted t.broker else went (with_step (entries.Join Method) no_stamp t.broker)))
        >>= sends whose.Method) ≡ went mid → IsSent first [] [] typed.log mid
    by true full q w = cc
    by false true q w = absurd (let no : true ≡ false = ap (λ (r : Ran TrialPlay). r.is_full) w in cc)
    by false false q w =
        sends_typed first [] [] (with_entry (entries.Join Method) t) mid
        (record {
          peer = record { label = length t.broker.journal + 1; role = Method };
          bytes = [];
          sent = [];
          did = join_did t.broker none;
          typed = typed;
        })
        w

-- by its rules no key waits
rules_wait : (script : Script) → IsWritten script → KeysWait (typist_of script)
rules_wait script w = by (has_words script.rules) refl
  where
    by : (b : Bool) → has_words script.rules ≡ b → KeysWait (typist_of script)
    by true e = rw e (w.table, w.dict, omega arith)
    by false e = rw e (w.table, omega arith)

-- ---- the logs of actions

-- the method is idle, and this is its log
pub record IsAt (first : TrialTypist) (own : List Batch) (log : List Happening) (t : TrialPlay) : Type 0 where
  pub base : List Happening
  pub idle : IsIdle first own base t
  pub same : idle.typed.log ≡ log

-- the logs of the first of these actions, from a trial on
record GoOn (first : TrialTypist) (own : List Batch) (time : ℕ) (all : List Action) (t : TrialPlay)
    (start : List Happening) : Type 0 where
  log : ℕ → List Happening
  begins : log 0 ≡ start
  next : (n : ℕ) (action : Action) → slice_get all n ≡ Some action → IsNext action (log n) (log (suc n))
  each : (n : ℕ) (u : TrialPlay) → actions_played time (take n all) t ≡ went u →
      IsAt first (own ++ own_batches (take n all)) (log n) u

none_more : (first : TrialTypist) (own : List Batch) (base : List Happening) (time : ℕ) (t u : TrialPlay)
    (h : IsIdle first own base t) → actions_played time [] t ≡ went u → IsAt first (own ++ []) h.typed.log u
unfolding actions_played
none_more first own base time t u h e =
    subst (λ (v : TrialPlay). IsAt first (own ++ []) h.typed.log v) (same_went t u e)
    (subst (λ (l : List Batch). IsAt first l h.typed.log t) (sym (append-nil own))
    (record { base = base; idle = h; same = refl }))

first_more : (first : TrialTypist) (own : List Batch) (base : List Happening) (time : ℕ) (action : Action)
    (more : List Action) (t mid : TrialPlay) (h : IsIdle first own base t) → line_played time action t ≡ went mid →
    (line : IsIdle first (own ++ batch_by action) (with_batch action h.typed.log) mid) →
    GoOn first (own ++ batch_by action) ((time + 1) % 2 ^ 32) more mid line.typed.log →
    GoOn first own time (action ∷ more) t h.typed.log
unfolding actions_played
first_more first own base time action more t mid h e line rest =
    record { log = log; begins = refl; next = next; each = each }
  where
    log : ℕ → List Happening
    log zero = h.typed.log
    log (suc n) = rest.log n

    next : (n : ℕ) (a : Action) → slice_get (action ∷ more) n ≡ Some a → IsNext a (log n) (log (suc n))
    next zero a q =
        subst (λ (x : Action). IsNext x h.typed.log (rest.log 0)) (same_Some action a q)
        (record { came = line.typed.came; is = rest.begins ∙ line.typed.since })
    next (suc n) a q = rest.next n a q

    each : (n : ℕ) (u : TrialPlay) → actions_played time (take n (action ∷ more)) t ≡ went u →
        IsAt first (own ++ own_batches (take n (action ∷ more))) (log n) u
    each zero u q = none_more first own base time t u h q
    each (suc n) u q =
        let both = both_went (line_played time action t)
        (actions_played ((time + 1) % 2 ^ 32) (take n more)) u q in
        let same : both.mid ≡ mid = same_went both.mid mid (sym both.first ∙ e) in
        subst (λ (l : List Batch). IsAt first l (rest.log n) u)
        (append_assoc own (batch_by action) (own_batches (take n more)))
        (rest.each n u
        (subst (λ (v : TrialPlay). actions_played ((time + 1) % 2 ^ 32) (take n more) v ≡ went u) same both.second))

actions_go_on : (first : TrialTypist) (own : List Batch) (base : List Happening) (time : ℕ) (all : List Action)
    (t end : TrialPlay) → IsWord time → AllByRecursion IsAction all → (h : IsIdle first own base t) →
    actions_played time all t ≡ went end → GoOn first own time all t h.typed.log
unfolding actions_played
actions_go_on first own base time [] t end w a h e = record {
  log = λ n. h.typed.log;
  begins = refl;
  next = λ n action q. (let no : slice_get [] n ≡ Some action = q in cc);
  each = λ n u q. none_left n u q;
}
  where
    none_left : (n : ℕ) (u : TrialPlay) → actions_played time (take n []) t ≡ went u →
        IsAt first (own ++ own_batches (take n [])) h.typed.log u
    none_left zero u q = none_more first own base time t u h q
    none_left (suc n) u q = none_more first own base time t u h q
actions_go_on first own base time (action ∷ more) t end w a h e =
    let both = both_went (line_played time action t) (actions_played ((time + 1) % 2 ^ 32) more) end e in
    let line = line_typed first own base time action t both.mid w a.0 h both.first in
    first_more first own base time action more t both.mid h both.first line
    (actions_go_on first (own ++ batch_by action) (with_batch action h.typed.log) ((time + 1) % 2 ^ 32) more both.mid
    end (omega arith) a.1 line both.second)

-- ---- the whole

-- what is played where there are fields
some_played : (limits : Limits) (script : Script) (t : TrialPlay) → (script.fields == 0) ≡ false →
    trial_played limits script ≡ went t →
    ((method_joined (unplayed limits (typist_of script)) >>= fields_joined script.fields)
    >>= actions_played (script.first_line % 2 ^ 32) script.actions) ≡ went t
unfolding played_with
some_played limits script t some e =
    let start : TrialPlay = unplayed limits (typist_of script) in
    let time : ℕ = script.first_line % 2 ^ 32 in
    ap (λ (none : Bool). if none then went start
    else (method_joined start >>= fields_joined script.fields) >>= actions_played time script.actions)
    (sym some) ∙ e

-- the logs of a script's first actions, in the trials that they play
record AreLogs (limits : Limits) (script : Script) : Type 0 where
  log : ℕ → List Happening
  begins : log 0 ≡ []
  next : (n : ℕ) (action : Action) → slice_get script.actions n ≡ Some action → IsNext action (log n) (log (suc n))
  each : (n : ℕ) (u : TrialPlay) → trial_to n limits script ≡ went u →
      IsAt (typist_of script) (own_batches (take n script.actions)) (log n) u

trial_logs : (limits : Limits) (script : Script) (t : TrialPlay) → (script.fields == 0) ≡ false →
    IsWritten script → trial_played limits script ≡ went t → AreLogs limits script
trial_logs limits script t some w e =
    let first : TrialTypist = typist_of script in
    let start : TrialPlay = unplayed limits first in
    let time : ℕ = script.first_line % 2 ^ 32 in
    let seats : Ran TrialPlay = method_joined start >>= fields_joined script.fields in
    let both = both_went seats (actions_played time script.actions) t (some_played limits script t some e) in
    let seated = both_went (method_joined start) (fields_joined script.fields) both.mid both.first in
    let new = is_new first (rules_wait script w) in
    let begun : IsSent first [] [] new.0.log seated.mid =
    method_typed first start seated.mid refl new.0 seated.first in
    let mid : IsSent first [] [] new.0.log both.mid =
    fields_go (IsSent first [] [] new.0.log) (sent_left first [] [] new.0.log) script.fields seated.mid both.mid begun
    seated.second in
    let all = actions_go_on first [] [] time script.actions both.mid t (omega arith) w.actions mid.idle both.second in
    record {
      log = all.log;
      begins = all.begins ∙ mid.same ∙ new.1;
      next = all.next;
      each = λ n u q.
          let front = both_went seats (actions_played time (take n script.actions)) u
          (some_played limits (record script { actions = take n script.actions }) u some q) in
          all.each n u
          (subst (λ (v : TrialPlay). actions_played time (take n script.actions) v ≡ went u)
          (same_went front.mid both.mid (sym front.first ∙ both.first)) front.second);
    }

-- all of them
pub trial_typed : (limits : Limits) (script : Script) (t : TrialPlay) → (script.fields == 0) ≡ false →
    IsWritten script → trial_played limits script ≡ went t →
    (log : List Happening) × IsAt (typist_of script) (own_batches script.actions) log t
trial_typed limits script t some w e =
    let logs = trial_logs limits script t some w e in
    let n : ℕ = length script.actions in
    let all : take n script.actions ≡ script.actions = take-length script.actions in (
      logs.log n,
      subst (λ (l : List Action). IsAt (typist_of script) (own_batches l) (logs.log n) t) all
          (logs.each n t (ap (λ (l : List Action). trial_played limits (record script { actions = l })) all ∙ e)),
    )

-- such a log is the method's
logged_by : (limits : Limits) (script : Script) (log : List Happening) (t : TrialPlay) →
    trial_played limits script ≡ went t → IsAt (typist_of script) (own_batches script.actions) log t →
    (logged : IsLogged limits script t) × (logged.log ≡ log)
logged_by limits script log t e at =
    let h = at.idle in
    let limited : t.broker.limits ≡ limits =
    subst (λ (r : Ran TrialPlay). r.now.broker.limits ≡ limits) e (limits_same limits script) in
    let took : h.bytes ≡ bytes_taken limits.store t.broker.journal h.peer.label =
    sym h.did.taken
    ∙ ap (λ (l : Limits). bytes_taken l.store t.broker.journal h.peer.label) limited in
    let sent : h.sent ≡ requests_of (typist_of script) h.typed.log =
    sym (h.typed.is.all ∙ ap (λ (l : List Sent). h.sent ++ l) h.none ∙ append-nil h.sent) in (
      record {
        log = h.typed.log;
        typist = h.typed.is.typist;
        own = h.typed.batches;
        peer = h.peer;
        joined = h.did.joined;
        heard = h.typed.events ∙ ap (λ (b : List ℕ). events_in (messages b)) took;
        front = subst (λ (l : List Sent). IsFrontOf (steps_by t.broker.journal 1) (steps_of 1 l)) sent
            h.did.said.front;
        all = λ l. h.did.said.all l ∙ ap (steps_of 1) sent;
      },
      at.same,
    )

some_fields : (n : ℕ) → 1 ≤ n → (n == 0) ≡ false
some_fields n l = ne_eqb n 0 (λ z. absurd (omega arith))

pub method_sends_its_log : MethodSendsItsLog
method_sends_its_log limits script t some w e =
    let all = trial_typed limits script t (some_fields script.fields some) w e in
    (logged_by limits script all.0 t e all.1).0

pub method_logs_go_on : MethodLogsGoOn
method_logs_go_on limits script t some w e =
    let logs = trial_logs limits script t (some_fields script.fields some) w e in
    record {
      log = logs.log;
      begins = logs.begins;
      next = logs.next;
      each = λ n u q.
          logged_by limits (record script { actions = take n script.actions }) (logs.log n) u q (logs.each n u q);
    }
