-- The law of a whole trial, of the laws of its jobs
use Rattle.std.proofs.Common.{◌≡◌, ℕ, zero, suc, ◌+◌, ◌≤◌, Bool, true, false, List, [], ◌∷◌, ◌++◌, length, map, Option, Some, None, Result, Ok, Err, refl, sym, ap, subst, ◌∙◌, inl, inr, arith, append-nil, append_assoc}
use Rattle.std.specs.Prelude.{◌⊎◌, if◌then◌else◌}
use Rattle.std.specs.List.{AllByRecursion, slice_get}
use Rattle.std.proofs.lemmas.Bool.{ne_eqb}
use mathlib.Core.Logic.{dite}
use native.Mathlib.Decide.{ℕ_discrete}
use Rattle.broker_steps.specs.declared.limits.Limits.{Limits}
use Rattle.broker_steps.specs.declared.step.ShellStep.{ShellStep}
use Rattle.broker_model.specs.declared.journal.Entry.{Entry}
use Rattle.broker_model.specs.declared.journal.Entry.TheVariants as entries
use Rattle.broker_model.specs.Settle.{settle, history}
use Rattle.trial_client_logs.specs.Logs.{field_log}
use Rattle.client_side.specs.FieldLog.{sends_of}
use Rattle.client_side.specs.Happenings.{Happening}
use Rattle.client_side.specs.Messages.{Sent, spelled, field_setup}
use Rattle.turn_lock.specs.Pairs.{own, NoneOf}
use Rattle.turn_lock.proofs.PairsOfNumbers.{own-here, own-else, none-back}
use Rattle.hub_lock.specs.declared.step.OuterStep.{OuterStep}
use Rattle.hub_lock.specs.Histories.{History, entries_of, reader_of}
use Rattle.hub_lock.specs.Lawful.{IsMadeBy, AreMadeBy}
use Rattle.hub_lock.specs.Passes.{PassSeat, PeerPass}
use Rattle.hub_lock.proofs.JournalOfSteps.{journal-longer}
use Rattle.hub_calls.specs.Counted.{entries_of_pass, is_join}
use Rattle.hub_calls.specs.Made.{entries_by, journal_of}
use Rattle.hub_calls.specs.Taken.{HasAll}
use Rattle.hub_calls.specs.Submitted.{message_entry, entries_in}
use Rattle.hub_calls.proofs.OthersTakeNothing.{entries-append, made-back}
use Rattle.hub_calls.proofs.PassesCounted.{steps_stay}
use Rattle.wl_wire.specs.Messages.{messages}
use Rattle.trial_laws.specs.RelayedBatches.{IsFrontOf}
use Rattle.trial_run.specs.declared.typist.TrialTypist.{TrialTypist}
use Rattle.trial_laws.specs.TypedLogs.{is_step_of, steps_by, steps_of, requests_of}
use Rattle.trial_typing.specs.declared.field_job.FieldJob.{FieldJob}
use Rattle.trial_typing.specs.declared.job_end.JobEnd.{JobEnd}
use Rattle.trial_typing.specs.declared.job_end.JobEnd.TheVariants as ends
use Rattle.trial_typing.specs.declared.shell_job.ShellJob.{ShellJob}
use Rattle.trial_typing.specs.FieldLaw.{IsFieldDone}
use Rattle.trial_typing.specs.Sending.{HasSentFront, IsOver}
use Rattle.trial_typing.specs.ShellLaw.{ordered, Orders}
use Rattle.trial_jobs.specs.declared.method_job.MethodJob.{MethodJob}
use Rattle.trial_client_logs.specs.MethodLogs.{method_log}
use Rattle.trial_job_laws.specs.Passes.{ArePassesOf, HasEndIn}
use Rattle.trial_job_laws.specs.FieldTold.{IsQuiet, OthersAreFields, IsAllTold}
use Rattle.trial_job_laws.specs.MethodTold.{HasKeys}
use Rattle.trial_job_laws.specs.OneTrial.{IsOfPeer, IsOfTrial, is_take, IsOnePeer, entries_after, AreJobs, IsTrial, IsCutTrial, TrialsAreTold, CutTrialsAreTold}
use Rattle.trial_job_laws.specs.ShellTold.{orders_of, is_order, OrdersAreOf, HasOrdered, IsFocusOrKey}
use Rattle.trial_job_laws.proofs.StepsOfPeers.{steps_outer}
use Rattle.trial_job_laws.proofs.PassesSeen.{over_in}
use Rattle.trial_job_laws.proofs.RequestsInOrder.{front_by}
use Rattle.trial_job_laws.proofs.FieldTold.{sent_by, fields_are_told, fields_have_sent}
use Rattle.trial_job_laws.proofs.FieldAll.{longer_settled, fields_are_all_told}
use Rattle.trial_job_laws.proofs.MethodAll.{methods_have_keys}
use Rattle.trial_job_laws.proofs.MethodTold.{methods_are_told, methods_have_sent}
use Rattle.trial_job_laws.proofs.MethodTold as methods
use Rattle.trial_job_laws.proofs.ShellTold.{shell_has_ordered}

-- ---- what holds of the steps of each pass holds of each step

abbrev entry_in : OuterStep → Entry
entry_in s = s.entry

-- so it is with the entries of a pass behind a step
behind : (P : Entry → Type 0) (x : ℕ × OuterStep) (h : History) (n : ℕ) →
    AllByRecursion P (entries_of_pass n (x ∷ h)) → AllByRecursion P (entries_of_pass n h)
behind P x h n all = dite (ℕ_discrete x.0 n)
    (λ e. (subst (λ (steps : List OuterStep). AllByRecursion P (map entry_in steps)) (own-here n x h e) all).1)
    (λ e. subst (λ (steps : List OuterStep). AllByRecursion P (map entry_in steps)) (own-else n x h e) all)

here : (P : Entry → Type 0) (x : ℕ × OuterStep) (h : History) → AllByRecursion P (entries_of_pass x.0 (x ∷ h)) →
    P x.1.entry
here P x h all =
    (subst (λ (steps : List OuterStep). AllByRecursion P (map entry_in steps)) (own-here x.0 x h refl) all).0

pub each_step : (R : ℕ → Entry → Type 0) (Q : ℕ → Type 0) (h : History) →
    ((n : ℕ) → Q n → AllByRecursion (R n) (entries_of_pass n h)) →
    AllByRecursion (λ (s : ℕ × OuterStep). Q s.0) h →
    AllByRecursion (λ (s : ℕ × OuterStep). R s.0 s.1.entry) h
each_step R Q [] by each = tt
each_step R Q (x ∷ h) by each =
    (here (R x.0) x h (by x.0 each.0), each_step R Q h (λ n q. behind (R n) x h n (by n q)) each.1)

-- ---- what each pass made

-- an order is of the shell's pass, and a message of the method's peer or a field's
abbrev IsMessageOf : ℕ → Entry → Type 0
IsMessageOf q (entries.Message k id opcode body) = k ≡ q
IsMessageOf q _ = ⊥

record IsOfFields (fields : List FieldJob) (e : Entry) : Type 0 where
  k : ℕ
  job : FieldJob
  is : slice_get fields k ≡ Some job
  message : IsMessageOf (k + 2) e

abbrev IsKnown : List FieldJob → ℕ → ℕ → Entry → Type 0
IsKnown fields shell n e =
    (is_join e ≡ true)
    ⊎ (((is_order e ≡ true) × (n ≡ shell)) ⊎ ((is_take e ≡ true) ⊎ (IsMessageOf 1 e ⊎ IsOfFields fields e)))

all_map : (P Q : Entry → Type 0) (es : List Entry) → ((e : Entry) → P e → Q e) → AllByRecursion P es →
    AllByRecursion Q es
all_map P Q [] f all = tt
all_map P Q (e ∷ es) f all = (f e all.0, all_map P Q es f all.1)

front_all : (P : Entry → Type 0) (xs ys : List Entry) → AllByRecursion P (xs ++ ys) → AllByRecursion P xs
front_all P [] ys all = tt
front_all P (x ∷ xs) ys all = (all.0, front_all P xs ys all.1)

orders_are : (steps : List ShellStep) → AllByRecursion (λ (e : Entry). is_order e ≡ true) (ordered steps)
orders_are [] = tt
orders_are (s ∷ steps) = (refl, orders_are steps)

messages_are : (q : ℕ) (ms : List (List ℕ)) → AllByRecursion (IsMessageOf q) (map (message_entry q) ms)
messages_are q [] = tt
messages_are q (m ∷ ms) = (refl, messages_are q ms)

-- a reader made messages of its peer
read_messages : (h : History) (q : ℕ) (reader writer : PeerPass) (ss : List Sent) → ArePassesOf h q reader writer →
    HasSentFront reader ss → AllByRecursion (IsMessageOf q) (entries_of_pass reader.seat.number h)
read_messages h q reader writer ss p f =
    subst (AllByRecursion (IsMessageOf q)) (sym (steps_stay reader.seat h p.reader_seen))
    (front_all (IsMessageOf q) (entries_by reader.seat) f.rest
    (subst (AllByRecursion (IsMessageOf q)) f.is
    (subst (λ k. AllByRecursion (IsMessageOf q) (entries_in k (spelled ss))) (sym p.reads_for)
    (messages_are q (messages (spelled ss))))))

-- what a peer's passes made
peer_known : (fields : List FieldJob) (shell : ℕ) (h : History) (q : ℕ) (reader writer : PeerPass) (ss : List Sent) →
    IsOnePeer h q reader writer → HasSentFront reader ss → (n : ℕ) → IsOfPeer reader writer n →
    ((e : Entry) → IsMessageOf q e → IsKnown fields shell n e) →
    AllByRecursion (IsKnown fields shell n) (entries_of_pass n h)
peer_known fields shell h q reader writer ss p f n (inl e) known =
    subst (λ k. AllByRecursion (IsKnown fields shell n) (entries_of_pass k h)) (sym e)
    (all_map (IsMessageOf q) (IsKnown fields shell n) (entries_of_pass reader.seat.number h) known
    (read_messages h q reader writer ss p.passes f))
peer_known fields shell h q reader writer ss p f n (inr e) known =
    subst (λ k. AllByRecursion (IsKnown fields shell n) (entries_of_pass k h)) (sym e)
    (all_map (λ (x : Entry). is_take x ≡ true) (IsKnown fields shell n) (entries_of_pass writer.seat.number h)
    (λ x t. inr (inr (inl t)))
    (subst (AllByRecursion (λ (x : Entry). is_take x ≡ true)) (sym (steps_stay writer.seat h p.passes.writer_seen))
    p.takes))

-- what the jobs' passes submitted and ordered are the first of what they are to
record AreSent (typist : TrialTypist) (method : MethodJob) (fields : List FieldJob) (shell : ShellJob) : Type 0 where
  orders : AllByRecursion (λ (e : Entry). is_order e ≡ true) (entries_by shell.pass)
  method_sent : HasSentFront method.reader (requests_of typist (method_log method.log))
  fields_sent : (k : ℕ) (job : FieldJob) → slice_get fields k ≡ Some job →
      HasSentFront job.reader (field_setup ++ sends_of (field_log job.log))

sent_all : (limits : Limits) (h : History) (typist : TrialTypist) (method : MethodJob) (fields : List FieldJob)
    (shell : ShellJob) → IsTrial limits h typist method fields shell → AreSent typist method fields shell
sent_all limits h typist method fields shell t = record {
  orders = subst (AllByRecursion (λ (e : Entry). is_order e ≡ true)) (sym t.ordered-are) (orders_are shell.steps);
  method_sent = front_by limits method.reader method.writer (requests_of typist (method_log method.log))
      t.method_rested.done.sent;
  fields_sent = λ k job is. front_by limits job.reader job.writer (field_setup ++ sends_of (field_log job.log))
      (t.rested k job is).done.sent;
}

orders_front : (limits : Limits) (pass : PassSeat) (steps : List ShellStep) (r : Result (Unit {0}) JobEnd) →
    Orders limits pass steps r → AllByRecursion (λ (e : Entry). is_order e ≡ true) (entries_by pass)
orders_front limits pass steps (Ok done) k =
    subst (AllByRecursion (λ (e : Entry). is_order e ≡ true)) (sym k) (orders_are steps)
orders_front limits pass steps (Err (ends.JournalFull kept)) k =
    front_all (λ (e : Entry). is_order e ≡ true) (entries_by pass) (ordered (k.next ∷ k.later))
    (subst (AllByRecursion (λ (e : Entry). is_order e ≡ true)) k.orders (orders_are steps))
orders_front limits pass steps (Err ends.BadEvent) k = absurd k
orders_front limits pass steps (Err ends.NoMemory) k =
    front_all (λ (e : Entry). is_order e ≡ true) (entries_by pass) k.rest
    (subst (AllByRecursion (λ (e : Entry). is_order e ≡ true)) k.is (orders_are steps))

sent_cut : (limits : Limits) (h : History) (typist : TrialTypist) (method : MethodJob) (fields : List FieldJob)
    (shell : ShellJob) → IsCutTrial limits h typist method fields shell → AreSent typist method fields shell
sent_cut limits h typist method fields shell t = record {
  orders = orders_front limits shell.pass shell.steps t.shell_ends.0 t.shell_ends.1;
  method_sent = methods.sent_by limits typist method t.method_ends.0 t.method_ends.1;
  fields_sent = λ k job is. (let e = t.field_ends k job is in sent_by limits job e.0 e.1);
}

pass_known : (limits : Limits) (h : History) (typist : TrialTypist) (method : MethodJob) (fields : List FieldJob)
    (shell : ShellJob) → AreJobs limits h typist method fields shell → AreSent typist method fields shell → (n : ℕ) →
    IsOfTrial method fields shell n → AllByRecursion (IsKnown fields shell.pass.number n) (entries_of_pass n h)
pass_known limits h typist method fields shell t s n (inl e) =
    subst (λ k. AllByRecursion (IsKnown fields shell.pass.number n) (entries_of_pass k h)) (sym e)
    (all_map (λ (x : Entry). is_join x ≡ true) (IsKnown fields shell.pass.number n) (entries_of_pass 0 h)
    (λ x j. inl j) t.joins)
pass_known limits h typist method fields shell t s n (inr (inl e)) =
    subst (λ k. AllByRecursion (IsKnown fields shell.pass.number n) (entries_of_pass k h)) (sym e)
    (all_map (λ (x : Entry). is_order x ≡ true) (IsKnown fields shell.pass.number n)
    (entries_of_pass shell.pass.number h) (λ x o. inr (inl (o, e)))
    (subst (AllByRecursion (λ (x : Entry). is_order x ≡ true)) (sym (steps_stay shell.pass h t.shell_seen)) s.orders))
pass_known limits h typist method fields shell t s n (inr (inr (inl of))) =
    peer_known fields shell.pass.number h 1 method.reader method.writer (requests_of typist (method_log method.log))
    t.method_peer s.method_sent n of (λ e m. inr (inr (inr (inl m))))
pass_known limits h typist method fields shell t s n (inr (inr (inr f))) =
    peer_known fields shell.pass.number h (f.k + 2) f.job.reader f.job.writer
    (field_setup ++ sends_of (field_log f.job.log)) (t.field_peers f.k f.job f.is) (s.fields_sent f.k f.job f.is) n f.of
    (λ e m. inr (inr (inr (inr (record { k = f.k; job = f.job; is = f.is; message = m })))))

abbrev AllKnown : List FieldJob → ℕ → History → Type 0
AllKnown fields shell h = AllByRecursion (λ (s : ℕ × OuterStep). IsKnown fields shell s.0 s.1.entry) h

all_known : (limits : Limits) (h : History) (typist : TrialTypist) (method : MethodJob) (fields : List FieldJob)
    (shell : ShellJob) → AreJobs limits h typist method fields shell → AreSent typist method fields shell →
    AllKnown fields shell.pass.number h
all_known limits h typist method fields shell t s =
    each_step (IsKnown fields shell.pass.number) (IsOfTrial method fields shell) h
    (pass_known limits h typist method fields shell t s) t.each

-- ---- the shell's orders

order_of : (fields : List FieldJob) (shell n : ℕ) (e : Entry) → IsKnown fields shell n e → is_order e ≡ true → n ≡ shell
order_of fields shell n (entries.Shell step) (inl j) o = cc
order_of fields shell n (entries.Shell step) (inr (inl k)) o = k.1
order_of fields shell n (entries.Shell step) (inr (inr (inl k))) o = cc
order_of fields shell n (entries.Shell step) (inr (inr (inr (inl k)))) o = absurd k
order_of fields shell n (entries.Shell step) (inr (inr (inr (inr k)))) o = absurd k.message
order_of fields shell n (entries.Join role) k o = cc
order_of fields shell n (entries.Message q id opcode body) k o = cc
order_of fields shell n (entries.Tokens q tokens) k o = cc
order_of fields shell n (entries.BadSize q head) k o = cc
order_of fields shell n (entries.End q cause) k o = cc
order_of fields shell n (entries.Took q bytes) k o = cc

orders_of_shell : (fields : List FieldJob) (shell : ℕ) (h : History) → AllKnown fields shell h → OrdersAreOf shell h
orders_of_shell fields shell [] all = tt
orders_of_shell fields shell (x ∷ h) all =
    (order_of fields shell x.0 x.1.entry all.0, orders_of_shell fields shell h all.1)

-- ---- peers without a job made no step

no_step : (fields : List FieldJob) (shell n q : ℕ) (e : Entry) → (q ≡ 1 → ⊥) →
    ((k : ℕ) (job : FieldJob) → slice_get fields k ≡ Some job → q ≡ k + 2 → ⊥) → IsKnown fields shell n e →
    is_step_of q e ≡ false
no_step fields shell n q (entries.Message p id opcode body) other none (inl j) = cc
no_step fields shell n q (entries.Message p id opcode body) other none (inr (inl k)) = (let o = k.0 in cc)
no_step fields shell n q (entries.Message p id opcode body) other none (inr (inr (inl k))) = cc
no_step fields shell n q (entries.Message p id opcode body) other none (inr (inr (inr (inl k)))) =
    ne_eqb p q (λ same. other (sym same ∙ k))
no_step fields shell n q (entries.Message p id opcode body) other none (inr (inr (inr (inr k)))) =
    ne_eqb p q (λ same. none k.k k.job k.is (sym same ∙ k.message))
no_step fields shell n q (entries.Join role) other none k = refl
no_step fields shell n q (entries.Shell step) other none k = refl
no_step fields shell n q (entries.Took p bytes) other none k = refl
no_step fields shell n q (entries.Tokens p tokens) other none (inl j) = cc
no_step fields shell n q (entries.Tokens p tokens) other none (inr (inl k)) = (let o = k.0 in cc)
no_step fields shell n q (entries.Tokens p tokens) other none (inr (inr (inl k))) = cc
no_step fields shell n q (entries.Tokens p tokens) other none (inr (inr (inr (inl k)))) = absurd k
no_step fields shell n q (entries.Tokens p tokens) other none (inr (inr (inr (inr k)))) = absurd k.message
no_step fields shell n q (entries.BadSize p head) other none (inl j) = cc
no_step fields shell n q (entries.BadSize p head) other none (inr (inl k)) = (let o = k.0 in cc)
no_step fields shell n q (entries.BadSize p head) other none (inr (inr (inl k))) = cc
no_step fields shell n q (entries.BadSize p head) other none (inr (inr (inr (inl k)))) = absurd k
no_step fields shell n q (entries.BadSize p head) other none (inr (inr (inr (inr k)))) = absurd k.message
no_step fields shell n q (entries.End p cause) other none (inl j) = cc
no_step fields shell n q (entries.End p cause) other none (inr (inl k)) = (let o = k.0 in cc)
no_step fields shell n q (entries.End p cause) other none (inr (inr (inl k))) = cc
no_step fields shell n q (entries.End p cause) other none (inr (inr (inr (inl k)))) = absurd k
no_step fields shell n q (entries.End p cause) other none (inr (inr (inr (inr k)))) = absurd k.message

steps_none : (fields : List FieldJob) (shell q : ℕ) (h : History) → (q ≡ 1 → ⊥) →
    ((k : ℕ) (job : FieldJob) → slice_get fields k ≡ Some job → q ≡ k + 2 → ⊥) → AllKnown fields shell h →
    steps_by (entries_of h) q ≡ []
steps_none fields shell q h other none all = by (entries_of h) (known h all)
  where
    both : (xs ys : List Entry) → AllByRecursion (λ (e : Entry). is_step_of q e ≡ false) xs →
        AllByRecursion (λ (e : Entry). is_step_of q e ≡ false) ys →
        AllByRecursion (λ (e : Entry). is_step_of q e ≡ false) (xs ++ ys)
    both [] ys a b = b
    both (x ∷ xs) ys a b = (a.0, both xs ys a.1 b)

    known : (g : History) → AllKnown fields shell g →
        AllByRecursion (λ (e : Entry). is_step_of q e ≡ false) (entries_of g)
    known [] k = tt
    known (x ∷ g) k =
        subst (AllByRecursion (λ (e : Entry). is_step_of q e ≡ false)) (sym (entries-append (x ∷ []) g))
        (both (entries_of g) (x.1.entry ∷ []) (known g k.1)
        (no_step fields shell x.0 q x.1.entry other none k.0, tt))

    by : (es : List Entry) → AllByRecursion (λ (e : Entry). is_step_of q e ≡ false) es → steps_by es q ≡ []
    by [] a = refl
    by (e ∷ es) a =
        ap (λ (b : Bool). steps_by es q ++ (if b then e ∷ [] else [])) a.0
        ∙ append-nil (steps_by es q) ∙ by es a.1

-- a field of the trial, if it is one
abbrev IsAField : List FieldJob → ℕ → Type 0
IsAField fields q = (k : ℕ) × (job : FieldJob) × (slice_get fields k ≡ Some job) × (q ≡ k + 2)

found_field : (fields : List FieldJob) (q : ℕ) → IsAField fields q ⊎ (IsAField fields q → ⊥)
found_field fields zero = inr (λ f. absurd (let e = f.3 in omega arith))
found_field fields (suc zero) = inr (λ f. absurd (let e = f.3 in omega arith))
found_field fields (suc (suc k)) = by (slice_get fields k) refl
  where
    by : (o : Option FieldJob) → slice_get fields k ≡ o →
        IsAField fields (suc (suc k)) ⊎ (IsAField fields (suc (suc k)) → ⊥)
    by (Some job) e = inl (k, job, e, omega arith)
    by None e = inr (λ f. (let same : f.0 ≡ k = (let q = f.3 in omega arith) in
        let there : slice_get fields k ≡ Some f.1 = subst (λ n. slice_get fields n ≡ Some f.1) same f.2 in
        let no : None ≡ Some f.1 = sym e ∙ there in cc))

others_are_fields : (limits : Limits) (h : History) (typist : TrialTypist) (method : MethodJob)
    (fields : List FieldJob) (shell : ShellJob) → IsTrial limits h typist method fields shell →
    OthersAreFields (journal_of limits h)
others_are_fields limits h typist method fields shell t q peer other joined = by (found_field fields q)
  where
    by : IsAField fields q ⊎ (IsAField fields q → ⊥) →
        (log : List Happening)
        × IsFrontOf (steps_by (journal_of limits h) q) (steps_of q (field_setup ++ sends_of log))
    by (inl f) =
        let job : FieldJob = f.1 in
        let told = fields_have_sent limits h (f.0 + 2) job t.jobs.lawful (t.jobs.field_peers f.0 job f.2).passes
        (t.rested f.0 job f.2).done in (
          field_log job.log,
          subst (λ k. IsFrontOf (steps_by (journal_of limits h) k)
              (steps_of k (field_setup ++ sends_of (field_log job.log))))
              (sym f.3) told.told.sent,
        )
    by (inr none) =
        let is : steps_by (journal_of limits h) q ≡ [] =
        steps_outer limits.store (entries_of h) q
        ∙ steps_none fields shell.pass.number q h other (λ k job is e. none (k, job, is, e))
        (all_known limits h typist method fields shell t.jobs (sent_all limits h typist method fields shell t)) in (
          [],
          record {
            rest = steps_of q (field_setup ++ sends_of []);
            is = ap (λ (l : List Entry). l ++ steps_of q (field_setup ++ sends_of [])) is;
          },
        )

-- ---- past what a field's writer has seen

-- of two fronts the one begins the other
split : (a b r s : History) → a ++ r ≡ b ++ s →
    ((m : History) × (r ≡ m ++ s)) ⊎ ((x : ℕ × OuterStep) × (m : History) × (a ≡ b ++ x ∷ m))
split [] b r s e = inl (b, e)
split (x ∷ a) [] r s e = inr (x, a, refl)
split (x ∷ a) (y ∷ b) r s e =
    by (split a b r s (let later : a ++ r ≡ b ++ s = cc in later)) (let first : x ≡ y = cc in first)
  where
    by : ((m : History) × (r ≡ m ++ s)) ⊎ ((z : ℕ × OuterStep) × (m : History) × (a ≡ b ++ z ∷ m)) → x ≡ y →
        ((m : History) × (r ≡ m ++ s))
        ⊎ ((z : ℕ × OuterStep) × (m : History) × (x ∷ a ≡ (y ∷ b) ++ z ∷ m))
    by (inl f) same = inl f
    by (inr g) same =
        inr (g.0, g.1, ap (λ (l : History). x ∷ l) g.2 ∙ ap (λ (z : ℕ × OuterStep). z ∷ (b ++ g.0 ∷ g.1)) same)

one_longer : (limits : Limits) (b : History) (x : ℕ × OuterStep) (m : History) →
    suc (entries_after limits b) ≤ entries_after limits (b ++ x ∷ m)
one_longer limits b x m =
    let journal : List Entry = x.1.entry ∷ history limits.store (entries_of b) in
    let is : journal_of limits (b ++ x ∷ []) ≡ settle limits.store journal =
    ap (history limits.store) (entries-append b (x ∷ [])) in
    let one = ap length is in
    let longer = longer_settled limits.store journal in
    let more = journal-longer limits (b ++ x ∷ []) m in
    let all = ap (entries_after limits) (append_assoc b (x ∷ []) m) in
    omega arith

-- where the one makes no more entries than the other, it is a front of it
later_none : (limits : Limits) (n : ℕ) (a b r s : History) → a ++ r ≡ b ++ s →
    entries_after limits a ≤ entries_after limits b → NoneOf n r → NoneOf n s
later_none limits n a b r s e few none = by (split a b r s e)
  where
    by : ((m : History) × (r ≡ m ++ s)) ⊎ ((x : ℕ × OuterStep) × (m : History) × (a ≡ b ++ x ∷ m)) → NoneOf n s
    by (inl f) = none-back n f.0 s (subst (NoneOf n) f.1 none)
    by (inr g) =
        absurd (let long = one_longer limits b g.0 g.1 in
        let same = ap (entries_after limits) g.2 in omega arith)

none_first : (n : ℕ) (x : ℕ × OuterStep) (rest : History) → NoneOf n (x ∷ rest) → x.0 ≡ n → ⊥
none_first n x rest none e = (let some : x.1 ∷ own n rest ≡ [] = sym (own-here n x rest e) ∙ none in cc)

-- a step that is of neither the shell, the method's reader nor the field's own
quiet_one : (h : History) (shell m n q k : ℕ) (e : Entry) → IsMadeBy h k e → (is_order e ≡ true → k ≡ shell) →
    (k ≡ shell → ⊥) → (k ≡ m → ⊥) → (k ≡ n → ⊥) → reader_of h 1 ≡ Some m → reader_of h q ≡ Some n → IsQuiet q e
quiet_one h shell m n q k (entries.Message p id opcode body) made o s a b first own-is = (
  λ e. b (let same : Some k ≡ Some n = sym made ∙ ap (reader_of h) e ∙ own-is in cc),
  λ e. a (let same : Some k ≡ Some m = sym made ∙ ap (reader_of h) e ∙ first in cc),
)
quiet_one h shell m n q k (entries.Shell step) made o s a b first own-is = s (o refl)
quiet_one h shell m n q k (entries.Join role) made o s a b first own-is = tt
quiet_one h shell m n q k (entries.Tokens p tokens) made o s a b first own-is = tt
quiet_one h shell m n q k (entries.BadSize p head) made o s a b first own-is = tt
quiet_one h shell m n q k (entries.End p cause) made o s a b first own-is = tt
quiet_one h shell m n q k (entries.Took p bytes) made o s a b first own-is = tt

rest_quiet : (h rest : History) (shell m n q : ℕ) → AreMadeBy h rest → OrdersAreOf shell rest → NoneOf shell rest →
    NoneOf m rest → NoneOf n rest → reader_of h 1 ≡ Some m → reader_of h q ≡ Some n →
    AllByRecursion (λ (s : ℕ × OuterStep). IsQuiet q s.1.entry) rest
rest_quiet h [] shell m n q made orders s a b first own-is = tt
rest_quiet h (x ∷ rest) shell m n q made orders s a b first own-is = (
  quiet_one h shell m n q x.0 x.1.entry made.0 orders.0 (none_first shell x rest s) (none_first m x rest a)
      (none_first n x rest b) first own-is,
  rest_quiet h rest shell m n q made.1 orders.1 (none-back shell (x ∷ []) rest s) (none-back m (x ∷ []) rest a)
      (none-back n (x ∷ []) rest b) first own-is,
)

orders_right : (n : ℕ) (a b : History) → OrdersAreOf n (a ++ b) → OrdersAreOf n b
orders_right n [] b h = h
orders_right n (x ∷ a) b h = orders_right n a b h.1

-- ---- the law

field_all : (limits : Limits) (h : History) (typist : TrialTypist) (method : MethodJob) (fields : List FieldJob)
    (shell : ShellJob) (t : IsTrial limits h typist method fields shell) (k : ℕ) (job : FieldJob) →
    slice_get fields k ≡ Some job → (HasEndIn (journal_of limits h) (k + 2) → ⊥) →
    IsAllTold limits (journal_of limits h) (k + 2) (field_log job.log)
field_all limits h typist method fields shell t k job is lives =
    rests (t.rested k job is).rest
  where
    p : ArePassesOf h (k + 2) job.reader job.writer
    p = (t.jobs.field_peers k job is).passes

    done : IsFieldDone limits job
    done = (t.rested k job is).done

    rests : (HasAll limits job.writer (t.rested k job is).done.taken
        × (entries_after limits shell.pass.seen ≤ entries_after limits job.writer.seat.seen)
        × (entries_after limits method.reader.seat.seen ≤ entries_after limits job.writer.seat.seen)
        × (entries_after limits job.reader.seat.seen ≤ entries_after limits job.writer.seat.seen))
        ⊎ IsOver limits job.reader job.writer →
        IsAllTold limits (journal_of limits h) (k + 2) (field_log job.log)
    rests (inr over) = absurd (lives (over_in limits h (k + 2) job.reader job.writer p over))
    rests (inl all) =
        let seen : History = job.writer.seat.seen in
        let rest : History = p.writer_seen.0 in
        let whole : h ≡ seen ++ rest = p.writer_seen.1 in
        let m = t.jobs.method_peer.passes in
        let no_order : NoneOf shell.pass.number rest =
        later_none limits shell.pass.number shell.pass.seen seen t.jobs.shell_seen.0 rest
        (sym t.jobs.shell_seen.1 ∙ whole) all.1 t.jobs.shell_seen.2 in
        let no_method : NoneOf method.reader.seat.number rest =
        later_none limits method.reader.seat.number method.reader.seat.seen seen m.reader_seen.0 rest
        (sym m.reader_seen.1 ∙ whole) all.2 m.reader_seen.2 in
        let no_own : NoneOf job.reader.seat.number rest =
        later_none limits job.reader.seat.number job.reader.seat.seen seen p.reader_seen.0 rest
        (sym p.reader_seen.1 ∙ whole) all.3 p.reader_seen.2 in
        let made : AreMadeBy h rest =
        made-back h seen rest (subst (AreMadeBy h) whole t.jobs.lawful.made_by) in
        let orders : OrdersAreOf shell.pass.number rest =
        orders_right shell.pass.number seen rest (subst (OrdersAreOf shell.pass.number) whole
        (orders_of_shell fields shell.pass.number h (all_known limits h typist method fields shell t.jobs
        (sent_all limits h typist method fields shell t)))) in
        fields_are_all_told limits h (k + 2) job t.jobs.lawful p done all.0
        (rest_quiet h rest shell.pass.number method.reader.seat.number job.reader.seat.number (k + 2) made orders
        no_order no_method no_own m.reads p.reads)
        (others_are_fields limits h typist method fields shell t) (λ e. absurd (omega arith))

no_orders : (n : ℕ) (rest : History) → OrdersAreOf n rest → NoneOf n rest →
    AllByRecursion (λ (s : ℕ × OuterStep). is_order s.1.entry ≡ false) rest
no_orders n [] orders none = tt
no_orders n (x ∷ rest) orders none =
    (one (is_order x.1.entry) refl, no_orders n rest orders.1 (none-back n (x ∷ []) rest none))
  where
    one : (b : Bool) → is_order x.1.entry ≡ b → b ≡ false
    one false e = refl
    one true e = absurd (none_first n x rest none (orders.0 e))

method_keys : (limits : Limits) (h : History) (typist : TrialTypist) (method : MethodJob) (fields : List FieldJob)
    (shell : ShellJob) (t : IsTrial limits h typist method fields shell) →
    orders_of (journal_of limits h) ≡ shell.steps → (HasEndIn (journal_of limits h) 1 → ⊥) →
    HasKeys limits (journal_of limits h) (journal_of limits method.writer.seat.seen) (method_log method.log)
method_keys limits h typist method fields shell t is lives = rests t.method_rested.rest
  where
    j : AreJobs limits h typist method fields shell
    j = t.jobs

    p : ArePassesOf h 1 method.reader method.writer
    p = j.method_peer.passes

    rests : (HasAll limits method.writer t.method_rested.done.taken
        × (entries_after limits shell.pass.seen ≤ entries_after limits method.writer.seat.seen))
        ⊎ IsOver limits method.reader method.writer →
        HasKeys limits (journal_of limits h) (journal_of limits method.writer.seat.seen) (method_log method.log)
    rests (inr over) = absurd (lives (over_in limits h 1 method.reader method.writer p over))
    rests (inl all) =
        let seen : History = method.writer.seat.seen in
        let rest : History = p.writer_seen.0 in
        let whole : h ≡ seen ++ rest = p.writer_seen.1 in
        let none : NoneOf shell.pass.number rest =
        later_none limits shell.pass.number shell.pass.seen seen j.shell_seen.0 rest (sym j.shell_seen.1 ∙ whole) all.1
        j.shell_seen.2 in
        let orders : OrdersAreOf shell.pass.number rest =
        orders_right shell.pass.number seen rest (subst (OrdersAreOf shell.pass.number) whole
        (orders_of_shell fields shell.pass.number h
        (all_known limits h typist method fields shell j (sent_all limits h typist method fields shell t)))) in
        methods_have_keys limits h typist method j.lawful p j.fresh j.short
        (subst (AllByRecursion IsFocusOrKey) (sym is) j.keys) t.method_rested.done all.0
        (no_orders shell.pass.number rest orders none) (others_are_fields limits h typist method fields shell t)

pub trials_are_told : TrialsAreTold
trials_are_told limits h typist method fields shell t =
    let j : AreJobs limits h typist method fields shell = t.jobs in
    let orders : orders_of (journal_of limits h) ≡ shell.steps =
    shell_has_ordered limits h shell.pass shell.steps (Ok tt) j.lawful j.shell_seen
    (orders_of_shell fields shell.pass.number h
    (all_known limits h typist method fields shell j (sent_all limits h typist method fields shell t))) t.ordered-are in
    record {
      orders = orders;
      method_told = methods_have_sent limits h typist method j.lawful j.method_peer.passes j.fresh j.short
          (subst (AllByRecursion IsFocusOrKey) (sym orders) j.keys) t.method_rested.done;
      keys_told = method_keys limits h typist method fields shell t orders;
      fields_told = λ k job is. record {
        told = fields_have_sent limits h (k + 2) job j.lawful (j.field_peers k job is).passes
            (t.rested k job is).done;
        all = field_all limits h typist method fields shell t k job is;
      };
    }

-- ---- however the jobs ended

ordered_front : (journal : List Entry) (steps : List ShellStep) (r : Result (Unit {0}) JobEnd) →
    HasOrdered journal steps r → IsFrontOf (orders_of journal) steps
ordered_front journal steps (Ok done) k = record { rest = []; is = append-nil (orders_of journal) ∙ k }
ordered_front journal steps (Err end) k = k

keys_front : (xs ys : List ShellStep) → AllByRecursion IsFocusOrKey (xs ++ ys) → AllByRecursion IsFocusOrKey xs
keys_front [] ys all = tt
keys_front (x ∷ xs) ys all = (all.0, keys_front xs ys all.1)

pub cut_trials_are_told : CutTrialsAreTold
cut_trials_are_told limits h typist method fields shell t =
    let j : AreJobs limits h typist method fields shell = t.jobs in
    let orders : IsFrontOf (orders_of (journal_of limits h)) shell.steps =
    ordered_front (journal_of limits h) shell.steps t.shell_ends.0
    (shell_has_ordered limits h shell.pass shell.steps t.shell_ends.0 j.lawful j.shell_seen
    (orders_of_shell fields shell.pass.number h
    (all_known limits h typist method fields shell j (sent_cut limits h typist method fields shell t)))
    t.shell_ends.1) in
    record {
      orders = orders;
      method_told = methods_are_told limits h typist method t.method_ends.0 j.lawful j.method_peer.passes j.fresh
          j.short
          (keys_front (orders_of (journal_of limits h)) orders.rest
          (subst (AllByRecursion IsFocusOrKey) (sym orders.is) j.keys)) t.method_ends.1;
      fields_told = λ k job is. (let e = t.field_ends k job is in
          fields_are_told limits h (k + 2) job e.0 j.lawful (j.field_peers k job is).passes e.1);
    }
