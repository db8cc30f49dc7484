-- What the law of a job says of the one journal of a hub, wherever its passes have seen it
use Rattle.std.specs.Prelude.{◌≡◌, false, ℕ, List, Result, Err}
use Rattle.std.specs.List.{AllByRecursion}
use Rattle.broker_steps.specs.declared.limits.Limits.{Limits}
use Rattle.broker_steps.specs.declared.step.ShellStep.{ShellStep}
use Rattle.trial_client_logs.specs.Logs.{field_log}
use Rattle.trial_client_logs.specs.MethodLogs.{method_log}
use Rattle.turn_lock.specs.Pairs.{HasSeen, IsIn}
use Rattle.hub_lock.specs.declared.step.OuterStep.{OuterStep}
use Rattle.hub_lock.specs.Histories.{History}
use Rattle.hub_lock.specs.Lawful.{IsLawful}
use Rattle.hub_lock.specs.Passes.{PassSeat}
use Rattle.hub_calls.specs.Made.{journal_of}
use Rattle.hub_calls.specs.Taken.{HasAll}
use Rattle.hub_calls.specs.Counted.{entries_of_pass, AreOfPasses}
use Rattle.trial_run.specs.declared.typist.TrialTypist.{TrialTypist}
use Rattle.trial_typing.specs.declared.field_job.FieldJob.{FieldJob}
use Rattle.trial_typing.specs.declared.job_end.JobEnd.{JobEnd}
use Rattle.trial_typing.specs.declared.job_end.JobEnd.TheVariants as ends
use Rattle.trial_typing.specs.FieldLaw.{FieldEnds, IsFieldDone}
use Rattle.trial_typing.specs.ShellLaw.{Orders}
use Rattle.trial_jobs.specs.declared.method_job.MethodJob.{MethodJob}
use Rattle.trial_jobs.specs.MethodHearing.{HasShort}
use Rattle.trial_jobs.specs.MethodLaw.{IsFresh, MethodEnds, IsMethodDone}
use Rattle.trial_job_laws.specs.Passes.{ArePassesOf}
use Rattle.trial_job_laws.specs.FieldTold.{IsFieldTold, IsFieldToldAndSent, IsQuiet, OthersAreFields, IsAllTold}
use Rattle.trial_job_laws.specs.MethodTold.{IsMethodTold, IsMethodToldAndSent, HasKeys}
use Rattle.trial_job_laws.specs.ShellTold.{is_order, OrdersAreOf, HaveNoOrder, HasOrdered, IsFocusOrKey, orders_of, HasKeymap}

-- ---- fields

-- of a field's job, however it ended
abbrev pub FieldsAreTold : Type 0
FieldsAreTold =
    (limits : Limits) (h : History) (q : ℕ) (job : FieldJob) (r : Result (Unit {0}) JobEnd) →
    IsLawful limits h → ArePassesOf h q job.reader job.writer → FieldEnds limits job r →
    IsFieldTold limits (journal_of limits h) q (field_log job.log)

-- and of one that was done
abbrev pub FieldsHaveSent : Type 0
FieldsHaveSent =
    (limits : Limits) (h : History) (q : ℕ) (job : FieldJob) → IsLawful limits h →
    ArePassesOf h q job.reader job.writer → IsFieldDone limits job →
    IsFieldToldAndSent limits (journal_of limits h) q (field_log job.log)

-- Where it was done, its writer took all that was put as far as it has seen, each later step is of
-- another field or a take or a join, and each peer but the first is a field's, its log has all that
-- the journal tells the field.
abbrev pub FieldsAreAllTold : Type 0
FieldsAreAllTold =
    (limits : Limits) (h : History) (q : ℕ) (job : FieldJob) → IsLawful limits h →
    (passes : ArePassesOf h q job.reader job.writer) → (done : IsFieldDone limits job) →
    HasAll limits job.writer done.taken →
    AllByRecursion (λ (s : ℕ × OuterStep). IsQuiet q s.1.entry) passes.writer_seen.0 →
    OthersAreFields (journal_of limits h) → (q ≡ 1 → ⊥) →
    IsAllTold limits (journal_of limits h) q (field_log job.log)

-- ---- the method

-- of the method's job, however it ended, where its typist was fresh, its user's batches fit
-- messages, and the shell said no more than keys and where the focus is
abbrev pub MethodsAreTold : Type 0
MethodsAreTold =
    (limits : Limits) (h : History) (typist : TrialTypist) (job : MethodJob)
    (r : Result (Unit {0}) JobEnd) → IsLawful limits h → ArePassesOf h 1 job.reader job.writer →
    IsFresh typist → HasShort (method_log job.log) →
    AllByRecursion IsFocusOrKey (orders_of (journal_of limits h)) →
    MethodEnds limits typist job r →
    IsMethodTold limits (journal_of limits h) typist (method_log job.log)

-- and of one that was done
abbrev pub MethodsHaveSent : Type 0
MethodsHaveSent =
    (limits : Limits) (h : History) (typist : TrialTypist) (job : MethodJob) → IsLawful limits h →
    ArePassesOf h 1 job.reader job.writer → IsFresh typist → HasShort (method_log job.log) →
    AllByRecursion IsFocusOrKey (orders_of (journal_of limits h)) →
    IsMethodDone limits typist job →
    IsMethodToldAndSent limits (journal_of limits h) typist (method_log job.log)

-- Where it was done, its writer took all that was put as far as it has seen, no later step is an
-- order, and each other peer is a field's, its log has each key that the journal tells its peer,
-- and all events up to the last take.
abbrev pub MethodsHaveKeys : Type 0
MethodsHaveKeys =
    (limits : Limits) (h : History) (typist : TrialTypist) (job : MethodJob) → IsLawful limits h →
    (passes : ArePassesOf h 1 job.reader job.writer) → IsFresh typist →
    HasShort (method_log job.log) →
    AllByRecursion IsFocusOrKey (orders_of (journal_of limits h)) →
    (done : IsMethodDone limits typist job) → HasAll limits job.writer done.taken →
    AllByRecursion (λ (s : ℕ × OuterStep). is_order s.1.entry ≡ false) passes.writer_seen.0 →
    OthersAreFields (journal_of limits h) →
    HasKeys limits (journal_of limits h) (journal_of limits job.writer.seat.seen)
    (method_log job.log)

-- Whatever the shell said: it ends by a bad event only where its writer's pass has seen a keymap,
-- for which a client that is given no tokens has no event.
abbrev pub MethodsFailAtKeymaps : Type 0
MethodsFailAtKeymaps =
    (limits : Limits) (h : History) (typist : TrialTypist) (job : MethodJob) → IsLawful limits h →
    ArePassesOf h 1 job.reader job.writer → IsFresh typist → HasShort (method_log job.log) →
    MethodEnds limits typist job (Err ends.BadEvent) →
    HasKeymap (journal_of limits job.writer.seat.seen)

-- ---- the shell

-- where each order in the history is of its pass, the journal's orders are those of the job
abbrev pub ShellHasOrdered : Type 0
ShellHasOrdered =
    (limits : Limits) (h : History) (pass : PassSeat) (steps : List ShellStep)
    (r : Result (Unit {0}) JobEnd) → IsLawful limits h → HasSeen h pass.number pass.seen →
    OrdersAreOf pass.number h → Orders limits pass steps r →
    HasOrdered (journal_of limits h) steps r

-- it is so where each step is of one of these passes, and none of them but the pass n made an order
abbrev pub OnlyShellOrders : Type 0
OnlyShellOrders =
    (ns : List ℕ) (h : History) (n : ℕ) → AreOfPasses ns h →
    ((m : ℕ) → IsIn m ns → (m ≡ n → ⊥) → HaveNoOrder (entries_of_pass m h)) → OrdersAreOf n h
