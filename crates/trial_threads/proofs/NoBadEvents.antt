-- No job of a trial ends by a bad event
use Rattle.std.proofs.Common.{◌≡◌, ℕ, zero, suc, ◌+◌, true, false, List, [], ◌∷◌, ◌++◌, map, Bool, Result, Ok, Err, refl, sym, subst, inl, inr}
use Rattle.std.specs.Prelude.{◌⊎◌}
use Rattle.std.specs.List.{AllByRecursion}
use Rattle.broker_steps.specs.declared.limits.Limits.{Limits}
use Rattle.broker_steps.specs.declared.step.ShellStep.{ShellStep}
use Rattle.broker_steps.specs.declared.step.ShellStep.TheVariants as shells
use Rattle.broker_model.specs.declared.journal.Entry.{Entry}
use Rattle.broker_model.specs.declared.journal.Entry.TheVariants as entries
use Rattle.trial_client_logs.specs.Logs.{batch_of, field_log}
use Rattle.trial_client_logs.specs.MethodLogs.{method_log}
use Rattle.client_side.specs.FieldLog.{sends_of}
use Rattle.client_side.specs.Messages.{Sent, spelled, field_setup}
use Rattle.trial_script.specs.declared.action.Action.{Action}
use Rattle.trial_script.specs.Grammar.{IsAction}
use Rattle.turn_lock.specs.Pairs.{IsIn}
use Rattle.hub_lock.specs.declared.step.OuterStep.{OuterStep}
use Rattle.hub_lock.specs.Histories.{History}
use Rattle.hub_lock.specs.Lawful.{IsLawful}
use Rattle.hub_lock.specs.Passes.{HubId, PassSeat, PeerPass}
use Rattle.hub_calls.specs.Counted.{entries_of_pass, AreOfPasses, is_join}
use Rattle.hub_calls.specs.Made.{entries_by}
use Rattle.hub_calls.specs.Submitted.{message_entry}
use Rattle.hub_calls.proofs.PassesCounted.{steps_stay}
use Rattle.wl_wire.specs.Messages.{messages}
use Rattle.trial_run.specs.declared.typist.TrialTypist.{TrialTypist}
use Rattle.trial_job_laws.specs.TypedLogs.{requests_of}
use Rattle.trial_typing.specs.declared.job_end.JobEnd.{JobEnd}
use Rattle.trial_typing.specs.declared.job_end.JobEnd.TheVariants as ends
use Rattle.trial_typing.specs.Ends.{done_of}
use Rattle.trial_typing.specs.Sending.{HasSentFront}
use Rattle.trial_typing.specs.ShellLaw.{ordered, Orders}
use Rattle.trial_jobs.specs.declared.job.TrialJob.{TrialJob}
use Rattle.trial_jobs.specs.declared.job.TrialJob.TheVariants as jobs
use Rattle.trial_jobs.specs.declared.method_job.MethodJob.{MethodJob}
use Rattle.trial_jobs.specs.MethodLaw.{IsFresh, MethodEnds}
use Rattle.trial_job_laws.specs.Passes.{ArePassesOf}
use Rattle.trial_job_laws.specs.ShellTold.{IsFocusOrKey, is_keymap}
use Rattle.trial_job_laws.proofs.BadEvents.{no_keymap_seen, methods_fail_at_keymaps}
use Rattle.trial_job_laws.proofs.FieldTold as fields
use Rattle.trial_job_laws.proofs.MethodTold as methods
use Rattle.trial_job_laws.proofs.TrialTold.{each_step}
use Rattle.trial_threads.specs.declared.running.Running.{Running}
use Rattle.trial_threads.specs.declared.trial.ThreadTrial.{ThreadTrial}
use Rattle.trial_threads.specs.Users.{Part, of_field, of_method, of_shell, orders_in, fields_from, parts_of}
use Rattle.trial_threads.specs.Jobs.{part_of, parts_in, HasEnd, HasRun}
use Rattle.trial_threads.specs.Back.{numbers_of, numbers_after, numbers_in}
use Rattle.trial_threads.specs.Peers.{IsPeer, PeerOf, ArePeers}
use Rattle.trial_threads.specs.Whole.{IsSeenBy, ArePasses, IsTrial}
use Rattle.trial_threads.proofs.JoinsOfJobs.{only_joins}
use Rattle.trial_threads.proofs.ScriptFits.{FitsBatch, all_fit, committed_front, short_by, orders_fit}

-- ---- users

-- a user that isn't the method's: the shell moves the focus and says keys
abbrev pub IsOther : Part → Type 0
IsOther (of_field edits) = Unit {0}
IsOther (of_method batches) = ⊥
IsOther (of_shell steps) = AllByRecursion IsFocusOrKey steps

-- the first is the method's, whose batches fit messages, and the others are such
abbrev pub AreUsers : List Part → Type 0
AreUsers [] = Unit {0}
AreUsers (of_method batches ∷ parts) = AllByRecursion FitsBatch (map batch_of batches) × AllByRecursion IsOther parts
AreUsers (of_field edits ∷ parts) = ⊥
AreUsers (of_shell steps ∷ parts) = ⊥

fields_then : (n number : ℕ) (all : List Action) (steps : List ShellStep) → AllByRecursion IsFocusOrKey steps →
    AllByRecursion IsOther (fields_from n number all ++ of_shell steps ∷ [])
fields_then n zero all steps h = (h, tt)
fields_then n (suc number) all steps h = (tt, fields_then (n + 1) number all steps h)

pub users_are : (number time : ℕ) (all : List Action) → AllByRecursion IsAction all →
    AreUsers (parts_of number time all)
users_are number time all each =
    (all_fit all each, fields_then 1 number all (orders_in time all) (orders_fit time all))

others_front : (xs ys : List Part) → AllByRecursion IsOther (xs ++ ys) → AllByRecursion IsOther xs
others_front [] ys h = tt
others_front (x ∷ xs) ys h = (h.0, others_front xs ys h.1)

pub users_front : (xs ys : List Part) → AreUsers (xs ++ ys) → AreUsers xs
users_front [] ys h = tt
users_front (of_method batches ∷ xs) ys h = (h.0, others_front xs ys h.1)
users_front (of_field edits ∷ xs) ys h = h
users_front (of_shell steps ∷ xs) ys h = h

-- ---- the steps of a pass

-- none of them is a keymap
abbrev AreCalm : List Entry → Type 0
AreCalm es = AllByRecursion (λ (e : Entry). is_keymap e ≡ false) es

abbrev IsCalm : History → ℕ → Type 0
IsCalm h n = AreCalm (entries_of_pass n h)

calm_front : (xs ys : List Entry) → AreCalm (xs ++ ys) → AreCalm xs
calm_front [] ys h = tt
calm_front (x ∷ xs) ys h = (h.0, calm_front xs ys h.1)

joins_calm : (es : List Entry) → AllByRecursion (λ (e : Entry). is_join e ≡ true) es → AreCalm es
joins_calm [] h = tt
joins_calm (entries.Join role ∷ es) h = (refl, joins_calm es h.1)
joins_calm (entries.Message q id opcode body ∷ es) h = (refl, joins_calm es h.1)
joins_calm (entries.Tokens q tokens ∷ es) h = (refl, joins_calm es h.1)
joins_calm (entries.BadSize q head ∷ es) h = (refl, joins_calm es h.1)
joins_calm (entries.End q cause ∷ es) h = (refl, joins_calm es h.1)
joins_calm (entries.Shell step ∷ es) h = absurd (let no : false ≡ true = h.0 in cc)
joins_calm (entries.Took q bytes ∷ es) h = (refl, joins_calm es h.1)

takes_calm : (q : ℕ) (counts : List ℕ) → AreCalm (map (λ (n : ℕ). entries.Took q n) counts)
takes_calm q [] = tt
takes_calm q (n ∷ counts) = (refl, takes_calm q counts)

messages_calm : (q : ℕ) (ms : List (List ℕ)) → AreCalm (map (message_entry q) ms)
messages_calm q [] = tt
messages_calm q (m ∷ ms) = (refl, messages_calm q ms)

step_calm : (step : ShellStep) → IsFocusOrKey step → is_keymap (entries.Shell step) ≡ false
step_calm (shells.Focus q id) h = refl
step_calm shells.Unfocus h = refl
step_calm (shells.Key time key state) h = refl
step_calm (shells.Area q id rect) h = refl
step_calm (shells.Screen size) h = refl
step_calm (shells.Mods mods) h = refl
step_calm (shells.Keymap keymap) h = absurd h
step_calm (shells.Repeat repeat) h = refl
step_calm (shells.At moment) h = refl

ordered_calm : (steps : List ShellStep) → AllByRecursion IsFocusOrKey steps → AreCalm (ordered steps)
ordered_calm [] h = tt
ordered_calm (s ∷ steps) h = (step_calm s h.0, ordered_calm steps h.1)

made_calm : (limits : Limits) (pass : PassSeat) (steps : List ShellStep) (r : Result (Unit {0}) JobEnd) →
    AllByRecursion IsFocusOrKey steps → Orders limits pass steps r → AreCalm (entries_by pass)
made_calm limits pass steps (Ok done) h k = subst AreCalm (sym k) (ordered_calm steps h)
made_calm limits pass steps (Err (ends.JournalFull kept)) h k =
    calm_front (entries_by pass) (ordered (k.next ∷ k.later)) (subst AreCalm k.orders (ordered_calm steps h))
made_calm limits pass steps (Err ends.BadEvent) h k = absurd k
made_calm limits pass steps (Err ends.NoMemory) h k =
    calm_front (entries_by pass) k.rest (subst AreCalm k.is (ordered_calm steps h))

pass_calm : (h : History) (pass : PassSeat) → IsSeenBy h pass → AreCalm (entries_by pass) → IsCalm h pass.number
pass_calm h pass seen calm = subst AreCalm (sym (steps_stay pass h seen)) calm

-- ---- the passes of a job

peer_calm : (h : History) (q : ℕ) (reader writer : PeerPass) (ss : List Sent) → IsPeer h q reader writer →
    IsSeenBy h reader.seat → IsSeenBy h writer.seat → HasSentFront reader ss → (n : ℕ) →
    IsIn n (writer.seat.number ∷ reader.seat.number ∷ []) → IsCalm h n
peer_calm h q reader writer ss p reads writes sent n (inl e) =
    subst (IsCalm h) e (pass_calm h writer.seat writes (subst AreCalm (sym p.takes.1) (takes_calm q p.takes.0)))
peer_calm h q reader writer ss p reads writes sent n (inr (inl e)) =
    subst (IsCalm h) e (pass_calm h reader.seat reads
    (calm_front (entries_by reader.seat) sent.rest
    (subst AreCalm sent.is (messages_calm reader.peer (messages (spelled ss))))))
peer_calm h q reader writer ss p reads writes sent n (inr (inr i)) = absurd i

shell_calm : (h : History) (pass : PassSeat) → IsSeenBy h pass → AreCalm (entries_by pass) → (n : ℕ) →
    IsIn n (pass.number ∷ []) → IsCalm h n
shell_calm h pass seen calm n (inl e) = subst (IsCalm h) e (pass_calm h pass seen calm)
shell_calm h pass seen calm n (inr i) = absurd i

-- the method's user, or another
abbrev IsUser : Part → Type 0
IsUser (of_field edits) = Unit {0}
IsUser (of_method batches) = Unit {0}
IsUser (of_shell steps) = AllByRecursion IsFocusOrKey steps

job_calm : (limits : Limits) (typist : TrialTypist) (h : History) (q : ℕ) (job : TrialJob) (r : Result Bool JobEnd) →
    HasEnd limits typist job r → ArePasses h job → PeerOf h q job → IsUser (part_of job) → (n : ℕ) →
    IsIn n (numbers_of job) → IsCalm h n
job_calm limits typist h q (jobs.Field job) r k seen peer user n i =
    peer_calm h q job.reader job.writer (field_setup ++ sends_of (field_log job.log)) peer seen.0 seen.1
    (fields.sent_by limits job (done_of r) k) n i
job_calm limits typist h q (jobs.Method job) r k seen peer user n i =
    peer_calm h q job.reader job.writer (requests_of typist (method_log job.log)) peer seen.0 seen.1
    (methods.sent_by limits typist job (done_of r) k) n i
job_calm limits typist h q (jobs.Shell job) r k seen peer user n i =
    shell_calm h job.pass seen (made_calm limits job.pass job.steps (done_of r) user k) n i

-- ---- all passes

other_user : (part : Part) → IsOther part → IsUser part
other_user (of_field edits) o = tt
other_user (of_method batches) o = tt
other_user (of_shell steps) o = o

others_users : (parts : List Part) → AllByRecursion IsOther parts → AllByRecursion IsUser parts
others_users [] h = tt
others_users (part ∷ parts) h = (other_user part h.0, others_users parts h.1)

are_users : (parts : List Part) → AreUsers parts → AllByRecursion IsUser parts
are_users [] h = tt
are_users (of_method batches ∷ parts) h = (tt, others_users parts h.1)
are_users (of_field edits ∷ parts) h = absurd h
are_users (of_shell steps ∷ parts) h = absurd h

in_either : (n : ℕ) (xs ys : List ℕ) → IsIn n (xs ++ ys) → IsIn n xs ⊎ IsIn n ys
in_either n [] ys i = inr i
in_either n (x ∷ xs) ys (inl e) = inl (inl e)
in_either n (x ∷ xs) ys (inr i) = more (in_either n xs ys i)
  where
    more : IsIn n xs ⊎ IsIn n ys → IsIn n (x ∷ xs) ⊎ IsIn n ys
    more (inl j) = inl (inr j)
    more (inr j) = inr j

numbers_calm : (hub : HubId) (typist : TrialTypist) (h : History) (q : ℕ) (ns : List ℕ) (rs : List Running) →
    AllByRecursion (HasRun hub typist) rs → AllByRecursion (λ (r : Running). ArePasses h r.job) rs → ArePeers h q rs →
    AllByRecursion IsUser (parts_in rs) → ((n : ℕ) → IsIn n ns → IsCalm h n) → (n : ℕ) →
    IsIn n (numbers_after ns rs) → IsCalm h n
numbers_calm hub typist h q ns [] run seen peers users base = base
numbers_calm hub typist h q ns (r ∷ rs) run seen peers users base =
    numbers_calm hub typist h (q + 1) (numbers_of r.job ++ ns) rs run.1 seen.1 peers.1 users.1
    (λ n i. by n (in_either n (numbers_of r.job) ns i))
  where
    by : (n : ℕ) → IsIn n (numbers_of r.job) ⊎ IsIn n ns → IsCalm h n
    by n (inl i) = job_calm hub.limits typist h q r.job r.ended run.0.ends seen.0 peers.0 users.0 n i
    by n (inr i) = base n i

each_of_passes : (ns : List ℕ) (h : History) → AreOfPasses ns h → AllByRecursion (λ (s : ℕ × OuterStep). IsIn s.0 ns) h
each_of_passes ns [] of = tt
each_of_passes ns (s ∷ h) of = (of.0, each_of_passes ns h of.1)

-- ---- a job that ended

-- no field's job, and not the shell's
other_ends : (limits : Limits) (typist : TrialTypist) (job : TrialJob) → IsOther (part_of job) →
    HasEnd limits typist job (Err ends.BadEvent) → ⊥
other_ends limits typist (jobs.Field job) o k = k
other_ends limits typist (jobs.Method job) o k = o
other_ends limits typist (jobs.Shell job) o k = k

passes_of : (h : History) (q : ℕ) (reader writer : PeerPass) → IsPeer h q reader writer → IsSeenBy h reader.seat →
    IsSeenBy h writer.seat → ArePassesOf h q reader writer
passes_of h q reader writer p r w = record {
  reads_for = p.reads_for;
  writes_for = p.writes_for;
  reads = p.reads;
  writes = p.writes;
  reader_seen = r;
  writer_seen = w;
}

-- nor the method's, where no step is a keymap
module _ (limits : Limits) (typist : TrialTypist) (h : History) (lawful : IsLawful limits h) (fresh : IsFresh typist)
    (calm : AllByRecursion (λ (s : ℕ × OuterStep). is_keymap s.1.entry ≡ false) h) where
  method_ends : (job : MethodJob) → ArePasses h (jobs.Method job) → IsPeer h 1 job.reader job.writer →
      AllByRecursion FitsBatch (map batch_of job.batches) → MethodEnds limits typist job (Err ends.BadEvent) → ⊥
  method_ends job seen peer fits k =
      no_keymap_seen limits h job.writer.seat.number job.writer.seat.seen seen.1 calm
      (methods_fail_at_keymaps limits h typist job lawful
      (passes_of h 1 job.reader job.writer peer seen.0 seen.1) fresh
      (short_by job fits (committed_front limits typist job (Err ends.BadEvent) k)) k)

  first_ends : (job : TrialJob) (parts : List Part) → AreUsers (part_of job ∷ parts) → ArePasses h job →
      PeerOf h 1 job → HasEnd limits typist job (Err ends.BadEvent) → ⊥
  first_ends (jobs.Field job) parts users seen peer k = k
  first_ends (jobs.Method job) parts users seen peer k = method_ends job seen peer users.0 k
  first_ends (jobs.Shell job) parts users seen peer k = k

others_end : (hub : HubId) (typist : TrialTypist) (rs : List Running) → AllByRecursion IsOther (parts_in rs) →
    AllByRecursion (HasRun hub typist) rs → AllByRecursion (λ (r : Running). r.ended ≡ Err ends.BadEvent → ⊥) rs
others_end hub typist [] o run = tt
others_end hub typist (r ∷ rs) o run = (
  λ e. other_ends hub.limits typist r.job o.0 (subst (HasEnd hub.limits typist r.job) e run.0.ends),
  others_end hub typist rs o.1 run.1,
)

others_are : (part : Part) (parts : List Part) → AreUsers (part ∷ parts) → AllByRecursion IsOther parts
others_are (of_method batches) parts users = users.1
others_are (of_field edits) parts users = absurd users
others_are (of_shell steps) parts users = absurd users

-- ---- the trial

pub none_heard_bad : (hub : HubId) (typist : TrialTypist) (h : History) (rs : List Running) → IsFresh typist →
    AreUsers (parts_in rs) → AllByRecursion (HasRun hub typist) rs →
    AllByRecursion (λ (r : Running). ArePasses h r.job) rs → IsLawful hub.limits h → ArePeers h 1 rs →
    AllByRecursion (λ (e : Entry). is_join e ≡ true) (entries_of_pass 0 h) → AreOfPasses (0 ∷ numbers_in rs) h →
    AllByRecursion (λ (r : Running). r.ended ≡ Err ends.BadEvent → ⊥) rs
none_heard_bad hub typist h [] fresh users run seen lawful peers joins passes = tt
none_heard_bad hub typist h (r ∷ rs) fresh users run seen lawful peers joins passes = (
  λ e. first_ends hub.limits typist h lawful fresh calm r.job (parts_in rs) users seen.0 peers.0
      (subst (HasEnd hub.limits typist r.job) e run.0.ends),
  others_end hub typist rs (others_are (part_of r.job) (parts_in rs) users) run.1,
)
  where
    by : (n : ℕ) → IsIn n (0 ∷ numbers_in (r ∷ rs)) → IsCalm h n
    by n (inl e) = subst (IsCalm h) e (joins_calm (entries_of_pass 0 h) joins)
    by n (inr i) =
        numbers_calm hub typist h 1 [] (r ∷ rs) run seen peers (are_users (parts_in (r ∷ rs)) users)
        (λ m j. absurd j) n i

    calm : AllByRecursion (λ (s : ℕ × OuterStep). is_keymap s.1.entry ≡ false) h
    calm = each_step (λ n e. is_keymap e ≡ false) (λ n. IsIn n (0 ∷ numbers_in (r ∷ rs))) h by
        (each_of_passes (0 ∷ numbers_in (r ∷ rs)) h passes)

-- of a script's users
pub trials_hear_no_bad_event : (typist : TrialTypist) (number time : ℕ) (all : List Action) (t : ThreadTrial) →
    IsFresh typist → AllByRecursion IsAction all → (trial : IsTrial typist (parts_of number time all) t) →
    AllByRecursion (λ (r : Running). r.ended ≡ Err ends.BadEvent → ⊥) trial.jobs
trials_hear_no_bad_event typist number time all t fresh each trial =
    none_heard_bad trial.hub typist trial.h trial.jobs fresh
    (subst AreUsers (sym trial.users) (users_are number time all each))
    trial.run trial.seen trial.lawful trial.peers
    (only_joins (entries_of_pass 0 trial.h) trial.jobs trial.root) trial.passes
