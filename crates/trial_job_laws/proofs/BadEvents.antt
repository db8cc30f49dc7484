-- A method's job ends by a bad event only where its writer has seen a keymap
use Rattle.std.proofs.Common.{◌≡◌, ℕ, ◌+◌, ◌≤◌, Bool, true, false, List, [], ◌∷◌, ◌++◌, length, drop, Option, Some, None, refl, sym, ap, subst, ◌∙◌, inl, inr, arith, append-nil, append_assoc, length-append}
use Rattle.std.specs.Prelude.{◌||◌}
use Rattle.std.specs.List.{AllByRecursion, list_any}
use Rattle.std.proofs.lemmas.Bool.{or_parts, true≢false}
use Rattle.std.proofs.lemmas.List.{take-append-drop}
use Rattle.broker_steps.specs.declared.limits.Limits.{Limits}
use Rattle.broker_steps.specs.declared.step.ShellStep.{ShellStep}
use Rattle.broker_steps.specs.declared.step.ShellStep.TheVariants as shells
use Rattle.wl_wire.specs.Messages.{messages, joined}
use Rattle.wl_proto.specs.declared.event.Event.{Event}
use Rattle.client_side.specs.Client.{IsWrong}
use Rattle.client_side.specs.Events.{method_objects}
use Rattle.client_side.specs.Messages.{Sent}
use Rattle.trial_client_logs.specs.MethodLogs.{method_log}
use Rattle.relay_model.specs.declared.act.Act.{Act}
use Rattle.broker_model.specs.declared.journal.Entry.{Entry}
use Rattle.broker_model.specs.declared.journal.Entry.TheVariants as entries
use Rattle.broker_model.specs.Ids.{Joined, peer_at}
use Rattle.broker_model.specs.Out.{act_at, out_for}
use Rattle.broker_model.specs.Resolve.{on_surface, past_of, resolve, surface_at}
use Rattle.broker_model.specs.Settle.{history}
use Rattle.broker_telling.proofs.MessagesPut.{ArePut}
use Rattle.turn_lock.specs.Pairs.{HasSeen}
use Rattle.hub_lock.specs.declared.step.OuterStep.{OuterStep}
use Rattle.hub_lock.specs.Histories.{History, entries_of}
use Rattle.hub_lock.specs.Lawful.{IsLawful}
use Rattle.hub_calls.specs.Made.{journal_of}
use Rattle.hub_calls.specs.Taken.{HasTaken}
use Rattle.hub_calls.proofs.OthersTakeNothing.{entries-append}
use Rattle.trial_run.specs.declared.typist.TrialTypist.{TrialTypist}
use Rattle.trial_run.proofs.FirstMessages.{first_is, found_first}
use Rattle.trial_run.proofs.FrontOfBytes.{bad_is}
use Rattle.trial_laws.specs.RelayedBatches.{IsFrontOf}
use Rattle.trial_laws.proofs.BatchesRelayed.{messages_joined}
use Rattle.trial_laws.proofs.HeardInPieces.{bad_on}
use Rattle.trial_laws.specs.TypedLogs.{requests_of, steps_by, steps_of}
use Rattle.trial_laws.proofs.MethodIds.{AreKnown, requests_safe, known_steps, all_known}
use Rattle.trial_laws.proofs.NoKeymaps.{IsPlainAct}
use Rattle.trial_laws.proofs.NoKeymaps as keymaps
use Rattle.trial_typing.specs.Fronts.{BeginsWith}
use Rattle.trial_typing.specs.Sending.{HasSentFront}
use Rattle.trial_jobs.specs.declared.method_job.MethodJob.{MethodJob}
use Rattle.trial_jobs.specs.MethodHearing.{HasShort}
use Rattle.trial_jobs.specs.MethodLaw.{IsFresh}
use Rattle.trial_jobs.proofs.RequestsShort.{requests_short}
use Rattle.trial_job_laws.specs.Passes.{ArePassesOf}
use Rattle.trial_job_laws.specs.ShellTold.{is_keymap, HasKeymap}
use Rattle.trial_job_laws.specs.JobLaws.{MethodsFailAtKeymaps}
use Rattle.trial_job_laws.proofs.EventsRead.{are_messages}
use Rattle.trial_job_laws.proofs.FieldAll.{IsNewer, newer_steps, entries_each, each_right}
use Rattle.trial_job_laws.proofs.JournalsHeld.{each_entry, lawful_held}
use Rattle.trial_job_laws.proofs.MethodTold.{few_entries}
use Rattle.trial_job_laws.proofs.PutHeard.{IsEventful, eventful_whole}
use Rattle.trial_job_laws.proofs.PutSilent.{joined_later}
use Rattle.trial_job_laws.proofs.PutSpelled.{IsHeldWith, held_base, put_eventful}
use Rattle.trial_job_laws.proofs.RequestsInOrder.{front_sent}

-- ---- where the shell gave no keymap, no act is one

surface_plain : (o : Option ℕ) (f : ℕ → Act) → ((s : ℕ) → IsPlainAct (f s)) → IsPlainAct (on_surface o f)
surface_plain None f h = refl
surface_plain (Some s) f h = h s

shell_plain : (step : ShellStep) (older : List Entry) → is_keymap (entries.Shell step) ≡ false →
    IsPlainAct (act_at (entries.Shell step) older)
shell_plain (shells.Focus q id) older h = keymaps.act_plain (entries.Shell (shells.Focus q id)) older tt
shell_plain shells.Unfocus older h = refl
shell_plain (shells.Area q id rect) older h =
    surface_plain (surface_at (past_of older) (peer_at (past_of older) q) id) _ (λ s. refl)
shell_plain (shells.Screen size) older h = refl
shell_plain (shells.Key time key state) older h = refl
shell_plain (shells.Mods mods) older h = refl
shell_plain (shells.Keymap keymap) older h = cc
shell_plain (shells.Repeat repeat) older h = refl
shell_plain (shells.At moment) older h = refl

entry_plain : (e : Entry) (older : List Entry) → is_keymap e ≡ false → IsPlainAct (act_at e older)
entry_plain (entries.Shell step) older h = shell_plain step older h
entry_plain (entries.Join role) older h = keymaps.act_plain (entries.Join role) older tt
entry_plain (entries.Message q id opcode body) older h =
    keymaps.act_plain (entries.Message q id opcode body) older tt
entry_plain (entries.Tokens q tokens) older h = keymaps.act_plain (entries.Tokens q tokens) older tt
entry_plain (entries.BadSize q head) older h = keymaps.act_plain (entries.BadSize q head) older tt
entry_plain (entries.End q why) older h = keymaps.act_plain (entries.End q why) older tt
entry_plain (entries.Took q bytes) older h = keymaps.act_plain (entries.Took q bytes) older tt

acts_plain : (journal : List Entry) → list_any is_keymap journal ≡ false → AllByRecursion IsPlainAct (resolve journal)
acts_plain [] h = tt
acts_plain (e ∷ older) h =
    let parts = or_parts (is_keymap e) (list_any is_keymap older) h in
    (entry_plain e older parts.0, acts_plain older parts.1)

-- ---- what was put never goes wrong

-- nothing that goes wrong has no bytes
wrong_long : (rest : List ℕ) → IsWrong method_objects rest → 1 ≤ length rest
wrong_long rest (inl bad) = (let long = bad.0 in omega arith)
wrong_long rest (inr w) =
    let all = ap length w.2 in
    let parts = length-append w.0 w.1 in
    let size = w.3.1 in
    let good = w.3.0.0 in
    omega arith

-- the bytes are messages with events, and begin with these
none_wrong : (ms : List (List ℕ)) (bytes more : List ℕ) (es : List Event) →
    AllByRecursion (IsEventful method_objects) ms → bytes ++ more ≡ joined ms →
    (b : BeginsWith method_objects bytes es) → IsWrong method_objects b.rest → ⊥
none_wrong ms bytes more es each is b = by
  where
    parts : joined ms ≡ joined b.messages ++ (b.rest ++ more)
    parts = sym is ∙ ap (λ (l : List ℕ). l ++ more) b.front ∙ append_assoc (joined b.messages) b.rest more

    found : ms ≡ b.messages ++ messages (b.rest ++ more)
    found = sym (messages_joined ms (eventful_whole method_objects ms each)) ∙ ap messages parts
        ∙ found_first b.messages (b.rest ++ more) (are_messages method_objects b.messages es b.are)

    behind : AllByRecursion (IsEventful method_objects) (messages (b.rest ++ more))
    behind =
        each_right (IsEventful method_objects) b.messages (messages (b.rest ++ more))
        (subst (AllByRecursion (IsEventful method_objects)) found each)

    by : IsWrong method_objects b.rest → ⊥
    by (inl bad) =
        let none : ms ≡ b.messages =
        found ∙ ap (λ (l : List (List ℕ)). b.messages ++ l) (bad_on b.rest more (bad_is b.rest bad))
        ∙ append-nil b.messages in
        let same = ap (λ (l : List (List ℕ)). length (joined l)) none in
        let all = ap length parts in
        let both = length-append (joined b.messages) (b.rest ++ more) in
        let rest = length-append b.rest more in
        let long = bad.0 in
        omega arith
    by (inr w) =
        let first : AllByRecursion (IsEventful method_objects) (w.0 ∷ messages (w.1 ++ more)) =
        subst (AllByRecursion (IsEventful method_objects))
        (ap messages (ap (λ (l : List ℕ). l ++ more) w.2 ∙ append_assoc w.0 w.1 more)
        ∙ first_is w.0 (w.1 ++ more) w.3) behind in
        w.4 first.0.event first.0.is

-- ---- the law

-- the journal of the whole history begins with that of what the writer has seen
record Grown (limits : Limits) (h : History) (job : MethodJob) : Type 0 where
  newer : List Entry
  is : journal_of limits h ≡ newer ++ journal_of limits job.writer.seat.seen

each_unit : (h : History) → AllByRecursion (λ (x : ℕ × OuterStep). Unit {0}) h
each_unit [] = tt
each_unit (x ∷ h) = (tt, each_unit h)

grown : (limits : Limits) (h : History) (job : MethodJob) → ArePassesOf h 1 job.reader job.writer → Grown limits h job
grown limits h job p =
    let seen : History = job.writer.seat.seen in
    let rest : History = p.writer_seen.0 in
    let n : IsNewer (λ (e : Entry). Unit {0}) (journal_of limits seen)
    (history limits.store (entries_of rest ++ entries_of seen)) =
    newer_steps (λ (e : Entry). Unit {0}) (λ q cause. tt) limits.store (entries_of rest) (entries_of seen)
    (entries_each (λ (e : Entry). Unit {0}) rest (each_unit rest)) in
    record {
      newer = n.newer;
      is = ap (journal_of limits) p.writer_seen.1 ∙ ap (history limits.store) (entries-append seen rest) ∙ n.is;
    }

module _ (limits : Limits) (h : History) (typist : TrialTypist) (job : MethodJob) (lawful : IsLawful limits h)
    (p : ArePassesOf h 1 job.reader job.writer) (fresh : IsFresh typist) (short : HasShort (method_log job.log))
    (sent : HasSentFront job.reader (requests_of typist (method_log job.log))) where
  abbrev seen : List Entry
  seen = journal_of limits job.writer.seat.seen

  -- the objects that the peer has, as far as its writer has seen
  stands_with : (peer : Joined) → peer_at (past_of seen) 1 ≡ Some peer → IsHeldWith peer.label seen
  stands_with peer there =
      let journal : List Entry = journal_of limits h in
      let ss : List Sent = requests_of typist (method_log job.log) in
      let g : Grown limits h job = grown limits h job p in
      let front : IsFrontOf (steps_by journal 1) (steps_of 1 ss) =
      front_sent limits h 1 job.reader job.writer ss lawful p (requests_short typist fresh (method_log job.log) short)
      sent in
      let joined_in : peer_at (past_of journal) 1 ≡ Some peer =
      ap (λ (j : List Entry). peer_at (past_of j) 1) g.is ∙ joined_later g.newer seen 1 peer there in
      let known : AreKnown (past_of journal).made peer.label =
      all_known journal peer joined_in
      (known_steps journal front.rest ss front.is (requests_safe typist (method_log job.log))) in
      held_base peer.label g.newer seen
      (subst (IsHeldWith peer.label) g.is
      (record { known = known; held = lawful_held limits h lawful; few = few_entries limits h lawful }))

  -- without a keymap nothing that its writer took goes wrong
  goes_right : list_any is_keymap seen ≡ false → (taken : List ℕ) (es : List Event) → HasTaken limits job.writer taken →
      (b : BeginsWith method_objects taken es) → IsWrong method_objects b.rest → ⊥
  goes_right none taken es (inl k) b wrong =
      let all = ap length (sym k.1 ∙ b.front) in
      let parts = length-append (joined b.messages) b.rest in
      let long = wrong_long b.rest wrong in
      omega arith
  goes_right none taken es (inr f) b wrong =
      let there : peer_at (past_of seen) 1 ≡ Some f.peer =
      subst (λ k. peer_at (past_of seen) k ≡ Some f.peer) p.writes_for f.there in
      let put : ArePut (IsEventful method_objects) (out_for limits.store seen f.peer.label).put.bytes =
      put_eventful limits.store seen f.peer.label
      (record { stands = stands_with f.peer there; plain = acts_plain seen none }) in
      let is : taken ++ drop f.out.taken f.out.put.bytes ≡ joined put.messages =
      ap (λ (l : List ℕ). l ++ drop f.out.taken f.out.put.bytes) f.front
      ∙ take-append-drop f.out.taken f.out.put.bytes ∙ ap (λ o. o.put.bytes) f.out_is ∙ put.is in
      none_wrong put.messages taken (drop f.out.taken f.out.put.bytes) es put.each is b wrong

pub methods_fail_at_keymaps : MethodsFailAtKeymaps
methods_fail_at_keymaps limits h typist job lawful p fresh short k =
    by (list_any is_keymap (journal_of limits job.writer.seat.seen)) refl
  where
    by : (b : Bool) → list_any is_keymap (journal_of limits job.writer.seat.seen) ≡ b →
        HasKeymap (journal_of limits job.writer.seat.seen)
    by true e = e
    by false e =
        absurd (goes_right limits h typist job lawful p fresh short k.0.sent e k.0.taken k.0.events k.0.took k.0.read
        k.1)

-- ---- histories without a keymap

steps_front : (P : ℕ × OuterStep → Type 0) (xs ys : History) → AllByRecursion P (xs ++ ys) → AllByRecursion P xs
steps_front P [] ys h = tt
steps_front P (x ∷ xs) ys h = (h.0, steps_front P xs ys h.1)

has_none : (journal : List Entry) → AllByRecursion (λ (e : Entry). is_keymap e ≡ false) journal →
    list_any is_keymap journal ≡ false
has_none [] h = refl
has_none (e ∷ older) h =
    ap (λ (b : Bool). b || list_any is_keymap older) h.0 ∙ has_none older h.1

-- whoever has seen a part of it has seen none
pub no_keymap_seen : (limits : Limits) (h : History) (n : ℕ) (seen : History) → HasSeen h n seen →
    AllByRecursion (λ (s : ℕ × OuterStep). is_keymap s.1.entry ≡ false) h → HasKeymap (journal_of limits seen) → ⊥
no_keymap_seen limits h n seen s calm has =
    let P : Entry → Type 0 = λ e. is_keymap e ≡ false in
    let front : AllByRecursion (λ (x : ℕ × OuterStep). P x.1.entry) seen =
    steps_front (λ x. P x.1.entry) seen s.0 (subst (AllByRecursion (λ (x : ℕ × OuterStep). P x.1.entry)) s.1 calm) in
    let none : list_any is_keymap (journal_of limits seen) ≡ false =
    has_none (journal_of limits seen)
    (each_entry P (λ q cause. refl) limits.store (entries_of seen) (entries_each P seen front)) in
    true≢false (sym has ∙ none)
