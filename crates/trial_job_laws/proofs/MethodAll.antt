-- A method that took all, as far as its writer has seen, has each key that the one journal tells it
use Rattle.std.proofs.Common.{◌≡◌, ℕ, zero, suc, ◌+◌, Bool, true, false, List, [], ◌∷◌, ◌++◌, length, map, Option, Some, None, refl, sym, ap, subst, ◌∙◌, inl, inr, arith, append-nil}
use Rattle.std.specs.Prelude.{◌⊎◌, ◌==◌, if◌then◌else◌}
use Rattle.std.specs.List.{AllByRecursion}
use Rattle.std.proofs.lemmas.Bool.{eq-eqb, ne_eqb, true≢false}
use Rattle.std.proofs.lemmas.Option.{same_Some}
use Rattle.broker_steps.specs.declared.limits.Limits.{Limits}
use Rattle.wl_wire.specs.Messages.{IsPartial, messages}
use Rattle.wl_wire.specs.Messages.{joined as joined_bytes}
use Rattle.wl_proto.specs.declared.interface.Interface.{Interface}
use Rattle.wl_proto.specs.declared.interface.Interface.TheVariants as interface
use Rattle.wl_proto.specs.declared.event.Event.{Event}
use Rattle.relay_model.specs.declared.said.Told.{Told}
use Rattle.relay_model.specs.declared.said.Said.{Said}
use Rattle.relay_model.specs.declared.said.Said.TheVariants as said
use Rattle.relay_model.specs.Told.{told}
use Rattle.client_side.specs.Client.{IsWrong}
use Rattle.client_side.specs.Events.{object_in, method_objects, field_objects}
use Rattle.client_side.specs.MethodLog.{Happening}
use Rattle.trial_client_logs.specs.MethodLogs.{settled, method_log}
use Rattle.broker_model.specs.declared.journal.Entry.{Entry}
use Rattle.broker_model.specs.declared.journal.Entry.TheVariants as entries
use Rattle.broker_model.specs.Groups.{message_of}
use Rattle.broker_model.specs.Ids.{Made, Joined, peer_at, made_as}
use Rattle.broker_model.specs.Out.{Outgoing, act_at, group_at, fits, before_group, out_for}
use Rattle.broker_model.specs.Resolve.{means, past_of, resolve}
use Rattle.broker_model.specs.Settle.{history}
use Rattle.broker_model.proofs.LivePeersJoined.{joined_stays}
use Rattle.broker_telling.proofs.MessagesPut.{ArePut}
use Rattle.turn_lock.specs.Pairs.{own, NoneOf}
use Rattle.hub_lock.specs.declared.step.OuterStep.{OuterStep}
use Rattle.hub_lock.specs.Histories.{History, entries_of, writer_of}
use Rattle.hub_lock.specs.Lawful.{IsMadeBy, AreMadeBy}
use Rattle.hub_calls.specs.Made.{journal_of}
use Rattle.hub_calls.proofs.OthersTakeNothing.{entries-append, made-back}
use Rattle.trial_run.proofs.FirstMessages.{first_is, found_first}
use Rattle.trial_run.proofs.FrontOfBytes.{partial_none, bad_none}
use Rattle.trial_laws.proofs.BatchesRelayed.{messages_joined}
use Rattle.trial_laws.proofs.ClientIds.{AreOwn}
use Rattle.trial_laws.proofs.FieldsReadAll.{in_older}
use Rattle.trial_laws.specs.ToldEvents.{event_said, event_for, events_for, events_at, events_told}
use Rattle.trial_laws.specs.TypedLogs.{events_in, events_of, requests_of}
use Rattle.trial_laws.proofs.MethodIds.{AreKnown, requests_safe, known_steps, all_known}
use Rattle.trial_laws.proofs.NoKeymaps.{all_plain}
use Rattle.trial_laws.proofs.ToldHeard.{IsSaid, SpellsAll, put_heard, spelled_events}
use Rattle.trial_laws.proofs.TrialSteps.{HasShell}
use Rattle.trial_typing.specs.Fronts.{AreEventsIn}
use Rattle.trial_job_laws.specs.FieldTold.{OthersAreFields}
use Rattle.trial_job_laws.specs.MethodTold.{IsMethodTold, is_key, keys_of, is_take_of}
use Rattle.trial_job_laws.specs.ShellTold.{is_order}
use Rattle.trial_job_laws.specs.JobLaws.{MethodsHaveKeys}
use Rattle.trial_job_laws.proofs.StepsOfPeers.{steps_outer}
use Rattle.trial_job_laws.proofs.EventsRead.{are_messages, method_begins}
use Rattle.trial_job_laws.proofs.ObjectsMade.{field_own}
use Rattle.trial_job_laws.proofs.FieldAll.{IsNewer, newer_steps, entries_each, each_right}
use Rattle.trial_job_laws.proofs.MethodTold.{is_said, methods_have_sent}
use Rattle.trial_job_laws.proofs.PutHeard.{IsEventful, eventful_whole}
use Rattle.trial_job_laws.proofs.PutSilent.{joined_later}
use Rattle.trial_job_laws.proofs.PutSpelled.{IsHeldWith, held_base, Asks, put_eventful}
use Rattle.trial_job_laws.proofs.KeysTold.{IsNoKey, IsKeyless, HasNoBoard, HaveNoBoard, tells_no_key}

-- ---- what the events were

nothing_left : (ms : List (List ℕ)) (es : List Event) (r : AreEventsIn method_objects (joined_bytes ms) es) →
    AllByRecursion (IsEventful method_objects) ms → events_in (messages (joined_bytes ms)) ≡ map settled es
nothing_left ms es r each =
    method_begins (joined_bytes ms) es r.begins
    ∙ ap (λ (l : List Event). map settled es ++ l) (none r.left) ∙ append-nil (map settled es)
  where
    found : messages (joined_bytes ms) ≡ ms
    found = messages_joined ms (eventful_whole method_objects ms each)

    behind : AllByRecursion (IsEventful method_objects) (messages r.begins.rest)
    behind =
        each_right (IsEventful method_objects) r.begins.messages (messages r.begins.rest)
        (subst (AllByRecursion (IsEventful method_objects))
        (sym found ∙ ap messages r.begins.front
        ∙ found_first r.begins.messages r.begins.rest
        (are_messages method_objects r.begins.messages es r.begins.are)) each)

    none : IsPartial r.begins.rest ⊎ IsWrong method_objects r.begins.rest → events_in (messages r.begins.rest) ≡ []
    none (inl part) = ap events_in (partial_none r.begins.rest part)
    none (inr (inl bad)) = ap events_in (bad_none r.begins.rest bad)
    none (inr (inr w)) =
        let first : AllByRecursion (IsEventful method_objects) (w.0 ∷ messages w.1) =
        subst (AllByRecursion (IsEventful method_objects)) (ap messages w.2 ∙ first_is w.0 w.1 w.3) behind in
        absurd (w.4 first.0.event first.0.is)

-- ---- keys

keys-append : (xs ys : List Event) → keys_of (xs ++ ys) ≡ keys_of xs ++ keys_of ys
keys-append [] ys = refl
keys-append (x ∷ xs) ys = by (is_key x) (keys-append xs ys)
  where
    by : (b : Bool) → keys_of (xs ++ ys) ≡ keys_of xs ++ keys_of ys →
        (if b then x ∷ keys_of (xs ++ ys) else keys_of (xs ++ ys))
        ≡ (if b then x ∷ keys_of xs else keys_of xs) ++ keys_of ys
    by true k = ap (λ (l : List Event). x ∷ l) k
    by false k = k

said_keyless : (made : List Made) (event : Said) → IsNoKey event → keys_of (event_said (message_of made event)) ≡ []
said_keyless made (said.Enter surface) a = refl
said_keyless made (said.Leave surface) a = refl
said_keyless made (said.Preedit t begin end) a = refl
said_keyless made (said.CommitString t) a = refl
said_keyless made (said.Delete before after) a = refl
said_keyless made (said.FieldDone serial) a = refl
said_keyless made said.Activate a = refl
said_keyless made said.Deactivate a = refl
said_keyless made (said.Surrounding t cursor anchor) a = refl
said_keyless made (said.ChangeCause cause) a = refl
said_keyless made (said.ContentType hint purpose) a = refl
said_keyless made said.MethodDone a = refl
said_keyless made said.Unavailable a = refl
said_keyless made (said.PopupRect x y width height) a = refl
said_keyless made (said.Keymap keymap) a = refl
said_keyless made (said.Key serial time key state) a = absurd a
said_keyless made (said.Mods serial mods) a = refl
said_keyless made (said.Repeat repeat) a = refl
said_keyless made (said.Global name i version) a = refl
said_keyless made (said.CallbackDone value) a = refl
said_keyless made (said.DeleteId label) a = refl
said_keyless made (said.Capabilities value) a = refl
said_keyless made (said.Error object fault) a = refl
said_keyless made (said.Pass time key state) a = refl
said_keyless made (said.VMods mods) a = refl
said_keyless made (said.Placed popup x y) a = refl

one_keyless : (made : List Made) (p : ℕ) (event : Said) (o : Option Made) → IsNoKey event →
    keys_of (event_for made p event o) ≡ []
one_keyless made p event None a = refl
one_keyless made p event (Some object) a = by (object.peer == p)
  where
    by : (b : Bool) → keys_of (if b then event_said (message_of made event) else []) ≡ []
    by true = said_keyless made event a
    by false = refl

all_keyless : (made : List Made) (p : ℕ) (ts : List Told) → AllByRecursion IsKeyless ts →
    keys_of (events_for made p ts) ≡ []
all_keyless made p [] a = refl
all_keyless made p (t ∷ ts) a =
    keys-append (event_for made p t.event (made_as made t.to)) (events_for made p ts)
    ∙ ap (λ (l : List Event). l ++ keys_of (events_for made p ts))
    (one_keyless made p t.event (made_as made t.to) a.0) ∙ all_keyless made p ts a.1

none_before : (e : Entry) (older : List Entry) → HaveNoBoard (e ∷ older) → HaveNoBoard older
none_before e older none k peer joined m i =
    none k peer (joined_stays e (length older + 1) (past_of older).joined k peer joined) m
    (in_older (means e (length older + 1) (past_of older)).made (past_of older).made m i)

-- later entries that are no orders tell no more keys
same_keys : (capacity : ℕ) (newer base : List Entry) (p : ℕ) →
    AllByRecursion (λ (e : Entry). is_order e ≡ false) newer → HaveNoBoard (newer ++ base) →
    keys_of (events_told capacity (newer ++ base) p) ≡ keys_of (events_told capacity base p)
same_keys capacity [] base p each none = refl
same_keys capacity (e ∷ newer) base p each none =
    let older : List Entry = newer ++ base in
    let before : HaveNoBoard older = none_before e older none in
    by (fits capacity (group_at e older p) (before_group e older p (out_for capacity older p)))
    (all_keyless (past_of (e ∷ older)).made p (told (act_at e older) (resolve older))
    (tells_no_key e older each.0 before))
    (same_keys capacity newer base p each.1 before)
  where
    by : (b : Bool) → keys_of (events_at e (newer ++ base) p) ≡ [] →
        keys_of (events_told capacity (newer ++ base) p) ≡ keys_of (events_told capacity base p) →
        keys_of (events_told capacity (newer ++ base) p ++ (if b then events_at e (newer ++ base) p else []))
        ≡ keys_of (events_told capacity base p)
    by false k same = ap keys_of (append-nil (events_told capacity (newer ++ base) p)) ∙ same
    by true k same =
        keys-append (events_told capacity (newer ++ base) p) (events_at e (newer ++ base) p)
        ∙ ap (λ (l : List Event). keys_of (events_told capacity (newer ++ base) p) ++ l) k
        ∙ append-nil (keys_of (events_told capacity (newer ++ base) p)) ∙ same

-- ---- who has a board

no_board : (objects : List Interface) (id : ℕ) (i : Interface) →
    AllByRecursion (λ (o : Interface). o ≡ interface.VirtualKeyboard → ⊥) objects → object_in objects id ≡ Some i →
    i ≡ interface.VirtualKeyboard → ⊥
no_board objects zero i none e s = (let no : None ≡ Some i = e in cc)
no_board [] (suc n) i none e s = (let no : None ≡ Some i = e in cc)
no_board (o ∷ objects) (suc zero) i none e s = none.0 (same_Some o i e ∙ s)
no_board (o ∷ objects) (suc (suc n)) i none e s = no_board objects (suc n) i none.1 e s

nobody_has : (limits : Limits) (h : History) (peer : Joined) → peer_at (past_of (journal_of limits h)) 1 ≡ Some peer →
    AreKnown (past_of (journal_of limits h)).made peer.label → OthersAreFields (journal_of limits h) →
    HaveNoBoard (journal_of limits h)
nobody_has limits h peer joined known others zero p j = absurd (let no : None ≡ Some p = j in cc)
nobody_has limits h peer joined known others (suc zero) p j =
    subst (λ (x : Joined). HasNoBoard (past_of (journal_of limits h)).made x.label)
    (same_Some peer p (sym joined ∙ j))
    (λ m i own. no_board method_objects m.id m.interface
    ((λ s. cc), ((λ s. cc), ((λ s. cc), ((λ s. cc), ((λ s. cc), ((λ s. cc), tt)))))) (known m i own))
nobody_has limits h peer joined known others (suc (suc k)) p j =
    let f = others (suc (suc k)) p (λ e. absurd (omega arith)) j in
    let own : AreOwn (past_of (journal_of limits h)).made p.label 7 =
    field_own limits.store (entries_of h) (suc (suc k)) f.1.rest f.0 p
    (ap (λ (l : List Entry). l ++ f.1.rest) (sym (steps_outer limits.store (entries_of h) (suc (suc k)))) ∙ f.1.is) j in
    λ m i mine. no_board field_objects m.id m.interface
    ((λ s. cc), ((λ s. cc), ((λ s. cc), ((λ s. cc), ((λ s. cc), ((λ s. cc), ((λ s. cc), tt)))))))
    (own.known m i mine)

-- ---- what comes past the last take

-- the entry is no order, and takes nothing for the method's peer
abbrev IsLate : Entry → Type 0
IsLate e = (is_order e ≡ false) × (is_take_of 1 e ≡ false)

-- a step that isn't its writer's takes nothing for it
other_take : (h : History) (n m : ℕ) (e : Entry) → IsMadeBy h m e → writer_of h 1 ≡ Some n → (m ≡ n → ⊥) →
    is_take_of 1 e ≡ false
other_take h n m (entries.Took k bytes) made w other =
    ne_eqb k 1 (λ same. other (let number : Some m ≡ Some n = sym made.0 ∙ ap (writer_of h) same ∙ w in cc))
other_take h n m (entries.Join role) made w other = refl
other_take h n m (entries.Message k id opcode body) made w other = refl
other_take h n m (entries.Tokens k tokens) made w other = refl
other_take h n m (entries.BadSize k head) made w other = refl
other_take h n m (entries.End k cause) made w other = refl
other_take h n m (entries.Shell step) made w other = refl

late_steps : (h rest : History) (n : ℕ) → AreMadeBy h rest → writer_of h 1 ≡ Some n → NoneOf n rest →
    AllByRecursion (λ (s : ℕ × OuterStep). is_order s.1.entry ≡ false) rest →
    AllByRecursion (λ (s : ℕ × OuterStep). IsLate s.1.entry) rest
late_steps h [] n made w none each = tt
late_steps h (x ∷ rest) n made w none each =
    let one = by (x.0 == n) refl none in (
      (each.0, other_take h n x.0 x.1.entry made.0 w (λ same. true≢false (sym (eq-eqb x.0 n same) ∙ one.0))),
      late_steps h rest n made.1 w one.1 each.1,
    )
  where
    by : (b : Bool) → (x.0 == n) ≡ b → (if b then x.1 ∷ own n rest else own n rest) ≡ [] →
        ((x.0 == n) ≡ false) × NoneOf n rest
    by true e f = absurd (cc)
    by false e f = (e, f)

no_orders : (es : List Entry) → AllByRecursion IsLate es → AllByRecursion (λ (e : Entry). is_order e ≡ false) es
no_orders [] h = tt
no_orders (e ∷ es) h = (h.0.0, no_orders es h.1)

no_takes : (es : List Entry) → AllByRecursion IsLate es → AllByRecursion (λ (e : Entry). is_take_of 1 e ≡ false) es
no_takes [] h = tt
no_takes (e ∷ es) h = (h.0.1, no_takes es h.1)

-- ---- the law

record IsBase (p : ℕ) (base : List Entry) : Type 0 where
  said-is : IsSaid base
  asks : Asks p base

-- what the whole journal has of the peer's objects and of keymaps, its older part has
base_is : (p : ℕ) (newer base : List Entry) → AreKnown (past_of (newer ++ base)).made p →
    IsSaid (newer ++ base) → IsBase p base
base_is p newer base known said-is =
    let h : IsHeldWith p base =
    held_base p newer base (record { known = known; held = said-is.held; few = said-is.few }) in
    let shells : AllByRecursion HasShell base = each_right HasShell newer base said-is.shells in
    record {
      said-is = record { held = h.held; shells = shells; few = h.few };
      asks = record { stands = h; plain = all_plain base shells };
    }

pub methods_have_keys : MethodsHaveKeys
methods_have_keys limits h typist job lawful p fresh short orders done all later others =
    let journal : List Entry = journal_of limits h in
    let seen : History = job.writer.seat.seen in
    let base : List Entry = journal_of limits seen in
    let rest : History = p.writer_seen.0 in
    let log : List Happening = method_log job.log in
    let n : IsNewer IsLate base (history limits.store (entries_of rest ++ entries_of seen)) =
    newer_steps IsLate (λ k cause. (refl, refl)) limits.store (entries_of rest) (entries_of seen)
    (entries_each IsLate rest (late_steps h rest job.writer.seat.number
    (made-back h seen rest (subst (AreMadeBy h) p.writer_seen.1 lawful.made_by)) p.writes p.writer_seen.2 later)) in
    let grown : journal ≡ n.newer ++ base =
    ap (journal_of limits) p.writer_seen.1 ∙ ap (history limits.store) (entries-append seen rest) ∙ n.is in
    let told : IsMethodTold limits journal typist log =
    (methods_have_sent limits h typist job lawful p fresh short orders done).told in
    let known : AreKnown (past_of journal).made told.peer.label =
    all_known journal told.peer told.joined
    (known_steps journal told.sent.rest (requests_of typist log) told.sent.is (requests_safe typist log)) in
    let f = all.taken in
    let there : peer_at (past_of base) 1 ≡ Some f.peer =
    subst (λ k. peer_at (past_of base) k ≡ Some f.peer) p.writes_for f.there in
    let same : f.peer ≡ told.peer =
    same_Some f.peer told.peer (sym (ap (λ (j : List Entry). peer_at (past_of j) 1) grown
    ∙ joined_later n.newer base 1 f.peer there) ∙ told.joined) in
    let label : ℕ = told.peer.label in
    let older : IsBase label base =
    base_is label n.newer base
    (subst (λ (j : List Entry). AreKnown (past_of j).made label) grown known)
    (subst IsSaid grown (is_said limits h lawful orders)) in
    let put : ArePut (IsEventful method_objects) (out_for limits.store base label).put.bytes =
    put_eventful limits.store base label older.asks in
    let taken : done.taken ≡ joined_bytes put.messages =
    all.all ∙ ap (λ (o : Outgoing). o.put.bytes) f.out_is
    ∙ ap (λ (x : Joined). (out_for limits.store base x.label).put.bytes) same ∙ put.is in
    let spelled : SpellsAll (out_for limits.store base label).put.bytes (events_told limits.store base label) =
    put_heard limits.store base label older.asks.stands.known older.said-is in
    let is : events_of log ≡ events_told limits.store base label =
    done.told
    ∙ sym (nothing_left put.messages done.events
    (subst (λ (b : List ℕ). AreEventsIn method_objects b done.events) taken done.read) put.each)
    ∙ ap (λ (b : List ℕ). events_in (messages b)) (sym put.is)
    ∙ spelled_events (out_for limits.store base label).put.bytes (events_told limits.store base label) spelled in
    let keys : keys_of (events_told limits.store journal label) ≡ keys_of (events_told limits.store base label) =
    subst (λ (j : List Entry). keys_of (events_told limits.store j label)
    ≡ keys_of (events_told limits.store base label)) (sym grown)
    (same_keys limits.store n.newer base label (no_orders n.newer n.each)
    (subst HaveNoBoard grown (nobody_has limits h told.peer told.joined known others))) in
    record {
      newer = n.newer;
      is = grown;
      past = no_takes n.newer n.each;
      peer = told.peer;
      joined = told.joined;
      told = is;
      keys = ap keys_of is ∙ sym keys;
    }
