-- Before the first action of a trial nothing has the focus, so nothing is relayed.
use Rattle.std.proofs.Common.{◌≡◌, ℕ, zero, suc, ◌+◌, ◌%◌, ◌^◌, Bool, true, false, List, [], ◌∷◌, ◌++◌, length, Option, Some, None, Result, Ok, Err, refl, ap, subst, ◌∙◌}
use Rattle.std.specs.Prelude.{◌==◌, ◌&&◌, if◌then◌else◌, nat_le}
use Rattle.std.specs.List.{AllByRecursion, list_any}
use Rattle.wl_wire.specs.Messages.{messages}
use Rattle.wl_proto.specs.declared.interface.Interface.{Interface}
use Rattle.wl_proto.specs.declared.interface.Interface.TheVariants as interface
use Rattle.wl_proto.specs.declared.refuse.Refuse.{Refuse}
use Rattle.wl_proto.specs.Grammar.{Value, word, signed, text, token}
use Rattle.wl_proto.specs.Reading.{request_reading}
use Rattle.wl_proto.specs.Rows.{Message}
use Rattle.relay_model.specs.declared.act.Act.{Act}
use Rattle.relay_model.specs.declared.act.Act.TheVariants as acts
use Rattle.relay_model.specs.declared.fault.Fault.{Fault}
use Rattle.relay_model.specs.declared.role.Role.{Role}
use Rattle.relay_model.specs.declared.role.Role.TheVariants.{App, Method}
use Rattle.relay_model.specs.Objects.{is_at, is_same, peer_of, is_field}
use Rattle.relay_model.specs.Focus.{where_alive, last_focus, peer_at as focused_at, entered}
use Rattle.relay_model.specs.Hold.{is_enabled, word as word_of, begins_hold, committed, ends, kept, holder}
use Rattle.relay_model.specs.Activation.{fresh}
use Rattle.relay_model.specs.Idle as idle
use Rattle.relay_model.specs.Idle.{is_live, cleaned}
use Rattle.relay_model.proofs.FocusLaws.{and_false}
use Rattle.broker_steps.specs.declared.limits.Limits.{Limits}
use Rattle.trial_script.specs.declared.script.Script.{Script}
use Rattle.broker_model.specs.declared.journal.Entry.{Entry}
use Rattle.broker_model.specs.declared.journal.Entry.TheVariants as entries
use Rattle.broker_model.specs.Ids.{Made, Joined, Past, peer_at, object_at}
use Rattle.broker_model.specs.Limits.{is_full}
use Rattle.broker_model.specs.Requests.{surround, cause, content, cursor, string, preedit, delete, commit, keymap, key, modifiers, popup, bind, rows}
use Rattle.broker_model.specs.Refusals.{request_fault}
use Rattle.broker_model.specs.Resolve.{Meaning, label_at, of_request, of_reading, of_message, of_peer, means, past_of, resolve}
use Rattle.broker_model.specs.Settle.{due, with_end, settled, number_alive}
use Rattle.broker_model.specs.Stamps.{no_stamp}
use Rattle.broker_model.proofs.EachElement.{either_way}
use Rattle.broker_model.proofs.LivePeersJoined.{plain_row}
use Rattle.broker_core.specs.Broker.{Broker, with_step}
use Rattle.broker_core.specs.Taking.{lives}
use Rattle.trial_run.specs.declared.whose.Whose.{Whose}
use Rattle.trial_run.specs.declared.whose.Whose.TheVariants as whose
use Rattle.trial_run.specs.Ran.{Ran, went, halted, ◌>>=◌}
use Rattle.trial_run.specs.Steps.{stepped, joined, message_entry, messages_sent}
use Rattle.trial_run.specs.Play.{TrialPlay, new_field, number_of, to_send, sent}
use Rattle.trial_run.specs.Rounds.{with_broker, sends_waiting, sends}
use Rattle.trial_run.specs.Lines.{actions_played}
use Rattle.trial_run.specs.Trial.{unplayed, typist_of, method_joined, field_joined, fields_joined, played_with}
use Rattle.trial_laws.specs.FieldLogs.{trial_to}
use Rattle.trial_laws.specs.RelayedAsBatches.{batch_by, relayed_batches, batches_of}
use Rattle.trial_laws.proofs.PhasesKeep.{after}

-- ---- no message moves the focus

abbrev is_focus : Act → Bool
is_focus (acts.Focus s) = true
is_focus _ = false

abbrev IsOther : Act → Type 0
IsOther act = is_focus act ≡ false

other_surround : (x : ℕ) (vs : List Value) → IsOther (surround x vs)
other_surround x (text t ∷ signed a ∷ signed b ∷ []) = refl
other_surround x _ = refl

other_cause : (x : ℕ) (vs : List Value) → IsOther (cause x vs)
other_cause x (word n ∷ []) = refl
other_cause x _ = refl

other_content : (x : ℕ) (vs : List Value) → IsOther (content x vs)
other_content x (word a ∷ word b ∷ []) = refl
other_content x _ = refl

other_cursor : (x : ℕ) (vs : List Value) → IsOther (cursor x vs)
other_cursor x (signed a ∷ signed b ∷ signed c ∷ signed d ∷ []) = refl
other_cursor x _ = refl

other_string : (x : ℕ) (vs : List Value) → IsOther (string x vs)
other_string x (text t ∷ []) = refl
other_string x _ = refl

other_preedit : (x : ℕ) (vs : List Value) → IsOther (preedit x vs)
other_preedit x (text t ∷ signed a ∷ signed b ∷ []) = refl
other_preedit x _ = refl

other_delete : (x : ℕ) (vs : List Value) → IsOther (delete x vs)
other_delete x (word a ∷ word b ∷ []) = refl
other_delete x _ = refl

other_commit : (x : ℕ) (vs : List Value) → IsOther (commit x vs)
other_commit x (word n ∷ []) = refl
other_commit x _ = refl

other_keymap : (x : ℕ) (vs : List Value) → IsOther (keymap x vs)
other_keymap x (word a ∷ token t ∷ word b ∷ []) = refl
other_keymap x _ = refl

other_key : (x : ℕ) (vs : List Value) → IsOther (key x vs)
other_key x (word a ∷ word b ∷ word c ∷ []) = refl
other_key x _ = refl

other_modifiers : (x : ℕ) (vs : List Value) → IsOther (modifiers x vs)
other_modifiers x (word a ∷ word b ∷ word c ∷ word d ∷ []) = refl
other_modifiers x _ = refl

other_popup : (at : ℕ → ℕ) (x : ℕ) (vs : List Value) → IsOther (popup at x vs)
other_popup at x (word a ∷ word b ∷ []) = refl
other_popup at x _ = refl

other_bind : (p : ℕ) (vs : List Value) → IsOther (bind p vs)
other_bind p (word n ∷ vs) = either_way IsOther (n == 2) (acts.Seat p) (acts.Thing p) refl refl
other_bind p _ = refl

other_rows : (p x : ℕ) (role : Role) (at : ℕ → ℕ) (i : Interface) (vs : List Value) →
    list_any is_focus (rows p x role at i vs) ≡ false
other_rows p x role at interface.Registry vs = rw (other_bind p vs) refl
other_rows p x role at interface.TextInput vs =
    rw (other_surround x vs, other_cause x vs, other_content x vs, other_cursor x vs) refl
other_rows p x role at interface.InputMethod vs =
    rw (other_string x vs, other_preedit x vs, other_delete x vs, other_commit x vs, other_popup at x vs) refl
other_rows p x role at interface.VirtualKeyboard vs = rw (other_keymap x vs, other_key x vs, other_modifiers x vs) refl
other_rows p x role at _ vs = refl

other_request : (past : Past) (n : ℕ) (peer : Joined) (x : ℕ) (m : Message) (o : Option Fault) →
    IsOther (of_request past n peer x m o).act
other_request past n peer x m (Some f) = refl
other_request past n peer x m None =
    plain_row is_focus (rows peer.label x peer.role (label_at past peer.label) m.interface m.values) m.opcode refl
    (other_rows peer.label x peer.role (label_at past peer.label) m.interface m.values)

other_reading : (past : Past) (n : ℕ) (peer : Joined) (x : ℕ) (r : Result Message Refuse) →
    IsOther (of_reading past n peer x r).act
other_reading past n peer x (Err e) = refl
other_reading past n peer x (Ok m) =
    other_request past n peer x m (request_fault past peer.label x peer.role (label_at past peer.label) m)

other_message : (past : Past) (n : ℕ) (peer : Joined) (opcode : ℕ) (body : List ℕ) (o : Option Made) →
    IsOther (of_message past n peer opcode body o).act
other_message past n peer opcode body None = refl
other_message past n peer opcode body (Some x) =
    other_reading past n peer x.label (request_reading x.interface opcode (past.waiting peer.label) body)

other_peer : (o : Option Joined) (f : Joined → Meaning) → ((peer : Joined) → IsOther (f peer).act) →
    IsOther (of_peer o f).act
other_peer None f h = refl
other_peer (Some peer) f h = h peer

-- the entry is nothing that the shell says
abbrev IsOfPeers : Entry → Type 0
IsOfPeers (entries.Shell step) = ⊥
IsOfPeers _ = Unit {0}

other_entry : (e : Entry) (n : ℕ) (past : Past) → IsOfPeers e → IsOther (means e n past).act
other_entry (entries.Join role) n past h = refl
other_entry (entries.Message q id opcode body) n past h =
    other_peer (peer_at past q) (λ peer. of_message past n peer opcode body (object_at past peer.label id))
    (λ peer. other_message past n peer opcode body (object_at past peer.label id))
other_entry (entries.Tokens q tokens) n past h = refl
other_entry (entries.BadSize q head) n past h = other_peer (peer_at past q) _ (λ peer. refl)
other_entry (entries.End q why) n past h = other_peer (peer_at past q) _ (λ peer. refl)
other_entry (entries.Shell step) n past h = absurd h
other_entry (entries.Took q bytes) n past h = other_peer (peer_at past q) _ (λ peer. refl)

-- ---- where nothing has the focus, nothing is relayed

abbrev AreOther : List Act → Type 0
AreOther log = AllByRecursion IsOther log

abbrev AreOfPeers : List Entry → Type 0
AreOfPeers journal = AllByRecursion IsOfPeers journal

acts_other : (journal : List Entry) → AreOfPeers journal → AreOther (resolve journal)
acts_other [] h = tt
acts_other (e ∷ older) h = (other_entry e (length older + 1) (past_of older) h.0, acts_other older h.1)

history_other : (all : List Act) → AreOther all → AreOther (idle.history all)
history_other [] h = tt
history_other (act ∷ older) h =
    (either_way IsOther (is_live act (idle.history older)) act acts.Idle h.0 refl, history_other older h.1)

none_focused : (log : List Act) → AreOther log → last_focus log ≡ None
none_focused [] h = refl
none_focused (acts.Focus s ∷ older) h = (let no : true ≡ false = h.0 in cc)
none_focused (acts.Unfocus ∷ older) h = refl
none_focused (_ ∷ older) h = none_focused older h.1

not_same : (o : Option ℕ) → is_same o None ≡ false
not_same None = refl
not_same (Some x) = refl

none_entered : (log : List Act) (f : ℕ) → AreOther log → entered log f ≡ false
none_entered log f h =
    ap (λ (o : Option ℕ). is_field log f && is_same (peer_of log f) (focused_at log (where_alive log o)))
    (none_focused log h)
    ∙ ap (λ (b : Bool). is_field log f && b) (not_same (peer_of log f)) ∙ and_false (is_field log f)

no_hold : (act : Act) (log : List Act) → AreOther log → begins_hold act log ≡ false
no_hold (acts.Commit f) log h =
    ap (λ (b : Bool). b && is_enabled (word_of log f)) (none_entered log f h)
no_hold _ log h = refl

never_ends : (act : Act) (log : List Act) → ends act log None ≡ false
never_ends (acts.Commit f) log = refl
never_ends _ log = refl

none_holds : (log : List Act) → AreOther log → holder log ≡ None
none_holds [] h = refl
none_holds (act ∷ older) h =
    ap (λ (b : Bool). if b then committed act
    else (if ends act older (holder older) then None else kept act older (holder older))) (no_hold act older h.1)
    ∙ ap (λ (o : Option ℕ). if ends act older o then None else kept act older o) (none_holds older h.1)
    ∙ ap (λ (b : Bool). if b then None else kept act older None) (never_ends act older)

none_relayed : (log : List Act) (f : ℕ) → AreOther log → relayed_batches log f ≡ []
none_relayed [] f h = refl
none_relayed (act ∷ older) f h =
    ap (λ (o : Option ℕ). if fresh act older && is_at o f then relayed_batches older f ++ batch_by act older f
    else relayed_batches older f) (none_holds older h.1)
    ∙ ap (λ (b : Bool). if b then relayed_batches older f ++ batch_by act older f else relayed_batches older f)
    (and_false (fresh act older))
    ∙ none_relayed older f h.1

-- ---- joins and set-ups alone

end_of_peers : (journal : List Entry) (o : Option ℕ) → AreOfPeers journal → AreOfPeers (with_end journal o)
end_of_peers journal None h = h
end_of_peers journal (Some q) h = (tt, h)

settled_of_peers : (capacity n : ℕ) (journal : List Entry) → AreOfPeers journal →
    AreOfPeers (settled capacity n journal)
settled_of_peers capacity zero journal h = h
settled_of_peers capacity (suc n) journal h =
    settled_of_peers capacity n (with_end journal (due capacity journal))
    (end_of_peers journal (due capacity journal) h)

abbrev IsUnsaid : Broker → Type 0
IsUnsaid b = AreOfPeers b.journal

step_unsaid : (e : Entry) (b : Broker) → IsOfPeers e → IsUnsaid b → IsUnsaid (stepped e b).now
unfolding stepped
step_unsaid e b s h = by (is_full b.limits b.journal e)
  where
    by : (full : Bool) → IsUnsaid (if full then halted b else went (with_step e no_stamp b)).now
    by true = h
    by false = settled_of_peers b.limits.store (number_alive (e ∷ b.journal)) (e ∷ b.journal) (s, h)

messages_unsaid : (q : ℕ) (ms : List (List ℕ)) (b : Broker) → IsUnsaid b → IsUnsaid (messages_sent q ms b).now
unfolding messages_sent
messages_unsaid q [] b h = h
messages_unsaid q (m ∷ ms) b h =
    by (lives b.journal q) (stepped (message_entry q m) b).is_full (step_unsaid (message_entry q m) b tt h)
    (λ k. messages_unsaid q ms (stepped (message_entry q m) b).now k)
  where
    by : (live full : Bool) → IsUnsaid (stepped (message_entry q m) b).now →
        (IsUnsaid (stepped (message_entry q m) b).now →
        IsUnsaid (messages_sent q ms (stepped (message_entry q m) b).now).now) →
        IsUnsaid (if live then (if full then stepped (message_entry q m) b
        else messages_sent q ms (stepped (message_entry q m) b).now) else went b).now
    by false full k later = h
    by true true k later = k
    by true false k later = later k

abbrev IsUnsaidYet : TrialPlay → Type 0
IsUnsaidYet t = IsUnsaid t.broker

sent_unsaid : (who : Whose) (t : TrialPlay) → IsUnsaidYet t → IsUnsaidYet (sent who t)
sent_unsaid whose.Method t h = h
sent_unsaid (whose.Field k) t h = h

sends_unsaid : (who : Whose) (t : TrialPlay) → IsUnsaidYet t → IsUnsaidYet (sends who t).now
unfolding sends sends_waiting
sends_unsaid who t h =
    after IsUnsaidYet (sends_waiting who t) (λ now. went (sent who now))
    (messages_unsaid (number_of who) (messages (to_send who t)) t.broker h) (sent_unsaid who)

joined_unsaid : (role : Role) (b : Broker) → IsUnsaid b → IsUnsaid (joined role b).now
unfolding joined
joined_unsaid role b h = by (nat_le 64 (number_alive b.journal))
  where
    by : (many : Bool) → IsUnsaid (if many then went b else stepped (entries.Join role) b).now
    by true = h
    by false = step_unsaid (entries.Join role) b tt h

method_unsaid : (t : TrialPlay) → IsUnsaidYet t → IsUnsaidYet (method_joined t).now
unfolding method_joined
method_unsaid t h =
    after IsUnsaidYet (with_broker t (joined Method t.broker)) (sends whose.Method)
    (joined_unsaid Method t.broker h) (sends_unsaid whose.Method)

field_unsaid : (t : TrialPlay) → IsUnsaidYet t → IsUnsaidYet (field_joined t).now
unfolding field_joined
field_unsaid t h =
    after IsUnsaidYet (with_broker t (joined App t.broker))
    (λ now. sends (whose.Field (length t.fields)) (record now { fields = now.fields ++ new_field ∷ [] }))
    (joined_unsaid App t.broker h)
    (λ now k. sends_unsaid (whose.Field (length t.fields)) (record now { fields = now.fields ++ new_field ∷ [] }) k)

fields_unsaid : (n : ℕ) (t : TrialPlay) → IsUnsaidYet t → IsUnsaidYet (fields_joined n t).now
unfolding fields_joined
fields_unsaid zero t h = h
fields_unsaid (suc n) t h = after IsUnsaidYet (field_joined t) (fields_joined n) (field_unsaid t h) (fields_unsaid n)

begun_unsaid : (limits : Limits) (script : Script) → IsUnsaidYet (trial_to 0 limits script).now
unfolding played_with actions_played
begun_unsaid limits script = by (script.fields == 0)
  where
    start : TrialPlay
    start = unplayed limits (typist_of script)

    time : ℕ
    time = script.first_line % 2 ^ 32

    by : (none : Bool) → IsUnsaidYet (if none then went start
        else (method_joined start >>= fields_joined script.fields) >>= actions_played time []).now
    by true = tt
    by false =
        after IsUnsaidYet (method_joined start >>= fields_joined script.fields) (actions_played time [])
        (after IsUnsaidYet (method_joined start) (fields_joined script.fields) (method_unsaid start tt)
        (fields_unsaid script.fields))
        (λ t h. h)

-- before the first action nothing is relayed
pub none_relayed_yet : (limits : Limits) (script : Script) (t : TrialPlay) (f : ℕ) →
    trial_to 0 limits script ≡ went t → batches_of t.broker.journal f ≡ []
none_relayed_yet limits script t f e =
    let said : AreOfPeers t.broker.journal =
    subst (λ (r : Ran TrialPlay). AreOfPeers r.now.broker.journal) e (begun_unsaid limits script) in
    none_relayed (idle.history (resolve t.broker.journal)) f
    (history_other (resolve t.broker.journal) (acts_other t.broker.journal said))
