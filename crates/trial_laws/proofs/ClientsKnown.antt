-- The objects of each field's peer are those that its client knows, each once, whatever a trial does.
use Rattle.std.proofs.Common.{◌≡◌, ℕ, zero, suc, ◌+◌, ◌≤◌, ◌<◌, Bool, true, false, List, [], ◌∷◌, ◌++◌, length, Option, Some, sym, ap, subst, ◌∙◌, arith, inl, inr, ◌⊎◌}
use Rattle.std.specs.Prelude.{if◌then◌else◌, nat_le}
use Rattle.std.specs.List.{slice_get}
use Rattle.std.proofs.lemmas.Bool.{cases_lt}
use Rattle.wl_wire.specs.Messages.{messages}
use Rattle.relay_model.specs.declared.role.Role.TheVariants.{App}
use Rattle.trial_field.specs.Log as field
use Rattle.client_side.specs.Messages.{field_setup}
use Rattle.client_side.specs.Happenings.{edited}
use Rattle.broker_model.specs.declared.journal.Entry as journals
use Rattle.broker_model.specs.declared.journal.Entry.TheVariants as entries
use Rattle.broker_model.specs.Ids.{Joined, peer_at}
use Rattle.broker_model.specs.Limits.{is_full}
use Rattle.broker_model.specs.Resolve.{past_of}
use Rattle.broker_model.specs.Settle.{number_alive}
use Rattle.broker_model.specs.Stamps.{no_stamp}
use Rattle.broker_core.specs.Broker.{with_step}
use Rattle.trial_run.specs.declared.whose.Whose.{Whose}
use Rattle.trial_run.specs.declared.whose.Whose.TheVariants as whose
use Rattle.trial_run.specs.Ran.{Ran, went, halted, ◌>>=◌}
use Rattle.trial_run.specs.Steps.{stepped, joined, messages_sent, next_bytes}
use Rattle.trial_run.specs.Play.{FieldPlay, TrialPlay, new_field, number_of, to_send, sends_in, with_field, hears, field_hears, field_sent, sent, field_edits, edits, commits, pauses}
use Rattle.trial_run.specs.Rounds.{with_broker, sends_waiting, sends}
use Rattle.trial_run.specs.Trial.{field_joined, fields_joined}
use Rattle.trial_laws.proofs.PhasesKeep.{IsAmong, IsWaiting, Speaks, IsKept, IsPlayed, take_entry, with_entry, sends_keep, field_keeps}
use Rattle.trial_laws.proofs.BytesTaken.{step_peer}
use Rattle.trial_laws.proofs.ClientIds.{IsOfOther, others_step, input_step, join_step}
use Rattle.trial_laws.proofs.RequestsWait.{AreInputs, none_wait, bytes_each, messages_spelled, waits_for_input, happens_waits, received_waits}
use Rattle.trial_laws.proofs.SetupSent.{OwnTo, setup_short, setup_own}
use Rattle.trial_laws.proofs.FieldsMade.{HasIdIn, step_before, id_stays, join_id, setup_made}
use Rattle.trial_laws.proofs.FieldFollowed.{same_or_not, changed_at, changed_other}
use Rattle.trial_laws.proofs.TakesCount.{both_went}
use Rattle.trial_laws.proofs.FieldsJoin.{AreFollowed, with_new, new_peer, joined_last, last_field, can_join, nobody_edits, field_followed}

-- ---- the field with the index k

-- its peer has the objects of its client, the text input too unless it ended, and its client has requests to that
-- alone to send
pub record IsKnown (k : ℕ) (t : TrialPlay) : Type 0 where
  pub field : FieldPlay
  pub is : slice_get t.fields k ≡ Some field
  pub peer : Joined
  pub joined : peer_at (past_of t.broker.journal) (k + 2) ≡ Some peer
  pub own : OwnTo peer 7 t.broker
  pub made : HasIdIn (k + 2) peer 7 t.broker
  pub waits : AreInputs field.client.state.to_send

-- another field is as it was
other_known : (j k : ℕ) (f : FieldPlay → FieldPlay) (t : TrialPlay) → (j ≡ k → ⊥) → IsKnown k t →
    IsKnown k (with_field j f t)
other_known j k f t d h = record {
  field = h.field;
  is = changed_other j k f t.fields d ∙ h.is;
  peer = h.peer;
  joined = h.joined;
  own = h.own;
  made = h.made;
  waits = h.waits;
}

own_known : (k : ℕ) (f : FieldPlay → FieldPlay) (t : TrialPlay) (h : IsKnown k t) →
    AreInputs (f h.field).client.state.to_send →
    IsKnown k (with_field k f t)
own_known k f t h waits = record {
  field = f h.field;
  is = changed_at k f t.fields h.field h.is;
  peer = h.peer;
  joined = h.joined;
  own = h.own;
  made = h.made;
  waits = waits;
}

field_known : (j k : ℕ) (f : FieldPlay → FieldPlay) (t : TrialPlay) →
    ((x : FieldPlay) → AreInputs x.client.state.to_send → AreInputs (f x).client.state.to_send) → IsKnown k t →
    IsKnown k (with_field j f t)
field_known j k f t w h = by (same_or_not j k)
  where
    by : (j ≡ k) ⊎ (j ≡ k → ⊥) → IsKnown k (with_field j f t)
    by (inl e) = subst (λ i. IsKnown k (with_field i f t)) (sym e) (own_known k f t h (w h.field h.waits))
    by (inr d) = other_known j k f t d h

id_kept : (q : ℕ) (peer : Joined) (id : ℕ) (e : journals.Entry) (t : TrialPlay) → HasIdIn q peer id t.broker →
    HasIdIn q peer id (with_entry e t).broker
id_kept q peer id e t h none =
    id_stays t.broker.limits.store e t.broker.journal peer.label id
    (h (step_before t.broker.limits.store e t.broker.journal q none))

-- an entry that isn't a message of its peer
pub entry_known : (k : ℕ) (e : journals.Entry) (t : TrialPlay) → IsOfOther (k + 2) e → IsKnown k t →
    IsKnown k (with_entry e t)
entry_known k e t o h = record {
  field = h.field;
  is = h.is;
  peer = h.peer;
  joined = step_peer t.broker.limits.store e t.broker.journal (k + 2) h.peer h.joined;
  own = others_step t.broker.limits.store e t.broker.journal (k + 2) 7 h.peer h.joined o h.own;
  made = id_kept (k + 2) h.peer 7 e t h.made;
  waits = h.waits;
}

-- a message of its peer goes to the text input
input_known : (k opcode : ℕ) (body : List ℕ) (t : TrialPlay) → IsKnown k t →
    IsKnown k (with_entry (entries.Message (k + 2) 7 opcode body) t)
input_known k opcode body t h =
    let e : journals.Entry = entries.Message (k + 2) 7 opcode body in
    record {
      field = h.field;
      is = h.is;
      peer = h.peer;
      joined = step_peer t.broker.limits.store e t.broker.journal (k + 2) h.peer h.joined;
      own = input_step t.broker.limits.store (k + 2) opcode 7 body t.broker.journal h.peer h.joined h.own;
      made = id_kept (k + 2) h.peer 7 e t h.made;
      waits = h.waits;
    }

-- who has the number of the field's peer is its client
whose_is : (who : Whose) (k : ℕ) → number_of who ≡ k + 2 → who ≡ whose.Field k
whose_is whose.Method k e = absurd (omega arith)
whose_is (whose.Field j) k e = ap (λ i. whose.Field i) (let same : j ≡ k = omega arith in same)

message_known : (k q id opcode : ℕ) (body : List ℕ) (t : TrialPlay) → IsWaiting t q id opcode body → IsKnown k t →
    (q ≡ k + 2) ⊎ (q ≡ k + 2 → ⊥) → IsKnown k (with_entry (entries.Message q id opcode body) t)
message_known k q id opcode body t s h (inr d) = entry_known k (entries.Message q id opcode body) t d h
message_known k q id opcode body t s h (inl e) =
    let own : s.who ≡ whose.Field k = whose_is s.who k (sym s.number ∙ e) in
    let bytes : to_send s.who t ≡ h.field.client.state.to_send =
    ap (λ (who : Whose). to_send who t) own ∙ ap sends_in h.is in
    let seven : id ≡ 7 =
    s.id-is ∙ waits_for_input h.field.client.state.to_send s.message h.waits
    (subst (λ (b : List ℕ). IsAmong (messages b) s.message) bytes s.among) in
    subst (λ i. IsKnown k (with_entry (entries.Message q i opcode body) t)) (sym seven)
    (subst (λ n. IsKnown k (with_entry (entries.Message n 7 opcode body) t)) (sym e) (input_known k opcode body t h))

said_known : (k : ℕ) (e : journals.Entry) (t : TrialPlay) → Speaks t e → IsKnown k t → IsKnown k (with_entry e t)
said_known k (entries.Message q id opcode body) t s h = message_known k q id opcode body t s h (same_or_not q (k + 2))
said_known k (entries.Shell step) t s h = entry_known k (entries.Shell step) t tt h
said_known k _ t s h = absurd s

taken_known : (k : ℕ) (who : Whose) (t : TrialPlay) → IsKnown k t →
    IsKnown k (hears who (next_bytes (number_of who) t.broker) (with_entry (take_entry who t) t))
taken_known k whose.Method t h =
    let f = entry_known k (take_entry whose.Method t) t tt h in
    record { field = f.field; is = f.is; peer = f.peer; joined = f.joined; own = f.own; made = f.made; waits = f.waits }
taken_known k (whose.Field j) t h =
    field_known j k (field_hears (next_bytes (j + 2) t.broker)) (with_entry (take_entry (whose.Field j) t) t)
    (λ x w. received_waits (next_bytes (j + 2) t.broker) x.client w)
    (entry_known k (take_entry (whose.Field j) t) t tt h)

sent_known : (k : ℕ) (who : Whose) (t : TrialPlay) → IsKnown k t → IsKnown k (sent who t)
sent_known k whose.Method t h =
    record { field = h.field; is = h.is; peer = h.peer; joined = h.joined; own = h.own; made = h.made; waits = h.waits }
sent_known k (whose.Field j) t h = field_known j k field_sent t (λ x w. none_wait) h

pub known_kept : (k : ℕ) → IsKept (IsKnown k)
known_kept k = record {
  saying = λ e t s f h. said_known k e t s h;
  taking = λ who t f h. taken_known k who t h;
  sending = λ who t h. sent_known k who t h;
}

-- ---- lines

pub edit_known : (j k : ℕ) (edit : field.Entry) (t : TrialPlay) → IsKnown k t → IsKnown k (edits j edit t)
edit_known j k edit t h =
    field_known j k (field_edits edit) t (λ x w. happens_waits (edited edit) x.client.state w) h

pub pause_known : (j k : ℕ) (paused : Bool) (t : TrialPlay) → IsKnown k t → IsKnown k (pauses j paused t)
pause_known j k paused t h = field_known j k (λ f. record f { is_paused = paused }) t (λ x w. w) h

pub commit_known : (k : ℕ) (batch : field.Batch) (t : TrialPlay) → IsKnown k t → IsKnown k (commits batch t)
commit_known k batch t h =
    record { field = h.field; is = h.is; peer = h.peer; joined = h.joined; own = h.own; made = h.made; waits = h.waits }

pub show_known : (k : ℕ) (lines : List ℕ) (t : TrialPlay) → IsKnown k t → IsKnown k (record t { shown = lines })
show_known k lines t h =
    record { field = h.field; is = h.is; peer = h.peer; joined = h.joined; own = h.own; made = h.made; waits = h.waits }

-- ---- joins

get_left : {A : Type 0} (xs ys : List A) (n : ℕ) (x : A) → slice_get xs n ≡ Some x → slice_get (xs ++ ys) n ≡ Some x
get_left [] ys n x e = (let no : slice_get [] n ≡ Some x = e in cc)
get_left (z ∷ xs) ys zero x e = e
get_left (z ∷ xs) ys (suc n) x e = get_left xs ys n x e

-- whatever a trial does
pub known_played : (k : ℕ) → IsPlayed (IsKnown k)
known_played k = record {
  seats = record {
    phases = known_kept k;
    joining = λ role t f h. entry_known k (entries.Join role) t tt h;
    adding = λ t h. record {
      field = h.field;
      is = get_left t.fields (new_field ∷ []) k h.field h.is;
      peer = h.peer;
      joined = h.joined;
      own = h.own;
      made = h.made;
      waits = h.waits;
    };
  };
  editing = λ j edit t h. edit_known j k edit t h;
  committing = λ batch t h. commit_known k batch t h;
  pausing = λ j paused t h. pause_known j k paused t h;
  showing = λ lines t h. show_known k lines t h;
}

-- ---- a new field

abbrev Seated : ℕ → Joined → TrialPlay → Type 0
Seated q peer t = peer_at (past_of t.broker.journal) q ≡ Some peer

seated_kept : (q : ℕ) (peer : Joined) → IsKept (Seated q peer)
seated_kept q peer = record {
  saying = λ e t s f h. step_peer t.broker.limits.store e t.broker.journal q peer h;
  taking = λ who t f h. heard who (next_bytes (number_of who) t.broker) (with_entry (take_entry who t) t)
      (step_peer t.broker.limits.store (take_entry who t) t.broker.journal q peer h);
  sending = was_sent;
}
  where
    heard : (who : Whose) (piece : List ℕ) (t : TrialPlay) → Seated q peer t → Seated q peer (hears who piece t)
    heard whose.Method piece t h = h
    heard (whose.Field k) piece t h = h

    was_sent : (who : Whose) (t : TrialPlay) → Seated q peer t → Seated q peer (sent who t)
    was_sent whose.Method t h = h
    was_sent (whose.Field k) t h = h

-- its set-up is sent
new_known : (t mid : TrialPlay) → AreFollowed nobody_edits (length t.fields) t →
    sends (whose.Field (length t.fields)) (with_new t) ≡ went mid → IsKnown (length t.fields) mid
unfolding sends sends_waiting
new_known t mid h e =
    let k : ℕ = length t.fields in
    let who : Whose = whose.Field k in
    let new : TrialPlay = with_new t in
    let both = both_went (sends_waiting who new) (λ now. went (sent who now)) mid e in
    let there : slice_get new.fields k ≡ Some new_field = last_field t in
    let waits : messages (to_send who new) ≡ bytes_each field_setup =
    ap (λ (o : Option FieldPlay). messages (sends_in o)) there ∙ messages_spelled field_setup setup_short in
    let peer : Joined = new_peer App t in
    let joined : peer_at (past_of new.broker.journal) (k + 2) ≡ Some peer = joined_last App t k h.seated in
    let later : TrialPlay = record new {
      broker = (messages_sent (k + 2)
          (messages (to_send who new)) new.broker).now;
    } in
    let is : later ≡ both.mid = ap (λ (r : Ran TrialPlay). r.now) both.first in
    let own : OwnTo peer 7 later.broker =
    subst (λ (ms : List (List ℕ)). OwnTo peer 7 (messages_sent (k + 2) ms new.broker).now) (sym waits)
    (setup_own (k + 2) new.broker peer joined (join_step t.broker.limits.store App t.broker.journal)) in
    let made : HasIdIn (k + 2) peer 7 later.broker =
    subst (λ (ms : List (List ℕ)). (messages_sent (k + 2) ms new.broker).is_full ≡ false →
    HasIdIn (k + 2) peer 7 (messages_sent (k + 2) ms new.broker).now) (sym waits)
    (setup_made (k + 2) new.broker peer joined (join_step t.broker.limits.store App t.broker.journal)
    (λ none. join_id t.broker.limits.store App t.broker.journal))
    (ap (λ (r : Ran TrialPlay). r.is_full) both.first) in
    let seat : Seated (k + 2) peer (sent who later) =
    subst (λ (r : Ran TrialPlay). Seated (k + 2) peer r.now) (e ∙ ap (λ (u : TrialPlay). went u)
    (sym (ap (λ (u : TrialPlay). sent who u) is ∙ ap (λ (r : Ran TrialPlay). r.now) both.second)))
    (sends_keep (Seated (k + 2) peer) (seated_kept (k + 2) peer) who new joined) in
    let done : IsKnown k (sent who later) = record {
      field = field_sent new_field;
      is = changed_at k field_sent new.fields new_field there;
      peer = peer;
      joined = seat;
      own = own;
      made = made;
      waits = none_wait;
    } in
    subst (λ (u : TrialPlay). IsKnown k u)
    (ap (λ (u : TrialPlay). sent who u) is ∙ ap (λ (r : Ran TrialPlay). r.now) both.second) done

one_join : (t mid : TrialPlay) → AreFollowed nobody_edits (length t.fields) t → length t.fields < 16 →
    field_joined t ≡ went mid →
    IsKnown (length t.fields) mid
unfolding field_joined joined stepped
one_join t mid h l e =
    by (nat_le 64 (number_alive t.broker.journal)) (is_full t.broker.limits t.broker.journal (entries.Join App))
    (can_join t (length t.fields + 1) h.seated (omega arith)) e
  where
    by : (many full : Bool) → many ≡ false →
        (with_broker t (if many then went t.broker
        else (if full then halted t.broker else went (with_step (entries.Join App) no_stamp t.broker)))
        >>= (λ now. sends (whose.Field (length t.fields)) (record now { fields = now.fields ++ new_field ∷ [] })))
        ≡ went mid →
        IsKnown (length t.fields) mid
    by true full q w = cc
    by false true q w = absurd (let no : true ≡ false = ap (λ (r : Ran TrialPlay). r.is_full) w in cc)
    by false false q w = new_known t mid h w

abbrev pub AllKnown : TrialPlay → Type 0
AllKnown t = (k : ℕ) → k < length t.fields → IsKnown k t

pub tight : (most : ℕ) (t : TrialPlay) → AreFollowed nobody_edits most t → AreFollowed nobody_edits (length t.fields) t
tight most t h = record { seated = h.seated; few = omega arith; each = h.each }

-- one more field is known
more_known : (t mid : TrialPlay) → AreFollowed nobody_edits (length t.fields) t → length t.fields < 16 →
    field_joined t ≡ went mid → AllKnown t → AllKnown mid
more_known t mid h l e all k less = by (cases_lt k (length t.fields))
  where
    few : length mid.fields ≤ length t.fields + 1
    few =
        (let f : AreFollowed nobody_edits (length t.fields + 1) mid =
        subst (λ (r : Ran TrialPlay). AreFollowed nobody_edits (length t.fields + 1) r.now) e
        (field_followed (length t.fields) t l h) in f.few)

    by : (k < length t.fields) ⊎ (length t.fields ≤ k) → IsKnown k mid
    by (inl old) =
        subst (λ (r : Ran TrialPlay). IsKnown k r.now) e
        (field_keeps (IsKnown k) (known_played k).seats t (all k old))
    by (inr new) =
        (let most = few in let same : length t.fields ≡ k = omega arith in subst (λ i. IsKnown i mid)
        same (one_join t mid h l e))

pub fields_known : (n : ℕ) (t end : TrialPlay) → AreFollowed nobody_edits (length t.fields) t →
    length t.fields + n ≤ 16 →
    fields_joined n t ≡ went end → AllKnown t → AllKnown end
unfolding fields_joined
fields_known zero t end h l e all = subst (λ (r : Ran TrialPlay). AllKnown r.now) e all
fields_known (suc n) t end h l e all =
    let both = both_went (field_joined t) (fields_joined n) end e in
    let next : AreFollowed nobody_edits (length t.fields + 1) both.mid =
    subst (λ (r : Ran TrialPlay). AreFollowed nobody_edits (length t.fields + 1) r.now) both.first
    (field_followed (length t.fields) t (omega arith) h) in
    fields_known n both.mid end (tight (length t.fields + 1) both.mid next)
    (let few = next.few in omega arith) both.second
    (more_known t both.mid h (omega arith) both.first all)
