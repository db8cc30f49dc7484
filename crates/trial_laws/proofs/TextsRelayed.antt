-- The batches of a field's log are a front of those that the one journal relays to it.
use Rattle.std.proofs.Common.{◌≡◌, ℕ, zero, suc, ◌+◌, ◌%◌, ◌^◌, ◌≤◌, ◌<◌, Bool, true, false, List, [], ◌∷◌, ◌++◌, length, take, drop, Option, Some, None, refl, sym, ap, subst, ◌∙◌, arith, inl, inr, ◌⊎◌}
use Rattle.std.specs.Prelude.{◌==◌, ◌&&◌, if◌then◌else◌}
use Rattle.std.proofs.lemmas.List.{append-nil, append_assoc, take-append-drop}
use Rattle.std.proofs.lemmas.Bool.{ne_eqb}
use Rattle.std.proofs.lemmas.Option.{same_Some}
use Rattle.broker_steps.specs.declared.limits.Limits.{Limits}
use Rattle.wl_wire.specs.Messages.{messages}
use Rattle.wl_proto.specs.declared.interface.Interface.TheVariants as interface
use Rattle.relay_model.specs.declared.act.Act.{Act}
use Rattle.relay_model.specs.Objects.{is_at}
use Rattle.relay_model.specs.Hold.{holder}
use Rattle.relay_model.specs.Activation.{fresh}
use Rattle.relay_model.specs.Batch.{group_of, relayed}
use Rattle.relay_model.proofs.ActsOrIdle.{IsHistory, history_is}
use Rattle.relay_model.proofs.FocusLaws.{and_false}
use Rattle.relay_model.proofs.HoldLaws.{holder_within}
use Rattle.relay_model.specs.Idle as idle
use Rattle.trial_field.specs.Log.{no_edits}
use Rattle.client_side.specs.Happenings.{Happening}
use Rattle.trial_script.specs.declared.script.Script.{Script}
use Rattle.broker_model.specs.declared.journal.Entry.{Entry}
use Rattle.broker_model.specs.Ids.{Made, Joined, log_of, made_as}
use Rattle.broker_model.specs.Law.{maker_of, IsQueued, IsLeftOut}
use Rattle.broker_model.specs.Out.{act_now, out_for}
use Rattle.broker_model.specs.Queued.{relays, is_put, queued}
use Rattle.broker_model.proofs.LivePeersJoined.{length_log}
use Rattle.broker_model.specs.Resolve.{past_of, resolve}
use Rattle.broker_model.specs.Settle.{due, with_end, settled, number_alive, history, outer}
use Rattle.broker_model.proofs.IdsAreNames.{IsWith, made_with}
use Rattle.broker_model.proofs.QueuedForFields.{relay_law}
use Rattle.broker_model.proofs.MadeObjectsStand.{sound}
use Rattle.broker_core.specs.Broker.{Broker}
use Rattle.trial_run.specs.Ran.{Ran, went, ◌>>=◌}
use Rattle.trial_run.specs.Play.{TrialPlay}
use Rattle.trial_run.specs.Lines.{actions_played}
use Rattle.trial_run.specs.Trial.{unplayed, typist_of, method_joined, fields_joined, played_with, trial_played}
use Rattle.trial_laws.specs.FieldLogs.{told_in, bytes_taken, events_in, happenings}
use Rattle.trial_laws.specs.RelayedBatches.{batches_in, group_told, groups_told, IsFrontOf, IsFieldOf}
use Rattle.trial_laws.specs.TrialLaws.{IsFolded, IsRelayed, TextsAreRelayed}
use Rattle.trial_laws.proofs.PhasesKeep.{of_broker, trial_keeps, actions_keep}
use Rattle.trial_laws.proofs.JournalIsHistory.{trial_history}
use Rattle.trial_laws.proofs.TakesCount.{both_went}
use Rattle.trial_laws.proofs.HeardInPieces.{messages_on}
use Rattle.trial_laws.proofs.FieldsJoin.{AreFollowed, nobody_edits, fields_followed, method_followed}
use Rattle.trial_laws.proofs.TextsFolded.{actions_followed, within_list, none_played, texts_folded}
use Rattle.trial_laws.proofs.ClientsKnown.{IsKnown, AllKnown, tight, known_played, fields_known}
use Rattle.client_side.specs.Events.{object_in, field_objects}
use Rattle.trial_laws.proofs.ClientIds.{AreOwn}
use Rattle.trial_laws.proofs.TextInputsMade.{input_made}
use Rattle.trial_laws.proofs.GroupsHeard.{front_batches, tells_front}
use Rattle.trial_laws.proofs.BatchesRelayed.{AreShortBodies, IsInput, IsTold, messages_joined, groups-append, all_told}

-- ---- every trial

-- bodies are as short as messages are

end_short : (journal : List Entry) (o : Option ℕ) → AreShortBodies journal → AreShortBodies (with_end journal o)
end_short journal None h = h
end_short journal (Some q) h = (tt, h)

settled_short : (capacity n : ℕ) (journal : List Entry) → AreShortBodies journal →
    AreShortBodies (settled capacity n journal)
settled_short capacity zero journal h = h
settled_short capacity (suc n) journal h =
    settled_short capacity n (with_end journal (due capacity journal)) (end_short journal (due capacity journal) h)

pub trial_short : (limits : Limits) (script : Script) → AreShortBodies (trial_played limits script).now.broker.journal
trial_short limits script =
    trial_keeps (λ t. AreShortBodies t.broker.journal)
    (of_broker (λ (b : Broker). AreShortBodies b.journal)
    (λ e b o s f h. settled_short b.limits.store (number_alive (e ∷ b.journal)) (e ∷ b.journal) (s, h)))
    limits script tt

-- the objects of each field's peer are those of its client
pub trial_known : (limits : Limits) (script : Script) (t : TrialPlay) → script.fields ≤ 16 →
    (script.fields == 0) ≡ false →
    trial_played limits script ≡ went t → AllKnown t
unfolding played_with
trial_known limits script t few some e k l =
    let start : TrialPlay = unplayed limits (typist_of script) in
    let time : ℕ = script.first_line % 2 ^ 32 in
    let parts : ((method_joined start >>= fields_joined script.fields) >>= actions_played time script.actions)
    ≡ went t =
    ap (λ (none : Bool). if none then went start
    else (method_joined start >>= fields_joined script.fields) >>= actions_played time script.actions)
    (sym some) ∙ e in
    let both = both_went (method_joined start >>= fields_joined script.fields) (actions_played time script.actions)
    t parts in
    let joined = both_went (method_joined start) (fields_joined script.fields) both.mid both.first in
    let first : AreFollowed nobody_edits 0 joined.mid = method_followed start joined.mid refl refl joined.first in
    let none : length joined.mid.fields ≤ 0 = first.few in
    let mid : AreFollowed nobody_edits (0 + script.fields) both.mid =
    subst (λ (r : Ran TrialPlay). AreFollowed nobody_edits (0 + script.fields) r.now) joined.second
    (fields_followed script.fields 0 joined.mid (omega arith) first) in
    let all : AllKnown both.mid =
    fields_known script.fields joined.mid both.mid (tight 0 joined.mid first) (omega arith) joined.second
    (λ j less. absurd (omega arith)) in
    let end = actions_followed nobody_edits (length both.mid.fields) time script.actions both.mid t
    (tight (0 + script.fields) both.mid mid) both.second in
    subst (λ (r : Ran TrialPlay). IsKnown k r.now) both.second
    (actions_keep (IsKnown k) (known_played k) time script.actions both.mid
    (all k (let same = end.few in omega arith)))

-- ---- fronts

pub front_on : {A : Type 0} (xs ys zs : List A) → IsFrontOf xs ys → IsFrontOf ys zs → IsFrontOf xs zs
front_on xs ys zs f g = record {
  rest = f.rest ++ g.rest;
  is = sym (append_assoc xs f.rest g.rest) ∙ ap (λ l. l ++ g.rest) f.is ∙ g.is;
}

-- what was queued is a front of what is relayed
pub queued_front : (capacity : ℕ) (journal : List Entry) (f : ℕ) → history capacity (outer journal) ≡ journal →
    IsFrontOf (groups_told (queued capacity journal f)) (groups_told (relayed (idle.history (resolve journal)) f))
queued_front capacity journal f e =
    by (subst (λ (j : List Entry). IsQueued capacity j f ⊎ IsLeftOut capacity j f)
    e (relay_law capacity (outer journal) f))
  where
    by : IsQueued capacity journal f ⊎ IsLeftOut capacity journal f →
        IsFrontOf (groups_told (queued capacity journal f)) (groups_told (relayed (idle.history (resolve journal)) f))
    by (inl q) = record { rest = []; is = append-nil _ ∙ ap groups_told q }
    by (inr l) = record {
      rest = group_told l.last;
      is = sym (groups-append (queued capacity journal f) l.last) ∙ ap groups_told l.all_but_last;
    }

-- what was taken tells a front of what all that was put tells
taken_front : (capacity : ℕ) (journal : List Entry) (p f : ℕ) → IsInput journal p f → AreShortBodies journal →
    IsFrontOf (batches_in (happenings (events_in (messages (bytes_taken capacity journal p))) no_edits))
    (groups_told (queued capacity journal f))
taken_front capacity journal p f h short =
    let told : IsTold capacity journal p f = all_told capacity journal p f h short in
    let put : List ℕ = (out_for capacity journal p).put.bytes in
    let n : ℕ = (out_for capacity journal p).taken in
    let found : messages put ≡ told.messages = ap messages told.bytes ∙ messages_joined told.messages told.each in
    let split : messages put ≡ messages (take n put) ++ messages _ =
    ap messages (sym (take-append-drop n put)) ∙ messages_on (take n put) (drop n put) in
    front_on _ _ _ (front_batches (messages (take n put)) _)
    (subst (λ (ms : List (List ℕ)). IsFrontOf (batches_in (happenings (events_in ms) no_edits))
    (groups_told (queued capacity journal f))) (sym found ∙ split)
    (tells_front told.messages (groups_told (queued capacity journal f)) told.tells))

-- ---- the law

-- the field of its peer
pub is_input : (journal : List Entry) (p f : ℕ) → AreOwn (past_of journal).made p 7 → IsFieldOf journal p f →
    IsInput journal p f
is_input journal p f own h =
    let made : List Made = (past_of journal).made in
    let with : IsWith made f h.made = made_with made f h.made h.is in
    let known : object_in field_objects 7 ≡ Some h.made.interface =
    subst (λ id. object_in field_objects id ≡ Some h.made.interface) h.input (own.known h.made with.among h.own) in
    let is_text_input : h.made.interface ≡ interface.TextInput =
    sym (same_Some interface.TextInput h.made.interface known) in
    record {
      own = own;
      mine = λ m i label.
          let same : m ≡ h.made =
          same_Some m h.made (sym (sound journal m i).known ∙ ap (made_as made) label ∙ h.is) in
          (ap (λ (x : Made). x.peer) same ∙ h.own, ap (λ (x : Made). x.id) same ∙ h.input);
      only = λ m i peer id. own.once m h.made i with.among peer h.own (id ∙ sym h.input) ∙ with.named;
      maker = λ l.
          ap (maker_of (log_of (past_of journal))) (sym with.named)
          ∙ input_made journal h.made with.among is_text_input ∙ ap Some h.own;
    }

-- where the peer made no field, none of its ids is that of a field to come
pub no_input : (journal : List Entry) (p : ℕ) → AreOwn (past_of journal).made p 7 →
    ((f : ℕ) → IsFieldOf journal p f → ⊥) → IsInput journal p (length journal + 1)
no_input journal p own none = record {
  own = own;
  mine = λ m i label. absurd (let within = (sound journal m i).within in omega arith);
  only = λ m i peer id.
      absurd (none m.label (record { made = m; is = (sound journal m i).known; own = peer; input = id }));
  maker = λ l. absurd (omega arith);
}

-- and nothing is queued for that
not_held : (log : List Act) (f : ℕ) → IsHistory log → length log < f → is_at (holder log) f ≡ false
not_held log f i l = by (holder log) refl
  where
    by : (o : Option ℕ) → holder log ≡ o → is_at o f ≡ false
    by None e = refl
    by (Some h) e = ne_eqb h f (λ same. (let w = holder_within log h i e in absurd (omega arith)))

pub queued_none : (capacity : ℕ) (journal : List Entry) (f : ℕ) → length journal < f → queued capacity journal f ≡ []
queued_none capacity [] f l = refl
queued_none capacity (e ∷ older) f l =
    let log : List Act = log_of (past_of older) in
    let held : is_at (holder log) f ≡ false =
    not_held log f (history_is (resolve older)) (let n = length_log older in omega arith) in
    let no : relays e older f ≡ false =
    ap (λ (b : Bool). fresh (act_now e older) log && b) held ∙ and_false (fresh (act_now e older) log) in
    ap (λ (r : Bool). if r && is_put capacity e older f
    then queued capacity older f ++ group_of (act_now e older) log f ∷ [] else queued capacity older f) no
    ∙ queued_none capacity older f (omega arith)

pub none_in_front : (xs ys : List Happening) → ys ≡ [] → IsFrontOf xs ys → xs ≡ []
none_in_front [] ys e f = refl
none_in_front (x ∷ xs) ys e f = absurd (let is = ap length (f.is ∙ e) in omega arith)

pub texts_relayed : TextsAreRelayed
texts_relayed limits script t k field few e is = by (script.fields == 0) refl
  where
    by : (none : Bool) → (script.fields == 0) ≡ none → IsRelayed limits script t.broker.journal k field
    by true n = absurd (none_played limits script t k field n e is)
    by false n =
        let folded : IsFolded limits script t.broker.journal k field = texts_folded limits script t k field few e is in
        let known : IsKnown k t = trial_known limits script t few n e k (within_list t.fields k field is) in
        let peer : known.peer ≡ folded.peer = same_Some known.peer folded.peer (sym known.joined ∙ folded.joined) in
        let journal : List Entry = t.broker.journal in
        let short : AreShortBodies journal =
        subst (λ (r : Ran TrialPlay). AreShortBodies r.now.broker.journal) e (trial_short limits script) in
        let steps : history limits.store (outer journal) ≡ journal =
        subst (λ (r : Ran TrialPlay). history limits.store (outer r.now.broker.journal) ≡ r.now.broker.journal) e
        (trial_history limits script) in
        record {
          folded = folded;
          batches = λ f h.
              let input : IsInput journal folded.peer.label f = is_input journal folded.peer.label f
              (subst (λ (x : Joined). AreOwn (past_of journal).made x.label 7) peer known.own) h in
              subst (λ (l : List Happening). IsFrontOf (batches_in l)
              (groups_told (relayed (idle.history (resolve journal)) f))) (sym folded.told)
              (front_on _ _ _ (taken_front limits.store journal folded.peer.label f input short)
              (queued_front limits.store journal f steps));
          none = λ no.
              let own : AreOwn (past_of journal).made folded.peer.label 7 =
              subst (λ (x : Joined). AreOwn (past_of journal).made x.label 7) peer known.own in
              none_in_front (batches_in (told_in folded.log))
              (groups_told (queued limits.store journal (length journal + 1)))
              (ap groups_told (queued_none limits.store journal (length journal + 1) (omega arith)))
              (subst (λ (l : List Happening). IsFrontOf (batches_in l)
              (groups_told (queued limits.store journal (length journal + 1)))) (sym folded.told)
              (taken_front limits.store journal folded.peer.label (length journal + 1)
              (no_input journal folded.peer.label own no) short));
        }
