-- The batches of a field's log are a front of those that are relayed to it, and all of them where it heard all.
use Rattle.std.proofs.Common.{◌≡◌, ℕ, ◌+◌, ◌≤◌, Bool, true, false, List, length, Some, refl, sym, ap, subst, ◌∙◌, arith, inl, inr, ◌⊎◌}
use Rattle.std.specs.Prelude.{◌==◌}
use Rattle.std.specs.List.{Contains}
use Rattle.std.proofs.lemmas.Bool.{ne_eqb}
use Rattle.std.proofs.lemmas.Option.{same_Some}
use Rattle.broker_steps.specs.declared.limits.Limits.{Limits}
use Rattle.relay_model.specs.declared.act.EndCause.TheVariants.{Full}
use Rattle.relay_model.specs.Batch.{relayed}
use Rattle.relay_model.specs.Idle as idle
use Rattle.trial_field.specs.Log as logs
use Rattle.client_side.specs.Happenings.{Happening}
use Rattle.trial_script.specs.declared.script.Script.{Script}
use Rattle.broker_model.specs.declared.journal.Entry.{Entry}
use Rattle.broker_model.specs.declared.journal.Entry.TheVariants.{End}
use Rattle.broker_model.specs.Ids.{Joined, log_of, peer_at}
use Rattle.broker_model.specs.Law.{maker_of, IsQueued, IsLeftOut}
use Rattle.broker_model.specs.Out.{out_for}
use Rattle.broker_model.specs.Queued.{queued}
use Rattle.broker_model.specs.Resolve.{past_of, resolve}
use Rattle.broker_model.specs.Settle.{history, outer}
use Rattle.broker_model.proofs.IdsAreNames.{made_with}
use Rattle.broker_model.proofs.LabelsRiseByNumber.{one_number}
use Rattle.broker_model.proofs.QueuedForFields.{relay_law}
use Rattle.broker_model.proofs.MadeObjectsStand.{sound}
use Rattle.broker_core.proofs.ToldMessagesFit.{fits_history}
use Rattle.trial_run.specs.Ran.{Ran, went}
use Rattle.trial_run.specs.Trial.{trial_played}
use Rattle.trial_run.specs.Play.{TrialPlay}
use Rattle.broker_telling.specs.Sayable.{AreBytes}
use Rattle.broker_telling.proofs.ActsCanBeSaid.{says_history}
use Rattle.trial_laws.specs.FieldLogs.{bytes_taken, told_in, own_edits}
use Rattle.trial_laws.specs.RelayedBatches.{batches_in, groups_told, IsFrontOf, IsFieldOf}
use Rattle.trial_laws.specs.TrialLaws.{IsRelayed}
use Rattle.trial_laws.specs.RelayedAsBatches.{IsOfBytes, batches_of, TextsAreBatches, FieldsReadAll, UnpausedHaveAllRelayed}
use Rattle.trial_laws.proofs.HeardInPieces.{HasHeard}
use Rattle.trial_laws.proofs.FieldFollowed.{IsFollowed}
use Rattle.trial_laws.proofs.TextsFolded.{trial_followed, within_list, none_played, limits_same}
use Rattle.trial_laws.proofs.ClientIds.{AreOwn}
use Rattle.trial_laws.proofs.ClientsKnown.{IsKnown}
use Rattle.trial_laws.proofs.BatchesRelayed.{AreShortBodies, IsInput, all_fit}
use Rattle.trial_laws.proofs.TextsRelayed.{trial_short, trial_known, is_input, texts_relayed}
use Rattle.trial_laws.proofs.UnpausedHaveAll.{heard_so, unpaused_have_all}
use Rattle.trial_laws.proofs.JournalIsHistory.{trial_history}
use Rattle.trial_laws.proofs.FieldsReadAll.{bytes_say, put_read, reads_all}
use Rattle.trial_laws.proofs.BytesKept.{messages_are_bytes}
use Rattle.trial_laws.proofs.BatchesSaid.{relayed_are}

-- what is relayed by a journal of bytes are batches
pub journal_relays : (journal : List Entry) (f : ℕ) → AreBytes journal → AreShortBodies journal →
    groups_told (relayed (idle.history (resolve journal)) f) ≡ batches_of journal f
journal_relays journal f bytes short =
    relayed_are (idle.history (resolve journal)) f (says_history false (resolve journal) (bytes_say journal bytes))
    (fits_history (resolve journal) (all_fit journal short))

-- the messages of a trial that is played out
trial_bytes : (limits : Limits) (script : Script) (t : TrialPlay) → IsOfBytes script →
    trial_played limits script ≡ went t → AreBytes t.broker.journal
trial_bytes limits script t texts e =
    subst (λ (r : Ran TrialPlay). AreBytes r.now.broker.journal) e (messages_are_bytes limits script texts)

pub texts_batched : TextsAreBatches
texts_batched limits script t k field few e is texts =
    let bytes : AreBytes t.broker.journal = trial_bytes limits script t texts e in
    let r : IsRelayed limits script t.broker.journal k field = texts_relayed limits script t k field few e is in
    let short : AreShortBodies t.broker.journal =
    subst (λ (x : Ran TrialPlay). AreShortBodies x.now.broker.journal) e (trial_short limits script) in
    record {
      folded = r.folded;
      batches = λ f h.
          subst (λ (l : List Happening). IsFrontOf (batches_in (told_in r.folded.log)) l)
          (journal_relays t.broker.journal f bytes short)
          (r.batches f h);
      none = r.none;
    }

pub fields_read_all : FieldsReadAll
fields_read_all limits script t k field few e is texts = by (script.fields == 0) refl
    (trial_bytes limits script t texts e)
  where
    by : (none : Bool) → (script.fields == 0) ≡ none → AreBytes t.broker.journal → field.client.is_bad ≡ false
    by true n bytes = absurd (none_played limits script t k field n e is)
    by false n bytes =
        let journal : List Entry = t.broker.journal in
        let within = within_list t.fields k field is in
        let own : List logs.Entry = own_edits script.actions k in
        let fol : IsFollowed k own t = (trial_followed limits script t few n e).each k within in
        let known : IsKnown k t = trial_known limits script t few n e k within in
        let limited : t.broker.limits ≡ limits =
        subst (λ (r : Ran TrialPlay). r.now.broker.limits ≡ limits) e (limits_same limits script) in
        let peer : known.peer ≡ fol.peer = same_Some known.peer fol.peer (sym known.joined ∙ fol.joined) in
        let heard : HasHeard (bytes_taken limits.store journal fol.peer.label) field.client own =
        heard_so limits t k field fol.peer own limited fol (same_Some fol.field field (sym fol.is ∙ is)) refl in
        let short : AreShortBodies journal =
        subst (λ (r : Ran TrialPlay). AreShortBodies r.now.broker.journal) e (trial_short limits script) in
        let owns : AreOwn (past_of journal).made fol.peer.label 7 =
        subst (λ (x : Joined). AreOwn (past_of journal).made x.label 7) peer known.own in
        reads_all (out_for limits.store journal fol.peer.label).put.bytes
        (out_for limits.store journal fol.peer.label).taken field.client own
        (put_read limits.store journal fol.peer.label owns short bytes) heard

-- the field was made by its peer
pub field_made : (journal : List Entry) (p f : ℕ) → IsInput journal p f → IsFieldOf journal p f →
    maker_of (log_of (past_of journal)) f ≡ Some p
field_made journal p f input h =
    let with = made_with (past_of journal).made f h.made h.is in
    let within : h.made.label ≤ length journal = (sound journal h.made with.among).within in
    input.maker (subst (λ n. n ≤ length journal) with.named within)

-- a group that was left out was one of the field's peer, which was ended for it
all_queued : (capacity : ℕ) (journal : List Entry) (k f : ℕ) (peer : Joined) →
    peer_at (past_of journal) (k + 2) ≡ Some peer →
    maker_of (log_of (past_of journal)) f ≡ Some peer.label → (Contains journal (End (k + 2) Full) → ⊥) →
    IsQueued capacity journal f ⊎ IsLeftOut capacity journal f →
    groups_told (queued capacity journal f) ≡ groups_told (relayed (idle.history (resolve journal)) f)
all_queued capacity journal k f peer joined made lives (inl q) = ap groups_told q
all_queued capacity journal k f peer joined made lives (inr l) =
    let same : l.peer.label ≡ peer.label = same_Some l.peer.label peer.label (sym l.made ∙ made) in
    let number : l.number ≡ k + 2 = one_number journal l.number (k + 2) l.peer peer l.joined joined same in
    absurd (lives (subst (λ n. Contains journal (End n Full)) number l.ended))

pub unpaused_have_all_relayed : UnpausedHaveAllRelayed
unpaused_have_all_relayed limits script first more t k field a some few e is texts going lives folded f h =
    let none : (script.fields == 0) ≡ false = ne_eqb script.fields 0 (λ z. absurd (omega arith)) in
    let journal : List Entry = t.broker.journal in
    let good : field.client.is_bad ≡ false = fields_read_all limits script t k field few e is texts in
    let bytes : AreBytes journal = trial_bytes limits script t texts e in
    let short : AreShortBodies journal =
    subst (λ (r : Ran TrialPlay). AreShortBodies r.now.broker.journal) e (trial_short limits script) in
    let steps : history limits.store (outer journal) ≡ journal =
    subst (λ (r : Ran TrialPlay). history limits.store (outer r.now.broker.journal) ≡ r.now.broker.journal) e
    (trial_history limits script) in
    let known : IsKnown k t = trial_known limits script t few none e k (within_list t.fields k field is) in
    let peer : known.peer ≡ folded.peer = same_Some known.peer folded.peer (sym known.joined ∙ folded.joined) in
    let input : IsInput journal folded.peer.label f =
    is_input journal folded.peer.label f
    (subst (λ (x : Joined). AreOwn (past_of journal).made x.label 7) peer known.own) h in
    unpaused_have_all limits script first more t k field a some few e is going good folded f h
    ∙ all_queued limits.store journal k f folded.peer folded.joined
    (field_made journal folded.peer.label f input h) lives
    (subst (λ (j : List Entry). IsQueued limits.store j f ⊎ IsLeftOut limits.store j f) steps
    (relay_law limits.store (outer journal) f))
    ∙ journal_relays journal f bytes short
