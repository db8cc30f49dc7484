-- A field that isn't paused, and to which nothing unreadable came, has all batches that were queued for it.
use Rattle.std.proofs.Common.{◌≡◌, ℕ, ◌+◌, false, List, ◌∷◌, ◌++◌, length, sym, ap, subst, ◌∙◌, arith, inl, inr, length-append}
use Rattle.std.specs.Prelude.{◌==◌}
use Rattle.std.proofs.lemmas.Bool.{ne_eqb}
use Rattle.std.proofs.lemmas.Option.{same_Some}
use Rattle.broker_steps.specs.declared.limits.Limits.{Limits}
use Rattle.wl_wire.specs.Messages.{messages}
use Rattle.trial_field.specs.Log.{Entry, no_edits}
use Rattle.client_side.specs.Happenings.{Happening}
use Rattle.broker_model.specs.declared.journal.Entry as journals
use Rattle.broker_model.specs.Ids.{Joined}
use Rattle.broker_model.specs.Queued.{queued}
use Rattle.broker_model.specs.Resolve.{past_of}
use Rattle.trial_run.specs.Ran.{Ran}
use Rattle.trial_run.specs.Play.{FieldPlay, TrialPlay}
use Rattle.trial_laws.specs.FieldLogs.{bytes_taken, events_in, happenings, own_edits}
use Rattle.trial_laws.specs.RelayedBatches.{batches_in, groups_told}
use Rattle.trial_laws.specs.TrialLaws.{UnpausedHaveAll}
use Rattle.trial_laws.proofs.HeardInPieces.{HasHeard}
use Rattle.trial_laws.proofs.FieldFollowed.{IsFollowed}
use Rattle.trial_laws.proofs.TextsFolded.{trial_followed, within_list, limits_same}
use Rattle.trial_laws.proofs.ClientIds.{AreOwn}
use Rattle.trial_laws.proofs.ClientsKnown.{IsKnown}
use Rattle.trial_laws.proofs.GroupsHeard.{IsStopped, Tells}
use Rattle.trial_laws.proofs.GroupsRead.{some_event}
use Rattle.trial_laws.proofs.BatchesRelayed.{AreShortBodies, IsInput, IsTold, messages_joined, all_told}
use Rattle.trial_laws.proofs.TextsRelayed.{trial_short, trial_known, is_input}
use Rattle.trial_laws.proofs.UnpausedHearAll.{unpaused_hear_all}

-- who hears what comes behind messages wasn't stopped by them
not_stopped : (ms : List (List ℕ)) → IsStopped ms →
    ((more : List (List ℕ)) → events_in (ms ++ more) ≡ events_in ms ++ events_in more) → ⊥
not_stopped ms s h =
    let x = some_event in
    let longer : length (events_in ms ++ events_in x.0) ≡ length (events_in ms) = ap length (sym (h x.0) ∙ s x.0) in
    let parts : length (events_in ms ++ events_in x.0) ≡ length (events_in ms) + length (events_in x.0) =
    length-append (events_in ms) (events_in x.0) in
    let some : length (events_in x.0) ≡ length (x.1 ∷ x.2) = ap length x.3 in
    absurd (omega arith)

all_of : (ms : List (List ℕ)) (told : List Happening) → Tells ms told →
    ((more : List (List ℕ)) → events_in (ms ++ more) ≡ events_in ms ++ events_in more) →
    batches_in (happenings (events_in ms) no_edits) ≡ told
all_of ms told (inl g) h = g.is
all_of ms told (inr s) h = absurd (not_stopped ms s.stopped h)

pub heard_so : (limits : Limits) (t : TrialPlay) (k : ℕ) (field : FieldPlay) (peer : Joined) (own : List Entry) →
    t.broker.limits ≡ limits → (f : IsFollowed k own t) → f.field ≡ field → f.peer ≡ peer →
    HasHeard (bytes_taken limits.store t.broker.journal peer.label) field.client own
heard_so limits t k field peer own l f same who =
    subst (λ (p : Joined). HasHeard (bytes_taken limits.store t.broker.journal p.label) field.client own) who
    (subst (λ (x : FieldPlay). HasHeard (bytes_taken limits.store t.broker.journal f.peer.label) x.client own) same
    (subst (λ (x : Limits). HasHeard (bytes_taken x.store t.broker.journal f.peer.label) f.field.client own) l f.heard))

pub unpaused_have_all : UnpausedHaveAll
unpaused_have_all limits script first more t k field a some few e is going good folded f h =
    let none : (script.fields == 0) ≡ false = ne_eqb script.fields 0 (λ z. absurd (omega arith)) in
    let journal : List journals.Entry = t.broker.journal in
    let within = within_list t.fields k field is in
    let own : List Entry = own_edits script.actions k in
    let fol : IsFollowed k own t = (trial_followed limits script t few none e).each k within in
    let known : IsKnown k t = trial_known limits script t few none e k within in
    let peer : known.peer ≡ folded.peer = same_Some known.peer folded.peer (sym known.joined ∙ folded.joined) in
    let limited : t.broker.limits ≡ limits =
    subst (λ (r : Ran TrialPlay). r.now.broker.limits ≡ limits) e (limits_same limits script) in
    let heard : HasHeard (bytes_taken limits.store journal folded.peer.label) field.client own =
    heard_so limits t k field folded.peer own limited fol (same_Some fol.field field (sym fol.is ∙ is))
    (same_Some fol.peer folded.peer (sym fol.joined ∙ folded.joined)) in
    let short : AreShortBodies journal =
    subst (λ (r : Ran TrialPlay). AreShortBodies r.now.broker.journal) e (trial_short limits script) in
    let input : IsInput journal folded.peer.label f =
    is_input journal folded.peer.label f
    (subst (λ (x : Joined). AreOwn (past_of journal).made x.label 7) peer known.own) h in
    let told : IsTold limits.store journal folded.peer.label f =
    all_told limits.store journal folded.peer.label f input short in
    let taken : messages (bytes_taken limits.store journal folded.peer.label) ≡ told.messages =
    ap messages (unpaused_hear_all limits script first more t k field folded.peer a some e is going folded.joined
    ∙ told.bytes) ∙ messages_joined told.messages told.each in
    ap batches_in folded.told
    ∙ ap (λ (ms : List (List ℕ)). batches_in (happenings (events_in ms) no_edits)) taken
    ∙ all_of told.messages (groups_told (queued limits.store journal f)) told.tells
    (subst (λ (ms : List (List ℕ)). (more : List (List ℕ)) → events_in (ms ++ more) ≡ events_in ms ++ events_in more)
    taken
    (heard.going good).spelled)
