-- The steps of a peer in a journal, and the requests that the method's client sends.
use Rattle.std.proofs.Common.{◌≡◌, ℕ, zero, suc, ◌+◌, Bool, true, false, List, [], ◌∷◌, ◌++◌, length, Option, Some, None, refl, sym, ap, subst, ◌∙◌, append_assoc}
use Rattle.std.specs.Prelude.{if◌then◌else◌}
use Rattle.std.proofs.lemmas.List.{append-nil}
use Rattle.relay_model.specs.declared.act.EndCause.TheVariants.{Bad, Full}
use Rattle.relay_model.specs.Objects.{is_peer}
use Rattle.wl_wire.specs.Messages.{opcode_of, body_of}
use Rattle.wl_proto.proofs.WrittenIsWhole.{written_whole}
use Rattle.client_side.specs.Messages.{Sent}
use Rattle.broker_model.specs.declared.journal.Entry.{Entry}
use Rattle.broker_model.specs.declared.journal.Entry.TheVariants as entries
use Rattle.broker_model.specs.Ids.{Joined, log_of, peer_in, peer_at}
use Rattle.broker_model.specs.Limits.{is_full}
use Rattle.broker_model.specs.Out.{took_at, out_for}
use Rattle.broker_model.specs.Resolve.{past_of}
use Rattle.broker_model.specs.Settle.{refused, due, cause_of, with_end, settled, settle, number_alive}
use Rattle.broker_model.specs.Stamps.{no_stamp}
use Rattle.broker_model.proofs.LabelsRiseByNumber.{label_within}
use Rattle.broker_model.proofs.LivePeersJoined.{joined_stays}
use Rattle.broker_model.proofs.TablesNameObjects.{before}
use Rattle.broker_core.specs.Broker.{Broker, with_step}
use Rattle.broker_core.specs.Taking.{lives_in, lives}
use Rattle.trial_run.specs.Ran.{Ran, went, halted, ◌>>=◌}
use Rattle.trial_run.specs.Steps.{stepped, message_entry, messages_sent, next_bytes}
use Rattle.trial_laws.specs.FieldLogs.{bytes_taken}
use Rattle.trial_laws.specs.RelayedBatches.{IsFrontOf}
use Rattle.trial_laws.proofs.BytesTaken.{Grows, step_grows, end_joined, step_peer, own_take, IsWithinPut, still_within, same_taken, next_is, more_taken}
use Rattle.trial_laws.proofs.RequestsWait.{IsShortSent, AreShortSent, bytes_of, bytes_each}
use Rattle.trial_laws.specs.TypedLogs.{is_step_of, steps_by, step_of_request, steps_of}
use Rattle.trial_laws.proofs.TrialSteps.{IsTrialStep, IsOfTrial, still_of_trial}

-- ---- the steps of a peer

pub steps-append : (q : ℕ) (a b : List Sent) → steps_of q (a ++ b) ≡ steps_of q a ++ steps_of q b
steps-append q [] b = refl
steps-append q (s ∷ a) b = ap (λ (l : List Entry). step_of_request q s ∷ l) (steps-append q a b)

-- ends that follow are no steps
end_steps : (journal : List Entry) (o : Option ℕ) (q : ℕ) → steps_by (with_end journal o) q ≡ steps_by journal q
end_steps journal None q = refl
end_steps journal (Some k) q = by (refused journal k)
  where
    by : (b : Bool) → steps_by (entries.End k (if b then Bad else Full) ∷ journal) q ≡ steps_by journal q
    by true = append-nil (steps_by journal q)
    by false = append-nil (steps_by journal q)

settled_steps : (capacity fuel : ℕ) (journal : List Entry) (q : ℕ) →
    steps_by (settled capacity fuel journal) q ≡ steps_by journal q
settled_steps capacity zero journal q = refl
settled_steps capacity (suc n) journal q =
    settled_steps capacity n (with_end journal (due capacity journal)) q ∙ end_steps journal (due capacity journal) q

pub step_steps : (capacity : ℕ) (e : Entry) (journal : List Entry) (q : ℕ) →
    steps_by (settle capacity (e ∷ journal)) q ≡ steps_by journal q ++ (if is_step_of q e then e ∷ [] else [])
step_steps capacity e journal q = settled_steps capacity (number_alive (e ∷ journal)) (e ∷ journal) q

-- ---- who lives now lived before

one_lives : (e : Entry) (older : List Entry) (q : ℕ) (peer : Joined) → peer_at (past_of older) q ≡ Some peer →
    lives (e ∷ older) q ≡ true → lives older q ≡ true
one_lives e older q peer j h =
    let later : peer_at (past_of (e ∷ older)) q ≡ Some peer =
    joined_stays e (length older + 1) (past_of older).joined q peer j in
    let now : is_peer (log_of (past_of (e ∷ older))) peer.label ≡ true = sym (ap (lives_in (e ∷ older)) later) ∙ h in
    ap (lives_in older) j ∙ (before e older peer.label now (label_within older q peer j)).peer

end_lives : (journal : List Entry) (o : Option ℕ) (q : ℕ) (peer : Joined) → peer_at (past_of journal) q ≡ Some peer →
    lives (with_end journal o) q ≡ true → lives journal q ≡ true
end_lives journal None q peer j h = h
end_lives journal (Some k) q peer j h = one_lives (entries.End k (cause_of journal k)) journal q peer j h

settled_lives : (capacity fuel : ℕ) (journal : List Entry) (q : ℕ) (peer : Joined) →
    peer_at (past_of journal) q ≡ Some peer → lives (settled capacity fuel journal) q ≡ true → lives journal q ≡ true
settled_lives capacity zero journal q peer j h = h
settled_lives capacity (suc n) journal q peer j h =
    end_lives journal (due capacity journal) q peer j
    (settled_lives capacity n (with_end journal (due capacity journal)) q peer
    (end_joined (λ joined. peer_in joined q ≡ Some peer) journal (due capacity journal) j) h)

step_lives : (capacity : ℕ) (e : Entry) (journal : List Entry) (q : ℕ) (peer : Joined) →
    peer_at (past_of journal) q ≡ Some peer → lives (settle capacity (e ∷ journal)) q ≡ true → lives journal q ≡ true
step_lives capacity e journal q peer j h =
    one_lives e journal q peer j
    (settled_lives capacity (number_alive (e ∷ journal)) (e ∷ journal) q peer
    (joined_stays e (length journal + 1) (past_of journal).joined q peer j) h)

-- ---- what the method's peer said

-- its steps are the first of these requests, and all of them while it lives
pub record HasSaid (sent : List Sent) (journal : List Entry) : Type 0 where
  pub front : IsFrontOf (steps_by journal 1) (steps_of 1 sent)
  pub all : lives journal 1 ≡ true → steps_by journal 1 ≡ steps_of 1 sent

other_said : (capacity : ℕ) (e : Entry) (journal : List Entry) (peer : Joined) (sent : List Sent) →
    peer_at (past_of journal) 1 ≡ Some peer → is_step_of 1 e ≡ false → HasSaid sent journal →
    HasSaid sent (settle capacity (e ∷ journal))
other_said capacity e journal peer sent j n h =
    let same : steps_by (settle capacity (e ∷ journal)) 1 ≡ steps_by journal 1 =
    step_steps capacity e journal 1
    ∙ ap (λ (b : Bool). steps_by journal 1 ++ (if b then e ∷ [] else [])) n ∙ append-nil (steps_by journal 1) in
    record {
      front = (let f = h.front in
          record { rest = f.rest; is = ap (λ (l : List Entry). l ++ f.rest) same ∙ f.is });
      all = λ l. same ∙ h.all (step_lives capacity e journal 1 peer j l);
    }

own_said : (capacity : ℕ) (s : Sent) (journal : List Entry) (sent : List Sent) → lives journal 1 ≡ true →
    HasSaid sent journal → HasSaid (sent ++ s ∷ []) (settle capacity (step_of_request 1 s ∷ journal))
own_said capacity s journal sent l h =
    let e : Entry = step_of_request 1 s in
    let same : steps_by (settle capacity (e ∷ journal)) 1 ≡ steps_of 1 (sent ++ s ∷ []) =
    step_steps capacity e journal 1 ∙ ap (λ (l : List Entry). l ++ e ∷ []) (h.all l)
    ∙ sym (steps-append 1 sent (s ∷ [])) in
    record { front = record { rest = []; is = append-nil _ ∙ same }; all = λ k. same }

dead_said : (journal : List Entry) (sent more : List Sent) → lives journal 1 ≡ false → HasSaid sent journal →
    HasSaid (sent ++ more) journal
dead_said journal sent more d h = record {
  front = (let f = h.front in record {
    rest = f.rest ++ steps_of 1 more;
    is =
        sym (append_assoc (steps_by journal 1) f.rest (steps_of 1 more))
        ∙ ap (λ (l : List Entry). l ++ steps_of 1 more) f.is ∙ sym (steps-append 1 sent more);
  });
  all = λ l. absurd (let no : true ≡ false = sym l ∙ d in cc);
}

-- ---- what it did

-- the method's peer joined, took these bytes, and said these requests, in a journal of a trial
pub record PeerDid (peer : Joined) (bytes : List ℕ) (sent : List Sent) (b : Broker) : Type 0 where
  pub joined : peer_at (past_of b.journal) 1 ≡ Some peer
  pub within : IsWithinPut (out_for b.limits.store b.journal peer.label)
  pub taken : bytes_taken b.limits.store b.journal peer.label ≡ bytes
  pub said : HasSaid sent b.journal
  pub steps : IsOfTrial b.journal

-- a step that takes nothing of it
entry_did : (e : Entry) (b : Broker) (peer : Joined) (bytes : List ℕ) (old new : List Sent) →
    took_at e (past_of b.journal) peer.label ≡ 0 → IsTrialStep e →
    HasSaid new (settle b.limits.store (e ∷ b.journal)) → PeerDid peer bytes old b →
    PeerDid peer bytes new (with_step e no_stamp b)
entry_did e b peer bytes old new none s said h =
    let g : Grows 0 (out_for b.limits.store b.journal peer.label)
    (out_for b.limits.store (settle b.limits.store (e ∷ b.journal)) peer.label) =
    subst (λ n. Grows n (out_for b.limits.store b.journal peer.label)
    (out_for b.limits.store (settle b.limits.store (e ∷ b.journal)) peer.label)) none
    (step_grows b.limits.store e b.journal peer.label) in
    record {
      joined = step_peer b.limits.store e b.journal 1 peer h.joined;
      within = still_within _ _ g h.within;
      taken = same_taken _ _ g h.within ∙ h.taken;
      said = said;
      steps = still_of_trial b.limits.store e b.journal s h.steps;
    }

-- another's step
pub other_did : (e : Entry) (b : Broker) (peer : Joined) (bytes : List ℕ) (sent : List Sent) →
    took_at e (past_of b.journal) peer.label ≡ 0 → IsTrialStep e → is_step_of 1 e ≡ false →
    PeerDid peer bytes sent b → PeerDid peer bytes sent (with_step e no_stamp b)
other_did e b peer bytes sent none s n h =
    entry_did e b peer bytes sent sent none s (other_said b.limits.store e b.journal peer sent h.joined n h.said) h

-- it takes what comes next
pub took_did : (b : Broker) (peer : Joined) (bytes : List ℕ) (sent : List Sent) → PeerDid peer bytes sent b →
    PeerDid peer (bytes ++ next_bytes 1 b) sent (with_step (entries.Took 1 (length (next_bytes 1 b))) no_stamp b)
took_did b peer bytes sent h =
    let next : List ℕ = next_bytes 1 b in
    let e : Entry = entries.Took 1 (length next) in
    let g : Grows (length next) (out_for b.limits.store b.journal peer.label)
    (out_for b.limits.store (settle b.limits.store (e ∷ b.journal)) peer.label) =
    subst (λ n. Grows n (out_for b.limits.store b.journal peer.label)
    (out_for b.limits.store (settle b.limits.store (e ∷ b.journal)) peer.label))
    (own_take b.journal 1 (length next) peer h.joined) (step_grows b.limits.store e b.journal peer.label) in
    let more = more_taken (out_for b.limits.store b.journal peer.label)
    (out_for b.limits.store (settle b.limits.store (e ∷ b.journal)) peer.label) next
    (next_is 1 b peer h.joined) g h.within in
    record {
      joined = step_peer b.limits.store e b.journal 1 peer h.joined;
      within = more.0;
      taken = more.1 ∙ ap (λ (l : List ℕ). l ++ next) h.taken;
      said = other_said b.limits.store e b.journal peer sent h.joined refl h.said;
      steps = still_of_trial b.limits.store e b.journal tt h.steps;
    }

-- the step of the message of a request
entry_is : (s : Sent) → IsShortSent s → message_entry 1 (bytes_of s) ≡ step_of_request 1 s
entry_is s h =
    let w = written_whole s.object s.message h.object h.opcode h.size in
    ap (λ id. entries.Message 1 id (opcode_of (bytes_of s)) (body_of (bytes_of s))) w.1
    ∙ ap (λ opcode. entries.Message 1 s.object opcode (body_of (bytes_of s))) w.2
    ∙ ap (λ (body : List ℕ). entries.Message 1 s.object s.message.opcode body) w.3

request_did : (s : Sent) (b : Broker) (peer : Joined) (bytes : List ℕ) (sent : List Sent) → IsShortSent s →
    lives b.journal 1 ≡ true → PeerDid peer bytes sent b →
    PeerDid peer bytes (sent ++ s ∷ []) (with_step (message_entry 1 (bytes_of s)) no_stamp b)
request_did s b peer bytes sent short l h =
    subst (λ (e : Entry). PeerDid peer bytes (sent ++ s ∷ []) (with_step e no_stamp b)) (sym (entry_is s short))
    (entry_did (step_of_request 1 s) b peer bytes sent (sent ++ s ∷ []) refl tt
    (own_said b.limits.store s b.journal sent l h.said) h)

dead_did : (b : Broker) (peer : Joined) (bytes : List ℕ) (sent more : List Sent) → lives b.journal 1 ≡ false →
    PeerDid peer bytes sent b → PeerDid peer bytes (sent ++ more) b
dead_did b peer bytes sent more d h = record {
  joined = h.joined;
  within = h.within;
  taken = h.taken;
  said = dead_said b.journal sent more d h.said;
  steps = h.steps;
}

-- it says requests, one a step, while it lives
pub requests_did : (ss : List Sent) (b end : Broker) (peer : Joined) (bytes : List ℕ) (sent : List Sent) →
    AreShortSent ss → PeerDid peer bytes sent b → messages_sent 1 (bytes_each ss) b ≡ went end →
    PeerDid peer bytes (sent ++ ss) end
unfolding messages_sent stepped
requests_did [] b end peer bytes sent short h e =
    subst (λ (r : Ran Broker). PeerDid peer bytes (sent ++ []) r.now) e
    (subst (λ (l : List Sent). PeerDid peer bytes l b) (sym (append-nil sent)) h)
requests_did (s ∷ more) b end peer bytes sent short h e =
    by (lives b.journal 1) (is_full b.limits b.journal (message_entry 1 (bytes_of s))) refl e
    (λ c k q. requests_did more c end peer bytes (sent ++ s ∷ []) short.1 k q)
  where
    by : (live full : Bool) → lives b.journal 1 ≡ live →
        (if live then (if full then halted b else went (with_step (message_entry 1 (bytes_of s)) no_stamp b))
        >>= messages_sent 1 (bytes_each more) else went b) ≡ went end →
        ((c : Broker) → PeerDid peer bytes (sent ++ s ∷ []) c → messages_sent 1 (bytes_each more) c ≡ went end →
        PeerDid peer bytes ((sent ++ s ∷ []) ++ more) end) →
        PeerDid peer bytes (sent ++ s ∷ more) end
    by false full l q later =
        subst (λ (r : Ran Broker). PeerDid peer bytes (sent ++ s ∷ more) r.now) q
        (dead_did b peer bytes sent (s ∷ more) l h)
    by true true l q later = absurd (let no : true ≡ false = ap (λ (r : Ran Broker). r.is_full) q in cc)
    by true false l q later =
        subst (λ (l : List Sent). PeerDid peer bytes l end) (append_assoc sent (s ∷ []) more)
        (later (with_step (message_entry 1 (bytes_of s)) no_stamp b) (request_did s b peer bytes sent short.0 l h) q)
