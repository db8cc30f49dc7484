-- A peer that sent a header with a bad size has ended for it
use Rattle.std.proofs.Common.{◌≡◌, ℕ, zero, suc, ◌+◌, ◌≤◌, List, [], ◌∷◌, ◌++◌, length, Bool, true, false, not, Option, Some, None, refl, sym, ap, ap₂, ◌∙◌, ◌⊎◌, inl, inr, arith}
use Rattle.std.specs.Prelude.{if◌then◌else◌, ◌==◌, ◌&&◌, ◌||◌, Result, Ok, Err, IfSome}
use Rattle.std.specs.List.{slice_get}
use Rattle.std.proofs.lemmas.Bool.{eq-eqb, eqb-true}
use Rattle.relay_model.specs.declared.act.Act.{Act}
use Rattle.relay_model.specs.declared.act.Act.TheVariants as acts
use Rattle.relay_model.specs.declared.act.EndCause.{EndCause}
use Rattle.relay_model.specs.declared.act.EndCause.TheVariants.{Bad, Full}
use Rattle.relay_model.specs.declared.fault.Fault.TheVariants as fault
use Rattle.relay_model.specs.declared.role.Role.{Role}
use Rattle.relay_model.specs.Objects.{is_peer_kind, is_kind, remains, object, is_peer}
use Rattle.relay_model.specs.Idle.{is_live, cleaned}
use Rattle.relay_model.proofs.ObjectLaws.{object_step}
use Rattle.broker_steps.specs.declared.limits.Limits.{Limits}
use Rattle.broker_steps.specs.declared.step.Step.TheVariants as steps
use Rattle.broker_steps.specs.declared.step.PeerStep.{PeerStep}
use Rattle.broker_steps.specs.declared.step.PeerStep.TheVariants as peers
use Rattle.broker_model.specs.declared.journal.Entry.{Entry}
use Rattle.broker_model.specs.declared.journal.Entry.TheVariants as entries
use Rattle.broker_model.specs.Ids.{Joined, log_of, peer_in, peer_at}
use Rattle.broker_model.specs.Resolve.{of_peer, only, refused_for, past_of}
use Rattle.broker_model.specs.Out.{act_at, act_now, out_for}
use Rattle.broker_model.specs.Settle.{is_bad, refused, due, cause_of, with_end, settled, number_alive, settle, history}
use Rattle.broker_model.proofs.LivePeersJoined.{length_log}
use Rattle.broker_model.proofs.LabelsRiseByNumber.{label_within, one_number}
use Rattle.broker_model.proofs.SettlingEnds.{IsSettled, settles}
use Rattle.broker_core.specs.declared.answers.Applied.{Applied}
use Rattle.broker_core.specs.declared.answers.Refused.{Refused}
use Rattle.broker_core.specs.declared.taking.Standing.{Standing}
use Rattle.broker_core.specs.declared.taking.Standing.TheVariants.{Nobody, Alive, Over}
use Rattle.broker_core.specs.Broker.{Broker, peer_refusal}
use Rattle.broker_core.specs.Stands.{end_of}
use Rattle.broker_core.specs.Taking.{standing_of}
use Rattle.broker_core.proofs.OnlyEndsTakePeers.{peer_kept, peer_new, peer_ended}
use Rattle.broker_core.proofs.WhoIsAlive.{going}
use Rattle.hub_lock.specs.Histories as histories
use Rattle.hub_lock.specs.Histories.{History, broker_of}
use Rattle.hub_lock.specs.Passes.{PeerPass}
use Rattle.hub_lock.specs.Calls.{LegalStep, pass_having_seen}
use Rattle.hub_lock.proofs.HistoriesGrow.{entries-more}
use Rattle.peer_link.specs.Made.{journal_of}
use Rattle.peer_link.specs.Submits.{HasEndedBad, EndedIfBad}

-- an end of nobody, or of a peer that is dead, changes nobody

idle_cleaned : (b : Bool) → (if b then acts.Idle else acts.Idle) ≡ acts.Idle
idle_cleaned true = refl
idle_cleaned false = refl

end_idle : (k : ℕ) (cause : EndCause) (older : List Entry) (o : Option Joined) → peer_at (past_of older) k ≡ o
    → ((peer : Joined) → o ≡ Some peer → is_peer (log_of (past_of older)) peer.label ≡ false)
    → act_now (entries.End k cause) older ≡ acts.Idle
end_idle k cause older None e dead =
    ap (λ (o : Option Joined). cleaned (of_peer o (λ peer. only (acts.Gone peer.label cause))).act
    (log_of (past_of older))) e
    ∙ idle_cleaned (is_live acts.Idle (log_of (past_of older)))
end_idle k cause older (Some peer) e dead =
    ap (λ (o : Option Joined). cleaned (of_peer o (λ peer. only (acts.Gone peer.label cause))).act
    (log_of (past_of older))) e
    ∙ ap (λ (b : Bool). (if b then acts.Gone peer.label cause else acts.Idle)) (dead peer refl)

idle_end : (k : ℕ) (cause : EndCause) (older : List Entry) (x : ℕ) → act_now (entries.End k cause) older ≡ acts.Idle →
    x ≤ length older
    → is_peer (log_of (past_of (entries.End k cause ∷ older))) x ≡ is_peer (log_of (past_of older)) x
idle_end k cause older x idle le =
    let log : List Act = log_of (past_of older) in
    let long = length_log older in
    ap (is_kind is_peer_kind) (object_step (act_now (entries.End k cause) older) log x (omega (arith, le, long)))
    ∙ ap (λ (act : Act). is_kind is_peer_kind (remains act x (object log x))) idle

-- a peer that has no end is alive

other_lives : (k : ℕ) (cause : EndCause) (older : List Entry) (q : ℕ) (peer : Joined) →
    peer_at (past_of older) q ≡ Some peer
    → (k == q) ≡ false → is_peer (log_of (past_of older)) peer.label ≡ true
    → is_peer (log_of (past_of (entries.End k cause ∷ older))) peer.label ≡ true
other_lives k cause older q peer there other lives = by (peer_at (past_of older) k) refl
  where
    within : peer.label ≤ length older
    within = label_within older q peer there

    apart : (p : Joined) → peer_at (past_of older) k ≡ Some p → (peer.label == p.label) ≡ false
    apart p e = by (peer.label == p.label) refl
      where
        by : (b : Bool) → (peer.label == p.label) ≡ b → (peer.label == p.label) ≡ false
        by true same =
            let one : k ≡ q = one_number older k q p peer e there (sym (eqb-true peer.label p.label same)) in
            let yes = eq-eqb k q one in absurd (cc)
        by false same = same

    some : (p : Joined) → peer_at (past_of older) k ≡ Some p → (b : Bool) → is_peer (log_of (past_of older)) p.label ≡ b
        → is_peer (log_of (past_of (entries.End k cause ∷ older))) peer.label ≡ true
    some p e true l =
        peer_ended k cause older p peer.label e l within
        ∙ ap₂ (λ (a b : Bool). a && not b) lives (apart p e)
    some p e false l =
        idle_end k cause older peer.label
        (end_idle k cause older (Some p) e
        (λ x same. let one : p ≡ x = cc in ap (λ (j : Joined). is_peer (log_of (past_of older)) j.label) (sym one) ∙ l))
        within ∙ lives

    by : (o : Option Joined) → peer_at (past_of older) k ≡ o →
        is_peer (log_of (past_of (entries.End k cause ∷ older))) peer.label ≡ true
    by None e =
        idle_end k cause older peer.label (end_idle k cause older None e (λ x same. absurd (cc))) within ∙ lives
    by (Some p) e = some p e (is_peer (log_of (past_of older)) p.label) refl

get_or_new : (xs : List Joined) (x : Joined) (k : ℕ) (y : Joined) → slice_get (xs ++ x ∷ []) k ≡ Some y →
    (slice_get xs k ≡ Some y) ⊎ (x ≡ y)
get_or_new [] x zero y e = inr (cc)
get_or_new [] x (suc k) y e = absurd (cc)
get_or_new (z ∷ xs) x zero y e = inl e
get_or_new (z ∷ xs) x (suc k) y e = get_or_new xs x k y e

old_or_new : (xs : List Joined) (x : Joined) (q : ℕ) (y : Joined) → peer_in (xs ++ x ∷ []) q ≡ Some y →
    (peer_in xs q ≡ Some y) ⊎ (x ≡ y)
old_or_new xs x zero y e = absurd (cc)
old_or_new xs x (suc k) y e = get_or_new xs x k y e

joined_lives : (role : Role) (older : List Entry) (q : ℕ) (peer : Joined)
    → (peer_at (past_of older) q ≡ Some peer → is_peer (log_of (past_of older)) peer.label ≡ true)
    → (peer_at (past_of older) q ≡ Some peer) ⊎ (record { label = length older + 1; role = role } ≡ peer)
    → is_peer (log_of (past_of (entries.Join role ∷ older))) peer.label ≡ true
joined_lives role older q peer lives (inl e) =
    peer_kept (entries.Join role) older peer.label refl (label_within older q peer e) ∙ lives e
joined_lives role older q peer lives (inr e) =
    ap (λ (j : Joined). is_peer (log_of (past_of (entries.Join role ∷ older))) j.label) (sym e) ∙ peer_new role older

ended_lives : (k : ℕ) (cause : EndCause) (older : List Entry) (q : ℕ) (peer : Joined) (b : Bool) → (k == q) ≡ b →
    peer_at (past_of older) q ≡ Some peer
    → (end_of older q ≡ None → is_peer (log_of (past_of older)) peer.label ≡ true)
    → (if b then Some cause else end_of older q) ≡ None →
    is_peer (log_of (past_of (entries.End k cause ∷ older))) peer.label ≡ true
ended_lives k cause older q peer true e there lives n = absurd (cc)
ended_lives k cause older q peer false e there lives n = other_lives k cause older q peer there e (lives n)

alive : (journal : List Entry) (q : ℕ) (peer : Joined) → peer_at (past_of journal) q ≡ Some peer →
    end_of journal q ≡ None
    → is_peer (log_of (past_of journal)) peer.label ≡ true
alive [] zero peer e n = absurd (cc)
alive [] (suc q) peer e n = absurd (cc)
alive (entries.Join role ∷ older) q peer e n =
    joined_lives role older q peer (λ f. alive older q peer f n)
    (old_or_new (past_of older).joined (record { label = length older + 1; role = role }) q peer e)
alive (entries.End k cause ∷ older) q peer e n =
    ended_lives k cause older q peer (k == q) refl e (λ f. alive older q peer e f) n
alive (entries.Message k id opcode body ∷ older) q peer e n =
    peer_kept (entries.Message k id opcode body) older peer.label refl (label_within older q peer e)
    ∙ alive older q peer e n
alive (entries.Tokens k tokens ∷ older) q peer e n =
    peer_kept (entries.Tokens k tokens) older peer.label refl (label_within older q peer e) ∙ alive older q peer e n
alive (entries.BadSize k head ∷ older) q peer e n =
    peer_kept (entries.BadSize k head) older peer.label refl (label_within older q peer e) ∙ alive older q peer e n
alive (entries.Shell step ∷ older) q peer e n =
    peer_kept (entries.Shell step) older peer.label refl (label_within older q peer e) ∙ alive older q peer e n
alive (entries.Took k bytes ∷ older) q peer e n =
    peer_kept (entries.Took k bytes) older peer.label refl (label_within older q peer e) ∙ alive older q peer e n

-- after a bad size

bad_refused : (q : ℕ) (head : List ℕ) (older : List Entry) (peer : Joined) → peer_at (past_of older) q ≡ Some peer
    → refused (entries.BadSize q head ∷ older) q ≡ true
bad_refused q head older peer e =
    ap (λ (b : Bool). (if b then is_bad (act_at (entries.BadSize q head) older) else refused older q)) (eq-eqb q q refl)
    ∙ ap (λ (o : Option Joined). is_bad (of_peer o (λ p. refused_for p.label p.label fault.Size)).act) e

-- the peer's last message was refused, and it has no end yet, or one for that
record IsEnding (journal : List Entry) (q : ℕ) (peer : Joined) : Type 0 where
  there : peer_at (past_of journal) q ≡ Some peer
  refused_is : refused journal q ≡ true
  end : (end_of journal q ≡ None) ⊎ (end_of journal q ≡ Some Bad)

end_for : (k q : ℕ) (journal : List Entry) (b : Bool) → (k == q) ≡ b → refused journal q ≡ true
    → (end_of journal q ≡ None) ⊎ (end_of journal q ≡ Some Bad)
    → ((if b then Some (cause_of journal k) else end_of journal q) ≡ None)
    ⊎ ((if b then Some (cause_of journal k) else end_of journal q) ≡ Some Bad)
end_for k q journal true e r end =
    inr (ap (λ n. Some (cause_of journal n)) (eqb-true k q e) ∙ ap (λ (b : Bool). Some (if b then Bad else Full)) r)
end_for k q journal false e r end = end

ending_by : (capacity fuel : ℕ) (journal : List Entry) (q : ℕ) (peer : Joined) (o : Option ℕ) → IsEnding journal q peer
    → ((later : List Entry) → IsEnding later q peer → IsEnding (settled capacity fuel later) q peer)
    → IsEnding (settled capacity fuel (with_end journal o)) q peer
ending_by capacity fuel journal q peer None i k = k journal i
ending_by capacity fuel journal q peer (Some n) i k =
    k (entries.End n (cause_of journal n) ∷ journal)
    (record { there = i.there; refused_is = i.refused_is; end = end_for n q journal (n == q) refl i.refused_is i.end })

ending : (capacity fuel : ℕ) (journal : List Entry) (q : ℕ) (peer : Joined) → IsEnding journal q peer
    → IsEnding (settled capacity fuel journal) q peer
ending capacity zero journal q peer i = i
ending capacity (suc fuel) journal q peer i =
    ending_by capacity fuel journal q peer (due capacity journal) i (λ later. ending capacity fuel later q peer)

left_false : (a b c : Bool) → b ≡ true → (a && (b || c)) ≡ false → a ≡ false
left_false true b c e h = let t : (true && (true || c)) ≡ false = ap (λ (x : Bool). true && (x || c)) (sym e) ∙ h in t
left_false false b c e h = refl

ended-by : (capacity : ℕ) (journal : List Entry) (q : ℕ) (peer : Joined) → IsSettled capacity journal →
    (i : IsEnding journal q peer)
    → (end_of journal q ≡ None) ⊎ (end_of journal q ≡ Some Bad) → end_of journal q ≡ Some Bad
ended-by capacity journal q peer s i (inr e) = e
ended-by capacity journal q peer s i (inl e) =
    let dead = left_false (is_peer (log_of (past_of journal)) peer.label) (refused journal q)
    (out_for capacity journal peer.label).choked i.refused_is (s.nobody q peer i.there) in
    let lives = alive journal q peer i.there e in absurd (cc)

ended-bad : (capacity q : ℕ) (head : List ℕ) (older : List Entry) (peer : Joined) →
    peer_at (past_of older) q ≡ Some peer
    → end_of older q ≡ None → end_of (settle capacity (entries.BadSize q head ∷ older)) q ≡ Some Bad
ended-bad capacity q head older peer e n =
    let J : List Entry = entries.BadSize q head ∷ older in
    let i : IsEnding (settle capacity J) q peer =
    ending capacity (number_alive J) J q peer
    (record { there = e; refused_is = bad_refused q head older peer e; end = inl n }) in
    ended-by capacity (settle capacity J) q peer (settles capacity (number_alive J) J (omega arith)) i i.end

abbrev pub taken_as : Applied → Result Applied Refused
taken_as applied = Ok applied

alive-so : (b : Broker) (e : Entry) (applied : Applied) (s : Standing)
    → IfSome (peer_refusal b e s) (λ why. taken_as applied ≡ Err why) → s ≡ Alive
alive-so b e applied Nobody k = absurd (cc)
alive-so b e applied (Over cause) k = absurd (cc)
alive-so b e applied Alive k = refl

pub bad-size-ended : (limits : Limits) (a b : PeerPass) (head : List ℕ) (applied : Applied) →
    b ≡ pass_having_seen a b.seat.seen
    → LegalStep limits a.seat b.seat.seen (steps.Peer a.peer (peers.BadSize head)) (Ok applied) → HasEndedBad limits b
bad-size-ended limits a b head applied is k =
    let turn : History = a.seat.seen ++ k.rest in
    let J : List Entry = journal_of limits turn in
    let e : Entry = entries.BadSize a.peer head in
    let going_on =
    going J a.peer (alive-so (broker_of limits turn) e applied (standing_of J a.peer) k.answer.refused) in
    let later : journal_of limits b.seat.seen ≡ settle limits.store (e ∷ J) =
    ap (journal_of limits) k.answer.applied
    ∙ ap (history limits.store) (entries-more turn a.seat.number (histories.only e)) in
    ap₂ (λ (J : List Entry) q. end_of J q) later (ap (λ (p : PeerPass). p.peer) is)
    ∙ ended-bad limits.store a.peer head J going_on.peer going_on.joined going_on.lasts

-- an accepted step that was a header with a bad size
pub ended-if-bad : (limits : Limits) (a b : PeerPass) (step : PeerStep) (applied : Applied) →
    b ≡ pass_having_seen a b.seat.seen
    → LegalStep limits a.seat b.seat.seen (steps.Peer a.peer step) (Ok applied)
    → EndedIfBad limits b step
ended-if-bad limits a b (peers.Message id opcode body) applied is k = tt
ended-if-bad limits a b (peers.Tokens tokens) applied is k = tt
ended-if-bad limits a b peers.Gone applied is k = tt
ended-if-bad limits a b (peers.BadSize head) applied is k = bad-size-ended limits a b head applied is k
