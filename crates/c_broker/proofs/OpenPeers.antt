-- Who is done stays so, and what a list of peers that may have something says after a call.
use Rattle.std.proofs.Common.{◌≡◌, ℕ, ◌+◌, ◌-◌, ◌≤◌, List, [], ◌∷◌, ◌++◌, length, drop, Bool, true, false, not, Option, Some, None, refl, ap, sym, subst, ◌∙◌, arith, ◌&&◌}
use Rattle.std.proofs.lemmas.List.{length-drop}
use Rattle.std.specs.Prelude.{◌==◌, if◌then◌else◌, option_map, unwrap_or}
use Rattle.relay_model.specs.declared.act.Act.{Act}
use Rattle.relay_model.specs.declared.act.Act.TheVariants as acts
use Rattle.relay_model.specs.declared.act.EndCause.{EndCause}
use Rattle.relay_model.specs.Idle.{cleaned}
use Rattle.relay_model.specs.Objects.{is_peer, is_kind, is_peer_kind}
use Rattle.relay_model.proofs.ObjectLaws.{object_step}
use Rattle.broker_model.specs.declared.journal.Entry.{Entry}
use Rattle.broker_model.specs.declared.journal.Entry.TheVariants as entries
use Rattle.broker_model.specs.Ids.{Joined, log_of, peer_at}
use Rattle.broker_model.specs.Groups.{nothing}
use Rattle.broker_model.specs.Limits.{is_end}
use Rattle.broker_steps.specs.declared.limits.Limits.{Limits}
use Rattle.broker_model.specs.Out.{Outgoing, act_now, group_at, out_for, stored, took_at}
use Rattle.broker_model.specs.Resolve.{past_of, of_peer, only}
use Rattle.broker_model.proofs.LabelsRiseByNumber.{label_within}
use Rattle.broker_model.proofs.LivePeersJoined.{joined_stays, length_log}
use Rattle.broker_model.proofs.QuietStoresStay.{quiet_out}
use Rattle.broker_core.specs.Broker.{Broker}
use Rattle.broker_core.specs.declared.taking.Standing.TheVariants as standings
use Rattle.broker_core.specs.Taking.{lives, lives_in, out_at, standing_in, standing_of}
use Rattle.broker_core.proofs.DeadPeersToldNothing.{dead_told}
use Rattle.broker_core.proofs.OnlyEndsTakePeers.{peer_kept, peer_ended}
use Rattle.c_broker.specs.Ears.{Waits}
use Rattle.c_broker.specs.Steps.{IsMore, Hearing}
use Rattle.c_broker.specs.Open.{IsDone, IsOpen}

-- a dead peer stays dead

idle_same : (e : Entry) (older : List Entry) (x : ℕ) → act_now e older ≡ acts.Idle → x ≤ length older →
    is_peer (log_of (past_of (e ∷ older))) x ≡ is_peer (log_of (past_of older)) x
idle_same e older x i w =
    let log : List Act = log_of (past_of older) in
    let long : length (log_of (past_of older)) ≡ length older = length_log older in
    ap (λ (act : Act). is_peer (act ∷ log) x) i ∙ ap (is_kind is_peer_kind) (object_step acts.Idle log x (omega arith))

dead_end : (q : ℕ) (why : EndCause) (older : List Entry) (x : ℕ) → x ≤ length older →
    is_peer (log_of (past_of older)) x ≡ false →
    is_peer (log_of (past_of (entries.End q why ∷ older))) x ≡ false
dead_end q why older x w d = by (peer_at (past_of older) q) refl
  where
    log : List Act
    log = log_of (past_of older)

    of_it : (peer : Joined) (b : Bool) → peer_at (past_of older) q ≡ Some peer → is_peer log peer.label ≡ b →
        is_peer (log_of (past_of (entries.End q why ∷ older))) x ≡ false
    of_it peer true e f = peer_ended q why older peer x e f w ∙ ap (λ (b : Bool). b && not (x == peer.label)) d
    of_it peer false e f =
        idle_same (entries.End q why) older x
        (ap (λ (o : Option Joined). cleaned (of_peer o (λ (p : Joined). only (acts.Gone p.label why))).act log) e
        ∙ ap (λ (b : Bool). (if b then acts.Gone peer.label why else acts.Idle)) f) w
        ∙ d

    by : (o : Option Joined) → peer_at (past_of older) q ≡ o →
        is_peer (log_of (past_of (entries.End q why ∷ older))) x ≡ false
    by None e =
        idle_same (entries.End q why) older x
        (ap (λ (o : Option Joined). cleaned (of_peer o (λ (p : Joined). only (acts.Gone p.label why))).act log) e) w
        ∙ d
    by (Some peer) e = of_it peer (is_peer log peer.label) e refl

dead_plain : (e : Entry) (older : List Entry) (x : ℕ) → is_end e ≡ false → x ≤ length older →
    is_peer (log_of (past_of older)) x ≡ false → is_peer (log_of (past_of (e ∷ older))) x ≡ false
dead_plain e older x plain w d = peer_kept e older x plain w ∙ d

dead_still : (e : Entry) (older : List Entry) (x : ℕ) → x ≤ length older →
    is_peer (log_of (past_of older)) x ≡ false → is_peer (log_of (past_of (e ∷ older))) x ≡ false
dead_still (entries.End q why) older x w d = dead_end q why older x w d
dead_still (entries.Join role) older x w d = dead_plain (entries.Join role) older x refl w d
dead_still (entries.Message q id opcode body) older x w d =
    dead_plain (entries.Message q id opcode body) older x refl w d
dead_still (entries.Tokens q tokens) older x w d = dead_plain (entries.Tokens q tokens) older x refl w d
dead_still (entries.BadSize q head) older x w d = dead_plain (entries.BadSize q head) older x refl w d
dead_still (entries.Shell step) older x w d = dead_plain (entries.Shell step) older x refl w d
dead_still (entries.Took q bytes) older x w d = dead_plain (entries.Took q bytes) older x refl w d

-- and has no more stored than it had

none_by : (xs : List ℕ) (n more : ℕ) → length (drop n xs) ≡ 0 → length (drop (n + more) xs) ≡ 0
none_by xs n more h =
    let a : length (drop n xs) ≡ length xs - n = length-drop n xs in
    let b : length (drop (n + more) xs) ≡ length xs - (n + more) = length-drop (n + more) xs in
    omega arith

none_stored : (store : ℕ) (e : Entry) (older : List Entry) (p : ℕ) → group_at e older p ≡ nothing →
    length (stored (out_for store older p)) ≡ 0 → length (stored (out_for store (e ∷ older) p)) ≡ 0
none_stored store e older p g h =
    let out : Outgoing = out_for store older p in
    ap (λ (o : Outgoing). length (stored o)) (quiet_out store e older p g)
    ∙ none_by out.put.bytes out.taken (took_at e (past_of older) p) h

-- what IsDone says, of a journal
record Over (store : ℕ) (journal : List Entry) (q : ℕ) : Type 0 where
  peer : Joined
  at : peer_at (past_of journal) q ≡ Some peer
  dead : is_peer (log_of (past_of journal)) peer.label ≡ false
  none : length (stored (out_for store journal peer.label)) ≡ 0

over_still : (store : ℕ) (e : Entry) (older : List Entry) (q : ℕ) → Over store older q → Over store (e ∷ older) q
over_still store e older q o =
    let at : peer_at (past_of (e ∷ older)) q ≡ Some o.peer =
    joined_stays e (length older + 1) (past_of older).joined q o.peer o.at in
    let dead : is_peer (log_of (past_of (e ∷ older))) o.peer.label ≡ false =
    dead_still e older o.peer.label (label_within older q o.peer o.at) o.dead in
    record {
      peer = o.peer;
      at = at;
      dead = dead;
      none = none_stored store e older o.peer.label (dead_told e older q o.peer at dead) o.none;
    }

over_more : (store : ℕ) (more older : List Entry) (q : ℕ) → Over store older q → Over store (more ++ older) q
over_more store [] older q o = o
over_more store (e ∷ more) older q o = over_still store e (more ++ older) q (over_more store more older q o)

pub done_still : (a b : Broker) (q : ℕ) → b.limits ≡ a.limits → IsMore a.journal b.journal → IsDone a q → IsDone b q
done_still a b q limits m d =
    let o : Over a.limits.store (m.more ++ a.journal) q =
    over_more a.limits.store m.more a.journal q (record { peer = d.peer; at = d.at; dead = d.dead; none = d.none }) in
    let now : Over b.limits.store b.journal q =
    subst (λ (l : Limits). Over l.store b.journal q) (sym limits)
    (subst (λ (j : List Entry). Over a.limits.store j q) (sym m.is) o) in
    record { peer = now.peer; at = now.at; dead = now.dead; none = now.none }

-- what the list says, after more entries

pub open_more : (a b : Broker) (numbers : List ℕ) (seen : ℕ) → b.limits ≡ a.limits → IsMore a.journal b.journal →
    IsOpen a numbers seen → IsOpen b numbers seen
open_more a b numbers seen limits m o = record {
  rise = o.rise;
  others = λ q from upto none. done_still a b q limits m (o.others q from upto none);
}

pub open_heard : (a b : Broker) (u v : Waits) (numbers : List ℕ) (seen : ℕ) → Hearing a u b v →
    IsOpen a numbers seen → IsOpen b numbers seen
open_heard a b u v numbers seen h o = open_more a b numbers seen h.limits h.grew o

pub open_same : (a b : Broker) (numbers : List ℕ) (seen : ℕ) → b.limits ≡ a.limits → b.journal ≡ a.journal →
    IsOpen a numbers seen → IsOpen b numbers seen
open_same a b numbers seen limits same o = open_more a b numbers seen limits (record { more = []; is = same }) o

-- a peer that ended, as calls tell it

pub done_by : (b : Broker) (q : ℕ) (cause : EndCause) (o : Option ℕ) → standings.Over cause ≡ standing_of b.journal q →
    lives b.journal q ≡ false →
    o ≡ option_map (λ (out : Outgoing). length (stored out)) (out_at b.limits.store b.journal q) → unwrap_or o 1 ≡ 0 →
    IsDone b q
done_by b q cause o over dead is none = by (peer_at (past_of b.journal) q) refl
  where
    count : Option Joined → Option ℕ
    count p = option_map (λ (out : Outgoing). length (stored out))
        (option_map (λ (peer : Joined). out_for b.limits.store b.journal peer.label) p)

    by : (p : Option Joined) → peer_at (past_of b.journal) q ≡ p → IsDone b q
    by None e = let h : standings.Over cause ≡ standings.Nobody = over ∙ ap (standing_in b.journal q) e in cc
    by (Some peer) e = record {
      peer = peer;
      at = e;
      dead = sym (ap (lives_in b.journal) e) ∙ dead;
      none = sym (ap (λ (n : Option ℕ). unwrap_or n 1) (is ∙ ap count e)) ∙ none;
    }
