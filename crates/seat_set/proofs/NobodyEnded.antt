-- Where the newest entry is no end, a step ended nobody, and whoever had unread bytes keeps them.
use Rattle.std.proofs.Common.{◌≡◌, ℕ, zero, suc, List, [], ◌∷◌, length, map, Bool, true, false, cond, Option, Some, None, refl, sym, ap, subst, ◌∙◌, arith}
use Rattle.std.specs.Prelude.{◌==◌, ◌||◌, ◌+◌, filter, if◌then◌else◌}
use Rattle.std.proofs.lemmas.Bool.{eqb-true, eq-eqb}
use Rattle.broker_steps.specs.declared.stamp.Stamp.{Stamp}
use Rattle.broker_steps.specs.declared.step.Step.{Step}
use Rattle.broker_steps.specs.declared.step.Step.TheVariants as steps
use Rattle.broker_steps.specs.declared.step.PeerStep.TheVariants as peers
use Rattle.broker_model.specs.declared.journal.Entry.{Entry}
use Rattle.broker_model.specs.declared.journal.Entry.TheVariants as entries
use Rattle.broker_model.specs.Ids.{Joined, peer_in}
use Rattle.broker_model.specs.Limits.{is_end, ends_in_end}
use Rattle.broker_model.specs.Resolve.{past_of}
use Rattle.broker_model.specs.Settle.{due, cause_of, with_end, settled, number_alive, settle}
use Rattle.broker_core.specs.Broker as broker
use Rattle.broker_core.specs.Broker.{Broker, entry_of, IsSaid}
use Rattle.broker_core.specs.Taking.{lives}
use Rattle.seat_set.specs.declared.unread.Unread.{Unread}
use Rattle.seat_set.specs.Played.{Waiting, of_live}
use Rattle.seat_set.specs.Playing.{is_waiting, AreLive}
use Rattle.seat_set.specs.Unread.{waiting}
use Rattle.seat_set.proofs.LivesBefore.{IsAlive, is_alive, lives_kept}
use Rattle.seat_set.proofs.UnreadPlaces.{given_back}

-- the ends that follow

settled_by : (capacity fuel : ℕ) (journal : List Entry) (o : Option ℕ) →
    ((later : List Entry) → ends_in_end (settled capacity fuel later) ≡ false → settled capacity fuel later ≡ later) →
    ends_in_end (settled capacity fuel (with_end journal o)) ≡ false →
    settled capacity fuel (with_end journal o) ≡ journal
settled_by capacity fuel journal None k h = k journal h
settled_by capacity fuel journal (Some q) k h =
    let same = k (entries.End q (cause_of journal q) ∷ journal) h in (let no = sym (ap ends_in_end same) ∙ h in cc)

settled_same : (capacity fuel : ℕ) (journal : List Entry) → ends_in_end (settled capacity fuel journal) ≡ false →
    settled capacity fuel journal ≡ journal
settled_same capacity zero journal h = refl
settled_same capacity (suc fuel) journal h =
    settled_by capacity fuel journal (due capacity journal) (settled_same capacity fuel) h

settle_same : (capacity : ℕ) (journal : List Entry) → ends_in_end (settle capacity journal) ≡ false →
    settle capacity journal ≡ journal
settle_same capacity journal h = settled_same capacity (number_alive journal) journal h

-- who was alive is alive behind an entry that ends and joins nobody

abbrev LiveOn : Entry → List Entry → Type 0
LiveOn e older = is_end e ≡ false → (q : ℕ) → lives older q ≡ true → lives (e ∷ older) q ≡ true

lives_on : (e : Entry) (older : List Entry) → (past_of (e ∷ older)).joined ≡ (past_of older).joined → LiveOn e older
lives_on e older j n q h =
    let a : IsAlive older q = is_alive older q h in
    lives_kept e older q a.peer n a.joined (ap (λ (joined : List Joined). peer_in joined q) j ∙ a.joined) ∙ h

said_on : (step : Step) (journal : List Entry) → IsSaid step → LiveOn (entry_of step) journal
said_on (steps.Join role) journal s n q h = absurd s
said_on (steps.Peer k (peers.Message id opcode body)) journal s n q h =
    lives_on (entries.Message k id opcode body) journal refl n q h
said_on (steps.Peer k (peers.BadSize head)) journal s n q h = lives_on (entries.BadSize k head) journal refl n q h
said_on (steps.Peer k (peers.Tokens tokens)) journal s n q h = lives_on (entries.Tokens k tokens) journal refl n q h
said_on (steps.Peer k peers.Gone) journal s n q h = cc
said_on (steps.Shell step) journal s n q h = lives_on (entries.Shell step) journal refl n q h
said_on (steps.Take k m) journal s n q h = absurd s

stays_live : (capacity : ℕ) (e : Entry) (journal : List Entry) (unread : List Waiting) → LiveOn e journal →
    AreLive journal unread → ends_in_end (settle capacity (e ∷ journal)) ≡ false →
    AreLive (settle capacity (e ∷ journal)) unread
stays_live capacity e journal unread f a h q w =
    let same = settle_same capacity (e ∷ journal) h in
    ap (λ (l : List Entry). lives l q) same ∙ f (sym (ap ends_in_end same) ∙ h) q (a q w)

stays_live_after : (e : Entry) (stamp : Stamp) (b after : Broker) (unread : List Waiting) → LiveOn e b.journal →
    after ≡ broker.with_step e stamp b → AreLive b.journal unread → ends_in_end after.journal ≡ false →
    AreLive after.journal unread
stays_live_after e stamp b after unread f a l h =
    subst (λ (x : Broker). ends_in_end x.journal ≡ false → AreLive x.journal unread) (sym a)
    (stays_live b.limits.store e b.journal unread f l) h

pub said_live : (stamp : Stamp) (b after : Broker) (was : List Unread) (step : Step) → IsSaid step →
    after ≡ broker.with_step (entry_of step) stamp b → AreLive b.journal (map waiting was) →
    ends_in_end after.journal ≡ false → AreLive after.journal (map waiting was)
said_live stamp b after was step s a l h =
    stays_live_after (entry_of step) stamp b after (map waiting was) (said_on step b.journal s) a l h

pub took_live : (stamp : Stamp) (b after : Broker) (was : List Unread) (k n : ℕ) →
    after ≡ broker.with_step (entries.Took k n) stamp b →
    AreLive b.journal (map waiting was) → ends_in_end after.journal ≡ false → AreLive after.journal (map waiting was)
took_live stamp b after was k n a l h =
    stays_live_after (entries.Took k n) stamp b after (map waiting was)
    (lives_on (entries.Took k n) b.journal refl) a l h

-- only live peers are kept

kept_live : (journal : List Entry) (q : ℕ) (unread : List Waiting) → is_waiting q (of_live journal unread) ≡ true →
    lives journal q ≡ true
kept_live journal q [] h = cc
kept_live journal q (w ∷ rest) h = by (lives journal w.number) refl h (kept_live journal q rest)
  where
    first : (b : Bool) → (w.number == q) ≡ b → lives journal w.number ≡ true →
        (b || is_waiting q (of_live journal rest)) ≡ true →
        (is_waiting q (of_live journal rest) ≡ true → lives journal q ≡ true) → lives journal q ≡ true
    first true e l h k = ap (lives journal) (sym (eqb-true w.number q e)) ∙ l
    first false e l h k = k h

    by : (b : Bool) → lives journal w.number ≡ b →
        is_waiting q (cond b (w ∷ of_live journal rest) (of_live journal rest)) ≡ true →
        (is_waiting q (of_live journal rest) ≡ true → lives journal q ≡ true) → lives journal q ≡ true
    by true l h k = first (w.number == q) refl l h k
    by false l h k = k h

pub left_live : (journal : List Entry) (before after : List Unread) →
    after ≡ filter (λ u. lives journal u.number) before → AreLive journal (map waiting after)
left_live journal before after f q h =
    kept_live journal q (map waiting before)
    (ap (is_waiting q) (sym (given_back journal before after f)) ∙ h)

-- and where all are alive, all are kept

or_right : (c d : Bool) → d ≡ true → (c || d) ≡ true
or_right true d k = refl
or_right false d k = k

pub all_kept : (journal : List Entry) (unread : List Unread) → AreLive journal (map waiting unread) →
    filter (λ u. lives journal u.number) unread ≡ unread
all_kept journal [] a = refl
all_kept journal (u ∷ rest) a =
    let own : (u.number == u.number) ≡ true = eq-eqb u.number u.number refl in
    let alive = a u.number (ap (λ (b : Bool). b || is_waiting u.number (map waiting rest)) own) in
    let behind = all_kept journal rest (λ q h. a q (or_right (u.number == q) (is_waiting q (map waiting rest)) h)) in
    ap (λ (b : Bool). cond b (u ∷ filter (λ (x : Unread). lives journal x.number) rest)
    (filter (λ (x : Unread). lives journal x.number) rest)) alive
    ∙ ap (λ (us : List Unread). u ∷ us) behind
