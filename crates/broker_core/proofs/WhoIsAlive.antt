-- Who is alive by the journal has its live state.
use Rattle.std.proofs.Common.{◌≡◌, ℕ, zero, suc, List, [], ◌∷◌, length, true, Option, Some, None, refl, arith, false, ap, ◌∙◌}
use Rattle.std.specs.Prelude.{IsSome}
use Rattle.std.specs.List.{slice_get}
use Rattle.relay_model.specs.declared.act.EndCause.{EndCause}
use Rattle.relay_model.specs.Objects.{is_peer}
use Rattle.broker_model.specs.declared.journal.Entry.{Entry}
use Rattle.broker_model.specs.Ids.{Joined, log_of, peer_at}
use Rattle.broker_model.specs.Resolve.{past_of}
use Rattle.broker_audience.specs.declared.live.Live.{Live}
use Rattle.broker_model.specs.Ends.{Ended}
use Rattle.broker_core.specs.declared.state.State.{State}
use Rattle.broker_core.specs.declared.taking.Standing.TheVariants.{Alive}
use Rattle.broker_audience.specs.Lives.{number_of}
use Rattle.broker_core.specs.Stands.{Stands, IsLeft, end_of}
use Rattle.broker_core.specs.Taking.{by_end, standing_in, standing_of, lives_in, lives}
use Rattle.broker_core.proofs.RosterAfterEntry.{is_there}

-- a peer is there, and it has no end
pub record IsGoing (journal : List Entry) (q : ℕ) : Type 0 where
  pub peer : Joined
  pub joined : peer_at (past_of journal) q ≡ Some peer
  pub lasts : end_of journal q ≡ None

no_end : (o : Option EndCause) → by_end o ≡ Alive → o ≡ None
no_end None h = refl
no_end (Some cause) h = cc

going_by : (journal : List Entry) (q : ℕ) (o : Option Joined) → peer_at (past_of journal) q ≡ o →
    standing_in journal q o ≡ Alive → IsGoing journal q
going_by journal q None e h = cc
going_by journal q (Some peer) e h = record { peer = peer; joined = e; lasts = no_end (end_of journal q) h }

pub going : (journal : List Entry) (q : ℕ) → standing_of journal q ≡ Alive → IsGoing journal q
going journal q h = going_by journal q (peer_at (past_of journal) q) refl h

-- each place below the length has its element
got : (ended : List (Option Ended)) (joined : List Joined) (k : ℕ) (peer : Joined) → length ended ≡ length joined →
    slice_get joined k ≡ Some peer →
    (e : Option Ended) × (slice_get ended k ≡ Some e)
got [] [] k peer l e = cc
got [] (x ∷ joined) k peer l e = absurd (omega arith)
got (x ∷ ended) [] k peer l e = cc
got (x ∷ ended) (y ∷ joined) zero peer l e = (x, refl)
got (x ∷ ended) (y ∷ joined) (suc k) peer l e = got ended joined k peer (omega arith) e

-- so it is alive
left_alive : (capacity : ℕ) (journal : List Entry) (q : ℕ) (peer : Joined) (e : Option Ended) →
    IsLeft capacity journal q peer e →
    end_of journal q ≡ None → is_peer (log_of (past_of journal)) peer.label ≡ true
left_alive capacity journal q peer None h n = h.0
left_alive capacity journal q peer (Some e) h n = (let w = h.1 in cc)

alive_at : (s : State) (q : ℕ) → Stands s → (peer : Joined) → peer_at (past_of s.journal.entries) q ≡ Some peer →
    end_of s.journal.entries q ≡ None →
    is_peer (log_of (past_of s.journal.entries)) peer.label ≡ true
alive_at s zero v peer e n = cc
alive_at s (suc k) v peer e n =
    let at = got s.ended.items (past_of s.journal.entries).joined k peer v.left.number e in
    left_alive s.capacity s.journal.entries (suc k) peer at.0 (v.left.each k peer at.0 e at.1) n

is_some_by : (o : Option Live) (l : Live) → o ≡ Some l → IsSome o
is_some_by None l e = cc
is_some_by (Some x) l e = refl

pub alive_there : (s : State) (q : ℕ) → Stands s → standing_of s.journal.entries q ≡ Alive →
    IsSome (number_of q s.audience.live.items)
alive_there s q v h =
    let g : IsGoing s.journal.entries q = going s.journal.entries q h in
    let lives : is_peer (log_of (past_of s.journal.entries)) g.peer.label ≡ true =
    alive_at s q v g.peer g.joined g.lasts in
    let there = is_there s.journal.entries s.audience.live.items v.who q g.peer g.joined lives in
    is_some_by (number_of q s.audience.live.items) there.0 there.1

-- and its end takes it from who is alive
pub record IsAlive (journal : List Entry) (q : ℕ) : Type 0 where
  pub peer : Joined
  pub joined : peer_at (past_of journal) q ≡ Some peer
  pub lives : is_peer (log_of (past_of journal)) peer.label ≡ true

pub alive_is : (s : State) (q : ℕ) → Stands s → standing_of s.journal.entries q ≡ Alive → IsAlive s.journal.entries q
alive_is s q v h =
    let g : IsGoing s.journal.entries q = going s.journal.entries q h in
    record { peer = g.peer; joined = g.joined; lives = alive_at s q v g.peer g.joined g.lasts }

-- Who is alive by its standing, and nobody else.

pub alive_lives : (s : State) (q : ℕ) → Stands s → standing_of s.journal.entries q ≡ Alive →
    lives s.journal.entries q ≡ true
alive_lives s q v h =
    let a : IsAlive s.journal.entries q = alive_is s q v h in
    ap (lives_in s.journal.entries) a.joined ∙ a.lives

-- each place below the length has its element
left_at : (ended : List (Option Ended)) (joined : List Joined) (k : ℕ) (peer : Joined) → length ended ≡ length joined →
    slice_get joined k ≡ Some peer →
    (e : Option Ended) × (slice_get ended k ≡ Some e)
left_at [] [] k peer l e = cc
left_at [] (x ∷ joined) k peer l e = absurd (omega arith)
left_at (x ∷ ended) [] k peer l e = cc
left_at (x ∷ ended) (y ∷ joined) zero peer l e = (x, refl)
left_at (x ∷ ended) (y ∷ joined) (suc k) peer l e = left_at ended joined k peer (omega arith) e

left_over : (capacity : ℕ) (journal : List Entry) (q : ℕ) (peer : Joined) (e : Option Ended) (cause : EndCause) →
    IsLeft capacity journal q peer e →
    end_of journal q ≡ Some cause → is_peer (log_of (past_of journal)) peer.label ≡ false
left_over capacity journal q peer None cause h n = (let w = h.1 in cc)
left_over capacity journal q peer (Some e) cause h n = h.0

over_at : (s : State) (q : ℕ) → Stands s → (peer : Joined) (cause : EndCause) →
    peer_at (past_of s.journal.entries) q ≡ Some peer →
    end_of s.journal.entries q ≡ Some cause → is_peer (log_of (past_of s.journal.entries)) peer.label ≡ false
over_at s zero v peer cause e n = cc
over_at s (suc k) v peer cause e n =
    let at = left_at s.ended.items (past_of s.journal.entries).joined k peer v.left.number e in
    left_over s.capacity s.journal.entries (suc k) peer at.0 cause (v.left.each k peer at.0 e at.1) n

gone_by : (s : State) (q : ℕ) → Stands s → (peer : Joined) (o : Option EndCause) →
    peer_at (past_of s.journal.entries) q ≡ Some peer →
    end_of s.journal.entries q ≡ o → (by_end o ≡ Alive → ⊥) →
    is_peer (log_of (past_of s.journal.entries)) peer.label ≡ false
gone_by s q v peer None e n h = absurd (h refl)
gone_by s q v peer (Some cause) e n h = over_at s q v peer cause e n

gone_in : (s : State) (q : ℕ) → Stands s → (o : Option Joined) → peer_at (past_of s.journal.entries) q ≡ o →
    (standing_in s.journal.entries q o ≡ Alive → ⊥) → lives_in s.journal.entries o ≡ false
gone_in s q v None e h = refl
gone_in s q v (Some peer) e h = gone_by s q v peer (end_of s.journal.entries q) e refl h

pub others_gone : (s : State) (q : ℕ) → Stands s → (standing_of s.journal.entries q ≡ Alive → ⊥) →
    lives s.journal.entries q ≡ false
others_gone s q v h = gone_in s q v (peer_at (past_of s.journal.entries) q) refl h
