-- Who is alive after a step was alive before it, or joined by it.
use Rattle.std.proofs.Common.{◌≡◌, ℕ, zero, suc, ◌+◌, List, [], ◌∷◌, ◌++◌, length, Bool, true, false, Option, Some, None, refl, sym, ap, ◌∙◌, arith, inl, inr, ◌⊎◌}
use Rattle.std.specs.Prelude.{◌&&◌}
use Rattle.std.specs.List.{slice_get}
use Rattle.relay_model.specs.declared.act.EndCause.{EndCause}
use Rattle.relay_model.specs.declared.role.Role.{Role}
use Rattle.relay_model.specs.Objects.{is_peer}
use Rattle.broker_model.specs.declared.journal.Entry.{Entry}
use Rattle.broker_model.specs.declared.journal.Entry.TheVariants as entries
use Rattle.broker_model.specs.Ids.{Joined, log_of, peer_in, peer_at}
use Rattle.broker_model.specs.Resolve.{past_of}
use Rattle.broker_model.specs.Limits.{is_end}
use Rattle.broker_model.specs.Settle.{due, cause_of, with_end, settled, number_alive, settle}
use Rattle.broker_model.proofs.LabelsRiseByNumber.{label_within}
use Rattle.broker_model.proofs.LivePeersJoined.{joined_stays}
use Rattle.broker_model.proofs.SettlingEnds.{IsDue, due_is, due_lives}
use Rattle.broker_core.specs.Taking.{lives_in, lives}
use Rattle.broker_core.proofs.OnlyEndsTakePeers.{peer_kept, peer_ended}

-- a peer that is alive joined
pub record IsAlive (journal : List Entry) (q : ℕ) : Type 0 where
  pub peer : Joined
  pub joined : peer_at (past_of journal) q ≡ Some peer
  pub alive : is_peer (log_of (past_of journal)) peer.label ≡ true

alive_by : (journal : List Entry) (q : ℕ) (o : Option Joined) → peer_at (past_of journal) q ≡ o →
    lives_in journal o ≡ true → IsAlive journal q
alive_by journal q None e h = cc
alive_by journal q (Some peer) e h = record { peer = peer; joined = e; alive = h }

pub is_alive : (journal : List Entry) (q : ℕ) → lives journal q ≡ true → IsAlive journal q
is_alive journal q h = alive_by journal q (peer_at (past_of journal) q) refl h

pub is_lives : (journal : List Entry) (q : ℕ) (peer : Joined) → peer_at (past_of journal) q ≡ Some peer →
    lives journal q ≡ is_peer (log_of (past_of journal)) peer.label
is_lives journal q peer e = ap (lives_in journal) e

-- an entry that ends nobody

pub lives_kept : (e : Entry) (older : List Entry) (q : ℕ) (peer : Joined) → is_end e ≡ false →
    peer_at (past_of older) q ≡ Some peer →
    peer_at (past_of (e ∷ older)) q ≡ Some peer → lives (e ∷ older) q ≡ lives older q
lives_kept e older q peer n h k =
    is_lives (e ∷ older) q peer k ∙ peer_kept e older peer.label n (label_within older q peer h)
    ∙ sym (is_lives older q peer h)

-- and joins nobody
pub lives_same : (e : Entry) (older : List Entry) (q : ℕ) → is_end e ≡ false →
    (past_of (e ∷ older)).joined ≡ (past_of older).joined →
    lives (e ∷ older) q ≡ true → lives older q ≡ true
lives_same e older q n j h =
    let a : IsAlive (e ∷ older) q = is_alive (e ∷ older) q h in
    let before : peer_at (past_of older) q ≡ Some a.peer = ap (λ (joined : List Joined). peer_in joined q) (sym j)
    ∙ a.joined in
    sym (lives_kept e older q a.peer n before a.joined) ∙ h

-- the end of a live peer

and_left : (a b : Bool) → (a && b) ≡ true → a ≡ true
and_left true b h = refl
and_left false b h = cc

pub lives_end : (k : ℕ) (why : EndCause) (older : List Entry) (q : ℕ) → lives older k ≡ true →
    lives (entries.End k why ∷ older) q ≡ true →
    lives older q ≡ true
lives_end k why older q l h =
    let a : IsAlive (entries.End k why ∷ older) q = is_alive (entries.End k why ∷ older) q h in
    let ends : IsAlive older k = is_alive older k l in
    let fewer = peer_ended k why older ends.peer a.peer.label ends.joined ends.alive
    (label_within older q a.peer a.joined) in
    is_lives older q a.peer a.joined ∙ and_left _ _ (sym fewer ∙ a.alive)

-- the ends that follow

settled_by : (capacity fuel : ℕ) (journal : List Entry) (q : ℕ) (o : Option ℕ) → due capacity journal ≡ o →
    ((later : List Entry) → lives (settled capacity fuel later) q ≡ true → lives later q ≡ true) →
    lives (settled capacity fuel (with_end journal o)) q ≡ true → lives journal q ≡ true
settled_by capacity fuel journal q None e f h = f journal h
settled_by capacity fuel journal q (Some k) e f h =
    let d : IsDue capacity journal k = due_is capacity journal k e in
    lives_end k (cause_of journal k) journal q (is_lives journal k d.peer d.joined ∙ due_lives capacity journal k d)
    (f (entries.End k (cause_of journal k) ∷ journal) h)

lives_settled : (capacity fuel : ℕ) (journal : List Entry) (q : ℕ) → lives (settled capacity fuel journal) q ≡ true →
    lives journal q ≡ true
lives_settled capacity zero journal q h = h
lives_settled capacity (suc fuel) journal q h =
    settled_by capacity fuel journal q (due capacity journal) refl (λ later. lives_settled capacity fuel later q) h

pub lives_settle : (capacity : ℕ) (journal : List Entry) (q : ℕ) → lives (settle capacity journal) q ≡ true →
    lives journal q ≡ true
lives_settle capacity journal q h = lives_settled capacity (number_alive journal) journal q h

-- who joins

last_place : (xs : List Joined) (y : Joined) (i : ℕ) (x : Joined) → slice_get (xs ++ y ∷ []) i ≡ Some x →
    slice_get xs i ≡ None → i ≡ length xs
last_place [] y zero x h n = refl
last_place [] y (suc i) x h n = cc
last_place (z ∷ xs) y zero x h n = cc
last_place (z ∷ xs) y (suc i) x h n = ap suc (last_place xs y i x h n)

last_peer : (xs : List Joined) (y : Joined) (q : ℕ) (x : Joined) → peer_in (xs ++ y ∷ []) q ≡ Some x →
    peer_in xs q ≡ None → q ≡ length xs + 1
last_peer xs y zero x h n = cc
last_peer xs y (suc i) x h n = (let place = last_place xs y i x h n in omega arith)

join_by : (role : Role) (older : List Entry) (q : ℕ) (o : Option Joined) → peer_at (past_of older) q ≡ o →
    lives (entries.Join role ∷ older) q ≡ true →
    (lives older q ≡ true) ⊎ (q ≡ length (past_of older).joined + 1)
join_by role older q None e h =
    let a : IsAlive (entries.Join role ∷ older) q = is_alive (entries.Join role ∷ older) q h in
    inr (last_peer (past_of older).joined (record { label = length older + 1; role = role }) q a.peer a.joined e)
join_by role older q (Some peer) e h =
    inl (sym (lives_kept (entries.Join role) older q peer refl e
    (joined_stays (entries.Join role) (length older + 1) (past_of older).joined q peer e)) ∙ h)

pub lives_join : (role : Role) (older : List Entry) (q : ℕ) → lives (entries.Join role ∷ older) q ≡ true →
    (lives older q ≡ true) ⊎ (q ≡ length (past_of older).joined + 1)
lives_join role older q h = join_by role older q (peer_at (past_of older) q) refl h
