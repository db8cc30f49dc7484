-- Sums over what was put: of a journal that goes on, and how large they are at most.
use Rattle.std.proofs.Common.{◌≡◌, ℕ, suc, ◌+◌, ◌*◌, ◌-◌, ◌<◌, ◌≤◌, List, [], ◌∷◌, ◌++◌, length, Bool, true, false, refl, ap, ◌∙◌, arith}
use Rattle.std.specs.Prelude.{if◌then◌else◌, ◌==◌, map}
use Rattle.std.specs.List.{sum_by, flat_map}
use Rattle.std.proofs.Math.Nat.{suc-mul}
use Rattle.std.proofs.lemmas.Bool.{leb-true, eqb-true, eqb-false}
use Rattle.std.proofs.lemmas.List.Sums.{sum_by-cons, sum_by-append}
use Rattle.relay_model.specs.declared.said.Told.{Told}
use Rattle.relay_model.specs.declared.said.Said.{Said}
use Rattle.relay_model.specs.declared.said.Said.TheVariants as said
use Rattle.relay_model.specs.Told.{told}
use Rattle.broker_model.specs.declared.journal.Entry.{Entry}
use Rattle.broker_model.specs.Ids.{Made, Joined}
use Rattle.broker_model.specs.Resolve.{past_of, resolve}
use Rattle.broker_model.specs.Groups.{Piece, pair_of}
use Rattle.broker_model.specs.Out.{Outgoing, act_at, group_at, fits, before_group, out_for}
use Rattle.broker_core.specs.Lives.{Numbered}
use Rattle.broker_core.specs.Stands.{numbered}
use Rattle.broker_core.specs.Watched.{Watched, shown, shown_by, group_put, out_put, watched, watched_since}
use Rattle.broker_core.specs.Watched.Watched.{Entered, Put}
use Rattle.broker_core.proofs.WatchedSince.{since_more, since_append}
use Rattle.program_gen.specs.Journals.{limits, of_put, put_sum}

-- a journal that goes on
pub put_more : (count : ℕ → List ℕ → ℕ) (more journal : List Entry) →
    put_sum count (more ++ journal)
    ≡ put_sum count journal + sum_by (of_put count) (watched_since limits.store (length journal) (more ++ journal))
put_more count more journal =
    ap (sum_by (of_put count)) (since_append limits.store 0 more journal (omega arith))
    ∙ sum_by-append (of_put count) (watched_since limits.store 0 journal)
    (watched_since limits.store (length journal) (more ++ journal))

put_next : (count : ℕ → List ℕ → ℕ) (e : Entry) (older : List Entry) →
    put_sum count (e ∷ older) ≡ put_sum count older + sum_by (of_put count) (watched limits.store e older)
put_next count e older =
    ap (sum_by (of_put count)) (since_more limits.store 0 e older (omega arith))
    ∙ sum_by-append (of_put count) (watched_since limits.store 0 older) (watched limits.store e older)

-- what the shell is told isn't put

shown_none : (count : ℕ → List ℕ → ℕ) (n : ℕ) (made : List Made) (peers : List Numbered) (event : Said) →
    sum_by (of_put count) (shown n made peers event) ≡ 0
shown_none count n made peers (said.Placed popup x y) = refl
shown_none count n made peers (said.Pass time key state) = refl
shown_none count n made peers (said.VMods mods) = refl
shown_none count n made peers _ = refl

shown_none_by : (count : ℕ → List ℕ → ℕ) (n : ℕ) (made : List Made) (peers : List Numbered) (ts : List Told) →
    sum_by (of_put count) (shown_by n made peers ts) ≡ 0
shown_none_by count n made peers [] = refl
shown_none_by count n made peers (t ∷ ts) =
    let here = shown_none count n made peers t.event in
    let rest = shown_none_by count n made peers ts in
    let both = sum_by-append (of_put count) (shown n made peers t.event) (shown_by n made peers ts) in
    omega arith

-- so what an entry puts are the groups of those who joined

abbrev group_sum : (ℕ → List ℕ → ℕ) → Entry → List Entry → List Numbered → ℕ
group_sum count e older peers = sum_by (of_put count) (flat_map (out_put limits.store e older) peers)

entry_sum : (count : ℕ → List ℕ → ℕ) (e : Entry) (older : List Entry) →
    sum_by (of_put count) (watched limits.store e older)
    ≡ group_sum count e older (numbered 1 (past_of (e ∷ older)).joined)
entry_sum count e older =
    let n = length older + 1 in
    let past = past_of (e ∷ older) in
    let peers = numbered 1 past.joined in
    let shell = shown_by n past.made peers (told (act_at e older) (resolve older)) in
    let groups = flat_map (out_put limits.store e older) peers in
    let first = sum_by-cons (of_put count) (Entered n e (act_at e older) (resolve older)) (shell ++ groups) in
    let both = sum_by-append (of_put count) shell groups in
    let none = shown_none_by count n past.made peers (told (act_at e older) (resolve older)) in
    omega arith

-- A count is of bytes: it is at most as large as they are many.
pub record IsOfBytes (count : ℕ → List ℕ → ℕ) : Type 0 where
  pub few : (q : ℕ) (bytes : List ℕ) → count q bytes ≤ length bytes

-- each group that was put fits a store

group_few : (count : ℕ → List ℕ → ℕ) → IsOfBytes count → (n q : ℕ) (group : Piece) (most : ℕ) →
    length group.bytes ≤ most → sum_by (of_put count) (group_put n q group) ≤ most
group_few count is n q group most l = by (length group.bytes == 0)
  where
    by : (b : Bool) → sum_by (of_put count)
        (if b then [] else Put n q group.bytes (map pair_of group.tokens) ∷ []) ≤ most
    by true = omega arith
    by false =
        let one = sum_by-cons (of_put count) (Put n q group.bytes (map pair_of group.tokens)) [] in
        let few = is.few q group.bytes in
        omega arith

out_few : (count : ℕ → List ℕ → ℕ) → IsOfBytes count → (e : Entry) (older : List Entry) (p : Numbered) →
    sum_by (of_put count) (out_put limits.store e older p) ≤ 65536
out_few count is e older p = by (fits limits.store group out) refl
  where
    group : Piece
    group = group_at e older p.peer.label

    out : Outgoing
    out = before_group e older p.peer.label (out_for limits.store older p.peer.label)

    by : (b : Bool) → fits limits.store group out ≡ b →
        sum_by (of_put count) (if b then group_put (length older + 1) p.number group else []) ≤ 65536
    by false f = omega arith
    by true f =
        let room : (length out.put.bytes - out.taken) + length group.bytes ≤ 65536 = leb-true _ _ f in
        group_few count is (length older + 1) p.number group 65536 (omega arith)

groups_few : (count : ℕ → List ℕ → ℕ) → IsOfBytes count → (e : Entry) (older : List Entry) (k : ℕ)
    (joined : List Joined) → group_sum count e older (numbered k joined) ≤ length joined * 65536
groups_few count is e older k [] = omega arith
groups_few count is e older k (peer ∷ joined) =
    let p : Numbered = record { number = k; peer = peer } in
    let here = out_few count is e older p in
    let rest = groups_few count is e older (suc k) joined in
    let both = sum_by-append (of_put count) (out_put limits.store e older p)
    (flat_map (out_put limits.store e older) (numbered (suc k) joined)) in
    omega arith

-- all that was put for peers of whom at most so many joined
pub sum_few : (count : ℕ → List ℕ → ℕ) → IsOfBytes count → (most : ℕ) (journal : List Entry) →
    ((e : Entry) (older : List Entry) → length (past_of older).joined ≤ length (past_of (e ∷ older)).joined) →
    length (past_of journal).joined ≤ most → put_sum count journal ≤ length journal * (most * 65536)
sum_few count is most [] grow l = omega arith
sum_few count is most (e ∷ older) grow l =
    let more = grow e older in
    let before = sum_few count is most older grow (omega arith) in
    let next = put_next count e older in
    let here = entry_sum count e older in
    let groups = groups_few count is e older 1 (past_of (e ∷ older)).joined in
    let most_groups : length (past_of (e ∷ older)).joined * 65536 ≤ most * 65536 = omega arith in
    let product = suc-mul (length older) (most * 65536) in
    omega arith

-- a count of one peer's groups alone
pub record IsOfPeer (count : ℕ → List ℕ → ℕ) (q : ℕ) : Type 0 where
  pub none : (k : ℕ) (bytes : List ℕ) → (k ≡ q → ⊥) → count k bytes ≡ 0

group_none : (count : ℕ → List ℕ → ℕ) (q : ℕ) → IsOfPeer count q → (n k : ℕ) (group : Piece) → (k ≡ q → ⊥) →
    sum_by (of_put count) (group_put n k group) ≡ 0
group_none count q is n k group other = by (length group.bytes == 0)
  where
    by : (b : Bool) → sum_by (of_put count)
        (if b then [] else Put n k group.bytes (map pair_of group.tokens) ∷ []) ≡ 0
    by true = refl
    by false =
        let one = sum_by-cons (of_put count) (Put n k group.bytes (map pair_of group.tokens)) [] in
        let none = is.none k group.bytes other in
        omega arith

out_none : (count : ℕ → List ℕ → ℕ) (q : ℕ) → IsOfPeer count q → (e : Entry) (older : List Entry) (p : Numbered) →
    (p.number ≡ q → ⊥) → sum_by (of_put count) (out_put limits.store e older p) ≡ 0
out_none count q is e older p other =
    by (fits limits.store group (before_group e older p.peer.label (out_for limits.store older p.peer.label)))
  where
    group : Piece
    group = group_at e older p.peer.label

    by : (b : Bool) → sum_by (of_put count) (if b then group_put (length older + 1) p.number group else []) ≡ 0
    by true = group_none count q is (length older + 1) p.number group other
    by false = refl

later_none : (count : ℕ → List ℕ → ℕ) (q : ℕ) → IsOfPeer count q → (e : Entry) (older : List Entry) (k : ℕ)
    (joined : List Joined) → q < k → group_sum count e older (numbered k joined) ≡ 0
later_none count q is e older k [] l = refl
later_none count q is e older k (peer ∷ joined) l =
    let p : Numbered = record { number = k; peer = peer } in
    let here = out_none count q is e older p (λ same. omega arith) in
    let rest = later_none count q is e older (suc k) joined (omega arith) in
    let both = sum_by-append (of_put count) (out_put limits.store e older p)
    (flat_map (out_put limits.store e older) (numbered (suc k) joined)) in
    omega arith

peer_groups_few : (count : ℕ → List ℕ → ℕ) (q : ℕ) → IsOfBytes count → IsOfPeer count q → (e : Entry)
    (older : List Entry) (k : ℕ) (joined : List Joined) →
    group_sum count e older (numbered k joined) ≤ 65536
peer_groups_few count q is of e older k [] = omega arith
peer_groups_few count q is of e older k (peer ∷ joined) =
    by (k == q) refl (peer_groups_few count q is of e older (suc k) joined)
  where
    p : Numbered
    p = record { number = k; peer = peer }

    tail : List Watched
    tail = flat_map (out_put limits.store e older) (numbered (suc k) joined)

    by : (b : Bool) → (k == q) ≡ b → sum_by (of_put count) tail ≤ 65536 →
        sum_by (of_put count) (out_put limits.store e older p ++ tail) ≤ 65536
    by true same rest =
        let at : k ≡ q = eqb-true k q same in
        let here = out_few count is e older p in
        let none = later_none count q of e older (suc k) joined (omega arith) in
        let both = sum_by-append (of_put count) (out_put limits.store e older p) tail in
        omega arith
    by false same rest =
        let here = out_none count q of e older p (eqb-false k q same) in
        let both = sum_by-append (of_put count) (out_put limits.store e older p) tail in
        omega arith

-- all that was put for one peer
pub peer_sum_few : (count : ℕ → List ℕ → ℕ) (q : ℕ) → IsOfBytes count → IsOfPeer count q → (journal : List Entry) →
    put_sum count journal ≤ length journal * 65536
peer_sum_few count q is of [] = omega arith
peer_sum_few count q is of (e ∷ older) =
    let before = peer_sum_few count q is of older in
    let next = put_next count e older in
    let here = entry_sum count e older in
    let groups = peer_groups_few count q is of e older 1 (past_of (e ∷ older)).joined in
    omega arith
