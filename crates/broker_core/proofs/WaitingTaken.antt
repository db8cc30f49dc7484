-- What waits for a peer with a number, and where it waits.
use Rattle.std.proofs.Common.{◌≡◌, ℕ, zero, suc, ◌-◌, ◌<◌, ◌≤◌, List, [], ◌∷◌, length, Option, Some, None, true, false, IsSome, IfSome, IfNone, option_map, unwrap_or, ap, refl, sym, subst, ◌∙◌, arith, ◌++◌, map, take, drop, min, set, length-drop}
use Rattle.std.specs.Prelude.{IsSomeAnd}
use Rattle.std.specs.List.{slice_get}
use Rattle.std.proofs.lemmas.List.{length-map, take-map}
use Rattle.std.proofs.lemmas.Option.{slice_get_within, slice_get-map, same_Some}
use Rattle.out_store.specs.Queue.{Queue, queue, Cell, bytes_of, tokens_of}
use Rattle.broker_model.specs.declared.journal.Entry.{Entry}
use Rattle.broker_model.specs.Ids.{Joined, log_of, peer_at}
use Rattle.broker_model.specs.Resolve.{past_of, of_peer, only}
use Rattle.broker_model.specs.Out.{Outgoing, out_for, act_at, stored, tokens_taken}
use Rattle.broker_model.specs.Stored.{cells_out}
use Rattle.broker_audience.specs.declared.live.Live.{Live}
use Rattle.relay_model.specs.declared.act.EndCause.{EndCause}
use Rattle.relay_model.specs.Objects.{is_peer}
use Rattle.broker_model.specs.Ends.{Ended, ended_in, ended_with, cells_left, after_take, rest_of}
use Rattle.broker_core.specs.declared.state.State.{State}
use Rattle.broker_audience.specs.Lives.{number_of, who}
use Rattle.broker_core.specs.Stands.{Stands, IsLeft, store_of, CanTake, IsReadyFor}
use Rattle.broker_core.specs.Taking.{out_at, IsTaken}
use Rattle.broker_core.proofs.StoresGivenBack.{cells_of_store, rest_holds, rest_filled}
use Rattle.broker_core.proofs.ReadyForTake.{live_cells, ended_left, ended_cells, IsTaking, ready_took_live, ready_took_ended}
use Rattle.broker_core.proofs.RosterAfterEntry.{at_number, is_there}
use Rattle.relay_model.specs.declared.act.Act.TheVariants as acts
use Rattle.broker_model.specs.declared.journal.Entry.TheVariants as entries
use Rattle.broker_model.specs.Groups.{Token}
use Rattle.broker_model.proofs.StoresAreOut.{length_out}
use Rattle.broker_model.proofs.TakenCells.{bytes_out, tokens_are_out}

-- what is out for the peer, as its store holds it
abbrev pub waiting : ℕ → List Entry → ℕ → Queue
waiting capacity journal q = queue (unwrap_or (option_map cells_out (out_at capacity journal q)) []) capacity

-- who it is

pub is_out : (capacity : ℕ) (journal : List Entry) (q : ℕ) (peer : Joined) → peer_at (past_of journal) q ≡ Some peer →
    out_at capacity journal q ≡ Some (out_for capacity journal peer.label)
is_out capacity journal q peer e = ap (option_map (λ (p : Joined). out_for capacity journal p.label)) e

pub waiting_for : (capacity : ℕ) (journal : List Entry) (q : ℕ) (peer : Joined) →
    peer_at (past_of journal) q ≡ Some peer →
    waiting capacity journal q ≡ queue (cells_out (out_for capacity journal peer.label)) capacity
waiting_for capacity journal q peer e =
    ap (λ (o : Option Outgoing). queue (unwrap_or (option_map cells_out o) []) capacity)
    (is_out capacity journal q peer e)

-- whoever something is out for has joined
pub joined_of : (capacity : ℕ) (journal : List Entry) (q : ℕ) → IsSome (out_at capacity journal q) →
    (peer : Joined) × (peer_at (past_of journal) q ≡ Some peer)
joined_of capacity journal q h = by (peer_at (past_of journal) q) refl h
  where
    by : (o : Option Joined) → peer_at (past_of journal) q ≡ o →
        IsSome (option_map (λ (p : Joined). out_for capacity journal p.label) o) →
        (peer : Joined) × (peer_at (past_of journal) q ≡ Some peer)
    by None e i = absurd (cc)
    by (Some peer) e i = (peer, e)

-- so has each up to the number of labels
joined_at : (s : State) → Stands s → (q : ℕ) → (q ≡ 0 → ⊥) → q ≤ length s.labels.items →
    (peer : Joined) × (peer_at (past_of s.journal.entries) q ≡ Some peer)
joined_at s v zero d w = absurd (d refl)
joined_at s v (suc k) d w = by (past_of s.journal.entries).joined k within
  where
    within : k < length (past_of s.journal.entries).joined
    within =
        let many : length s.labels.items ≡ length (past_of s.journal.entries).joined =
        ap length v.labels ∙ length-map (past_of s.journal.entries).joined (λ (peer : Joined). peer.label) in
        omega arith

    by : (joined : List Joined) (i : ℕ) → i < length joined → (peer : Joined) × (slice_get joined i ≡ Some peer)
    by [] i l = absurd (omega arith)
    by (x ∷ rest) zero l = (x, refl)
    by (x ∷ rest) (suc i) l = by rest i (omega arith)

-- its label
pub label_at : (s : State) → Stands s → (q : ℕ) (peer : Joined) → peer_at (past_of s.journal.entries) q ≡ Some peer →
    slice_get s.labels.items (q - 1) ≡ Some peer.label
label_at s v zero peer e = cc
label_at s v (suc k) peer e =
    let same : suc k - 1 ≡ k = omega arith in
    ap (λ (i : ℕ). slice_get s.labels.items i) same
    ∙ ap (λ (ls : List ℕ). slice_get ls k) v.labels
    ∙ slice_get-map (λ (p : Joined). p.label) (past_of s.journal.entries).joined k
    ∙ ap (option_map (λ (p : Joined). p.label)) e

-- where it is

-- a place for each that joined
left_at : (s : State) → Stands s → (q : ℕ) (peer : Joined) → peer_at (past_of s.journal.entries) q ≡ Some peer →
    (o : Option Ended) × (slice_get s.ended.items (q - 1) ≡ Some o)
left_at s v zero peer e = cc
left_at s v (suc k) peer e = by s.ended.items (suc k - 1) within
  where
    within : suc k - 1 < length s.ended.items
    within =
        let there : k < length (past_of s.journal.entries).joined =
        slice_get_within (past_of s.journal.entries).joined k peer e in
        let many : length s.ended.items ≡ length (past_of s.journal.entries).joined = v.left.number in
        omega arith

    by : (ended : List (Option Ended)) (i : ℕ) → i < length ended → (o : Option Ended) × (slice_get ended i ≡ Some o)
    by [] i l = absurd (omega arith)
    by (x ∷ rest) zero l = (x, refl)
    by (x ∷ rest) (suc i) l = by rest i (omega arith)

-- where one ended, and where one didn't
pub over_at : (s : State) → Stands s → (q : ℕ) → (q ≡ 0 → ⊥) → q ≤ length s.labels.items → (cause : EndCause) →
    Some cause ≡ option_map (λ e. e.cause) (ended_with q s.ended.items) →
    (peer : Joined) × (peer_at (past_of s.journal.entries) q ≡ Some peer)
    × (was : Ended) × (slice_get s.ended.items (q - 1) ≡ Some (Some was)) × (cause ≡ was.cause)
over_at s v q d w cause h = by at.0 at.1
  where
    joined : (peer : Joined) × (peer_at (past_of s.journal.entries) q ≡ Some peer)
    joined = joined_at s v q d w

    at : (o : Option Ended) × (slice_get s.ended.items (q - 1) ≡ Some o)
    at = left_at s v q joined.0 joined.1

    by : (o : Option Ended) → slice_get s.ended.items (q - 1) ≡ Some o →
        (peer : Joined) × (peer_at (past_of s.journal.entries) q ≡ Some peer)
        × (was : Ended) × (slice_get s.ended.items (q - 1) ≡ Some (Some was)) × (cause ≡ was.cause)
    by None e =
        let none : Some cause ≡ None =
        h ∙ ap (λ (o : Option (Option Ended)). option_map (λ e. e.cause) (ended_in o)) e in
        absurd (cc)
    by (Some was) e =
        let some : Some cause ≡ Some was.cause =
        h ∙ ap (λ (o : Option (Option Ended)). option_map (λ e. e.cause) (ended_in o)) e in
        (joined.0, joined.1, was, e, same_Some cause was.cause some)

pub still_at : (s : State) → Stands s → (q : ℕ) → (q ≡ 0 → ⊥) → q ≤ length s.labels.items →
    None ≡ option_map (λ e. e.cause) (ended_with q s.ended.items) →
    (peer : Joined) × (peer_at (past_of s.journal.entries) q ≡ Some peer)
    × (slice_get s.ended.items (q - 1) ≡ Some None)
still_at s v q d w h = by at.0 at.1
  where
    joined : (peer : Joined) × (peer_at (past_of s.journal.entries) q ≡ Some peer)
    joined = joined_at s v q d w

    at : (o : Option Ended) × (slice_get s.ended.items (q - 1) ≡ Some o)
    at = left_at s v q joined.0 joined.1

    by : (o : Option Ended) → slice_get s.ended.items (q - 1) ≡ Some o →
        (peer : Joined) × (peer_at (past_of s.journal.entries) q ≡ Some peer)
        × (slice_get s.ended.items (q - 1) ≡ Some None)
    by None e = (joined.0, joined.1, e)
    by (Some was) e =
        let some : None ≡ Some was.cause =
        h ∙ ap (λ (o : Option (Option Ended)). option_map (λ e. e.cause) (ended_in o)) e in
        absurd (cc)

-- there is a place for each label
pub places_left : (s : State) → Stands s → length s.ended.items ≡ length s.labels.items
places_left s v =
    v.left.number
    ∙ sym (ap length v.labels ∙ length-map (past_of s.journal.entries).joined (λ (peer : Joined). peer.label))

-- one that is alive didn't end
pub none_over : (s : State) → Stands s → (q : ℕ) (l : Live) → number_of q s.audience.live.items ≡ Some l →
    slice_get s.ended.items (q - 1) ≡ Some None
none_over s v q l n = by at.0 at.1
  where
    peer : Joined
    peer = record { label = l.label; role = l.role }

    own : (peer_at (past_of s.journal.entries) q ≡ Some peer)
        × (is_peer (log_of (past_of s.journal.entries)) l.label ≡ true) × (l.number ≡ q)
    own = at_number s.journal.entries s.audience.live.items v.who q l n

    at : (o : Option Ended) × (slice_get s.ended.items (q - 1) ≡ Some o)
    at = left_at s v q peer own.0

    by : (o : Option Ended) → slice_get s.ended.items (q - 1) ≡ Some o → slice_get s.ended.items (q - 1) ≡ Some None
    by None e = e
    by (Some was) e =
        let left : IsLeft s.capacity s.journal.entries q peer (Some was) = ended_left s v q peer (Some was) own.0 e in
        let dead : is_peer (log_of (past_of s.journal.entries)) l.label ≡ false = left.0 in
        let lives : is_peer (log_of (past_of s.journal.entries)) l.label ≡ true = own.1 in
        absurd (cc)

-- one that didn't end is alive
pub alive_at : (s : State) → Stands s → (q : ℕ) (peer : Joined) → peer_at (past_of s.journal.entries) q ≡ Some peer →
    slice_get s.ended.items (q - 1) ≡ Some None →
    (l : Live) × (number_of q s.audience.live.items ≡ Some l) × (who l ≡ record { number = q; peer = peer })
alive_at s v q peer e f =
    let left : IsLeft s.capacity s.journal.entries q peer None = ended_left s v q peer None e f in
    is_there s.journal.entries s.audience.live.items v.who q peer e left.0

-- one that isn't alive has ended
pub ended_at : (s : State) → Stands s → (q : ℕ) (peer : Joined) → peer_at (past_of s.journal.entries) q ≡ Some peer →
    number_of q s.audience.live.items ≡ None → (was : Ended) × (slice_get s.ended.items (q - 1) ≡ Some (Some was))
ended_at s v q peer e none = let at = left_at s v q peer e in by at.0 at.1
  where
    by : (o : Option Ended) → slice_get s.ended.items (q - 1) ≡ Some o →
        (was : Ended) × (slice_get s.ended.items (q - 1) ≡ Some (Some was))
    by None f =
        let there = alive_at s v q peer e f in
        let both : Some there.0 ≡ None = sym there.1 ∙ none in
        absurd (cc)
    by (Some was) f = (was, f)

-- what waits for it

-- the live one's store holds it
pub live_waiting : (s : State) → Stands s → (q : ℕ) (l : Live) → number_of q s.audience.live.items ≡ Some l →
    l.store ≡ waiting s.capacity s.journal.entries q
live_waiting s v q l e =
    let own = at_number s.journal.entries s.audience.live.items v.who q l e in
    live_cells s v q l e
    ∙ sym (waiting_for s.capacity s.journal.entries q (record { label = l.label; role = l.role }) own.0)

pub waits_live : (s : State) → Stands s → (q : ℕ) →
    IfSome (number_of q s.audience.live.items) (λ l. l.store ≡ waiting s.capacity s.journal.entries q)
waits_live s v q = by (number_of q s.audience.live.items) refl
  where
    by : (o : Option Live) → number_of q s.audience.live.items ≡ o →
        IfSome o (λ l. l.store ≡ waiting s.capacity s.journal.entries q)
    by None e = tt
    by (Some l) e = live_waiting s v q l e

-- so does what stays of an ended one's

abbrev pub IsRest : Queue → Option (Option Ended) → Type 0
IsRest store entry = IsSomeAnd entry (λ e. IsSomeAnd e (λ was. store_of store.capacity was.store ≡ store))

abbrev pub Left : ℕ → Queue → List (Option Ended) → Type 0
Left q store ended = IsRest store (slice_get ended (q - 1))

pub ended_waiting : (s : State) → Stands s → (q : ℕ) (peer : Joined) (was : Ended) →
    peer_at (past_of s.journal.entries) q ≡ Some peer →
    slice_get s.ended.items (q - 1) ≡ Some (Some was) →
    store_of s.capacity was.store ≡ waiting s.capacity s.journal.entries q
ended_waiting s v q peer was e at =
    ended_cells s v q peer was e at ∙ sym (waiting_for s.capacity s.journal.entries q peer e)

pub waits_ended : (s : State) → Stands s → (q : ℕ) (peer : Joined) → peer_at (past_of s.journal.entries) q ≡ Some peer →
    IfNone (number_of q s.audience.live.items) (Left q (waiting s.capacity s.journal.entries q) s.ended.items)
waits_ended s v q peer e = by (number_of q s.audience.live.items) refl
  where
    by : (o : Option Live) → number_of q s.audience.live.items ≡ o →
        IfNone o (Left q (waiting s.capacity s.journal.entries q) s.ended.items)
    by None none =
        let at = ended_at s v q peer e none in
        subst (IsRest (waiting s.capacity s.journal.entries q)) (sym at.1) (ended_waiting s v q peer at.0 e at.1)
    by (Some l) some = tt

-- A take of what waits for a peer with a number.

-- from the store of a live one that is found
abbrev pub TakesLive : ℕ → Queue → List Live → List Live → Option Live → Type 0
TakesLive n store live after found =
    IfSome found
    (λ l.
    (place : ℕ) × (slice_get live place ≡ Some l)
    × (after ≡ set live place (record l { store = queue (drop n store.cells) store.capacity })))

-- from what stays of an ended one's
abbrev pub TakesRest : ℕ → ℕ → Queue → List (Option Ended) → List (Option Ended) → Option (Option Ended) → Type 0
TakesRest q n store ended after entry =
    IfSome entry
    (λ e.
    IfSome e
    (λ was.
    (rest : Option Queue)
    × (store_of store.capacity rest ≡ queue (drop n store.cells) store.capacity)
    × IfSome rest (λ stays. ¬ (stays.cells ≡ []))
    × (after ≡ set ended (q - 1) (Some (record { cause = was.cause; store = rest })))))

-- so where none is found alive
abbrev pub TakesEnded : ℕ → ℕ → Queue → List (Option Ended) → List (Option Ended) → Option Live → Type 0
TakesEnded q n store ended after found = IfNone found (TakesRest q n store ended after (slice_get ended (q - 1)))

-- the state that it leaves is ready for an entry that says so
pub ready_taken : (q n : ℕ) (peer : Joined) (s t : State) → Stands s → CanTake (entries.Took q 0) s.journal.entries →
    peer_at (past_of s.journal.entries) q ≡ Some peer → n ≤ length (waiting s.capacity s.journal.entries q).cells →
    TakesLive n (waiting s.capacity s.journal.entries q) s.audience.live.items t.audience.live.items
    (number_of q s.audience.live.items) →
    IfSome (number_of q s.audience.live.items) (λ l. t.ended.items ≡ s.ended.items) →
    TakesEnded q n (waiting s.capacity s.journal.entries q) s.ended.items t.ended.items
    (number_of q s.audience.live.items) →
    IfNone (number_of q s.audience.live.items) (t.audience.live.items ≡ s.audience.live.items) →
    IsTaking (acts.Took peer.label n) s t → IsReadyFor (entries.Took q n) t
ready_taken q n peer s t v k joined few live ended left others it =
    by (number_of q s.audience.live.items) refl live ended left others
  where
    can : CanTake (entries.Took q n) s.journal.entries
    can = record { few = k.few; light = k.light }

    by : (o : Option Live) → number_of q s.audience.live.items ≡ o →
        TakesLive n (waiting s.capacity s.journal.entries q) s.audience.live.items t.audience.live.items o →
        IfSome o (λ l. t.ended.items ≡ s.ended.items) →
        TakesEnded q n (waiting s.capacity s.journal.entries q) s.ended.items t.ended.items o →
        IfNone o (t.audience.live.items ≡ s.audience.live.items) → IsReadyFor (entries.Took q n) t
    by (Some l) e one same a b =
        let own = at_number s.journal.entries s.audience.live.items v.who q l e in
        let label : peer.label ≡ l.label =
        ap (λ (p : Joined). p.label)
        (same_Some peer (record { label = l.label; role = l.role }) (sym joined ∙ own.0)) in
        let holds : l.store ≡ waiting s.capacity s.journal.entries q = live_waiting s v q l e in
        ready_took_live q n l one.0 s t v can e one.1 (subst (λ (w : Queue). n ≤ length w.cells) (sym holds) few)
        (one.2
        ∙ ap (λ (w : Queue). set s.audience.live.items one.0 (record l { store = queue (drop n w.cells) w.capacity }))
        (sym holds)) same
        (subst (λ (p : ℕ). IsTaking (acts.Took p n) s t) label it)
    by None none a b rest same =
        let at = ended_at s v q peer joined none in
        let holds : store_of s.capacity at.0.store ≡ waiting s.capacity s.journal.entries q =
        ended_waiting s v q peer at.0 joined at.1 in
        let one : TakesRest q n (waiting s.capacity s.journal.entries q) s.ended.items t.ended.items
        (Some (Some at.0)) =
        subst (TakesRest q n (waiting s.capacity s.journal.entries q) s.ended.items t.ended.items) at.1 rest in
        ready_took_ended q n peer at.0 one.0 s t v can joined at.1
        (subst (λ (w : Queue). n ≤ length w.cells) (sym holds) few)
        (one.1 ∙ ap (λ (w : Queue). queue (drop n w.cells) s.capacity) (sym holds)) one.3 same it

-- the act of the entry
pub took_act : (q n : ℕ) (journal : List Entry) (peer : Joined) → peer_at (past_of journal) q ≡ Some peer →
    acts.Took peer.label n ≡ act_at (entries.Took q n) journal
took_act q n journal peer e = sym (ap (λ o. (of_peer o (λ p. only (acts.Took p.label n))).act) e)

-- what is taken of a store is what is taken of what is out
pub taken_out : (capacity : ℕ) (journal : List Entry) (q : ℕ) (store : Queue) (buf places : List ℕ) (counts : ℕ × ℕ)
    (buf_after places_after : List ℕ) (newer : List Entry) →
    store ≡ waiting capacity journal q → counts.0 ≡ min (length buf) (length store.cells) →
    buf_after ≡ bytes_of (take counts.0 store.cells) ++ drop counts.0 buf →
    counts.1 ≡ length (tokens_of (take counts.0 store.cells)) →
    places_after ≡ tokens_of (take counts.0 store.cells) ++ drop counts.1 places →
    newer ≡ entries.Took q counts.0 ∷ journal →
    IfSome (out_at capacity journal q) (λ out. IsTaken out journal q buf places counts buf_after places_after newer)
taken_out capacity journal q store buf places counts buf_after places_after newer same count bytes token_count tokens
    entry =
    by (peer_at (past_of journal) q) refl
  where
    by : (o : Option Joined) → peer_at (past_of journal) q ≡ o →
        IfSome (option_map (λ (p : Joined). out_for capacity journal p.label) o)
        (λ out. IsTaken out journal q buf places counts buf_after places_after newer)
    by None e = tt
    by (Some peer) e =
        let out : Outgoing = out_for capacity journal peer.label in
        let cells : store.cells ≡ cells_out out =
        ap (λ (w : Queue). w.cells) (same ∙ waiting_for capacity journal q peer e) in
        let many : length store.cells ≡ length (stored out) =
        ap length cells ∙ length_out out ∙ sym (length-drop out.taken out.put.bytes) in
        let first : bytes_of (take counts.0 store.cells) ≡ take counts.0 (stored out) =
        ap (λ (cs : List Cell). bytes_of (take counts.0 cs)) cells
        ∙ sym (take-map (λ (cell : Cell). cell.0) counts.0 (cells_out out))
        ∙ ap (take counts.0) (bytes_out out) in
        let begun : tokens_of (take counts.0 store.cells) ≡ map (λ (t : Token). t.token) (tokens_taken counts.0 out) =
        ap (λ (cs : List Cell). tokens_of (take counts.0 cs)) cells
        ∙ tokens_are_out capacity journal peer.label counts.0 in
        record {
          count = count ∙ ap (λ (n : ℕ). min (length buf) n) many;
          bytes = bytes ∙ ap (λ (bs : List ℕ). bs ++ drop counts.0 buf) first;
          token_count = token_count ∙ ap length begun ∙ length-map (tokens_taken counts.0 out) (λ (t : Token). t.token);
          tokens = tokens ∙ ap (λ (ts : List ℕ). ts ++ drop counts.1 places) begun;
          journal = entry;
        }

-- where none is found alive

pub not_live : (P : Live → Type 0) (found : Option Live) → found ≡ None → IfSome found P
not_live P None e = tt
not_live P (Some l) e = cc

pub left_in : (q : ℕ) (store : Queue) (live : List Live) (ended : List (Option Ended)) → number_of q live ≡ None →
    IfNone (number_of q live) (Left q store ended) → Left q store ended
left_in q store live ended none h = subst (λ (o : Option Live). IfNone o (Left q store ended)) none h

-- something stays
pub is_left : (store : Queue) (entry : Option (Option Ended)) → IsRest store entry → IsSome (ended_in entry)
is_left store None i = absurd i
is_left store (Some None) i = absurd i
is_left store (Some (Some was)) i = refl

-- its cells
pub left_cells : (store : Queue) (entry : Option (Option Ended)) → IsRest store entry →
    cells_left (ended_in entry) ≡ store.cells
left_cells store None i = absurd i
left_cells store (Some None) i = absurd i
left_cells store (Some (Some was)) i =
    cells_of_store store.capacity was.store ∙ ap (λ (w : Queue). w.cells) i

-- what becomes of it
pub takes_ended : (q n : ℕ) (store : Queue) (ended after : List (Option Ended)) (found : Option Live) →
    Left q store ended → after ≡ set ended (q - 1) (after_take n (ended_with q ended)) →
    TakesEnded q n store ended after found
takes_ended q n store ended after (Some l) left new = tt
takes_ended q n store ended after None left new = by (slice_get ended (q - 1)) left new
  where
    by : (entry : Option (Option Ended)) → IsRest store entry →
        after ≡ set ended (q - 1) (after_take n (ended_in entry)) → TakesRest q n store ended after entry
    by None i k = absurd i
    by (Some None) i k = absurd i
    by (Some (Some was)) i k = (rest_of n was.store, rest_holds n was.store store i, rest_filled n was.store, k)
