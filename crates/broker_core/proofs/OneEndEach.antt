-- There are no more ends than peers that joined and aren't alive.
use Rattle.std.proofs.Common.{◌≡◌, ◌+◌, ◌≤◌, length, subst, arith, ℕ, zero, suc, ◌<◌, List, [], ◌∷◌, Bool, true, false, Some, None, ap, refl, sym, ◌∙◌, inl, inr}
use Rattle.broker_steps.specs.declared.limits.Limits.{Limits}
use Rattle.broker_model.specs.Resolve.{past_of}
use Rattle.broker_model.specs.Limits.{number_counted, is_end, is_counted}
use Rattle.broker_model.specs.Settle.{number_alive}
use Rattle.broker_core.specs.declared.state.State.{State}
use Rattle.broker_core.specs.Stands.{Stands, end_of}
use Rattle.broker_core.specs.Broker.{Broker}
use Rattle.broker_core.proofs.FirstDueIsSettled.{alive_count}
use Rattle.broker_core.proofs.SharedAfterStep.{shown}
use Rattle.std.specs.Prelude.{◌==◌, not, if◌then◌else◌}
use Rattle.std.specs.List.{count_by, slice_get}
use Rattle.std.proofs.lemmas.Bool.{ne_eqb, eqb-true, cases_lt}
use Rattle.std.proofs.lemmas.List.Sums.{sum_by-cons}
use Rattle.std.proofs.lemmas.Option.{same_Some}
use Rattle.relay_model.specs.Objects.{is_peer}
use Rattle.broker_model.specs.declared.journal.Entry.{Entry}
use Rattle.broker_model.specs.declared.journal.Entry.TheVariants as entries
use Rattle.broker_model.specs.Ids.{Joined, log_of, peer_at}
use Rattle.broker_core.specs.declared.taking.Standing.TheVariants.{Alive}
use Rattle.broker_core.specs.Ends.{is_end_of}
use Rattle.broker_core.specs.Taking.{by_end, standing_in, standing_of}
use Rattle.broker_core.proofs.WhoIsAlive.{IsAlive, alive_is}

pub few_of : (s : State) → Stands s →
    length s.journal.entries + number_alive s.journal.entries ≤ number_counted s.journal.entries
    + length (past_of s.journal.entries).joined
few_of s v =
    let ends = v.ends in
    let alive = alive_count s v in
    omega arith

pub few_ends : (limits : Limits) (b : Broker) (s : State) → shown limits s ≡ b → Stands s →
    length b.journal + number_alive b.journal ≤ number_counted b.journal + length (past_of b.journal).joined
few_ends limits b s e v =
    subst (λ (x : Broker). length x.journal + number_alive x.journal ≤ number_counted x.journal
    + length (past_of x.journal).joined) e (few_of s v)

-- Each peer ends at most once: there are no more ends than peers that joined and aren't alive, and each of these has
-- one.

-- counts

abbrev one_if : Bool → ℕ
one_if b = (if b then 1 else 0)

count_more : {X : Type 0} (p : X → Bool) (x : X) (xs : List X) → count_by p (x ∷ xs) ≡ one_if (p x) + count_by p xs
count_more p x xs = sum_by-cons (λ y. one_if (p y)) x xs

at_most_one : (b : Bool) → one_if b ≤ 1
at_most_one true = omega arith
at_most_one false = omega arith

one_of_both : (a b : Bool) → b ≡ not a → one_if a + one_if b ≡ 1
one_of_both true b e = rw e refl
one_of_both false b e = rw e refl

-- each passes the one test or the other
both : {X : Type 0} (p q : X → Bool) → ((x : X) → q x ≡ not (p x)) → (xs : List X) →
    count_by p xs + count_by q xs ≡ length xs
both p q h [] = refl
both p q h (x ∷ xs) =
    let one = count_more p x xs in
    let two = count_more q x xs in
    let here = one_of_both (p x) (q x) (h x) in
    let rest = both p q h xs in
    omega arith

-- how many ends the peer with the number q has, and how many n peers from k on
abbrev times : ℕ → List Entry → ℕ
times q journal = count_by (is_end_of q) journal

abbrev total : ℕ → ℕ → List Entry → ℕ
total k zero journal = 0
total k (suc n) journal = times k journal + total (suc k) n journal

-- of how many of these the entry is the end
abbrev hits : ℕ → ℕ → Entry → ℕ
hits k zero e = 0
hits k (suc n) e = one_if (is_end_of k e) + hits (suc k) n e

total_more : (k n : ℕ) (e : Entry) (older : List Entry) → total k n (e ∷ older) ≡ hits k n e + total k n older
total_more k zero e older = refl
total_more k (suc n) e older =
    let here : times k (e ∷ older) ≡ one_if (is_end_of k e) + times k older = count_more (is_end_of k) e older in
    let rest : total (suc k) n (e ∷ older) ≡ hits (suc k) n e + total (suc k) n older = total_more (suc k) n e older in
    omega arith

-- of none that comes later
hits_none : (k n : ℕ) (e : Entry) → ((q : ℕ) → k ≤ q → is_end_of q e ≡ false) → hits k n e ≡ 0
hits_none k zero e h = refl
hits_none k (suc n) e h =
    let here : one_if (is_end_of k e) ≡ 0 = ap one_if (h k (omega arith)) in
    let rest : hits (suc k) n e ≡ 0 = hits_none (suc k) n e (λ q l. h q (omega arith)) in
    omega arith

hits_end : (k n m : ℕ) (cause : _) → hits k n (entries.End m cause) ≤ 1
hits_end k zero m cause = omega arith
hits_end k (suc n) m cause = by (m == k) refl (hits_end (suc k) n m cause)
  where
    by : (b : Bool) → (m == k) ≡ b → hits (suc k) n (entries.End m cause) ≤ 1 →
        one_if (m == k) + hits (suc k) n (entries.End m cause) ≤ 1
    by true e rest =
        let same : m ≡ k = eqb-true m k e in
        let one = at_most_one (m == k) in
        let none : hits (suc k) n (entries.End m cause) ≡ 0 =
        hits_none (suc k) n (entries.End m cause) (λ q l. ne_eqb m q (λ d. omega arith)) in
        omega arith
    by false e rest = let here : one_if (m == k) ≡ 0 = ap one_if e in omega arith

hits_few : (k n : ℕ) (e : Entry) → hits k n e ≤ one_if (is_end e)
hits_few k n (entries.End m cause) = hits_end k n m cause
hits_few k n e = let none = hits_none k n e (λ q l. refl) in omega arith

total_few : (k n : ℕ) (journal : List Entry) → total k n journal ≤ count_by is_end journal
total_few k n [] = none k n
  where
    none : (k n : ℕ) → total k n [] ≤ 0
    none k zero = omega arith
    none k (suc n) = let rest = none (suc k) n in omega arith
total_few k n (e ∷ older) =
    let now = total_more k n e older in
    let here = hits_few k n e in
    let all = count_more is_end e older in
    let rest = total_few k n older in
    omega arith

-- a peer that has an end is counted, and one that has none isn't

has_end : (journal : List Entry) (q : ℕ) → (end_of journal q ≡ None → ⊥) → 1 ≤ times q journal
has_end [] q h = absurd (h refl)
has_end (entries.End n cause ∷ older) q h = by (n == q) refl (λ f. has_end older q f) h
  where
    more : times q (entries.End n cause ∷ older) ≡ one_if (n == q) + times q older
    more = count_more (is_end_of q) (entries.End n cause) older

    by : (b : Bool) → (n == q) ≡ b → ((end_of older q ≡ None → ⊥) → 1 ≤ times q older) →
        ((if b then Some cause else end_of older q) ≡ None → ⊥) →
        1 ≤ times q (entries.End n cause ∷ older)
    by true e k h = let here : one_if (n == q) ≡ 1 = ap one_if e in omega (arith, more)
    by false e k h = let rest = k h in omega (arith, more)
has_end (e ∷ older) q h =
    let more = count_more (is_end_of q) e older in
    let rest = has_end older q h in
    omega arith

no_end : (journal : List Entry) (q : ℕ) → end_of journal q ≡ None → times q journal ≡ 0
no_end [] q h = refl
no_end (entries.End n cause ∷ older) q h = by (n == q) refl (λ f. no_end older q f) h
  where
    more : times q (entries.End n cause ∷ older) ≡ one_if (n == q) + times q older
    more = count_more (is_end_of q) (entries.End n cause) older

    by : (b : Bool) → (n == q) ≡ b → (end_of older q ≡ None → times q older ≡ 0) →
        (if b then Some cause else end_of older q) ≡ None →
        times q (entries.End n cause ∷ older) ≡ 0
    by true e k h = cc
    by false e k h =
        let here : one_if (n == q) ≡ 0 = ap one_if e in
        let rest = k h in
        omega (arith, more)
no_end (e ∷ older) q h =
    let more = count_more (is_end_of q) e older in
    let rest = no_end older q h in
    omega arith

-- each of some peers, from the number k on, has an end where it passes the test

abbrev HaveEnds : (Joined → Bool) → List Entry → ℕ → List Joined → Type 0
HaveEnds test journal k joined =
    (i : ℕ) (peer : Joined) → slice_get joined i ≡ Some peer → one_if (test peer) ≤ times (k + i) journal

have_first : (test : Joined → Bool) (journal : List Entry) (k : ℕ) (peer : Joined) (rest : List Joined) →
    HaveEnds test journal k (peer ∷ rest) →
    one_if (test peer) ≤ times k journal
have_first test journal k peer rest h =
    let here : k + 0 ≡ k = omega arith in
    subst (λ (q : ℕ). one_if (test peer) ≤ times q journal) here (h 0 peer refl)

have_rest : (test : Joined → Bool) (journal : List Entry) (k : ℕ) (peer : Joined) (rest : List Joined) →
    HaveEnds test journal k (peer ∷ rest) →
    HaveEnds test journal (suc k) rest
have_rest test journal k peer rest h i p e =
    let there : k + suc i ≡ suc k + i = omega arith in
    subst (λ (q : ℕ). one_if (test p) ≤ times q journal) there (h (suc i) p e)

all_have : (test : Joined → Bool) (journal : List Entry) (k : ℕ) (joined : List Joined) →
    HaveEnds test journal k joined →
    count_by test joined ≤ total k (length joined) journal
all_have test journal k [] h = omega arith
all_have test journal k (peer ∷ rest) h =
    let first = have_first test journal k peer rest h in
    let more = count_more test peer rest in
    let later = all_have test journal (suc k) rest (have_rest test journal k peer rest h) in
    omega arith

-- and one of them has two
one_has_two : (test : Joined → Bool) (journal : List Entry) (k i : ℕ) (joined : List Joined) →
    HaveEnds test journal k joined → i < length joined →
    1 < times (k + i) journal → count_by test joined < total k (length joined) journal
one_has_two test journal k i [] h l w = absurd (omega arith)
one_has_two test journal k zero (peer ∷ rest) h l w =
    let here : k + 0 ≡ k = omega arith in
    let two : 1 < times k journal = subst (λ (q : ℕ). 1 < times q journal) here w in
    let one = at_most_one (test peer) in
    let more = count_more test peer rest in
    let later = all_have test journal (suc k) rest (have_rest test journal k peer rest h) in
    omega arith
one_has_two test journal k (suc i) (peer ∷ rest) h l w =
    let there : k + suc i ≡ suc k + i = omega arith in
    let first = have_first test journal k peer rest h in
    let more = count_more test peer rest in
    let later = one_has_two test journal (suc k) i rest (have_rest test journal k peer rest h) (omega arith)
    (subst (λ (q : ℕ). 1 < times q journal) there w) in
    omega arith

-- who isn't alive has an end

abbrev is_over : List Entry → Joined → Bool
is_over journal peer = not (is_peer (log_of (past_of journal)) peer.label)

standing_by : (journal : List Entry) (q : ℕ) (peer : Joined) → peer_at (past_of journal) q ≡ Some peer →
    end_of journal q ≡ None → standing_of journal q ≡ Alive
standing_by journal q peer e n = ap (standing_in journal q) e ∙ ap by_end n

over_has : (s : State) → Stands s → (q : ℕ) (peer : Joined) → peer_at (past_of s.journal.entries) q ≡ Some peer →
    (b : Bool) →
    is_peer (log_of (past_of s.journal.entries)) peer.label ≡ b → one_if (not b) ≤ times q s.journal.entries
over_has s v q peer e true l = omega arith
over_has s v q peer e false l =
    has_end s.journal.entries q
    (λ n.
    (let a : IsAlive s.journal.entries q = alive_is s q v (standing_by s.journal.entries q peer e n) in
    let same : peer ≡ a.peer = same_Some peer a.peer (sym e ∙ a.joined) in
    let lives : is_peer (log_of (past_of s.journal.entries)) peer.label ≡ true =
    subst (λ (x : Joined). is_peer (log_of (past_of s.journal.entries)) x.label ≡ true) (sym same) a.lives in
    cc))

over_have : (s : State) → Stands s →
    HaveEnds (is_over s.journal.entries) s.journal.entries 1 (past_of s.journal.entries).joined
over_have s v i peer e =
    let place : suc i ≡ 1 + i = omega arith in
    subst (λ (q : ℕ). one_if (is_over s.journal.entries peer) ≤ times q s.journal.entries) place
    (over_has s v (suc i) peer e (is_peer (log_of (past_of s.journal.entries)) peer.label) refl)

-- who joined is alive or not
number_joined : (journal : List Entry) →
    number_alive journal + count_by (is_over journal) (past_of journal).joined ≡ length (past_of journal).joined
number_joined journal =
    both (λ (peer : Joined). is_peer (log_of (past_of journal)) peer.label) (is_over journal) (λ peer. refl)
    (past_of journal).joined

-- two ends of one peer are too many
no_two : (s : State) → Stands s → (i : ℕ) → i < length (past_of s.journal.entries).joined →
    1 < times (1 + i) s.journal.entries → ⊥
no_two s v i within two =
    let few = few_of s v in
    let ends = both is_end is_counted (λ e. refl) s.journal.entries in
    let peers = number_joined s.journal.entries in
    let all = total_few 1 (length (past_of s.journal.entries).joined) s.journal.entries in
    let more = one_has_two (is_over s.journal.entries) s.journal.entries 1 i (past_of s.journal.entries).joined
    (over_have s v) within two in
    absurd (omega arith)

-- no peer has the number 0
none_at_first : (s : State) → Stands s → times 0 s.journal.entries ≤ 1
none_at_first s v =
    let few = few_of s v in
    let ends = both is_end is_counted (λ e. refl) s.journal.entries in
    let peers = number_joined s.journal.entries in
    let all : times 0 s.journal.entries + total 1 (length (past_of s.journal.entries).joined) s.journal.entries
    ≤ count_by is_end s.journal.entries =
    total_few 0 (suc (length (past_of s.journal.entries).joined)) s.journal.entries in
    let have = all_have (is_over s.journal.entries) s.journal.entries 1 (past_of s.journal.entries).joined
    (over_have s v) in
    omega arith

one_within : (s : State) → Stands s → (i : ℕ) → i < length (past_of s.journal.entries).joined →
    times (suc i) s.journal.entries ≤ 1
one_within s v i within =
    let place : suc i ≡ 1 + i = omega arith in
    elim (cases_lt 1 (times (suc i) s.journal.entries)) [
      | inl two ↦ absurd (no_two s v i within (subst (λ (q : ℕ). 1 < times q s.journal.entries) place two))
      | inr one ↦ one
    ]

one_at : (s : State) → Stands s → (q : ℕ) → times q s.journal.entries ≤ 1
one_at s v zero = none_at_first s v
one_at s v (suc i) =
    elim (cases_lt i (length (past_of s.journal.entries).joined)) [
      | inl within ↦ one_within s v i within
      | inr beyond ↦ (let none = no_end s.journal.entries (suc i) (v.left.later (suc i) (omega arith)) in omega arith)
    ]

pub one_end : (limits : Limits) (b : Broker) (s : State) → shown limits s ≡ b → Stands s → (q : ℕ) →
    count_by (is_end_of q) b.journal ≤ 1
one_end limits b s e v q = subst (λ (x : Broker). times q x.journal ≤ 1) e (one_at s v q)
