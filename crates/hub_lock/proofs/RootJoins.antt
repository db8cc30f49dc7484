-- No more are alive than the root has joined
use Rattle.std.proofs.Common.{◌≡◌, ℕ, ◌+◌, ◌<◌, ◌≤◌, List, [], ◌∷◌, ◌++◌, length, map, reverse, Bool, true, false, Option, Some, None, Result, Ok, Err, IfSome, IfNone, refl, ap, subst, ◌∙◌, arith, append-nil, length-append}
use Rattle.std.specs.Prelude.{nat_le, option_map, if◌then◌else◌, IsOkUnless}
use Rattle.std.proofs.lemmas.Bool.{lt-leb}
use Rattle.std.proofs.lemmas.List.{reverse-append}
use Rattle.std.proofs.lemmas.List.Sums.{count_by-le-length}
use mathlib.Core.Logic.{dite}
use native.Mathlib.Decide.{ℕ_discrete}
use Rattle.relay_model.specs.declared.role.Role.{Role}
use Rattle.relay_model.specs.Objects.{is_peer}
use Rattle.broker_steps.specs.declared.limits.Limits.{Limits}
use Rattle.broker_model.specs.declared.journal.Entry.{Entry}
use Rattle.broker_model.specs.declared.journal.Entry.TheVariants as entries
use Rattle.broker_model.specs.declared.journal.Kept.{Kept}
use Rattle.broker_model.specs.Ids.{Joined, log_of}
use Rattle.broker_model.specs.Resolve.{past_of}
use Rattle.broker_model.specs.Settle.{history, number_alive}
use Rattle.broker_core.specs.declared.answers.JoinRefusal.{JoinRefusal}
use Rattle.broker_core.specs.declared.answers.JoinRefusal.TheVariants as join_refusals
use Rattle.broker_core.specs.Broker.{Broker, full_for}
use Rattle.broker_core.proofs.AliveAfterEntry.{same_settled}
use Rattle.turn_lock.specs.Pairs.{own, NoneOf}
use Rattle.turn_lock.proofs.PairsOfNumbers.{own-here, own-else, own-append}
use Rattle.hub_lock.specs.declared.step.OuterStep.{OuterStep}
use Rattle.hub_lock.specs.Histories.{History, entries_of, broker_of}
use Rattle.hub_lock.specs.Lawful.{IsLawful, IsMadeBy, AreMadeBy}
use Rattle.hub_lock.specs.Passes.{PassSeat}
use Rattle.hub_lock.specs.Plays.{Joins}
use Rattle.hub_lock.specs.Calls.{Legal}

-- how many of the entries are joins

abbrev join_of : Entry → ℕ
join_of (entries.Join role) = 1
join_of _ = 0

abbrev joins : List Entry → ℕ
joins [] = 0
joins (e ∷ es) = join_of e + joins es

joins-append : (a b : List Entry) → joins (a ++ b) ≡ joins a + joins b
joins-append [] b = omega arith
joins-append (e ∷ a) b = let more = joins-append a b in omega arith

joins-reverse : (es : List Entry) → joins (reverse es) ≡ joins es
joins-reverse [] = refl
joins-reverse (e ∷ es) =
    let rest = joins-reverse es in
    let apart = joins-append (reverse es) (e ∷ []) in
    let is = ap joins (reverse-append (e ∷ []) es) in omega arith

-- as many have joined

joined-one : (e : Entry) (older : List Entry) →
    length (past_of (e ∷ older)).joined ≡ join_of e + length (past_of older).joined
joined-one (entries.Join role) older =
    let one =
    length-append (past_of older).joined (record { label = length older + 1; role = role } ∷ []) in omega arith
joined-one (entries.Message q id opcode body) older = omega arith
joined-one (entries.Tokens q tokens) older = omega arith
joined-one (entries.BadSize q head) older = omega arith
joined-one (entries.End q cause) older = omega arith
joined-one (entries.Shell step) older = omega arith
joined-one (entries.Took q bytes) older = omega arith

joined-are : (store : ℕ) (es : List Entry) → length (past_of (history store es)).joined ≡ joins es
joined-are store [] = refl
joined-are store (e ∷ older) =
    let journal : List Entry = history store older in
    let rest = joined-are store older in
    let one = joined-one e journal in
    let same = ap length (same_settled store (e ∷ journal)).joined in omega arith

-- each was joined by the root

own-grows : (n : ℕ) (s : ℕ × OuterStep) (h : History) → length (own n h) ≤ length (own n (s ∷ h))
own-grows n s h = dite (ℕ_discrete s.0 n)
    (λ e. let more = ap length (own-here n s h e) in omega arith)
    (λ e. let same = ap length (own-else n s h e) in omega arith)

own-join : (all : History) (e : Entry) (s : ℕ × OuterStep) (h : History) → s.1.entry ≡ e → IsMadeBy all s.0 e
    → join_of e + length (own 0 h) ≤ length (own 0 (s ∷ h))
own-join all (entries.Join role) s h is root = let more = ap length (own-here 0 s h root) in omega arith
own-join all (entries.Message q id opcode body) s h is made = let g = own-grows 0 s h in omega arith
own-join all (entries.Tokens q tokens) s h is made = let g = own-grows 0 s h in omega arith
own-join all (entries.BadSize q head) s h is made = let g = own-grows 0 s h in omega arith
own-join all (entries.End q cause) s h is made = let g = own-grows 0 s h in omega arith
own-join all (entries.Shell step) s h is made = let g = own-grows 0 s h in omega arith
own-join all (entries.Took q bytes) s h is made = let g = own-grows 0 s h in omega arith

own-joins : (all h : History) → AreMadeBy all h →
    joins (map (λ (s : ℕ × OuterStep). s.1.entry) h) ≤ length (own 0 h)
own-joins all [] made = omega arith
own-joins all (s ∷ h) made =
    let rest = own-joins all h made.1 in
    let one = own-join all s.1.entry s h refl made.0 in omega arith

pub alive-by-root : (limits : Limits) (h : History) → IsLawful limits h →
    number_alive (broker_of limits h).journal ≤ length (own 0 h)
alive-by-root limits h lawful =
    let journal : List Entry = (broker_of limits h).journal in
    let some : number_alive journal ≤ length (past_of journal).joined =
    count_by-le-length (λ (peer : Joined). is_peer (log_of (past_of journal)) peer.label) (past_of journal).joined in
    let joined = joined-are limits.store (entries_of h) in
    let back = joins-reverse (map (λ (s : ℕ × OuterStep). s.1.entry) h) in
    let mine = own-joins h h lawful.made_by in omega arith

-- so a join of the root is not refused for too many, while it made few

many-by : (many : Bool) (o : Option Kept) (r : Result ℕ JoinRefusal) (n : ℕ) → many ≡ false
    → IfSome (if many then Some (join_refusals.TooManyPeers 64)
    else option_map (λ kept. join_refusals.JournalFull kept) o)
    (λ why. r ≡ Err why)
    → IfNone (if many then Some (join_refusals.TooManyPeers 64)
    else option_map (λ kept. join_refusals.JournalFull kept) o)
    (IsOkUnless r join_refusals.NoMemory) → r ≡ Err (join_refusals.TooManyPeers n) → ⊥
many-by true o r n few refused accepted is = absurd (cc)
many-by false (Some kept) r n few refused accepted is = absurd (cc)
many-by false None (Ok q) n few refused accepted is = absurd (cc)
many-by false None (Err why) n few refused accepted is = absurd (cc)

pub never-many : (limits : Limits) (root : PassSeat) (after : History) (role : Role) (reader : ℕ)
    (r : Result ℕ JoinRefusal) (n : ℕ) → root.number ≡ 0
    → Legal limits root after (λ before. Joins limits before 0 role reader after r) → length (own 0 root.seen) < 64
    → r ≡ Err (join_refusals.TooManyPeers n) → ⊥
never-many limits root after role reader r n zero k few is =
    let before : History = root.seen ++ k.rest in
    let b : Broker = broker_of limits before in
    let alive = alive-by-root limits before k.lawful in
    let none : NoneOf 0 k.rest = subst (λ m. NoneOf m k.rest) zero k.apart in
    let same : own 0 before ≡ own 0 root.seen =
    own-append 0 root.seen k.rest ∙ ap (λ x. own 0 root.seen ++ x) none ∙ append-nil (own 0 root.seen) in
    let count = ap length same in
    let less : number_alive b.journal < 64 = omega arith in
    many-by (nat_le 64 (number_alive b.journal)) (full_for b (entries.Join role)) r n
    (lt-leb 64 (number_alive b.journal) less) k.answer.refused k.answer.accepted is
