-- The end of a live peer takes one from those who are alive, so what settling appends is as long as that takes.
use Rattle.std.proofs.Common.{◌≡◌, ℕ, zero, suc, ◌+◌, ◌<◌, ◌≤◌, List, [], ◌∷◌, length, filter, Bool, true, false, cond, not, Option, Some, None, refl, sym, ap, subst, ◌∙◌, arith, length-append}
use Rattle.std.specs.Prelude.{◌==◌}
use Rattle.std.specs.List.{slice_get}
use Rattle.std.proofs.lemmas.Bool.{eq-eqb}
use Rattle.std.proofs.lemmas.List.Sums.{length-filter, count_by-le-length}
use Rattle.std.proofs.lemmas.Option.{same_Some}
use Rattle.relay_model.specs.declared.act.Act.{Act}
use Rattle.relay_model.specs.declared.act.EndCause.{EndCause}
use Rattle.relay_model.specs.Objects.{is_peer}
use Rattle.broker_model.specs.declared.journal.Entry.{Entry}
use Rattle.broker_model.specs.declared.journal.Entry.TheVariants as entries
use Rattle.broker_model.specs.Ids.{Joined, log_of, peer_at}
use Rattle.broker_model.specs.Limits.{is_counted, number_counted}
use Rattle.broker_model.specs.Resolve.{with_joined, past_of}
use Rattle.broker_model.specs.Settle.{due, cause_of, with_end, settled, number_alive, settle}
use Rattle.broker_model.proofs.SettlingEnds.{ends_fewer}
use Rattle.broker_core.specs.Lives.{Numbered}
use Rattle.broker_core.specs.Stands.{numbered, is_alive}
use Rattle.broker_core.proofs.AliveAfterEntry.{counted_cons}
use Rattle.broker_core.proofs.RosterAfterEntry.{roster_end, roster_count}

-- ---- the end of a live peer

abbrev is_other : ℕ → Numbered → Bool
is_other q n = not (n.number == q)

fewer_at : (log : List Act) (k i q : ℕ) (joined : List Joined) (peer : Joined) → slice_get joined i ≡ Some peer →
    is_peer log peer.label ≡ true → q ≡ k + i →
    length (filter (is_other q) (filter (is_alive log) (numbered k joined)))
    < length (filter (is_alive log) (numbered k joined))
fewer_at log k i q [] peer h l e = cc
fewer_at log k zero q (p ∷ ps) peer h l e =
    let first : Numbered = record { number = k; peer = p } in
    let rest : List Numbered = filter (is_alive log) (numbered (suc k) ps) in
    let same : p ≡ peer = same_Some p peer h in
    let alive : is_peer log p.label ≡ true = ap (λ (x : Joined). is_peer log x.label) same ∙ l in
    let own : (k == q) ≡ true = eq-eqb k q (omega arith) in
    let is : filter (is_alive log) (numbered k (p ∷ ps)) ≡ first ∷ rest =
    ap (λ (b : Bool). cond b (first ∷ rest) rest) alive in
    let left : filter (is_other q) (first ∷ rest) ≡ filter (is_other q) rest =
    ap (λ (b : Bool). cond (not b) (first ∷ filter (is_other q) rest) (filter (is_other q) rest)) own in
    let few : length (filter (is_other q) (first ∷ rest)) ≤ length rest =
    subst (λ (n : ℕ). n ≤ length rest) (sym (ap length left ∙ length-filter (is_other q) rest))
    (count_by-le-length (is_other q) rest) in
    subst (λ (xs : List Numbered). length (filter (is_other q) xs) < length xs) (sym is) (omega (arith, few))
fewer_at log k (suc i) q (p ∷ ps) peer h l e =
    by (is_peer log p.label) (fewer_at log (suc k) i q ps peer h l (omega arith))
  where
    first : Numbered
    first = record { number = k; peer = p }

    rest : List Numbered
    rest = filter (is_alive log) (numbered (suc k) ps)

    more : (c : Bool) → length (filter (is_other q) rest) < length rest →
        length (cond (not c) (first ∷ filter (is_other q) rest) (filter (is_other q) rest)) < suc (length rest)
    more true f = omega arith
    more false f = omega arith

    by : (b : Bool) → length (filter (is_other q) rest) < length rest →
        length (filter (is_other q) (cond b (first ∷ rest) rest)) < length (cond b (first ∷ rest) rest)
    by true f = more (k == q) f
    by false f = f

pub end_fewer : (q : ℕ) (why : EndCause) (older : List Entry) (peer : Joined) →
    peer_at (past_of older) q ≡ Some peer → is_peer (log_of (past_of older)) peer.label ≡ true →
    number_alive (entries.End q why ∷ older) < number_alive older
end_fewer zero why older peer e l = cc
end_fewer (suc i) why older peer e l =
    let less = fewer_at (log_of (past_of older)) 1 i (suc i) (past_of older).joined peer e l (omega arith) in
    let after = sym (roster_count (entries.End (suc i) why ∷ older))
    ∙ ap length (roster_end (suc i) why older peer e l) in
    omega (arith, less, after, roster_count older)

-- ---- settling

long_by : (capacity fuel : ℕ) (journal : List Entry) (o : Option ℕ) → due capacity journal ≡ o →
    ((later : List Entry) → length (settled capacity fuel later) + number_alive (settled capacity fuel later)
    ≤ length later + number_alive later) →
    length (settled capacity fuel (with_end journal o)) + number_alive (settled capacity fuel (with_end journal o))
    ≤ length journal + number_alive journal
long_by capacity fuel journal None e k = k journal
long_by capacity fuel journal (Some q) e k =
    let rest = k (entries.End q (cause_of journal q) ∷ journal) in
    let less : number_alive (entries.End q (cause_of journal q) ∷ journal) < number_alive journal =
    ends_fewer capacity journal q (cause_of journal q) e in
    omega arith

long_settled : (capacity fuel : ℕ) (journal : List Entry) →
    length (settled capacity fuel journal) + number_alive (settled capacity fuel journal)
    ≤ length journal + number_alive journal
long_settled capacity zero journal = omega arith
long_settled capacity (suc fuel) journal =
    long_by capacity fuel journal (due capacity journal) refl (long_settled capacity fuel)

-- each end that follows takes a peer
pub long_settle : (capacity : ℕ) (journal : List Entry) →
    length (settle capacity journal) + number_alive (settle capacity journal) ≤ length journal + number_alive journal
long_settle capacity journal = long_settled capacity (number_alive journal) journal

-- ---- who joined

-- who joined stays
pub joined_stay : (e : Entry) (older : List Entry) →
    length (past_of older).joined ≤ length (past_of (e ∷ older)).joined
joined_stay e older = by e (length older + 1) (past_of older).joined
  where
    by : (e : Entry) (n : ℕ) (joined : List Joined) → length joined ≤ length (with_joined e n joined)
    by (entries.Join role) n joined =
        (let long = length-append joined (record { label = n; role = role } ∷ []) in omega arith)
    by _ n joined = omega arith

joins_few : (e : Entry) (n : ℕ) (joined : List Joined) →
    length (with_joined e n joined) ≤ cond (is_counted e) 1 0 + length joined
joins_few (entries.Join role) n joined =
    (let long = length-append joined (record { label = n; role = role } ∷ []) in omega arith)
joins_few _ n joined = omega arith

-- each by an entry that is counted
pub joined_few : (journal : List Entry) → length (past_of journal).joined ≤ number_counted journal
joined_few [] = omega arith
joined_few (e ∷ older) =
    let rest = joined_few older in
    let one = joins_few e (length older + 1) (past_of older).joined in
    let count = counted_cons e older in
    omega arith
