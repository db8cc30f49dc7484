-- How a journal grows by a step: it only goes on, by at most one counted entry, one peer that joins, and few ends.
use Rattle.std.proofs.Common.{◌≡◌, ℕ, zero, suc, ◌+◌, ◌<◌, ◌≤◌, List, [], ◌∷◌, ◌++◌, length, Bool, true, false, cond, Option, Some, None, refl, sym, ap, ◌∙◌, arith, append_assoc, length-append}
use Rattle.std.specs.Prelude.{if◌then◌else◌, min, nat_le, ◌==◌, not}
use Rattle.std.specs.List.{count_by}
use Rattle.std.proofs.lemmas.List.Sums.{sum_by-cons}
use Rattle.relay_model.specs.declared.role.Role.{Role}
use Rattle.broker_steps.specs.declared.step.Step.{Step}
use Rattle.broker_steps.specs.declared.step.Step.TheVariants as steps
use Rattle.broker_steps.specs.declared.step.PeerStep.TheVariants as peers
use Rattle.broker_model.specs.declared.journal.Entry.{Entry}
use Rattle.broker_model.specs.declared.journal.Entry.TheVariants as entries
use Rattle.broker_model.specs.Ids.{Joined, peer_at}
use Rattle.broker_model.specs.Limits.{is_end, is_counted, number_counted, weight_of, weight}
use Rattle.broker_model.specs.Out.{stored, out_for}
use Rattle.broker_model.specs.Resolve.{with_joined, past_of}
use Rattle.broker_model.specs.Settle.{due, cause_of, with_end, settled, number_alive}
use Rattle.broker_model.proofs.SettlingEnds.{ends_fewer}
use Rattle.broker_core.specs.Taking.{lives}
use Rattle.broker_core.proofs.AliveAfterEntry.{counted_cons, weight_cons, same_settled, alive_plain, alive_join}
use Rattle.broker_core.proofs.WatchedSince.{settled_more}
use Rattle.program_gen.specs.Steps.{entered, after_join, after_peer, after_taken, after_take, after_step}
use Rattle.program_gen.proofs.GeneratedSteps.{IsGenerated}

-- the later journal is the earlier one with more entries, few of them and light ones
pub record GrowsBy (before after : List Entry) : Type 0 where
  pub more : List Entry
  pub is : after ≡ more ++ before
  pub counted : number_counted after ≤ number_counted before + 1
  pub light : weight after ≤ weight before + 4104
  pub joined : length (past_of after).joined ≤ length (past_of before).joined + 1
  -- each end takes a peer, and at most one peer joins
  pub ends : length after + number_alive after ≤ length before + number_alive before + 2

stays : (journal : List Entry) → GrowsBy journal journal
stays journal = record {
  more = [];
  is = refl;
  counted = omega arith;
  light = omega arith;
  joined = omega arith;
  ends = omega arith;
}

-- what is settled is as long as there are peers to end

long_by : (capacity fuel : ℕ) (journal : List Entry) (o : Option ℕ) → due capacity journal ≡ o →
    ((later : List Entry) → length (settled capacity fuel later) + number_alive (settled capacity fuel later)
    ≤ length later + number_alive later) →
    length (settled capacity fuel (with_end journal o)) + number_alive (settled capacity fuel (with_end journal o))
    ≤ length journal + number_alive journal
long_by capacity fuel journal None e k = k journal
long_by capacity fuel journal (Some q) e k =
    let rest = k (entries.End q (cause_of journal q) ∷ journal) in
    let less : number_alive (entries.End q (cause_of journal q) ∷ journal) < number_alive journal =
    ends_fewer capacity journal q (cause_of journal q) e in
    omega arith

long_settled : (capacity fuel : ℕ) (journal : List Entry) →
    length (settled capacity fuel journal) + number_alive (settled capacity fuel journal)
    ≤ length journal + number_alive journal
long_settled capacity zero journal = omega arith
long_settled capacity (suc fuel) journal =
    long_by capacity fuel journal (due capacity journal) refl (long_settled capacity fuel)

-- one entry, with the ends that follow

-- the entry is a join, a message, a step of the shell or a take
abbrev IsOuter : Entry → Type 0
IsOuter (entries.BadSize q head) = ⊥
IsOuter (entries.Tokens q tokens) = ⊥
IsOuter (entries.End q cause) = ⊥
IsOuter (entries.Message q id opcode body) = length body ≤ 4088
IsOuter _ = Unit {0}

weighs_few : (e : Entry) → IsOuter e → weight_of e ≤ 4104
weighs_few (entries.Message q id opcode body) o = omega arith
weighs_few (entries.Join role) o = omega arith
weighs_few (entries.Shell step) o = omega arith
weighs_few (entries.Took q bytes) o = omega arith
weighs_few (entries.BadSize q head) o = absurd o
weighs_few (entries.Tokens q tokens) o = absurd o
weighs_few (entries.End q cause) o = absurd o

counts_one : (b : Bool) → cond b 1 0 ≤ 1
counts_one true = omega arith
counts_one false = omega arith

joins_one : (e : Entry) (n : ℕ) (joined : List Joined) → length (with_joined e n joined) ≤ length joined + 1
joins_one (entries.Join role) n joined =
    (let long = length-append joined (record { label = n; role = role } ∷ []) in omega arith)
joins_one _ n joined = omega arith

alive_more : (e : Entry) (older : List Entry) → IsOuter e → number_alive (e ∷ older) ≤ number_alive older + 1
alive_more (entries.Join role) older o = (let is = alive_join role older in omega arith)
alive_more (entries.Message q id opcode body) older o =
    (let is = alive_plain (entries.Message q id opcode body) older tt in omega arith)
alive_more (entries.Shell step) older o = (let is = alive_plain (entries.Shell step) older tt in omega arith)
alive_more (entries.Took q bytes) older o = (let is = alive_plain (entries.Took q bytes) older tt in omega arith)
alive_more (entries.BadSize q head) older o = absurd o
alive_more (entries.Tokens q tokens) older o = absurd o
alive_more (entries.End q cause) older o = absurd o

enters : (capacity : ℕ) (e : Entry) (journal : List Entry) → IsOuter e → GrowsBy journal (entered capacity e journal)
enters capacity e journal o =
    let m = settled_more capacity (number_alive (e ∷ journal)) (e ∷ journal) in
    let same = same_settled capacity (e ∷ journal) in
    let counted = counted_cons e journal in
    let one = counts_one (is_counted e) in
    let weighs = weight_cons e journal in
    let few = weighs_few e o in
    let joined = joins_one e (length journal + 1) (past_of journal).joined in
    let long = long_settled capacity (number_alive (e ∷ journal)) (e ∷ journal) in
    let alive = alive_more e journal o in
    let same_joined = ap length same.joined in
    record {
      more = m.more ++ e ∷ [];
      is = m.is ∙ sym (append_assoc m.more (e ∷ []) journal);
      counted = (let is = same.counted in omega arith);
      light = (let is = same.weighs in omega arith);
      joined = omega arith;
      ends = omega arith;
    }

-- each step

joins : (capacity : ℕ) (role : Role) (journal : List Entry) → GrowsBy journal (after_join capacity role journal)
joins capacity role journal = by (nat_le 64 (number_alive journal))
  where
    by : (b : Bool) → GrowsBy journal (if b then journal else entered capacity (entries.Join role) journal)
    by true = stays journal
    by false = enters capacity (entries.Join role) journal tt

sends : (capacity q : ℕ) (e : Entry) (journal : List Entry) → IsOuter e →
    GrowsBy journal (after_peer capacity q e journal)
sends capacity q e journal o = by (lives journal q)
  where
    by : (b : Bool) → GrowsBy journal (if b then entered capacity e journal else journal)
    by true = enters capacity e journal o
    by false = stays journal

taken : (capacity q m : ℕ) (journal : List Entry) → GrowsBy journal (after_taken capacity q m journal)
taken capacity q m journal = by (m == 0)
  where
    by : (b : Bool) → GrowsBy journal (if b then journal else entered capacity (entries.Took q m) journal)
    by true = stays journal
    by false = enters capacity (entries.Took q m) journal tt

takes : (capacity q n : ℕ) (journal : List Entry) (o : Option Joined) →
    GrowsBy journal (after_take capacity q n journal o)
takes capacity q n journal None = stays journal
takes capacity q n journal (Some peer) =
    taken capacity q (min n (length (stored (out_for capacity journal peer.label)))) journal

pub grows : (capacity : ℕ) (step : Step) (journal : List Entry) → IsGenerated step →
    GrowsBy journal (after_step capacity step journal)
grows capacity (steps.Join role) journal s = joins capacity role journal
grows capacity (steps.Peer q (peers.Message id opcode body)) journal s =
    sends capacity q (entries.Message q id opcode body) journal s.2.0
grows capacity (steps.Peer q (peers.BadSize head)) journal s = absurd s
grows capacity (steps.Peer q (peers.Tokens tokens)) journal s = absurd s
grows capacity (steps.Peer q peers.Gone) journal s = absurd s
grows capacity (steps.Shell step) journal s = enters capacity (entries.Shell step) journal tt
grows capacity (steps.Take q n) journal s = takes capacity q n journal (peer_at (past_of journal) q)

-- who joined stays
pub joined_stay : (e : Entry) (older : List Entry) → length (past_of older).joined ≤ length (past_of (e ∷ older)).joined
joined_stay e older = by e (length older + 1) (past_of older).joined
  where
    by : (e : Entry) (n : ℕ) (joined : List Joined) → length joined ≤ length (with_joined e n joined)
    by (entries.Join role) n joined =
        (let long = length-append joined (record { label = n; role = role } ∷ []) in omega arith)
    by _ n joined = omega arith

-- an entry is an end, or it is counted
pub ends_and_counted : (journal : List Entry) → count_by is_end journal + number_counted journal ≡ length journal
ends_and_counted [] = refl
ends_and_counted (e ∷ older) =
    let ends = sum_by-cons (λ x. cond (is_end x) 1 0) e older in
    let counted = counted_cons e older in
    let rest = ends_and_counted older in
    let one : cond (is_end e) 1 0 + cond (is_counted e) 1 0 ≡ 1 = by (is_end e) in
    omega arith
  where
    by : (b : Bool) → cond b 1 0 + cond (not b) 1 0 ≡ 1
    by true = refl
    by false = refl
