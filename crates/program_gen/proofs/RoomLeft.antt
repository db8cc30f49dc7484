-- After any number of its steps, the journal of a generated session has room, and its counts are within their types.
use Rattle.std.proofs.Common.{◌≡◌, ℕ, zero, suc, ◌+◌, ◌*◌, ◌^◌, ◌<◌, ◌≤◌, List, length, Bool, true, false, refl, sym, ap, subst, arith}
use Rattle.std.specs.Prelude.{if◌then◌else◌, ◌==◌}
use Rattle.std.proofs.lemmas.Bool.{ne_eqb}
use Rattle.broker_model.specs.declared.journal.Entry.{Entry}
use Rattle.broker_model.specs.Limits.{number_counted, weight}
use Rattle.broker_model.specs.Resolve.{past_of}
use Rattle.broker_model.specs.Settle.{number_alive}
use Rattle.session_gen.specs.Generated.{step_count}
use Rattle.program_gen.specs.Steps.{after_step}
use Rattle.program_gen.specs.Room.{HasRoom}
use Rattle.program_gen.specs.Events.{events_in}
use Rattle.program_gen.specs.Journals.{limits, put_sum, method_dones, journal_of, step_at}
use Rattle.program_gen.specs.Counts.{field_dones, activates, all_bytes}
use Rattle.program_gen.proofs.EventsCounted.{few_events}
use Rattle.program_gen.proofs.PutSums.{IsOfBytes, IsOfPeer, sum_few, peer_sum_few}
use Rattle.program_gen.proofs.LongerJournals.{GrowsBy, grows, joined_stay}
use Rattle.program_gen.proofs.GeneratedSteps.{step_sent}

-- the journal of one more step
pub journal_next : (n made : ℕ) → journal_of n (suc made) ≡ after_step limits.store (step_at n made) (journal_of n made)
unfolding journal_of step_at
journal_next n made = refl

journal_grows : (n made : ℕ) → GrowsBy (journal_of n made) (journal_of n (suc made))
unfolding step_at
journal_grows n made =
    subst (GrowsBy (journal_of n made)) (sym (journal_next n made))
    (grows limits.store (step_at n made) (journal_of n made)
    (step_sent n made (put_sum method_dones (journal_of n made))))

-- how large it is
pub record IsSmall (made : ℕ) (journal : List Entry) : Type 0 where
  pub counted : number_counted journal ≤ made
  pub light : weight journal ≤ 4104 * made
  pub joined : length (past_of journal).joined ≤ made
  pub ends : length journal + number_alive journal ≤ 2 * made

first_small : (n : ℕ) → IsSmall 0 (journal_of n 0)
unfolding journal_of
first_small n = record { counted = omega arith; light = omega arith; joined = omega arith; ends = omega arith }

pub small : (n made : ℕ) → IsSmall made (journal_of n made)
small n zero = first_small n
small n (suc made) =
    let before = small n made in
    let more = journal_grows n made in
    record {
      counted = (let a = before.counted in let b = more.counted in omega arith);
      light = (let a = before.light in let b = more.light in omega arith);
      joined = (let a = before.joined in let b = more.joined in omega arith);
      ends = (let a = before.ends in let b = more.ends in omega arith);
    }

pub has_room : (n made : ℕ) → made < step_count → HasRoom limits (journal_of n made)
has_room n made few =
    let s = small n made in
    record {
      counted = (let a = s.counted in omega arith);
      light = (let a = s.light in omega arith);
    }

-- the counts of bytes

fields_of_bytes : IsOfBytes field_dones
fields_of_bytes = record { few = λ q bytes. by (q == 5) bytes }
  where
    by : (b : Bool) (bytes : List ℕ) → (if b then 0 else events_in 7 5 bytes) ≤ length bytes
    by true bytes = omega arith
    by false bytes = few_events 7 5 bytes

activates_of_bytes : IsOfBytes activates
activates_of_bytes = record { few = λ q bytes. by (q == 5) bytes }
  where
    by : (b : Bool) (bytes : List ℕ) → (if b then events_in 5 0 bytes else 0) ≤ length bytes
    by true bytes = few_events 5 0 bytes
    by false bytes = omega arith

method_of_bytes : IsOfBytes method_dones
method_of_bytes = record { few = λ q bytes. by (q == 5) bytes }
  where
    by : (b : Bool) (bytes : List ℕ) → (if b then events_in 5 5 bytes else 0) ≤ length bytes
    by true bytes = few_events 5 5 bytes
    by false bytes = omega arith

all_of_bytes : IsOfBytes all_bytes
all_of_bytes = record { few = λ q bytes. omega arith }

method_of_peer : IsOfPeer method_dones 5
method_of_peer =
    record { none = λ k bytes other. ap (λ (b : Bool). (if b then events_in 5 5 bytes else 0)) (ne_eqb k 5 other) }

sum_within : (count : ℕ → List ℕ → ℕ) → IsOfBytes count → (n made : ℕ) → made ≤ step_count →
    put_sum count (journal_of n made) < 2 ^ 64
sum_within count is n made few =
    let s = small n made in
    let joined : length (past_of (journal_of n made)).joined ≤ 20033 = (let a = s.joined in omega arith) in
    let long : length (journal_of n made) ≤ 40066 = (let a = s.ends in omega arith) in
    let sum : put_sum count (journal_of n made) ≤ length (journal_of n made) * 1312882688 =
    sum_few count is 20033 (journal_of n made) joined_stay joined in
    omega arith

-- what is counted is within 64 bits, and the done events of the method within 32
pub record AreWithin (journal : List Entry) : Type 0 where
  pub dones : put_sum field_dones journal < 2 ^ 64
  pub activates : put_sum activates journal < 2 ^ 64
  pub method_dones : put_sum method_dones journal < 2 ^ 32
  pub queued : put_sum all_bytes journal < 2 ^ 64

pub within : (n made : ℕ) → made ≤ step_count → AreWithin (journal_of n made)
within n made few = record {
  dones = sum_within field_dones fields_of_bytes n made few;
  activates = sum_within activates activates_of_bytes n made few;
  method_dones =
      let s = small n made in
      let long : length (journal_of n made) ≤ 40066 = (let a = s.ends in omega arith) in
      let sum = peer_sum_few method_dones 5 method_of_bytes method_of_peer (journal_of n made) in
      omega arith;
  queued = sum_within all_bytes all_of_bytes n made few;
}
