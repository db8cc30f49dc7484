-- Why no job was begun, by what the root has seen when the passes came back
use Rattle.std.proofs.Common.{◌≡◌, ℕ, ◌+◌, ◌-◌, ◌≤◌, Bool, true, false, List, [], ◌∷◌, ◌++◌, length, Option, Some, None, Result, Err, IfSome, IfNone, refl, sym, ap, subst, ◌∙◌, arith, append_assoc, append-nil}
use Rattle.std.specs.Prelude.{IsOkUnless, option_map, if◌then◌else◌, nat_le}
use Rattle.relay_model.specs.declared.role.Role.{Role}
use Rattle.broker_steps.specs.declared.limits.Limits.{Limits}
use Rattle.broker_model.specs.declared.journal.Entry.TheVariants as entries
use Rattle.broker_model.specs.declared.journal.Kept.{Kept}
use Rattle.broker_model.specs.Settle.{number_alive}
use Rattle.broker_core.specs.declared.answers.JoinRefusal.{JoinRefusal}
use Rattle.broker_core.specs.declared.answers.JoinRefusal.TheVariants as join
use Rattle.broker_core.specs.Broker.{Broker, full_for, join_refusal}
use Rattle.turn_lock.specs.Pairs.{own, NoneOf}
use Rattle.hub_lock.specs.Seats.{met_with, having_seen}
use Rattle.hub_lock.specs.Histories.{History, broker_of}
use Rattle.hub_lock.specs.Passes.{HubId, PassSeat, PeerPass, IsOf, steps_of}
use Rattle.hub_lock.specs.Calls.{LegalJoin, IsJoined}
use Rattle.hub_calls.specs.declared.stop.PassStop.{PassStop}
use Rattle.hub_calls.specs.declared.stop.PassStop.TheVariants as stops
use Rattle.hub_calls.specs.Submitted.{Submits, entries_in}
use Rattle.trial_threads.specs.declared.no_job.NoJob.{NoJob}
use Rattle.trial_threads.specs.declared.no_job.NoJob.TheVariants as none
use Rattle.trial_threads.specs.NoJobs.{refused_by, stopped_by, HasCause, IsWithout}
use Rattle.trial_threads.specs.Begun.{AreBack}
use Rattle.trial_threads.proofs.LightMessages.{light_next}
use Rattle.trial_threads.proofs.StepsFew.{joined_one, back_one, back_few}

-- a join that was refused by the rules

abbrev none_joined : JoinRefusal → Result ℕ JoinRefusal
none_joined why = Err why

refused_so : (o : Option JoinRefusal) (why : JoinRefusal) → (why ≡ join.NoMemory → ⊥) →
    IfSome o (λ w. none_joined why ≡ Err w) → IfNone o (IsOkUnless (none_joined why) join.NoMemory) → o ≡ Some why
refused_so None why other some none = absurd (other none)
refused_so (Some w) why other some none = let e : none_joined why ≡ none_joined w = some in cc

full_there : (many : Bool) (o : Option Kept) (kept : Kept) →
    (if many then Some (join.TooManyPeers 64) else option_map (λ k. join.JournalFull k) o)
    ≡ Some (join.JournalFull kept) → o ≡ Some kept
full_there true o kept e = absurd (cc)
full_there false None kept e = absurd (cc)
full_there false (Some k) kept e = let same : Some (join.JournalFull k) ≡ Some (join.JournalFull kept) = e in cc

join_cause : (limits : Limits) (root : PassSeat) (after : History) (role : Role) (why : JoinRefusal) →
    LegalJoin limits root after role (Err why) → HasCause limits after (refused_by why)
join_cause limits root after role (join.TooManyPeers alive) k =
    let turn : History = root.seen ++ k.rest in
    let b : Broker = broker_of limits turn in record {
      role = role;
      refused = ap (λ (h : History). join_refusal (broker_of limits h) role) k.answer.same
          ∙ refused_so (join_refusal b role) (join.TooManyPeers alive)
          (λ (e : join.TooManyPeers alive ≡ join.NoMemory). cc) k.answer.refused k.answer.accepted;
    }
join_cause limits root after role join.NoMemory k = tt
join_cause limits root after role (join.JournalFull kept) k =
    let turn : History = root.seen ++ k.rest in
    let b : Broker = broker_of limits turn in record {
      front = turn;
      more = [];
      is = k.answer.same ∙ sym (append-nil turn);
      entry = entries.Join role;
      light = omega arith;
      full = full_there (nat_le 64 (number_alive b.journal)) (full_for b (entries.Join role)) kept
          (refused_so (join_refusal b role) (join.JournalFull kept)
          (λ (e : join.JournalFull kept ≡ join.NoMemory). cc) k.answer.refused k.answer.accepted);
    }

pub join_without : (hub : HubId) (root after : PassSeat) (role : Role) (most : ℕ) (why : JoinRefusal) →
    IsOf hub root → after ≡ having_seen root after.seen → LegalJoin hub.limits root after.seen role (Err why) →
    IsWithout hub root after most (refused_by why)
join_without hub root after role most why ours is k =
    let number : after.number ≡ root.number = ap (λ (s : PassSeat). s.number) is in record {
      of = subst (λ (s : PassSeat). IsOf hub s) (sym is) ours;
      number = number;
      named = ap (λ (s : PassSeat). s.named) is;
      out = ap (λ (s : PassSeat). s.out) is;
      next = (let next = ap (λ (s : PassSeat). s.next) is in omega arith);
      cause = join_cause hub.limits root after.seen role why k;
      made = subst (λ (n : ℕ). length (own n after.seen) ≤ steps_of root + 1) (sym number)
          (joined_one hub.limits root after.seen role (Err why) k);
      back = [];
      taken = ap (λ (s : PassSeat). s.taken) is;
      few = omega arith;
    }

-- no peer was to join yet
pub untried : (hub : HubId) (root : PassSeat) (most : ℕ) → IsOf hub root → IsWithout hub root root most none.NoMemory
untried hub root most ours = record {
  of = ours;
  number = refl;
  named = refl;
  out = refl;
  next = omega arith;
  cause = tt;
  made = omega arith;
  back = [];
  taken = refl;
  few = omega arith;
}

-- the error of a result is one
pub same_error : {T : Type 0} (r : Result T NoJob) (a b : NoJob) → r ≡ Err a → r ≡ Err b → a ≡ b
same_error r a b one two = let e : Err a ≡ Err b = sym one ∙ two in cc

-- which error says that there are too many peers
pub many_by : (why : JoinRefusal) (n : ℕ) → refused_by why ≡ none.TooManyPeers n → why ≡ join.TooManyPeers n
many_by (join.TooManyPeers alive) n e = let same : alive ≡ n = cc in ap join.TooManyPeers same
many_by (join.JournalFull kept) n e = absurd (cc)
many_by join.NoMemory n e = absurd (cc)

pub none_by : (stop : PassStop) (n : ℕ) → stopped_by stop ≡ none.TooManyPeers n → ⊥
none_by (stops.JournalFull kept) n e = cc
none_by stops.NoMemory n e = cc

-- a set-up that wasn't taken

pub setup_cause : (limits : Limits) (before after : PeerPass) (q : ℕ) (setup : List ℕ) (stop : PassStop) →
    Submits limits before after (entries_in q setup) (Err stop) →
    HasCause limits after.seat.seen (stopped_by stop)
setup_cause limits before after q setup stops.NoMemory k = tt
setup_cause limits before after q setup (stops.JournalFull kept) k = record {
  front = after.seat.seen;
  more = [];
  is = sym (append-nil after.seat.seen);
  entry = k.next;
  light = light_next q setup k.made k.next k.left k.all_are;
  full = k.why;
}

-- a set-up isn't left out because of many peers
abbrev pub IsNotMany : NoJob → Type 0
IsNotMany why = (n : ℕ) → why ≡ none.TooManyPeers n → ⊥

-- what was full was so, whatever the root has seen besides
cause_more : (limits : Limits) (seen rest after : History) (why : NoJob) → IsNotMany why → after ≡ seen ++ rest →
    HasCause limits seen why → HasCause limits after why
cause_more limits seen rest after (none.TooManyPeers alive) few is k = absurd (few alive refl)
cause_more limits seen rest after none.NoMemory few is k = tt
cause_more limits seen rest after (none.JournalFull kept) few is k = record {
  front = k.front;
  more = k.more ++ rest;
  is = is ∙ ap (λ (h : History). h ++ rest) k.is ∙ append_assoc k.front k.more rest;
  entry = k.entry;
  light = k.light;
  full = k.full;
}

pub back_without : (hub : HubId) (before root after : PassSeat) (role : Role) (first reader writer : PeerPass)
    (most : ℕ) (why : NoJob) → IsOf hub before → IsJoined hub.limits before root role first writer →
    NoneOf writer.seat.number writer.seat.seen → AreBack root after reader.seat writer.seat →
    HasCause hub.limits reader.seat.seen why → IsNotMany why → steps_of reader.seat ≤ most →
    IsWithout hub before after most why
back_without hub before root after role first reader writer most why ours k fresh back cause not few =
    let mid : PassSeat = met_with root reader.seat in
    let theirs = back.first.theirs in
    let mine = back.then.mine in
    let out : after.out ≡ root.out - 1 - 1 = ap (λ (s : PassSeat). s.out) back.left in
    let two : root.out ≡ before.out + 1 + 1 = ap (λ (s : PassSeat). s.out) k.left in
    let next : after.next ≡ before.next + 1 + 1 =
    ap (λ (s : PassSeat). s.next) back.left ∙ ap (λ (s : PassSeat). s.next) k.left in
    let number : after.number ≡ before.number =
    ap (λ (s : PassSeat). s.number) back.left ∙ ap (λ (s : PassSeat). s.number) k.left in record {
      of = subst (λ (s : PassSeat). IsOf hub s) (sym back.left) (subst (λ (s : PassSeat). IsOf hub s) (sym k.left) ours);
      number = number;
      named = ap (λ (s : PassSeat). s.named) back.left ∙ ap (λ (s : PassSeat). s.named) k.left;
      out = omega (arith, out, two);
      next = omega (arith, next);
      cause = cause_more hub.limits mid.seen mine.0 after.seen why not mine.1
          (cause_more hub.limits reader.seat.seen theirs.0 mid.seen why not theirs.1 cause);
      made = subst (λ (n : ℕ). length (own n after.seen) ≤ steps_of before + 1) (sym number)
          (back_one hub.limits before root after role first reader writer k back);
      back = writer.seat.number ∷ reader.seat.number ∷ [];
      taken = ap (λ (s : PassSeat). s.taken) back.left
          ∙ ap (λ (s : PassSeat). writer.seat.number ∷ reader.seat.number ∷ s.taken) k.left;
      few = back_few root after reader.seat writer.seat most back fresh few;
    }
