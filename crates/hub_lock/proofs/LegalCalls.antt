-- What follows from legal calls: the pass has seen more, its peer stays its own, and a take may come after waiting
use Rattle.std.proofs.Common.{◌≡◌, ◌≢◌, ℕ, ◌+◌, List, [], ◌∷◌, ◌++◌, length, Option, Some, None, Result, Ok, Err, IfSome, IfNone, refl, ap, sym, subst, ◌∙◌, ⊎_elim, arith, append_assoc}
use Rattle.std.specs.Prelude.{zero, suc, Bool, true, false, ◌==◌, option_map, if◌then◌else◌, IsOkUnless}
use Rattle.relay_model.specs.declared.act.EndCause.{EndCause}
use Rattle.broker_steps.specs.declared.limits.Limits.{Limits}
use Rattle.broker_steps.specs.declared.step.Step.TheVariants as steps
use Rattle.broker_steps.specs.declared.step.PeerStep.{PeerStep}
use Rattle.broker_steps.specs.declared.step.PeerStep.TheVariants as peers
use Rattle.broker_model.specs.declared.journal.Entry.TheVariants as entries
use Rattle.broker_model.specs.declared.journal.Kept.{Kept}
use Rattle.broker_model.specs.Ids.{Joined, peer_in, peer_at}
use Rattle.broker_model.specs.Resolve.{past_of}
use Rattle.broker_model.specs.Out.{Outgoing, stored, out_for}
use Rattle.broker_core.specs.declared.answers.Applied.{Applied}
use Rattle.broker_core.specs.declared.answers.Refused.{Refused}
use Rattle.broker_core.specs.declared.answers.Refused.TheVariants as refusals
use Rattle.broker_core.specs.declared.answers.Took.{Took}
use Rattle.broker_core.specs.declared.answers.Took.TheVariants as took
use Rattle.broker_core.specs.Stands.{end_of}
use Rattle.broker_core.specs.Taking.{out_at, by_end, standing_in, standing_of}
use Rattle.broker_core.specs.Broker.{Broker, full_for, peer_entry, peer_refusal, IsAccepted, nothing_left, take_refusal, take_refusal_from, IsBytesUnlessMemory}
use Rattle.turn_lock.specs.Pairs.{NoneOf, IsGrown}
use Rattle.turn_lock.proofs.PairsOfNumbers.{none-append}
use Rattle.hub_lock.specs.declared.step.OuterStep.{OuterStep}
use Rattle.hub_lock.specs.Histories.{History, broker_of, readers_of, numbered_in, reader_of, writer_of}
use Rattle.hub_lock.specs.Lawful.{IsLawful}
use Rattle.hub_lock.specs.Passes.{PassSeat, PeerPass}
use Rattle.hub_lock.specs.Seats.{having_seen}
use Rattle.hub_lock.specs.Plays.{Applies}
use Rattle.hub_lock.specs.Rooms.{Taken}
use Rattle.hub_lock.specs.Calls.{Legal, TakesInto, IsTake, TakesOut, IsTakeOut, pass_having_seen}
use Rattle.hub_lock.proofs.ReadersStay.{reader-stays, writer-stays}

module _ (limits : Limits) (seat : PassSeat) (after : History) (Told : History → Type 0)
    (k : Legal limits seat after Told) where
  pub seen-more : (more : History) × (after ≡ seat.seen ++ more)
  seen-more = ⊎_elim
      (λ (e : after ≡ seat.seen ++ k.rest). (k.rest, e))
      (λ (e : (step : OuterStep) × (after ≡ (seat.seen ++ k.rest) ++ (seat.number, step) ∷ [])).
      (k.rest ++ (seat.number, e.0) ∷ [], e.1 ∙ append_assoc seat.seen k.rest ((seat.number, e.0) ∷ []))) k.grows

  pub reader-after : (q n : ℕ) → reader_of seat.seen q ≡ Some n → reader_of after q ≡ Some n
  reader-after q n e = ap (λ (h : History). reader_of h q) seen-more.1 ∙ reader-stays seat.seen seen-more.0 q n e

  pub writer-after : (q n : ℕ) → writer_of seat.seen q ≡ Some n → writer_of after q ≡ Some n
  writer-after q n e = ap (λ (h : History). writer_of h q) seen-more.1 ∙ writer-stays seat.seen seen-more.0 q n e

  -- after waiting, in which the pass saw more and made nothing, a call is legal as one of the pass before
  pub waited-legal : (first : PassSeat) (more : History) → NoneOf first.number more →
      seat ≡ having_seen first (first.seen ++ more)
      → Legal limits first after Told
  waited-legal first more free e =
      let number : seat.number ≡ first.number = ap (λ (s : PassSeat). s.number) e in
      let same : seat.seen ++ k.rest ≡ first.seen ++ (more ++ k.rest) =
      ap (λ (s : PassSeat). s.seen ++ k.rest) e ∙ append_assoc first.seen more k.rest in
      record {
        rest = more ++ k.rest;
        apart = none-append first.number more k.rest free (subst (λ n. NoneOf n k.rest) number k.apart);
        grows = subst (λ h. IsGrown first.number h after) same
            (subst (λ n. IsGrown n (seat.seen ++ k.rest) after) number k.grows);
        lawful = subst (IsLawful limits) same k.lawful;
        lawful_after = k.lawful_after;
        answer = subst Told same k.answer;
      }

  -- where a call made nothing, the pass has seen more and made nothing
  pub waited-more : (first : PassSeat) (more : History) → NoneOf first.number more →
      seat ≡ having_seen first (first.seen ++ more)
      → after ≡ seat.seen ++ k.rest → (all : History) × NoneOf first.number all × (after ≡ first.seen ++ all)
  waited-more first more free e none = (
    more ++ k.rest,
    none-append first.number more k.rest free
        (subst (λ n. NoneOf n k.rest) (ap (λ (s : PassSeat). s.number) e) k.apart),
    none ∙ ap (λ (s : PassSeat). s.seen ++ k.rest) e ∙ append_assoc first.seen more k.rest,
  )

-- a take after waiting is one of the pass before
pub wait-legal : (limits : Limits) (first pass pass' : PeerPass) (more : History)
    (buf places was were buf' places' : List ℕ) (r : Took)
    → pass ≡ pass_having_seen first (first.seat.seen ++ more) → NoneOf first.seat.number more → buf ≡ was →
    places ≡ were
    → IsTake limits pass pass' buf places buf' places' r → IsTake limits first pass' was were buf' places' r
wait-legal limits first pass pass' more buf places was were buf' places' r e free same same' k =
    let now : PeerPass = pass_having_seen first (first.seat.seen ++ more) in
    let l : IsTake limits now pass' was were buf' places' r =
    subst (λ b. IsTake limits now pass' b were buf' places' r) same
    (subst (λ t. IsTake limits now pass' buf t buf' places' r) same'
    (subst (λ (p : PeerPass). IsTake limits p pass' buf places buf' places' r) e k)) in
    waited-legal limits now.seat pass'.seat.seen
    (λ before. TakesInto limits before first.seat.number first.peer was were pass'.seat.seen buf' places' r)
    l first.seat more free refl

pub wait-out : (limits : Limits) (first pass pass' : PeerPass) (more : History) (t : Taken) (r : Took)
    → pass ≡ pass_having_seen first (first.seat.seen ++ more) → NoneOf first.seat.number more
    → IsTakeOut limits pass pass' 4096 t r → IsTakeOut limits first pass' 4096 t r
wait-out limits first pass pass' more t r e free k =
    let now : PeerPass = pass_having_seen first (first.seat.seen ++ more) in
    let l : IsTakeOut limits now pass' 4096 t r = subst (λ (p : PeerPass). IsTakeOut limits p pass' 4096 t r) e k in
    waited-legal limits now.seat pass'.seat.seen
    (λ before. TakesOut limits before first.seat.number first.peer 4096 pass'.seat.seen t r)
    l first.seat more free refl

-- the peer joined

peer-there : (joined : List Joined) (readers : List ℕ) (q n : ℕ) → length readers ≡ length joined →
    numbered_in readers q ≡ Some n
    → (peer : Joined) × (peer_in joined q ≡ Some peer)
peer-there joined readers zero n l e = absurd (cc)
peer-there joined [] (suc k) n l e = absurd (cc)
peer-there [] (r ∷ readers) (suc k) n l e = absurd (omega arith)
peer-there (p ∷ joined) (r ∷ readers) (suc zero) n l e = (p, refl)
peer-there (p ∷ joined) (r ∷ readers) (suc (suc k)) n l e = peer-there joined readers (suc k) n (omega arith) e

pub has-joined : (limits : Limits) (h : History) (q n : ℕ) → IsLawful limits h → reader_of h q ≡ Some n
    → (peer : Joined) × (peer_at (past_of (broker_of limits h).journal) q ≡ Some peer)
has-joined limits h q n l e = peer-there (past_of (broker_of limits h).journal).joined (readers_of h) q n l.readers e

writer-reader : (o : Option ℕ) (n : ℕ) → option_map (λ r. r + 1) o ≡ Some n → (m : ℕ) × (o ≡ Some m)
writer-reader None n e = absurd (cc)
writer-reader (Some m) n e = (m, refl)

pub writer-joined : (limits : Limits) (h : History) (q n : ℕ) → IsLawful limits h → writer_of h q ≡ Some n
    → (peer : Joined) × (peer_at (past_of (broker_of limits h).journal) q ≡ Some peer)
writer-joined limits h q n l e = let r = writer-reader (reader_of h q) n e in has-joined limits h q r.0 l r.1

accepted-not : (q : ℕ) (step : PeerStep) (r : Result Applied Refused) →
    IsAccepted refusals.NoMemory (steps.Peer q step) r → r ≡ Err refusals.NoPeer → ⊥
accepted-not q (peers.Message id opcode body) (Ok a) k e = absurd (cc)
accepted-not q (peers.Message id opcode body) (Err why) k e = absurd (cc)
accepted-not q (peers.Tokens tokens) (Ok a) k e = absurd (cc)
accepted-not q (peers.Tokens tokens) (Err why) k e = absurd (cc)
accepted-not q (peers.BadSize head) (Ok a) k e = absurd (cc)
accepted-not q (peers.BadSize head) (Err why) k e = absurd (cc)
accepted-not q peers.Gone (Ok a) k e = absurd (cc)
accepted-not q peers.Gone (Err why) k e = absurd (cc)

full-not : (q : ℕ) (step : PeerStep) (o : Option Kept) (r : Result Applied Refused)
    → IfSome (option_map (λ kept. refusals.JournalFull kept) o) (λ why. r ≡ Err why)
    → IfNone (option_map (λ kept. refusals.JournalFull kept) o) (IsAccepted refusals.NoMemory (steps.Peer q step) r) →
    r ≡ Err refusals.NoPeer → ⊥
full-not q step None r a b e = accepted-not q step r b e
full-not q step (Some kept) r a b e = absurd (cc)

ended-not : (b : Broker) (q : ℕ) (step : PeerStep) (o : Option EndCause) (r : Result Applied Refused)
    → IfSome (peer_refusal b (peer_entry q step) (by_end o)) (λ why. r ≡ Err why)
    → IfNone (peer_refusal b (peer_entry q step) (by_end o)) (IsAccepted refusals.NoMemory (steps.Peer q step) r) →
    r ≡ Err refusals.NoPeer → ⊥
ended-not b q step None r x y e = full-not q step (full_for b (peer_entry q step)) r x y e
ended-not b q step (Some cause) r x y e = absurd (cc)

-- a step of a peer that joined finds its peer
pub step-finds : (limits : Limits) (before : History) (n q : ℕ) (step : PeerStep) (after : History)
    (r : Result Applied Refused)
    → IsLawful limits before → reader_of before q ≡ Some n → Applies limits before n (steps.Peer q step) after r →
    r ≡ Err refusals.NoPeer → ⊥
step-finds limits before n q step after r l own k e =
    let b : Broker = broker_of limits before in
    let there = has-joined limits before q n l own in
    let is : standing_of b.journal q ≡ by_end (end_of b.journal q) = ap (standing_in b.journal q) there.1 in
    ended-not b q step (end_of b.journal q) r
    (subst (λ s. IfSome (peer_refusal b (peer_entry q step) s) (λ why. r ≡ Err why)) is k.refused)
    (subst (λ s. IfNone (peer_refusal b (peer_entry q step) s) (IsAccepted refusals.NoMemory (steps.Peer q step) r)) is
    k.accepted) e

-- the shell's orders find no peer, and no end

shell-full : (o : Option Kept) (r : Result Applied Refused) (why : Refused) →
    ((kept : Kept) → why ≢ refusals.JournalFull kept) → why ≢ refusals.NoMemory
    → IfSome (option_map (λ kept. refusals.JournalFull kept) o) (λ other. r ≡ Err other)
    → IfNone (option_map (λ kept. refusals.JournalFull kept) o) (IsOkUnless r refusals.NoMemory) → r ≡ Err why → ⊥
shell-full None (Ok a) why f m x y e = absurd (cc)
shell-full None (Err other) why f m x y e = let same : other ≡ why = cc in m (sym same ∙ y)
shell-full (Some kept) r why f m x y e = let same : refusals.JournalFull kept ≡ why = cc in f kept (sym same)

-- a take for a peer that joined finds it

take-by : (b : Broker) (q : ℕ) (o : Option Outgoing) (r : Took) → IfSome o (λ out. Unit {0}) →
    (IfSome o (λ out. Unit {0}) → o ≢ None)
    → IfSome (take_refusal_from b q o) (λ why. r ≡ why) → IfNone (take_refusal_from b q o) (IsBytesUnlessMemory r) →
    r ≡ took.NoPeer → ⊥
take-by b q None r i f x y e = f i refl
take-by b q (Some out) r i f x y e =
    by (length (stored out) == 0) (end_of b.journal q) (full_for b (entries.Took q 0)) x y where
      memory : (r : Took) → IsBytesUnlessMemory r → r ≡ took.NoPeer → ⊥
      memory (took.Bytes count tokens) y e = absurd (cc)
      memory took.NoPeer y e = y
      memory took.Closed y e = y
      memory took.Empty y e = y
      memory (took.JournalFull kept) y e = y
      memory took.NoMemory y e = absurd (cc)

      by : (t : Bool) (end : Option EndCause) (full : Option Kept)
          → IfSome (if t then Some (nothing_left end) else option_map (λ kept. took.JournalFull kept) full)
          (λ why. r ≡ why)
          → IfNone (if t then Some (nothing_left end) else option_map (λ kept. took.JournalFull kept) full)
          (IsBytesUnlessMemory r) → ⊥
      by true None full x y = absurd (cc)
      by true (Some cause) full x y = absurd (cc)
      by false end None x y = memory r y e
      by false end (Some kept) x y = absurd (cc)

pub take-finds : (limits : Limits) (before : History) (q n : ℕ) (r : Took) → IsLawful limits before →
    writer_of before q ≡ Some n
    → IfSome (take_refusal (broker_of limits before) q) (λ why. r ≡ why)
    → IfNone (take_refusal (broker_of limits before) q) (IsBytesUnlessMemory r) → r ≡ took.NoPeer → ⊥
take-finds limits before q n r l own x y e =
    let b : Broker = broker_of limits before in
    let there = writer-joined limits before q n l own in
    let is : out_at b.limits.store b.journal q ≡ Some (out_for b.limits.store b.journal there.0.label) =
    ap (option_map (λ (peer : Joined). out_for b.limits.store b.journal peer.label)) there.1 in
    take-by b q (Some (out_for b.limits.store b.journal there.0.label)) r tt (λ i z. absurd (cc))
    (subst (λ o. IfSome (take_refusal_from b q o) (λ why. r ≡ why)) is x)
    (subst (λ o. IfNone (take_refusal_from b q o) (IsBytesUnlessMemory r)) is y) e
