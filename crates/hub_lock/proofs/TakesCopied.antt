-- A take into the places of a call: it lends what was taken, and that may be copied into the buffers of the caller
use Rattle.std.proofs.Common.{◌≡◌, ℕ, ◌≤◌, List, ◌∷◌, ◌++◌, length, map, min, take, drop, Option, Some, None, IfSome, refl, ap, sym, subst, ◌∙◌, arith}
use Rattle.std.proofs.lemmas.List.{length-take, length-take-le, length-map}
use Rattle.broker_steps.specs.declared.limits.Limits.{Limits}
use Rattle.broker_model.specs.declared.journal.Entry.{Entry}
use Rattle.broker_model.specs.declared.journal.Entry.TheVariants as entries
use Rattle.broker_model.specs.Out.{Outgoing, stored, tokens_taken}
use Rattle.broker_core.specs.declared.answers.Took.{Took}
use Rattle.broker_core.specs.declared.answers.Took.TheVariants as took
use Rattle.broker_core.specs.Broker.{Broker, take_refusal_from, IfBytes, IfNoBytes}
use Rattle.broker_core.specs.Taking.{out_at, IsTaken}
use Rattle.hub_lock.specs.declared.call.Ask.{Ask}
use Rattle.hub_lock.specs.declared.call.Ask.TheVariants as asks
use Rattle.hub_lock.specs.declared.call.Taking.{Taking}
use Rattle.hub_lock.specs.declared.call.Answer.TheVariants as answers
use Rattle.hub_lock.specs.Histories.{History, broker_of, writer_of}
use Rattle.hub_lock.specs.declared.room.Places.{Places}
use Rattle.hub_lock.specs.Rooms.{Taken, nothing_taken, room_of}
use Rattle.hub_lock.specs.Plays.{Answers, Takes, IsTakenInto, bytes_made, counts_of}
use Rattle.hub_lock.proofs.ReadersStay.{writer-stays}
use Rattle.hub_lock.proofs.LegalCalls.{take-finds}
use Rattle.hub_lock.specs.Passes.{PassSeat, PeerPass}
use Rattle.hub_lock.specs.Calls.{Legal, IsTake, LegalAsk, AreFirstOut, IsTakeOut}

-- a take that was answered had its places
pub room-of : (limits : Limits) (before : History) (n : ℕ) (t : Taking) (after : History) (ask : Ask) (r : Took)
    → Answers limits before n (asks.Take t) after ask (answers.Took r)
    → (u : Taking) × (ask ≡ asks.Take u) × Takes limits before n t.peer t.most u.places.bytes.items
    u.places.tokens.items after r
room-of limits before n t after (asks.Take u) r p = (u, refl, p)
room-of limits before n t after (asks.Join role reader) r p = absurd p
room-of limits before n t after (asks.Apply step) r p = absurd p
room-of limits before n t after asks.Copy r p = absurd p
room-of limits before n t after asks.HandOut r p = absurd p
room-of limits before n t after (asks.Name m) r p = absurd p

-- the counts of a take are within the places that it took into, and within what was asked

pub record FitsInto (most : ℕ) (bytes tokens : List ℕ) (counts : ℕ × ℕ) : Type 0 where
  pub in_bytes : counts.0 ≤ length bytes
  pub at_most : counts.0 ≤ most
  pub in_tokens : counts.1 ≤ length tokens
  pub few : counts.1 ≤ 256

of-lengths : (k : ℕ) (xs ys : List ℕ) → take k xs ≡ ys → k ≡ length ys → k ≤ length xs
of-lengths k xs ys e l =
    let n : k ≡ min k (length xs) = l ∙ sym (ap length e) ∙ length-take k xs in grind (arith, n)

fits-out : (out : Outgoing) (most : ℕ) (bytes tokens : List ℕ) (counts : ℕ × ℕ)
    → IsTakenInto out most bytes tokens counts → FitsInto most bytes tokens counts
fits-out out most bytes tokens counts t =
    let c = t.count in
    let less : counts.0 ≤ length (stored out) = grind (arith, c) in
    record {
      in_bytes = of-lengths counts.0 bytes (take counts.0 (stored out)) t.front
          (sym (length-take-le counts.0 (stored out) less));
      at_most = grind (arith, c);
      in_tokens = of-lengths counts.1 tokens (map (λ t. t.token) (tokens_taken counts.0 out)) t.tokens_front
          (t.token_count ∙ sym (length-map (tokens_taken counts.0 out) (λ t. t.token)));
      few = t.few;
    }

fits-nothing : (most : ℕ) (bytes tokens : List ℕ) → FitsInto most bytes tokens (0, 0)
fits-nothing most bytes tokens = record {
  in_bytes = omega arith;
  at_most = omega arith;
  in_tokens = omega arith;
  few = omega arith;
}

fits-some : (out : Outgoing) (most : ℕ) (bytes tokens : List ℕ) (r : Took)
    → IfBytes r (λ counts. IsTakenInto out most bytes tokens counts) → FitsInto most bytes tokens (counts_of r)
fits-some out most bytes tokens (took.Bytes count came) t = fits-out out most bytes tokens (count, came) t
fits-some out most bytes tokens took.NoPeer t = fits-nothing most bytes tokens
fits-some out most bytes tokens took.Closed t = fits-nothing most bytes tokens
fits-some out most bytes tokens took.Empty t = fits-nothing most bytes tokens
fits-some out most bytes tokens (took.JournalFull kept) t = fits-nothing most bytes tokens
fits-some out most bytes tokens took.NoMemory t = fits-nothing most bytes tokens

fits-from : (b : Broker) (q : ℕ) (o : Option Outgoing) (most : ℕ) (bytes tokens : List ℕ) (r : Took)
    → IfSome (take_refusal_from b q o) (λ why. r ≡ why)
    → IfSome o (λ out. IfBytes r (λ counts. IsTakenInto out most bytes tokens counts))
    → FitsInto most bytes tokens (counts_of r)
fits-from b q None most bytes tokens r refused t =
    subst (λ (x : Took). FitsInto most bytes tokens (counts_of x)) (sym refused) (fits-nothing most bytes tokens)
fits-from b q (Some out) most bytes tokens r refused t = fits-some out most bytes tokens r t

pub fits-by : (limits : Limits) (before : History) (n q most : ℕ) (bytes tokens : List ℕ) (after : History) (r : Took)
    → Takes limits before n q most bytes tokens after r → FitsInto most bytes tokens (counts_of r)
fits-by limits before n q most bytes tokens after r k =
    let b : Broker = broker_of limits before in
    fits-from b q (out_at limits.store b.journal q) most bytes tokens r k.refused k.into

pub made-counts : (r : Took) → bytes_made (answers.Took r) ≡ (counts_of r).0
made-counts (took.Bytes count came) = refl
made-counts took.NoPeer = refl
made-counts took.Closed = refl
made-counts took.Empty = refl
made-counts (took.JournalFull kept) = refl
made-counts took.NoMemory = refl

-- a take lends what stands at the front of its places

first-some : (out : Outgoing) (most : ℕ) (places : Places) (r : Took)
    → IfBytes r (λ counts. IsTakenInto out most places.bytes.items places.tokens.items counts)
    → IfBytes r (AreFirstOut out most (room_of places (counts_of r)))
first-some out most places (took.Bytes count came) t = record {
  count = t.count;
  bytes = t.front;
  token_count = t.token_count;
  tokens = t.tokens_front;
  few = t.few;
}
first-some out most places took.NoPeer t = tt
first-some out most places took.Closed t = tt
first-some out most places took.Empty t = tt
first-some out most places (took.JournalFull kept) t = tt
first-some out most places took.NoMemory t = tt

first-out : (o : Option Outgoing) (most : ℕ) (places : Places) (r : Took)
    → IfSome o (λ out. IfBytes r (λ counts. IsTakenInto out most places.bytes.items places.tokens.items counts))
    → IfSome o (λ out. IfBytes r (AreFirstOut out most (room_of places (counts_of r))))
first-out None most places r t = tt
first-out (Some out) most places r t = first-some out most places r t

none-out : (places : Places) (r : Took) → IfNoBytes r (room_of places (counts_of r) ≡ nothing_taken)
none-out places (took.Bytes count came) = tt
none-out places took.NoPeer = refl
none-out places took.Closed = refl
none-out places took.Empty = refl
none-out places (took.JournalFull kept) = refl
none-out places took.NoMemory = refl

-- a legal take of the value behind the lock, by what it left in the places
abbrev pub IsLeft : Limits → PeerPass → PeerPass → ℕ → Places → Took → Type 0
IsLeft limits pass pass' most places r =
    Legal limits pass.seat pass'.seat.seen
    (λ before. Takes limits before pass.seat.number pass.peer most places.bytes.items places.tokens.items
    pass'.seat.seen r)

pub take-left : (limits : Limits) (pass pass' : PeerPass) (most : ℕ) (t : Taking) (ask : Ask) (places : Places)
    (r : Took) → t.peer ≡ pass.peer → t.most ≡ most → ((u : Taking) → ask ≡ asks.Take u → places ≡ u.places)
    → LegalAsk limits pass.seat pass'.seat.seen pass.seat.number (asks.Take t) ask (answers.Took r)
    → IsLeft limits pass pass' most places r
take-left limits pass pass' most t ask places r peer same are k =
    let before : History = pass.seat.seen ++ k.rest in
    let room = room-of limits before pass.seat.number t pass'.seat.seen ask r k.answer in
    let at : (q m : ℕ) → Places → Type 0 =
    λ q m p. Takes limits before pass.seat.number q m p.bytes.items p.tokens.items pass'.seat.seen r in
    record {
      rest = k.rest;
      apart = k.apart;
      grows = k.grows;
      lawful = k.lawful;
      lawful_after = k.lawful_after;
      answer = subst (λ (p : Places). at pass.peer most p) (sym (are room.0 room.1))
          (subst (λ m. at pass.peer m room.0.places) same (subst (λ q. at q t.most room.0.places) peer room.2));
    }

pub take-fits : (limits : Limits) (pass pass' : PeerPass) (most : ℕ) (places : Places) (r : Took)
    → IsLeft limits pass pass' most places r
    → FitsInto most places.bytes.items places.tokens.items (counts_of r)
take-fits limits pass pass' most places r k =
    fits-by limits (pass.seat.seen ++ k.rest) pass.seat.number pass.peer most places.bytes.items places.tokens.items
    pass'.seat.seen r k.answer

short-take : (k m : ℕ) (xs : List ℕ) → k ≤ m → length (take k xs) ≤ m
short-take k m xs l = let n = length-take k xs in grind (arith, n, l)

pub take-few : (limits : Limits) (pass pass' : PeerPass) (most : ℕ) (places : Places) (r : Took)
    → IsLeft limits pass pass' most places r
    → (length (room_of places (counts_of r)).bytes ≤ most) × (length (room_of places (counts_of r)).tokens ≤ 256)
take-few limits pass pass' most places r k =
    let f = take-fits limits pass pass' most places r k in (
      short-take (counts_of r).0 most places.bytes.items f.at_most,
      short-take (counts_of r).1 256 places.tokens.items f.few,
    )

pub take-lends : (limits : Limits) (pass pass' : PeerPass) (most : ℕ) (places : Places) (r : Took)
    → IsLeft limits pass pass' most places r
    → IsTakeOut limits pass pass' most (room_of places (counts_of r)) r
take-lends limits pass pass' most places r k = record {
  rest = k.rest;
  apart = k.apart;
  grows = k.grows;
  lawful = k.lawful;
  lawful_after = k.lawful_after;
  answer = record {
    refused = k.answer.refused;
    accepted = k.answer.accepted;
    out = first-out (out_at limits.store (broker_of limits (pass.seat.seen ++ k.rest)).journal pass.peer) most places r
        k.answer.into;
    taken = k.answer.taken;
    same = k.answer.same;
    nothing = none-out places r;
  };
}

-- what a take lends, copied to the front of the caller's buffers

abbrev pub copied_over : List ℕ → List ℕ → List ℕ
copied_over xs buf = xs ++ drop (length xs) buf

taken-over : (out : Outgoing) (journal : List Entry) (q : ℕ) (buf places : List ℕ) (t : Taken) (counts : ℕ × ℕ)
    → AreFirstOut out (length buf) t counts
    → IsTaken out journal q buf places counts (copied_over t.bytes buf) (copied_over t.tokens places)
    (entries.Took q counts.0 ∷ journal)
taken-over out journal q buf places t counts k =
    let c = k.count in
    let less : counts.0 ≤ length (stored out) = grind (arith, c) in
    let came : List ℕ = map (λ t. t.token) (tokens_taken counts.0 out) in
    record {
      count = k.count;
      bytes = ap (λ xs. copied_over xs buf) k.bytes
          ∙ ap (λ n. take counts.0 (stored out) ++ drop n buf) (length-take-le counts.0 (stored out) less);
      token_count = k.token_count;
      tokens = ap (λ xs. copied_over xs places) k.tokens
          ∙ ap (λ n. came ++ drop n places)
          (length-map (tokens_taken counts.0 out) (λ t. t.token) ∙ sym k.token_count);
      journal = refl;
    }

if-bytes : (r : Took) (P Q : ℕ × ℕ → Type 0) → ((counts : ℕ × ℕ) → P counts → Q counts) → IfBytes r P → IfBytes r Q
if-bytes (took.Bytes count came) P Q f p = f (count, came) p
if-bytes took.NoPeer P Q f p = tt
if-bytes took.Closed P Q f p = tt
if-bytes took.Empty P Q f p = tt
if-bytes (took.JournalFull kept) P Q f p = tt
if-bytes took.NoMemory P Q f p = tt

if-none : (r : Took) (P Q : Type 0) → (P → Q) → IfNoBytes r P → IfNoBytes r Q
if-none (took.Bytes count came) P Q f p = tt
if-none took.NoPeer P Q f p = f p
if-none took.Closed P Q f p = f p
if-none took.Empty P Q f p = f p
if-none (took.JournalFull kept) P Q f p = f p
if-none took.NoMemory P Q f p = f p

over-out : (o : Option Outgoing) (journal : List Entry) (q : ℕ) (buf places : List ℕ) (t : Taken) (r : Took)
    → IfSome o (λ out. IfBytes r (AreFirstOut out (length buf) t))
    → IfSome o (λ out. IfBytes r (λ counts. IsTaken out journal q buf places counts (copied_over t.bytes buf)
    (copied_over t.tokens places) (entries.Took q counts.0 ∷ journal)))
over-out None journal q buf places t r k = tt
over-out (Some out) journal q buf places t r k = if-bytes r _ _ (taken-over out journal q buf places t) k

pub take-copied : (limits : Limits) (pass pass' : PeerPass) (buf places : List ℕ) (t : Taken) (r : Took)
    → IsTakeOut limits pass pass' (length buf) t r
    → IsTake limits pass pass' buf places (copied_over t.bytes buf) (copied_over t.tokens places) r
take-copied limits pass pass' buf places t r k =
    let journal : List Entry = (broker_of limits (pass.seat.seen ++ k.rest)).journal in
    record {
      rest = k.rest;
      apart = k.apart;
      grows = k.grows;
      lawful = k.lawful;
      lawful_after = k.lawful_after;
      answer = record {
        refused = k.answer.refused;
        accepted = k.answer.accepted;
        bytes = over-out (out_at limits.store journal pass.peer) journal pass.peer buf places t r k.answer.out;
        taken = k.answer.taken;
        same = k.answer.same;
        same_bytes = if-none r (t ≡ nothing_taken) (copied_over t.bytes buf ≡ buf)
            (ap (λ (x : Taken). copied_over x.bytes buf)) k.answer.nothing;
        same_tokens = if-none r (t ≡ nothing_taken) (copied_over t.tokens places ≡ places)
            (ap (λ (x : Taken). copied_over x.tokens places)) k.answer.nothing;
      };
    }

-- a take of a peer's writer finds the peer
pub take-asked-finds : (limits : Limits) (seat : PassSeat) (after : History) (t : Taking) (ask : Ask) (r : Took)
    → LegalAsk limits seat after seat.number (asks.Take t) ask (answers.Took r) →
    writer_of seat.seen t.peer ≡ Some seat.number → r ≡ took.NoPeer → ⊥
take-asked-finds limits seat after t ask r k own e =
    let room = room-of limits (seat.seen ++ k.rest) seat.number t after ask r k.answer in
    take-finds limits (seat.seen ++ k.rest) t.peer seat.number r k.lawful
    (writer-stays seat.seen k.rest t.peer seat.number own)
    room.2.refused room.2.accepted e
