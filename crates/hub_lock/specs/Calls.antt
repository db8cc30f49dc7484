-- What the calls of a hub tell
use Rattle.std.specs.Prelude.{◌≡◌, ◌⊎◌, ℕ, ◌≤◌, List, ◌∷◌, ◌++◌, length, map, min, take, Option, Some, None, Result, Ok, IfSome, IfNone}
use Rattle.relay_model.specs.declared.role.Role.{Role}
use Rattle.broker_steps.specs.declared.limits.Limits.{Limits}
use Rattle.broker_steps.specs.declared.step.Step.{Step}
use Rattle.broker_steps.specs.declared.step.PeerStep.{PeerStep}
use Rattle.broker_steps.specs.declared.step.PeerStep.TheVariants as peers
use Rattle.broker_model.specs.declared.journal.Entry.TheVariants as entries
use Rattle.broker_model.specs.Out.{Outgoing, stored, tokens_taken}
use Rattle.broker_core.specs.declared.answers.Applied.{Applied}
use Rattle.broker_core.specs.declared.answers.JoinRefusal.{JoinRefusal}
use Rattle.broker_core.specs.declared.answers.Refused.{Refused}
use Rattle.broker_core.specs.declared.answers.Took.{Took}
use Rattle.broker_core.specs.Broker.{take_refusal, IfBytes, IfNoBytes, IsBytesUnlessMemory}
use Rattle.broker_core.specs.Taking.{out_at, IsTaken}
use Rattle.turn_lock.specs.Pairs.{NoneOf, IsGrown}
use Rattle.hub_lock.specs.Seats.{after_split, split_off, having_seen}
use Rattle.hub_lock.specs.declared.session.Session.{Session}
use Rattle.hub_lock.specs.declared.session.NoSession.{NoSession}
use Rattle.hub_lock.specs.declared.call.Ask.{Ask}
use Rattle.hub_lock.specs.declared.call.Answer.{Answer}
use Rattle.hub_lock.specs.Histories.{History, broker_of, only}
use Rattle.hub_lock.specs.Lawful.{IsLawful}
use Rattle.hub_lock.specs.Passes.{PassSeat, PeerPass}
use Rattle.hub_lock.specs.Plays.{IsLonger, Joins, Applies, Copies, Answers}
use Rattle.hub_lock.specs.Rooms.{Taken, nothing_taken}

-- A call is legal: it was played at a history that begins with all that its pass had seen, and past
-- that has no step of the pass; its answer is the one that is given there, and the pass has then
-- seen that history, with its own step where one was made. What is behind the lock is lawful before
-- and after.
pub record Legal (limits : Limits) (seat : PassSeat) (after : History)
    (Told : History → Type 0) : Type 0 where
  pub rest : History
  pub apart : NoneOf seat.number rest
  pub grows : IsGrown seat.number (seat.seen ++ rest) after
  pub lawful : IsLawful limits (seat.seen ++ rest)
  pub lawful_after : IsLawful limits after
  pub answer : Told (seat.seen ++ rest)

-- the same of what is asked of the value behind the lock, of a step of a peer or the shell, of a
-- join by the root, and of a copy
abbrev pub LegalAsk : Limits → PassSeat → History → ℕ → Ask → Ask → Answer → Type 0
LegalAsk limits seat after n ask ask' a =
    Legal limits seat after (λ before. Answers limits before n ask after ask' a)

abbrev pub LegalStep : Limits → PassSeat → History → Step → Result Applied Refused → Type 0
LegalStep limits seat after step r =
    Legal limits seat after (λ before. Applies limits before seat.number step after r)

abbrev pub LegalJoin : Limits → PassSeat → History → Role → Result ℕ JoinRefusal → Type 0
LegalJoin limits seat after role r =
    Legal limits seat after (λ before. Joins limits before 0 role seat.next after r)

abbrev pub LegalCopy : Limits → PassSeat → History → Result Session NoSession → Type 0
LegalCopy limits seat after r = Legal limits seat after (λ before. Copies limits before after r)

-- the pass, having seen this
abbrev pub pass_having_seen : PeerPass → History → PeerPass
pass_having_seen p h = record p { seat = having_seen p.seat h }

-- a peer joined: the root has seen its join, and split off a pass for its reader and one for its
-- writer
pub record IsJoined (limits : Limits) (root root' : PassSeat) (role : Role)
    (reader writer : PeerPass) : Type 0 where
  pub seen : History
  pub left : root' ≡ after_split (after_split (having_seen root seen))
  pub for_reader : reader.seat ≡ split_off (having_seen root seen)
  pub for_writer : writer.seat ≡ split_off (after_split (having_seen root seen))
  pub peer : writer.peer ≡ reader.peer
  pub legal : LegalJoin limits root seen role (Ok reader.peer)

-- the end of a link is never refused for want of memory; another step may be, and then no turn was
-- taken
abbrev pub UnlessMemory : PeerStep → Type 0 → Type 0 → Type 0
UnlessMemory peers.Gone NoTurn P = P
UnlessMemory _ NoTurn P = NoTurn ⊎ P

-- a step and its copy: it is the same, and that of a link's end never lacks
abbrev pub IsCopied : PeerStep → Option PeerStep → Type 0
IsCopied step (Some copy) = copy ≡ step
IsCopied peers.Gone None = ⊥
IsCopied step None = Unit {0}

-- A take of the writer of the peer q at a history. The buffers then begin with what was taken, and
-- are the same behind it; where nothing was taken they are the same.
pub record TakesInto (limits : Limits) (before : History) (n q : ℕ) (buf places : List ℕ)
    (after : History)
    (buf_after places_after : List ℕ) (r : Took) : Type 0 where
  pub refused : IfSome (take_refusal (broker_of limits before) q) (λ why. r ≡ why)
  pub accepted : IfNone (take_refusal (broker_of limits before) q) (IsBytesUnlessMemory r)
  pub bytes : IfSome (out_at limits.store (broker_of limits before).journal q)
      (λ out. IfBytes r (λ counts.
      IsTaken out (broker_of limits before).journal q buf places counts buf_after places_after
      (entries.Took q counts.0 ∷ (broker_of limits before).journal)))
  pub taken : IfBytes r (λ counts. IsLonger n (only (entries.Took q counts.0)) before after)
  pub same : IfNoBytes r (after ≡ before)
  pub same_bytes : IfNoBytes r (buf_after ≡ buf)
  pub same_tokens : IfNoBytes r (places_after ≡ places)

-- a legal take of a writer's pass
abbrev pub IsTake : Limits → PeerPass → PeerPass → (buf places buf_after places_after : List ℕ) →
    Took → Type 0
IsTake limits pass pass' buf places buf_after places_after r =
    Legal limits pass.seat pass'.seat.seen (λ before.
    TakesInto limits before pass.seat.number pass.peer buf places pass'.seat.seen buf_after
    places_after r)

-- the first that were out, so many bytes at most, and the tokens that come with them
pub record AreFirstOut (out : Outgoing) (most : ℕ) (taken : Taken) (counts : ℕ × ℕ) : Type 0 where
  pub count : counts.0 ≡ min most (length (stored out))
  pub bytes : taken.bytes ≡ take counts.0 (stored out)
  pub token_count : counts.1 ≡ length (tokens_taken counts.0 out)
  pub tokens : taken.tokens ≡ map (λ t. t.token) (tokens_taken counts.0 out)
  pub few : counts.1 ≤ 256

-- A take of the writer of the peer q at a history. What was taken then stands in the room; where
-- nothing was taken, nothing does.
pub record TakesOut (limits : Limits) (before : History) (n q most : ℕ) (after : History)
    (room_after : Taken) (r : Took) : Type 0 where
  pub refused : IfSome (take_refusal (broker_of limits before) q) (λ why. r ≡ why)
  pub accepted : IfNone (take_refusal (broker_of limits before) q) (IsBytesUnlessMemory r)
  pub out : IfSome (out_at limits.store (broker_of limits before).journal q)
      (λ out. IfBytes r (AreFirstOut out most room_after))
  pub taken : IfBytes r (λ counts. IsLonger n (only (entries.Took q counts.0)) before after)
  pub same : IfNoBytes r (after ≡ before)
  pub nothing : IfNoBytes r (room_after ≡ nothing_taken)

-- a legal take of a writer's pass, of so many bytes at most, into a room
abbrev pub IsTakeOut : Limits → PeerPass → PeerPass → ℕ → Taken → Took → Type 0
IsTakeOut limits pass pass' most room_after r =
    Legal limits pass.seat pass'.seat.seen (λ before.
    TakesOut limits before pass.seat.number pass.peer most pass'.seat.seen room_after r)
