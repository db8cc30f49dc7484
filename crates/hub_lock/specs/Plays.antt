-- What a call plays at a history, and what it answers there
use Rattle.std.specs.Prelude.{◌≡◌, ℕ, ◌+◌, ◌≤◌, List, [], ◌∷◌, ◌++◌, length, map, min, take, Bool, true, false, Option, Some, unwrap_or, Result, Err, IfSome, IfNone, IfOk, OnOk, OnErr, IsOkUnless}
use Rattle.std.specs.Result.{is_ok}
use Rattle.relay_core.specs.Stands.{route_told}
use Rattle.relay_model.specs.declared.role.Role.{Role}
use Rattle.broker_steps.specs.declared.limits.Limits.{Limits}
use Rattle.broker_steps.specs.declared.step.Step.{Step}
use Rattle.broker_steps.specs.declared.step.Step.TheVariants as steps
use Rattle.broker_model.specs.declared.journal.Entry.TheVariants as entries
use Rattle.broker_model.specs.Out.{Outgoing, act_at, stored, tokens_taken}
use Rattle.broker_model.specs.Recorded.{entry_at}
use Rattle.broker_model.specs.Resolve.{past_of, resolve}
use Rattle.broker_core.specs.declared.answers.Applied.{Applied}
use Rattle.broker_core.specs.declared.answers.JoinRefusal.{JoinRefusal}
use Rattle.broker_core.specs.declared.answers.JoinRefusal.TheVariants as join_refusals
use Rattle.broker_core.specs.declared.answers.Refused.{Refused}
use Rattle.broker_core.specs.declared.answers.Refused.TheVariants as refusals
use Rattle.broker_core.specs.declared.answers.Took.{Took}
use Rattle.broker_core.specs.declared.answers.Took.TheVariants as took
use Rattle.broker_core.specs.declared.letting_go.LetGo.{LetGo}
use Rattle.broker_core.specs.Broker.{Broker, join_refusal, entry_of, refusal, IsAccepted, take_refusal, IfBytes, IfNoBytes, IsBytesUnlessMemory}
use Rattle.broker_core.specs.Taking.{out_at}
use Rattle.broker_core.specs.Watched.{watched_since}
use Rattle.hub_lock.specs.declared.step.OuterStep.{OuterStep}
use Rattle.hub_lock.specs.declared.session.Session.{Session}
use Rattle.hub_lock.specs.declared.session.NoSession.{NoSession}
use Rattle.hub_lock.specs.declared.call.Ask.{Ask}
use Rattle.hub_lock.specs.declared.call.Ask.TheVariants as asks
use Rattle.hub_lock.specs.declared.call.Answer.{Answer}
use Rattle.hub_lock.specs.declared.call.Answer.TheVariants as answers
use Rattle.hub_lock.specs.declared.call.Call.{Call}
use Rattle.hub_lock.specs.declared.call.Reply.{Reply}
use Rattle.hub_lock.specs.Histories.{History, broker_of, reader_of, writer_of, only, joining}
use Rattle.hub_lock.specs.Lawful.{IsLawful}
use Rattle.hub_lock.specs.Bells.{AreRung}

-- the history is longer by this step of the pass with the number n
abbrev pub IsLonger : ℕ → OuterStep → History → History → Type 0
IsLonger n step before after = after ≡ before ++ (n, step) ∷ []

-- a peer joins, whose reader's pass has that number
pub record Joins (limits : Limits) (before : History) (n : ℕ) (role : Role) (reader : ℕ)
    (after : History)
    (r : Result ℕ JoinRefusal) : Type 0 where
  pub refused : IfSome (join_refusal (broker_of limits before) role) (λ why. r ≡ Err why)
  pub accepted : IfNone (join_refusal (broker_of limits before) role)
      (IsOkUnless r join_refusals.NoMemory)
  pub joined : OnOk r (IsLonger n (joining (entries.Join role) reader) before after)
  pub number : IfOk r (λ q. q ≡ length (past_of (broker_of limits after).journal).joined)
  pub has : IfOk r (λ q. reader_of after q ≡ Some reader)
  pub same : OnErr r (after ≡ before)

-- the step is of the shell, or of the peer whose reader's pass has the number n
abbrev pub IsOwn : History → ℕ → Step → Type 0
IsOwn h n (steps.Peer q step) = reader_of h q ≡ Some n
IsOwn h n (steps.Shell step) = Unit {0}
IsOwn h n _ = ⊥

-- a step of a peer or of the shell
pub record Applies (limits : Limits) (before : History) (n : ℕ) (step : Step) (after : History)
    (r : Result Applied Refused) : Type 0 where
  pub refused : IfSome (refusal (broker_of limits before) step) (λ why. r ≡ Err why)
  pub accepted : IfNone (refusal (broker_of limits before) step)
      (IsAccepted refusals.NoMemory step r)
  pub applied : OnOk r (IsLonger n (only (entry_of step)) before after)
  pub entry : IfOk r (λ applied. applied.entry ≡ length (broker_of limits before).journal + 1)
  pub route : IfOk r (λ applied. applied.route ≡ route_told
      (act_at (entry_of step) (broker_of limits before).journal)
      (resolve (broker_of limits before).journal))
  pub same : OnErr r (after ≡ before)

-- the first that were out stand at the front of the buffers: as many bytes as fit, and the tokens
-- that come with them
pub record IsTakenInto (out : Outgoing) (most : ℕ) (bytes tokens : List ℕ)
    (counts : ℕ × ℕ) : Type 0 where
  pub count : counts.0 ≡ min most (length (stored out))
  pub front : take counts.0 bytes ≡ take counts.0 (stored out)
  pub token_count : counts.1 ≡ length (tokens_taken counts.0 out)
  pub tokens_front : take counts.1 tokens ≡ map (λ t. t.token) (tokens_taken counts.0 out)
  pub few : counts.1 ≤ 256

-- a take of what is stored for the peer q
pub record Takes (limits : Limits) (before : History) (n q most : ℕ) (bytes tokens : List ℕ)
    (after : History)
    (r : Took) : Type 0 where
  pub refused : IfSome (take_refusal (broker_of limits before) q) (λ why. r ≡ why)
  pub accepted : IfNone (take_refusal (broker_of limits before) q) (IsBytesUnlessMemory r)
  pub into : IfSome (out_at limits.store (broker_of limits before).journal q) (λ out.
      IfBytes r (λ counts. IsTakenInto out most bytes tokens counts))
  pub taken : IfBytes r (λ counts. IsLonger n (only (entries.Took q counts.0)) before after)
  pub same : IfNoBytes r (after ≡ before)

-- the answer to a take for the peer q for which there is no memory: why it is refused, or else that
-- memory lacks
abbrev pub took_without_memory : Broker → ℕ → Took
took_without_memory b q = unwrap_or (take_refusal b q) took.NoMemory

-- the session has these limits, this journal and its stamps
pub record IsSessionOf (b : Broker) (s : Session) : Type 0 where
  pub limits : s.limits ≡ b.limits
  pub journal : s.journal.entries ≡ b.journal
  pub stamps : s.stamps.stamps ≡ b.stamps

-- a copy of it all
pub record Copies (limits : Limits) (before after : History)
    (r : Result Session NoSession) : Type 0 where
  pub copied : IfOk r (λ s. IsSessionOf (broker_of limits before) s)
  pub same : after ≡ before

-- the entry after so many, with its number and its stamp
pub record IsNext (b : Broker) (given : ℕ) (it : LetGo) : Type 0 where
  pub number : it.number ≡ given + 1
  pub entry : entry_at b.journal it.number ≡ Some it.entry
  pub stamp : entry_at b.stamps it.number ≡ Some it.stamp

-- it is handed out after so many, or there are no more
pub record IsHandedOut (b : Broker) (given : ℕ) (r : Option LetGo) : Type 0 where
  pub next : IfSome r (IsNext b given)
  pub none : IfNone r (length b.journal ≤ given)

-- the pass with the number n may ask it: a step of the shell, or of the peer whose reader it is; a
-- take for the peer whose writer it is
abbrev pub MayAsk : History → ℕ → Ask → Type 0
MayAsk h n (asks.Apply step) = IsOwn h n step
MayAsk h n (asks.Take t) = writer_of h t.peer ≡ Some n
MayAsk h n _ = Unit {0}

-- what is asked, and what is answered to it
abbrev pub Answers : Limits → History → ℕ → Ask → History → Ask → Answer → Type 0
Answers limits before n (asks.Join role reader) after ask (answers.Joined r) =
    Joins limits before n role reader after r
Answers limits before n (asks.Apply step) after ask (answers.Applied r) =
    Applies limits before n step after r
Answers limits before n (asks.Take t) after (asks.Take u) (answers.Took r) =
    Takes limits before n t.peer t.most u.places.bytes.items u.places.tokens.items after r
Answers limits before n asks.Copy after ask (answers.Copied r) = Copies limits before after r
Answers limits before n (asks.Name m) after ask (answers.Named r) = after ≡ before
Answers limits before n asks.HandOut after ask (answers.HandedOut r) = after ≡ before
Answers limits before n _ after _ _ = ⊥

-- a play of a call: what is behind the lock is lawful before and after
pub record Plays (limits : Limits) (before : History) (call : Call) (after : History) (call' : Call)
    (reply : Reply)
    : Type 0 where
  pub lawful : IsLawful limits before
  pub lawful_after : IsLawful limits after
  pub answers : MayAsk before call.number call.ask
      → Answers limits before call.number call.ask after call'.ask reply.answer
  pub entries : reply.entries ≡ length (broker_of limits after).journal
  pub rings : AreRung reply.rings
      (watched_since limits.store (length (broker_of limits before).journal)
      (broker_of limits after).journal)

-- the answer says that a step was made
abbrev pub is_made : Answer → Bool
is_made (answers.Joined r) = is_ok r
is_made (answers.Applied r) = is_ok r
is_made (answers.Took (took.Bytes bytes tokens)) = true
is_made _ = false

-- how many bytes it says were taken
abbrev pub bytes_made : Answer → ℕ
bytes_made (answers.Took (took.Bytes bytes tokens)) = bytes
bytes_made _ = 0

-- how many bytes and tokens a take took
abbrev pub counts_of : Took → ℕ × ℕ
counts_of (took.Bytes bytes tokens) = (bytes, tokens)
counts_of _ = (0, 0)
