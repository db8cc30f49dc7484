-- What the calls of the shared state tell, said of histories
use Rattle.std.specs.Prelude.{Bool, true, ◌==◌, unwrap_or, option_map, if◌then◌else◌}
use Rattle.std.proofs.Common.{◌≡◌, ℕ, ◌+◌, ◌^◌, ◌<◌, ◌≤◌, List, [], ◌∷◌, ◌++◌, length, map, min, take, drop, false, Option, Some, None, Result, Ok, Err, IfSome, IfNone, IfOk, OnOk, OnErr, IsOkUnless, refl, ap, sym, subst, ◌∙◌, arith, length-append}
use Rattle.std.proofs.lemmas.List.{take-append-le, length-take-le, length-map}
use Rattle.std.proofs.Math.Seq.{take-append_seam}
use borrow.Rule.Slice.PartMut.{put_mid, post_of}
use Rattle.relay_core.specs.Stands.{route_told}
use Rattle.relay_model.specs.declared.act.EndCause.{EndCause}
use Rattle.relay_model.specs.declared.role.Role.{Role}
use Rattle.broker_steps.specs.declared.step.Step.{Step}
use Rattle.broker_steps.specs.declared.step.Step.TheVariants as steps
use Rattle.broker_steps.specs.declared.step.PeerStep.{PeerStep}
use Rattle.broker_steps.specs.declared.step.PeerStep.TheVariants as peers
use Rattle.broker_model.specs.declared.journal.Entry.{Entry}
use Rattle.broker_model.specs.declared.journal.Entry.TheVariants as entries
use Rattle.broker_model.specs.declared.journal.Kept.{Kept}
use Rattle.broker_model.specs.Out.{Outgoing, act_at, stored, tokens_taken}
use Rattle.broker_model.specs.Resolve.{past_of, resolve}
use Rattle.broker_model.specs.Settle.{number_alive}
use Rattle.broker_model.specs.Stamps.{follows}
use Rattle.broker_model.specs.Recorded.{entry_at}
use Rattle.broker_core.specs.declared.letting_go.LetGo.{LetGo}
use Rattle.broker_core.specs.declared.answers.Applied.{Applied}
use Rattle.broker_core.specs.declared.answers.JoinRefusal.{JoinRefusal}
use Rattle.broker_core.specs.declared.answers.JoinRefusal.TheVariants as join_refusals
use Rattle.broker_core.specs.declared.answers.Refused.{Refused}
use Rattle.broker_core.specs.declared.answers.Refused.TheVariants as refusals
use Rattle.broker_core.specs.declared.answers.Took.{Took}
use Rattle.broker_core.specs.declared.answers.Took.TheVariants as took
use Rattle.broker_core.specs.Broker.{Broker, with_step, join_refusal, entry_of, refusal, full_for, IsAccepted, nothing_left, take_refusal, take_refusal_from, IfBytes, IfNoBytes, IsBytesUnlessMemory}
use Rattle.broker_core.specs.Stands.{end_of}
use Rattle.broker_core.specs.Taking.{out_at, IsTaken}
use Rattle.hub_lock.specs.declared.step.OuterStep.{OuterStep}
use Rattle.hub_lock.specs.Histories.{History, stamp_by, broker_of, reader_of, writer_of, only, joining}
use Rattle.hub_lock.specs.Lawful.{IsKept, IsMadeBy, history_of, with_all}
use Rattle.hub_lock.specs.Plays.{IsLonger, IsOwn, Joins, Applies, Takes, IsTakenInto, took_without_memory, IsHandedOut}
use Rattle.hub_lock.proofs.KeptAfterStep.{IsStamped, IsNoJoin, IsLegalStep, history-plain, kept-plain, history-join, is-join, kept-join, reader-join}

take-whole : (xs ys : List ℕ) (k : ℕ) → length xs ≡ k → take k (xs ++ ys) ≡ xs
take-whole xs ys k e = ap (λ m. take m (xs ++ ys)) (sym e) ∙ take-append_seam xs ys

-- a join: the state and the readers after it

abbrev pub IsAfterJoin : Broker → List ℕ → ℕ → Role → ℕ → Broker → List ℕ → Type 0
IsAfterJoin b readers n role r b' readers' =
    (b' ≡ with_step (entries.Join role) (stamp_by n) b) × (readers' ≡ readers ++ r ∷ [])

abbrev pub IsSame : Broker → List ℕ → Broker → List ℕ → Type 0
IsSame b readers b' readers' = (b' ≡ b) × (readers' ≡ readers)

same-history : (b : Broker) (readers : List ℕ) (b' : Broker) (readers' : List ℕ) → IsSame b readers b' readers' →
    history_of b' readers' ≡ history_of b readers
same-history b readers b' readers' e = ap (λ (x : Broker). history_of x readers') e.0 ∙ ap (history_of b) e.1

module _ (b : Broker) (readers : List ℕ) (n : ℕ) (kept : IsKept b readers) (stamped : IsStamped b) where
  -- what is said of the state is said of the history's broker
  is-here : (P : Broker → Type 0) → P (with_all b) → P (broker_of b.limits (history_of b readers))
  is-here P p = subst P (sym kept.is) p

  joined-ok : (role : Role) (r q : ℕ) (b' : Broker) (readers' : List ℕ) → IsAfterJoin b readers n role r b' readers'
      → q ≡ length (past_of b'.journal).joined
      → IsLonger n (joining (entries.Join role) r) (history_of b readers) (history_of b' readers')
      × (q ≡ length (past_of (broker_of b.limits (history_of b' readers')).journal).joined)
      × (reader_of (history_of b' readers') q ≡ Some r)
  joined-ok role r q b' readers' a number =
      let all : List ℕ = readers ++ r ∷ [] in
      let after : Broker = with_step (entries.Join role) (stamp_by n) b in
      let now : history_of b' readers' ≡ history_of after all =
      ap (λ (x : Broker). history_of x readers') a.0 ∙ ap (history_of after) a.1 in
      let is : broker_of b.limits (history_of b' readers') ≡ with_all after =
      ap (broker_of b.limits) now ∙ is-join b readers n kept stamped role r in
      let count : q ≡ length (past_of after.journal).joined =
      number ∙ ap (λ (x : Broker). length (past_of x.journal).joined) a.0 in (
        now ∙ history-join b readers n kept stamped role r,
        count ∙ ap (λ (x : Broker). length (past_of x.journal).joined) (sym is),
        ap (λ (h : History). reader_of h q) now ∙ reader-join b readers n kept stamped role r q count,
      )

  pub joins-by : (role : Role) (r : ℕ) (res : Result ℕ JoinRefusal) (b' : Broker) (readers' : List ℕ)
      → IfSome (join_refusal b role) (λ why. res ≡ Err why) →
      IfNone (join_refusal b role) (IsOkUnless res join_refusals.NoMemory)
      → OnOk res (IsAfterJoin b readers n role r b' readers') → IfOk res (λ q. q ≡ length (past_of b'.journal).joined)
      → OnErr res (IsSame b readers b' readers') →
      Joins b.limits (history_of b readers) n role r (history_of b' readers') res
  joins-by role r (Ok q) b' readers' refused accepted after number same =
      let done = joined-ok role r q b' readers' after number in record {
        refused = is-here (λ (x : Broker). IfSome (join_refusal x role) (λ why. Ok q ≡ Err why)) refused;
        accepted = is-here
            (λ (x : Broker). IfNone (join_refusal x role) (IsOkUnless (Ok q) join_refusals.NoMemory)) accepted;
        joined = done.0;
        number = done.1;
        has = done.2;
        same = tt;
      }
  joins-by role r (Err why) b' readers' refused accepted after number same = let res : Result ℕ JoinRefusal =
      Err why in record {
        refused = is-here (λ (x : Broker). IfSome (join_refusal x role) (λ other. res ≡ Err other)) refused;
        accepted = is-here
            (λ (x : Broker). IfNone (join_refusal x role) (IsOkUnless res join_refusals.NoMemory)) accepted;
        joined = tt;
        number = tt;
        has = tt;
        same = same-history b readers b' readers' same;
      }

  pub join-kept : (role : Role) (r : ℕ) (b' : Broker) (readers' : List ℕ) → IsAfterJoin b readers n role r b' readers' →
      n ≡ 0 → number_alive b.journal < 64 → n < 2 ^ 64 → IsKept b' readers'
  join-kept role r b' readers' a root few author =
      subst (λ rs. IsKept b' rs) (sym a.1)
      (subst (λ (x : Broker). IsKept x (readers ++ r ∷ [])) (sym a.0)
      (kept-join b readers n kept stamped role r root few author))

  pub join-longer : (role : Role) (r : ℕ) (b' : Broker) (readers' : List ℕ) → IsAfterJoin b readers n role r b' readers'
      → IsLonger n (joining (entries.Join role) r) (history_of b readers) (history_of b' readers')
  join-longer role r b' readers' a =
      ap (λ (x : Broker). history_of x readers') a.0
      ∙ ap (history_of (with_step (entries.Join role) (stamp_by n) b)) a.1
      ∙ history-join b readers n kept stamped role r

  -- a step of the pass itself
  pub record IsOuter (e : Entry) : Type 0 where
    pub follows : follows e ≡ false
    pub plain : IsNoJoin e
    pub mine : IsMadeBy (history_of b readers) n e

  peer-step : (q : ℕ) (step : PeerStep) → reader_of (history_of b readers) q ≡ Some n →
      IsOuter (entry_of (steps.Peer q step))
  peer-step q (peers.Message id opcode body) own = record { follows = refl; plain = tt; mine = own }
  peer-step q (peers.Tokens tokens) own = record { follows = refl; plain = tt; mine = own }
  peer-step q (peers.BadSize head) own = record { follows = refl; plain = tt; mine = own }
  peer-step q peers.Gone own = record { follows = refl; plain = tt; mine = own }

  pub own-step : (step : Step) → IsOwn (history_of b readers) n step → IsOuter (entry_of step)
  own-step (steps.Join role) own = absurd own
  own-step (steps.Peer q step) own = peer-step q step own
  own-step (steps.Shell step) own = record { follows = refl; plain = tt; mine = tt }
  own-step (steps.Take q count) own = absurd own

  pub longer-by : (e : Entry) (b' : Broker) → IsOuter e → b' ≡ with_step e (stamp_by n) b
      → IsLonger n (only e) (history_of b readers) (history_of b' readers)
  longer-by e b' outer same =
      ap (λ (x : Broker). history_of x readers) same
      ∙ history-plain b readers n kept stamped e outer.follows outer.plain

  pub kept-by : (e : Entry) (b' : Broker) → IsOuter e → IsLegalStep b n e → b' ≡ with_step e (stamp_by n) b
      → IsKept b' readers
  kept-by e b' outer legal same =
      subst (λ (x : Broker). IsKept x readers) (sym same)
      (kept-plain b readers n kept stamped e outer.follows outer.plain outer.mine legal)

  applied-by : (e : Entry) (res : Result Applied Refused) (b' : Broker) → IsOuter e →
      OnOk res (b' ≡ with_step e (stamp_by n) b)
      → OnOk res (IsLonger n (only e) (history_of b readers) (history_of b' readers))
  applied-by e (Ok a) b' outer after = longer-by e b' outer after
  applied-by e (Err why) b' outer after = tt

  same-by : {T E : Type 0} (res : Result T E) (b' : Broker) → OnErr res (b' ≡ b) →
      OnErr res (history_of b' readers ≡ history_of b readers)
  same-by (Ok a) b' same = tt
  same-by (Err why) b' same = ap (λ (x : Broker). history_of x readers) same

  pub applies-by : (step : Step) (res : Result Applied Refused) (b' : Broker) → IsOwn (history_of b readers) n step
      → IfSome (refusal b step) (λ why. res ≡ Err why) → IfNone (refusal b step) (IsAccepted refusals.NoMemory step res)
      → OnOk res (b' ≡ with_step (entry_of step) (stamp_by n) b)
      → IfOk res (λ applied. applied.entry ≡ length b.journal + 1)
      → IfOk res (λ applied. applied.route ≡ route_told (act_at (entry_of step) b.journal) (resolve b.journal))
      → OnErr res (b' ≡ b) → Applies b.limits (history_of b readers) n step (history_of b' readers) res
  applies-by step res b' own refused accepted after entry route same = record {
    refused = is-here (λ (x : Broker). IfSome (refusal x step) (λ why. res ≡ Err why)) refused;
    accepted = is-here (λ (x : Broker). IfNone (refusal x step) (IsAccepted refusals.NoMemory step res)) accepted;
    applied = applied-by (entry_of step) res b' (own-step step own) after;
    entry = is-here (λ (x : Broker). IfOk res (λ applied. applied.entry ≡ length x.journal + 1)) entry;
    route = is-here
        (λ (x : Broker). IfOk res
        (λ applied. applied.route ≡ route_told (act_at (entry_of step) x.journal) (resolve x.journal))) route;
    same = same-by res b' same;
  }

  -- a take
  pub own-take : (q count : ℕ) → writer_of (history_of b readers) q ≡ Some n → count ≤ 4096 →
      IsOuter (entries.Took q count)
  own-take q count own few = record { follows = refl; plain = tt; mine = (own, few) }

  longer-taken : (q : ℕ) (res : Took) (b' : Broker) → writer_of (history_of b readers) q ≡ Some n →
      IfBytes res (λ counts. counts.0 ≤ 4096)
      → IfBytes res (λ counts. b' ≡ with_step (entries.Took q counts.0) (stamp_by n) b)
      → IfBytes res
      (λ counts. IsLonger n (only (entries.Took q counts.0)) (history_of b readers) (history_of b' readers))
  longer-taken q (took.Bytes count tokens) b' own few after =
      longer-by (entries.Took q count) b' (own-take q count own few) after
  longer-taken q took.NoPeer b' own few after = tt
  longer-taken q took.Closed b' own few after = tt
  longer-taken q took.Empty b' own few after = tt
  longer-taken q (took.JournalFull kept) b' own few after = tt
  longer-taken q took.NoMemory b' own few after = tt

  same-taken : (res : Took) (b' : Broker) → IfNoBytes res (b' ≡ b) →
      IfNoBytes res (history_of b' readers ≡ history_of b readers)
  same-taken (took.Bytes count tokens) b' same = tt
  same-taken took.NoPeer b' same = ap (λ (x : Broker). history_of x readers) same
  same-taken took.Closed b' same = ap (λ (x : Broker). history_of x readers) same
  same-taken took.Empty b' same = ap (λ (x : Broker). history_of x readers) same
  same-taken (took.JournalFull kept) b' same = ap (λ (x : Broker). history_of x readers) same
  same-taken took.NoMemory b' same = ap (λ (x : Broker). history_of x readers) same

  -- what was taken stands at the front of the room
  pub taken-into : (out : Outgoing) (q most : ℕ) (room part part' places places' : List ℕ) (counts : ℕ × ℕ)
      (after : List Entry)
      → part ≡ take most room → most ≤ length room → length part' ≡ length part → length places ≡ 256 →
      length places' ≡ length places
      → IsTaken out b.journal q part places counts part' places' after
      → IsTakenInto out most (put_mid 0 most room part') places' counts
  taken-into out q most room part part' places places' counts after is fits same few same' t =
      let len : length part ≡ most = ap length is ∙ length-take-le most room fits in
      let n : counts.0 ≡ min most (length (stored out)) = t.count ∙ ap (λ k. min k (length (stored out))) len in
      let small : counts.0 ≤ most = grind (arith, n) in
      let less : counts.0 ≤ length (stored out) = grind (arith, n) in
      let went : length (take counts.0 (stored out)) ≡ counts.0 = length-take-le counts.0 (stored out) less in
      let front : take counts.0 part' ≡ take counts.0 (stored out) =
      ap (take counts.0) t.bytes ∙ take-whole (take counts.0 (stored out)) (drop counts.0 part) counts.0 went in
      let came : length (map (λ t. t.token) (tokens_taken counts.0 out)) ≡ counts.1 =
      length-map (tokens_taken counts.0 out) (λ t. t.token) ∙ sym t.token_count in
      let all = ap length t.tokens in
      let sum = length-append (map (λ t. t.token) (tokens_taken counts.0 out)) (drop counts.1 places) in
      record {
        count = n;
        front = take-append-le counts.0 part' (post_of 0 most room) (omega arith) ∙ front;
        token_count = t.token_count;
        tokens_front =
            ap (take counts.1) t.tokens
            ∙ take-whole (map (λ t. t.token) (tokens_taken counts.0 out)) (drop counts.1 places) counts.1 came;
        few = omega arith;
      }

  into-some : (out : Outgoing) (q most : ℕ) (room part part' places places' : List ℕ) (res : Took)
      → part ≡ take most room → most ≤ length room → length part' ≡ length part → length places ≡ 256 →
      length places' ≡ length places
      → IfBytes res
      (λ counts. IsTaken out b.journal q part places counts part' places' (entries.Took q counts.0 ∷ b.journal))
      → IfBytes res (λ counts. IsTakenInto out most (put_mid 0 most room part') places' counts)
  into-some out q most room part part' places places' (took.Bytes count tokens) is fits same few same' t =
      taken-into out q most room part part' places places' (count, tokens)
      (entries.Took q count ∷ b.journal) is fits same few same' t
  into-some out q most room part part' places places' took.NoPeer is fits same few same' t = tt
  into-some out q most room part part' places places' took.Closed is fits same few same' t = tt
  into-some out q most room part part' places places' took.Empty is fits same few same' t = tt
  into-some out q most room part part' places places' (took.JournalFull held) is fits same few same' t = tt
  into-some out q most room part part' places places' took.NoMemory is fits same few same' t = tt

  pub into-by : (o : Option Outgoing) (q most : ℕ) (room part part' places places' : List ℕ) (res : Took)
      → part ≡ take most room → most ≤ length room → length part' ≡ length part → length places ≡ 256 →
      length places' ≡ length places
      → IfSome o (λ out. IfBytes res
      (λ counts. IsTaken out b.journal q part places counts part' places' (entries.Took q counts.0 ∷ b.journal)))
      → IfSome o (λ out. IfBytes res (λ counts. IsTakenInto out most (put_mid 0 most room part') places' counts))
  into-by None q most room part part' places places' res is fits same few same' t = tt
  into-by (Some out) q most room part part' places places' res is fits same few same' t =
      into-some out q most room part part' places places' res is fits same few same' t

  few-some : (out : Outgoing) (most : ℕ) (bytes tokens : List ℕ) (res : Took) → most ≤ 4096
      → IfBytes res (λ counts. IsTakenInto out most bytes tokens counts) → IfBytes res (λ counts. counts.0 ≤ 4096)
  few-some out most bytes tokens (took.Bytes count places) small t = let c = t.count in grind (arith, c)
  few-some out most bytes tokens took.NoPeer small t = tt
  few-some out most bytes tokens took.Closed small t = tt
  few-some out most bytes tokens took.Empty small t = tt
  few-some out most bytes tokens (took.JournalFull held) small t = tt
  few-some out most bytes tokens took.NoMemory small t = tt

  few-none : (res : Took) → res ≡ took.NoPeer → IfBytes res (λ counts. counts.0 ≤ 4096)
  few-none res e = subst (λ (r : Took). IfBytes r (λ counts. counts.0 ≤ 4096)) (sym e) tt

  pub few-by : (o : Option Outgoing) (q most : ℕ) (bytes tokens : List ℕ) (res : Took) → most ≤ 4096
      → IfSome (take_refusal_from b q o) (λ why. res ≡ why) →
      IfSome o (λ out. IfBytes res (λ counts. IsTakenInto out most bytes tokens counts))
      → IfBytes res (λ counts. counts.0 ≤ 4096)
  few-by None q most bytes tokens res small refused t = few-none res refused
  few-by (Some out) q most bytes tokens res small refused t = few-some out most bytes tokens res small t

  pub takes-by : (q most : ℕ) (bytes tokens : List ℕ) (res : Took) (b' : Broker) →
      writer_of (history_of b readers) q ≡ Some n
      → IfSome (take_refusal b q) (λ why. res ≡ why) → IfNone (take_refusal b q) (IsBytesUnlessMemory res)
      → IfSome (out_at b.limits.store b.journal q)
      (λ out. IfBytes res (λ counts. IsTakenInto out most bytes tokens counts))
      → IfBytes res (λ counts. counts.0 ≤ 4096) →
      IfBytes res (λ counts. b' ≡ with_step (entries.Took q counts.0) (stamp_by n) b)
      → IfNoBytes res (b' ≡ b) → Takes b.limits (history_of b readers) n q most bytes tokens (history_of b' readers) res
  takes-by q most bytes tokens res b' own refused accepted into few after same = record {
    refused = is-here (λ (x : Broker). IfSome (take_refusal x q) (λ why. res ≡ why)) refused;
    accepted = is-here (λ (x : Broker). IfNone (take_refusal x q) (IsBytesUnlessMemory res)) accepted;
    into = is-here
        (λ (x : Broker). IfSome (out_at b.limits.store x.journal q)
        (λ out. IfBytes res (λ counts. IsTakenInto out most bytes tokens counts))) into;
    taken = longer-taken q res b' own few after;
    same = same-taken res b' same;
  }

  -- a take without memory takes nothing

  none-left : (end : Option EndCause) → IfBytes (nothing_left end) (λ counts. ⊥)
  none-left None = tt
  none-left (Some cause) = tt

  none-full : (t : Bool) (end : Option EndCause) (full : Option Kept)
      → IfBytes (unwrap_or
      (if t then Some (nothing_left end) else option_map (λ kept. took.JournalFull kept) full) took.NoMemory)
      (λ counts. ⊥)
  none-full true end full = none-left end
  none-full false end None = tt
  none-full false end (Some kept) = tt

  none-from : (q : ℕ) (o : Option Outgoing) → IfBytes (unwrap_or (take_refusal_from b q o) took.NoMemory) (λ counts. ⊥)
  none-from q None = tt
  none-from q (Some out) =
      none-full (length (stored out) == 0) (end_of b.journal q) (full_for b (entries.Took q 0))

  refused-why : (o : Option Took) → IfSome o (λ why. unwrap_or o took.NoMemory ≡ why)
  refused-why None = tt
  refused-why (Some why) = refl

  memory-lacks : (o : Option Took) → IfNone o (IsBytesUnlessMemory (unwrap_or o took.NoMemory))
  memory-lacks None = tt
  memory-lacks (Some why) = tt

  no-bytes-some : (o : Option Outgoing) (P : Outgoing → ℕ × ℕ → Type 0) (res : Took) → IfBytes res (λ counts. ⊥)
      → IfSome o (λ out. IfBytes res (P out))
  no-bytes-some None P res none = tt
  no-bytes-some (Some out) P (took.Bytes count tokens) none = absurd none
  no-bytes-some (Some out) P took.NoPeer none = tt
  no-bytes-some (Some out) P took.Closed none = tt
  no-bytes-some (Some out) P took.Empty none = tt
  no-bytes-some (Some out) P (took.JournalFull kept) none = tt
  no-bytes-some (Some out) P took.NoMemory none = tt

  no-bytes-of : (P : ℕ × ℕ → Type 0) (res : Took) → IfBytes res (λ counts. ⊥) → IfBytes res P
  no-bytes-of P (took.Bytes count tokens) none = absurd none
  no-bytes-of P took.NoPeer none = tt
  no-bytes-of P took.Closed none = tt
  no-bytes-of P took.Empty none = tt
  no-bytes-of P (took.JournalFull kept) none = tt
  no-bytes-of P took.NoMemory none = tt

  same-broker : (res : Took) → IfNoBytes res (b ≡ b)
  same-broker (took.Bytes count tokens) = tt
  same-broker took.NoPeer = refl
  same-broker took.Closed = refl
  same-broker took.Empty = refl
  same-broker (took.JournalFull kept) = refl
  same-broker took.NoMemory = refl

  pub takes-none : (q most : ℕ) (bytes tokens : List ℕ)
      → Takes b.limits (history_of b readers) n q most bytes tokens (history_of b readers) (took_without_memory b q)
  takes-none q most bytes tokens =
      let none = none-from q (out_at b.limits.store b.journal q) in
      let res : Took = took_without_memory b q in record {
        refused =
            is-here (λ (x : Broker). IfSome (take_refusal x q) (λ why. res ≡ why)) (refused-why (take_refusal b q));
        accepted = is-here (λ (x : Broker). IfNone (take_refusal x q) (IsBytesUnlessMemory res))
            (memory-lacks (take_refusal b q));
        into = is-here
            (λ (x : Broker). IfSome (out_at b.limits.store x.journal q)
            (λ out. IfBytes res (λ counts. IsTakenInto out most bytes tokens counts)))
            (no-bytes-some (out_at b.limits.store b.journal q)
            (λ out counts. IsTakenInto out most bytes tokens counts) res none);
        taken = no-bytes-of _ res none;
        same = same-taken res b (same-broker res);
      }

-- how many steps there are then

pub longer-length : (n : ℕ) (s : OuterStep) (before after : History) → IsLonger n s before after →
    length after ≡ length before + 1
longer-length n s before after e = let l = ap length e in let a = length-append before ((n, s) ∷ []) in omega arith

-- what is handed out of the state is told of the history's broker

pub handed-by : (b : Broker) (readers : List ℕ) (given : ℕ) (r : Option LetGo) → IsKept b readers
    → IfSome r (λ it. it.number ≡ given + 1)
    → IfSome r (λ it. entry_at b.journal it.number ≡ Some it.entry)
    → IfSome r (λ it. entry_at b.stamps it.number ≡ Some it.stamp)
    → IfNone r (length b.journal ≤ given)
    → IsHandedOut (broker_of b.limits (history_of b readers)) given r
handed-by b readers given r kept number entry stamp none =
    subst (λ (x : Broker). IsHandedOut x given r) (sym kept.is) (by r number entry stamp none) where
      by : (r : Option LetGo) → IfSome r (λ it. it.number ≡ given + 1)
          → IfSome r (λ it. entry_at b.journal it.number ≡ Some it.entry)
          → IfSome r (λ it. entry_at b.stamps it.number ≡ Some it.stamp)
          → IfNone r (length b.journal ≤ given) → IsHandedOut (with_all b) given r
      by None number entry stamp none = record { next = tt; none = none }
      by (Some it) number entry stamp none =
          record { next = record { number = number; entry = entry; stamp = stamp }; none = tt }
