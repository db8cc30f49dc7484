-- A take of a peer's writer takes what stands behind all that its takes took before
use Rattle.std.proofs.Common.{◌≡◌, ◌⊎◌, ℕ, zero, suc, ◌+◌, ◌<◌, ◌≤◌, Bool, true, false, List, [], ◌∷◌, ◌++◌, length, map, take, drop, min, Option, Some, None, refl, sym, ap, ap₂, ◌∙◌, subst, inl, inr, arith, append-nil, length-drop, take_all}
use Rattle.std.specs.Prelude.{nat_le, if◌then◌else◌, ◌==◌, option_map, IfSome, IfNone}
use Rattle.std.proofs.lemmas.Bool.{eqb-true, leb-false, leb-true}
use Rattle.std.proofs.lemmas.List.{length-take-le, take_at}
use Rattle.relay_model.specs.declared.act.EndCause.{EndCause}
use Rattle.broker_steps.specs.declared.limits.Limits.{Limits}
use Rattle.broker_steps.specs.Ranges.{IsWithin}
use Rattle.broker_model.specs.declared.journal.Entry.{Entry}
use Rattle.broker_model.specs.declared.journal.Entry.TheVariants as entries
use Rattle.broker_model.specs.declared.journal.Kept.{Kept}
use Rattle.broker_model.specs.Ids.{Joined, peer_at}
use Rattle.broker_model.specs.Resolve.{past_of}
use Rattle.broker_model.specs.Out.{Outgoing, stored, out_for}
use Rattle.broker_model.specs.Settle.{settle, history}
use Rattle.broker_model.proofs.SettlingEnds.{history_settled}
use Rattle.broker_core.specs.declared.answers.Took.{Took}
use Rattle.broker_core.specs.declared.answers.Took.TheVariants as took
use Rattle.broker_core.specs.Broker.{Broker, full_in, full_for, nothing_left, take_refusal_from, IfBytes, IfNoBytes, IsBytesUnlessMemory}
use Rattle.broker_core.specs.Stands.{end_of}
use Rattle.broker_core.specs.Taking.{out_at, IsTaken}
use Rattle.turn_lock.specs.Pairs.{own, NoneOf}
use Rattle.turn_lock.proofs.PairsOfNumbers.{none-append}
use Rattle.hub_lock.specs.declared.step.OuterStep.{OuterStep}
use Rattle.hub_lock.specs.Histories.{History, entries_of, broker_of, writer_of, only}
use Rattle.hub_lock.specs.Lawful.{IsLawful}
use Rattle.hub_lock.specs.Passes.{PeerPass}
use Rattle.hub_lock.specs.Calls.{IsTake, pass_having_seen}
use Rattle.hub_lock.proofs.HistoriesGrow.{entries-more}
use Rattle.hub_lock.proofs.ReadersStay.{writer-stays}
use Rattle.hub_lock.proofs.LegalCalls.{writer-joined}
use Rattle.hub_calls.specs.Made.{entries_by, journal_of, journal_by, HasEnded, IsFullFor}
use Rattle.hub_calls.specs.Taken.{HasFront, HasTaken, HasAll, TakesMore, TakesNone}
use Rattle.hub_calls.proofs.PassesGrow.{entries_same, entries_one}
use Rattle.hub_calls.proofs.OthersTakeNothing.{entries-append, made-back, took-none}
use Rattle.hub_calls.proofs.TakesPutNothing.{puts_nothing}
use Rattle.hub_calls.proofs.FrontsGrow.{Grows, step_grows, step_keeps, history_keeps, IsOnly, only_one, history_grows, own_took, still_within, front_more, front_same}

-- what was taken of what is out for the peer, where the take is played

record Standing (limits : Limits) (h : History) (q : ℕ) (bytes : List ℕ) : Type 0 where
  peer : Joined
  there : peer_at (past_of (journal_of limits h)) q ≡ Some peer
  within : (out_for limits.store (journal_of limits h) peer.label).taken
      ≤ length (out_for limits.store (journal_of limits h) peer.label).put.bytes
  front : bytes ≡ take (out_for limits.store (journal_of limits h) peer.label).taken
      (out_for limits.store (journal_of limits h) peer.label).put.bytes

journal_both : (limits : Limits) (seen rest : History)
    → journal_of limits (seen ++ rest) ≡ history limits.store (entries_of rest ++ entries_of seen)
journal_both limits seen rest = ap (history limits.store) (entries-append seen rest)

from_nothing : (limits : Limits) (h : History) (q n : ℕ) → IsLawful limits h → writer_of h q ≡ Some n → NoneOf n h →
    Standing limits h q []
from_nothing limits h q n l w free =
    let p = writer-joined limits h q n l w in
    let none = took-none h h q n l.made_by w free in
    let all : journal_of limits h ≡ history limits.store (entries_of h ++ []) =
    ap (history limits.store) (sym (append-nil (entries_of h))) in
    let only : IsOnly (history limits.store (entries_of h ++ [])) q p.0.label =
    subst (λ (J : List Entry). IsOnly J q p.0.label) all (only_one (journal_of limits h) q p.0 p.1) in
    let grows = history_grows limits.store (entries_of h) [] q p.0.label only none in
    let here : Grows 0 (out_for limits.store [] p.0.label) (out_for limits.store (journal_of limits h) p.0.label) =
    subst (λ (J : List Entry). Grows 0 (out_for limits.store [] p.0.label) (out_for limits.store J p.0.label))
    (sym all) grows in
    let o : Outgoing = out_for limits.store (journal_of limits h) p.0.label in
    let zero_taken : o.taken ≡ 0 = here.taken in record {
      peer = p.0;
      there = p.1;
      within = omega (arith, zero_taken);
      front = ap (λ k. take k o.put.bytes) (sym zero_taken);
    }

from_before : (limits : Limits) (seen rest : History) (q n : ℕ) (bytes : List ℕ) → IsLawful limits (seen ++ rest)
    → writer_of (seen ++ rest) q ≡ Some n → NoneOf n rest → Standing limits seen q bytes →
    Standing limits (seen ++ rest) q bytes
from_before limits seen rest q n bytes l w free s =
    let es : List Entry = entries_of rest in
    let base : List Entry = entries_of seen in
    let both = journal_both limits seen rest in
    let none = took-none (seen ++ rest) rest q n (made-back (seen ++ rest) seen rest l.made_by) w free in
    let there : peer_at (past_of (history limits.store (es ++ base))) q ≡ Some s.peer =
    history_keeps limits.store es base q s.peer s.there in
    let only = only_one (history limits.store (es ++ base)) q s.peer there in
    let grows = history_grows limits.store es base q s.peer.label only none in
    let a : Outgoing = out_for limits.store (journal_of limits seen) s.peer.label in
    let b : Outgoing = out_for limits.store (journal_of limits (seen ++ rest)) s.peer.label in
    let here : Grows 0 a b =
    subst (λ (J : List Entry). Grows 0 a (out_for limits.store J s.peer.label)) (sym both) grows in
    let within = s.within in
    record {
      peer = s.peer;
      there = ap (λ (J : List Entry). peer_at (past_of J) q) both ∙ there;
      within = still_within 0 a b here (omega (arith, within));
      front = s.front ∙ sym (front_same a b here s.within);
    }

none_of : (xs : List OuterStep) → map (λ (s : OuterStep). s.entry) xs ≡ [] → xs ≡ []
none_of [] e = refl
none_of (x ∷ xs) e = absurd (cc)

before_call : (limits : Limits) (pass : PeerPass) (rest : History) (bytes : List ℕ)
    → writer_of pass.seat.seen pass.peer ≡ Some pass.seat.number → NoneOf pass.seat.number rest →
    IsLawful limits (pass.seat.seen ++ rest)
    → HasTaken limits pass bytes → Standing limits (pass.seat.seen ++ rest) pass.peer bytes
before_call limits pass rest bytes w free l (inl k) =
    let mine : NoneOf pass.seat.number pass.seat.seen = none_of (own pass.seat.number pass.seat.seen) k.0 in
    let w_now = writer-stays pass.seat.seen rest pass.peer pass.seat.number w in
    subst (Standing limits (pass.seat.seen ++ rest) pass.peer) (sym k.1)
    (from_nothing limits (pass.seat.seen ++ rest) pass.peer pass.seat.number l w_now
    (none-append pass.seat.number pass.seat.seen rest mine free))
before_call limits pass rest bytes w free l (inr k) =
    let w_now = writer-stays pass.seat.seen rest pass.peer pass.seat.number w in
    from_before limits pass.seat.seen rest pass.peer pass.seat.number bytes l w_now free (record {
      peer = k.peer;
      there = k.there;
      within = subst (λ (o : Outgoing). o.taken ≤ length o.put.bytes) k.out_is k.within;
      front = k.front ∙ ap (λ (o : Outgoing). take o.taken o.put.bytes) k.out_is;
    })

-- what a take answers

abbrev IsAnswer : Broker → ℕ → Outgoing → Took → Type 0
IsAnswer b q out r = IfSome (take_refusal_from b q (Some out)) (λ why. r ≡ why)
    × IfNone (take_refusal_from b q (Some out)) (IsBytesUnlessMemory r)

abbrev by_stored : Broker → ℕ → Bool → Option Took
by_stored b q t =
    (if t then Some (nothing_left (end_of b.journal q))
    else option_map (λ kept. took.JournalFull kept) (full_for b (entries.Took q 0)))

bytes_some : (b : Broker) (q : ℕ) (out : Outgoing) (n t : ℕ) → IsAnswer b q out (took.Bytes n t) →
    1 ≤ length (stored out)
bytes_some b q out n t a = by (length (stored out)) refl a
  where
    left : (o : Option EndCause) → took.Bytes n t ≡ nothing_left o → ⊥
    left None e = absurd (cc)
    left (Some cause) e = absurd (cc)

    by : (k : ℕ) → length (stored out) ≡ k
        → IfSome (by_stored b q (k == 0)) (λ why. took.Bytes n t ≡ why)
        × IfNone (by_stored b q (k == 0)) (IsBytesUnlessMemory (took.Bytes n t))
        → 1 ≤ length (stored out)
    by zero e k = absurd (left (end_of b.journal q) k.0)
    by (suc m) e k = omega (arith, e)

-- as many as fit, or all that there are
most_or_all : (n most there : ℕ) → n ≡ min most there → (n ≡ most) ⊎ (n ≡ there)
most_or_all n most there count = by (nat_le most there) refl
  where
    by : (t : Bool) → nat_le most there ≡ t → (n ≡ most) ⊎ (n ≡ there)
    by true e = let l : most ≤ there = leb-true most there e in inl (omega (arith, count))
    by false e = let l : there < most = leb-false most there e in inr (omega (arith, count))

-- nothing is stored, and the peer ended or didn't

record IsOver (b : Broker) (q : ℕ) (out : Outgoing) (r : Took) : Type 0 where
  none : length (stored out) ≡ 0
  left : r ≡ nothing_left (end_of b.journal q)

over_is : (b : Broker) (q : ℕ) (out : Outgoing) (r : Took) → IsAnswer b q out r
    → ((kept : Kept) → r ≡ took.JournalFull kept → ⊥) → (IsBytesUnlessMemory r → ⊥) → IsOver b q out r
over_is b q out r a not_full not_bytes = by (length (stored out) == 0) refl a
  where
    full : (o : Option Kept) → IfSome (option_map (λ kept. took.JournalFull kept) o) (λ why. r ≡ why)
        → IfNone (option_map (λ kept. took.JournalFull kept) o) (IsBytesUnlessMemory r) → ⊥
    full None x y = not_bytes y
    full (Some kept) x y = not_full kept x

    by : (t : Bool) → (length (stored out) == 0) ≡ t
        → IfSome (by_stored b q t) (λ why. r ≡ why) × IfNone (by_stored b q t) (IsBytesUnlessMemory r)
        → IsOver b q out r
    by true e k = record { none = eqb-true (length (stored out)) 0 e; left = k.0 }
    by false e k = absurd (full (full_for b (entries.Took q 0)) k.0 k.1)

closed_end : (o : Option EndCause) → took.Closed ≡ nothing_left o → (cause : EndCause) × (o ≡ Some cause)
closed_end None e = absurd (cc)
closed_end (Some cause) e = (cause, refl)

empty_end : (o : Option EndCause) → took.Empty ≡ nothing_left o → o ≡ None
empty_end None e = refl
empty_end (Some cause) e = absurd (cc)

full_is : (b : Broker) (q : ℕ) (out : Outgoing) (kept : Kept) → IsAnswer b q out (took.JournalFull kept) →
    full_for b (entries.Took q 0) ≡ Some kept
full_is b q out kept a = by (length (stored out) == 0) a
  where
    full : (o : Option Kept) → full_for b (entries.Took q 0) ≡ o →
        IfSome (option_map (λ kept. took.JournalFull kept) o) (λ why. took.JournalFull kept ≡ why)
        → IfNone (option_map (λ kept. took.JournalFull kept) o) (IsBytesUnlessMemory (took.JournalFull kept)) →
        full_for b (entries.Took q 0) ≡ Some kept
    full None e x y = absurd y
    full (Some k) e x y =
        e ∙ (let same : took.JournalFull kept ≡ took.JournalFull k = x in let less : k ≡ kept = cc in
        ap (λ k. Some k) less)

    left : (o : Option EndCause) → took.JournalFull kept ≡ nothing_left o → ⊥
    left None x = absurd (cc)
    left (Some cause) x = absurd (cc)

    by : (t : Bool) →
        IfSome (by_stored b q t) (λ why. took.JournalFull kept ≡ why)
        × IfNone (by_stored b q t) (IsBytesUnlessMemory (took.JournalFull kept))
        → full_for b (entries.Took q 0) ≡ Some kept
    by true k = absurd (left (end_of b.journal q) k.0)
    by false k = full (full_for b (entries.Took q 0)) refl k.0 k.1

-- of a call of the pass

module _ (limits : Limits) (pass pass' : PeerPass) (buf places buf' places' : List ℕ) (r : Took)
    (is : pass' ≡ pass_having_seen pass pass'.seat.seen)
    (w : writer_of pass.seat.seen pass.peer ≡ Some pass.seat.number)
    (k : IsTake limits pass pass' buf places buf' places' r) where
  abbrev turn : History
  turn = pass.seat.seen ++ k.rest

  abbrev journal : List Entry
  journal = journal_of limits turn

  before : (bytes : List ℕ) → HasTaken limits pass bytes → Standing limits turn pass.peer bytes
  before bytes s = before_call limits pass k.rest bytes w k.apart k.lawful s

  peer-same : pass'.peer ≡ pass.peer
  peer-same = ap (λ (p : PeerPass). p.peer) is

  there : (peer : Joined) × (peer_at (past_of journal) pass.peer ≡ Some peer)
  there = writer-joined limits turn pass.peer pass.seat.number k.lawful
      (writer-stays pass.seat.seen k.rest pass.peer pass.seat.number w)

  abbrev out_by : Joined → Outgoing
  out_by peer = out_for limits.store journal peer.label

  out-here : (peer : Joined) → peer_at (past_of journal) pass.peer ≡ Some peer →
      out_at limits.store journal pass.peer ≡ Some (out_by peer)
  out-here peer e = ap (option_map (λ (peer : Joined). out_by peer)) e

  answer-here : (peer : Joined) → peer_at (past_of journal) pass.peer ≡ Some peer →
      IsAnswer (broker_of limits turn) pass.peer (out_by peer) r
  answer-here peer e = (
    subst (λ (o : Option Outgoing). IfSome (take_refusal_from (broker_of limits turn) pass.peer o) (λ why. r ≡ why))
        (out-here peer e) k.answer.refused,
    subst (λ (o : Option Outgoing). IfNone (take_refusal_from (broker_of limits turn) pass.peer o)
        (IsBytesUnlessMemory r)) (out-here peer e) k.answer.accepted,
  )

  answer-as : (x : Took) → r ≡ x → (peer : Joined) → peer_at (past_of journal) pass.peer ≡ Some peer →
      IsAnswer (broker_of limits turn) pass.peer (out_by peer) x
  answer-as x e peer at =
      subst (λ (y : Took). IsAnswer (broker_of limits turn) pass.peer (out_by peer) y) e (answer-here peer at)

  -- nothing was taken

  same-seen : (x : Took) → r ≡ x → IfNoBytes x (pass'.seat.seen ≡ turn)
  same-seen x e = subst (λ (y : Took). IfNoBytes y (pass'.seat.seen ≡ turn)) e k.answer.same

  front-now : (bytes : List ℕ) → pass'.seat.seen ≡ turn → Standing limits turn pass.peer bytes →
      HasFront limits pass' bytes
  front-now bytes same s = record {
    peer = s.peer;
    there = ap₂ (λ (h : History) q. peer_at (past_of (journal_of limits h)) q) same peer-same ∙ s.there;
    out = out_by s.peer;
    out_is = ap (λ (h : History). out_for limits.store (journal_of limits h) s.peer.label) (sym same);
    within = s.within;
    front = s.front;
  }

  none-made : pass'.seat.seen ≡ turn → entries_by pass'.seat ≡ entries_by pass.seat
  none-made same = ap (λ (p : PeerPass). entries_by p.seat) is
      ∙ entries_same pass.seat k.rest pass'.seat.seen k.apart same

  takes-none : (Why : List ℕ → Type 0) → pass'.seat.seen ≡ turn
      → ((bytes : List ℕ) → HasTaken limits pass bytes → Why bytes) → TakesNone limits pass pass' Why
  takes-none Why same why = record {
    entries = none-made same;
    same = λ bytes s. front-now bytes same (before bytes s);
    why = why;
  }

  all-taken : (x : Took) → r ≡ x → pass'.seat.seen ≡ turn → ((kept : Kept) → x ≡ took.JournalFull kept → ⊥) →
      (IsBytesUnlessMemory x → ⊥) → (bytes : List ℕ) → HasTaken limits pass bytes → HasAll limits pass' bytes
  all-taken x e same not_full not_bytes bytes s =
      let b = before bytes s in
      let o : Outgoing = out_by b.peer in
      let over = over_is (broker_of limits turn) pass.peer o x (answer-as x e b.peer b.there) not_full not_bytes in
      let none = over.none in
      let left = length-drop o.taken o.put.bytes in
      let within = b.within in
      let whole : length o.put.bytes ≤ o.taken = omega (arith, none, left, within) in
      record {
        taken = record {
          peer = b.peer;
          there = ap₂ (λ (h : History) q. peer_at (past_of (journal_of limits h)) q) same peer-same ∙ b.there;
          out = o;
          out_is = ap (λ (h : History). out_for limits.store (journal_of limits h) b.peer.label) (sym same);
          within = b.within;
          front = b.front;
        };
        all = b.front ∙ take_all o.taken o.put.bytes whole;
      }

  now-end : pass'.seat.seen ≡ turn → end_of (journal_by limits pass') pass'.peer ≡ end_of journal pass.peer
  now-end same = ap₂ (λ (h : History) q. end_of (journal_of limits h) q) same peer-same

  pub closes : r ≡ took.Closed → TakesNone limits pass pass' (HasAll limits pass')
      × ((cause : EndCause) × HasEnded limits pass' cause)
  closes e =
      let same : pass'.seat.seen ≡ turn = same-seen took.Closed e in
      let over = over_is (broker_of limits turn) pass.peer (out_by there.0) took.Closed
      (answer-as took.Closed e there.0 there.1) (λ kept f. absurd (cc)) (λ no. no) in
      let c = closed_end (end_of journal pass.peer) over.left in (
        takes-none (HasAll limits pass') same
            (all-taken took.Closed e same (λ kept f. absurd (cc)) (λ no. no)),
        (c.0, now-end same ∙ c.1),
      )

  pub finds-none : r ≡ took.Empty → TakesNone limits pass pass' (HasAll limits pass')
      × (end_of (journal_by limits pass') pass'.peer ≡ None)
  finds-none e =
      let same : pass'.seat.seen ≡ turn = same-seen took.Empty e in
      let over = over_is (broker_of limits turn) pass.peer (out_by there.0) took.Empty
      (answer-as took.Empty e there.0 there.1) (λ kept f. absurd (cc)) (λ no. no) in (
        takes-none (HasAll limits pass') same
            (all-taken took.Empty e same (λ kept f. absurd (cc)) (λ no. no)),
        now-end same ∙ empty_end (end_of journal pass.peer) over.left,
      )

  pub fills : (kept : Kept) → r ≡ took.JournalFull kept → TakesNone limits pass pass' (λ bytes. Unit {0})
      × IsFullFor limits pass'.seat.seen (entries.Took pass'.peer 0) kept
  fills kept e =
      let same : pass'.seat.seen ≡ turn = same-seen (took.JournalFull kept) e in (
        takes-none (λ bytes. Unit {0}) same (λ bytes s. tt),
        ap₂ (λ (h : History) q. full_in limits (journal_of limits h) (entries.Took q 0)) same peer-same
            ∙ full_is (broker_of limits turn) pass.peer (out_by there.0) kept
            (answer-as (took.JournalFull kept) e there.0 there.1),
      )

  pub lacks : r ≡ took.NoMemory → TakesNone limits pass pass' (λ bytes. Unit {0})
  lacks e = takes-none (λ bytes. Unit {0}) (same-seen took.NoMemory e) (λ bytes s. tt)

  -- so many bytes were taken

  longer-here : (n t : ℕ) → r ≡ took.Bytes n t →
      pass'.seat.seen ≡ turn ++ (pass.seat.number, only (entries.Took pass.peer n)) ∷ []
  longer-here n t e =
      subst (λ (x : Took). IfBytes x
      (λ counts. pass'.seat.seen ≡ turn ++ (pass.seat.number, only (entries.Took pass.peer counts.0)) ∷ [])) e
      k.answer.taken

  taken-here : (n t : ℕ) → r ≡ took.Bytes n t → (peer : Joined) → peer_at (past_of journal) pass.peer ≡ Some peer
      → IsTaken (out_by peer) journal pass.peer buf places (n, t) buf' places' (entries.Took pass.peer n ∷ journal)
  taken-here n t e peer at =
      let some = subst
      (λ (o : Option Outgoing). IfSome o
      (λ out. IfBytes r (λ counts. IsTaken out journal pass.peer buf places counts buf' places'
      (entries.Took pass.peer counts.0 ∷ journal)))) (out-here peer at) k.answer.bytes in
      subst (λ (x : Took). IfBytes x (λ counts. IsTaken (out_by peer) journal pass.peer buf places counts buf' places'
      (entries.Took pass.peer counts.0 ∷ journal))) e some

  record Count (n : ℕ) (peer : Joined) : Type 0 where
    few : IsWithin 4096 n
    less : n ≤ length (stored (out_by peer))
    piece : take n buf' ≡ take n (stored (out_by peer))
    most : (n ≡ 4096) ⊎ (n ≡ length (stored (out_by peer)))

  counts : (n t : ℕ) → r ≡ took.Bytes n t → length buf ≡ 4096 → (peer : Joined) →
      peer_at (past_of journal) pass.peer ≡ Some peer → Count n peer
  counts n t e size peer at =
      let o : Outgoing = out_by peer in
      let i = taken-here n t e peer at in
      let some = bytes_some (broker_of limits turn) pass.peer o n t (answer-as (took.Bytes n t) e peer at) in
      let count : n ≡ min 4096 (length (stored o)) = i.count ∙ ap (λ m. min m (length (stored o))) size in
      let less : n ≤ length (stored o) = grind (arith, count) in record {
        few = (grind (arith, count, some), grind (arith, count));
        less = less;
        piece = ap (take n) i.bytes ∙ take_at (take n (stored o)) (drop n buf) n (length-take-le n (stored o) less);
        most = most_or_all n 4096 (length (stored o)) count;
      }

  front-more-now : (n t : ℕ) → r ≡ took.Bytes n t → length buf ≡ 4096 → (bytes : List ℕ) →
      HasTaken limits pass bytes → HasFront limits pass' (bytes ++ take n buf')
  front-more-now n t e size bytes s =
      let b = before bytes s in
      let peer = b.peer in
      let o : Outgoing = out_by peer in
      let c = counts n t e size peer b.there in
      let J' : List Entry = settle limits.store (entries.Took pass.peer n ∷ journal) in
      let later : journal_of limits pass'.seat.seen ≡ J' =
      ap (journal_of limits) (longer-here n t e)
      ∙ ap (history limits.store) (entries-more turn pass.seat.number (only (entries.Took pass.peer n))) in
      let o' : Outgoing = out_for limits.store J' peer.label in
      let grows : Grows n o o' =
      step_grows limits.store (entries.Took pass.peer n) journal peer.label n
      (own_took pass.peer n journal peer b.there) in
      let less = c.less in
      let left = length-drop o.taken o.put.bytes in
      let within = b.within in
      let fits : o.taken + n ≤ length o.put.bytes = omega (arith, less, left, within) in record {
        peer = peer;
        there = ap₂ (λ (J : List Entry) q. peer_at (past_of J) q) later peer-same
            ∙ step_keeps limits.store (entries.Took pass.peer n) journal pass.peer peer b.there;
        out = o';
        out_is = ap (λ (J : List Entry). out_for limits.store J peer.label) (sym later);
        within = still_within n o o' grows fits;
        front = ap₂ (λ (x y : List ℕ). x ++ y) b.front c.piece ∙ sym (front_more n o o' grows fits);
      }

  -- where all that is stored is taken, nothing more was put
  all-now : (n t : ℕ) → r ≡ took.Bytes n t → length buf ≡ 4096 → (bytes : List ℕ) (s : HasTaken limits pass bytes) →
      n ≡ length (stored (out_by (before bytes s).peer)) → HasAll limits pass' (bytes ++ take n buf')
  unfolding front-more-now
  all-now n t e size bytes s whole =
      let b = before bytes s in
      let o : Outgoing = out_by b.peer in
      let J' : List Entry = settle limits.store (entries.Took pass.peer n ∷ journal) in
      let o' : Outgoing = out_for limits.store J' b.peer.label in
      let now = front-more-now n t e size bytes s in
      let put : o'.put.bytes ≡ o.put.bytes =
      puts_nothing limits.store pass.peer n journal b.peer b.there k.lawful.shared.stores
      (history_settled limits.store (entries_of turn)) b.peer.label in
      let grows : Grows n o o' =
      step_grows limits.store (entries.Took pass.peer n) journal b.peer.label n
      (own_took pass.peer n journal b.peer b.there) in
      let taken = grows.taken in
      let left = length-drop o.taken o.put.bytes in
      let within = b.within in
      let size' = ap length put in
      let all : length o'.put.bytes ≤ o'.taken = omega (arith, taken, left, within, whole, size') in
      record {
        taken = now;
        all = now.front ∙ take_all now.out.taken now.out.put.bytes all;
      }

  most-or-all-now : (n t : ℕ) → r ≡ took.Bytes n t → length buf ≡ 4096 → (bytes : List ℕ)
      (s : HasTaken limits pass bytes) →
      (n ≡ 4096) ⊎ (n ≡ length (stored (out_by (before bytes s).peer))) →
      (n ≡ 4096) ⊎ HasAll limits pass' (bytes ++ take n buf')
  most-or-all-now n t e size bytes s (inl m) = inl m
  most-or-all-now n t e size bytes s (inr m) = inr (all-now n t e size bytes s m)

  pub takes-more : (n t : ℕ) → r ≡ took.Bytes n t → length buf ≡ 4096 → TakesMore limits pass pass' buf' n
  takes-more n t e size = record {
    few = (counts n t e size there.0 there.1).few;
    entries = ap (λ (p : PeerPass). entries_by p.seat) is
        ∙ entries_one pass.seat k.rest pass'.seat.seen (entries.Took pass.peer n) k.apart (longer-here n t e);
    more = front-more-now n t e size;
    most = λ bytes s.
        most-or-all-now n t e size bytes s (counts n t e size (before bytes s).peer (before bytes s).there).most;
  }
