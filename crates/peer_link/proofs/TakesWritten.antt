-- What a take of a peer's writer comes to
use Rattle.std.proofs.Common.{◌≡◌, ℕ, zero, suc, ◌+◌, ◌<◌, ◌≤◌, Bool, true, false, List, [], ◌∷◌, ◌++◌, length, map, take, min, Option, Some, None, refl, sym, ap, ap₂, ◌∙◌, subst, inl, inr, arith, length-drop}
use Rattle.std.specs.Prelude.{if◌then◌else◌, ◌==◌, sum, option_map, IfSome, IfNone}
use Rattle.std.specs.List.{AllByRecursion}
use Rattle.std.specs.Io.KnownBytes.{Appends}
use Rattle.std.proofs.KnownBytes.{Appends-trans}
use Rattle.std.proofs.lemmas.Bool.{eqb-true}
use Rattle.std.proofs.lemmas.List.{map-append}
use Rattle.std.proofs.lemmas.List.Sums.{sum_by-cons, sum_by-append}
use Rattle.relay_model.specs.declared.act.EndCause.{EndCause}
use Rattle.broker_steps.specs.declared.limits.Limits.{Limits}
use Rattle.broker_steps.specs.Ranges.{IsWithin}
use Rattle.wl_wire.specs.Messages.{joined}
use Rattle.broker_model.specs.declared.journal.Entry.{Entry}
use Rattle.broker_model.specs.declared.journal.Entry.TheVariants as entries
use Rattle.broker_model.specs.declared.journal.Kept.{Kept}
use Rattle.broker_model.specs.Ids.{Joined, peer_at}
use Rattle.broker_model.specs.Resolve.{past_of}
use Rattle.broker_model.specs.Out.{Outgoing, stored, out_for}
use Rattle.broker_model.specs.Settle.{settle, history}
use Rattle.broker_core.specs.declared.answers.Took.{Took}
use Rattle.broker_core.specs.declared.answers.Took.TheVariants as took
use Rattle.broker_core.specs.Broker.{Broker, full_in, full_for, nothing_left, take_refusal_from, IfBytes, IfNoBytes, IsBytesUnlessMemory}
use Rattle.broker_core.specs.Stands.{end_of}
use Rattle.broker_core.specs.Taking.{out_at}
use Rattle.turn_lock.specs.Pairs.{NoneOf}
use Rattle.hub_lock.specs.Histories.{History, broker_of, writer_of, only}
use Rattle.hub_lock.specs.Lawful.{IsLawful}
use Rattle.hub_lock.specs.Passes.{PeerPass}
use Rattle.hub_lock.specs.Rooms.{Taken}
use Rattle.hub_lock.specs.Calls.{AreFirstOut, IsTakeOut, pass_having_seen}
use Rattle.hub_lock.proofs.HistoriesGrow.{entries-more}
use Rattle.hub_lock.proofs.ReadersStay.{writer-stays}
use Rattle.desc_frame.specs.Frames.{Frame, frame, spelling}
use Rattle.peer_link.specs.declared.ends.WriteEnd.{WriteEnd}
use Rattle.peer_link.specs.declared.ends.WriteEnd.TheVariants as ends
use Rattle.peer_link.specs.Made.{entries_by, journal_of, SawMore}
use Rattle.peer_link.specs.Gains.{Gains, GainsCut}
use Rattle.peer_link.specs.WritesPeer.{frame_at, frames_of, is_cut, EndsAs, WritesPeer}
use Rattle.peer_link.specs.Written.{HasTaken, Writing}
use Rattle.peer_link.proofs.AtLimits.{at-limit}
use Rattle.peer_link.proofs.StepsMade.{entries-same, entries-one}
use Rattle.peer_link.proofs.ShellServed.{joined-more}
use Rattle.peer_link.proofs.OutGrows.{begins-long, GoesOn, settle-goes, settle-keeps, own-took, frame-stays, frames-stay, frames-more}
use Rattle.peer_link.proofs.TakesStand.{Before, before-none, before-more}

-- all frames went out
abbrev AllGained : (held now : Option (List ℕ)) → List (List ℕ) → Type 0
AllGained held now pieces = Appends held now (joined pieces)

before-call : (limits : Limits) (pass : PeerPass) (rest : History) (held now : Option (List ℕ))
    → writer_of pass.seat.seen pass.peer ≡ Some pass.seat.number → NoneOf pass.seat.number rest →
    IsLawful limits (pass.seat.seen ++ rest)
    → Writing limits pass held now → Before limits pass (pass.seat.seen ++ rest) (AllGained held now)
before-call limits pass rest held now w free l (inl k) =
    before-none limits pass rest (AllGained held now) w free l k.0 k.1
before-call limits pass rest held now w free l (inr k) =
    before-more limits pass rest (AllGained held now) w free l k

-- what a take answers

abbrev IsAnswer : Broker → ℕ → Outgoing → Took → Type 0
IsAnswer b q out r = IfSome (take_refusal_from b q (Some out)) (λ why. r ≡ why)
    × IfNone (take_refusal_from b q (Some out)) (IsBytesUnlessMemory r)

abbrev by_stored : Broker → ℕ → Bool → Option Took
by_stored b q t =
    (if t then Some (nothing_left (end_of b.journal q))
    else option_map (λ kept. took.JournalFull kept) (full_for b (entries.Took q 0)))

bytes-some : (b : Broker) (q : ℕ) (out : Outgoing) (n t : ℕ) → IsAnswer b q out (took.Bytes n t) →
    1 ≤ length (stored out)
bytes-some b q out n t a = by (length (stored out)) refl a
  where
    left : (o : Option EndCause) → took.Bytes n t ≡ nothing_left o → ⊥
    left None e = absurd (cc)
    left (Some cause) e = absurd (cc)

    by : (k : ℕ) → length (stored out) ≡ k
        → IfSome (by_stored b q (k == 0)) (λ why. took.Bytes n t ≡ why)
        × IfNone (by_stored b q (k == 0)) (IsBytesUnlessMemory (took.Bytes n t))
        → 1 ≤ length (stored out)
    by zero e k = absurd (left (end_of b.journal q) k.0)
    by (suc m) e k = omega (arith, e)

record IsClosed (b : Broker) (q : ℕ) (out : Outgoing) : Type 0 where
  none : length (stored out) ≡ 0
  cause : EndCause
  ended : end_of b.journal q ≡ Some cause

closed-is : (b : Broker) (q : ℕ) (out : Outgoing) → IsAnswer b q out took.Closed → IsClosed b q out
closed-is b q out a = by (length (stored out) == 0) refl a
  where
    full : (o : Option Kept) → IfSome (option_map (λ kept. took.JournalFull kept) o) (λ why. took.Closed ≡ why)
        → IfNone (option_map (λ kept. took.JournalFull kept) o) (IsBytesUnlessMemory took.Closed) → ⊥
    full None x y = y
    full (Some kept) x y = absurd (cc)

    left : (o : Option EndCause) → end_of b.journal q ≡ o → length (stored out) ≡ 0 → took.Closed ≡ nothing_left o →
        IsClosed b q out
    left None e z x = absurd (cc)
    left (Some cause) e z x = record { none = z; cause = cause; ended = e }

    by : (t : Bool) → (length (stored out) == 0) ≡ t
        → IfSome (by_stored b q t) (λ why. took.Closed ≡ why)
        × IfNone (by_stored b q t) (IsBytesUnlessMemory took.Closed)
        → IsClosed b q out
    by true e k = left (end_of b.journal q) refl (eqb-true (length (stored out)) 0 e) k.0
    by false e k = absurd (full (full_for b (entries.Took q 0)) k.0 k.1)

full-is : (b : Broker) (q : ℕ) (out : Outgoing) (kept : Kept) → IsAnswer b q out (took.JournalFull kept) →
    full_for b (entries.Took q 0) ≡ Some kept
full-is b q out kept a = by (length (stored out) == 0) a
  where
    full : (o : Option Kept) → full_for b (entries.Took q 0) ≡ o →
        IfSome (option_map (λ kept. took.JournalFull kept) o) (λ why. took.JournalFull kept ≡ why)
        → IfNone (option_map (λ kept. took.JournalFull kept) o) (IsBytesUnlessMemory (took.JournalFull kept)) →
        full_for b (entries.Took q 0) ≡ Some kept
    full None e x y = absurd y
    full (Some k) e x y =
        e ∙ (let same : took.JournalFull kept ≡ took.JournalFull k = x in let less : k ≡ kept = cc in
        ap (λ k. Some k) less)

    left : (o : Option EndCause) → took.JournalFull kept ≡ nothing_left o → ⊥
    left None x = absurd (cc)
    left (Some cause) x = absurd (cc)

    by : (t : Bool) →
        IfSome (by_stored b q t) (λ why. took.JournalFull kept ≡ why)
        × IfNone (by_stored b q t) (IsBytesUnlessMemory (took.JournalFull kept))
        → full_for b (entries.Took q 0) ≡ Some kept
    by true k = absurd (left (end_of b.journal q) k.0)
    by false k = full (full_for b (entries.Took q 0)) refl k.0 k.1

-- of a call of the pass

module _ (limits : Limits) (pass pass' : PeerPass) (lent : Taken) (r : Took)
    (is : pass' ≡ pass_having_seen pass pass'.seat.seen)
    (w : writer_of pass.seat.seen pass.peer ≡ Some pass.seat.number)
    (k : IsTakeOut limits pass pass' 4096 lent r) where
  abbrev turn : History
  turn = pass.seat.seen ++ k.rest

  abbrev journal : List Entry
  journal = journal_of limits turn

  writing : (held now : Option (List ℕ)) → Writing limits pass held now →
      Before limits pass turn (AllGained held now)
  writing held now s = before-call limits pass k.rest held now w k.apart k.lawful s

  same-peer : pass'.peer ≡ pass.peer
  same-peer = ap (λ (p : PeerPass). p.peer) is

  abbrev out_by : Joined → Outgoing
  out_by peer = out_for limits.store journal peer.label

  out-here : (peer : Joined) → peer_at (past_of journal) pass.peer ≡ Some peer →
      out_at limits.store journal pass.peer ≡ Some (out_by peer)
  out-here peer e = ap (option_map (λ (peer : Joined). out_by peer)) e

  answer-here : (peer : Joined) → peer_at (past_of journal) pass.peer ≡ Some peer →
      IsAnswer (broker_of limits turn) pass.peer (out_by peer) r
  answer-here peer e = (
    subst (λ (o : Option Outgoing). IfSome (take_refusal_from (broker_of limits turn) pass.peer o) (λ why. r ≡ why))
        (out-here peer e) k.answer.refused,
    subst (λ (o : Option Outgoing). IfNone (take_refusal_from (broker_of limits turn) pass.peer o)
        (IsBytesUnlessMemory r)) (out-here peer e) k.answer.accepted,
  )

  -- nothing was taken

  same-seen : (x : Took) → r ≡ x → IfNoBytes x (pass'.seat.seen ≡ turn)
  same-seen x e = subst (λ (y : Took). IfNoBytes y (pass'.seat.seen ≡ turn)) e k.answer.same

  -- what the last take answered where no bytes came; no such take ends it at a failed write
  abbrev no_bytes : WriteEnd → Took
  no_bytes ends.Closed = took.Closed
  no_bytes ends.WriteFault = took.Empty
  no_bytes (ends.JournalFull kept) = took.JournalFull kept
  no_bytes ends.NoMemory = took.NoMemory

  same-then : (t : WriteEnd) → r ≡ no_bytes t → pass'.seat.seen ≡ turn
  same-then ends.Closed e = same-seen took.Closed e
  same-then ends.WriteFault e = same-seen took.Empty e
  same-then (ends.JournalFull kept) e = same-seen (took.JournalFull kept) e
  same-then ends.NoMemory e = same-seen took.NoMemory e

  ended-so : (Gained : List (List ℕ) → Type 0) (t : WriteEnd) → r ≡ no_bytes t → (b : Before limits pass turn Gained) →
      EndsAs limits pass' (out_by b.stands.peer) b.sizes t
  ended-so Gained ends.WriteFault e b = tt
  ended-so Gained ends.Closed e b =
      let same : pass'.seat.seen ≡ turn = same-seen took.Closed e in
      let o : Outgoing = out_by b.stands.peer in
      let c = closed-is (broker_of limits turn) pass.peer o
      (subst (λ (x : Took). IsAnswer (broker_of limits turn) pass.peer o x) e
      (answer-here b.stands.peer b.stands.there)) in
      let left = length-drop o.taken o.put.bytes in
      let none = c.none in
      let taken = b.stands.taken in
      let front = b.stands.front in (
        (c.cause, ap₂ (λ (h : History) q. end_of (journal_of limits h) q) same same-peer ∙ c.ended),
        omega (arith, left, none, taken, front),
      )
  ended-so Gained (ends.JournalFull kept) e b =
      let same : pass'.seat.seen ≡ turn = same-seen (took.JournalFull kept) e in
      let o : Outgoing = out_by b.stands.peer in
      let full : full_in limits (journal_of limits pass'.seat.seen) (entries.Took pass'.peer 0) ≡ Some kept =
      ap₂ (λ (h : History) q. full_in limits (journal_of limits h) (entries.Took q 0)) same same-peer
      ∙ full-is (broker_of limits turn) pass.peer o kept
      (subst (λ (x : Took). IsAnswer (broker_of limits turn) pass.peer o x) e
      (answer-here b.stands.peer b.stands.there)) in (
        full,
        at-limit limits (journal_of limits pass'.seat.seen) (entries.Took pass'.peer 0) kept full (omega arith),
      )
  ended-so Gained ends.NoMemory e b = tt

  ends-so : (Gained : List (List ℕ) → Type 0) (held now : Option (List ℕ)) (end : WriteEnd) →
      r ≡ no_bytes end → (b : Before limits pass turn Gained)
      → Gains (is_cut end) held now (map spelling (frames_of (out_by b.stands.peer).put b.sizes)) →
      WritesPeer limits pass' held now end
  ends-so Gained held now end e b gained =
      let same : pass'.seat.seen ≡ turn = same-then end e in record {
        sizes = b.sizes;
        each = b.each;
        takes = ap (λ (p : PeerPass). entries_by p.seat) is
            ∙ entries-same pass.seat k.rest pass'.seat.seen k.apart same
            ∙ b.takes
            ∙ ap (λ q. map (λ n. entries.Took q n) b.sizes) (sym same-peer);
        out = out_by b.stands.peer;
        queued = ap₂ (λ (h : History) q. out_at limits.store (journal_of limits h) q) same same-peer
            ∙ out-here b.stands.peer b.stands.there;
        front = b.stands.front;
        taken = b.stands.taken;
        gained = gained;
        ends = ended-so Gained end e b;
      }

  pub closes : (held now : Option (List ℕ)) → r ≡ took.Closed → Writing limits pass held now →
      WritesPeer limits pass' held now ends.Closed
  closes held now e s =
      let b = writing held now s in ends-so (AllGained held now) held now ends.Closed e b b.stands.gained

  pub fills : (held now : Option (List ℕ)) (kept : Kept) → r ≡ took.JournalFull kept → Writing limits pass held now
      → WritesPeer limits pass' held now (ends.JournalFull kept)
  fills held now kept e s =
      let b = writing held now s in ends-so (AllGained held now) held now (ends.JournalFull kept) e b b.stands.gained

  pub lacks : (held now : Option (List ℕ)) → r ≡ took.NoMemory → Writing limits pass held now →
      WritesPeer limits pass' held now ends.NoMemory
  lacks held now e s =
      let b = writing held now s in ends-so (AllGained held now) held now ends.NoMemory e b b.stands.gained

  -- so many bytes were taken, which are still to be written

  pub record OneMore (Gained : List (List ℕ) → Type 0) (n t : ℕ) : Type 0 where
    pub sizes : List ℕ
    pub each : AllByRecursion (IsWithin 4096) (sizes ++ n ∷ [])
    pub takes : entries_by pass'.seat ≡ map (λ n. entries.Took pass'.peer n) (sizes ++ n ∷ [])
    pub out : Outgoing
    pub queued : out_at limits.store (journal_of limits pass'.seat.seen) pass'.peer ≡ Some out
    pub front : sum (sizes ++ n ∷ []) ≤ length out.put.bytes
    pub taken : out.taken ≡ sum (sizes ++ n ∷ [])
    pub frames : frames_of out.put (sizes ++ n ∷ [])
        ≡ frames_of out.put sizes ++ frame lent.bytes lent.tokens ∷ []
    pub gained : Gained (map spelling (frames_of out.put sizes))

  sum-more : (xs : List ℕ) (n : ℕ) → sum (xs ++ n ∷ []) ≡ sum xs + n
  sum-more xs n =
      let both = sum_by-append (λ (x : ℕ). x) xs (n ∷ []) in
      let one = sum_by-cons (λ (x : ℕ). x) n [] in
      let none : sum [] ≡ 0 = refl in omega (arith, both, one, none)

  each-more : (xs : List ℕ) (n : ℕ) → AllByRecursion (IsWithin 4096) xs → IsWithin 4096 n →
      AllByRecursion (IsWithin 4096) (xs ++ n ∷ [])
  each-more [] n a i = (i, tt)
  each-more (x ∷ xs) n a i = (a.0, each-more xs n a.1 i)

  taken-here : (n t : ℕ) → r ≡ took.Bytes n t → (peer : Joined) → peer_at (past_of journal) pass.peer ≡ Some peer
      → AreFirstOut (out_by peer) 4096 lent (n, t)
  taken-here n t e peer there =
      let some = subst (λ (o : Option Outgoing). IfSome o (λ out. IfBytes r (AreFirstOut out 4096 lent)))
      (out-here peer there) k.answer.out in
      subst (λ (x : Took). IfBytes x (AreFirstOut (out_by peer) 4096 lent)) e some

  longer-here : (n t : ℕ) → r ≡ took.Bytes n t →
      pass'.seat.seen ≡ turn ++ (pass.seat.number, only (entries.Took pass.peer n)) ∷ []
  longer-here n t e =
      subst (λ (x : Took). IfBytes x
      (λ counts. pass'.seat.seen ≡ turn ++ (pass.seat.number, only (entries.Took pass.peer counts.0)) ∷ [])) e
      k.answer.taken

  frame-here : (n t : ℕ) (o : Outgoing) → AreFirstOut o 4096 lent (n, t)
      → frame_at o.put o.taken n ≡ frame lent.bytes lent.tokens
  frame-here n t o i = ap₂ (λ (bs : List ℕ) (ts : List ℕ). frame bs ts) (sym i.bytes) (sym i.tokens)

  one-more : (Gained : List (List ℕ) → Type 0) (n t : ℕ) → r ≡ took.Bytes n t →
      Before limits pass turn Gained → OneMore Gained n t
  one-more Gained n t e b =
      let peer = b.stands.peer in
      let o : Outgoing = out_by peer in
      let i = taken-here n t e peer b.stands.there in
      let longer = longer-here n t e in
      let some = bytes-some (broker_of limits turn) pass.peer o n t
      (subst (λ (x : Took). IsAnswer (broker_of limits turn) pass.peer o x) e (answer-here peer b.stands.there)) in
      let count : n ≡ min 4096 (length (stored o)) = i.count in
      let few : IsWithin 4096 n = (grind (arith, count, some), grind (arith, count)) in
      let less : n ≤ length (stored o) = grind (arith, count) in
      let J' : List Entry = settle limits.store (entries.Took pass.peer n ∷ journal) in
      let later : journal_of limits pass'.seat.seen ≡ J' =
      ap (journal_of limits) longer
      ∙ ap (history limits.store) (entries-more turn pass.seat.number (only (entries.Took pass.peer n))) in
      let o' : Outgoing = out_for limits.store J' peer.label in
      let goes : GoesOn n o o' =
      settle-goes limits.store (entries.Took pass.peer n) journal peer.label n
      (own-took pass.peer n journal peer b.stands.there) in
      let there : peer_at (past_of J') pass.peer ≡ Some peer =
      settle-keeps limits.store (entries.Took pass.peer n) journal pass.peer peer b.stands.there in
      let long = begins-long o.put o'.put goes.put in
      let left = length-drop o.taken o.put.bytes in
      let taken = b.stands.taken in
      let front = b.stands.front in
      let more = goes.taken in
      let total = sum-more b.sizes n in
      let at : o.taken ≡ sum b.sizes = taken in
      let fits : 0 + sum b.sizes + n ≤ length o.put.bytes = omega (arith, left, taken, front, less) in record {
        sizes = b.sizes;
        each = each-more b.sizes n b.each few;
        takes = ap (λ (p : PeerPass). entries_by p.seat) is
            ∙ entries-one pass.seat k.rest pass'.seat.seen (entries.Took pass.peer n) k.apart longer
            ∙ ap (λ (es : List Entry). es ++ entries.Took pass.peer n ∷ []) b.takes
            ∙ sym (map-append (λ (n : ℕ). entries.Took pass.peer n) b.sizes (n ∷ []))
            ∙ ap (λ q. map (λ n. entries.Took q n) (b.sizes ++ n ∷ [])) (sym same-peer);
        out = o';
        queued = ap₂ (λ (J : List Entry) q. out_at limits.store J q) later same-peer
            ∙ ap (option_map (λ (peer : Joined). out_for limits.store J' peer.label)) there;
        front = omega (arith, total, long, fits);
        taken = omega (arith, total, more, taken);
        frames = frames-more o'.put 0 b.sizes n
            ∙ ap (λ (f : Frame). frames_of o'.put b.sizes ++ f ∷ [])
            (frame-stays o.put o'.put (0 + sum b.sizes) n goes.put fits
            ∙ ap (λ m. frame_at o.put m n) {x = 0 + sum b.sizes} {y = o.taken} (omega (arith, at))
            ∙ frame-here n t o i);
        gained = subst (λ (fs : List Frame). Gained (map spelling fs))
            (sym (frames-stay o.put o'.put 0 b.sizes goes.put (omega (arith, front)))) b.stands.gained;
      }

  abbrev piece : List ℕ
  piece = spelling (frame lent.bytes lent.tokens)

  pieces-more : (Gained : List (List ℕ) → Type 0) (n t : ℕ) (m : OneMore Gained n t)
      → map spelling (frames_of m.out.put (m.sizes ++ n ∷ [])) ≡
      map spelling (frames_of m.out.put m.sizes) ++ piece ∷ []
  pieces-more Gained n t m =
      ap (map spelling) m.frames
      ∙ map-append spelling (frames_of m.out.put m.sizes) (frame lent.bytes lent.tokens ∷ [])

  -- it was taken, and this was gained of it
  taken-so : (Gained Gained' : List (List ℕ) → Type 0) (n t : ℕ) (m : OneMore Gained n t)
      → Gained' (map spelling (frames_of m.out.put m.sizes) ++ piece ∷ []) → HasTaken limits pass' Gained'
  taken-so Gained Gained' n t m gained = record {
    sizes = m.sizes ++ n ∷ [];
    each = m.each;
    takes = m.takes;
    out = m.out;
    queued = m.queued;
    front = m.front;
    taken = m.taken;
    gained = subst Gained' (sym (pieces-more Gained n t m)) gained;
  }

  pub wrote : (held now now' : Option (List ℕ)) (n t : ℕ) → r ≡ took.Bytes n t →
      Writing limits pass held now → Appends now now' piece
      → Writing limits pass' held now'
  wrote held now now' n t e s a =
      let m = one-more (AllGained held now) n t e (writing held now s) in
      let before : List (List ℕ) = map spelling (frames_of m.out.put m.sizes) in
      inr (taken-so (AllGained held now) (AllGained held now') n t m
      (subst (Appends held now') (sym (joined-more before piece))
      (Appends-trans held now now' (joined before) piece m.gained a)))

  pub wrote-part : (held now now' : Option (List ℕ)) (n t part : ℕ) → r ≡ took.Bytes n t →
      Writing limits pass held now → part < length piece → Appends now now' (take part piece)
      → WritesPeer limits pass' held now' ends.WriteFault
  wrote-part held now now' n t part e s short a =
      let m = one-more (AllGained held now) n t e (writing held now s) in
      let before : List (List ℕ) = map spelling (frames_of m.out.put m.sizes) in
      let k = taken-so (AllGained held now) (GainsCut held now') n t m (record {
        before = before;
        last = piece;
        pieces_are = refl;
        count = part;
        short = short;
        gained = Appends-trans held now now' (joined before) (take part piece) m.gained a;
      }) in record {
        sizes = k.sizes;
        each = k.each;
        takes = k.takes;
        out = k.out;
        queued = k.queued;
        front = k.front;
        taken = k.taken;
        gained = k.gained;
        ends = tt;
      }

-- the pass stays its peer's writer
pub writes-on : (limits : Limits) (a b : PeerPass) → b ≡ pass_having_seen a b.seat.seen →
    SawMore limits a.seat.seen b.seat.seen
    → writer_of a.seat.seen a.peer ≡ Some a.seat.number → writer_of b.seat.seen b.peer ≡ Some b.seat.number
writes-on limits a b is s w =
    ap₂ (λ (h : History) q. writer_of h q) s.grew (ap (λ (p : PeerPass). p.peer) is)
    ∙ writer-stays a.seat.seen s.more a.peer a.seat.number w ∙ ap (λ (p : PeerPass). Some p.seat.number) (sym is)

pub own-by-peer : (p : PeerPass) (q : ℕ) → q ≡ p.peer → writer_of p.seat.seen q ≡ Some p.seat.number
    → writer_of p.seat.seen p.peer ≡ Some p.seat.number
own-by-peer p q e w = ap (writer_of p.seat.seen) (sym e) ∙ w
