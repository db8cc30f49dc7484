-- What is out for a writer's peer where a take is played
use Rattle.std.proofs.Common.{◌≡◌, ℕ, ◌≤◌, List, [], ◌∷◌, ◌++◌, length, map, Option, Some, None, refl, sym, ap, ◌∙◌, subst, arith, append-nil}
use Rattle.std.specs.Prelude.{sum, option_map}
use Rattle.std.specs.List.{AllByRecursion}
use Rattle.broker_steps.specs.declared.limits.Limits.{Limits}
use Rattle.broker_steps.specs.Ranges.{IsWithin}
use Rattle.broker_model.specs.declared.journal.Entry.{Entry}
use Rattle.broker_model.specs.declared.journal.Entry.TheVariants as entries
use Rattle.broker_model.specs.Ids.{Joined, peer_at}
use Rattle.broker_model.specs.Resolve.{past_of}
use Rattle.broker_model.specs.Out.{Outgoing, out_for}
use Rattle.broker_model.specs.Settle.{history}
use Rattle.turn_lock.specs.Pairs.{own, NoneOf}
use Rattle.turn_lock.proofs.PairsOfNumbers.{none-append}
use Rattle.hub_lock.specs.declared.step.OuterStep.{OuterStep}
use Rattle.hub_lock.specs.Histories.{History, entries_of, writer_of}
use Rattle.hub_lock.specs.Lawful.{IsLawful}
use Rattle.hub_lock.specs.Passes.{PeerPass}
use Rattle.hub_lock.proofs.ReadersStay.{writer-stays}
use Rattle.hub_lock.proofs.LegalCalls.{writer-joined}
use Rattle.desc_frame.specs.Frames.{Frame, spelling}
use Rattle.peer_link.specs.Made.{entries_by, journal_of}
use Rattle.peer_link.specs.WritesPeer.{frames_of}
use Rattle.peer_link.specs.Written.{HasTaken}
use Rattle.peer_link.proofs.OthersTakeNothing.{entries-append, made-back, took-none}
use Rattle.peer_link.proofs.OutGrows.{begins-long, GoesOn, history-keeps, IsOnly, only-one, history-goes, frames-stay}

-- what is out for the peer where the take is played

pub record Standing (limits : Limits) (h : History) (q : ℕ) (Gained : List (List ℕ) → Type 0)
    (sizes : List ℕ) : Type 0 where
  pub peer : Joined
  pub there : peer_at (past_of (journal_of limits h)) q ≡ Some peer
  pub front : sum sizes ≤ length (out_for limits.store (journal_of limits h) peer.label).put.bytes
  pub taken : (out_for limits.store (journal_of limits h) peer.label).taken ≡ sum sizes
  pub gained : Gained (map spelling (frames_of (out_for limits.store (journal_of limits h) peer.label).put sizes))

journal-both : (limits : Limits) (seen rest : History)
    → journal_of limits (seen ++ rest) ≡ history limits.store (entries_of rest ++ entries_of seen)
journal-both limits seen rest = ap (history limits.store) (entries-append seen rest)

from-nothing : (limits : Limits) (h : History) (q n : ℕ) (Gained : List (List ℕ) → Type 0) → IsLawful limits h →
    writer_of h q ≡ Some n
    → NoneOf n h → Gained [] → Standing limits h q Gained []
from-nothing limits h q n Gained l w free gained =
    let p = writer-joined limits h q n l w in
    let none = took-none h h q n l.made_by w free in
    let all : journal_of limits h ≡ history limits.store (entries_of h ++ []) =
    ap (history limits.store) (sym (append-nil (entries_of h))) in
    let only : IsOnly (history limits.store (entries_of h ++ [])) q p.0.label =
    subst (λ (J : List Entry). IsOnly J q p.0.label) all (only-one (journal_of limits h) q p.0 p.1) in
    let goes = history-goes limits.store (entries_of h) [] q p.0.label only none in
    let goes_here : GoesOn 0 (out_for limits.store [] p.0.label)
    (out_for limits.store (journal_of limits h) p.0.label) =
    subst (λ (J : List Entry). GoesOn 0 (out_for limits.store [] p.0.label) (out_for limits.store J p.0.label))
    (sym all) goes in
    record { peer = p.0; there = p.1; front = omega arith; taken = goes_here.taken; gained = gained }

from-before : (limits : Limits) (seen rest : History) (q n : ℕ) (Gained : List (List ℕ) → Type 0) (sizes : List ℕ) →
    IsLawful limits (seen ++ rest)
    → writer_of (seen ++ rest) q ≡ Some n → NoneOf n rest → Standing limits seen q Gained sizes →
    Standing limits (seen ++ rest) q Gained sizes
from-before limits seen rest q n Gained sizes l w free s =
    let es : List Entry = entries_of rest in
    let base : List Entry = entries_of seen in
    let both = journal-both limits seen rest in
    let none = took-none (seen ++ rest) rest q n (made-back (seen ++ rest) seen rest l.made_by) w free in
    let there : peer_at (past_of (history limits.store (es ++ base))) q ≡ Some s.peer =
    history-keeps limits.store es base q s.peer s.there in
    let only = only-one (history limits.store (es ++ base)) q s.peer there in
    let goes = history-goes limits.store es base q s.peer.label only none in
    let a : Outgoing = out_for limits.store (journal_of limits seen) s.peer.label in
    let goes_here : GoesOn 0 a (out_for limits.store (journal_of limits (seen ++ rest)) s.peer.label) =
    subst (λ (J : List Entry). GoesOn 0 a (out_for limits.store J s.peer.label)) (sym both) goes in
    let b : Outgoing = out_for limits.store (journal_of limits (seen ++ rest)) s.peer.label in
    let long = begins-long a.put b.put goes_here.put in
    let front = s.front in
    let taken = s.taken in
    let more = goes_here.taken in
    record {
      peer = s.peer;
      there = ap (λ (J : List Entry). peer_at (past_of J) q) both ∙ there;
      front = omega (arith, front, long);
      taken = omega (arith, taken, more);
      gained = subst (λ (fs : List Frame). Gained (map spelling fs))
          (sym (frames-stay a.put b.put 0 sizes goes_here.put (omega (arith, front)))) s.gained;
    }

some-out : (capacity : ℕ) (journal : List Entry) (q : ℕ) (out : Outgoing) (o : Option Joined) →
    peer_at (past_of journal) q ≡ o
    → option_map (λ (peer : Joined). out_for capacity journal peer.label) o ≡ Some out
    → (peer : Joined) × (peer_at (past_of journal) q ≡ Some peer) × (out_for capacity journal peer.label ≡ out)
some-out capacity journal q out None e is = absurd (cc)
some-out capacity journal q out (Some peer) e is =
    (peer, e, (let same : Some (out_for capacity journal peer.label) ≡ Some out = is in cc))

none-of : (xs : List OuterStep) → map (λ (s : OuterStep). s.entry) xs ≡ [] → xs ≡ []
none-of [] e = refl
none-of (x ∷ xs) e = absurd (cc)

-- the takes so far, and what is out for the peer by them, at the history where the next call is played
pub record Before (limits : Limits) (pass : PeerPass) (h : History) (Gained : List (List ℕ) → Type 0) : Type 0 where
  pub sizes : List ℕ
  pub each : AllByRecursion (IsWithin 4096) sizes
  pub takes : entries_by pass.seat ≡ map (λ n. entries.Took pass.peer n) sizes
  pub stands : Standing limits h pass.peer Gained sizes

pub before-none : (limits : Limits) (pass : PeerPass) (rest : History) (Gained : List (List ℕ) → Type 0)
    → writer_of pass.seat.seen pass.peer ≡ Some pass.seat.number → NoneOf pass.seat.number rest →
    IsLawful limits (pass.seat.seen ++ rest)
    → entries_by pass.seat ≡ [] → Gained [] → Before limits pass (pass.seat.seen ++ rest) Gained
before-none limits pass rest Gained w free l none gained =
    let mine : NoneOf pass.seat.number pass.seat.seen = none-of (own pass.seat.number pass.seat.seen) none in
    let w_now = writer-stays pass.seat.seen rest pass.peer pass.seat.number w in
    record {
      sizes = [];
      each = tt;
      takes = none;
      stands = from-nothing limits (pass.seat.seen ++ rest) pass.peer pass.seat.number Gained l w_now
          (none-append pass.seat.number pass.seat.seen rest mine free) gained;
    }

pub before-more : (limits : Limits) (pass : PeerPass) (rest : History) (Gained : List (List ℕ) → Type 0)
    → writer_of pass.seat.seen pass.peer ≡ Some pass.seat.number → NoneOf pass.seat.number rest →
    IsLawful limits (pass.seat.seen ++ rest)
    → HasTaken limits pass Gained → Before limits pass (pass.seat.seen ++ rest) Gained
before-more limits pass rest Gained w free l k =
    let J : List Entry = journal_of limits pass.seat.seen in
    let p = some-out limits.store J pass.peer k.out (peer_at (past_of J) pass.peer) refl k.queued in
    let w_now = writer-stays pass.seat.seen rest pass.peer pass.seat.number w in
    record {
      sizes = k.sizes;
      each = k.each;
      takes = k.takes;
      stands = from-before limits pass.seat.seen rest pass.peer pass.seat.number Gained k.sizes l w_now free (record {
        peer = p.0;
        there = p.1;
        front = subst (λ (o : Outgoing). sum k.sizes ≤ length o.put.bytes) (sym p.2) k.front;
        taken = ap (λ (o : Outgoing). o.taken) p.2 ∙ k.taken;
        gained = subst (λ (o : Outgoing). Gained (map spelling (frames_of o.put k.sizes))) (sym p.2) k.gained;
      });
    }
