-- A writer's takes are a front of what the one journal puts out for its peer
use Rattle.std.proofs.Common.{◌≡◌, ℕ, ◌≤◌, List, [], ◌∷◌, ◌++◌, length, map, Option, Some, None, refl, sym, ap, ◌∙◌, subst, arith}
use Rattle.std.proofs.Math.Logic.{∥∥₁_map}
use Rattle.std.specs.Prelude.{sum, option_map}
use Rattle.std.proofs.lemmas.Option.{same_Some}
use Rattle.broker_steps.specs.declared.limits.Limits.{Limits}
use Rattle.broker_model.specs.declared.journal.Entry.{Entry}
use Rattle.broker_model.specs.Groups.{Piece}
use Rattle.broker_model.specs.Ids.{Joined, peer_at}
use Rattle.broker_model.specs.Out.{Outgoing, out_for}
use Rattle.broker_model.specs.Resolve.{past_of}
use Rattle.broker_model.specs.Settle.{history}
use Rattle.peer_link.specs.Frames.{Frame, spelling}
use Rattle.turn_lock.specs.Pairs.{NoneOf}
use Rattle.turn_lock.proofs.PairsOfNumbers.{own-seen}
use Rattle.hub_lock.specs.declared.step.OuterStep.{OuterStep}
use Rattle.hub_lock.specs.Histories.{History, entries_of, writer_of}
use Rattle.hub_lock.specs.Lawful.{IsLawful}
use Rattle.hub_lock.specs.Passes.{PeerPass}
use Rattle.peer_link.specs.declared.ends.WriteEnd.{WriteEnd}
use Rattle.peer_link.specs.declared.ends.WriteEnd.TheVariants as ends
use Rattle.peer_link.specs.Made.{journal_of}
use Rattle.peer_link.specs.Gains.{Gains}
use Rattle.peer_link.specs.WritesPeer.{frames_of, is_cut, EndsAs, WritesPeer}
use Rattle.peer_link.proofs.OthersTakeNothing.{entries-append, made-back, took-none}
use Rattle.peer_link.proofs.OutGrows.{begins-long, GoesOn, history-keeps, only-one, history-goes, frames-stay}
use Rattle.serve_jobs.specs.Tags.{Report, End}
use Rattle.serve_jobs.specs.Tags.End.{read, wrote, ordered}
use Rattle.serve_run.specs.Reported.{LawOf, HaveLaws}
use Rattle.law_threads.specs.OneJournal.{IsOfJournal, WritersAreOfOneJournal, ReportsAreOfOneJournal, OfJournal, AreOfJournal, ServersWriteOneJournal}
use Rattle.law_threads.proofs.EndedHaveAll.{ended_have_all}

-- whom what is out is for
out_of : (capacity : ℕ) (journal : List Entry) (q : ℕ) (out : Outgoing) (o : Option Joined) →
    peer_at (past_of journal) q ≡ o →
    option_map (λ (peer : Joined). out_for capacity journal peer.label) o ≡ Some out →
    (peer : Joined) × (peer_at (past_of journal) q ≡ Some peer) × (out_for capacity journal peer.label ≡ out)
out_of capacity journal q out None e is = absurd (cc)
out_of capacity journal q out (Some peer) e is = (peer, e, same_Some (out_for capacity journal peer.label) out is)

-- past what its pass has seen others take nothing from its peer, and what is put stands behind
of_both : (limits : Limits) (pass : PeerPass) (rest : History) (held held_after : Option (List ℕ)) (end : WriteEnd) →
    IsLawful limits (pass.seat.seen ++ rest) → NoneOf pass.seat.number rest →
    writer_of (pass.seat.seen ++ rest) pass.peer ≡ Some pass.seat.number → WritesPeer limits pass held held_after end →
    IsOfJournal limits (pass.seat.seen ++ rest) pass held held_after end
of_both limits pass rest held held_after end lawful free writes w =
    let q : ℕ = pass.peer in
    let seen : History = pass.seat.seen in
    let es : List Entry = entries_of rest in
    let base : List Entry = entries_of seen in
    let later : List Entry = history limits.store (es ++ base) in
    let both : journal_of limits (seen ++ rest) ≡ later = ap (history limits.store) (entries-append seen rest) in
    let p = out_of limits.store (journal_of limits seen) q w.out (peer_at (past_of (journal_of limits seen)) q) refl
    w.queued in
    let peer : Joined = p.0 in
    let there : peer_at (past_of later) q ≡ Some peer = history-keeps limits.store es base q peer p.1 in
    let none = took-none (seen ++ rest) rest q pass.seat.number (made-back (seen ++ rest) seen rest lawful.made_by)
    writes free in
    let a : Outgoing = out_for limits.store (journal_of limits seen) peer.label in
    let b : Outgoing = out_for limits.store (journal_of limits (seen ++ rest)) peer.label in
    let goes : GoesOn 0 a b =
    subst (λ (j : List Entry). GoesOn 0 a (out_for limits.store j peer.label)) (sym both)
    (history-goes limits.store es base q peer.label (only-one later q peer there) none) in
    let front : sum w.sizes ≤ length a.put.bytes =
    subst (λ (o : Outgoing). sum w.sizes ≤ length o.put.bytes) (sym p.2) w.front in
    let taken : a.taken ≡ sum w.sizes = ap (λ (o : Outgoing). o.taken) p.2 ∙ w.taken in
    let long = begins-long a.put b.put goes.put in
    let more = goes.taken in
    record {
      sizes = w.sizes;
      made = ap (map (λ (step : OuterStep). step.entry))
          (own-seen (seen ++ rest) seen pass.seat.number (rest, refl, free))
          ∙ w.takes;
      out = b;
      queued = ap (option_map (λ (x : Joined). out_for limits.store (journal_of limits (seen ++ rest)) x.label))
          (ap (λ (j : List Entry). peer_at (past_of j) q) both ∙ there);
      front = omega (arith, front, long);
      taken = omega (arith, taken, more);
      gained = subst (λ (fs : List Frame). Gains (is_cut end) held held_after (map spelling fs))
          (ap (λ (o : Outgoing). frames_of o.put w.sizes) (sym p.2)
          ∙ sym (frames-stay a.put b.put 0 w.sizes goes.put (omega (arith, front)))) w.gained;
      all = λ closed.
          (let e : EndsAs limits pass w.out w.sizes ends.Closed =
          subst (EndsAs limits pass w.out w.sizes) closed w.ends in
          e.1 ∙ ap (λ (o : Outgoing). length o.put.bytes) (sym p.2)
          ∙ ap (λ (x : Piece). length x.bytes)
          (sym (ended_have_all limits seen rest q peer e.0.0 lawful p.1 e.0.1)));
    }

pub writers_of_journal : WritersAreOfOneJournal
writers_of_journal limits h pass held held_after end lawful seen writes w =
    subst (λ (g : History). IsOfJournal limits g pass held held_after end) (sym seen.1)
    (of_both limits pass seen.0 held held_after end (subst (IsLawful limits) seen.1 lawful) seen.2
    (ap (λ (g : History). writer_of g pass.peer) (sym seen.1) ∙ writes) w)

-- ---- reports

pub reports_of_journal : ReportsAreOfOneJournal
reports_of_journal limits h r end lawful w =
    let same : w.law.limits ≡ limits = same_Some w.law.limits limits (sym w.law.constant ∙ w.seat.constant) in
    record {
      pass = w.pass;
      number = w.seat.number;
      peer = w.peer;
      before = w.law.before;
      nothing = w.law.nothing;
      quiet = w.law.quiet;
      is = writers_of_journal limits h w.pass w.law.before r.held end lawful w.seat.seen
          (ap (writer_of h) w.peer ∙ w.writes ∙ ap (λ n. Some n) (sym w.seat.number))
          (subst (λ (l : Limits). WritesPeer l w.pass w.law.before r.held end) same w.law.law);
    }

by_end : (limits : Limits) (h : History) (r : Report) (end : End) → IsLawful limits h → LawOf limits h r end →
    OfJournal limits h r end
by_end limits h r (wrote end) lawful law = reports_of_journal limits h r end lawful law
by_end limits h r (read end) lawful law = tt
by_end limits h r (ordered end) lawful law = tt

all_of_journal : (limits : Limits) (h : History) (rs : List Report) → IsLawful limits h → HaveLaws limits h rs →
    AreOfJournal limits h rs
all_of_journal limits h [] lawful laws = tt
all_of_journal limits h (r ∷ rs) lawful laws =
    (∥∥₁_map laws.0 (by_end limits h r r.end lawful), all_of_journal limits h rs lawful laws.1)

pub servers_write : ServersWriteOneJournal
servers_write asked before after status law =
    all_of_journal asked.limits law.history law.given law.lawful law.laws
