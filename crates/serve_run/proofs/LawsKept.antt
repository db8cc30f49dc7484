-- Reports keep their laws while the history grows by steps of others
use Rattle.std.proofs.Common.{◌≡◌, ◌++◌, ◌∷◌, [], inl, inr, ℕ, List, Some, refl, sym, ap, ◌∙◌, subst, append-nil}
use Rattle.std.proofs.Math.Logic.{∥∥₁_map}
use Rattle.std.proofs.lemmas.List.{append_assoc}
use Rattle.broker_steps.specs.declared.limits.Limits.{Limits}
use Rattle.turn_lock.specs.Pairs.{own, HasSeen, IsIn}
use Rattle.turn_lock.proofs.PairsOfNumbers.{own-append}
use Rattle.hub_lock.specs.Histories.{History, reader_of, writer_of}
use Rattle.hub_lock.specs.Passes.{PassSeat}
use Rattle.hub_lock.proofs.ReadersStay.{reader-stays, writer-stays}
use Rattle.serve_jobs.specs.Tags.{Report, End}
use Rattle.serve_jobs.specs.Tags.End.{read, wrote, ordered}
use Rattle.serve_run.specs.declared.stop.Trouble.{Trouble}
use Rattle.serve_run.specs.Statuses.{worse, worst_from, brought_by}
use Rattle.serve_run.specs.Reported.{IsSeatOf, LawOf, HasLaw, HaveLaws, AreTaken}

-- all that was seen was seen
pub seen_again : (h : History) (n : ℕ) → HasSeen h n h
seen_again h n = ([], sym (append-nil h), refl)

-- what was seen of what was seen
pub seen_through : (h before seen : History) (n : ℕ) → HasSeen h n before → HasSeen before n seen → HasSeen h n seen
seen_through h before seen n one two = (
  two.0 ++ one.0,
  one.1 ∙ (ap (λ b. b ++ one.0) two.1 ∙ append_assoc seen two.0 one.0),
  own-append n two.0 one.0 ∙ (ap (λ o. o ++ own n one.0) two.2 ∙ one.2),
)

seat_kept : (limits : Limits) (before h : History) (r : Report) (seat : PassSeat) → HasSeen h r.number before
    → IsSeatOf limits before r seat → IsSeatOf limits h r seat
seat_kept limits before h r seat grows is = record {
  number = is.number;
  constant = is.constant;
  seen = seen_through h before seat.seen seat.number (subst (λ n. HasSeen h n before) (sym is.number) grows) is.seen;
}

-- who reads and writes for a peer stays

pub reader-seen : (h seen : History) (n q m : ℕ) → HasSeen h n seen → reader_of seen q ≡ Some m → reader_of h q ≡ Some m
reader-seen h seen n q m grows is = ap (λ g. reader_of g q) grows.1 ∙ reader-stays seen grows.0 q m is

pub writer-seen : (h seen : History) (n q m : ℕ) → HasSeen h n seen → writer_of seen q ≡ Some m → writer_of h q ≡ Some m
writer-seen h seen n q m grows is = ap (λ g. writer_of g q) grows.1 ∙ writer-stays seen grows.0 q m is

law_kept : (limits : Limits) (before h : History) (r : Report) (end : End) → HasSeen h r.number before
    → LawOf limits before r end → LawOf limits h r end
law_kept limits before h r (read end) grows law = record {
  pass = law.pass;
  seat = seat_kept limits before h r law.pass.seat grows law.seat;
  peer = law.peer;
  reads = reader-seen h before r.number r.peer r.number grows law.reads;
  law = law.law;
  fault = law.fault;
  no_fault = law.no_fault;
}
law_kept limits before h r (wrote end) grows law = record {
  pass = law.pass;
  seat = seat_kept limits before h r law.pass.seat grows law.seat;
  peer = law.peer;
  writes = writer-seen h before r.number r.peer r.number grows law.writes;
  law = law.law;
  fault = law.fault;
  no_fault = law.no_fault;
  hung_up = law.hung_up;
}
law_kept limits before h r (ordered end) grows law = record {
  shell = law.shell;
  seat = seat_kept limits before h r law.shell grows law.seat;
  nobody = law.nobody;
  law = law.law;
  read_fault = law.read_fault;
  write_fault = law.write_fault;
  no_read_fault = law.no_read_fault;
  no_write_fault = law.no_write_fault;
  hung_up = law.hung_up;
}

pub laws_kept : (limits : Limits) (before h : History) (taken : List ℕ) (reports : List Report)
    → ((n : ℕ) → IsIn n taken → HasSeen h n before) → AreTaken taken reports → HaveLaws limits before reports
    → HaveLaws limits h reports
laws_kept limits before h taken [] grows in_taken laws = tt
laws_kept limits before h taken (r ∷ reports) grows in_taken laws = (
  ∥∥₁_map laws.0 (law_kept limits before h r r.end (grows r.number in_taken.0)),
  laws_kept limits before h taken reports grows in_taken.1 laws.1,
)

-- one report more
pub laws_more : (limits : Limits) (h : History) (reports : List Report) (r : Report) → HaveLaws limits h reports
    → HasLaw limits h r → HaveLaws limits h (reports ++ r ∷ [])
laws_more limits h [] r laws law = (law, tt)
laws_more limits h (first ∷ reports) r laws law = (laws.0, laws_more limits h reports r laws.1 law)

pub taken_more : (taken : List ℕ) (reports : List Report) (r : Report) → AreTaken taken reports
    → AreTaken (r.number ∷ taken) (reports ++ r ∷ [])
taken_more taken [] r in_taken = (inl refl, tt)
taken_more taken (first ∷ reports) r in_taken = (inr in_taken.0, taken_more taken reports r in_taken.1)

pub worst_more : (so_far : Trouble) (reports : List Report) (r : Report)
    → worst_from so_far (reports ++ r ∷ []) ≡ worse (worst_from so_far reports) (brought_by r.end)
worst_more so_far [] r = refl
worst_more so_far (first ∷ reports) r = worst_more (worse so_far (brought_by first.end)) reports r
