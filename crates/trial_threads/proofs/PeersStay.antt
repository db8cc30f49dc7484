-- Peers stay those of their jobs, whatever their passes see and take
use Rattle.std.proofs.Common.{◌≡◌, ℕ, ◌+◌, ◌≤◌, List, [], ◌∷◌, ◌++◌, length, map, Some, refl, sym, ap, ap₂, subst, ◌∙◌}
use Rattle.std.specs.List.{AllByRecursion}
use Rattle.std.proofs.lemmas.List.{map-append}
use Rattle.broker_steps.specs.declared.limits.Limits.{Limits}
use Rattle.broker_model.specs.declared.journal.Entry.{Entry}
use Rattle.broker_model.specs.declared.journal.Entry.TheVariants as entries
use Rattle.hub_lock.specs.Histories.{History, reader_of, writer_of}
use Rattle.hub_lock.specs.Passes.{PassSeat, PeerPass}
use Rattle.hub_lock.proofs.ReadersStay.{reader-stays, writer-stays}
use Rattle.hub_calls.specs.Made.{entries_by}
use Rattle.hub_calls.proofs.PassesGrow.{same_peer}
use Rattle.trial_typing.specs.Sending.{HaveSeenMore}
use Rattle.trial_jobs.specs.declared.job.TrialJob.{TrialJob}
use Rattle.trial_jobs.specs.declared.job.TrialJob.TheVariants as jobs
use Rattle.trial_threads.specs.declared.running.Running.{Running}
use Rattle.trial_threads.specs.Jobs.{KeepsPasses, Pairwise}
use Rattle.trial_threads.specs.Back.{numbers_of, numbers_after, numbers_in}
use Rattle.trial_threads.specs.Peers.{IsPeer, PeerOf, ArePeers, SeesPeer, SeePeers, HaveJoined, AllJoined}
use Rattle.trial_threads.specs.Whole.{IsSeenBy, ArePasses}
use Rattle.trial_threads.proofs.JobsListed.{pairs_length}
use Rattle.trial_threads.proofs.JoinsOfJobs.{joins_keep}

-- the passes go on

peer_keeps : (limits : Limits) (q : ℕ) (r w r' w' : PeerPass) → HaveSeenMore limits r w r' w' →
    IsPeer w.seat.seen q r w → IsPeer w'.seat.seen q r' w'
peer_keeps limits q r w r' w' k p = record {
  reads_for = same_peer r r' k.same_reader ∙ p.reads_for;
  writes_for = same_peer w w' k.same_writer ∙ p.writes_for;
  reads = ap (λ (h : History). reader_of h q) k.writer_saw.grew
      ∙ reader-stays w.seat.seen k.writer_saw.more q r.seat.number p.reads
      ∙ ap (λ (n : ℕ). Some n) (sym (ap (λ (x : PeerPass). x.seat.number) k.same_reader));
  writes = ap (λ (h : History). writer_of h q) k.writer_saw.grew
      ∙ writer-stays w.seat.seen k.writer_saw.more q w.seat.number p.writes
      ∙ ap (λ (n : ℕ). Some n) (sym (ap (λ (x : PeerPass). x.seat.number) k.same_writer));
  takes = (
    p.takes.0 ++ k.takes.counts,
    k.takes.made
        ∙ ap (λ (m : ℕ). entries_by w.seat ++ map (λ (n : ℕ). entries.Took m n) k.takes.counts) p.writes_for
        ∙ ap (λ (l : List Entry). l ++ map (λ (n : ℕ). entries.Took q n) k.takes.counts) p.takes.1
        ∙ sym (map-append (λ (n : ℕ). entries.Took q n) p.takes.0 k.takes.counts),
  );
}

sees_keep : (limits : Limits) (q : ℕ) (b a : TrialJob) → KeepsPasses limits b a → SeesPeer q b → SeesPeer q a
sees_keep limits q (jobs.Field b) (jobs.Field a) k p = peer_keeps limits q b.reader b.writer a.reader a.writer k p
sees_keep limits q (jobs.Field b) (jobs.Method a) k p = absurd k
sees_keep limits q (jobs.Field b) (jobs.Shell a) k p = tt
sees_keep limits q (jobs.Method b) (jobs.Field a) k p = absurd k
sees_keep limits q (jobs.Method b) (jobs.Method a) k p = peer_keeps limits q b.reader b.writer a.reader a.writer k p
sees_keep limits q (jobs.Method b) (jobs.Shell a) k p = tt
sees_keep limits q (jobs.Shell b) (jobs.Field a) k p = absurd k
sees_keep limits q (jobs.Shell b) (jobs.Method a) k p = absurd k
sees_keep limits q (jobs.Shell b) (jobs.Shell a) k p = tt

pub see_keep : (limits : Limits) (q : ℕ) (R : Running → Running → Type 0) (before after : List Running) →
    ((b a : Running) → R b a → KeepsPasses limits b.job a.job) → Pairwise R before after → SeePeers q before →
    SeePeers q after
see_keep limits q R [] [] f k p = tt
see_keep limits q R [] (y ∷ after) f k p = absurd k
see_keep limits q R (x ∷ before) [] f k p = absurd k
see_keep limits q R (x ∷ before) (y ∷ after) f k p =
    (sees_keep limits q x.job y.job (f x y k.0) p.0, see_keep limits (q + 1) R before after f k.1 p.1)

-- and so do the numbers of the passes

peer_numbers : (limits : Limits) (r w r' w' : PeerPass) → HaveSeenMore limits r w r' w' →
    w'.seat.number ∷ r'.seat.number ∷ [] ≡ w.seat.number ∷ r.seat.number ∷ []
peer_numbers limits r w r' w' k =
    ap₂ (λ (m n : ℕ). m ∷ n ∷ []) (ap (λ (x : PeerPass). x.seat.number) k.same_writer)
    (ap (λ (x : PeerPass). x.seat.number) k.same_reader)

numbers_keep : (limits : Limits) (b a : TrialJob) → KeepsPasses limits b a → numbers_of a ≡ numbers_of b
numbers_keep limits (jobs.Field b) (jobs.Field a) k = peer_numbers limits b.reader b.writer a.reader a.writer k
numbers_keep limits (jobs.Field b) (jobs.Method a) k = absurd k
numbers_keep limits (jobs.Field b) (jobs.Shell a) k = absurd k
numbers_keep limits (jobs.Method b) (jobs.Field a) k = absurd k
numbers_keep limits (jobs.Method b) (jobs.Method a) k = peer_numbers limits b.reader b.writer a.reader a.writer k
numbers_keep limits (jobs.Method b) (jobs.Shell a) k = absurd k
numbers_keep limits (jobs.Shell b) (jobs.Field a) k = absurd k
numbers_keep limits (jobs.Shell b) (jobs.Method a) k = absurd k
numbers_keep limits (jobs.Shell b) (jobs.Shell a) k = ap (λ (s : PassSeat). s.number ∷ []) k.0

all_numbers : (limits : Limits) (ns : List ℕ) (R : Running → Running → Type 0) (before after : List Running) →
    ((b a : Running) → R b a → KeepsPasses limits b.job a.job) → Pairwise R before after →
    numbers_after ns after ≡ numbers_after ns before
all_numbers limits ns R [] [] f k = refl
all_numbers limits ns R [] (y ∷ after) f k = absurd k
all_numbers limits ns R (x ∷ before) [] f k = absurd k
all_numbers limits ns R (x ∷ before) (y ∷ after) f k =
    ap (λ (ms : List ℕ). numbers_after (ms ++ ns) after) (numbers_keep limits x.job y.job (f x y k.0))
    ∙ all_numbers limits (numbers_of x.job ++ ns) R before after f k.1

pub joined_keep : (limits : Limits) (R : Running → Running → Type 0) (root : PassSeat) (before after : List Running) →
    ((b a : Running) → R b a → KeepsPasses limits b.job a.job) → Pairwise R before after → AllJoined root before →
    AllJoined root after
joined_keep limits R root before after f k j = record {
  count = j.count;
  joined = record {
    number = j.joined.number;
    made = j.joined.made;
    joins = j.joined.joins ∙ sym (joins_keep limits R before after f k);
    out = j.joined.out ∙ ap length (sym (all_numbers limits [] R before after f k));
    none = j.joined.none;
    peers = see_keep limits 1 R before after f k j.joined.peers;
  };
  some = subst (λ (n : ℕ). 1 ≤ n) (sym (pairs_length R before after k)) j.some;
}

-- and so it is in a history of which they have seen fronts

peer_seen : (h : History) (q : ℕ) (r w : PeerPass) → IsSeenBy h w.seat → IsPeer w.seat.seen q r w → IsPeer h q r w
peer_seen h q r w s p = record {
  reads_for = p.reads_for;
  writes_for = p.writes_for;
  reads = ap (λ (x : History). reader_of x q) s.1 ∙ reader-stays w.seat.seen s.0 q r.seat.number p.reads;
  writes = ap (λ (x : History). writer_of x q) s.1 ∙ writer-stays w.seat.seen s.0 q w.seat.number p.writes;
  takes = p.takes;
}

peer_of : (h : History) (q : ℕ) (job : TrialJob) → ArePasses h job → SeesPeer q job → PeerOf h q job
peer_of h q (jobs.Field job) s p = peer_seen h q job.reader job.writer s.1 p
peer_of h q (jobs.Method job) s p = peer_seen h q job.reader job.writer s.1 p
peer_of h q (jobs.Shell job) s p = tt

pub peers_at : (h : History) (q : ℕ) (rs : List Running) → AllByRecursion (λ (r : Running). ArePasses h r.job) rs →
    SeePeers q rs → ArePeers h q rs
peers_at h q [] s p = tt
peers_at h q (r ∷ rs) s p = (peer_of h q r.job s.0 p.0, peers_at h (q + 1) rs s.1 p.1)
