-- Each step of a trial's history is the root's or of one of the jobs' passes, and the root joined the jobs' peers alone
use Rattle.std.proofs.Common.{◌≡◌, ℕ, ◌≤◌, ◌+◌, ◌-◌, List, [], ◌∷◌, ◌++◌, length, map, Ok, refl, sym, ap, subst, ◌∙◌, arith}
use Rattle.broker_steps.specs.declared.limits.Limits.{Limits}
use Rattle.broker_model.specs.declared.journal.Entry.{Entry}
use Rattle.broker_model.specs.Settle.{outer}
use Rattle.trial_client_logs.specs.declared.entry.FieldEntry.{FieldEntry}
use Rattle.trial_client_logs.specs.declared.method_log.MethodEntry.{MethodEntry}
use Rattle.turn_lock.specs.Pairs.{HasSeen, NoneOf, IsDistinct, total}
use Rattle.hub_lock.specs.Seats.{having_seen, IsTallied}
use Rattle.turn_lock.proofs.PairsOfNumbers.{own-seen}
use Rattle.hub_lock.specs.declared.session.Session.{Session}
use Rattle.hub_lock.specs.declared.step.OuterStep.{OuterStep}
use Rattle.hub_lock.specs.Histories.{History, broker_of}
use Rattle.hub_lock.specs.Passes.{PassSeat, total_steps}
use Rattle.hub_lock.specs.Calls.{LegalCopy}
use Rattle.hub_lock.proofs.JournalOfSteps.{length-entries, outer-journal}
use Rattle.hub_calls.specs.Counted.{entries_of_pass, AreOfPasses}
use Rattle.hub_calls.proofs.PassesCounted.{steps_are_of_passes, seen_stays}
use Rattle.trial_threads.specs.declared.running.Running.{Running}
use Rattle.trial_threads.specs.Back.{numbers_after, numbers_in, TookAllBack}
use Rattle.trial_threads.specs.Peers.{joins_of, HaveJoined}

-- the session has as many outer steps as the history
pub as_long : (limits : Limits) (root after : PassSeat) (s : Session) → LegalCopy limits root after.seen (Ok s) →
    length (outer s.journal.entries) ≡ length after.seen
as_long limits root after s k =
    ap (λ (j : List Entry). length (outer j))
    (k.answer.copied.journal ∙ ap (λ (x : History). (broker_of limits x).journal) (sym k.answer.same))
    ∙ ap length (outer-journal limits after.seen k.lawful_after) ∙ length-entries after.seen

-- the root made nothing since
pub seen_since : (limits : Limits) (root root' : PassSeat) (rs : List Running) (fields : List (List FieldEntry))
    (method : List MethodEntry) (after : History) (s : Session) → root.number ≡ 0 →
    TookAllBack root root' rs fields method → LegalCopy limits root' after (Ok s) → HasSeen after 0 root.seen
seen_since limits root root' rs fields method after s number took k =
    seen_stays after root'.seen root.seen 0
    (k.rest, k.answer.same, subst (λ (m : ℕ). NoneOf m k.rest) (took.sees.number ∙ number) k.apart)
    (subst (λ (m : ℕ). HasSeen root'.seen m root.seen) number took.sees.mine)

module _ (root root' : PassSeat) (n : ℕ) (rs : List Running) (fields : List (List FieldEntry))
    (method : List MethodEntry) (h : HaveJoined root n rs) (took : TookAllBack root root' rs fields method)
    (some : 1 ≤ length rs) where
  numbers : root'.taken ≡ numbers_in rs
  numbers = took.numbers ∙ ap (λ (ns : List ℕ). numbers_after ns rs) h.none

  none_out : root'.out ≡ 0
  none_out = let out = took.out in let old = h.out in omega arith

  -- no pass has the number of another, nor the root's
  pub once_all : IsDistinct (0 ∷ numbers_in rs)
  once_all =
      let t = took.tallied some in subst (λ (ns : List ℕ). IsDistinct (0 ∷ ns)) numbers (t.apart, t.once)

  module _ (limits : Limits) (root'' : PassSeat) (s : Session) (is : root'' ≡ having_seen root' root''.seen)
      (k : LegalCopy limits root' root''.seen (Ok s))
      (steps : root'.out ≡ 0 → length (outer s.journal.entries) ≡ total_steps root'') where
    taken : root''.taken ≡ numbers_in rs
    taken = ap (λ (x : PassSeat). x.taken) is ∙ numbers

    pub passes_all : AreOfPasses (0 ∷ numbers_in rs) root''.seen
    passes_all =
        steps_are_of_passes (0 ∷ numbers_in rs) root''.seen once_all
        (ap (λ (ns : List ℕ). total (0 ∷ ns) root''.seen) (sym taken) ∙ sym (steps none_out) ∙ as_long limits root' root'' s k)

-- what the root made are the joins of the jobs' peers
pub root_joins : (limits : Limits) (root root' : PassSeat) (n : ℕ) (rs : List Running) (fields : List (List FieldEntry))
    (method : List MethodEntry) (after : History) (s : Session) → HaveJoined root n rs →
    TookAllBack root root' rs fields method → LegalCopy limits root' after (Ok s) →
    entries_of_pass 0 after ≡ joins_of rs
root_joins limits root root' n rs fields method after s h took k =
    ap (map (λ (x : OuterStep). x.entry))
    (own-seen after root.seen 0 (seen_since limits root root' rs fields method after s h.number took k)) ∙ h.joins
