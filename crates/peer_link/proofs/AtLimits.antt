-- A journal that is full for a step is at its limit, and stays so
use Rattle.std.proofs.Common.{◌≡◌, ℕ, ◌+◌, ◌≤◌, Bool, true, false, List, [], ◌∷◌, ◌++◌, Option, Some, None, refl, sym, ap, subst, inl, inr, arith}
use Rattle.std.specs.Prelude.{◌&&◌, ◌||◌, not, nat_le, nat_lt, if◌then◌else◌}
use Rattle.std.proofs.lemmas.Bool.{leb-true, ltb-true}
use Rattle.broker_steps.specs.declared.limits.Limits.{Limits}
use Rattle.broker_steps.specs.declared.step.PeerStep.{PeerStep}
use Rattle.broker_steps.specs.declared.step.PeerStep.TheVariants as peers
use Rattle.broker_steps.specs.Ranges.{IsPeerStep}
use Rattle.broker_model.specs.declared.journal.Entry.{Entry}
use Rattle.broker_model.specs.declared.journal.Entry.TheVariants as entries
use Rattle.broker_model.specs.declared.journal.Kept.{Kept}
use Rattle.broker_model.specs.Limits.{is_end, number_counted, weight_of, weight}
use Rattle.broker_model.specs.Settle.{history}
use Rattle.broker_core.specs.Broker.{kept_in, full_in, peer_entry}
use Rattle.broker_core.proofs.AliveAfterEntry.{counted_cons, weight_cons, same_settled}
use Rattle.hub_lock.specs.Histories.{History, entries_of}
use Rattle.hub_lock.specs.Passes.{PassSeat, PeerPass}
use Rattle.peer_link.specs.declared.ends.ReadEnd.TheVariants as read_ends
use Rattle.peer_link.specs.declared.ends.WriteEnd.TheVariants as write_ends
use Rattle.peer_link.specs.declared.ends.ShellEnd.TheVariants as shell_ends
use Rattle.peer_link.specs.Made.{journal_of, IsAtLimit}
use Rattle.peer_link.specs.ReadsPeer.{ReadsPeer}
use Rattle.peer_link.specs.WritesPeer.{WritesPeer}
use Rattle.peer_link.specs.ReadsShell.{ReadsShell}
use Rattle.peer_link.proofs.OthersTakeNothing.{entries-append}

pub at-limit : (limits : Limits) (J : List Entry) (e : Entry) (kept : Kept) → full_in limits J e ≡ Some kept →
    weight_of e ≤ 4104 → IsAtLimit limits J
at-limit limits J e kept full few =
    by (not (is_end e)) (nat_le limits.entries (number_counted J)) (nat_lt limits.weight (weight J + weight_of e))
    refl refl full
  where
    by : (a b c : Bool) → nat_le limits.entries (number_counted J) ≡ b →
        nat_lt limits.weight (weight J + weight_of e) ≡ c
        → (if a && (b || c) then Some (kept_in J) else None) ≡ Some kept → IsAtLimit limits J
    by true true c l w f = inl (leb-true limits.entries (number_counted J) l)
    by true false true l w f =
        inr (let more = ltb-true limits.weight (weight J + weight_of e) w in omega (arith, more, few))
    by true false false l w f = absurd (cc)
    by false b c l w f = absurd (cc)

-- a step of a peer weighs at most 4,104
pub step-light : (q : ℕ) (step : PeerStep) → IsPeerStep step → weight_of (peer_entry q step) ≤ 4104
step-light q (peers.Message id opcode body) i = let few = i.0 in omega (arith, few)
step-light q (peers.BadSize head) i = omega arith
step-light q (peers.Tokens tokens) i = let few = i.1 in omega (arith, few)
step-light q peers.Gone i = omega arith

-- it stays at its limit

record Grows (before after : List Entry) : Type 0 where
  counted : number_counted before ≤ number_counted after
  weighs : weight before ≤ weight after

history-grows : (capacity : ℕ) (es base : List Entry) →
    Grows (history capacity base) (history capacity (es ++ base))
history-grows capacity [] base = record { counted = omega arith; weighs = omega arith }
history-grows capacity (e ∷ es) base =
    let mid : List Entry = history capacity (es ++ base) in
    let same = same_settled capacity (e ∷ mid) in
    let counted = same.counted in
    let weighs = same.weighs in
    let c = counted_cons e mid in
    let w = weight_cons e mid in
    let before = history-grows capacity es base in
    let fewer = before.counted in
    let lighter = before.weighs in
    record {
      counted = omega (arith, counted, c, fewer);
      weighs = omega (arith, weighs, w, lighter);
    }

limit-grows : (limits : Limits) (J J' : List Entry) → Grows J J' → IsAtLimit limits J → IsAtLimit limits J'
limit-grows limits J J' g (inl k) = inl (let more = g.counted in omega (arith, k, more))
limit-grows limits J J' g (inr k) = inr (let more = g.weighs in omega (arith, k, more))

pub at-limit-later : (limits : Limits) (seen rest : History) → IsAtLimit limits (journal_of limits seen) →
    IsAtLimit limits (journal_of limits (seen ++ rest))
at-limit-later limits seen rest k =
    subst (IsAtLimit limits) (sym (ap (history limits.store) (entries-append seen rest)))
    (limit-grows limits (journal_of limits seen) (history limits.store (entries_of rest ++ entries_of seen))
    (history-grows limits.store (entries_of rest) (entries_of seen)) k)

-- where a loop answers that the journal was full, what its pass has seen is at its limit

pub reader-at-limit : (limits : Limits) (p : PeerPass) (read : List ℕ) (left : Option (List ℕ)) (faults : ℕ)
    (kept : Kept)
    → ReadsPeer limits p read left faults (read_ends.JournalFull kept) →
    IsAtLimit limits (journal_of limits p.seat.seen)
reader-at-limit limits p read left faults kept law = law.ends.2.at_limit

pub writer-at-limit : (limits : Limits) (p : PeerPass) (held held' : Option (List ℕ)) (kept : Kept)
    → WritesPeer limits p held held' (write_ends.JournalFull kept) → IsAtLimit limits (journal_of limits p.seat.seen)
writer-at-limit limits p held held' kept law = law.ends.1

pub shell-at-limit : (limits : Limits) (s : PassSeat) (read : List ℕ) (left held held' : Option (List ℕ)) (kept : Kept)
    → ReadsShell limits s read left held held' (shell_ends.JournalFull kept) →
    IsAtLimit limits (journal_of limits s.seen)
shell-at-limit limits s read left held held' kept law =
    let full = law.ends.2 in
    at-limit limits (journal_of limits s.seen) (entries.Shell full.1) kept full.4 (omega arith)
