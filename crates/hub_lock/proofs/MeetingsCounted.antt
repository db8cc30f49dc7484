-- What the root counts once it took a pass back
use Rattle.std.proofs.Common.{◌≡◌, ℕ, ◌+◌, ◌≤◌, ◌∷◌, length, Bool, true, false, max, Some, refl, ap, sym, subst, ◌∙◌, ◌⊎◌, inl, inr, ⊎_elim, arith}
use Rattle.std.specs.Prelude.{nat_lt, if◌then◌else◌}
use Rattle.broker_steps.specs.declared.limits.Limits.{Limits}
use Rattle.turn_lock.specs.Pairs.{own, HasSeen, longer, total}
use Rattle.turn_lock.proofs.PairsOfNumbers.{own-seen}
use Rattle.turn_lock.proofs.OwnPairsAfterCalls.{total-meeting}
use Rattle.hub_lock.specs.Histories.{History, broker_of, bytes_taken}
use Rattle.hub_lock.specs.Lawful.{IsLawful}
use Rattle.hub_lock.specs.Passes.{PassSeat, journal_seen, steps_of, bytes_of, total_steps, total_bytes, HasSeenLawful}
use Rattle.hub_lock.specs.Seats.{IsMeeting, IsTallied, met_with, sight_of}
use Rattle.hub_lock.proofs.StepsCounted.{taken-same}
use Rattle.hub_lock.proofs.JournalOfSteps.{journal-longer, few-lawful, taken-few}
use Rattle.hub_lock.proofs.TurnsCounted.{lawful-seen, entries-seen}

either : (xs ys : History) → (longer xs ys ≡ xs) ⊎ (longer xs ys ≡ ys)
either xs ys = by (nat_lt (length xs) (length ys)) where
  by : (b : Bool) → ((if b then ys else xs) ≡ xs) ⊎ ((if b then ys else xs) ≡ ys)
  by true = inr refl
  by false = inl refl

module _ (limits : Limits) (root pass : PassSeat) (zero : root.number ≡ 0) (of : root.constant ≡ Some limits)
    (of' : pass.constant ≡ Some limits)
    (k : IsMeeting root pass (met_with root pass).seen) (mine : IsLawful limits root.seen)
    (theirs : IsLawful limits pass.seen) where
  pub met-steps : total_steps (met_with root pass) ≡ total_steps root + steps_of pass
  met-steps = subst
      (λ n. total (n ∷ pass.number ∷ root.taken) (longer root.seen pass.seen)
      ≡ total (n ∷ root.taken) root.seen + steps_of pass) zero
      (total-meeting (sight_of root) (sight_of pass) (longer root.seen pass.seen) k)

  pub met-bytes : total_bytes (met_with root pass) ≡ total_bytes root + bytes_of pass
  met-bytes =
      let h : History = longer root.seen pass.seen in
      let a : bytes_taken (own 0 h) ≡ bytes_taken (own 0 root.seen) =
      subst (λ n. bytes_taken (own n h) ≡ bytes_taken (own n root.seen)) zero
      (ap bytes_taken (own-seen h root.seen root.number k.mine)) in
      let b = ap bytes_taken (own-seen h pass.seen pass.number k.theirs) in
      let t = taken-same root.taken root.seen h (λ n i. own-seen h root.seen n (k.taken n i)) in omega arith

  met-lawful : IsLawful limits (longer root.seen pass.seen)
  met-lawful = ⊎_elim (λ (e : longer root.seen pass.seen ≡ root.seen). subst (IsLawful limits) (sym e) mine)
      (λ (e : longer root.seen pass.seen ≡ pass.seen). subst (IsLawful limits) (sym e) theirs)
      (either root.seen pass.seen)

  pub seen-lawful : HasSeenLawful (met_with root pass)
  seen-lawful = lawful-seen limits (met_with root pass) of met-lawful

  pub met-few : IsTallied (met_with root pass) → total_bytes (met_with root pass) ≤ 16384000000
  met-few t =
      let few = taken-few (0 ∷ (met_with root pass).taken) (met_with root pass).seen (t.apart, t.once) in
      let all = few-lawful limits (met_with root pass).seen met-lawful in omega arith

  abbrev count : History → ℕ
  count h = length (broker_of limits h).journal

  count-seen : (h seen : History) (n : ℕ) → HasSeen h n seen → count seen ≤ count h
  count-seen h seen n s = subst (λ x. count seen ≤ count x) (sym s.1) (journal-longer limits seen s.0)

  greater : (a b m : ℕ) → a ≤ m → b ≤ m → (m ≡ a) ⊎ (m ≡ b) → max a b ≡ m
  greater a b m x y e = ⊎_elim (λ (f : m ≡ a). grind (arith, f)) (λ (f : m ≡ b). grind (arith, f)) e

  pub met-entries : max (length (journal_seen root)) (length (journal_seen pass))
      ≡ length (journal_seen (met_with root pass))
  met-entries =
      let h : History = longer root.seen pass.seen in
      let a = entries-seen limits root of in
      let b = entries-seen limits pass of' in
      let m = entries-seen limits (met_with root pass) of in
      let both : (count h ≡ count root.seen) ⊎ (count h ≡ count pass.seen) = ⊎_elim
      (λ (e : h ≡ root.seen). inl (ap count e)) (λ (e : h ≡ pass.seen). inr (ap count e))
      (either root.seen pass.seen) in
      let g = greater (count root.seen) (count pass.seen) (count h) (count-seen h root.seen root.number k.mine)
      (count-seen h pass.seen pass.number k.theirs) both in
      ap (λ x. max x (length (journal_seen pass))) (sym a) ∙ ap (max (count root.seen)) (sym b) ∙ g ∙ m
