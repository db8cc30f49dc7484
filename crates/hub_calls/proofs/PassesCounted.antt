-- The steps of a history are those of the root and of the passes that came back
use Rattle.std.proofs.Common.{◌≡◌, inl, inr, ⊎_elim, ◌≤◌, ◌++◌, ◌∷◌, [], ℕ, eqb, false, List, length, map, refl, sym, ap, ◌∙◌, subst, arith, ne_eqb, append_assoc}
use Rattle.std.proofs.lemmas.Bool.{false≢true}
use mathlib.Core.Logic.{dite}
use native.Mathlib.Decide.{ℕ_discrete}
use Rattle.broker_model.specs.declared.journal.Entry.{Entry}
use Rattle.turn_lock.specs.Pairs.{own, HasSeen, IsIn, IsDistinct, total}
use Rattle.turn_lock.specs.Rule.{bit}
use Rattle.turn_lock.proofs.PairsOfNumbers.{own-here, own-else, own-seen, own-append}
use Rattle.turn_lock.proofs.TotalsOfPairs.{hits, hits-once, total-cons, total-few}
use Rattle.hub_lock.specs.declared.step.OuterStep.{OuterStep}
use Rattle.hub_lock.specs.Histories.{History}
use Rattle.hub_lock.specs.Passes.{PassSeat}
use Rattle.hub_calls.specs.Made.{entries_by}
use Rattle.hub_calls.specs.Counted.{entries_of_pass, AreOfPasses, is_join, HaveNoJoin, JoinsAreOfRoot}

hit_in : (ns : List ℕ) (n : ℕ) → 1 ≤ hits ns n → IsIn n ns
hit_in [] n some = absurd (omega arith)
hit_in (m ∷ ms) n some = dite (ℕ_discrete n m) (λ e. inl (sym e))
    (λ other. let none : bit (eqb n m) ≡ 0 = ap bit (ne_eqb n m other) in inr (hit_in ms n (omega arith)))

pub steps_are_of_passes : (ns : List ℕ) (h : History) → IsDistinct ns → total ns h ≡ length h → AreOfPasses ns h
steps_are_of_passes ns [] once all = tt
steps_are_of_passes ns (x ∷ h) once all =
    let few = hits-once ns x.0 once in
    let rest = total-few ns h once in
    let both = total-cons ns x h in
    (hit_in ns x.0 (omega arith), steps_are_of_passes ns h once (omega arith))

abbrev entry_in : OuterStep → Entry
entry_in s = s.entry

pub steps_stay : (seat : PassSeat) (h : History) → HasSeen h seat.number seat.seen →
    entries_of_pass seat.number h ≡ entries_by seat
steps_stay seat h seen = ap (map entry_in) (own-seen h seat.seen seat.number seen)

pub seen_stays : (h before seen : History) (n : ℕ) → HasSeen h n before → HasSeen before n seen → HasSeen h n seen
seen_stays h before seen n one two = (
  two.0 ++ one.0,
  one.1 ∙ (ap (λ b. b ++ one.0) two.1 ∙ append_assoc seen two.0 one.0),
  own-append n two.0 one.0 ∙ (ap (λ o. o ++ own n one.0) two.2 ∙ one.2),
)

-- the steps behind the first

none_behind : (x : ℕ × OuterStep) (h : History) (n : ℕ) → HaveNoJoin (entries_of_pass n (x ∷ h)) →
    HaveNoJoin (entries_of_pass n h)
none_behind x h n none = dite (ℕ_discrete x.0 n)
    (λ e. (subst (λ (steps : List OuterStep). HaveNoJoin (map entry_in steps)) (own-here n x h e) none).1)
    (λ e. subst (λ (steps : List OuterStep). HaveNoJoin (map entry_in steps)) (own-else n x h e) none)

none_here : (x : ℕ × OuterStep) (h : History) → HaveNoJoin (entries_of_pass x.0 (x ∷ h)) →
    is_join x.1.entry ≡ false
none_here x h none =
    (subst (λ (steps : List OuterStep). HaveNoJoin (map entry_in steps)) (own-here x.0 x h refl) none).0

pub only_root_joins : (ns : List ℕ) (h : History) → AreOfPasses (0 ∷ ns) h
    → ((n : ℕ) → IsIn n ns → HaveNoJoin (entries_of_pass n h)) → JoinsAreOfRoot h
only_root_joins ns [] all none = tt
only_root_joins ns (x ∷ h) all none = (
  ⊎_elim (λ (e : 0 ≡ x.0). λ yes. sym e)
      (λ (i : IsIn x.0 ns). λ yes. absurd (false≢true (sym (none_here x h (none x.0 i)) ∙ yes))) all.0,
  only_root_joins ns h all.1 (λ n i. none_behind x h n (none n i)),
)
