-- A turn plays its call at a history that begins with what the seat had seen
use Rattle.std.proofs.Common.{◌≡◌, ℕ, Bool, true, false, List, ◌++◌, sym, subst, inl, inr, Option}
use Rattle.atomic_table.specs.Table.{Me}
use Rattle.atomic_table.specs.Seated.{TableId}
use Rattle.turn_lock.specs.declared.view.View.{View}
use Rattle.turn_lock.specs.Pairs.{IsGrown}
use Rattle.turn_lock.specs.Sights.{IsLegal}
use Rattle.turn_lock.specs.Rule.{sight_of}
use Rattle.turn_lock.specs.Steps.{GrownIf, Won, Played}
use Rattle.turn_lock.proofs.PairsOfNumbers.{none-past}

grown-either : {E : Type 0} (b : Bool) (n : ℕ) (before after : List (ℕ × E)) → GrownIf b n before after
    → IsGrown n before after
grown-either true n before after g = inr g
grown-either false n before after g = inl g

module _ {S E C Call Reply : Type 0} (constant : S → C) (history : S → List (ℕ × E)) (number : Call → ℕ)
    (plays : C → List (ℕ × E) → Call → List (ℕ × E) → Call → Reply → Type 0) where
  pub legal : (m n : Me (Option S) (View E C)) (turn : TableId) (y : S) (call call' : Call) (reply : Reply)
      (grew : Bool)
      (after : List (ℕ × E)) (w : Won constant history m n)
      → Played constant history number plays w.story call y call' reply grew
      → number call ≡ m.0.number → after ≡ history y → IsLegal plays (sight_of turn m.0) call after call' reply
  legal m n turn y call call' reply grew after w p mine end =
      let s = w.seen in
      let grown : IsGrown m.0.number (history w.story) (history y) =
      subst (λ k. IsGrown k (history w.story) (history y)) mine
      (grown-either grew (number call) (history w.story) (history y) p.grown) in record {
        constant = constant w.story;
        told = w.told;
        rest = s.0;
        apart = s.2;
        settled = λ k i. none-past (history w.story) m.0.seen s.0 k s.1 (w.settled k i);
        plays = subst (λ h. plays (constant w.story) (m.0.seen ++ s.0) call h call' reply) (sym end)
            (subst (λ h. plays (constant w.story) h call (history y) call' reply) s.1 p.rule);
        grows = subst (IsGrown m.0.number (m.0.seen ++ s.0)) (sym end)
            (subst (λ h. IsGrown m.0.number h (history y)) s.1 grown);
      }
