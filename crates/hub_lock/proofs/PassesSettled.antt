-- No step of a pass that came back stands past what the root had seen
use Rattle.std.proofs.Common.{◌≡◌, ◌≢◌, ℕ, [], ◌∷◌, ◌++◌, sym, ◌∙◌, subst, ⊎_elim, append_assoc}
use Rattle.turn_lock.specs.Pairs.{HasSeen, IsIn}
use Rattle.turn_lock.specs.Sights.{IsLegal}
use Rattle.turn_lock.proofs.PairsOfNumbers.{own-else, none-append}
use Rattle.hub_lock.specs.declared.step.OuterStep.{OuterStep}
use Rattle.hub_lock.specs.declared.call.Call.{Call}
use Rattle.hub_lock.specs.declared.call.Reply.{Reply}
use Rattle.hub_lock.specs.Histories.{History}
use Rattle.hub_lock.specs.Plays.{Plays}
use Rattle.hub_lock.specs.Passes.{PassSeat}
use Rattle.hub_lock.specs.Seats.{sight_of}

module _ (was : PassSeat) (call : Call) (after : History) (call' : Call) (reply : Reply)
    (k : IsLegal Plays (sight_of was) call after call' reply) (apart : IsIn was.number was.taken → ⊥) where
  other : (n : ℕ) → IsIn n was.taken → was.number ≢ n
  other n i e = apart (subst (λ m. IsIn m was.taken) (sym e) i)

  pub settled-after : (n : ℕ) → IsIn n was.taken → HasSeen after n was.seen
  settled-after n i = ⊎_elim (λ (e : after ≡ was.seen ++ k.rest). (k.rest, e, k.settled n i))
      (λ (t : (entry : OuterStep) × (after ≡ (was.seen ++ k.rest) ++ (was.number, entry) ∷ [])). (
        k.rest ++ (was.number, t.0) ∷ [],
        t.1 ∙ append_assoc was.seen k.rest ((was.number, t.0) ∷ []),
        none-append n k.rest ((was.number, t.0) ∷ []) (k.settled n i) (own-else n (was.number, t.0) [] (other n i)),
      ))
      k.grows
