-- Where no entry was made, nothing is watched
use Rattle.std.proofs.Common.{◌≡◌, ℕ, ◌<◌, ◌≤◌, List, [], ◌∷◌, ◌++◌, length, Bool, false, refl, ap, sym, subst, arith}
use Rattle.std.specs.Prelude.{nat_le, if◌then◌else◌}
use Rattle.std.proofs.lemmas.Bool.Decides.{nat_tests}
use Rattle.broker_core.specs.Reached.{Reached}
use Rattle.broker_model.specs.declared.journal.Entry.{Entry}
use Rattle.broker_core.specs.Watched.{Watched, watched, watched_since}
use Rattle.broker_core.specs.Broker.{Broker, IsWatched}

past : (k n : ℕ) → n < k → nat_le k n ≡ false
past k n l = grind (arith, nat_tests)

none-since : (capacity k : ℕ) (journal : List Entry) → length journal ≤ k → watched_since capacity k journal ≡ []
none-since capacity k [] l = refl
none-since capacity k (e ∷ older) l =
    ap (λ (t : Bool). if t then watched_since capacity k older ++ watched capacity e older else [])
    (past k (length older) (omega arith))

-- so it is where the journal is the same
pub nothing-more : {W : Type 0} (may_follow : W → Watched → W → Type 0) (before after : Broker) (w : W) →
    after.journal ≡ before.journal → IsWatched may_follow before w after w
nothing-more may_follow before after w same =
    subst (λ (j : List Entry). Reached may_follow w (watched_since before.limits.store (length before.journal) j) w)
    (sym same)
    (subst (λ ws. Reached may_follow w ws w)
    (sym (none-since before.limits.store (length before.journal) before.journal (omega arith))) refl)

pub nothing-watched : {W : Type 0} (may_follow : W → Watched → W → Type 0) (before after : Broker) (w : W) →
    after ≡ before → IsWatched may_follow before w after w
nothing-watched may_follow before after w same =
    subst (λ (x : Broker). IsWatched may_follow before w x w) (sym same)
    (subst (λ ws. Reached may_follow w ws w)
    (sym (none-since before.limits.store (length before.journal) before.journal (omega arith))) refl)
