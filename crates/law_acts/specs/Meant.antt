-- For which field a batch was made.
use Rattle.std.specs.Prelude.{◌≡◌, ℕ, ◌≤◌, List, ◌++◌, length, true, Some}
use Rattle.relay_model.specs.declared.act.Act.{Act}
use Rattle.relay_model.specs.declared.act.Act.TheVariants.{MCommit}
use Rattle.relay_model.specs.Hold.{holder}
use Rattle.relay_model.specs.Activation.{begun, named, fresh}
use Rattle.relay_model.specs.Idle.{history}

-- while an activation stands, the field that holds the seat held it after each act since it began
abbrev pub ActivationsKeepTheirField : Type 0
ActivationsKeepTheirField =
    (newer older : List Act) (b f : ℕ) → begun (history (newer ++ older)) ≡ Some b →
    b ≤ length older → holder (history (newer ++ older)) ≡ Some f →
    holder (history older) ≡ Some f

-- so a batch that is relayed goes to the field that held the seat when the done was told that the
-- batch's serial names: after that act, the n-th
abbrev pub BatchesAreMeant : Type 0
BatchesAreMeant =
    (newer older : List Act) (m serial f : ℕ) →
    fresh (MCommit m serial) (history (newer ++ older)) ≡ true →
    named (history (newer ++ older)) m serial ≡ Some (length older) →
    holder (history (newer ++ older)) ≡ Some f → holder (history older) ≡ Some f
