-- Histories: lists in which each act does something or is Idle.
use Rattle.std.proofs.Common.{◌≡◌, List, [], ◌∷◌, length, Bool, true, false, refl, sym, arith}
use Rattle.std.specs.Prelude.{if◌then◌else◌}
use Rattle.relay_model.specs.declared.act.Act.{Act}
use Rattle.relay_model.specs.declared.act.Act.TheVariants.{Idle}
use Rattle.relay_model.specs.Idle.{is_live, cleaned, history}

-- each act of the list does something, or is Idle
abbrev pub IsHistory : List Act → Type 0
IsHistory [] = Unit {0}
IsHistory (act ∷ older) = (cleaned act older ≡ act) × IsHistory older

cleaned_by : (b : Bool) (act : Act) (older : List Act) → is_live act older ≡ b →
    cleaned (if b then act else Idle) older ≡ (if b then act else Idle)
cleaned_by true act older e = rw e refl
cleaned_by false act older e = refl

-- cleaning once is enough
pub cleaned_again : (act : Act) (older : List Act) → cleaned (cleaned act older) older ≡ cleaned act older
cleaned_again act older = cleaned_by (is_live act older) act older refl

pub history_is : (acts : List Act) → IsHistory (history acts)
history_is [] = tt
history_is (act ∷ older) = (cleaned_again act (history older), history_is older)

live_by : (b : Bool) (act : Act) → (if b then act else Idle) ≡ act → (act ≡ Idle → ⊥) → b ≡ true
live_by true act e n = refl
live_by false act e n = absurd (n (sym e))

-- an act of a history that isn't Idle does something
pub live : (act : Act) (older : List Act) → cleaned act older ≡ act → (act ≡ Idle → ⊥) → is_live act older ≡ true
live act older e n = live_by (is_live act older) act e n

-- idle acts keep their numbers
pub length_history : (acts : List Act) → length (history acts) ≡ length acts
length_history [] = refl
length_history (act ∷ older) = let k : length (history older) ≡ length older = length_history older in omega arith
