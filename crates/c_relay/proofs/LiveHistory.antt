-- An act that does something stands in the history as it is.
use Rattle.std.proofs.Common.{◌≡◌, List, ◌∷◌, true, ap}
use Rattle.std.specs.Prelude.{if◌then◌else◌}
use Rattle.relay_model.specs.declared.act.Act.{Act}
use Rattle.relay_model.specs.declared.act.Act.TheVariants as acts
use Rattle.relay_model.specs.Idle.{history, is_live}

pub history_live : (act : Act) (log : List Act) → is_live act (history log) ≡ true →
    history (act ∷ log) ≡ act ∷ history log
history_live act log h = ap (λ b. (if b then act else acts.Idle) ∷ history log) h
