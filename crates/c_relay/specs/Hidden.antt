-- The popups that an act hides.
use Rattle.std.specs.Prelude.{ℕ, List, ◌∷◌, filter, not}
use Rattle.relay_model.specs.declared.act.Act.{Act}
use Rattle.relay_model.specs.Objects.{popups}
use Rattle.relay_model.specs.Popups.{popup_shown}
use Rattle.relay_model.specs.Idle.{cleaned, history}

-- the popups that are shown after a history, by rising label
abbrev pub shown : List Act → List ℕ
shown log = filter (popup_shown log) (popups log)

-- those of them that are not shown any more after the act
abbrev pub hidden_by : Act → List Act → List ℕ
hidden_by act log = filter (λ x. not (popup_shown (act ∷ log) x)) (shown log)

-- the popups that an act hides after the acts of a list, the newest first
abbrev pub hidden : Act → List Act → List ℕ
hidden act older = hidden_by (cleaned act (history older)) (history older)
