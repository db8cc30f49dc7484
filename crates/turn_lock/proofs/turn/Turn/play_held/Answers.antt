use Rattle.std.proofs.Common.{rules, ◌∷◌, ap, ◌∙◌, sym, Some}
use Rattle.atomic_table.specs.Table.{rest}
use Rattle.turn_lock.proofs.turn.Turn.play_held.Goals as goal

pub slot_mut-slot-requires : goal.slot_mut-slot-requires
slot_mut-slot-requires g c = let held = c.requires.held in
    (search rules, (Some held.0, held.1 ∙ ap (λ l. (0, Some held.0) ∷ l) (sym (ap rest held.1))))
