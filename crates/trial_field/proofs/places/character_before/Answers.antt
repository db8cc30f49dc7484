use Rattle.std.proofs.Common.{arith}
use Rattle.trial_field.proofs.BoundariesAreChars.{last_char_before}
use Rattle.trial_field.proofs.places.character_before.Goals as goal

pub returns-clause-value : goal.returns-clause-value
returns-clause-value c =
    last_char_before c.args.text.now c.args.cursor _ (omega arith) c.requires.0 c.floor_char_boundary.ensures.bound
    c.floor_char_boundary.ensures.boundary c.floor_char_boundary.ensures.nearest
