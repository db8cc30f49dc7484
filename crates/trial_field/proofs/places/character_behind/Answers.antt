use Rattle.std.proofs.Common.{arith}
use Rattle.trial_field.proofs.BoundariesAreChars.{first_char_behind}
use Rattle.trial_field.proofs.places.character_behind.Goals as goal

pub returns-clause-value : goal.returns-clause-value
returns-clause-value c =
    first_char_behind c.args.text.now c.args.cursor _ (omega (arith, c.requires.0))
    (c.ceil_char_boundary.ensures.bound (omega (arith, c.requires.0)))
    c.ceil_char_boundary.ensures.boundary c.ceil_char_boundary.ensures.nearest
