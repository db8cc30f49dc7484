use Rattle.std.specs.List.{slice_split}
use Rattle.std.proofs.Common.{◌==◌}
use Rattle.session_text.proofs.LongLines.{many_words}
use Rattle.session_text.proofs.line.read_few.Goals as goal

pub returns-in_default : goal.returns-in_default
returns-in_default c =
    many_words c.args.form c.requires (slice_split (λ b. b == 32) c.args.line.now) c.in_default.ensures.many
