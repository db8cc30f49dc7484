use Rattle.audit_run.proofs.SpellingsReadBack.{reads_only_spelling, reads_each_spelling}
use Rattle.audit_run.proofs.audit_line.one_spelling.Goals as goal

pub returns : goal.returns
returns c = record { only = reads_only_spelling; each = reads_each_spelling }
