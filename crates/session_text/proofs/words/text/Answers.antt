use Rattle.std.proofs.Common.{rules}
use Rattle.session_text.proofs.words.text.Goals as goal

pub returns : goal.returns
returns c = search rules
