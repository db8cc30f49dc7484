use Rattle.std.proofs.Common.{rules}
use Rattle.serve_words.proofs.pairs.stands_once_at_most.Goals as goal

pub returns : goal.returns
returns c = search rules
