use Rattle.std.proofs.Common.{rules}
use Rattle.serve_words.proofs.serving.door_of.Goals as goal

pub returns-in-109 : goal.returns-in-109
returns-in-109 c = search rules
