use Rattle.std.proofs.Common.{rules}
use Rattle.serve_words.proofs.serving.is_order.Goals as goal

pub returns-then-letters-le-MOST_LETTERS-clause-few : goal.returns-then-letters-le-MOST_LETTERS-clause-few
returns-then-letters-le-MOST_LETTERS-clause-few c = search rules
