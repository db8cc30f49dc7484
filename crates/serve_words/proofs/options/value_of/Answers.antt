use Rattle.std.proofs.Common.{◌∙◌, sym, ap}
use Rattle.serve_words.specs.Words.{once}
use Rattle.serve_words.proofs.ListedValues.{once_listed}
use Rattle.serve_words.proofs.options.value_of.Goals as goal

pub returns : goal.returns
returns c = λ words holds. c.get_str.ensures ∙ sym (ap once (holds c.args.name.now c.requires) ∙ once_listed _)
