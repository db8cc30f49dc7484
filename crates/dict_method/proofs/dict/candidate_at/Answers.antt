use Rattle.std.proofs.Common.{rules, tests}
use Rattle.std.proofs.lemmas.Iterator.{YieldsList-from_slice}
use Rattle.std.proofs.lemmas.Iterator.Consumers.{YieldsList-from_filter, nth_from_yields_List}
use Rattle.dict_method.specs.Candidates.{is_candidate}
use Rattle.dict_method.proofs.dict.candidate_at.Goals as goal

pub returns : goal.returns
returns c =
    nth_from_yields_List _ _ _ c.nth.ensures.ran
    (YieldsList-from_filter _ (is_candidate c.args.code.now)
    (YieldsList-from_slice c.args.words.now cc) c.filter.ensures.closure (λ x r q k. search (rules, tests)))
