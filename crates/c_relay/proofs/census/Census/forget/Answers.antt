use Rattle.std.proofs.Common.{◌==◌, not, filter, ap, ◌∙◌, rules}
use Rattle.std.proofs.lemmas.Fn.{filter_same}
use Rattle.c_relay.specs.Living.{Counted}
use Rattle.c_relay.proofs.census.Census.forget.Goals as goal

pub returns-clause-living : goal.returns-clause-living
returns-clause-living c =
    filter_same _ (λ l. not (l.label == c.args.label)) _ (λ x b f' k. search rules) _ _ c.retain.ensures.filtered
    ∙ ap (λ (v : Counted). filter (λ l. not (l.label == c.args.label)) v.living) c.self.view_is
