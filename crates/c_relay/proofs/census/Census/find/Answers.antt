use Rattle.std.proofs.Common.{◌≡◌, ◌==◌, rules, tests, ◌∙◌}
use Rattle.std.specs.List.{find}
use Rattle.std.specs.Option.{option_map}
use Rattle.std.proofs.lemmas.Iterator.{YieldsList-from_slice}
use Rattle.std.proofs.lemmas.Iterator.Search.{find_from_yields_List}
use Rattle.c_relay.proofs.census.Census.find.Goals as goal

pub returns : goal.returns
returns c =
    let found : option_map (λ x. x.now) c.find.result ≡ find (λ d. d.label == c.args.label) c.args.self.now.living =
    find_from_yields_List (λ d. d.label == c.args.label) _ _ c.find.result c.find.ensures.ran
    (YieldsList-from_slice c.args.self.now.living (cc)) (λ x b q k. search (rules, tests)) in
    c.copied.ensures ∙ found
