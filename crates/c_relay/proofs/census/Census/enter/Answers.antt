use Rattle.std.proofs.Common.{◌≡◌, ◌∷◌, ◌++◌, [], Some, None, List, Option, subst, sym, ap, ◌∙◌}
use Rattle.relay_model.specs.declared.act.Act.{Act}
use Rattle.relay_model.specs.Objects.{made, maker, next}
use Rattle.c_relay.specs.declared.census.Living.{Living}
use Rattle.c_relay.specs.Living.{Counted, living, living_of, owner_in}
use Rattle.std.specs.Prelude.{option_map}
use Rattle.c_relay.proofs.LivingAfterAct.{entered_one, entered_none}
use Rattle.c_relay.proofs.census.Census.enter.Goals as goal

pub returns-in-Some-clause-living : goal.returns-in-Some-clause-living
returns-in-Some-clause-living c = λ log same number.
    entered_one c.args.act.now log c.in-Some.one c.args.self.now.living c.push_reserved.new.self.items
    (sym c.in-Some.is ∙ c.made.ensures
    ∙ ap (λ n. option_map (living_of n) (made c.args.act.now n
    (owner_in c.args.self.now.living (maker c.args.act.now)))) number)
    same (c.push_reserved.ensures.items ∙ ap (λ (v : Counted). v.living ++ c.in-Some.one ∷ []) c.self.view_is)

pub returns-in-None-clause-living : goal.returns-in-None-clause-living
returns-in-None-clause-living c = λ log same number.
    entered_none c.args.act.now log c.args.self.now.living c.leave.new.self.living
    (sym c.in-None.is ∙ c.made.ensures
    ∙ ap (λ n. option_map (living_of n) (made c.args.act.now n
    (owner_in c.args.self.now.living (maker c.args.act.now)))) number)
    same c.leave.ensures.living
