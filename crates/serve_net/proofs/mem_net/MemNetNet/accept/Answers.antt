use Rattle.std.proofs.Common.{rules, refl, ⊎_elim}
use Rattle.serve_net.proofs.FirstLinks.{first_is_there}
use Rattle.serve_net.proofs.mem_net.MemNetNet.accept.Goals as goal

pub returns-clause-fails : goal.returns-clause-fails
returns-clause-fails c = (
  λ never. absurd (search rules),
  λ either. ⊎_elim (λ told. search rules)
      (λ lacks. absurd (first_is_there _ _ _ c.in-Some.link c.in-Some.ensures.first (search rules))) either,
)

pub returns-clause-ok : goal.returns-clause-ok
returns-clause-ok c = record {
  link = c.in-Some.link;
  first = search rules;
  way_in = refl;
  way_out = refl;
  number_in = search rules;
  number_out = search rules;
  live = refl;
  rest = search rules;
}
