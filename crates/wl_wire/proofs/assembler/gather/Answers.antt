use Rattle.std.proofs.Common.{rules, arith}
use Rattle.std.proofs.lemmas.Grind.{common_steps}
use Rattle.wl_wire.proofs.PiecesGathered.{head_is, gathered}
use Rattle.wl_wire.proofs.assembler.gather.Goals as goal

pub returns-clause-gathered : goal.returns-clause-gathered
returns-clause-gathered c =
    rw c.behind.ensures
    (gathered c.args.held.now.items c.args.piece.now c.fill-used.new.held.items _ c.gather_body-fed.new.held.items
    c.fill-used.result c.gather_body-fed.result c.fill-used.ensures.held (omega arith)
    (search rules) c.gather_body-fed.ensures.gathered)

pub returns-then-not-is_good-clause-gathered : goal.returns-then-not-is_good-clause-gathered
returns-then-not-is_good-clause-gathered c = (
  search rules,
  head_is c.args.held.now.items c.args.piece.now c.fill-used.new.held.items c.fill-used.result
      c.fill-used.ensures.held (grind (arith, common_steps)),
  (omega arith, search rules),
)
