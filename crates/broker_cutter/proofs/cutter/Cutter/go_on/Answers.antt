use Rattle.std.proofs.Common.{◌++◌, subst}
use Rattle.wl_wire.specs.Streams.{Assembly, begun}
use Rattle.broker_cutter.specs.Cuts.{IsUnfinished, IsLast, IsHeld}
use Rattle.broker_cutter.proofs.FirstSteps.{fed_message, fed_nothing, fed_bad_size}
use Rattle.broker_cutter.proofs.cutter.Cutter.go_on.Goals as goal

pub returns-in-Whole : goal.returns-in-Whole
returns-in-Whole c =
    subst (λ (a : Assembly). IsHeld c.feed.new.self (begun a ++ c.args.piece.now) c.args.piece.now c.in-Whole.used)
    c.self.view_is
    (fed_message c.self.inside.assembler c.feed.new.self c.args.piece.now c.in-Whole.used c.in-Whole.ensures.one
    c.in-Whole.ensures.ready)

pub returns-in-Need : goal.returns-in-Need
returns-in-Need c =
    subst (λ (a : Assembly). IsUnfinished (begun a ++ c.args.piece.now) (begun c.feed.new.self)) c.self.view_is
    (fed_nothing c.self.inside.assembler c.feed.new.self c.args.piece.now c.in-Need.ensures.one)

pub returns-in-BadSize : goal.returns-in-BadSize
returns-in-BadSize c =
    subst (λ (a : Assembly). IsLast c.head.result (begun a ++ c.args.piece.now) (begun c.feed.new.self)) c.self.view_is
    (fed_bad_size c.in-BadSize.field-0 c.self.inside.assembler c.feed.new.self c.args.piece.now c.head.result
    c.in-BadSize.ensures.one c.head.ensures.header)
