use Rattle.std.proofs.lemmas.Result.{on_err_weaker}
use Rattle.desc_frame.proofs.FrameParts.{OnErr-any, GainsPrefix-head, GainsPrefix-bytes}
use Rattle.desc_frame.proofs.writer.put_many.Goals as goal

pub returns-in_err-write_all-clause-prefix : goal.returns-in_err-write_all-clause-prefix
returns-in_err-write_all-clause-prefix g c =
    OnErr-any c.from_residual.result
    (GainsPrefix-head _ _ _ c.args.bytes.now c.args.tokens.now c.spell_head-size.ensures.spelled
    c.in_err-write_all.ensures.prefix)

pub returns-clause-prefix : goal.returns-clause-prefix
returns-clause-prefix g c =
    on_err_weaker c.write_all-2.result
    (GainsPrefix-bytes _ _ _ _ c.args.bytes.now c.args.tokens.now c.spell_head-size.ensures.spelled
    c.in_ok-write_all.ensures.whole) c.write_all-2.ensures.prefix
