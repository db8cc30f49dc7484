use Rattle.std.proofs.Common.{sym}
use Rattle.wl_wire.proofs.TextsKnown.{is_text-of, is_text-not_utf8}
use Rattle.wl_wire.proofs.valid.any_text_of.Goals as goal

pub returns-in-Ok-clause-some : goal.returns-in-Ok-clause-some
returns-in-Ok-clause-some c = (c.in-Ok.ensures.0, is_text-of _ (sym c.if-not-all_nonzero.ensures) c.in-Ok.ensures.1)

pub returns-in-Err-clause-none : goal.returns-in-Err-clause-none
returns-in-Err-clause-none c = is_text-not_utf8 _ (sym c.if-not-all_nonzero.ensures) c.in-Err.ensures
