use Rattle.std.proofs.Common.{sym}
use Rattle.wl_wire.proofs.TextsKnown.{plain_utf8, is_text-plain}
use Rattle.wl_wire.proofs.valid.text_of.Goals as goal

pub from_utf8_unchecked-requires : goal.from_utf8_unchecked-requires
from_utf8_unchecked-requires c = plain_utf8 c.args.bytes.now (sym c.if-is_plain.ensures)

pub returns-then-is_plain-clause-some : goal.returns-then-is_plain-clause-some
returns-then-is_plain-clause-some c =
    (c.from_utf8_unchecked.ensures, is_text-plain c.args.bytes.now (sym c.if-is_plain.ensures))
