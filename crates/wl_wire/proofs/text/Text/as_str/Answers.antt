use Rattle.wl_wire.proofs.TextsKnown.{is_text-utf8}
use Rattle.wl_wire.proofs.text.Text.as_str.Goals as goal

pub from_utf8_unchecked-requires : goal.from_utf8_unchecked-requires
from_utf8_unchecked-requires c = rw c.as_slice-bytes.ensures.value (is_text-utf8 _ c.self.invariant.0)
