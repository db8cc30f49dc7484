use Rattle.std.proofs.Common.{lit<}
use Rattle.wl_wire.proofs.TextsKnown.{is_text-nil}
use Rattle.wl_wire.proofs.text.Text.empty.Goals as goal

pub invariant_of-result : goal.invariant_of-result
invariant_of-result c = rw c.new.ensures.items (is_text-nil, λ i. lit< tt)

pub returns-clause-text : goal.returns-clause-text
returns-clause-text c = rw c.new.ensures.items (is_text-nil, λ i. lit< tt)
