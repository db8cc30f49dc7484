use Rattle.std.proofs.Common.{◌≡◌, ◌∙◌}
use Rattle.std.proofs.Math.Facts.{Fits-lt-pow}
use Rattle.wl_wire.specs.Texts.{IsText}
use Rattle.wl_wire.proofs.TextsKnown.{is_text-of}
use Rattle.wl_wire.proofs.text.Text.of.Goals as goal

pub invariant_of-result : goal.invariant_of-result
invariant_of-result c =
    let text : IsText c.args.text.now = (is_text-of _ c.requires c.utf8.text, λ i. Fits-lt-pow (c.type_inv.text i)) in
    rw (c.in_ok-bytes.ensures.items, c.as_bytes.ensures.value) text

pub returns : goal.returns
returns c =
    let same : c.in_ok-bytes.bytes.items ≡ c.args.text.now = c.in_ok-bytes.ensures.items ∙ c.as_bytes.ensures.value in
    let text : IsText c.args.text.now = (is_text-of _ c.requires c.utf8.text, λ i. Fits-lt-pow (c.type_inv.text i)) in
    record { value = (same, rw same text) }
