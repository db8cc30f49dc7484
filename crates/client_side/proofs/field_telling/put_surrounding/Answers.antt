use Rattle.std.proofs.Common.{◌++◌, ◌∙◌, ap, sym}
use Rattle.std.specs.List.{slice_range}
use Rattle.std.proofs.lemmas.List.{append-nil}
use Rattle.client_side.proofs.WindowBounds.{surrounding_is}
use Rattle.client_side.proofs.field_telling.put_surrounding.Goals as goal

pub returns-clause-bytes : goal.returns-clause-bytes
returns-clause-bytes c =
    c.put_window.ensures.bytes
    ∙ ap (λ m. c.args.out.now.bytes ++ m)
    (surrounding_is c.args.field.now _ _ c.cursor.result c.range.result.now c.surround_window-begin.ensures.window
    c.cursor.ensures.value
    (c.range.ensures.value
    ∙ ap (λ t. slice_range t c.surround_window-begin.result.0 c.surround_window-begin.result.1) c.text.ensures.value)
    ∙ sym (append-nil _))
