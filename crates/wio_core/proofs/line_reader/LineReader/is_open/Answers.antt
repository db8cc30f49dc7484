use Rattle.std.proofs.Common.{drop, ap, ◌∙◌, List, ℕ, sym}
use Rattle.std.proofs.lemmas.List.{take_rest}
use Rattle.wio_core.proofs.OneFront.{known_not_open, other_not_open}
use Rattle.wio_core.proofs.line_reader.LineReader.is_open.Goals as goal

pub returns-in-Line : goal.returns-in-Line
returns-in-Line c = (
  λ none. cc none,
  λ begun.
      let same = take_rest c.held.result.now c.self.inside.lent
      ∙ ap (λ (w : List ℕ). drop c.self.inside.lent w) c.held.ensures.value ∙ ap (λ r. r.held) c.self.view_is in
      absurd (other_not_open c.look.result _ _ same c.look.ensures c.in-Line.is begun),
)

pub returns-then-is_some : goal.returns-then-is_some
returns-then-is_some c = (
  λ none. cc none,
  λ begun.
      absurd (known_not_open c.self.inside.known (drop c.self.inside.lent c.self.inside.window) _
      (ap (λ r. r.held) c.self.view_is) c.self.invariant.1 (sym c.is_some.ensures ∙ c.if-is_some.true) begun),
)
