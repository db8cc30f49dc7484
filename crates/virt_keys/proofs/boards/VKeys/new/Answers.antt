use Rattle.std.proofs.Common.{ℕ, List, [], sym, subst}
use Rattle.virt_keys.proofs.BoardTree.{boards_of}
use Rattle.virt_keys.proofs.BoardHistories.{none_after}
use Rattle.virt_keys.specs.Boards.{Board, StandsFor}
use Rattle.virt_keys.proofs.boards.VKeys.new.Goals as goal

pub returns-clause-history : goal.returns-clause-history
returns-clause-history c =
    subst (λ (es : List (ℕ × Board)). StandsFor [] (boards_of es)) (sym c.new.ensures.empty) none_after
