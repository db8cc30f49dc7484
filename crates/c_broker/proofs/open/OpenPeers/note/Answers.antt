use Rattle.std.proofs.Common.{ℕ, List, ◌+◌, sym, subst}
use Rattle.c_broker.specs.Open.{IsOpen}
use Rattle.c_broker.proofs.OpenNumbers.{open_push}
use Rattle.c_broker.proofs.open.OpenPeers.note.Goals as goal

pub returns-in_default : goal.returns-in_default
returns-in_default c b o =
    subst (λ (l : List ℕ). IsOpen b l c.joined.self.seen) (sym c.in_default.ensures.items) (c.joined.invariant b o)

pub joined-preserved : goal.joined-preserved
joined-preserved c b o =
    subst (λ (l : List ℕ). IsOpen b l (c.joined.self.seen + 1)) (sym c.in-Ok.ensures.items)
    (open_push b c.joined.self.numbers.items c.joined.self.seen (c.joined.invariant b o))
