use Rattle.std.proofs.Common.{◌∙◌, sym, subst}
use Rattle.hub_lock.specs.Steps.{HaveLines}
use Rattle.hub_lock.proofs.LinesOfEntries.{kept-fits}
use Rattle.hub_lock.proofs.state.HubState.copy.Goals as goal

pub invariant_of-result-clause-lines : goal.invariant_of-result-clause-lines
invariant_of-result-clause-lines c =
    ∣ subst HaveLines (sym (c.in-Ok.ensures.value ∙ c.journal-2.ensures.entries))
    (kept-fits c.self.inside.shared c.self.inside.readers.items c.self.invariant.0) ∣₁
