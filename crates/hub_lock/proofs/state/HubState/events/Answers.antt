use Rattle.std.proofs.Common.{arith}
use Rattle.hub_lock.proofs.HistoriesGrow.{steps_few}
use Rattle.hub_lock.proofs.state.HubState.events.Goals as goal

pub overflow_add-result : goal.overflow_add-result
overflow_add-result c =
    let few = steps_few c.self.inside.readers.items c.self.inside.shared.journal c.self.inside.shared.stamps in
    let l = c.self.invariant.2 in
    let n = c.entries-entries.ensures.number in omega arith

pub overflow_add-result-in-Some : goal.overflow_add-result-in-Some
overflow_add-result-in-Some c =
    let few = steps_few c.self.inside.readers.items c.self.inside.shared.journal c.self.inside.shared.stamps in
    let l = c.self.invariant.2 in
    let n = c.entries-entries.ensures.number in omega arith
