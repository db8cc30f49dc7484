use Rattle.broker_model.specs.Settle.{history}
use Rattle.broker_model.proofs.SettlingEnds.{IsSettled, history_settled}
use Rattle.broker_model.proofs.QueuedForFields.{relay_law}
use Rattle.broker_model.proofs.QuietStoresStay.{stores_hold}
use Rattle.broker_model.proofs.BatchGroupsWhole.{whole_groups}
use Rattle.broker_model.proofs.ToldToFields.{told_entering}
use Rattle.broker_model.specs.Resolve.{resolve}
use Rattle.broker_model.specs.Out.{act_at}
use Rattle.broker_model.proofs.laws.relay_law.Goals as goal

pub returns-clause-law : goal.returns-clause-law
returns-clause-law c = relay_law

pub returns-clause-whole_groups : goal.returns-clause-whole_groups
returns-clause-whole_groups c = whole_groups

pub returns-clause-nothing_else : goal.returns-clause-nothing_else
returns-clause-nothing_else c = λ e older f p. told_entering (act_at e older) (resolve older) f p

pub returns-clause-nobody_is_due : goal.returns-clause-nobody_is_due
returns-clause-nobody_is_due c = λ capacity steps q peer e.
    let s : IsSettled capacity (history capacity steps) = history_settled capacity steps in
    s.nobody q peer e

pub returns-clause-stores_hold : goal.returns-clause-stores_hold
returns-clause-stores_hold c = stores_hold
