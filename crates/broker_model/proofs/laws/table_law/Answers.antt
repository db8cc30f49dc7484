use Rattle.broker_model.proofs.laws.table_law.Goals as goal
use Rattle.broker_model.proofs.TablesNameObjects.{found_by_id}
use Rattle.broker_model.proofs.LabelsAreIds.{found_by_label}
use Rattle.broker_model.proofs.TableCountsLive.{counted_live}

pub returns-clause-by_id : goal.returns-clause-by_id
returns-clause-by_id c = found_by_id

pub returns-clause-by_label : goal.returns-clause-by_label
returns-clause-by_label c = found_by_label

pub returns-clause-counted : goal.returns-clause-counted
returns-clause-counted c = counted_live
