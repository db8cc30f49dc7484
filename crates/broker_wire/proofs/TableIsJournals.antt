-- A table that stands for the calls of a journal is the table of what the journal comes to.
use Rattle.std.proofs.Common.{◌≡◌, ℕ, List, true, ◌∙◌}
use Rattle.broker_model.specs.Objects.{Objects, Stands}
use Rattle.relay_model.specs.Objects.{is_peer}
use Rattle.broker_model.specs.declared.journal.Entry.{Entry}
use Rattle.broker_model.specs.Ids.{log_of}
use Rattle.broker_model.specs.Resolve.{past_of}
use Rattle.broker_model.specs.Tables.{calls_for}
use Rattle.broker_wire.specs.Meant.{IsTableOf}
use Rattle.broker_model.proofs.TablesNameObjects.{found_by_id}
use Rattle.broker_model.proofs.TableCountsLive.{counted_live}

-- of a live peer
pub table_of : (journal : List Entry) (p : ℕ) (table : Objects) → is_peer (log_of (past_of journal)) p ≡ true →
    Stands (calls_for journal p) table →
    IsTableOf (past_of journal) p table
table_of journal p table l s = record {
  by_id = λ id. s.under id ∙ found_by_id journal p id l;
  count = s.number ∙ counted_live journal p l;
}
