-- The seat after the acts of a list.
use Rattle.std.specs.Prelude.{◌%◌, ◌^◌, min, List, length, option_map}
use Rattle.relay_model.specs.declared.act.Act.{Act}
use Rattle.relay_model.specs.Hold.{holder}
use Rattle.relay_model.specs.Activation.{serving, begun}
use Rattle.relay_model.specs.Batch.{commit_count}
use Rattle.relay_core.specs.Stands.{dones_told, count_since}
use Rattle.relay_reasons.specs.declared.seat.Seat.{Seat}

-- who holds and who serves it, with the counts of commits and dones
abbrev pub seat : List Act → Seat
seat log =
    record {
      holder = holder log;
      commits = option_map (commit_count log) (holder log);
      serving = serving log;
      dones = length (dones_told log (serving log)) % 2 ^ 32;
      since = min (count_since (begun log) (dones_told log (serving log))) (2 ^ 32);
    }
