use denote.Param.Send.{sendable}
use Rattle.std.proofs.Crossing.{crosses}
use Rattle.serve_run.proofs.HubCrosses.{hub_crosses}
use Rattle.wlim.proofs.serve.fn.serve.new.Goals as goal

pub begin_job-requires-send-J : goal.begin_job-requires-send-J
begin_job-requires-send-J g c κs within = search (sendable, crosses, hub_crosses) depth 60 fits 100000

pub begin_job-requires-send-J-Done : goal.begin_job-requires-send-J-Done
begin_job-requires-send-J-Done g c κs within = search (sendable, crosses, hub_crosses) depth 60 fits 100000
