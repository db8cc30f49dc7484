use denote.Param.Send.{sendable}
use Rattle.std.proofs.Crossing.{crosses}
use Rattle.serve_run.proofs.HubCrosses.{hub_sync, hub_send, reader_send, writer_send, shell_send}
use Rattle.test_serve.proofs.server.fn.serve_unix.new.Goals as goal

pub begin_job-requires-send-J : goal.begin_job-requires-send-J
begin_job-requires-send-J g c κs within =
    search (sendable, crosses, hub_sync, hub_send, reader_send, writer_send, shell_send) depth 60 fits 100000

pub begin_job-requires-send-J-Done : goal.begin_job-requires-send-J-Done
begin_job-requires-send-J-Done g c κs within =
    search (sendable, crosses, reader_send, writer_send, shell_send) depth 60 fits 100000
