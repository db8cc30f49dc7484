-- The jobs of links may move to another thread, and so may what they give back.
use denote.RattleType.{RattleType}
use denote.Param.Send.{IsSend, IsSync, sendable}
use Rattle.std.proofs.Crossing.{crosses}
use Rattle.wio_core.specs.declared.Source.{Ghosts as SourceGhosts}
use Rattle.wio_core.specs.declared.Sink.{Ghosts as SinkGhosts}
use Rattle.serve_net.specs.declared.net.LinkSource.{Ghosts as InGhosts}
use Rattle.serve_net.specs.declared.net.LinkSink.{Ghosts as OutGhosts}
use Rattle.hub_lock.proofs.HubCrosses.{hub_sync, hub_send, reader_send, writer_send, shell_send}
use Rattle.serve_jobs.specs.contracts.jobs.ReaderJob as ReaderJob
use Rattle.serve_jobs.specs.contracts.jobs.WriterJob as WriterJob
use Rattle.serve_jobs.specs.contracts.jobs.ShellJob as ShellJob
use Rattle.serve_jobs.specs.contracts.done.ReaderDone as ReaderDone
use Rattle.serve_jobs.specs.contracts.done.WriterDone as WriterDone
use Rattle.serve_jobs.specs.contracts.done.ShellDone as ShellDone
use Rattle.serve_jobs.specs.contracts.link_job.LinkJob as LinkJob
use Rattle.serve_jobs.specs.contracts.link_job.LinkDone as LinkDone

pub reader_job : (S G : RattleType) (i : InGhosts S.Denot) (s : SourceGhosts S.Denot) → IsSend S → IsSend G →
    IsSync G → IsSend (ReaderJob.the_field S G i s).row
reader_job S G i s a b c = search (sendable, crosses, hub_sync, hub_send, reader_send) depth 40

pub writer_job : (K : RattleType) (o : OutGhosts K.Denot) (k : SinkGhosts K.Denot) → IsSend K →
    IsSend (WriterJob.the_field K o k).row
writer_job K o k a = search (sendable, crosses, hub_sync, hub_send, writer_send) depth 40

pub shell_job : (S K : RattleType) (i : InGhosts S.Denot) (s : SourceGhosts S.Denot) (o : OutGhosts K.Denot)
    (k : SinkGhosts K.Denot) → IsSend S → IsSend K → IsSend (ShellJob.the_field S K i s o k).row
shell_job S K i s o k a b = search (sendable, crosses, hub_sync, hub_send, shell_send) depth 40

pub reader_done : (S : RattleType) (s : SourceGhosts S.Denot) → IsSend S → IsSend (ReaderDone.the_field S s).row
reader_done S s a = search (sendable, crosses, reader_send) depth 40

pub writer_done : (K : RattleType) (o : OutGhosts K.Denot) (k : SinkGhosts K.Denot) → IsSend K →
    IsSend (WriterDone.the_field K o k).row
writer_done K o k a = search (sendable, crosses, writer_send) depth 40

pub shell_done : (S K : RattleType) (s : SourceGhosts S.Denot) (o : OutGhosts K.Denot) (k : SinkGhosts K.Denot) →
    IsSend S → IsSend K → IsSend (ShellDone.the_field S K s o k).row
shell_done S K s o k a b = search (sendable, crosses, shell_send) depth 40

pub link_job : (S K G : RattleType) (i : InGhosts S.Denot) (s : SourceGhosts S.Denot) (o : OutGhosts K.Denot)
    (k : SinkGhosts K.Denot) → IsSend S → IsSend K → IsSend G → IsSync G →
    IsSend (LinkJob.the_field S K G i s o k).row
link_job S K G i s o k a b c d = search (sendable, crosses, reader_job, writer_job, shell_job) depth 40

pub link_done : (S K : RattleType) (s : SourceGhosts S.Denot) (o : OutGhosts K.Denot) (k : SinkGhosts K.Denot) →
    IsSend S → IsSend K → IsSend (LinkDone.the_field S K s o k).row
link_done S K s o k a b = search (sendable, crosses, reader_done, writer_done, shell_done) depth 40
