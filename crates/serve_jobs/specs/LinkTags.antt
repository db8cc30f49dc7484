-- The tags of the jobs of links, and the tags and reports of their results
use Rattle.std.specs.Prelude.{ℕ, None, false}
use Rattle.hub_lock.specs.Passes.{PassSeat}
use Rattle.serve_jobs.specs.Tags.{Part, Tag, Report}
use Rattle.serve_jobs.specs.Tags.Part.{reader, writer, shell}
use Rattle.serve_jobs.specs.Tags.End.{read, wrote, ordered}
use Rattle.serve_jobs.specs.declared.done.ReaderDone.{ReaderDone}
use Rattle.serve_jobs.specs.declared.done.WriterDone.{WriterDone}
use Rattle.serve_jobs.specs.declared.done.ShellDone.{ShellDone}
use Rattle.serve_jobs.specs.declared.link_job.LinkJob.{LinkJob}
use Rattle.serve_jobs.specs.declared.link_job.LinkJob.TheVariants as jobs
use Rattle.serve_jobs.specs.declared.link_job.LinkDone.{LinkDone}
use Rattle.serve_jobs.specs.declared.link_job.LinkDone.TheVariants as done

-- the tag of a job with this pass, that serves this link
abbrev pub tag_with : PassSeat → (peer link : ℕ) → Part → Tag
tag_with seat peer link part =
    record {
      number = seat.number;
      peer = peer;
      link = link;
      part = part;
      turn = seat.turn;
      limits = seat.constant;
    }

module _ {I O G : Type 0} {i : _} {s : _} {o : _} {k : _} where
  abbrev pub job_tag : LinkJob I O G i s o k → Tag
  job_tag (jobs.Reader job) = tag_with job.pass.seat job.pass.peer (i.number job.source) reader
  job_tag (jobs.Writer job) = tag_with job.pass.seat job.pass.peer (o.number job.sink) writer
  job_tag (jobs.Shell job) = tag_with job.pass 0 (i.number job.source) shell

-- the report of a reader, of a writer and of a shell
module _ {I : Type 0} {s : _} where
  abbrev pub reader_report : ReaderDone I s → Report
  reader_report d = record {
    number = d.pass.seat.number;
    peer = d.pass.peer;
    link = d.link;
    part = reader;
    end = read d.end;
    source_faults = s.fault_count d.source;
    sink_faults = 0;
    given = s.given d.source;
    left = s.left d.source;
    held = None;
    hung_up = false;
  }

module _ {O : Type 0} {o : _} {k : _} where
  abbrev pub writer_report : WriterDone O o k → Report
  writer_report d = record {
    number = d.pass.seat.number;
    peer = d.pass.peer;
    link = d.link;
    part = writer;
    end = wrote d.end;
    source_faults = 0;
    sink_faults = k.fault_count d.sink;
    given = None;
    left = None;
    held = k.held d.sink;
    hung_up = o.hung_up d.sink;
  }

module _ {I O : Type 0} {s : _} {o : _} {k : _} where
  abbrev pub shell_report : ShellDone I O s o k → Report
  shell_report d = record {
    number = d.pass.number;
    peer = 0;
    link = d.link;
    part = shell;
    end = ordered d.end;
    source_faults = s.fault_count d.source;
    sink_faults = k.fault_count d.sink;
    given = s.given d.source;
    left = s.left d.source;
    held = k.held d.sink;
    hung_up = o.hung_up d.sink;
  }

module _ {I O : Type 0} {s : _} {o : _} {k : _} where
  abbrev pub done_tag : LinkDone I O s o k → Tag
  done_tag (done.Reader d) = tag_with d.pass.seat d.pass.peer d.link reader
  done_tag (done.Writer d) = tag_with d.pass.seat d.pass.peer d.link writer
  done_tag (done.Shell d) = tag_with d.pass 0 d.link shell

  abbrev pub done_report : LinkDone I O s o k → Report
  done_report (done.Reader d) = reader_report d
  done_report (done.Writer d) = writer_report d
  done_report (done.Shell d) = shell_report d
