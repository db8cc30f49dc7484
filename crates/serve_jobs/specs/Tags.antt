-- What contracts see of a job and of its result
use Rattle.std.specs.Prelude.{◌≡◌, ℕ, List, Option, Bool}
use Rattle.atomic_table.specs.Seated.{TableId}
use Rattle.hub_lock.specs.Limits.{Limits}
use Rattle.peer_link.specs.declared.ends.ReadEnd.{ReadEnd}
use Rattle.peer_link.specs.declared.ends.WriteEnd.{WriteEnd}
use Rattle.peer_link.specs.declared.ends.ShellEnd.{ShellEnd}

-- a peer's reader, a peer's writer, or a shell
pub data Part : Type 0 where
  reader : Part
  writer : Part
  shell : Part

-- a job: its number, which is that of its pass, from 1 in the order in which the hub made them; its
-- peer's number, or 0 for a shell; the number of the link that it serves; its part; and which hub
-- it works on: the hub's lock, and its limits as the pass knows them
pub record Tag : Type 0 where
  pub number : ℕ
  pub peer : ℕ
  pub link : ℕ
  pub part : Part
  pub turn : TableId
  pub limits : Option Limits

-- how a job's loop ended
pub data End : Type 0 where
  read : ReadEnd → End
  wrote : WriteEnd → End
  ordered : ShellEnd → End

-- a result: the numbers and the part of its job; how its loop ended; how often its link's source
-- and sink failed; where the link tells them, the bytes that its source gave, those that it has
-- left, and those that its sink holds; and whether the sink hung up. A way that the job doesn't
-- have tells nothing, never failed and didn't hang up.
pub record Report : Type 0 where
  pub number : ℕ
  pub peer : ℕ
  pub link : ℕ
  pub part : Part
  pub end : End
  pub source_faults : ℕ
  pub sink_faults : ℕ
  pub given : Option (List ℕ)
  pub left : Option (List ℕ)
  pub held : Option (List ℕ)
  pub hung_up : Bool

-- the report of the result of the job with this tag
pub record IsReportOf (tag : Tag) (report : Report) : Type 0 where
  pub number : report.number ≡ tag.number
  pub peer : report.peer ≡ tag.peer
  pub link : report.link ≡ tag.link
  pub part : report.part ≡ tag.part
