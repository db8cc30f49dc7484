-- The loop laws of the reports, for the one history of the hub
use Rattle.std.specs.Prelude.{◌≡◌, ◌≢◌, ℕ, List, [], ◌∷◌, true, false, Some}
use Rattle.broker_steps.specs.declared.limits.Limits.{Limits}
use Rattle.turn_lock.specs.Pairs.{HasSeen, IsIn}
use Rattle.hub_lock.specs.Histories.{History, reader_of, writer_of}
use Rattle.hub_lock.specs.Passes.{PassSeat, PeerPass}
use Rattle.peer_link.specs.declared.ends.ReadEnd.{ReadEnd}
use Rattle.peer_link.specs.declared.ends.ReadEnd.TheVariants as read_ends
use Rattle.peer_link.specs.declared.ends.WriteEnd.{WriteEnd}
use Rattle.peer_link.specs.declared.ends.ShellEnd.{ShellEnd}
use Rattle.peer_link.specs.declared.ends.ShellEnd.TheVariants as shell_ends
use Rattle.peer_link.specs.ReadsPeer.{TellsNoFault}
use Rattle.peer_link.specs.WritesPeer.{is_cut}
use Rattle.serve_jobs.specs.Tags.{Report, End}
use Rattle.serve_jobs.specs.Tags.End.{read, wrote, ordered}
use Rattle.serve_jobs.specs.LoopLaws.{HasRead, HasWritten, HasOrdered}

-- the history begins with what the pass has seen, and has no later step of the pass
pub record IsSeatOf (limits : Limits) (h : History) (r : Report) (seat : PassSeat) : Type 0 where
  pub number : seat.number ≡ r.number
  pub constant : seat.constant ≡ Some limits
  pub seen : HasSeen h seat.number seat.seen

-- a reader: its pass, which reads for the peer, made of the bytes that its link gave what the law
-- of readers says
pub record IsReader (limits : Limits) (h : History) (r : Report) (end : ReadEnd) : Type 0 where
  pub pass : PeerPass
  pub seat : IsSeatOf limits h r pass.seat
  pub peer : pass.peer ≡ r.peer
  pub reads : reader_of h r.peer ≡ Some r.number
  pub law : HasRead pass r.given r.left r.source_faults end
  pub fault : end ≡ read_ends.ReadFault → r.source_faults ≡ 1
  pub no_fault : TellsNoFault end → r.source_faults ≡ 0

-- a writer: its link gained of what its pass, which writes for the peer, took what the law of
-- writers says, and was hung up
pub record IsWriter (limits : Limits) (h : History) (r : Report) (end : WriteEnd) : Type 0 where
  pub pass : PeerPass
  pub seat : IsSeatOf limits h r pass.seat
  pub peer : pass.peer ≡ r.peer
  pub writes : writer_of h r.peer ≡ Some r.number
  pub law : HasWritten pass r.held end
  pub fault : is_cut end ≡ true → r.sink_faults ≡ 1
  pub no_fault : is_cut end ≡ false → r.sink_faults ≡ 0
  pub hung_up : r.hung_up ≡ true

-- a shell, which is no peer: its pass ordered, and its link gained, what the law of shells says, and
-- it was hung up
pub record IsShell (limits : Limits) (h : History) (r : Report) (end : ShellEnd) : Type 0 where
  pub shell : PassSeat
  pub seat : IsSeatOf limits h r shell
  pub nobody : r.peer ≡ 0
  pub law : HasOrdered shell r.given r.left r.held end
  pub read_fault : end ≡ shell_ends.ReadFault → r.source_faults ≡ 1
  pub write_fault : end ≡ shell_ends.WriteFault → r.sink_faults ≡ 1
  pub no_read_fault : end ≢ shell_ends.ReadFault → r.source_faults ≡ 0
  pub no_write_fault : end ≢ shell_ends.WriteFault → r.sink_faults ≡ 0
  pub hung_up : r.hung_up ≡ true

abbrev pub LawOf : Limits → History → Report → End → Type 0
LawOf limits h r (read end) = IsReader limits h r end
LawOf limits h r (wrote end) = IsWriter limits h r end
LawOf limits h r (ordered end) = IsShell limits h r end

-- the loop law of a report, by its end
abbrev pub HasLaw : Limits → History → Report → Type 0
HasLaw limits h r = ∥ LawOf limits h r r.end ∥₁

-- each of the reports has it
abbrev pub HaveLaws : Limits → History → List Report → Type 0
HaveLaws limits h [] = Unit {0}
HaveLaws limits h (r ∷ rs) = HasLaw limits h r × HaveLaws limits h rs

-- each of the reports is that of a pass with one of these numbers
abbrev pub AreTaken : List ℕ → List Report → Type 0
AreTaken taken [] = Unit {0}
AreTaken taken (r ∷ rs) = IsIn r.number taken × AreTaken taken rs
