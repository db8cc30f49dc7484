-- The loop laws of a pass that is given back, over a link that was new when its loop began
use Rattle.std.specs.Prelude.{◌≡◌, ℕ, List, Option, Some, IfSome}
use Rattle.wio_core.specs.Io.{StaysQuiet}
use Rattle.hub_lock.specs.Limits.{Limits}
use Rattle.hub_lock.specs.Passes.{PassSeat, PeerPass}
use Rattle.peer_link.specs.declared.ends.ReadEnd.{ReadEnd}
use Rattle.peer_link.specs.declared.ends.WriteEnd.{WriteEnd}
use Rattle.peer_link.specs.declared.ends.ShellEnd.{ShellEnd}
use Rattle.peer_link.specs.ReadsPeer.{ReadsPeer}
use Rattle.peer_link.specs.WritesPeer.{WritesPeer}
use Rattle.peer_link.specs.ReadsShell.{ReadsShell}
use Rattle.serve_net.specs.NewLinks.{IsNothing}

-- these are the bytes, where they are told
abbrev pub IsTold : (told : Option (List ℕ)) → List ℕ → Type 0
IsTold told bytes = IfSome told (λ all. all ≡ bytes)

-- a reader: of the bytes that its source gave, its pass made what the law of readers says, where so
-- many faults were counted
pub record HasRead (pass : PeerPass) (given left : Option (List ℕ)) (faults : ℕ)
    (end : ReadEnd) : Type 0 where
  pub limits : Limits
  pub constant : pass.seat.constant ≡ Some limits
  pub read : List ℕ
  pub told : IsTold given read
  pub law : ReadsPeer limits pass read left faults end

-- a writer: its sink, which held nothing, gained what the law of writers says
pub record HasWritten (pass : PeerPass) (held : Option (List ℕ)) (end : WriteEnd) : Type 0 where
  pub limits : Limits
  pub constant : pass.seat.constant ≡ Some limits
  pub before : Option (List ℕ)
  pub nothing : IsNothing before
  pub quiet : StaysQuiet before held
  pub law : WritesPeer limits pass before held end

-- a shell: of the bytes that its source gave, its pass ordered what the law of shells says, and its
-- sink, which held nothing, gained the answers
pub record HasOrdered (seat : PassSeat) (given left held : Option (List ℕ))
    (end : ShellEnd) : Type 0 where
  pub limits : Limits
  pub constant : seat.constant ≡ Some limits
  pub read : List ℕ
  pub told : IsTold given read
  pub before : Option (List ℕ)
  pub nothing : IsNothing before
  pub quiet : StaysQuiet before held
  pub law : ReadsShell limits seat read left before held end
