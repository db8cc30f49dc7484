-- Laws of what lines play.
use Rattle.std.specs.Prelude.{◌≡◌, ℕ, ◌^◌, ◌<◌, ◌≤◌, List, [], ◌∷◌, length, true, false, if◌then◌else◌, Some}
use Rattle.broker_steps.specs.declared.limits.Limits.{Limits}
use Rattle.session_text.specs.declared.line.SessionLine.{SessionLine}
use Rattle.broker_steps.specs.declared.step.Step.{Step}
use Rattle.broker_steps.specs.declared.step.Step.TheVariants as steps
use Rattle.broker_steps.specs.declared.step.PeerStep.{PeerStep}
use Rattle.broker_steps.specs.declared.step.PeerStep.TheVariants as peers
use Rattle.broker_steps.specs.Ranges.{IsBody}
use Rattle.session_text.specs.Steps.{step_line}
use Rattle.wl_wire.specs.Messages.{IsBad}
use Rattle.broker_model.specs.Ids.{Joined, peer_at}
use Rattle.broker_model.specs.Out.{stored, out_for}
use Rattle.broker_model.specs.Resolve.{past_of}
use Rattle.broker_model.specs.Settle.{number_alive, history, outer}
use Rattle.broker_core.specs.Broker.{entry_of}
use Rattle.broker_core.specs.Taking.{lives}
use Rattle.seat_set.specs.Played.{Play, Played, went, with_peer, step_played, unread_of, line_played}

-- where lines lead, one after the other, up to the first that met a full journal
abbrev pub lines_played : Limits → List SessionLine → Play → Played
lines_played limits [] play = went play
lines_played limits (line ∷ rest) play =
    let p = line_played limits line play in
    (if p.is_full then p else lines_played limits rest p.play)

-- nothing was played yet
abbrev pub unplayed : Play
unplayed = record { journal = []; unread = [] }

-- after any lines, the journal is the history of its outer steps
abbrev pub SessionLaw : Type 0
SessionLaw =
    (limits : Limits) (lines : List SessionLine) →
    let journal =
    (lines_played limits lines unplayed).play.journal in
    history limits.store (outer journal) ≡ journal

-- the peer is alive and has no unread bytes
pub record IsIdle (play : Play) (q : ℕ) : Type 0 where
  pub live : lives play.journal q ≡ true
  pub read : unread_of play q ≡ []

-- the step is one that a line can give
abbrev pub IsSent : PeerStep → Type 0
IsSent (peers.Message id opcode body) = (id < 2 ^ 32) × (opcode < 2 ^ 16) × IsBody body
IsSent (peers.BadSize head) = IsBad head × (length head ≡ 8)
IsSent (peers.Tokens tokens) = Unit {0}
IsSent peers.Gone = Unit {0}

-- as many bytes are stored for the peer, and at least one
pub record AreStored (limits : Limits) (play : Play) (q n : ℕ) : Type 0 where
  pub peer : Joined
  pub joined : peer_at (past_of play.journal) q ≡ Some peer
  pub some : 1 ≤ n
  pub enough : n ≤ length (stored (out_for limits.store play.journal peer.label))

-- what has to hold for the line of a step to play it alone
abbrev pub CanPlay : Limits → Step → Play → Type 0
CanPlay limits (steps.Join role) play = number_alive play.journal < 64
CanPlay limits (steps.Peer q step) play = IsIdle play q × IsSent step
CanPlay limits (steps.Shell step) play = Unit {0}
CanPlay limits (steps.Take q n) play = AreStored limits play q n

-- what was played before a step, where a peer that joins has no unread bytes
abbrev pub ready_for : Step → Play → Play
ready_for (steps.Join role) play = with_peer play
ready_for step play = play

-- It leads to the same. Where the journal is full for it, the journals are the same.
pub record IsSame (p other : Played) : Type 0 where
  pub full : p.is_full ≡ other.is_full
  pub journal : p.play.journal ≡ other.play.journal
  pub play : other.is_full ≡ false → p.play ≡ other.play

-- the line of a printed step plays that step alone
abbrev pub PrintedSteps : Type 0
PrintedSteps =
    (limits : Limits) (step : Step) (play : Play) → CanPlay limits step play →
    IsSame (line_played limits (step_line step) play)
    (step_played limits (entry_of step) (ready_for step play))
