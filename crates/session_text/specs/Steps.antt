-- What the steps and lines of a session hold.
use Rattle.std.specs.Prelude.{ℕ, ◌+◌, ◌*◌, List, ◌++◌, length}
use Rattle.wl_wire.specs.Spelling.{word_bytes}
use Rattle.broker_steps.specs.declared.step.Step.{Step}
use Rattle.broker_steps.specs.declared.step.Step.TheVariants as steps
use Rattle.broker_steps.specs.declared.step.PeerStep.{PeerStep}
use Rattle.broker_steps.specs.declared.step.PeerStep.TheVariants as peers
use Rattle.session_text.specs.declared.line.SessionLine.{SessionLine}
use Rattle.session_text.specs.declared.line.SessionLine.TheVariants as sessions
use Rattle.broker_steps.specs.Ranges.{piece_limit, token_limit, IsWithin, IsShellStep}

-- The line holds only what a line of a session can give.
abbrev pub IsSessionLine : SessionLine → Type 0
IsSessionLine (sessions.Bytes p bytes) = IsWithin piece_limit (length bytes)
IsSessionLine (sessions.Take p n) = IsWithin piece_limit n
IsSessionLine (sessions.Tokens p tokens) = IsWithin token_limit (length tokens)
IsSessionLine (sessions.Shell step) = IsShellStep step
IsSessionLine _ = Unit {0}

-- A whole message: a word with the id of its object, a word with its size in the upper 16 bits and
-- its opcode in the lower, and its body.
abbrev pub message_bytes : ℕ → ℕ → List ℕ → List ℕ
message_bytes id opcode body =
    word_bytes id ++ word_bytes (65536 * (8 + length body) + opcode) ++ body

-- the line of a peer's step: what the peer sends, whole, or that it is gone
abbrev pub peer_line : ℕ → PeerStep → SessionLine
peer_line p (peers.Message id opcode body) = sessions.Bytes p (message_bytes id opcode body)
peer_line p (peers.BadSize head) = sessions.Bytes p head
peer_line p (peers.Tokens tokens) = sessions.Tokens p tokens
peer_line p peers.Gone = sessions.Gone p

-- the line of a session that gives the step alone
abbrev pub step_line : Step → SessionLine
step_line (steps.Join role) = sessions.Join role
step_line (steps.Peer p step) = peer_line p step
step_line (steps.Shell step) = sessions.Shell step
step_line (steps.Take p n) = sessions.Take p n
