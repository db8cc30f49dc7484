-- Messages of a generated session, and the steps that send them.
use Rattle.std.specs.Prelude.{ℕ, ◌≤◌, ◌<◌, ◌^◌}
use Rattle.wl_proto.specs.Rows.{Message}
use Rattle.wl_proto.specs.Spelling.{message_len, spelling}
use Rattle.broker_steps.specs.declared.step.Step.{Step}
use Rattle.broker_steps.specs.declared.step.Step.TheVariants as steps
use Rattle.broker_steps.specs.declared.step.PeerStep.TheVariants as peers
pub use Rattle.wl_proto.specs.Sent.{bind, set_surrounding_text, commit_string, set_preedit_string}

-- the message has at most 64 bytes, and its opcode 16 bits
abbrev pub IsShort : Message → Type 0
IsShort m = (message_len m ≤ 64) × (m.opcode < 2 ^ 16)

-- the peer sends the message to its object with this id
unfoldable pub sends : ℕ → ℕ → Message → Step
sends p id m = steps.Peer p (peers.Message id m.opcode (spelling m.values))

-- an app peer to its text input, and the method to its input method
abbrev pub field_sends : ℕ → Message → Step
field_sends p m = sends p 7 m

abbrev pub method_sends : Message → Step
method_sends m = sends 5 5 m
