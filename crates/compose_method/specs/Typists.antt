-- What a typist's presses and events mean, over a state that is plain data.
use Rattle.std.specs.Prelude.{ℕ, List, Option, Some, None, if◌then◌else◌}
use Rattle.wl_proto.specs.declared.event.Event.{Event}
use Rattle.compose_method.specs.Typing.{Typing, pressed, after_event}

-- the string and the preedit of the batch that a press of a key gives, or none; the state after the
-- press; and the state after an event
pub record Meanings (S : Type 0) : Type 0 where
  pub gives : ℕ → S → Option (List ℕ × List ℕ)
  pub pressed : ℕ → S → S
  pub after_event : Event → S → S

-- a composing method gives the batch of each press while it is active
abbrev pub composed : ℕ → Typing → Option (List ℕ × List ℕ)
composed key m = if m.active then Some ((pressed key m).string, (pressed key m).preedit) else None

abbrev pub composing : Meanings Typing
composing = record { gives = composed; pressed = pressed; after_event = after_event }
