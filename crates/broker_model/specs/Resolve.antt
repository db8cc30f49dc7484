-- The act that each entry is.
use Rattle.std.specs.Prelude.{ℕ, ◌+◌, List, [], ◌∷◌, ◌++◌, length, if◌then◌else◌, Option, Some, None, Result, Ok, Err}
use Rattle.wl_proto.specs.declared.interface.Interface.TheVariants as interface
use Rattle.wl_proto.specs.declared.refuse.Refuse.{Refuse}
use Rattle.wl_proto.specs.Reading.{request_reading}
use Rattle.wl_proto.specs.Rows.{Message}
use Rattle.relay_model.specs.declared.act.Act.{Act}
use Rattle.relay_model.specs.declared.act.Act.TheVariants as acts
use Rattle.relay_model.specs.declared.fault.Fault.{Fault}
use Rattle.relay_model.specs.declared.fault.Fault.TheVariants as fault
use Rattle.broker_steps.specs.declared.step.ShellStep.{ShellStep}
use Rattle.broker_steps.specs.declared.step.ShellStep.TheVariants as shell
use Rattle.broker_model.specs.declared.journal.Entry.{Entry}
use Rattle.broker_model.specs.declared.journal.Entry.TheVariants as entries
use Rattle.broker_model.specs.Ids.{Made, Joined, Past, peer_at, object_at}
use Rattle.broker_model.specs.Waiting.{waiting_with}
use Rattle.broker_model.specs.Requests.{Argument, new_of, act_of}
use Rattle.broker_model.specs.Refusals.{is_of, request_fault, refuse_fault, is_of_addressed}

-- what an entry comes to: its act, and what it makes under an id
pub record Meaning : Type 0 where
  pub act : Act
  pub made : List Made

-- an act that makes nothing under an id
abbrev pub only : Act → Meaning
only act = record { act = act; made = [] }

-- the label of an object, or the shell's
abbrev pub label_of : Option Made → ℕ
label_of None = 0
label_of (Some m) = m.label

-- the label that an id of the peer p names
abbrev pub label_at : Past → ℕ → ℕ → ℕ
label_at past p id = label_of (object_at past p id)

-- a refused message of the peer p to its object x
abbrev pub refused_for : ℕ → ℕ → Fault → Meaning
refused_for p x f = only (acts.Bad p f (if is_of_addressed f then x else p))

-- what the entry n makes
abbrev pub made_new : ℕ → ℕ → Option Argument → List Made
made_new p n None = []
made_new p n (Some new) =
    record { peer = p; id = new.id; label = n; interface = new.interface } ∷ []

-- a request that was read, where its fault is known
abbrev pub of_request : Past → ℕ → Joined → ℕ → Message → Option Fault → Meaning
of_request past n peer x m (Some f) = refused_for peer.label x f
of_request past n peer x m None = record {
  act = act_of peer.label x peer.role (label_at past peer.label) m.interface m.opcode m.values;
  made = made_new peer.label n (new_of m.interface m.opcode m.values);
}

-- what a body reads as
abbrev pub of_reading : Past → ℕ → Joined → ℕ → Result Message Refuse → Meaning
of_reading past n peer x (Err r) = refused_for peer.label x (refuse_fault r)
of_reading past n peer x (Ok m) =
    of_request past n peer x m
    (request_fault past peer.label x peer.role (label_at past peer.label) m)

-- a message to an object, if the id names one; where its row has a descriptor, that is the first
-- token that waits for the peer
abbrev pub of_message : Past → ℕ → Joined → ℕ → List ℕ → Option Made → Meaning
of_message past n peer opcode body None = refused_for peer.label peer.label fault.Object
of_message past n peer opcode body (Some x) =
    of_reading past n peer x.label
    (request_reading x.interface opcode (past.waiting peer.label) body)

-- an entry of a peer that joined
abbrev pub of_peer : Option Joined → (Joined → Meaning) → Meaning
of_peer None f = only acts.Idle
of_peer (Some peer) f = f peer

-- the live surface that a peer's id names
abbrev pub surface_in : Option Made → Option ℕ
surface_in None = None
surface_in (Some m) = (if is_of interface.Surface (Some m) then Some m.label else None)

-- the live surface that the id of a peer names, where the peer joined
abbrev pub surface_at : Past → Option Joined → ℕ → Option ℕ
surface_at past None id = None
surface_at past (Some peer) id = surface_in (object_at past peer.label id)

-- an act of that surface, or Idle
abbrev pub on_surface : Option ℕ → (ℕ → Act) → Act
on_surface None f = acts.Idle
on_surface (Some s) f = f s

-- what the shell says; a surface that isn't live makes it Idle
abbrev pub shell_act : Past → ShellStep → Act
shell_act past (shell.Focus q id) =
    on_surface (surface_at past (peer_at past q) id) (λ s. acts.Focus s)
shell_act past shell.Unfocus = acts.Unfocus
shell_act past (shell.Area q id rect) =
    on_surface (surface_at past (peer_at past q) id) (λ s. acts.Area s rect)
shell_act past (shell.Screen size) = acts.Screen size
shell_act past (shell.Key time key state) = acts.Key time key state
shell_act past (shell.Mods mods) = acts.Mods mods
shell_act past (shell.Keymap keymap) = acts.Keymap keymap
shell_act past (shell.Repeat repeat) = acts.Repeat repeat
shell_act past (shell.At moment) = acts.Idle

-- what the entry with the number n comes to, after all before it
abbrev pub means : Entry → ℕ → Past → Meaning
means (entries.Join role) n past =
    record {
      act = acts.Peer;
      made = record { peer = n; id = 1; label = n; interface = interface.Display } ∷ [];
    }
means (entries.Message q id opcode body) n past =
    of_peer (peer_at past q)
    (λ peer. of_message past n peer opcode body (object_at past peer.label id))
means (entries.Tokens q tokens) n past = only acts.Idle
means (entries.BadSize q head) n past =
    of_peer (peer_at past q) (λ peer. refused_for peer.label peer.label fault.Size)
means (entries.End q cause) n past =
    of_peer (peer_at past q) (λ peer. only (acts.Gone peer.label cause))
means (entries.Shell step) n past = only (shell_act past step)
means (entries.Took q bytes) n past =
    of_peer (peer_at past q) (λ peer. only (acts.Took peer.label bytes))

-- who joined, after the entry n
abbrev pub with_joined : Entry → ℕ → List Joined → List Joined
with_joined (entries.Join role) n joined = joined ++ record { label = n; role = role } ∷ []
with_joined _ n joined = joined

-- one more entry, which has the number n
abbrev pub with_entry : Entry → ℕ → Past → Past
with_entry e n past =
    let meaning = means e n past in
    record {
      acts = meaning.act ∷ past.acts;
      made = meaning.made ++ past.made;
      joined = with_joined e n past.joined;
      waiting = waiting_with e past;
    }

-- what the entries of a journal, the newest first, come to
abbrev pub past_of : List Entry → Past
past_of [] = record { acts = []; made = []; joined = []; waiting = λ p. [] }
past_of (e ∷ older) = with_entry e (length older + 1) (past_of older)

-- the acts that they are
abbrev pub resolve : List Entry → List Act
resolve journal = (past_of journal).acts
