-- What a relay shows: what it keeps of the acts so far, and what it reserved for the next.
use Rattle.std.specs.Prelude.{◌≡◌, ℕ, ◌<◌, List, [], Option, Some, None}
use Rattle.relay_model.specs.declared.act.Act.{Act}
use Rattle.relay_model.specs.declared.act.Act.TheVariants as acts
use Rattle.field_state.specs.Stands.{Kept}
use Rattle.relay_core.specs.declared.boards.Boards as declared
use Rattle.relay_core.specs.declared.machine.Machine.{Machine}
use Rattle.relay_objects.specs.declared.spare.Spare.{Spare}
use Rattle.relay_objects.specs.Objects.{find, field_in}
use Rattle.relay_core.specs.BoardKeys.{Boards, HasBoard}
use Rattle.relay_core.specs.Machine.{State, holder_state, text_around}
use Rattle.relay_objects.specs.Fits.{FitsMessage, FindsRoom}

-- what the machine keeps, without what is reserved
abbrev pub state : Machine → State
state m =
    record {
      acts = m.acts;
      objects = m.objects.items;
      focus = m.focus;
      holder = m.holder;
      serving = m.serving;
      edits = m.pending;
      active = m.active;
      dones = m.dones;
      since = m.since;
      screen = m.screen;
      keys = m.keys;
    }

-- what is kept of the boards
abbrev pub kept : declared.Boards → Boards
kept b = record { keys = b.keys; ahead = b.ahead }

-- a relay as contracts see it
pub record Shown : Type 0 where
  pub state : State
  pub boards : Boards
  pub room : ℕ
  pub spare : Spare

abbrev pub shown : Machine → declared.Boards → Shown
shown m b = record { state = state m; boards = kept b; room = m.objects.room; spare = m.spare }

-- the surrounding text that a field has pending
abbrev pub text_pending : Option Kept → List ℕ
text_pending None = []
text_pending (Some kept) = text_around kept.pending.surrounding

-- what is made before the act: copies of the texts that it may tell, and memory for a text of a field
abbrev pub HasSpare : State → Spare → Act → Type 0
HasSpare s spare (acts.Method p) = spare.text ≡ text_around (holder_state s).surrounding
HasSpare s spare (acts.Commit f) = spare.text ≡ text_pending (field_in (find s.objects f))
HasSpare s spare (acts.MCommit m serial) =
    (spare.text ≡ s.edits.string) × (spare.preedit ≡ s.edits.preedit.text)
HasSpare s spare act = FindsRoom act spare.room

-- there is room for one more object, which the end of a peer does without
abbrev pub HasRoom : ℕ → Act → Type 0
HasRoom room (acts.Gone p cause) = Unit {0}
HasRoom room _ = 0 < room

-- all that the act needs is made; the end of a peer needs nothing
pub record IsReserved (relay : Shown) (act : Act) : Type 0 where
  pub room : HasRoom relay.room act
  pub spare : HasSpare relay.state relay.spare act
  pub board : HasBoard act relay.state relay.boards
  pub fits : FitsMessage act
