-- What a relay stands for.
use Rattle.std.specs.Prelude.{◌≡◌, ℕ, ◌+◌, ◌%◌, ◌^◌, min, List, [], ◌∷◌, length, map, filter, Bool, if◌then◌else◌, nat_le, Option, Some, None, is_some}
use Rattle.relay_model.specs.declared.act.Act.{Act}
use Rattle.relay_model.specs.declared.act.Act.TheVariants as acts
use Rattle.relay_model.specs.declared.act.Word.{Word}
use Rattle.relay_model.specs.declared.act.Word.TheVariants.{Enabled, Disabled}
use Rattle.relay_model.specs.Objects as model
use Rattle.relay_model.specs.Objects.{Object, PeerKind, SurfaceKind, FieldKind, MethodKind, ThingKind, BoardKind, PopupKind, GrabKind, is_at, labels, alive}
use Rattle.relay_model.specs.Focus.{focus, entered}
use Rattle.relay_model.specs.Hold.{word, holder}
use Rattle.relay_model.specs.Current.{State as FieldState, Around, current}
use Rattle.relay_model.specs.Pending.{pending}
use Rattle.relay_model.specs.Activation.{serving, dones, begun}
use Rattle.relay_model.specs.Batch.{Batch, commit_count, edits_past}
use Rattle.relay_model.specs.Keys.{key_route}
use Rattle.relay_model.specs.Popups.{area, screen}
use Rattle.relay_model.specs.Idle.{history}
use Rattle.kbd_grab.specs.Keyboard as keyboard
use Rattle.kbd_grab.specs.declared.keyboard.Route.{Route}
use Rattle.edit_batch.specs.Calls.{LastEdits}
use Rattle.field_state.specs.Calls as field
use Rattle.field_state.specs.Stands.{Kept as KeptField}
use Rattle.field_state.specs.declared.commit.Word.{Word as KeptWord}
use Rattle.field_state.specs.declared.commit.Word.TheVariants as kept
use Rattle.relay_objects.specs.declared.object.Object.{Object as Kept}
use Rattle.relay_objects.specs.declared.object.Kind.{Kind}
use Rattle.relay_objects.specs.declared.object.Kind.TheVariants.{Peer, Surface, Field, Method, Popup, Grab, Thing, Board}
use Rattle.relay_core.specs.Machine.{State, no_edits}
use Rattle.relay_core.specs.Kept.{Shown}
use Rattle.relay_core.specs.KeyCalls.{key_calls, route_of}
use Rattle.relay_core.specs.BoardsStand.{BoardsStand}

-- a word as a field keeps it
abbrev pub word_kept : Option Word → Option KeptWord
word_kept None = None
word_kept (Some Enabled) = Some kept.Enabled
word_kept (Some Disabled) = Some kept.Disabled

abbrev pub around_kept : Option Around → Option field.Surrounding
around_kept None = None
around_kept (Some around) =
    Some (record { text = around.text; cursor = around.cursor; anchor = around.anchor })

-- a state as a field keeps it
abbrev pub state_kept : FieldState → field.State
state_kept s =
    record {
      surrounding = around_kept s.surrounding;
      cause = s.cause;
      content = (s.content.hint, s.content.purpose);
      rect = s.rect;
    }

-- the current state of x, initial where it doesn't hold
abbrev pub current_where : Bool → List Act → ℕ → field.State
current_where held log x = (if held then state_kept (current log x) else field.initial)

-- what the field x keeps
abbrev pub field_kept : List Act → ℕ → KeptField
field_kept log x =
    record {
      entered = entered log x;
      word = word_kept (word log x);
      holds = is_at (holder log) x;
      count = commit_count log x;
      pending = state_kept (pending log x);
      current = current_where (is_at (holder log) x) log x;
    }

-- what the relay keeps of an object's kind
abbrev pub kind_of : List Act → ℕ → model.Kind → Kind
kind_of log x PeerKind = Peer
kind_of log x SurfaceKind = Surface (area log x)
kind_of log x FieldKind = Field (field_kept log x)
kind_of log x MethodKind = Method
kind_of log x (PopupKind m t) = Popup m t
kind_of log x (GrabKind m) = Grab m
kind_of log x ThingKind = Thing
kind_of log x BoardKind = Board

-- what the relay keeps of the object x
abbrev pub entry_of : List Act → ℕ → Option Object → Kept
entry_of log x None = record { label = x; peer = 0; kind = Peer }
entry_of log x (Some object) =
    record { label = x; peer = object.peer; kind = kind_of log x object.kind }

abbrev pub entry : List Act → ℕ → Kept
entry log x = entry_of log x (model.object log x)

-- the live objects, by rising label
abbrev pub entries : List Act → List Kept
entries log = map (entry log) (filter (alive log) (labels log))

abbrev pub dones_told : List Act → Option ℕ → List ℕ
dones_told log None = []
dones_told log (Some m) = dones log m

-- how many of the list aren't below n
abbrev pub count_from : ℕ → List ℕ → ℕ
count_from n [] = 0
count_from n (x ∷ xs) = (if nat_le n x then count_from n xs + 1 else count_from n xs)

abbrev pub count_since : Option ℕ → List ℕ → ℕ
count_since None xs = 0
count_since (Some n) xs = count_from n xs

-- a batch as pending edits
abbrev pub edits_of : Batch → LastEdits
edits_of b =
    record {
      deletion = (b.deletion.before, b.deletion.after);
      string = b.string;
      preedit = record { text = b.preedit.text; begin = b.preedit.begin; end = b.preedit.end };
    }

-- the pending edits of the serving method, while an activation is present
abbrev pub edits_since : List Act → Option ℕ → Option ℕ → LastEdits
edits_since log (Some m) (Some b) = edits_of (edits_past b log m)
edits_since log None b = no_edits
edits_since log (Some m) None = no_edits

-- what the relay keeps of the serving method, each part a definition's value at the end of a
-- history
pub record StandsServed (method : Option ℕ) (edits : LastEdits) (active : Bool) (count since : ℕ)
    (log : List Act) : Type 0 where
  pub serving_now : method ≡ serving log
  pub edits_now : edits ≡ edits_since log (serving log) (begun log)
  pub active_now : active ≡ is_some (begun log)
  pub dones_now : count ≡ length (dones_told log (serving log)) % 2 ^ 32
  pub since_now : since ≡ min (count_since (begun log) (dones_told log (serving log))) (2 ^ 32)

-- each part is a definition's value at the end of a history
pub record Stands (relay : State) (log : List Act) : Type 0 where
  pub acts_now : relay.acts ≡ length log
  pub objects_now : relay.objects ≡ entries log
  pub focus_now : relay.focus ≡ focus log
  pub holder_now : relay.holder ≡ holder log
  pub served_now : StandsServed relay.serving relay.edits relay.active relay.dones relay.since log
  pub screen_now : relay.screen ≡ screen log
  pub keys_now : keyboard.StandsFor (key_calls log) relay.keys

-- a relay stands for a list of acts, the newest first: what it keeps is what the definitions say of
-- their history
pub record StandsFor (relay : Shown) (log : List Act) : Type 0 where
  pub state : Stands relay.state (history log)
  pub boards : BoardsStand relay.boards (history log)

-- where a key act goes after the acts of a list
abbrev pub route_told : Act → List Act → Option Route
route_told (acts.Key time key state) log = Some (route_of (key_route (history log) key state))
route_told _ log = None
