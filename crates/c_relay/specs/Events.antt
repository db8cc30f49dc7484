-- What is told, as numbers and a text, and which popups are hidden.
use Rattle.std.specs.Prelude.{ℕ, ℤ, pos, List, [], ◌∷◌, ◌++◌, length, map, Option, Some, None}
use Rattle.std.specs.List.{flat_map}
use Rattle.relay_model.specs.declared.act.Act.{Act}
use Rattle.relay_model.specs.declared.said.Told.{Told}
use Rattle.relay_model.specs.declared.said.Said.{Said}
use Rattle.relay_model.specs.declared.said.Said.TheVariants as said
use Rattle.relay_model.specs.Told.{told}
use Rattle.relay_core.specs.Bounds.{text_of}
use Rattle.c_relay.specs.declared.event.Event.{Event}
use Rattle.c_relay.specs.Hidden.{hidden}

-- which event it is, of those that are told to objects that a compositor has
abbrev pub kind_of : Said → Option ℕ
kind_of (said.Enter s) = Some 1
kind_of (said.Leave s) = Some 2
kind_of (said.Preedit text begin end) = Some 3
kind_of (said.CommitString text) = Some 4
kind_of (said.Delete before after) = Some 5
kind_of (said.FieldDone serial) = Some 6
kind_of said.Activate = Some 7
kind_of said.Deactivate = Some 8
kind_of (said.Surrounding text cursor anchor) = Some 9
kind_of (said.ChangeCause cause) = Some 10
kind_of (said.ContentType hint purpose) = Some 11
kind_of said.MethodDone = Some 12
kind_of said.Unavailable = Some 13
kind_of (said.PopupRect x y width height) = Some 14
kind_of (said.Keymap k) = Some 15
kind_of (said.Key serial time key state) = Some 16
kind_of (said.Mods serial m) = Some 17
kind_of (said.Repeat r) = Some 18
kind_of (said.Pass time key state) = Some 19
kind_of (said.Placed popup x y) = Some 20
kind_of (said.VMods m) = Some 21
kind_of _ = None

abbrev pub numbers : ℤ → ℤ → ℤ → ℤ → Event
numbers first second third fourth =
    record {
      kind = 0;
      to = 0;
      length = 0;
      first = first;
      second = second;
      third = third;
      fourth = fourth;
      group = pos 0;
    }

-- the numbers with the group of modifiers
abbrev pub grouped : Event → ℕ → Event
grouped event group = record event { group = pos group }

-- the arguments of the event beside a text, in the protocol's order
abbrev pub arguments : Said → Event
arguments (said.Enter s) = numbers (pos s) (pos 0) (pos 0) (pos 0)
arguments (said.Leave s) = numbers (pos s) (pos 0) (pos 0) (pos 0)
arguments (said.Preedit text begin end) = numbers begin end (pos 0) (pos 0)
arguments (said.Delete before after) = numbers (pos before) (pos after) (pos 0) (pos 0)
arguments (said.FieldDone serial) = numbers (pos serial) (pos 0) (pos 0) (pos 0)
arguments (said.Surrounding text cursor anchor) = numbers (pos cursor) (pos anchor) (pos 0) (pos 0)
arguments (said.ChangeCause cause) = numbers (pos cause) (pos 0) (pos 0) (pos 0)
arguments (said.ContentType hint purpose) = numbers (pos hint) (pos purpose) (pos 0) (pos 0)
arguments (said.PopupRect x y width height) = numbers x y width height
arguments (said.Keymap k) = numbers (pos k.format) (pos k.token) (pos k.size) (pos 0)
arguments (said.Key serial time key state) = numbers (pos serial) (pos time) (pos key) (pos state)
arguments (said.Mods serial m) =
    grouped (numbers (pos serial) (pos m.depressed) (pos m.latched) (pos m.locked)) m.group
arguments (said.Repeat r) = numbers r.rate r.delay (pos 0) (pos 0)
arguments (said.Pass time key state) = numbers (pos time) (pos key) (pos state) (pos 0)
arguments (said.Placed popup x y) = numbers (pos popup) x y (pos 0)
arguments (said.VMods m) =
    grouped (numbers (pos m.depressed) (pos m.latched) (pos m.locked) (pos 0)) m.group
arguments _ = numbers (pos 0) (pos 0) (pos 0) (pos 0)

abbrev pub event_at : Option ℕ → Told → Option Event
event_at None t = None
event_at (Some kind) t =
    Some (record (arguments t.event) { kind = kind; to = t.to; length = length (text_of t.event) })

-- what is told as numbers, with the length of its text
abbrev pub event_of : Told → Option Event
event_of t = event_at (kind_of t.event) t

-- an event and its text, which is empty where it has none
pub record Heard : Type 0 where
  pub event : Event
  pub text : List ℕ

abbrev pub heard_at : Option Event → List ℕ → List Heard
heard_at None text = []
heard_at (Some event) text = record { event = event; text = text } ∷ []

-- what an embedder hears of what is told
abbrev pub heard_of : Told → List Heard
heard_of t = heard_at (event_of t) (text_of t.event)

-- the shell is told that the popup is hidden
abbrev pub hidden_event : ℕ → Event
hidden_event popup = record (numbers (pos popup) (pos 0) (pos 0) (pos 0)) { kind = 22 }

-- what an embedder hears of a popup that is hidden
abbrev pub hidden_heard : ℕ → Heard
hidden_heard popup = record { event = hidden_event popup; text = [] }

-- what it hears of an act after the acts of the list: what is told, and then each popup that the act
-- hides
abbrev pub heard : Act → List Act → List Heard
heard act log = flat_map heard_of (told act log) ++ map hidden_heard (hidden act log)
