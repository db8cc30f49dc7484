-- How much an act can tell.
use Rattle.std.specs.Prelude.{ℕ, ◌+◌, List, [], ◌∷◌, length, Option, Some, None}
use Rattle.relay_model.specs.declared.act.Act.{Act}
use Rattle.relay_model.specs.declared.act.Act.TheVariants as acts
use Rattle.relay_model.specs.declared.said.Told.{Told}
use Rattle.relay_model.specs.declared.said.Said.{Said}
use Rattle.relay_model.specs.declared.said.Said.TheVariants as said
use Rattle.relay_objects.specs.declared.object.Object.{Object}
use Rattle.relay_objects.specs.Listed.{fields_of, popups_of}
use Rattle.relay_core.specs.State.{State, owner_at}

-- the text of an event, empty where it has none
abbrev pub text_of : Said → List ℕ
text_of (said.Preedit text begin end) = text
text_of (said.CommitString text) = text
text_of (said.Surrounding text cursor anchor) = text
text_of _ = []

-- how many bytes the texts of the events have
abbrev pub text_bytes : List Told → ℕ
text_bytes [] = 0
text_bytes (t ∷ ts) = length (text_of t.event) + text_bytes ts

-- how many fields a peer has that may be named
abbrev pub fields_count : Option ℕ → List Object → ℕ
fields_count None objects = 0
fields_count (Some p) objects = length (fields_of p objects)

-- how many fields the peer of an object has that may be there
abbrev pub fields_at : State → Option ℕ → ℕ
fields_at s label = fields_count (owner_at s.objects label) s.objects

-- how many popups live
abbrev pub popups_count : State → ℕ
popups_count s = length (popups_of s.objects)

-- No act tells more events than this: a focus each field that it leaves and each that it enters, a
-- place of the cursor or of a surface each popup and the shell, and any act at most 5 besides.
abbrev pub most_told : Act → State → ℕ
most_told (acts.Focus t) s = fields_at s s.focus + fields_at s (Some t) + 5
most_told acts.Unfocus s = fields_at s s.focus + 0 + 5
most_told (acts.Commit f) s = popups_count s + popups_count s + 5
most_told (acts.Area t rect) s = popups_count s + popups_count s + 5
most_told (acts.Screen size) s = popups_count s + popups_count s + 5
most_told _ s = 0 + 0 + 5
