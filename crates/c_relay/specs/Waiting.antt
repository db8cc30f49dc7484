-- What waits in a queue, and what it has room for.
use Rattle.std.specs.Prelude.{◌≡◌, ℕ, ◌+◌, ◌<◌, ◌≤◌, List, [], ◌∷◌, ◌++◌, length, take, drop, Bool, ◌||◌, Option, Some, None, Result, Ok, Err}
use Rattle.relay_model.specs.declared.said.Told.{Told}
use Rattle.relay_core.specs.Bounds.{text_of, text_bytes}
use Rattle.c_relay.specs.declared.event.Event.{Event}
use Rattle.c_relay.specs.declared.queue.TooShort.{TooShort}
use Rattle.c_relay.specs.Events.{Heard, heard_of}
use Rattle.c_relay.specs.KeptPopups.{tells_place}

-- a queue as contracts see it: what waits, the next event first, room for so many events and bytes
-- of texts more, and whether a place was told since room was made
pub record Waiting : Type 0 where
  pub heard : List Heard
  pub places : ℕ
  pub bytes : ℕ
  pub has_placed : Bool

-- the events with their texts, which stand one behind the other
abbrev pub heard_from : List Event → List ℕ → List Heard
heard_from [] bytes = []
heard_from (e ∷ es) bytes =
    record { event = e; text = take e.length bytes } ∷ heard_from es (drop e.length bytes)

-- how many bytes the texts of the events have
abbrev pub lengths : List Event → ℕ
lengths [] = 0
lengths (e ∷ es) = e.length + lengths es

-- there is room for what is told
abbrev pub HasPlace : Waiting → Told → Type 0
HasPlace queue told = (0 < queue.places) × (length (text_of told.event) ≤ queue.bytes)

-- a queue is told something: it waits behind what waited, where there was room, which is one place
-- less and the bytes of the text
pub record Queues (old : Waiting) (told : Told) (new : Waiting) : Type 0 where
  pub gained : HasPlace old told → new.heard ≡ old.heard ++ heard_of told
  pub places : old.places ≤ new.places + 1
  pub bytes : old.bytes ≤ new.bytes + length (text_of told.event)
  pub placed : new.has_placed ≡ (old.has_placed || tells_place told)

-- the event waits longest, with a text of its length; none where nothing waits
abbrev pub IsFirst : List Heard → Option Event → Type 0
IsFirst heard None = heard ≡ []
IsFirst heard (Some event) =
    (text : List ℕ) × (rest : List Heard) × (heard ≡ record { event = event; text = text } ∷ rest)
    × (length text ≡ event.length)

-- What waits longest is handed out, with its text at the front of the bytes after, which are else
-- those before. Where nothing waits, or its text has more bytes than there are, nothing is changed.
abbrev pub Pulls : (old new : List Heard) → (before after : List ℕ) →
    Result (Option Event) TooShort → Type 0
Pulls old new before after (Ok None) = (old ≡ []) × (new ≡ []) × (after ≡ before)
Pulls old new before after (Ok (Some event)) =
    (text : List ℕ) × (old ≡ record { event = event; text = text } ∷ new)
    × (length text ≡ event.length) × (after ≡ text ++ drop (length text) before)
Pulls old new before after (Err short) =
    (first : Heard) × (rest : List Heard) × (old ≡ first ∷ rest)
    × (length first.text ≡ short.needed) × (length before < short.needed)
    × (new ≡ old) × (after ≡ before)

-- there is room for all that is told, and for so many events more
abbrev pub HasRoomFor : Waiting → List Told → ℕ → Type 0
HasRoomFor queue told more =
    (length told + more ≤ queue.places) × (text_bytes told ≤ queue.bytes)
