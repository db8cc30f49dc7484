-- The calls on the table of a peer's objects that a journal comes to, and that the table names what
-- the journal names.
use Rattle.std.specs.Prelude.{◌≡◌, ℕ, ◌+◌, List, [], ◌∷◌, ◌++◌, ◌==◌, ◌&&◌, true, if◌then◌else◌, length, Option, Some, None}
use Rattle.std.specs.Option.{option_map}
use Rattle.wl_proto.specs.declared.interface.Interface.{Interface}
use Rattle.im_objects.specs.Calls.{Call, object_under, id_of}
use Rattle.im_objects.specs.Calls as table
use Rattle.im_objects.specs.Calls.Call.{Make, Drop}
use Rattle.relay_model.specs.declared.act.Act.{Act}
use Rattle.relay_model.specs.declared.act.Act.TheVariants as acts
use Rattle.relay_model.specs.Objects.{alive, is_peer}
use Rattle.broker_model.specs.declared.journal.Entry.{Entry}
use Rattle.broker_model.specs.Ids.{Made, Past, log_of, object_at, number_live, made_as}
use Rattle.broker_model.specs.Resolve.{means, past_of}
use Rattle.broker_model.specs.Out.{act_now}

-- what the peer with the label p made of these, as far as it is alive
abbrev pub make_calls : List Act → (p : ℕ) → List Made → List Call
make_calls log p [] = []
make_calls log p (m ∷ older) =
    (if (m.peer == p) && alive log m.label
    then Make m.id m.interface m.label ∷ make_calls log p older else make_calls log p older)

-- the drop of an object, if the peer with the label p made it
abbrev pub drop_call : (p : ℕ) → Option Made → List Call
drop_call p None = []
drop_call p (Some m) = (if m.peer == p then Drop m.id ∷ [] else [])

-- what the act drops of the objects that the peer with the label p made
abbrev pub drop_calls : List Made → (p : ℕ) → Act → List Call
drop_calls made p (acts.Drop x) = drop_call p (made_as made x)
drop_calls made p _ = []

-- the calls on the table of the peer with the label p that a journal comes to, both with the newest
-- first
abbrev pub calls_for : List Entry → (p : ℕ) → List Call
calls_for [] p = []
calls_for (e ∷ older) p =
    make_calls (log_of (past_of (e ∷ older))) p (means e (length older + 1) (past_of older)).made
    ++ (drop_calls (past_of older).made p (act_now e older) ++ calls_for older p)

-- the interface and the label of what was made
abbrev pub object_of : Made → Interface × ℕ
object_of m = (m.interface, m.label)

-- the id of what was made with the label, if the peer p made it and it is alive
abbrev pub live_id : List Act → (p label : ℕ) → Option Made → Option ℕ
live_id log p label None = None
live_id log p label (Some m) = (if (m.peer == p) && alive log label then Some m.id else None)

-- the id of the peer's live object with the label
abbrev pub id_now : Past → (p label : ℕ) → Option ℕ
id_now past p label = live_id (log_of past) p label (made_as past.made label)

-- what is under an id of a live peer's table is what the id names
abbrev pub FoundById : Type 0
FoundById =
    (journal : List Entry) (p id : ℕ) → is_peer (log_of (past_of journal)) p ≡ true →
    object_under (calls_for journal p) id ≡ option_map object_of (object_at (past_of journal) p id)

-- the id of a label on a live peer's table is that of its live object with the label
abbrev pub FoundByLabel : Type 0
FoundByLabel =
    (journal : List Entry) (p label : ℕ) → is_peer (log_of (past_of journal)) p ≡ true →
    id_of (calls_for journal p) label ≡ id_now (past_of journal) p label

-- a live peer's table has as many live objects as the peer, the display with them
abbrev pub CountedLive : Type 0
CountedLive =
    (journal : List Entry) (p : ℕ) → is_peer (log_of (past_of journal)) p ≡ true →
    table.number_live (calls_for journal p) ≡ number_live (past_of journal) p + 1
