-- What an act tells a peer, as bytes.
use Rattle.std.specs.Prelude.{ℕ, ◌+◌, List, [], ◌∷◌, ◌++◌, length, map, ◌==◌, if◌then◌else◌, Option, Some, None}
use Rattle.wl_proto.specs.declared.interface.Interface.TheVariants as interface
use Rattle.wl_proto.specs.Grammar.{Value, word, signed, text, token}
use Rattle.wl_proto.specs.Names.{name_of}
use Rattle.wl_proto.specs.Rows.{Message, message}
use Rattle.wl_proto.specs.Spelling.{message_bytes}
use Rattle.relay_model.specs.declared.said.Told.{Told}
use Rattle.relay_model.specs.declared.said.Said.{Said}
use Rattle.relay_model.specs.declared.said.Said.TheVariants as said
use Rattle.relay_model.specs.Faults.{code_of, text_of}
use Rattle.broker_model.specs.Ids.{Made, made_as}

-- a token, and at which byte its message begins
pub record Token : Type 0 where
  pub offset : ℕ
  pub token : ℕ

-- a token as a pair of its offset and its number
abbrev pub pair_of : Token → ℕ × ℕ
pair_of t = (t.offset, t.token)

-- the token that such a pair is
abbrev pub token_of_pair : ℕ × ℕ → Token
token_of_pair pair = record { offset = pair.0; token = pair.1 }

-- bytes for a peer, and the tokens that go with them, by rising offset
pub record Piece : Type 0 where
  pub bytes : List ℕ
  pub tokens : List Token

-- no bytes and no tokens
abbrev pub nothing : Piece
nothing = record { bytes = []; tokens = [] }

-- a token behind n more bytes
abbrev pub later : ℕ → Token → Token
later n t = record t { offset = n + t.offset }

-- one piece behind the other
abbrev pub followed_by : Piece → Piece → Piece
followed_by a b =
    record {
      bytes = a.bytes ++ b.bytes;
      tokens = a.tokens ++ map (later (length a.bytes)) b.tokens;
    }

-- the id of what was made, or 0
abbrev pub id_of : Option Made → ℕ
id_of None = 0
id_of (Some m) = m.id

-- the id under which a label was made, as a word
abbrev pub id_word : List Made → ℕ → Value
id_word made label = word (id_of (made_as made label))

-- the message of an event; none of what the shell is told
abbrev pub message_of : List Made → Said → Option Message
message_of made (said.Enter surface) =
    Some (message interface.TextInput 0 (id_word made surface ∷ []))
message_of made (said.Leave surface) =
    Some (message interface.TextInput 1 (id_word made surface ∷ []))
message_of made (said.Preedit t begin end) =
    Some (message interface.TextInput 2 (text t ∷ signed begin ∷ signed end ∷ []))
message_of made (said.CommitString t) = Some (message interface.TextInput 3 (text t ∷ []))
message_of made (said.Delete before after) =
    Some (message interface.TextInput 4 (word before ∷ word after ∷ []))
message_of made (said.FieldDone serial) = Some (message interface.TextInput 5 (word serial ∷ []))
message_of made said.Activate = Some (message interface.InputMethod 0 [])
message_of made said.Deactivate = Some (message interface.InputMethod 1 [])
message_of made (said.Surrounding t cursor anchor) =
    Some (message interface.InputMethod 2 (text t ∷ word cursor ∷ word anchor ∷ []))
message_of made (said.ChangeCause cause) = Some (message interface.InputMethod 3 (word cause ∷ []))
message_of made (said.ContentType hint purpose) =
    Some (message interface.InputMethod 4 (word hint ∷ word purpose ∷ []))
message_of made said.MethodDone = Some (message interface.InputMethod 5 [])
message_of made said.Unavailable = Some (message interface.InputMethod 6 [])
message_of made (said.PopupRect x y width height) =
    Some (message interface.InputPopupSurface 0
    (signed x ∷ signed y ∷ signed width ∷ signed height ∷ []))
message_of made (said.Keymap keymap) =
    Some (message interface.KeyboardGrab 0
    (word keymap.format ∷ token keymap.token ∷ word keymap.size ∷ []))
message_of made (said.Key serial time key state) =
    Some (message interface.KeyboardGrab 1 (word serial ∷ word time ∷ word key ∷ word state ∷ []))
message_of made (said.Mods serial mods) =
    Some (message interface.KeyboardGrab 2
    (word serial ∷ word mods.depressed ∷ word mods.latched ∷ word mods.locked ∷ word mods.group
    ∷ []))
message_of made (said.Repeat repeat) =
    Some (message interface.KeyboardGrab 3 (signed repeat.rate ∷ signed repeat.delay ∷ []))
message_of made (said.Global name i version) =
    Some (message interface.Registry 0 (word name ∷ text (name_of i) ∷ word version ∷ []))
message_of made (said.CallbackDone value) = Some (message interface.Callback 0 (word value ∷ []))
message_of made (said.DeleteId label) = Some (message interface.Display 1 (id_word made label ∷ []))
message_of made (said.Capabilities value) = Some (message interface.Seat 0 (word value ∷ []))
message_of made (said.Error object fault) =
    Some (message interface.Display 0
    (id_word made object ∷ word (code_of fault) ∷ text (text_of fault) ∷ []))
message_of made (said.Pass time key state) = None
message_of made (said.VMods mods) = None
message_of made (said.Placed popup x y) = None

-- the tokens of a message's arguments
abbrev pub tokens_in : List Value → List Token
tokens_in [] = []
tokens_in (token t ∷ vs) = record { offset = 0; token = t } ∷ tokens_in vs
tokens_in (_ ∷ vs) = tokens_in vs

-- a message to the object with an id
abbrev pub message_piece : ℕ → Option Message → Piece
message_piece id None = nothing
message_piece id (Some m) = record { bytes = message_bytes id m; tokens = tokens_in m.values }

-- an event that goes to this object, where it is one of the peer p
abbrev pub event_piece : List Made → ℕ → Said → Option Made → Piece
event_piece made p event None = nothing
event_piece made p event (Some m) =
    (if m.peer == p then message_piece m.id (message_of made event) else nothing)

-- the group of the peer p: what is told to its labels, under their ids
abbrev pub group_for : List Made → ℕ → List Told → Piece
group_for made p [] = nothing
group_for made p (t ∷ rest) =
    followed_by (event_piece made p t.event (made_as made t.to)) (group_for made p rest)

-- events for the object with an id
abbrev pub said_piece : List Made → ℕ → List Said → Piece
said_piece made id [] = nothing
said_piece made id (event ∷ rest) =
    followed_by (message_piece id (message_of made event)) (said_piece made id rest)
