-- What an act is, in words for people.
use Rattle.std.specs.Prelude.{ℕ, List, [], ◌++◌, ◌==◌, if◌then◌else◌, codes, Some, None}
use Rattle.std.specs.Fmt.{decimal}
use Rattle.relay_model.specs.declared.act.Act.{Act}
use Rattle.relay_model.specs.declared.act.Act.TheVariants as acts
use Rattle.relay_model.specs.declared.act.EndCause.{EndCause}
use Rattle.relay_model.specs.declared.act.EndCause.TheVariants as causes
use Rattle.relay_model.specs.declared.fault.Fault.{Fault}
use Rattle.relay_model.specs.declared.fault.Fault.TheVariants as faults
use Rattle.relay_model.specs.Faults.{text_of}
use Rattle.lines_explained.specs.declared.deed.Source.{Source}
use Rattle.lines_explained.specs.declared.deed.Source.TheVariants as sources
use Rattle.lines_explained.specs.Phrase.{phrase}

-- whose act it is: peers by their numbers, and the object that a message was sent to by its id
abbrev pub source_words : Source → List ℕ
source_words (sources.Peer q) = phrase (codes " peer") (Some q) (codes ": ") None
source_words (sources.Object q id opcode) =
    phrase (codes " peer") (Some q) (codes " to object") (Some id) ++ codes ": "
source_words (sources.Head q id opcode size) =
    phrase (codes " peer") (Some q) (codes " to object") (Some id) ++ codes ": "
source_words sources.Shell = codes " shell: "

-- why a peer ends
abbrev pub end_words : EndCause → List ℕ
end_words causes.Gone = codes "ends, its link ended"
end_words causes.Bad = codes "ends, a message of it was refused"
end_words causes.Full = codes "ends, a group did not fit its store"

-- a request of the opcode has one argument that is an object: get_input_popup_surface (4) a surface,
-- the others a seat
abbrev pub argument_rule : (opcode : ℕ) → List ℕ
argument_rule opcode =
    (if opcode == 4 then codes ": its surface is 0, not live or of another interface"
    else codes ": its seat is 0, not live or of another interface")

-- the rule that a refused message breaks
abbrev pub rule_of : Fault → List ℕ
rule_of faults.Size = codes ": a message has 8 to 4096 bytes, a multiple of 4"
rule_of faults.Object = codes ": the id names no live object"
rule_of faults.Opcode = codes ": the object's interface has no such request"
rule_of faults.Malformed = codes ": its bytes spell no arguments of it, or a key's state above 1"
rule_of faults.Argument = codes ": an object argument is 0, not live or of another interface"
rule_of faults.NewId = codes ": the new id is 0, above 4278190079 or live"
rule_of faults.TooMany = codes ": 256 objects of the peer are live"
rule_of faults.Bind = codes ": no global with this name, interface and version is offered"
rule_of faults.Capability = codes ": the seat has no pointer, keyboard or touch"
rule_of faults.Role = codes ": the surface has a popup"
rule_of faults.NoKeymap = codes ": the board has had no keymap"

-- which message it was, as far as its header tells
abbrev pub message_words : Source → List ℕ
message_words (sources.Object q id opcode) =
    phrase (codes "message") (Some opcode) (codes " is refused: ") None
message_words (sources.Head q id opcode size) =
    phrase (codes "message") (Some opcode) (codes " of size") (Some size) ++ codes " is refused: "
message_words (sources.Peer q) = codes "a message is refused: "
message_words sources.Shell = codes "a message is refused: "

-- the same of a message with the opcode
abbrev pub rule_by : ℕ → Fault → List ℕ
rule_by opcode faults.Argument = argument_rule opcode
rule_by opcode fault = rule_of fault

-- and of whose it is
abbrev pub rule_for : Source → Fault → List ℕ
rule_for (sources.Object q id opcode) fault = rule_by opcode fault
rule_for (sources.Head q id opcode size) fault = rule_of fault
rule_for (sources.Peer q) fault = rule_of fault
rule_for sources.Shell fault = rule_of fault

-- which message is refused and why, in the words that its sender is told, and the rule
abbrev pub refusal_words : Source → Fault → List ℕ
refusal_words source fault = message_words source ++ (text_of fault ++ rule_for source fault)

-- what asks nothing of the seat: descriptors that a peer sends ahead, a request that has no part
-- here, and a moment
abbrev pub idle_words : Source → List ℕ
idle_words (sources.Peer q) = codes "descriptors come"
idle_words (sources.Object q id opcode) =
    phrase (codes "message") (Some opcode) (codes " asks nothing") None
idle_words (sources.Head q id opcode size) = codes "nothing"
idle_words sources.Shell = codes "nothing"

-- what a peer does that makes no object of the relay
abbrev pub peer_words : Source → Act → List ℕ
peer_words source acts.Peer = codes "joins"
peer_words source (acts.Gone p cause) = end_words cause
peer_words source (acts.Registry p role) = codes "get_registry"
peer_words source (acts.Sync p) = codes "sync"
peer_words source (acts.Seat p) = codes "binds the seat"
peer_words source (acts.Thing p) = codes "binds a global"
peer_words source (acts.Bad p fault x) = refusal_words source fault
peer_words source (acts.Took p bytes) = phrase (codes "takes") (Some bytes) (codes " bytes") None
peer_words source acts.Idle = idle_words source
peer_words source _ = []

-- what is made or destroyed: an object is named by the number of the act that made it
abbrev pub object_words : ℕ → Act → List ℕ
object_words n (acts.Surface p) = phrase (codes "makes surface") (Some n) (codes "") None
object_words n (acts.Field p) = phrase (codes "makes field") (Some n) (codes "") None
object_words n (acts.Method p) = phrase (codes "makes method") (Some n) (codes "") None
object_words n (acts.Popup m s) = phrase (codes "makes popup") (Some n) (codes "") None
object_words n (acts.Grab m) = phrase (codes "makes grab") (Some n) (codes "") None
object_words n (acts.VBoard p) = phrase (codes "makes board") (Some n) (codes "") None
object_words n (acts.Drop x) = phrase (codes "object") (Some x) (codes " is destroyed") None
object_words n _ = []

-- a key, and whether it is pressed: any state but 1 is a release
abbrev pub key_words : (key : ℕ) (state : ℕ) → List ℕ
key_words key state =
    phrase (codes "key") (Some key) (if state == 1 then codes " pressed" else codes " released")
    None

-- what the shell says
abbrev pub shell_words : Act → List ℕ
shell_words (acts.Focus s) = phrase (codes "focus on surface") (Some s) (codes "") None
shell_words acts.Unfocus = codes "focus on nothing"
shell_words (acts.Area s rect) = phrase (codes "area of surface") (Some s) (codes "") None
shell_words (acts.Screen size) = codes "screen"
shell_words (acts.Key time key state) = key_words key state
shell_words (acts.Mods mods) = codes "modifiers"
shell_words (acts.Keymap keymap) = codes "keymap"
shell_words (acts.Repeat repeat) = codes "repeat of keys"
shell_words _ = []

-- what is asked of a field
abbrev pub field_words : Act → List ℕ
field_words (acts.Enable f) = phrase (codes "field") (Some f) (codes " enable") None
field_words (acts.Disable f) = phrase (codes "field") (Some f) (codes " disable") None
field_words (acts.Surround f text cursor anchor) =
    phrase (codes "field") (Some f) (codes " set_surrounding_text") None
field_words (acts.Cause f cause) =
    phrase (codes "field") (Some f) (codes " set_text_change_cause") None
field_words (acts.Content f hint purpose) =
    phrase (codes "field") (Some f) (codes " set_content_type") None
field_words (acts.Cursor f rect) =
    phrase (codes "field") (Some f) (codes " set_cursor_rectangle") None
field_words (acts.Commit f) = phrase (codes "field") (Some f) (codes " commit") None
field_words _ = []

-- what is asked of a method, and of a board
abbrev pub method_words : Act → List ℕ
method_words (acts.MString m text) = phrase (codes "method") (Some m) (codes " commit_string") None
method_words (acts.MPreedit m text begin end) =
    phrase (codes "method") (Some m) (codes " set_preedit_string") None
method_words (acts.MDelete m before after) =
    phrase (codes "method") (Some m) (codes " delete_surrounding_text") None
method_words (acts.MCommit m serial) =
    phrase (codes "method") (Some m) (codes " commit") (Some serial)
method_words (acts.VKeymap v keymap) = phrase (codes "board") (Some v) (codes " keymap") None
method_words (acts.VKey v time key state) =
    phrase (codes "board") (Some v) (codes " ") None ++ key_words key state
method_words (acts.VMods v mods) = phrase (codes "board") (Some v) (codes " modifiers") None
method_words _ = []

-- the act with the number n: it is of one of these kinds, and the others have no words for it
abbrev pub deed : ℕ → Source → Act → List ℕ
deed n source act =
    peer_words source act
    ++ (object_words n act ++ (shell_words act ++ (field_words act ++ method_words act)))

-- how a line begins: the act's number, whose it is, and what it is
abbrev pub begun : ℕ → Source → Act → List ℕ
begun n source act = decimal n ++ (source_words source ++ deed n source act)
