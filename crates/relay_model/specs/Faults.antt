-- What a peer is told of a message that is refused.
use Rattle.std.specs.Prelude.{ℕ, List, codes}
use Rattle.relay_model.specs.declared.fault.Fault.{Fault}
use Rattle.relay_model.specs.declared.fault.Fault.TheVariants.{Size, Object, Opcode, Malformed, Argument, NewId, TooMany, Bind, Capability, Role, NoKeymap}

-- the code of the error, a number of the interface of the object that it names: of wl_display 0 is
-- invalid_object, 1 invalid_method and 3 implementation; of wl_seat 0 is missing_capability; of
-- zwp_input_method_v2 0 is role; of zwp_virtual_keyboard_v1 0 is no_keymap
abbrev pub code_of : Fault → ℕ
code_of Size = 1
code_of Object = 0
code_of Opcode = 1
code_of Malformed = 1
code_of Argument = 0
code_of NewId = 0
code_of TooMany = 3
code_of Bind = 0
code_of Capability = 0
code_of Role = 0
code_of NoKeymap = 0

-- the message of the error
abbrev pub text_of : Fault → List ℕ
text_of Size = codes "bad size"
text_of Object = codes "unknown object"
text_of Opcode = codes "unknown opcode"
text_of Malformed = codes "malformed request"
text_of Argument = codes "wrong object"
text_of NewId = codes "bad new id"
text_of TooMany = codes "too many objects"
text_of Bind = codes "no such global"
text_of Capability = codes "missing capability"
text_of Role = codes "surface has a role"
text_of NoKeymap = codes "no keymap"
