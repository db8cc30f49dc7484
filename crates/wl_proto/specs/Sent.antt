-- Messages that clients send, each to an object.
use Rattle.std.specs.Prelude.{ℕ, ℤ, List, [], ◌∷◌}
use Rattle.wl_proto.specs.declared.interface.Interface.{Interface}
use Rattle.wl_proto.specs.declared.interface.Interface.TheVariants.{Registry, TextInput, InputMethod}
use Rattle.wl_proto.specs.Grammar.{word, signed, text}
use Rattle.wl_proto.specs.Names.{name_of}
use Rattle.wl_proto.specs.Rows.{Message, message}

-- a message, and the id of the object that it is sent to
pub record Sent : Type 0 where
  pub object : ℕ
  pub message : Message

abbrev pub to : ℕ → Message → Sent
to id m = record { object = id; message = m }

-- wl_registry.bind of the global with this name, in version 1
abbrev pub bind : ℕ → Interface → ℕ → Message
bind name interface id =
    message Registry 0 (word name ∷ text (name_of interface) ∷ word 1 ∷ word id ∷ [])

-- zwp_text_input_v3.set_surrounding_text with cursor and anchor at one place
abbrev pub set_surrounding_text : List ℕ → ℤ → Message
set_surrounding_text t place = message TextInput 3 (text t ∷ signed place ∷ signed place ∷ [])

-- zwp_input_method_v2.commit_string
abbrev pub commit_string : List ℕ → Message
commit_string t = message InputMethod 0 (text t ∷ [])

-- zwp_input_method_v2.set_preedit_string
abbrev pub set_preedit_string : List ℕ → ℤ → ℤ → Message
set_preedit_string t begin end = message InputMethod 1 (text t ∷ signed begin ∷ signed end ∷ [])
