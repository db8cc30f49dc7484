-- The message that a field's event is.
use Rattle.std.specs.Prelude.{[], ◌∷◌}
use Rattle.std.specs.Option.{option_copied}
use Rattle.wl_proto.specs.declared.interface.Interface.TheVariants.{TextInput}
use Rattle.wl_proto.specs.Grammar.{word, signed, string_value}
use Rattle.wl_proto.specs.Rows.{Message, message}
use Rattle.audit_fields.specs.declared.field_event.FieldEvent.{FieldEvent}
use Rattle.audit_fields.specs.declared.field_event.FieldEvent.TheVariants.{Preedit, Commit, Delete, Done}

abbrev pub field_message : FieldEvent → Message
field_message (Preedit text begin end) =
    message TextInput 2 (string_value (option_copied text) ∷ signed begin ∷ signed end ∷ [])
field_message (Commit text) = message TextInput 3 (string_value (option_copied text) ∷ [])
field_message (Delete before after) = message TextInput 4 (word before ∷ word after ∷ [])
field_message (Done serial) = message TextInput 5 (word serial ∷ [])
