-- The line of an event that is told.
use Rattle.std.specs.Prelude.{ℕ, List, [], ◌∷◌, ◌++◌, codes}
use Rattle.std.specs.List.{join_with_byte}
use Rattle.std.specs.Fmt.{decimal, signed_decimal}
use Rattle.wl_proto.specs.Names.{name_of}
use Rattle.relay_model.specs.declared.said.Told.{Told}
use Rattle.relay_model.specs.declared.said.Said.{Said}
use Rattle.relay_model.specs.declared.said.Said.TheVariants as said
use Rattle.relay_model.specs.Faults.{code_of, text_of}
use Rattle.session_text.specs.Words.{hex_word}

-- the event's name in its protocol, and its arguments in their order
abbrev pub said_words : Said → List (List ℕ)
said_words (said.Enter surface) = codes "enter" ∷ decimal surface ∷ []
said_words (said.Leave surface) = codes "leave" ∷ decimal surface ∷ []
said_words (said.Preedit text begin end) =
    codes "preedit_string" ∷ hex_word text ∷ signed_decimal begin ∷ signed_decimal end ∷ []
said_words (said.CommitString text) = codes "commit_string" ∷ hex_word text ∷ []
said_words (said.Delete before after) =
    codes "delete_surrounding_text" ∷ decimal before ∷ decimal after ∷ []
said_words (said.FieldDone serial) = codes "done" ∷ decimal serial ∷ []
said_words said.Activate = codes "activate" ∷ []
said_words said.Deactivate = codes "deactivate" ∷ []
said_words (said.Surrounding text cursor anchor) =
    codes "surrounding_text" ∷ hex_word text ∷ decimal cursor ∷ decimal anchor ∷ []
said_words (said.ChangeCause cause) = codes "text_change_cause" ∷ decimal cause ∷ []
said_words (said.ContentType hint purpose) =
    codes "content_type" ∷ decimal hint ∷ decimal purpose ∷ []
said_words said.MethodDone = codes "done" ∷ []
said_words said.Unavailable = codes "unavailable" ∷ []
said_words (said.PopupRect x y width height) =
    codes "text_input_rectangle" ∷ signed_decimal x ∷ signed_decimal y ∷ signed_decimal width ∷
    signed_decimal height ∷ []
said_words (said.Keymap keymap) =
    codes "keymap" ∷ decimal keymap.format ∷ decimal keymap.token ∷ decimal keymap.size ∷ []
said_words (said.Key serial time key state) =
    codes "key" ∷ decimal serial ∷ decimal time ∷ decimal key ∷ decimal state ∷ []
said_words (said.Mods serial mods) =
    codes "modifiers" ∷ decimal serial ∷ decimal mods.depressed ∷ decimal mods.latched ∷
    decimal mods.locked ∷ decimal mods.group ∷ []
said_words (said.Repeat repeat) =
    codes "repeat_info" ∷ signed_decimal repeat.rate ∷ signed_decimal repeat.delay ∷ []
said_words (said.Global name interface version) =
    codes "global" ∷ decimal name ∷ name_of interface ∷ decimal version ∷ []
said_words (said.CallbackDone value) = codes "done" ∷ decimal value ∷ []
said_words (said.DeleteId label) = codes "delete_id" ∷ decimal label ∷ []
said_words (said.Capabilities value) = codes "capabilities" ∷ decimal value ∷ []
said_words (said.Error object fault) =
    codes "error" ∷ decimal object ∷ decimal (code_of fault) ∷ hex_word (text_of fault) ∷ []
said_words (said.Pass time key state) =
    codes "pass" ∷ decimal time ∷ decimal key ∷ decimal state ∷ []
said_words (said.VMods mods) = codes "vmods" ∷ decimal mods.depressed ∷ decimal mods.latched ∷
    decimal mods.locked ∷ decimal mods.group ∷ []
said_words (said.Placed popup x y) =
    codes "placed" ∷ decimal popup ∷ signed_decimal x ∷ signed_decimal y ∷ []

-- the line of an event, without its line feed: the number of the act that tells it, the label that
-- it is told to, the event
abbrev pub told_line : ℕ → Told → List ℕ
told_line number told = join_with_byte 32 (decimal number ∷ decimal told.to ∷ said_words told.event)

-- words that go on a line, each after a space
abbrev pub spaced : List (List ℕ) → List ℕ
spaced [] = []
spaced (word ∷ words) = 32 ∷ (word ++ spaced words)
