-- The same that makes a line good, computed.
use Rattle.std.specs.Prelude.{◌≡◌, ℕ, ◌==◌, ◌&&◌, ◌++◌, Bool, true, false, if◌then◌else◌, List, [], ◌∷◌, Option, Some, None, is_none, Result, Ok}
use Rattle.std.specs.Ordering.{int_eq}
use Rattle.std.specs.Str.{bytes_eq}
use Rattle.wl_proto.specs.Messages.{bad_size}
use Rattle.wl_proto.specs.declared.interface.Interface.{Interface}
use Rattle.wl_proto.specs.declared.interface.Interface.TheVariants.{TextInput}
use Rattle.wl_proto.specs.declared.refuse.Refuse.{Refuse}
use Rattle.wl_proto.specs.Grammar.{Value, word, signed, text, null, token}
use Rattle.wl_proto.specs.Rows.{Message}
use Rattle.broker_model.specs.declared.journal.Entry.{Entry}
use Rattle.broker_model.specs.Ids.{Joined}
use Rattle.audit_fields.specs.Heard.{Heard, heard}
use Rattle.audit_fields.specs.Gathering.{is_app}
use Rattle.audit_run.specs.declared.audit_line.AuditLine.{AuditLine}
use Rattle.audit_run.specs.Judged.{IsGood, journal_of, owed, peer_of, sent}

-- both are the same argument
abbrev pub same_value : Value → Value → Bool
same_value (word a) (word b) = a == b
same_value (signed a) (signed b) = int_eq a b
same_value (text a) (text b) = bytes_eq a b
same_value null null = true
same_value (token a) (token b) = a == b
same_value _ _ = false

-- both are the same arguments, in order
abbrev pub same_values : List Value → List Value → Bool
same_values [] [] = true
same_values (v ∷ vs) (w ∷ ws) = same_value v w && same_values vs ws
same_values _ _ = false

-- the interface is that of text inputs
abbrev pub is_text_input : Interface → Bool
is_text_input TextInput = true
is_text_input _ = false

-- both are the same message to a text input
abbrev pub same_message : Message → Message → Bool
same_message m n =
    (is_text_input m.interface && is_text_input n.interface)
    && ((m.opcode == n.opcode) && same_values m.values n.values)

-- neither is malformed, and both are the same
abbrev pub same_reading : Result Message Refuse → Result Message Refuse → Bool
same_reading (Ok m) (Ok n) = same_message m n
same_reading _ _ = false

-- all of what was heard is well, and a front of what is told
abbrev pub is_front : (heard told : List Heard) → Bool
is_front [] told = true
is_front (h ∷ hs) [] = false
is_front (h ∷ hs) (t ∷ ts) = (h.id == t.id) && (same_reading h.reading t.reading && is_front hs ts)

-- what was sent has no bad size, and says a front of what is told
abbrev pub is_like : (told sent : List ℕ) → Bool
is_like told all = is_none (bad_size all) && is_front (heard all) (heard told)

-- all that was sent to an application that joined is like what it is told
abbrev pub is_good_for : List Entry → Option Joined → List ℕ → Bool
is_good_for journal None all = true
is_good_for journal (Some peer) all =
    (if is_app peer.role then is_like (owed journal peer) all else true)

-- the bytes are what the peer q is owed after these lines
abbrev pub is_good : ℕ → List ℕ → List AuditLine → Bool
is_good q bytes lines = is_good_for (journal_of lines) (peer_of lines q) (sent lines q ++ bytes)

-- both say the same of all lines
abbrev pub GoodIsComputed : Type 0
GoodIsComputed =
    (q : ℕ) (bytes : List ℕ) (lines : List AuditLine) →
    (is_good q bytes lines ≡ true → IsGood q bytes lines)
    × (IsGood q bytes lines → is_good q bytes lines ≡ true)
