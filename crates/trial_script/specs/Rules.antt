-- What a script's lines say of keys, and when the rules have a place for it.
use Rattle.std.specs.Prelude.{◌≡◌, ℕ, ◌==◌, ◌||◌, not, Bool, true, false, if◌then◌else◌, List, length, Option, Some, None, is_some, Result, Ok, Err, IfOk, IfSome, IfNone, OnOk}
use Rattle.wio_core.specs.declared.NoMemory.{NoMemory}
use Rattle.compose_method.specs.declared.table.TableRefusal.{TableRefusal}
use Rattle.compose_method.specs.declared.table.TableRefusal.TheVariants as refusals
use Rattle.compose_method.specs.Table.{empty_table, has_single, clashes, single, entry, with_single, with_entry}
use Rattle.dict_method.specs.Dictionary.{empty_dictionary, clashes_word, clashes_control, word, control, with_word, with_control}
use Rattle.dict_method.specs.declared.control.Control.{Control}
use Rattle.dict_method.specs.declared.control.Control.TheVariants.{Choose, Erase}
use Rattle.trial_script.specs.declared.line.Line.{Line}
use Rattle.trial_script.specs.declared.line.Line.TheVariants as lines
use Rattle.trial_script.specs.declared.rules.KeyRules.{KeyRules}

abbrev pub no_rules : KeyRules
no_rules = record { table = empty_table; dict = empty_dictionary }

-- there are words, or sequences
abbrev pub has_words : KeyRules → Bool
has_words r = not (length r.dict.words == 0)

abbrev pub has_sequences : KeyRules → Bool
has_sequences r = not (length r.table.entries == 0)

-- the table has no place for the key's text
abbrev pub refuses_single : KeyRules → ℕ → Bool
refuses_single r key = has_single r.table key || length r.table.singles == 1024

-- there are words, or the table has no place for the sequence
abbrev pub refuses_sequence : KeyRules → List ℕ → Bool
refuses_sequence r keys = has_words r || (clashes r.table keys || length r.table.entries == 4096)

-- there are sequences, or the dictionary has no place for the word
abbrev pub refuses_word : KeyRules → List ℕ → Bool
refuses_word r keys = has_sequences r || (clashes_word r.dict keys || length r.dict.words == 16384)

-- the rules with a text of a key, with a sequence, with a word, or with a control key
abbrev pub plus_single : KeyRules → ℕ → List ℕ → KeyRules
plus_single r key text = record { table = with_single (single key text) r.table; dict = r.dict }

abbrev pub plus_sequence : KeyRules → List ℕ → List ℕ → KeyRules
plus_sequence r text keys = record { table = with_entry (entry text keys) r.table; dict = r.dict }

abbrev pub plus_word : KeyRules → List ℕ → List ℕ → KeyRules
plus_word r text keys = record { table = r.table; dict = with_word (word text keys) r.dict }

abbrev pub plus_control : KeyRules → ℕ → Control → KeyRules
plus_control r key what = record { table = r.table; dict = with_control (control key what) r.dict }

-- other rules, where these don't refuse what they have more
abbrev pub unless : Bool → KeyRules → Option KeyRules
unless refused r = if refused then None else Some r

-- the rules with what the line says of keys, where they have a place for it
abbrev pub with_entry_of : KeyRules → Line → Option KeyRules
with_entry_of r (lines.Single key text) = unless (refuses_single r key) (plus_single r key text)
with_entry_of r (lines.Compose text keys) =
    unless (refuses_sequence r keys) (plus_sequence r text keys)
with_entry_of r (lines.Word text keys) = unless (refuses_word r keys) (plus_word r text keys)
with_entry_of r (lines.Choose key n) =
    unless (clashes_control r.dict key (Choose n)) (plus_control r key (Choose n))
with_entry_of r (lines.Erase key) =
    unless (clashes_control r.dict key Erase) (plus_control r key Erase)
with_entry_of r _ = None

-- the same of bytes that may be no line
abbrev pub with_line : KeyRules → Option Line → Option KeyRules
with_line r None = None
with_line r (Some line) = with_entry_of r line

-- whether what was to be put had a place
abbrev pub had_place : Result Unit TableRefusal → Result Bool NoMemory
had_place (Ok u) = Ok true
had_place (Err refusals.Clash) = Ok false
had_place (Err refusals.TooMany) = Ok false
had_place (Err refusals.NoMemory) = Err (record {})

-- where there was memory, the rules are the new ones, if they are others, and it is answered
-- whether they are
pub record ArePut (to : Option KeyRules) (put : Result Bool NoMemory)
    (old new : KeyRules) : Type 0 where
  pub answer : IfOk put (λ put. put ≡ is_some to)
  pub with : OnOk put (IfSome to (λ r. new ≡ r))
  pub same : OnOk put (IfNone to (new ≡ old))
