-- Every script that is read has texts of bytes.
use Rattle.std.proofs.Common.{◌≡◌, ℕ, ◌+◌, Bool, true, false, List, [], ◌∷◌, take, drop, Option, Some, None, refl, sym, subst, arith}
use Rattle.std.specs.Prelude.{nat_le, All, nat_lt, insert}
use Rattle.std.specs.List.{AllByRecursion, prefix_len}
use Rattle.std.proofs.lemmas.List.Elements.{All-append, All-cons, All-nil, All-take, All-drop}
use Rattle.wl_wire.specs.Texts.{IsBytes}
use Rattle.compose_method.specs.Order.{up_to}
use Rattle.compose_method.specs.declared.entries.Entry.{Entry}
use Rattle.compose_method.specs.declared.singles.Single.{Single}
use Rattle.compose_method.specs.Table.{Table, single, entry, with_single, with_entry}
use Rattle.dict_method.specs.Dictionary.{word, clashes_control}
use Rattle.dict_method.specs.declared.control.Control.TheVariants as controls
use Rattle.dict_method.specs.declared.word.Word.{Word}
use Rattle.trial_script.specs.declared.action.Action.{Action}
use Rattle.trial_script.specs.declared.action.Action.TheVariants as actions
use Rattle.trial_script.specs.declared.action.FieldEdit.TheVariants as edits
use Rattle.trial_script.specs.declared.line.Line.{Line}
use Rattle.trial_script.specs.declared.line.Line.TheVariants as lines
use Rattle.trial_script.specs.declared.rules.KeyRules.{KeyRules}
use Rattle.trial_script.specs.declared.script.Script.{Script}
use Rattle.trial_script.specs.Grammar.{IsAction, AreEdits, HasParts}
use Rattle.trial_script.specs.Lines.{lines_of}
use Rattle.trial_script.specs.Reading.{line_of}
use Rattle.trial_script.specs.Rules.{no_rules, has_words, refuses_single, refuses_sequence, refuses_word, plus_word, unless, with_entry_of}
use Rattle.trial_script.specs.Scripts.{Rest, found_action, found_of, by_found, actions_of, field_named, by_rules, by_entry, script_from, by_header, script_of_lines, script_of}
use Rattle.trial_script.proofs.ScriptsReadBack.{reads_only}
use Rattle.trial_run.specs.Trial.{typist_by}
use Rattle.trial_laws.specs.RelayedAsBatches.{HasByteTexts, AreByteKeys, TypesBytes, IsOfBytes, ScriptsAreOfBytes}

-- ---- lines

abbrev IsByteLine : Line → Type 0
IsByteLine (lines.Single key text) = IsBytes text
IsByteLine (lines.Compose text keys) = IsBytes text
IsByteLine (lines.Word text keys) = IsBytes text
IsByteLine (lines.Act action) = HasByteTexts action
IsByteLine _ = Unit {0}

action_bytes : (action : Action) → IsAction action → HasByteTexts action
action_bytes (actions.Batch b) h = (let e : AreEdits b = h in (e.string.0.1, e.preedit.0.1))
action_bytes (actions.Edit f (edits.Insert text)) h = h.1.0.1
action_bytes _ h = tt

parts_bytes : (line : Line) → HasParts line → IsByteLine line
parts_bytes (lines.Single key text) h = h.1.0.0.1
parts_bytes (lines.Compose text keys) h = h.0.0.0.1
parts_bytes (lines.Word text keys) h = h.0.0.0.1
parts_bytes (lines.Act action) h = action_bytes action h
parts_bytes _ h = tt

line_bytes : (raw : List ℕ) (line : Line) → line_of raw ≡ Some line → IsByteLine line
line_bytes raw line e = parts_bytes line (reads_only raw line e).1.0

-- ---- actions

abbrev HasByteActions : Rest → Type 0
HasByteActions rest = AllByRecursion HasByteTexts rest.actions

found_bytes : (fields number : ℕ) (o : Option Line) (rest : Rest) → ((line : Line) → o ≡ Some line → IsByteLine line) →
    HasByteActions rest →
    HasByteActions (by_found number (found_of fields o) rest)
found_bytes fields number None rest h k = tt
found_bytes fields number (Some (lines.Act action)) rest h k = by (nat_le (field_named action) fields) refl
  where
    by : (b : Bool) → nat_le (field_named action) fields ≡ b →
        HasByteActions (by_found number (found_action fields action) rest)
    by true e = rw e (h (lines.Act action) refl, k)
    by false e = rw e tt
found_bytes fields number (Some lines.End) rest h k = tt
found_bytes fields number (Some line) rest h k = tt

actions_bytes : (fields number : ℕ) (raws : List (List ℕ)) → HasByteActions (actions_of fields number raws)
unfolding actions_of
actions_bytes fields number [] = tt
actions_bytes fields number (raw ∷ more) =
    found_bytes fields number (line_of raw) (actions_of fields (number + 1) more) (line_bytes raw)
    (actions_bytes fields (number + 1) more)

-- ---- the table

inserted : {X : Type 0} (P : X → Type 0) (xs : List X) (i : ℕ) (y : X) → All P xs → P y → All P (insert xs i y)
inserted P xs i y all one = All-append P (take i xs) (y ∷ drop i xs) (All-take P i xs all)
    (All-cons P y (drop i xs) one (All-drop P i xs all))

single_in : (key : ℕ) (text : List ℕ) (t : Table) → IsBytes text → AreByteKeys t →
    AreByteKeys (with_single (single key text) t)
single_in key text t h k =
    let n : ℕ = prefix_len (λ x. nat_lt x.key key) t.singles in
    record {
      singles = inserted (λ (s : Single). IsBytes s.text) t.singles n (single key text) k.singles h;
      entries = k.entries;
    }

entry_in : (text keys : List ℕ) (t : Table) → IsBytes text → AreByteKeys t →
    AreByteKeys (with_entry (entry text keys) t)
entry_in text keys t h k =
    let n : ℕ = prefix_len (λ x. up_to x.keys keys) t.entries in
    record {
      singles = k.singles;
      entries = inserted (λ (e : Entry). IsBytes e.text) t.entries n (entry text keys) k.entries h;
    }

-- ---- the rules of keys

record AreByteRules (r : KeyRules) : Type 0 where
  pub keys : AreByteKeys r.table
  pub words : All (λ w. IsBytes w.text) r.dict.words

word_in : (text keys : List ℕ) (r : KeyRules) → IsBytes text → AreByteRules r → AreByteRules (plus_word r text keys)
word_in text keys r h k = record {
  keys = k.keys;
  words = All-append (λ (w : Word). IsBytes w.text) r.dict.words (word text keys ∷ []) k.words
      (All-cons (λ (w : Word). IsBytes w.text) (word text keys) [] h (All-nil (λ (w : Word). IsBytes w.text)));
}

-- by its rules a method types bytes
typist_types : (r : KeyRules) → AreByteRules r → TypesBytes (typist_by r)
typist_types r h = by (has_words r) refl
  where
    by : (b : Bool) → has_words r ≡ b → TypesBytes (typist_by r)
    by true e = rw e (h.keys, h.words)
    by false e = rw e h.keys

abbrev WhereBytes : Option KeyRules → Type 0
WhereBytes None = Unit {0}
WhereBytes (Some r) = AreByteRules r

where_bytes : (b : Bool) (r : KeyRules) → AreByteRules r → WhereBytes (unless b r)
where_bytes true r h = tt
where_bytes false r h = h

entry_bytes : (r : KeyRules) (line : Line) → IsByteLine line → AreByteRules r → WhereBytes (with_entry_of r line)
entry_bytes r (lines.Single key text) h k =
    where_bytes (refuses_single r key) _ (record { keys = single_in key text r.table h k.keys; words = k.words })
entry_bytes r (lines.Compose text keys) h k =
    where_bytes (refuses_sequence r keys) _ (record { keys = entry_in text keys r.table h k.keys; words = k.words })
entry_bytes r (lines.Word text keys) h k = where_bytes (refuses_word r keys) _ (word_in text keys r h k)
entry_bytes r (lines.Choose key n) h k =
    where_bytes (clashes_control r.dict key (controls.Choose n)) _ (record { keys = k.keys; words = k.words })
entry_bytes r (lines.Erase key) h k =
    where_bytes (clashes_control r.dict key controls.Erase) _ (record { keys = k.keys; words = k.words })
entry_bytes r _ h k = tt

-- ---- the whole

ended : (r : KeyRules) (actions : List Action) (s : Script) → s.rules ≡ r → s.actions ≡ actions → AreByteRules r →
    AllByRecursion HasByteTexts actions → IsOfBytes s
ended r all s e f h k =
    record { typist = subst (λ q. TypesBytes (typist_by q)) (sym e) (typist_types r h); actions = rw f k }

by_bytes : (r : KeyRules) (number : ℕ) (o : Option KeyRules) (next : KeyRules → Script) → AreByteRules r →
    WhereBytes o →
    ((with : KeyRules) → AreByteRules with → IsOfBytes (next with)) → IsOfBytes (by_rules r number o next)
by_bytes r number None next h k f = ended r [] _ refl refl h tt
by_bytes r number (Some with) next h k f = f with k

begun_bytes : (r : KeyRules) (number : ℕ) (o : Option Line) (next : KeyRules → Script) (play : ℕ → Rest) →
    AreByteRules r → ((line : Line) → o ≡ Some line → IsByteLine line) →
    ((with : KeyRules) → AreByteRules with → IsOfBytes (next with)) →
    ((n : ℕ) → HasByteActions (play n)) → IsOfBytes (by_entry r number o next play)
begun_bytes r number None next play h l f g = ended r [] _ refl refl h tt
begun_bytes r number (Some (lines.Fields n)) next play h l f g = ended r (play n).actions _ refl refl h (g n)
begun_bytes r number (Some (lines.Single key text)) next play h l f g =
    by_bytes r number _ next h (entry_bytes r (lines.Single key text) (l (lines.Single key text) refl) h) f
begun_bytes r number (Some (lines.Compose text keys)) next play h l f g =
    by_bytes r number _ next h (entry_bytes r (lines.Compose text keys) (l (lines.Compose text keys) refl) h) f
begun_bytes r number (Some (lines.Word text keys)) next play h l f g =
    by_bytes r number _ next h (entry_bytes r (lines.Word text keys) (l (lines.Word text keys) refl) h) f
begun_bytes r number (Some (lines.Choose key n)) next play h l f g =
    by_bytes r number _ next h (entry_bytes r (lines.Choose key n) tt h) f
begun_bytes r number (Some (lines.Erase key)) next play h l f g =
    by_bytes r number _ next h (entry_bytes r (lines.Erase key) tt h) f
begun_bytes r number (Some lines.Header) next play h l f g = by_bytes r number None next h tt f
begun_bytes r number (Some (lines.Act action)) next play h l f g = by_bytes r number None next h tt f
begun_bytes r number (Some lines.End) next play h l f g = by_bytes r number None next h tt f

from_bytes : (r : KeyRules) (number : ℕ) (raws : List (List ℕ)) → AreByteRules r → IsOfBytes (script_from r number raws)
unfolding script_from
from_bytes r number [] h = ended r [] _ refl refl h tt
from_bytes r number (raw ∷ more) h =
    begun_bytes r number (line_of raw) (λ with. script_from with (number + 1) more)
    (λ n. actions_of n (number + 1) more) h (line_bytes raw)
    (λ with k. from_bytes with (number + 1) more k) (λ n. actions_bytes n (number + 1) more)

no_rules_yet : AreByteRules no_rules
no_rules_yet = record {
  keys = record { singles = λ k d l. absurd (omega arith); entries = λ k d l. absurd (omega arith) };
  words = λ k d l. absurd (omega arith);
}

header_bytes : (o : Option Line) (more : List (List ℕ)) → IsOfBytes (by_header o more)
header_bytes (Some lines.Header) more = from_bytes no_rules 2 more no_rules_yet
header_bytes None more = ended no_rules [] _ refl refl no_rules_yet tt
header_bytes (Some line) more = ended no_rules [] _ refl refl no_rules_yet tt

lines_bytes : (raws : List (List ℕ)) → IsOfBytes (script_of_lines raws)
lines_bytes [] = ended no_rules [] _ refl refl no_rules_yet tt
lines_bytes (raw ∷ more) = header_bytes (line_of raw) more

pub scripts_of_bytes : ScriptsAreOfBytes
unfolding script_of
scripts_of_bytes bytes = lines_bytes (lines_of bytes)
