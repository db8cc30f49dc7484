-- Every script that is read has rules of keys such as methods have, and actions such as lines can give.
use Rattle.std.proofs.Common.{◌≡◌, ℕ, ◌+◌, ◌≤◌, Bool, true, false, ◌||◌, List, [], ◌∷◌, length, Option, Some, None, refl, sym, subst, arith}
use Rattle.std.specs.Prelude.{nat_le, ◌==◌}
use Rattle.std.specs.List.{AllByRecursion}
use Rattle.std.proofs.lemmas.List.{length-append}
use Rattle.std.proofs.lemmas.List.Elements.{All-append, All-cons, All-nil}
use Rattle.std.proofs.lemmas.Bool.{and_parts, eqb-false}
use Rattle.std.specs.Str.{is_utf8}
use Rattle.wl_wire.specs.Texts.{has_no_zero}
use Rattle.compose_method.specs.Table.{IsTable, IsKeyText, AreKeys, has_single, clashes}
use Rattle.compose_method.proofs.TableGrows.{with_single-table, with_entry-table}
use Rattle.dict_method.specs.Dictionary.{IsDictionary, IsWord, AreWordKeys, word, clashes_word, clashes_control, is_control, is_spelling, is_taken}
use Rattle.dict_method.specs.declared.control.Control.{Control}
use Rattle.dict_method.specs.declared.control.Control.TheVariants as controls
use Rattle.dict_method.proofs.ControlKeys.{with_control-dictionary}
use Rattle.trial_script.specs.declared.action.Action.{Action}
use Rattle.trial_script.specs.declared.line.Line.{Line}
use Rattle.trial_script.specs.declared.line.Line.TheVariants as lines
use Rattle.trial_script.specs.declared.rules.KeyRules.{KeyRules}
use Rattle.trial_script.specs.declared.script.Script.{Script}
use Rattle.trial_script.specs.Grammar.{IsAction, HasParts}
use Rattle.trial_script.specs.Lines.{lines_of}
use Rattle.trial_script.specs.Reading.{line_of}
use Rattle.trial_script.specs.Rules.{no_rules, has_words, has_sequences, refuses_single, refuses_sequence, refuses_word, plus_single, plus_sequence, plus_word, plus_control, unless, with_entry_of}
use Rattle.trial_script.specs.Scripts.{Rest, found_action, found_of, by_found, actions_of, field_named, by_rules, by_entry, script_from, by_header, script_of_lines, script_of}
use Rattle.trial_script.specs.Words.{IsKeyWord}
use Rattle.trial_script.proofs.ScriptsReadBack.{reads_only}
use Rattle.trial_laws.specs.MethodLaws.{IsWritten, ScriptsAreWritten}

line_parts : (raw : List ℕ) (line : Line) → line_of raw ≡ Some line → HasParts line
line_parts raw line e = (reads_only raw line e).1.0

-- ---- actions

abbrev AreActions : Rest → Type 0
AreActions rest = AllByRecursion IsAction rest.actions

found_actions : (fields number : ℕ) (o : Option Line) (rest : Rest) → ((line : Line) → o ≡ Some line → HasParts line) →
    AreActions rest → AreActions (by_found number (found_of fields o) rest)
found_actions fields number None rest h k = tt
found_actions fields number (Some (lines.Act action)) rest h k = by (nat_le (field_named action) fields) refl
  where
    by : (b : Bool) → nat_le (field_named action) fields ≡ b →
        AreActions (by_found number (found_action fields action) rest)
    by true e = rw e (h (lines.Act action) refl, k)
    by false e = rw e tt
found_actions fields number (Some lines.End) rest h k = tt
found_actions fields number (Some line) rest h k = tt

actions_written : (fields number : ℕ) (raws : List (List ℕ)) → AreActions (actions_of fields number raws)
unfolding actions_of
actions_written fields number [] = tt
actions_written fields number (raw ∷ more) =
    found_actions fields number (line_of raw) (actions_of fields (number + 1) more) (line_parts raw)
    (actions_written fields (number + 1) more)

-- ---- the rules of keys

record AreRules (r : KeyRules) : Type 0 where
  table : IsTable r.table
  dict : IsDictionary r.dict

key_text : (text : List ℕ) → IsKeyWord text → IsKeyText text
key_text text h =
    record { some = h.1; few = h.0.1; clean = (and_parts (has_no_zero text) (is_utf8 text) h.0.0.0).0 }

-- either of two things refuses, or neither
first_no : (a b : Bool) → (a || b) ≡ false → a ≡ false
first_no true b e = cc
first_no false b e = refl

second_no : (a b : Bool) → (a || b) ≡ false → b ≡ false
second_no true b e = cc
second_no false b e = e

abbrev WhereRules : Option KeyRules → Type 0
WhereRules None = Unit {0}
WhereRules (Some r) = AreRules r

where_rules : (b : Bool) (r : KeyRules) → (b ≡ false → AreRules r) → WhereRules (unless b r)
where_rules true r h = tt
where_rules false r h = h refl

single_in : (key : ℕ) (text : List ℕ) (r : KeyRules) → IsKeyText text → AreRules r →
    refuses_single r key ≡ false → AreRules (plus_single r key text)
single_in key text r h k free =
    let absent = first_no (has_single r.table key) (length r.table.singles == 1024) free in
    let room : length r.table.singles ≡ 1024 → ⊥ =
    eqb-false _ _ (second_no (has_single r.table key) (length r.table.singles == 1024) free) in
    let most : length r.table.singles ≤ 1024 = k.table.few_singles in
    record {
      table = with_single-table r.table key text k.table absent (omega (arith, room)) h;
      dict = k.dict;
    }

sequence_in : (text keys : List ℕ) (r : KeyRules) → IsKeyText text → AreKeys keys → AreRules r →
    refuses_sequence r keys ≡ false → AreRules (plus_sequence r text keys)
sequence_in text keys r h several k free =
    let place = second_no (has_words r) (clashes r.table keys || length r.table.entries == 4096) free in
    let absent = first_no (clashes r.table keys) (length r.table.entries == 4096) place in
    let room : length r.table.entries ≡ 4096 → ⊥ =
    eqb-false _ _ (second_no (clashes r.table keys) (length r.table.entries == 4096) place) in
    let most : length r.table.entries ≤ 4096 = k.table.few_entries in
    record {
      table = with_entry-table r.table text keys k.table absent (omega (arith, room)) h several;
      dict = k.dict;
    }

word_in : (text keys : List ℕ) (r : KeyRules) → IsKeyText text → AreWordKeys keys → AreRules r →
    refuses_word r keys ≡ false → AreRules (plus_word r text keys)
word_in text keys r h several k free =
    let place = second_no (has_sequences r) (clashes_word r.dict keys || length r.dict.words == 16384) free in
    let apart = first_no (clashes_word r.dict keys) (length r.dict.words == 16384) place in
    let room : length r.dict.words ≡ 16384 → ⊥ =
    eqb-false _ _ (second_no (clashes_word r.dict keys) (length r.dict.words == 16384) place) in
    let most : length r.dict.words ≤ 16384 = k.dict.few in
    let one : IsWord r.dict.controls (word text keys) = record { keys = several; text = h; apart = apart } in
    record {
      table = k.table;
      dict = record {
        words = All-append (IsWord r.dict.controls) r.dict.words (word text keys ∷ []) k.dict.words
            (All-cons (IsWord r.dict.controls) (word text keys) [] one (All-nil (IsWord r.dict.controls)));
        few = omega (arith, room, length-append r.dict.words (word text keys ∷ []));
      };
    }

control_in : (r : KeyRules) (key : ℕ) (what : Control) → AreRules r →
    WhereRules (unless (clashes_control r.dict key what) (plus_control r key what))
control_in r key what k =
    where_rules (clashes_control r.dict key what) _
    (λ free. record {
      table = k.table;
      dict = with_control-dictionary r.dict key what k.dict
          (first_no (is_spelling r.dict.words key) (is_taken r.dict.controls what)
          (second_no (is_control r.dict.controls key) (is_spelling r.dict.words key || is_taken r.dict.controls what)
          free));
    })

rules_with : (r : KeyRules) (line : Line) → HasParts line → AreRules r → WhereRules (with_entry_of r line)
rules_with r (lines.Single key text) h k =
    where_rules (refuses_single r key) _ (single_in key text r (key_text text h.1) k)
rules_with r (lines.Compose text keys) h k =
    where_rules (refuses_sequence r keys) _
    (sequence_in text keys r (key_text text h.0) (record { several = h.1.several; few = h.1.few }) k)
rules_with r (lines.Word text keys) h k =
    where_rules (refuses_word r keys) _
    (word_in text keys r (key_text text h.0) (record { some = h.1.some; few = h.1.few }) k)
rules_with r (lines.Choose key n) h k = control_in r key (controls.Choose n) k
rules_with r (lines.Erase key) h k = control_in r key controls.Erase k
rules_with r _ h k = tt

-- ---- the whole

ended : (r : KeyRules) (all : List Action) (s : Script) → s.rules ≡ r → s.actions ≡ all → AreRules r →
    AllByRecursion IsAction all → IsWritten s
ended r all s e f h k = record {
  table = subst (λ (q : KeyRules). IsTable q.table) (sym e) h.table;
  dict = subst (λ (q : KeyRules). IsDictionary q.dict) (sym e) h.dict;
  actions = rw f k;
}

by_written : (r : KeyRules) (number : ℕ) (o : Option KeyRules) (next : KeyRules → Script) → AreRules r →
    WhereRules o → ((with : KeyRules) → AreRules with → IsWritten (next with)) → IsWritten (by_rules r number o next)
by_written r number None next h k f = ended r [] _ refl refl h tt
by_written r number (Some with) next h k f = f with k

begun_written : (r : KeyRules) (number : ℕ) (o : Option Line) (next : KeyRules → Script) (play : ℕ → Rest) →
    AreRules r → ((line : Line) → o ≡ Some line → HasParts line) →
    ((with : KeyRules) → AreRules with → IsWritten (next with)) →
    ((n : ℕ) → AreActions (play n)) → IsWritten (by_entry r number o next play)
begun_written r number None next play h l f g = ended r [] _ refl refl h tt
begun_written r number (Some (lines.Fields n)) next play h l f g = ended r (play n).actions _ refl refl h (g n)
begun_written r number (Some (lines.Single key text)) next play h l f g =
    by_written r number _ next h (rules_with r (lines.Single key text) (l (lines.Single key text) refl) h) f
begun_written r number (Some (lines.Compose text keys)) next play h l f g =
    by_written r number _ next h (rules_with r (lines.Compose text keys) (l (lines.Compose text keys) refl) h) f
begun_written r number (Some (lines.Word text keys)) next play h l f g =
    by_written r number _ next h (rules_with r (lines.Word text keys) (l (lines.Word text keys) refl) h) f
begun_written r number (Some (lines.Choose key n)) next play h l f g =
    by_written r number _ next h (rules_with r (lines.Choose key n) (l (lines.Choose key n) refl) h) f
begun_written r number (Some (lines.Erase key)) next play h l f g =
    by_written r number _ next h (rules_with r (lines.Erase key) (l (lines.Erase key) refl) h) f
begun_written r number (Some lines.Header) next play h l f g = by_written r number None next h tt f
begun_written r number (Some (lines.Act action)) next play h l f g = by_written r number None next h tt f
begun_written r number (Some lines.End) next play h l f g = by_written r number None next h tt f

from_written : (r : KeyRules) (number : ℕ) (raws : List (List ℕ)) → AreRules r → IsWritten (script_from r number raws)
unfolding script_from
from_written r number [] h = ended r [] _ refl refl h tt
from_written r number (raw ∷ more) h =
    begun_written r number (line_of raw) (λ with. script_from with (number + 1) more)
    (λ n. actions_of n (number + 1) more) h (line_parts raw)
    (λ with k. from_written with (number + 1) more k) (λ n. actions_written n (number + 1) more)

no_rules_yet : AreRules no_rules
no_rules_yet = record {
  table = record {
    rising = λ i j d l m. absurd (omega arith);
    in_order = λ i j d l m. absurd (omega arith);
    apart = λ i j d l m. absurd (omega arith);
    few_singles = omega arith;
    few_entries = omega arith;
    single_texts = λ k d l. absurd (omega arith);
    entry_texts = λ k d l. absurd (omega arith);
    entry_keys = λ k d l. absurd (omega arith);
  };
  dict = record { words = λ k d l. absurd (omega arith); few = omega arith };
}

header_written : (o : Option Line) (more : List (List ℕ)) → IsWritten (by_header o more)
header_written (Some lines.Header) more = from_written no_rules 2 more no_rules_yet
header_written None more = ended no_rules [] _ refl refl no_rules_yet tt
header_written (Some line) more = ended no_rules [] _ refl refl no_rules_yet tt

lines_written : (raws : List (List ℕ)) → IsWritten (script_of_lines raws)
lines_written [] = ended no_rules [] _ refl refl no_rules_yet tt
lines_written (raw ∷ more) = header_written (line_of raw) more

pub scripts_are_written : ScriptsAreWritten
unfolding script_of
scripts_are_written bytes = lines_written (lines_of bytes)
