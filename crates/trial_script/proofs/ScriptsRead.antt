-- Lines that are read one after the other come to the actions and to the script of all of them.
use Rattle.std.proofs.Common.{◌≡◌, ℕ, ◌+◌, ◌≤◌, Bool, true, false, leb, cond, List, [], ◌∷◌, ◌++◌, Option, Some, None, Result, Ok, Err, refl, sym, ap, subst, append_assoc, arith}
use Rattle.std.specs.Prelude.{All, IfOk}
use Rattle.std.proofs.lemmas.Bool.{leb-true}
use Rattle.std.proofs.lemmas.List.{append-nil}
use Rattle.std.proofs.lemmas.List.Elements.{All-nil, All-cons}
use Rattle.wio_core.specs.declared.NoMemory.{NoMemory}
use Rattle.trial_script.specs.declared.action.Action.{Action}
use Rattle.trial_script.specs.declared.line.Line.{Line}
use Rattle.trial_script.specs.declared.line.Line.TheVariants as lines
use Rattle.trial_script.specs.declared.rules.KeyRules.{KeyRules}
use Rattle.trial_script.specs.declared.script.Ending.{Ending}
use Rattle.trial_script.specs.declared.script.Ending.TheVariants as endings
use Rattle.trial_script.specs.declared.script.Found.TheVariants as found
use Rattle.trial_script.specs.declared.script.Script.{Script}
use Rattle.trial_script.specs.Grammar.{IsAction, IsLine}
use Rattle.trial_script.specs.Reading.{line_of}
use Rattle.trial_script.specs.Lines.{lines_of}
use Rattle.trial_script.specs.Rules.{no_rules, with_entry_of, with_line, ArePut}
use Rattle.trial_script.specs.Scripts.{Rest, over, field_named, found_action, found_of, by_found, actions_of, without_actions, by_rules, by_entry, script_from, by_header, script_of_lines, script_of, IsScript}
use Rattle.trial_script.proofs.ScriptsReadBack.{reads_only}

-- actions that were read, before those that follow
abbrev pub behind : List Action → Rest → Rest
behind actions rest = record rest { actions = actions ++ rest.actions }

-- nothing follows
pub over_behind : (actions : List Action) (ending : Ending) →
    behind actions (over ending) ≡ record { actions = actions; ending = ending }
over_behind actions ending = ap (λ (all : List Action). record { actions = all; ending = ending }) (append-nil actions)

-- one action more was read
pub one_more : (fields number : ℕ) (before : List Action) (action : Action) (raw : List ℕ) (more all : List (List ℕ)) →
    all ≡ raw ∷ more → found.Act action ≡ found_of fields (line_of raw) →
    behind before (actions_of fields number all) ≡ behind (before ++ action ∷ []) (actions_of fields (number + 1) more)
unfolding actions_of
one_more fields number before action raw more all is act =
    rw (is, sym act)
    (ap (λ actions. record { actions = actions; ending = (actions_of fields (number + 1) more).ending })
    (sym (append_assoc before (action ∷ []) (actions_of fields (number + 1) more).actions)))

-- the actions end at a line, or where no line is left
pub ends_by : (fields number : ℕ) (before : List Action) (raw : List ℕ) (more all : List (List ℕ)) →
    all ≡ raw ∷ more → found.End ≡ found_of fields (line_of raw) →
    behind before (actions_of fields number all) ≡ behind before (over endings.End)
unfolding actions_of
ends_by fields number before raw more all is end = rw (is, sym end) refl

pub ends_bad : (fields number : ℕ) (before : List Action) (raw : List ℕ) (more all : List (List ℕ)) →
    all ≡ raw ∷ more → found.Bad ≡ found_of fields (line_of raw) →
    behind before (actions_of fields number all) ≡ behind before (over (endings.BadLine number))
unfolding actions_of
ends_bad fields number before raw more all is bad = rw (is, sym bad) refl

pub ends_open : (fields number : ℕ) (before : List Action) (all : List (List ℕ)) → all ≡ [] →
    behind before (actions_of fields number all) ≡ behind before (over (endings.Unended number))
unfolding actions_of
ends_open fields number before all is = rw is refl

-- ---- the rules of keys, line by line

entry_goes : (t with : KeyRules) (number : ℕ) (line : Line) (next : KeyRules → Script) (play : ℕ → Rest) →
    with_entry_of t line ≡ Some with →
    by_entry t number (Some line) next play ≡ next with
entry_goes t with number (lines.Single key text) next play goes = rw goes refl
entry_goes t with number (lines.Compose text keys) next play goes = rw goes refl
entry_goes t with number (lines.Word text keys) next play goes = rw goes refl
entry_goes t with number (lines.Choose key n) next play goes = rw goes refl
entry_goes t with number (lines.Erase key) next play goes = rw goes refl
entry_goes t with number lines.Header next play goes = absurd (cc goes)
entry_goes t with number (lines.Fields n) next play goes = absurd (cc goes)
entry_goes t with number (lines.Act action) next play goes = absurd (cc goes)
entry_goes t with number lines.End next play goes = absurd (cc goes)

line_goes : (t with : KeyRules) (number : ℕ) (o : Option Line) (next : KeyRules → Script) (play : ℕ → Rest) →
    with_line t o ≡ Some with →
    by_entry t number o next play ≡ next with
line_goes t with number None next play goes = absurd (cc goes)
line_goes t with number (Some line) next play goes = entry_goes t with number line next play goes

-- a line that goes into the rules
pub one_entry : (t with : KeyRules) (number : ℕ) (raw : List ℕ) (more all : List (List ℕ)) →
    all ≡ raw ∷ more → with_line t (line_of raw) ≡ Some with →
    script_from t number all ≡ script_from with (number + 1) more
unfolding script_from
one_entry t with number raw more all is goes =
    rw is (line_goes t with number (line_of raw) (λ with. script_from with (number + 1) more)
    (λ n. actions_of n (number + 1) more) goes)

-- any line
pub one_line : (t : KeyRules) (number : ℕ) (raw : List ℕ) (more all : List (List ℕ)) → all ≡ raw ∷ more →
    script_from t number all
    ≡ by_entry t number (line_of raw) (λ with. script_from with (number + 1) more) (λ n. actions_of n (number + 1) more)
unfolding script_from
one_line t number raw more all is = rw is refl

pub no_fields : (t : KeyRules) (number : ℕ) (all : List (List ℕ)) → all ≡ [] →
    script_from t number all ≡ without_actions t (endings.Unended number)
unfolding script_from
no_fields t number all is = rw is refl

-- a line that has no place ends them
entry_ends : (t : KeyRules) (number : ℕ) (line : Line) (next : KeyRules → Script) (play : ℕ → Rest) →
    with_entry_of t line ≡ None →
    ((n : ℕ) → line ≡ lines.Fields n → ⊥) →
    by_entry t number (Some line) next play ≡ without_actions t (endings.BadLine number)
entry_ends t number (lines.Single key text) next play none other = rw none refl
entry_ends t number (lines.Compose text keys) next play none other = rw none refl
entry_ends t number (lines.Word text keys) next play none other = rw none refl
entry_ends t number (lines.Choose key n) next play none other = rw none refl
entry_ends t number (lines.Erase key) next play none other = rw none refl
entry_ends t number lines.Header next play none other = refl
entry_ends t number (lines.Fields n) next play none other = absurd (other n refl)
entry_ends t number (lines.Act action) next play none other = refl
entry_ends t number lines.End next play none other = refl

-- ---- what every script holds

abbrev IsActionOf : ℕ → Action → Type 0
IsActionOf fields action = IsAction action × (field_named action ≤ fields)

action_holds : (fields number : ℕ) (action : Action) (rest : Rest) → IsAction action →
    All (IsActionOf fields) rest.actions →
    All (IsActionOf fields) (by_found number (found_action fields action) rest).actions
action_holds fields number action rest is later =
    elim (leb (field_named action) fields) as
    (λ b. leb (field_named action) fields ≡ b →
    All (IsActionOf fields) (by_found number (cond b (found.Act action) found.Bad) rest).actions) [
      | true ↦ λ e. All-cons (IsActionOf fields) action rest.actions (is, leb-true (field_named action) fields e) later
      | false ↦ λ e. All-nil (IsActionOf fields)
    ] refl

line_holds : (fields number : ℕ) (line : Line) (rest : Rest) → IsLine line → All (IsActionOf fields) rest.actions →
    All (IsActionOf fields) (by_found number (found_of fields (Some line)) rest).actions
line_holds fields number (lines.Act action) rest is later = action_holds fields number action rest is.0 later
line_holds fields number lines.Header rest is later = All-nil (IsActionOf fields)
line_holds fields number (lines.Single key text) rest is later = All-nil (IsActionOf fields)
line_holds fields number (lines.Compose text keys) rest is later = All-nil (IsActionOf fields)
line_holds fields number (lines.Word text keys) rest is later = All-nil (IsActionOf fields)
line_holds fields number (lines.Choose key n) rest is later = All-nil (IsActionOf fields)
line_holds fields number (lines.Erase key) rest is later = All-nil (IsActionOf fields)
line_holds fields number (lines.Fields n) rest is later = All-nil (IsActionOf fields)
line_holds fields number lines.End rest is later = All-nil (IsActionOf fields)

found_holds : (fields number : ℕ) (o : Option Line) (rest : Rest) → ((line : Line) → o ≡ Some line → IsLine line) →
    All (IsActionOf fields) rest.actions → All (IsActionOf fields) (by_found number (found_of fields o) rest).actions
found_holds fields number None rest is later = All-nil (IsActionOf fields)
found_holds fields number (Some line) rest is later = line_holds fields number line rest (is line refl) later

actions_hold : (fields number : ℕ) (ls : List (List ℕ)) → All (IsActionOf fields) (actions_of fields number ls).actions
unfolding actions_of
actions_hold fields number [] = All-nil (IsActionOf fields)
actions_hold fields number (raw ∷ more) =
    found_holds fields number (line_of raw) (actions_of fields (number + 1) more) (λ line e. (reads_only raw line e).1)
    (actions_hold fields (number + 1) more)

no_actions_hold : (t : KeyRules) (ending : Ending) → IsScript (without_actions t ending)
no_actions_hold t ending = record { fields = omega arith; actions = All-nil (IsActionOf 0) }

rules_hold : (t : KeyRules) (number : ℕ) (o : Option KeyRules) (next : KeyRules → Script) →
    ((with : KeyRules) → IsScript (next with)) →
    IsScript (by_rules t number o next)
rules_hold t number None next holds = no_actions_hold t (endings.BadLine number)
rules_hold t number (Some with) next holds = holds with

entry_holds : (t : KeyRules) (number : ℕ) (o : Option Line) (next : KeyRules → Script) (more : List (List ℕ)) →
    ((line : Line) → o ≡ Some line → IsLine line) → ((with : KeyRules) → IsScript (next with)) →
    IsScript (by_entry t number o next (λ n. actions_of n (number + 1) more))
entry_holds t number None next more is holds = no_actions_hold t (endings.BadLine number)
entry_holds t number (Some (lines.Fields n)) next more is holds =
    record { fields = (is (lines.Fields n) refl).0.1; actions = actions_hold n (number + 1) more }
entry_holds t number (Some (lines.Single key text)) next more is holds = rules_hold t number _ next holds
entry_holds t number (Some (lines.Compose text keys)) next more is holds = rules_hold t number _ next holds
entry_holds t number (Some (lines.Word text keys)) next more is holds = rules_hold t number _ next holds
entry_holds t number (Some (lines.Choose key n)) next more is holds = rules_hold t number _ next holds
entry_holds t number (Some (lines.Erase key)) next more is holds = rules_hold t number _ next holds
entry_holds t number (Some lines.Header) next more is holds = rules_hold t number None next holds
entry_holds t number (Some (lines.Act action)) next more is holds = rules_hold t number None next holds
entry_holds t number (Some lines.End) next more is holds = rules_hold t number None next holds

body_holds : (ls : List (List ℕ)) (t : KeyRules) (number : ℕ) → IsScript (script_from t number ls)
unfolding script_from
body_holds [] t number = no_actions_hold t (endings.Unended number)
body_holds (raw ∷ more) t number =
    entry_holds t number (line_of raw) (λ with. script_from with (number + 1) more) more
    (λ line e. (reads_only raw line e).1)
    (λ with. body_holds more with (number + 1))

header_holds : (o : Option Line) (more : List (List ℕ)) → IsScript (by_header o more)
header_holds None more = no_actions_hold no_rules (endings.BadLine 1)
header_holds (Some lines.Header) more = body_holds more no_rules 2
header_holds (Some (lines.Single key text)) more = no_actions_hold no_rules (endings.BadLine 1)
header_holds (Some (lines.Compose text keys)) more = no_actions_hold no_rules (endings.BadLine 1)
header_holds (Some (lines.Word text keys)) more = no_actions_hold no_rules (endings.BadLine 1)
header_holds (Some (lines.Choose key n)) more = no_actions_hold no_rules (endings.BadLine 1)
header_holds (Some (lines.Erase key)) more = no_actions_hold no_rules (endings.BadLine 1)
header_holds (Some (lines.Fields n)) more = no_actions_hold no_rules (endings.BadLine 1)
header_holds (Some (lines.Act action)) more = no_actions_hold no_rules (endings.BadLine 1)
header_holds (Some lines.End) more = no_actions_hold no_rules (endings.BadLine 1)

lines_hold : (ls : List (List ℕ)) → IsScript (script_of_lines ls)
lines_hold [] = no_actions_hold no_rules (endings.Unended 1)
lines_hold (raw ∷ more) = header_holds (line_of raw) more

pub script_holds : (bytes : List ℕ) → IsScript (script_of bytes)
unfolding script_of
script_holds bytes = lines_hold (lines_of bytes)

-- what was read is a script
pub read_holds : (bytes : List ℕ) (r : Result Script NoMemory) → IfOk r (λ s. s ≡ script_of bytes) → IfOk r IsScript
read_holds bytes (Ok s) is = subst IsScript (sym is) (script_holds bytes)
read_holds bytes (Err why) is = tt

-- ---- what was answered of a line

-- the rules have what the line says
pub was_put : (o : Option KeyRules) (put : Bool) (old new : KeyRules) → ArePut o (Ok put) old new → put ≡ true →
    o ≡ Some new
was_put None put old new is test = absurd (let answer = is.answer in cc)
was_put (Some r) put old new is test = ap Some (sym is.with)

-- the rules are as they were
pub was_not_put : (o : Option KeyRules) (put : Bool) (old new : KeyRules) → ArePut o (Ok put) old new → put ≡ false →
    new ≡ old
was_not_put None put old new is test = is.same
was_not_put (Some r) put old new is test = absurd (let answer = is.answer in cc)

pub answers : (r : Result Script NoMemory) (s all : Script) → s ≡ all → IfOk r (λ read. read ≡ s) →
    IfOk r (λ read. read ≡ all)
answers r s all is read = subst (λ x. IfOk r (λ read. read ≡ x)) is read
