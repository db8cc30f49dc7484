-- What a script shows, and how it ends.
use Rattle.std.specs.Prelude.{◌≡◌, ℕ, zero, suc, ◌+◌, ◌%◌, ◌^◌, ◌==◌, List, [], ◌∷◌, ◌++◌, length, if◌then◌else◌, string_bytes, Result, Ok, Err, String}
use Rattle.std.specs.Global.{Global}
use Rattle.relay_model.specs.declared.role.Role.TheVariants.{App, Method}
use Rattle.broker_steps.specs.declared.limits.Limits.{Limits}
use Rattle.broker_steps.specs.Ranges.{form_1_weight}
use Rattle.compose_method.specs.Typing as typing
use Rattle.dict_method.specs.Spelling as spelling
use Rattle.trial_script.specs.declared.action.Action.{Action}
use Rattle.trial_script.specs.declared.rules.KeyRules.{KeyRules}
use Rattle.trial_script.specs.declared.script.Script.{Script}
use Rattle.trial_script.specs.declared.script.Ending.{Ending}
use Rattle.trial_script.specs.declared.script.Ending.TheVariants as endings
use Rattle.trial_script.specs.Rules.{has_words}
use Rattle.trial_script.specs.Scripts.{script_of}
use Rattle.broker_model.specs.declared.journal.Kept.{Kept}
use Rattle.broker_core.specs.Broker.{begun, kept_in}
use Rattle.trial_run.specs.declared.run.TrialEnd.{TrialEnd}
use Rattle.trial_run.specs.declared.run.TrialEnd.TheVariants as ends
use Rattle.trial_run.specs.declared.typist.TrialTypist.{TrialTypist}
use Rattle.trial_run.specs.declared.typist.TrialTypist.TheVariants.{Compose, Dict}
use Rattle.trial_run.specs.declared.whose.Whose.TheVariants as whose
use Rattle.trial_run.specs.Ran.{Ran, went, ◌>>=◌}
use Rattle.trial_run.specs.Steps.{joined}
use Rattle.trial_run.specs.Play.{TrialPlay, new_field, new_method}
use Rattle.trial_run.specs.Rounds.{with_broker, sends}
use Rattle.trial_run.specs.Lines.{actions_played}

-- ---- how it begins

-- the method by the rules of keys, not active: one with a dictionary where there is a word
abbrev pub typist_by : KeyRules → TrialTypist
typist_by r =
    if has_words r then Dict (spelling.idle r.table r.dict) else Compose (typing.idle r.table)

-- the method of the script
abbrev pub typist_of : Script → TrialTypist
typist_of s = typist_by s.rules

-- nobody joined yet
abbrev pub unplayed : Limits → TrialTypist → TrialPlay
unplayed limits typist = record {
  most = limits.entries + 1;
  broker = begun limits;
  method = new_method typist;
  fields = [];
  shown = [];
}

-- the method's peer joins, and its client sends its set-up
unfoldable pub method_joined : TrialPlay → Ran TrialPlay
method_joined t = with_broker t (joined Method t.broker) >>= sends whose.Method

-- so does one more field's
unfoldable pub field_joined : TrialPlay → Ran TrialPlay
field_joined t =
    with_broker t (joined App t.broker)
    >>= (λ now. sends (whose.Field (length t.fields))
    (record now { fields = now.fields ++ new_field ∷ [] }))

unfoldable pub fields_joined : ℕ → TrialPlay → Ran TrialPlay
fields_joined zero t = went t
fields_joined (suc n) t = field_joined t >>= fields_joined n

-- ---- the whole

-- The method and so many fields join, and then the actions are played, from the time of the first.
-- A script that ends before it says how many fields there are plays nothing.
unfoldable pub played_with : (fields time : ℕ) → List Action → TrialPlay → Ran TrialPlay
played_with fields time all t =
    if fields == 0 then went t
    else (method_joined t >>= fields_joined fields) >>= actions_played time all

abbrev pub trial_played : Limits → Script → Ran TrialPlay
trial_played limits s =
    played_with s.fields (s.first_line % 2 ^ 32) s.actions (unplayed limits (typist_of s))

-- a trial ends behind its last line, at a line outside the grammar or one that is missing, or
-- before a step for which the journal is full
pub data Ended : Type 0 where
  over : Ended
  bad_line : ℕ → Ended
  journal_full : Kept → Ended

abbrev pub by_ending : Ending → Ended
by_ending endings.End = over
by_ending (endings.BadLine number) = bad_line number
by_ending (endings.Unended number) = bad_line number

-- the lines that it shows, and how it ends
pub record Shown : Type 0 where
  pub lines : List ℕ
  pub ended : Ended

abbrev pub shown_by : Ending → Ran TrialPlay → Shown
shown_by ending r = record {
  lines = r.now.shown;
  ended = if r.is_full then journal_full (kept_in r.now.broker.journal) else by_ending ending;
}

-- the limits of a trial
unfoldable pub trial_limits : Limits
trial_limits = record { entries = 1000000; store = 65536; weight = form_1_weight }

-- the same within other limits
abbrev pub trial_within : Limits → List ℕ → Shown
trial_within limits bytes = let s = script_of bytes in shown_by s.ending (trial_played limits s)

-- what the script shows
abbrev pub trial_of : List ℕ → Shown
trial_of bytes = trial_within trial_limits bytes

-- ---- what is answered

abbrev pub IsShown : Shown → Result (String Global) TrialEnd → Type 0
IsShown s (Ok text) = s ≡ record { lines = string_bytes text; ended = over }
IsShown s (Err (ends.BadLine number text)) =
    s ≡ record { lines = string_bytes text; ended = bad_line number }
IsShown s (Err (ends.JournalFull kept text)) =
    s ≡ record { lines = string_bytes text; ended = journal_full kept }
IsShown s (Err ends.NoMemory) = Unit {0}

-- it is what the script shows, or want of memory
abbrev pub IsTrialOf : List ℕ → Result (String Global) TrialEnd → Type 0
IsTrialOf bytes result = IsShown (trial_of bytes) result
