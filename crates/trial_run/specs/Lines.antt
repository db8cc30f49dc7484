-- What the lines of a script do.
use Rattle.std.specs.Prelude.{ℕ, ◌+◌, ◌-◌, ◌%◌, ◌^◌, List, [], ◌∷◌, ◌++◌, length, codes, true, false}
use Rattle.std.specs.List.{join_with_byte}
use Rattle.std.specs.Fmt.{decimal}
use Rattle.session_text.specs.Words.{hex_word}
use Rattle.broker_steps.specs.declared.step.ShellStep.{ShellStep}
use Rattle.broker_steps.specs.declared.step.ShellStep.TheVariants as shell
use Rattle.trial_field.specs.Log.{Batch}
use Rattle.trial_field.specs.FieldText.{FieldText, whole}
use Rattle.trial_script.specs.declared.action.Action.{Action}
use Rattle.trial_script.specs.declared.action.Action.TheVariants as actions
use Rattle.broker_model.specs.declared.journal.Entry.TheVariants as entries
use Rattle.trial_run.specs.declared.whose.Whose.TheVariants as whose
use Rattle.trial_run.specs.Ran.{Ran, went, ◌>>=◌}
use Rattle.trial_run.specs.Steps.{stepped}
use Rattle.trial_run.specs.Play.{TrialPlay, edits, commits, pauses, text_at}
use Rattle.trial_run.specs.Rounds.{with_broker, sends, rounds}
pub use Rattle.trial_client_logs.specs.Logs.{edit_of, batch_of}

-- the id under which each field's client has its surface
abbrev pub surface_id : ℕ
surface_id = 6

-- the shell says something
unfoldable pub shell_says : ShellStep → TrialPlay → Ran TrialPlay
shell_says step t = with_broker t (stepped (entries.Shell step) t.broker)

-- it presses a key and releases it
unfoldable pub pressed : (time key : ℕ) → TrialPlay → Ran TrialPlay
pressed time key t = shell_says (shell.Key time key 1) t >>= shell_says (shell.Key time key 0)

-- a field as it is shown: its text, its cursor and its preedit, with a line feed
unfoldable pub show_line : ℕ → FieldText → List ℕ
show_line f t =
    join_with_byte 32
    (codes "show" ∷ decimal f ∷ hex_word (whole t) ∷ decimal (length t.before) ∷
    hex_word t.preedit ∷ [])
    ++ 10 ∷ []

-- what an action does at a time, which is the number of its line, modulo 2^32; fields are numbered
-- from 1
unfoldable pub acted : ℕ → Action → TrialPlay → Ran TrialPlay
acted time (actions.Use f) t = shell_says (shell.Focus (f + 1) surface_id) t
acted time actions.Leave t = shell_says shell.Unfocus t
acted time (actions.Press key) t = pressed time key t
acted time (actions.Batch b) t = sends whose.Method (commits (batch_of b) t)
acted time (actions.Edit f e) t = sends (whose.Field (f - 1)) (edits (f - 1) (edit_of e) t)
acted time (actions.Pause f) t = went (pauses (f - 1) true t)
acted time (actions.Resume f) t = went (pauses (f - 1) false t)
acted time (actions.Show f) t =
    went (record t { shown = t.shown ++ show_line f (text_at (f - 1) t) })

-- and then the rounds
unfoldable pub line_played : ℕ → Action → TrialPlay → Ran TrialPlay
line_played time action t = acted time action t >>= (λ now. rounds now.most now)

-- the actions of lines one after the other, from the time of the first
unfoldable pub actions_played : ℕ → List Action → TrialPlay → Ran TrialPlay
actions_played time [] t = went t
actions_played time (action ∷ more) t =
    line_played time action t >>= actions_played ((time + 1) % 2 ^ 32) more
