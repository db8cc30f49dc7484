-- The session of a number: the journal that its steps lead to, and what was put for its peers
-- meanwhile.
use Rattle.std.specs.Prelude.{ℕ, zero, suc, List, [], if◌then◌else◌, ◌==◌}
use Rattle.std.specs.List.{sum_by}
use Rattle.broker_steps.specs.declared.limits.Limits.{Limits}
use Rattle.broker_steps.specs.Ranges.{form_1_weight}
use Rattle.broker_steps.specs.declared.step.Step.{Step}
use Rattle.broker_model.specs.declared.journal.Entry.{Entry}
use Rattle.broker_core.specs.Watched.{Watched, watched_since}
use Rattle.broker_core.specs.Watched.Watched.{Put}
use Rattle.session_gen.specs.Generated.{step_of}
use Rattle.program_gen.specs.Steps.{after_step}
use Rattle.program_gen.specs.Events.{events_in}

-- what a generated session allows, which is of form 1
abbrev pub limits : Limits
limits = record { entries = 1000000; store = 65536; weight = form_1_weight }

-- the count of a group that was put, by the number of its peer and its bytes
abbrev pub of_put : (ℕ → List ℕ → ℕ) → Watched → ℕ
of_put count (Put n q bytes tokens) = count q bytes
of_put count _ = 0

-- the sum of the counts of all groups that were put
abbrev pub put_sum : (ℕ → List ℕ → ℕ) → List Entry → ℕ
put_sum count journal = sum_by (of_put count) (watched_since limits.store 0 journal)

-- the peer 5 alone has the input method, under the id 5: its done events (zwp_input_method_v2.done)
abbrev pub method_dones : ℕ → List ℕ → ℕ
method_dones q bytes = (if q == 5 then events_in 5 5 bytes else 0)

-- the journal of the first `made` steps of the session of n; a step may name a done event that was
-- told before it
unfoldable pub journal_of : ℕ → ℕ → List Entry
journal_of n zero = []
journal_of n (suc made) =
    let journal = journal_of n made in
    after_step limits.store (step_of n made (put_sum method_dones journal)) journal

-- the step behind the first `made`
unfoldable pub step_at : ℕ → ℕ → Step
step_at n made = step_of n made (put_sum method_dones (journal_of n made))
