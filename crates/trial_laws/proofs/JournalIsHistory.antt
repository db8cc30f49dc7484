-- The journal of a trial is the history of its outer steps.
use Rattle.std.proofs.Common.{◌≡◌, false, refl, subst}
use Rattle.broker_steps.specs.declared.limits.Limits.{Limits}
use Rattle.broker_model.specs.declared.journal.Entry.{Entry}
use Rattle.broker_model.specs.Limits.{is_full}
use Rattle.broker_model.specs.Settle.{history, outer}
use Rattle.broker_model.proofs.SettlingEnds.{history_stays}
use Rattle.broker_model.specs.Stamps.{no_stamp}
use Rattle.broker_core.specs.Broker.{Broker, with_step}
use Rattle.broker_core.proofs.ActTextsFit.{IsBodyShort}
use Rattle.trial_laws.specs.TrialLaws.{TrialHistory}
use Rattle.trial_run.specs.Trial.{trial_played}
use Rattle.trial_laws.proofs.PhasesKeep.{IsOuter, of_broker, trial_keeps}

record IsHistory (limits : Limits) (b : Broker) : Type 0 where
  same : b.limits ≡ limits
  steps : history b.limits.store (outer b.journal) ≡ b.journal

step_keeps : (limits : Limits) (e : Entry) (b : Broker) → IsOuter e → IsBodyShort e →
    is_full b.limits b.journal e ≡ false → IsHistory limits b → IsHistory limits (with_step e no_stamp b)
step_keeps limits e b o s f h = record { same = h.same; steps = history_stays b.limits.store e b.journal o h.steps }

by_limits : (limits : Limits) (b : Broker) → IsHistory limits b → history limits.store (outer b.journal) ≡ b.journal
by_limits limits b h = subst (λ (l : Limits). history l.store (outer b.journal) ≡ b.journal) h.same h.steps

pub trial_history : TrialHistory
trial_history limits script =
    by_limits limits (trial_played limits script).now.broker
    (trial_keeps (λ t. IsHistory limits t.broker) (of_broker (IsHistory limits) (step_keeps limits)) limits script
    (record { same = refl; steps = refl }))
