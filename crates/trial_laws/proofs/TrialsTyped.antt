-- The laws of the method hold of every script that is read, within the limits of a trial.
use Rattle.std.proofs.Common.{arith}
use Rattle.broker_steps.specs.Ranges.{IsLimits}
use Rattle.trial_script.specs.Scripts.{script_of}
use Rattle.trial_run.specs.Trial.{trial_limits}
use Rattle.trial_laws.proofs.ScriptsOfBytes.{scripts_of_bytes}
use Rattle.trial_laws.specs.MethodLaws.{TrialsAreTyped}
use Rattle.trial_laws.proofs.MethodLogged.{method_logs_go_on}
use Rattle.trial_laws.proofs.MethodReads.{method_hears_what_is_told}
use Rattle.trial_laws.proofs.ScriptsWritten.{scripts_are_written}

lawful_limits : IsLimits trial_limits
unfolding trial_limits
lawful_limits = ((omega arith, omega arith), (omega arith, omega arith), (omega arith, omega arith))

pub trials_are_typed : TrialsAreTyped
trials_are_typed bytes t some e = record {
  logs = method_logs_go_on trial_limits (script_of bytes) t some (scripts_are_written bytes) e;
  hears = λ peer joined.
      method_hears_what_is_told trial_limits (script_of bytes) t peer lawful_limits some (scripts_are_written bytes)
      (scripts_of_bytes bytes) e joined;
}
