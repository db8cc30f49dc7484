-- That an entry has what its line needs is a fact: it has one proof at most
use Rattle.std.proofs.Props.{props}
use Rattle.broker_steps.specs.declared.step.ShellStep.{ShellStep}
use Rattle.broker_steps.specs.declared.step.ShellStep.TheVariants as shells
use Rattle.broker_steps.specs.Ranges.{IsShellStep}
use Rattle.broker_model.specs.declared.journal.Entry.{Entry}
use Rattle.broker_model.specs.declared.journal.Entry.TheVariants as entries
use Rattle.hub_lock.specs.Steps.{FitsLine}

shell-fact : (step : ShellStep) → IsProp (IsShellStep step)
shell-fact (shells.Focus p i) = hlevel props
shell-fact shells.Unfocus = hlevel props
shell-fact (shells.Area p i rect) = hlevel props
shell-fact (shells.Screen size) = hlevel props
shell-fact (shells.Key time key state) = hlevel props
shell-fact (shells.Mods mods) = hlevel props
shell-fact (shells.Keymap keymap) = hlevel props
shell-fact (shells.Repeat repeat) = hlevel props
shell-fact (shells.At moment) = hlevel props

pub fits-fact : (e : Entry) → IsProp (FitsLine e)
fits-fact (entries.Join role) = hlevel props
fits-fact (entries.Message q id opcode body) = hlevel props
fits-fact (entries.Tokens q tokens) = hlevel props
fits-fact (entries.BadSize q head) = hlevel props
fits-fact (entries.End q cause) = hlevel props
fits-fact (entries.Shell step) = shell-fact step
fits-fact (entries.Took q bytes) = hlevel props
