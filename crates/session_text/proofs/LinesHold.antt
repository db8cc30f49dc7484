-- What a line gives holds what calls ask of it.
use Rattle.broker_steps.specs.declared.step.ShellStep.{ShellStep}
use Rattle.broker_steps.specs.declared.step.ShellStep.TheVariants as shells
use Rattle.session_text.specs.declared.line.SessionLine.{SessionLine}
use Rattle.session_text.specs.declared.line.SessionLine.TheVariants as sessions
use Rattle.broker_steps.specs.Ranges.{IsShellStep}
use Rattle.session_text.specs.Steps.{IsSessionLine}
use Rattle.session_text.specs.SessionGrammar.{HasLinkLine, HasSessionLine, HasStampedLine}
use Rattle.session_text.proofs.SpelledSteps.{old_line}

pub shell_asked : (step : ShellStep) → HasLinkLine step → IsShellStep step
shell_asked (shells.Focus p i) h = tt
shell_asked shells.Unfocus h = tt
shell_asked (shells.Area p i r) h = (h.2.2, h.2.3)
shell_asked (shells.Screen z) h = h
shell_asked (shells.Key time key state) h = h.2
shell_asked (shells.Mods mods) h = tt
shell_asked (shells.Keymap keymap) h = tt
shell_asked (shells.Repeat repeat) h = tt
shell_asked (shells.At moment) h = tt

pub stamped_asked : (line : SessionLine) → HasStampedLine line → IsSessionLine line
stamped_asked (sessions.Join role) h = tt
stamped_asked (sessions.Bytes p bytes) h = (h.1.1, h.1.2)
stamped_asked (sessions.Gone p) h = tt
stamped_asked (sessions.Take p n) h = h.1
stamped_asked (sessions.Tokens p tokens) h = h.1.0
stamped_asked (sessions.Shell step) h = shell_asked step h

pub line_asked : (line : SessionLine) → HasSessionLine line → IsSessionLine line
line_asked line h = stamped_asked line (old_line line h)
