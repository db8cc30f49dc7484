use Rattle.lines_explained.specs.declared.explainer.Lines.TheVariants.{All, BadOnly}
use Rattle.program_run.proofs.SessionsExplained.{explain_begins}
use Rattle.program_run.proofs.run.explain.Goals as goal

pub play_input-requires-clause-follows : goal.play_input-requires-clause-follows
play_input-requires-clause-follows g c = explain_begins All

pub play_input-requires-in-BadOnly-clause-follows : goal.play_input-requires-in-BadOnly-clause-follows
play_input-requires-in-BadOnly-clause-follows g c = explain_begins BadOnly
