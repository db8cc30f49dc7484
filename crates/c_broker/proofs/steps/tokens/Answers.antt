use Rattle.broker_model.specs.declared.journal.Entry.TheVariants as entries
use Rattle.c_broker.proofs.WatchedOn.{heard_none, heard_by}
use Rattle.c_broker.proofs.steps.tokens.Goals as goal

pub returns-in_default-clause-hears : goal.returns-in_default-clause-hears
returns-in_default-clause-hears c = heard_none c.args.shared.now c.args.ears.now

pub returns-in-Ok-apply_watched-clause-hears : goal.returns-in-Ok-apply_watched-clause-hears
returns-in-Ok-apply_watched-clause-hears c =
    heard_by c.apply_watched.result (entries.Tokens c.args.peer c.in-Ok.list) c.args.stamp c.args.shared.now
    c.apply_watched.new.self c.args.ears.now c.apply_watched.new.watch c.apply_watched.ensures.ok
    c.apply_watched.ensures.err c.apply_watched.ensures.watched
