use Rattle.broker_model.specs.declared.journal.Entry.TheVariants as entries
use Rattle.c_broker.proofs.WatchedOn.{heard_by}
use Rattle.c_broker.proofs.steps.bad_size.Goals as goal

pub returns-in-Ok-clause-hears : goal.returns-in-Ok-clause-hears
returns-in-Ok-clause-hears c =
    heard_by c.apply_watched.result (entries.BadSize c.args.peer c.args.head) c.args.stamp c.args.shared.now
    c.apply_watched.new.self c.args.ears.now c.apply_watched.new.watch c.apply_watched.ensures.ok
    c.apply_watched.ensures.err c.apply_watched.ensures.watched
