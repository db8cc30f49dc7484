use Rattle.broker_model.specs.declared.journal.Entry.TheVariants as entries
use Rattle.c_broker.proofs.WatchedOn.{heard_none, heard_by}
use Rattle.c_broker.proofs.steps.message.Goals as goal

pub returns-in-Nobody-clause-hears : goal.returns-in-Nobody-clause-hears
returns-in-Nobody-clause-hears c = heard_none c.args.shared.now c.args.ears.now

pub returns-in-Over-clause-hears : goal.returns-in-Over-clause-hears
returns-in-Over-clause-hears c = heard_none c.args.shared.now c.args.ears.now

pub returns-in-Alive-clause-hears : goal.returns-in-Alive-clause-hears
returns-in-Alive-clause-hears c =
    let raw = c.args.raw.now in
    heard_by c.message_watched.result (entries.Message c.args.peer raw.id raw.opcode raw.body.now) c.args.stamp
    c.args.shared.now c.message_watched.new.self c.args.ears.now c.message_watched.new.watch
    c.message_watched.ensures.ok c.message_watched.ensures.err c.message_watched.ensures.watched
