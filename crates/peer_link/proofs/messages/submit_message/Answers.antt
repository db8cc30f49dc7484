use Rattle.std.proofs.Common.{refl}
use Rattle.broker_model.specs.declared.journal.Entry.TheVariants as entries
use Rattle.peer_link.proofs.MessagesMade.{made-none}
use Rattle.peer_link.proofs.messages.submit_message.Goals as goal

pub returns-in_default-clause-made : goal.returns-in_default-clause-made
returns-in_default-clause-made g c =
    made-none c.args.hub.now.limits c.args.pass.now c.args.pass.now
    (entries.Message c.args.pass.now.peer c.args.message.now.id c.args.message.now.opcode c.args.message.now.body.now)
    refl
