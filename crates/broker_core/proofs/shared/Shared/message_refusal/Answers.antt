use Rattle.std.proofs.Common.{refl, sym, ap, ◌∙◌, rules}
use Rattle.broker_model.specs.declared.journal.Entry.{Entry}
use Rattle.broker_model.specs.declared.journal.Entry.TheVariants as entries
use Rattle.broker_core.specs.Broker.{peer_refusal}
use Rattle.broker_core.proofs.shared.Shared.message_refusal.Goals as goal

pub returns : goal.returns
returns c =
    let e : Entry = entries.Message c.args.number c.args.id c.args.opcode c.args.body.now in
    c.refusal_if_full.ensures e refl (search rules) ∙ sym (ap (peer_refusal c.args.self.now e) c.requires.live)
