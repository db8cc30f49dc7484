use Rattle.std.proofs.Common.{◌∙◌, refl, sym, subst}
use Rattle.broker_model.specs.declared.journal.Entry.TheVariants as entries
use Rattle.peer_link.specs.declared.ends.ReadEnd.TheVariants as ends
use Rattle.peer_link.specs.Submits.{MadeFirst}
use Rattle.peer_link.proofs.MessagesMade.{made-none, tokens-some}
use Rattle.peer_link.proofs.frames.submit_tokens.Goals as goal

pub returns-in_default-clause-made : goal.returns-in_default-clause-made
returns-in_default-clause-made g c =
    subst (λ (es : _). MadeFirst c.args.hub.now.limits c.args.pass.now c.args.pass.now es ends.NoMemory)
    (sym (tokens-some c.args.pass.now.peer c.args.tokens.now (sym c.is_empty.ensures ∙ c.if-is_empty.false)))
    (made-none c.args.hub.now.limits c.args.pass.now c.args.pass.now
    (entries.Tokens c.args.pass.now.peer c.args.tokens.now) refl)
