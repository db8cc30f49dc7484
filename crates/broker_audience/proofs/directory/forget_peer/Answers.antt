use Rattle.std.proofs.Common.{rules, ◌==◌, not, ap, sym, ◌∙◌}
use Rattle.std.proofs.lemmas.Fn.{filter_same}
use Rattle.broker_model.specs.Ids.{Made}
use Rattle.broker_audience.specs.declared.directory.Named.{Named}
use Rattle.broker_audience.specs.Directed.{made_from}
use Rattle.broker_audience.proofs.ForgottenObjects.{filter_from}
use Rattle.broker_audience.proofs.directory.forget_peer.Goals as goal

pub returns-clause-left : goal.returns-clause-left
returns-clause-left c =
    ap made_from
    (filter_same _ (λ (o : Named). not (o.peer == c.args.peer)) _ (λ x b f' k. search rules) _ _
    c.retain.ensures.filtered)
    ∙ sym (filter_from (λ (m : Made). not (m.peer == c.args.peer)) c.args.objects.now.items)
