use Rattle.std.proofs.lemmas.Result.{IfErr-weaker, IfOk-weaker}
use Rattle.serve_words.proofs.ClapReads.{holds_shape, takes_shape}
use Rattle.serve_words.proofs.options.matches_of.Goals as goal

pub returns-clause-holds : goal.returns-clause-holds
returns-clause-holds c =
    let parse = c.try_get_matches_from in
    IfOk-weaker parse.result _ _
    (λ matches has. holds_shape _ _ matches c.in_ok-command.ensures c.requires has) parse.ensures.matches

pub returns-clause-memory : goal.returns-clause-memory
returns-clause-memory c =
    let parse = c.try_get_matches_from in
    IfErr-weaker parse.result _ _
    (λ e fails. fails (takes_shape _ _ c.in_ok-command.ensures c.requires)) parse.ensures.passes
