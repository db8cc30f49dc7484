use Rattle.std.proofs.Common.{◌≡◌, ◌∷◌, ◌∙◌, ap, sym, subst}
use Rattle.trial_field.specs.Log.{batch_of}
use Rattle.client_side.specs.Client.{Client}
use Rattle.client_side.specs.MethodLog.{committed}
use Rattle.client_side.specs.MethodState.{State, HasLog, happens}
use Rattle.client_side.proofs.MethodLogGoesOn.{method_happened}
use Rattle.client_side.proofs.method_client.MethodClient.batch.Goals as goal

pub returns-clause-log : goal.returns-clause-log
returns-clause-log g c first log sent has =
    let h = committed (batch_of c.args.batch.now) in
    let was : c.reserve.new.self.state ≡ c.args.self.now.state =
    c.reserve.ensures.state ∙ ap (λ (k : Client (State _)). k.state) c.self.view_is in
    subst (λ s. HasLog g.T.Typist.meanings first (h ∷ log) sent s)
    (sym (c.batch.ensures.state ∙ ap (happens g.T.Typist.meanings h) was))
    (method_happened g.T.Typist.meanings h first log sent c.args.self.now.state has)
