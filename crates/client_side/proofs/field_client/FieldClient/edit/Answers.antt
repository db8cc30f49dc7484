use Rattle.std.proofs.Common.{◌≡◌, ◌∷◌, ◌∙◌, ap, sym, subst}
use Rattle.trial_field.specs.Log.{entry_of}
use Rattle.client_side.specs.Happenings.{edited}
use Rattle.client_side.specs.Client.{Client}
use Rattle.client_side.specs.FieldState.{State, HasLog, happens}
use Rattle.client_side.proofs.LogGoesOn.{one_more_happened}
use Rattle.client_side.proofs.field_client.FieldClient.edit.Goals as goal

pub returns-clause-log : goal.returns-clause-log
returns-clause-log c log sent has =
    let h = edited (entry_of c.args.edit.now) in
    let was : c.reserve.new.self.state ≡ c.args.self.now.state =
    c.reserve.ensures.state ∙ ap (λ (k : Client State). k.state) c.self.view_is in
    subst (λ s. HasLog (h ∷ log) sent s) (sym (c.edit.ensures.state ∙ ap (happens h) was))
    (one_more_happened h log sent c.args.self.now.state has)
