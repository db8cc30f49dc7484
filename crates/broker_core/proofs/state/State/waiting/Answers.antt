use Rattle.std.proofs.Common.{◌≡◌, ℕ, List, sym, subst}
use Rattle.std.specs.Prelude.{Option, IfSome, IfOk}
use Rattle.broker_model.specs.Waiting.{with_tokens}
use Rattle.broker_audience.specs.declared.live.Live.{Live}
use Rattle.broker_core.proofs.SenderFound.{few_at_place}
use Rattle.broker_core.proofs.state.State.waiting.Goals as goal

pub waiting_with-requires : goal.waiting_with-requires
waiting_with-requires c =
    record { few = few_at_place c.args.self.now c.requires.stands c.args.place c.at.result.now c.at.ensures }

pub returns : goal.returns
returns c =
    subst (λ (o : Option Live). IfSome o
    (λ l. IfOk c.waiting_with.result (λ list. list ≡ with_tokens l.waiting c.args.tokens.now))) (sym c.at.ensures)
    (subst (λ (tokens : List ℕ). IfOk c.waiting_with.result (λ list. list ≡ with_tokens c.at.result.now.waiting tokens))
    c.as_slice.ensures.value
    c.waiting_with.ensures.value)
