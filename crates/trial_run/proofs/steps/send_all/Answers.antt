use Rattle.std.proofs.Common.{List, ℕ, ◌∷◌, take, sym, ap, ◌∙◌}
use Rattle.std.proofs.lemmas.Result.{err_from_is_err_and}
use Rattle.wl_wire.specs.Messages.{messages}
use Rattle.trial_run.specs.Steps.{messages_sent}
use Rattle.trial_run.proofs.FrontIsSent.{front_entry}
use Rattle.trial_run.proofs.LoopsRun.{messages_none, messages_end, sends_go, sends_stop, front_none}
use Rattle.trial_run.proofs.steps.send_all.Goals as goal

pub returns : goal.returns
returns c =
    sym c.messages.invariant
    ∙ ap (λ (ms : List (List ℕ)). messages_sent c.args.number ms c.messages.shared)
    (front_none c.messages.rest.now _ c.in_default.not-Whole c.front_of.ensures.messages)
    ∙ messages_end c.args.number c.messages.shared

pub returns-then-not-lives : goal.returns-then-not-lives
returns-then-not-lives c =
    sym c.messages.invariant
    ∙ messages_none c.args.number (messages c.messages.rest.now) c.messages.shared
    (sym c.if-not-lives.ensures.value)

pub returns-in_err-step : goal.returns-in_err-step
returns-in_err-step c =
    let p = err_from_is_err_and c.from_residual-in_err-step.result c.from_residual-in_err-step.ensures.1 in
    let rest : List ℕ = c.messages.rest.now in
    let used : ℕ = c.in-Whole.used in
    rw (p.1, p.2)
    (sends_stop c.args.number c.args.bytes.now rest (take used rest) c.split_at.result.1.now
    c.args.shared.now c.messages.shared _ _ c.messages.invariant
    (c.in-Whole.ensures.messages.0
    ∙ ap (λ (b : List ℕ). take used rest ∷ messages b) (sym c.split_at.ensures.back))
    (sym c.if-not-lives.ensures.value)
    (front_entry c.args.number c.in-Whole.raw.id c.in-Whole.raw.opcode c.in-Whole.raw.body.now rest used _
    (c.in_ok-sent.ensures.entry c.args.number) c.in-Whole.ensures.front) c.in_err-step.ensures)

pub messages-preserved : goal.messages-preserved
messages-preserved c =
    let rest : List ℕ = c.messages.rest.now in
    let used : ℕ = c.in-Whole.used in
    sends_go c.args.number c.args.bytes.now rest (take used rest) c.split_at.result.1.now
    c.args.shared.now c.messages.shared _ _ c.messages.invariant
    (c.in-Whole.ensures.messages.0
    ∙ ap (λ (b : List ℕ). take used rest ∷ messages b) (sym c.split_at.ensures.back))
    (sym c.if-not-lives.ensures.value)
    (front_entry c.args.number c.in-Whole.raw.id c.in-Whole.raw.opcode c.in-Whole.raw.body.now rest used _
    (c.in_ok-sent.ensures.entry c.args.number) c.in-Whole.ensures.front) c.in_ok-step.ensures
