use Rattle.std.proofs.Common.{◌≡◌, ◌+◌, ◌++◌, length, ap, ◌∙◌, string_bytes}
use Rattle.relay_model.specs.Told.{told}
use Rattle.program_run.specs.Transcript.{act_text}
use Rattle.program_run.proofs.PrintedTells.{reached_text}
use Rattle.program_run.proofs.act_list.play.Goals as goal

pub returns-clause-printed : goal.returns-clause-printed
returns-clause-printed c = λ log h.
    let stands = c.in_ok-reserve.ensures.stands log h in
    let count : c.acts.result ≡ length log = c.acts.ensures.length log stands in
    reached_text (told c.args.act.now log) _ _ (c.step.ensures.told log stands) c.if-printer.false ∙
    ap (λ n. string_bytes c.args.printer.now.text ++ act_text (n + 1) (told c.args.act.now log)) count
