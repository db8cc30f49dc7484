use Rattle.std.proofs.Common.{sym, ◌∙◌, ap, subst, IfOk}
use Rattle.program_run.specs.declared.session_line.Meaning.{Meaning}
use Rattle.program_run.specs.WhereLinesLead.{IsLedBy, stage_behind}
use Rattle.program_run.proofs.LinesLed.{in_any_case}
use Rattle.program_run.proofs.watched_line.play_line.Goals as goal

pub returns-in-Some-clause-stage : goal.returns-in-Some-clause-stage
returns-in-Some-clause-stage g c =
    in_any_case c.play_bytes.result
    (c.after.ensures ∙ ap (stage_behind c.args.stage.now) (sym c.in-Some.ensures.read))

pub returns-in-Some-clause-led : goal.returns-in-Some-clause-led
returns-in-Some-clause-led g c = λ unspent few.
    subst (λ (m : Meaning).
    IfOk c.play_bytes.result (IsLedBy c.args.before c.args.player.now c.play_bytes.new.player m))
    (sym c.in-Some.ensures.read) (c.play_bytes.ensures.led unspent)
