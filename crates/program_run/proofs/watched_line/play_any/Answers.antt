use Rattle.std.proofs.Common.{◌≡◌, ◌+◌, sym, ◌∙◌, ap, arith, refl, subst, IfOk, Some}
use Rattle.seat_set.proofs.JournalGrows.{watched_none}
use Rattle.program_run.specs.declared.last_line.LastLine.TheVariants as last
use Rattle.program_run.specs.declared.session_line.Meaning.{Meaning}
use Rattle.program_run.specs.WhereLinesLead.{IsLedBy, stage_behind}
use Rattle.program_run.proofs.LinesLed.{in_any_case}
use Rattle.program_run.proofs.SessionLines.{asked}
use Rattle.program_run.proofs.watched_line.play_any.Goals as goal

pub play-requires : goal.play-requires
play-requires g c =
    record {
      valid =
          asked c.args.stage.now c.args.raw.now c.in-Play.stamp c.in-Play.line
          (sym c.in-Play.is ∙ c.in_ok-stamp.ensures);
    }

pub returns-in-Play-clause-stage : goal.returns-in-Play-clause-stage
returns-in-Play-clause-stage g c =
    in_any_case c.play.result
    (c.after.ensures ∙ ap (stage_behind c.args.stage.now) (sym c.in-Play.is ∙ c.in_ok-stamp.ensures))

pub returns-in-Play-clause-led : goal.returns-in-Play-clause-led
returns-in-Play-clause-led g c = λ unspent few.
    subst (λ (m : Meaning). IfOk c.play.result (IsLedBy c.args.before c.args.player.now c.play.new.player m))
    (sym c.in-Play.is ∙ c.in_ok-stamp.ensures) (c.play.ensures.led unspent)

pub returns-in-End-clause-stage : goal.returns-in-End-clause-stage
returns-in-End-clause-stage g c = ap (stage_behind c.args.stage.now) (sym c.in-End.is ∙ c.in_ok-stamp.ensures)

pub returns-in-End-clause-led : goal.returns-in-End-clause-led
returns-in-End-clause-led g c = λ unspent few.
    subst (λ (m : Meaning).
    IsLedBy c.args.before c.args.player.now c.args.player.now m (Some (last.End c.entries.result)))
    (sym c.in-End.is ∙ c.in_ok-stamp.ensures) (refl, ap (λ n. Some (last.End n)) c.entries.ensures.number)

pub returns-in-End-clause-watched : goal.returns-in-End-clause-watched
returns-in-End-clause-watched g c =
    watched_none g.W.Watch.may_follow c.args.player.now.limits.store c.args.player.now.play.journal c.args.watch.now

pub returns-in-Bad-clause-stage : goal.returns-in-Bad-clause-stage
returns-in-Bad-clause-stage g c = ap (stage_behind c.args.stage.now) (sym c.in-Bad.is ∙ c.in_ok-stamp.ensures)

pub returns-in-Bad-clause-led : goal.returns-in-Bad-clause-led
returns-in-Bad-clause-led g c = λ unspent few.
    let next : c.saturating_add.result ≡ c.args.before + 1 = omega (arith, few, c.saturating_add.ensures) in
    subst (λ (m : Meaning).
    IsLedBy c.args.before c.args.player.now c.args.player.now m (Some (last.Bad c.saturating_add.result)))
    (sym c.in-Bad.is ∙ c.in_ok-stamp.ensures) (refl, ap (λ n. Some (last.Bad n)) next)

pub returns-in-Bad-clause-watched : goal.returns-in-Bad-clause-watched
returns-in-Bad-clause-watched g c =
    watched_none g.W.Watch.may_follow c.args.player.now.limits.store c.args.player.now.play.journal c.args.watch.now

pub returns-in_err-stamp-clause-watched : goal.returns-in_err-stamp-clause-watched
returns-in_err-stamp-clause-watched g c =
    watched_none g.W.Watch.may_follow c.args.player.now.limits.store c.args.player.now.play.journal c.args.watch.now
