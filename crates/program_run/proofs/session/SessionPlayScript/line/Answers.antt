use Rattle.std.proofs.Common.{◌≡◌, ◌+◌, sym, ◌∙◌, arith, subst}
use Rattle.std.specs.Prelude.{IfOk}
use Rattle.program_run.specs.Scripts.{Played}
use Rattle.program_run.specs.Session.{session_of_lines}
use Rattle.program_run.specs.PlayerScript.{PlayerStands, PlayerHolds}
use Rattle.program_run.specs.SessionScript.{StandsBy, HoldsBy}
use Rattle.program_run.proofs.SessionLines.{set}
use Rattle.program_run.proofs.SessionsPlayed.{begun, line_told_if}
use Rattle.program_run.proofs.session.SessionPlayScript.line.Goals as goal

pub returns-in-Some : goal.returns-in-Some
returns-in-Some c = λ done output gathered few stood held.
    let s = subst (λ o. StandsBy c.args.self.now.stage o c.args.self.now.before done output) c.in-Some.is stood in
    let h = subst (λ o. HoldsBy o c.args.self.now.printer gathered) c.in-Some.is held in
    let next : c.args.self.now.before + 1 ≡ c.saturating_add-self.result =
    omega (arith, few, s.count, c.saturating_add-self.ensures) in
    subst (λ n. IfOk c.play_line.result
    (Played session_of_lines (PlayerStands c.play_line.new.stage c.play_line.new.player n)
    (PlayerHolds c.play_line.new.player c.play_line.new.watch) done c.args.raw.now output gathered))
    next
    (line_told_if c.args.self.now.stage c.play_line.new.stage _ c.play_line.new.player c.args.self.now.printer
    c.play_line.new.watch c.args.self.now.before done c.args.raw.now output gathered c.play_line.result s h
    c.play_line.ensures.stage (c.play_line.ensures.led s.unspent (omega (arith, few, s.count)))
    c.play_line.ensures.watched)

pub new-requires : goal.new-requires
new-requires c =
    record { limits = set c.args.raw.now c.in-Some-2.opening (sym c.in-Some-2.is ∙ c.in_ok-opening-in-None.ensures) }

pub returns-in_ok-player-in-Some-2 : goal.returns-in_ok-player-in-Some-2
returns-in_ok-player-in-Some-2 c = λ done output gathered few stood held.
    let s = subst (λ o. StandsBy c.args.self.now.stage o c.args.self.now.before done output) c.in-None.is stood in
    let h = subst (λ o. HoldsBy o c.args.self.now.printer gathered) c.in-None.is held in
    let next : c.saturating_add-self.result ≡ 1 = omega (arith, s.0, c.saturating_add-self.ensures) in
    begun c.of-self.result c.in_ok-player-in-Some-2.player c.saturating_add-self.result c.args.self.now.printer
    c.in-Some-2.opening done c.args.raw.now output gathered
    (sym c.in-Some-2.is ∙ c.in_ok-opening-in-None.ensures) c.of-self.ensures c.in_ok-player-in-Some-2.ensures.new
    (next, s.1, s.2) h
