use Rattle.std.proofs.Common.{◌≡◌, [], length, sym, ◌∙◌, Some, None, false}
use Rattle.program_run.specs.SessionScript.{HoldsBy}
use Rattle.program_run.proofs.SessionsPlayed.{holds_text}
use Rattle.program_run.proofs.session.SessionPlayScript.close.Goals as goal

pub returns-clause-all : goal.returns-clause-all
returns-clause-all c = λ gathered held.
    let whole : c.close.new.self.is_short ≡ false = sym c.is_short.ensures ∙ c.if-is_short.false in
    elim c.args.self.now.player as (λ o. HoldsBy o c.args.self.now.printer gathered
    → c.close.new.self.text ≡ gathered) [
      | None ↦ λ h. c.close.ensures.text 0 0 [] h.0 whole ∙ sym h.1
      | Some player ↦ λ h.
          holds_text player c.args.self.now.printer gathered c.close.new.self.text h
          (c.close.ensures.text player.limits.store (length h.written) player.play.journal h.watched.told whole)
    ] held
