use Rattle.std.proofs.Common.{◌≡◌, ◌+◌, sym, ◌∙◌, arith, subst}
use Rattle.std.specs.Prelude.{IfOk}
use Rattle.program_run.specs.Scripts.{Played}
use Rattle.program_run.specs.Explain.{explain_of_lines}
use Rattle.program_run.specs.ExplainScript.{ExplainerStands, ExplainerHolds, ExplainStandsBy, ExplainHoldsBy}
use Rattle.program_run.proofs.SessionLines.{set}
use Rattle.program_run.proofs.SessionsExplained.{begun}
use Rattle.program_run.proofs.explain.ExplainPlayScript.line.Goals as goal

pub returns-in-Some : goal.returns-in-Some
returns-in-Some g c = λ done output gathered few stood held.
    let which = g.W.Wanted.which in
    let s = subst (λ o. ExplainStandsBy which c.args.self.now.stage o c.args.self.now.before done output)
    c.in-Some.is stood in
    let h = subst (λ o. ExplainHoldsBy which o c.args.self.now.explainer gathered) c.in-Some.is held in
    let next : c.args.self.now.before + 1 ≡ c.saturating_add-self.result =
    omega (arith, few, s.count, c.saturating_add-self.ensures) in
    subst (λ n. IfOk c.explain_line.result
    (Played (explain_of_lines which) (ExplainerStands which c.explain_line.new.stage c.explain_line.new.player n)
    (ExplainerHolds which c.explain_line.new.player c.explain_line.new.explainer) done c.args.raw.now output gathered))
    next (c.explain_line.ensures which done output gathered few s h)

pub new-requires : goal.new-requires
new-requires g c =
    record { limits = set c.args.raw.now c.in-Some-2.opening (sym c.in-Some-2.is ∙ c.in_ok-opening-in-None.ensures) }

pub returns-in_ok-player-in-Some-2 : goal.returns-in_ok-player-in-Some-2
returns-in_ok-player-in-Some-2 g c = λ done output gathered few stood held.
    let which = g.W.Wanted.which in
    let s = subst (λ o. ExplainStandsBy which c.args.self.now.stage o c.args.self.now.before done output)
    c.in-None.is stood in
    let h = subst (λ o. ExplainHoldsBy which o c.args.self.now.explainer gathered) c.in-None.is held in
    let next : c.saturating_add-self.result ≡ 1 = omega (arith, s.0, c.saturating_add-self.ensures) in
    begun which c.of-self.result c.in_ok-player-in-Some-2.player c.saturating_add-self.result
    c.args.self.now.explainer c.in-Some-2.opening done c.args.raw.now output gathered
    (sym c.in-Some-2.is ∙ c.in_ok-opening-in-None.ensures) c.of-self.ensures c.in_ok-player-in-Some-2.ensures.new
    (next, s.1, s.2) h
