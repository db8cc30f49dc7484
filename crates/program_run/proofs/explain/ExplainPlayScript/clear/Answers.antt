use Rattle.std.proofs.Common.{[], ap, sym, subst, ◌∙◌}
use Rattle.lines_explained.specs.declared.explainer.Lines.{Lines}
use Rattle.lines_explained.specs.Explained.{Explaining, blank}
use Rattle.program_run.specs.ExplainScript.{ExplainHoldsBy}
use Rattle.program_run.proofs.explain.ExplainPlayScript.clear.Goals as goal

pub returns-clause-none : goal.returns-clause-none
returns-clause-none g c =
    let which = g.W.Wanted.which in
    subst (λ (x : Explaining). ExplainHoldsBy which c.args.self.now.player x [])
    (sym (c.clear.ensures ∙ ap (λ (w : Lines). record (blank w) { peers = c.peers_of.result }) c.lines-lines.ensures))
    (c.peers_of.ensures which)
