use Rattle.std.proofs.Common.{◌+◌, ap, sym, ◌∙◌, refl}
use Rattle.program_run.specs.declared.act_list.Verdict.TheVariants as verdict
use Rattle.program_run.specs.declared.last_line.LastLine.TheVariants as last
use Rattle.program_run.specs.Endings.{ending}
use Rattle.program_run.specs.ActScript.{ActsStand}
use Rattle.program_run.proofs.ActListAnswers.{played}
use Rattle.program_run.proofs.ActsPlayed.{settles, ended, played_act}
use Rattle.program_run.proofs.act_list.ActListScript.line.Goals as goal

pub returns-in-Bad : goal.returns-in-Bad
returns-in-Bad c = λ done output gathered few s held.
    let count = c.acts-count.ensures.length s.log s.stands in
    ended (ActsStand c.args.self.now) _ done c.args.raw.now output gathered (last.Bad (c.from.result + 1)) held
    (settles done output s.log c.args.raw.now c.acts-count.result verdict.Bad
    (last.Bad (c.from.result + 1)) s.goes_on count (sym c.in-Bad.is ∙ c.in_ok-judge.ensures)
    (λ cut more. ap (λ k. ending (last.Bad (k + 1))) (sym c.from.ensures)) refl)

pub returns-in-End : goal.returns-in-End
returns-in-End c = λ done output gathered few s held.
    let count = c.acts-count.ensures.length s.log s.stands in
    ended (ActsStand c.args.self.now) _ done c.args.raw.now output gathered (last.End c.acts-count.result) held
    (settles done output s.log c.args.raw.now c.acts-count.result verdict.End
    (last.End c.acts-count.result) s.goes_on count (sym c.in-End.is ∙ c.in_ok-judge.ensures)
    (λ cut more. refl) refl)

pub returns-in-Full : goal.returns-in-Full
returns-in-Full c = λ done output gathered few s held.
    let count = c.acts-count.ensures.length s.log s.stands in
    ended (ActsStand c.args.self.now) _ done c.args.raw.now output gathered (last.Full c.acts-count.result) held
    (settles done output s.log c.args.raw.now c.acts-count.result verdict.Full
    (last.Full c.acts-count.result) s.goes_on count (sym c.in-Full.is ∙ c.in_ok-judge.ensures)
    (λ cut more. refl) refl)

pub play-requires-clause-number : goal.play-requires-clause-number
play-requires-clause-number c =
    rw (sym c.acts-count.ensures.number)
    (played c.acts-count.result c.args.raw.now c.in-Play.act (sym c.in-Play.is ∙ c.in_ok-judge.ensures)).0

pub play-requires-clause-fits : goal.play-requires-clause-fits
play-requires-clause-fits c =
    (played c.acts-count.result c.args.raw.now c.in-Play.act (sym c.in-Play.is ∙ c.in_ok-judge.ensures)).1

pub returns-in_ok-play-in-Play : goal.returns-in_ok-play-in-Play
returns-in_ok-play-in-Play c = λ done output gathered few s held.
    let count = c.acts-count.ensures.length s.log s.stands in
    played_act c.args.self.now _ done c.args.raw.now output gathered c.acts-count.result c.in-Play.act s count
    (sym c.in-Play.is ∙ c.in_ok-judge.ensures)
    (c.in_ok-play-in-Play.ensures.stands s.log s.stands) (c.in_ok-play-in-Play.ensures.printed s.log s.stands) held
