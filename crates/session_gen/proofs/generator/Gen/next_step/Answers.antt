use Rattle.std.proofs.Common.{◌≡◌, ◌+◌, ◌-◌, ◌∙◌, ap, sym, arith}
use Rattle.session_gen.specs.Rows.{drawn}
use Rattle.session_gen.specs.Generated.{Progress, step_of, generator_after, word_after}
use Rattle.session_gen.proofs.SetupPlaces.{step_in_setup, step_behind_setup}
use Rattle.session_gen.proofs.WordsInTurn.{word_is, later_is}
use Rattle.session_gen.proofs.generator.Gen.next_step.Goals as goal

pub returns-then-self-lt-SETUP_STEPS-clause-step : goal.returns-then-self-lt-SETUP_STEPS-clause-step
returns-then-self-lt-SETUP_STEPS-clause-step c =
    step_in_setup c.self.inside.number c.self.inside.made c.args.dones c.in_ok-step.step c.in_ok-step.ensures.step
    ∙ ap (λ (p : Progress). step_of p.number p.made c.args.dones) c.self.view_is

pub invariant_of-self-2 : goal.invariant_of-self-2
invariant_of-self-2 c =
    let g = c.self.inside in
    let next : g.made + 1 - 33 ≡ g.made - 33 + 1 = omega (arith, c.if-self-lt-SETUP_STEPS.false) in
    let word = word_is g.number (g.made - 33 + 1) _ _ _ c.self.invariant.later c.next_word-self-inside.ensures in
    let later = later_is g.number (g.made - 33 + 1) _ _ _ c.self.invariant.later c.next_word-self-inside.ensures in
    record {
      few = omega (arith, c.requires, ap (λ (p : Progress). p.made) c.self.view_is);
      word = word ∙ ap (word_after g.number) (sym next);
      later = later ∙ ap (λ n. generator_after g.number (n + 1)) (sym next);
    }

pub returns-clause-step : goal.returns-clause-step
returns-clause-step c =
    let g = c.self.inside in
    c.in_ok-step-2.ensures.step ∙ ap (λ w. drawn w c.args.dones) c.self.invariant.word
    ∙ sym (step_behind_setup g.number g.made c.args.dones c.if-self-lt-SETUP_STEPS.false)
    ∙ ap (λ (p : Progress). step_of p.number p.made c.args.dones) c.self.view_is
