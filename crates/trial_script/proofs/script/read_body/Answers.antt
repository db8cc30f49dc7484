use Rattle.std.proofs.Common.{ℕ, ◌+◌, sym, ap, ◌∙◌, arith}
use Rattle.trial_script.specs.declared.rules.KeyRules.{KeyRules}
use Rattle.trial_script.specs.declared.script.Script.{Script}
use Rattle.trial_script.specs.Lines.{lines_of}
use Rattle.trial_script.specs.Rules.{with_line}
use Rattle.trial_script.specs.Scripts.{Rest, actions_of, by_entry, script_from}
use Rattle.trial_script.proofs.ScriptsRead.{one_entry, one_line, no_fields, was_put, was_not_put, answers}
use Rattle.trial_script.proofs.script.read_body.Goals as goal

pub loop-raw-preserved : goal.loop-raw-preserved
loop-raw-preserved c =
    let line = c.in_ok-line.ensures.exact in
    let put = was_put _ _ c.loop-raw.rules c.put_line.new.self c.in_ok-put_line.ensures c.if-not-branch.false in
    let here = one_entry c.loop-raw.rules c.put_line.new.self c.loop-raw.number c.in-Some.raw.now
    (lines_of c.in-Some.more.now)
    (lines_of c.loop-raw.rest.now) c.in-Some.ensures.line (ap (with_line c.loop-raw.rules) (sym line) ∙ put) in
    record {
      few = omega (arith, c.loop-raw.invariant.few, c.in-Some.ensures.fewer);
      all = sym here
          ∙ c.loop-raw.invariant.all;
    }

pub returns-then-not-branch : goal.returns-then-not-branch
returns-then-not-branch c =
    let number = c.loop-raw.number in
    let more = lines_of c.in-Some.more.now in
    let next : KeyRules → Script = λ with. script_from with (number + 1) more in
    let play : ℕ → Rest = λ n. actions_of n (number + 1) more in
    let line = c.in_ok-line.ensures.exact in
    let same = was_not_put _ _ c.loop-raw.rules c.put_line.new.self c.in_ok-put_line.ensures c.if-not-branch.true in
    let here = one_line c.loop-raw.rules number c.in-Some.raw.now more
    (lines_of c.loop-raw.rest.now) c.in-Some.ensures.line in
    answers c.end_rules.result _ _
    (ap (λ t. by_entry t number c.in_ok-line.line next play) same
    ∙ ap (λ o. by_entry c.loop-raw.rules number o next play) line ∙ sym here ∙ c.loop-raw.invariant.all)
    (c.end_rules.ensures next)

pub returns : goal.returns
returns c =
    c.without_actions.ensures
    ∙ sym (no_fields c.loop-raw.rules c.loop-raw.number (lines_of c.loop-raw.rest.now) c.in_default.ensures.line)
    ∙ c.loop-raw.invariant.all
