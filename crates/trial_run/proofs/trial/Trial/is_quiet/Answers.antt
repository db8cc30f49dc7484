use Rattle.std.proofs.Common.{◌<◌, ◌≤◌, length, sym, ap, ◌∙◌, arith}
use Rattle.trial_run.specs.Play.{TrialPlay}
use Rattle.trial_run.proofs.LoopsRun.{not_quiet, quiet_begins, quiet_goes, quiet_stops, quiet_ends}
use Rattle.trial_run.proofs.trial.Trial.is_quiet.Goals as goal

pub returns-then-is_due : goal.returns-then-is_due
returns-then-is_due c = sym (not_quiet c.args.self.now (sym c.if-is_due.ensures))

pub loop-index-init : goal.loop-index-init
loop-index-init c = sym (quiet_begins c.args.self.now (sym c.if-is_due.ensures))

pub returns-then-is_due-2 : goal.returns-then-is_due-2
returns-then-is_due-2 c =
    let t = c.args.self.now in
    let seen = ap (λ (x : TrialPlay). length x.fields) c.self.view_is in
    let lt : c.loop-index.index < length t.fields = omega (arith, c.self.inside.fields.ok.0) in
    sym (quiet_stops (length t.fields) c.loop-index.index t lt (sym c.if-is_due-2.ensures)) ∙ c.loop-index.invariant

pub loop-index-preserved : goal.loop-index-preserved
loop-index-preserved c =
    let t = c.args.self.now in
    let seen = ap (λ (x : TrialPlay). length x.fields) c.self.view_is in
    let lt : c.loop-index.index < length t.fields = omega (arith, c.self.inside.fields.ok.0) in
    sym (quiet_goes (length t.fields) c.loop-index.index t lt (sym c.if-is_due-2.ensures)) ∙ c.loop-index.invariant

pub returns : goal.returns
returns c =
    let t = c.args.self.now in
    let seen = ap (λ (x : TrialPlay). length x.fields) c.self.view_is in
    let le : length t.fields ≤ c.loop-index.index = omega (arith, c.self.inside.fields.ok.0) in
    sym (quiet_ends (length t.fields) c.loop-index.index t le) ∙ c.loop-index.invariant
