use Rattle.std.proofs.Common.{◌≡◌, ◌-◌, ◌<◌, ◌≤◌, length, sym, ap, subst, ◌∙◌, arith}
use Rattle.std.proofs.lemmas.Result.{err_from_is_err_and}
use Rattle.trial_run.specs.declared.whose.Whose.TheVariants as whose
use Rattle.trial_run.specs.Ran.{Ran, went}
use Rattle.trial_run.specs.Play.{TrialPlay}
use Rattle.trial_run.specs.Rounds.{turn, field_turns, round}
use Rattle.trial_run.specs.Working.{IsHalt}
use Rattle.trial_run.proofs.RunsInTurn.{goes, run_halts}
use Rattle.trial_run.proofs.LoopsRun.{turns_go, turns_stop, turns_end}
use Rattle.trial_run.proofs.PhasesRun.{stays_on}
use Rattle.trial_run.proofs.trial.Trial.round.Goals as goal

pub returns-in_err-turn-clause-run : goal.returns-in_err-turn-clause-run
unfolding round
returns-in_err-turn-clause-run c =
    let p = err_from_is_err_and c.from_residual.result c.from_residual.ensures.1 in
    let t = c.args.self.now in
    rw (p.1, p.2)
    (run_halts (turn whose.Method t) (field_turns (length t.fields) 0) _ _ c.in_err-turn.ensures.run)

begins : (t mid : TrialPlay) → turn whose.Method t ≡ went mid → field_turns (length t.fields - 0) 0 mid ≡ round t
unfolding round
begins t mid e =
    ap (λ n. field_turns n 0 mid) (let z : length t.fields - 0 ≡ length t.fields = omega arith in z)
    ∙ sym (goes (turn whose.Method t) mid (field_turns (length t.fields) 0) e)

pub loop-index-init : goal.loop-index-init
loop-index-init c =
    let seen = ap (λ (t : TrialPlay). length t.fields) c.self.view_is in
    let kept = c.turn.ensures.stays.fields in
    record {
      left = begins c.args.self.now c.turn.new.self c.in_ok-turn.ensures.run;
      count = c.len-index-end.ensures ∙ c.self.inside.fields.ok.0 ∙ seen ∙ kept;
      stays = c.turn.ensures.stays;
    }

pub returns-in_err-turn-2-clause-run : goal.returns-in_err-turn-2-clause-run
returns-in_err-turn-2-clause-run c =
    let p = err_from_is_err_and c.from_residual-in_err-turn-2.result c.from_residual-in_err-turn-2.ensures.1 in
    let n = length c.args.self.now.fields in
    let lt : c.loop-index.index < n =
    subst (λ m. c.loop-index.index < m) c.loop-index.invariant.count c.loop-index-test.true in
    rw (p.1, p.2)
    (subst (λ (r : Ran TrialPlay). IsHalt r c.in_err-turn-2.field-0.0 c.turn-in-loop-index.new.self)
    c.loop-index.invariant.left
    (turns_stop n c.loop-index.index c.loop-index.self _ _ lt c.in_err-turn-2.ensures.run))

pub loop-index-preserved : goal.loop-index-preserved
loop-index-preserved c =
    let n = length c.args.self.now.fields in
    let lt : c.loop-index.index < n =
    subst (λ m. c.loop-index.index < m) c.loop-index.invariant.count c.loop-index-test.true in
    record {
      left =
          sym (turns_go n c.loop-index.index c.loop-index.self c.turn-in-loop-index.new.self lt
          c.in_ok-turn-2.ensures.run)
          ∙ c.loop-index.invariant.left;
      count = c.loop-index.invariant.count;
      stays = stays_on _ _ _ c.loop-index.invariant.stays c.turn-in-loop-index.ensures.stays;
    }

pub returns-clause-run : goal.returns-clause-run
returns-clause-run c =
    let n = length c.args.self.now.fields in
    let le : n ≤ c.loop-index.index =
    subst (λ m. m ≤ c.loop-index.index) c.loop-index.invariant.count c.loop-index-test.false in
    sym c.loop-index.invariant.left ∙ turns_end n c.loop-index.index c.loop-index.self le
