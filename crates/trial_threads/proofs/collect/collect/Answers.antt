use Rattle.std.proofs.Common.{◌≡◌, ◌++◌, ◌∷◌, [], ◌<◌, ◌∙◌, List, length, subst, sym, ap, rules, append_assoc}
use Rattle.trial_threads.specs.declared.running.Running.{Running}
use Rattle.trial_threads.specs.Jobs.{AreJobsOf}
use Rattle.trial_threads.proofs.PassesBack.{first_out, took_more}
use Rattle.trial_threads.proofs.collect.collect.Goals as goal

pub loop-left-preserved : goal.loop-left-preserved
loop-left-preserved c =
    let i = c.loop-left.invariant in
    let r = c.remove-running.result in
    let left = c.loop-left.left.items in
    let more = c.remove-running.new.self.items in
    let some : 0 < length left = search rules in
    let first = first_out left more r some c.remove-running.ensures.value c.remove-running.ensures.by_index.2 in
    let e = c.take_back.ensures in record {
      own = e.own;
      of = (subst (λ (l : List Running). AreJobsOf c.args.hub.now l) first i.of).1;
      back = (
        i.back.0 ++ r ∷ [],
        append_assoc i.back.0 (r ∷ []) more ∙ ap (λ (l : List Running). i.back.0 ++ l) (sym first) ∙ i.back.1,
        took_more c.args.root.now c.loop-left.root c.take_back.new.root i.back.0 r c.loop-left.logs.fields
            c.take_back.new.logs.fields c.loop-left.logs.method c.take_back.new.logs.method i.back.2 e.back
            c.in_ok-take_back.ensures.fields c.in_ok-take_back.ensures.method,
      );
    }
