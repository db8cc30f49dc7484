use Rattle.std.proofs.Common.{◌∙◌, [], ap, refl, arith}
use Rattle.hub_lock.specs.Seats.{after_split, split_off, having_seen, naming}
use Rattle.hub_lock.specs.Passes.{PassSeat}
use Rattle.hub_lock.specs.Recording.{recorder}
use Rattle.serve_run.proofs.LawsKept.{seen_again, seen_through}
use Rattle.serve_run.proofs.RecorderOut.{root_seen, look_mine, in_seen}
use Rattle.serve_run.proofs.finish.record_pass.Goals as goal

pub loop-init : goal.loop-init
loop-init g c = record {
  root = refl;
  mine = seen_again c.args.root.now.seen 0;
  settled = λ n out. seen_again c.args.root.now.seen n;
}

pub recorder-requires : goal.recorder-requires
recorder-requires g c =
    let i = c.loop.invariant in
    let next = ap (λ (s : PassSeat). s.next) i.root in
    let room = c.requires.room in record {
      own = (root_seen c.args.hub.now c.args.root.now c.loop.root c.requires.root i.root).of;
      room = omega arith;
    }

pub returns-in-Some-recorder-clause-left : goal.returns-in-Some-recorder-clause-left
returns-in-Some-recorder-clause-left g c =
    c.in-Some-recorder.ensures.left
    ∙ ap (λ (s : PassSeat). after_split (naming (having_seen s c.recorder.new.root.seen))) c.loop.invariant.root

pub returns-in-Some-recorder-clause-right : goal.returns-in-Some-recorder-clause-right
returns-in-Some-recorder-clause-right g c =
    c.in-Some-recorder.ensures.right
    ∙ ap (λ (s : PassSeat). recorder (split_off (having_seen s c.recorder.new.root.seen)) []) c.loop.invariant.root

pub returns-in-Some-recorder-clause-mine : goal.returns-in-Some-recorder-clause-mine
returns-in-Some-recorder-clause-mine g c =
    seen_through c.recorder.new.root.seen c.loop.root.seen c.args.root.now.seen 0
    (look_mine c.args.hub.now.limits c.loop.root c.recorder.new.root.seen
    (ap (λ (s : PassSeat). s.number) c.loop.invariant.root ∙ c.requires.root.zero) c.recorder.ensures.legal)
    c.loop.invariant.mine

pub returns-in-Some-recorder-clause-settled : goal.returns-in-Some-recorder-clause-settled
returns-in-Some-recorder-clause-settled g c n out =
    let i = c.loop.invariant in
    seen_through c.recorder.new.root.seen c.loop.root.seen c.args.root.now.seen n
    (c.recorder.ensures.settled n (in_seen c.args.root.now c.loop.root n i.root out)) (i.settled n out)

pub loop-preserved : goal.loop-preserved
loop-preserved g c =
    let i = c.loop.invariant in
    let h = c.recorder.new.root.seen in record {
      root = c.in_default.ensures.none ∙ ap (λ (s : PassSeat). having_seen s h) i.root;
      mine = seen_through h c.loop.root.seen c.args.root.now.seen 0
          (look_mine c.args.hub.now.limits c.loop.root h
          (ap (λ (s : PassSeat). s.number) i.root ∙ c.requires.root.zero) c.recorder.ensures.legal) i.mine;
      settled = λ n out. seen_through h c.loop.root.seen c.args.root.now.seen n
          (c.recorder.ensures.settled n (in_seen c.args.root.now c.loop.root n i.root out)) (i.settled n out);
    }
