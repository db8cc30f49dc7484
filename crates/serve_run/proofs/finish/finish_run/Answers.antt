use Rattle.std.proofs.Common.{⊎_elim, ◌∙◌, ap, map, arith}
use Rattle.hub_lock.specs.Passes.{PassSeat, Recorder}
use Rattle.serve_run.specs.LinkJobs.{job_reported}
use Rattle.serve_run.specs.Statuses.{status_with}
use Rattle.serve_run.specs.Unserved.{pushed}
use Rattle.serve_run.proofs.LawsKept.{seen_through}
use Rattle.serve_run.proofs.StartsCounted.{rose_since, rose_until}
use Rattle.serve_run.proofs.RecorderOut.{root_split, pass_of, of_on, free_on, in_split}
use Rattle.serve_run.proofs.finish.finish_run.Goals as goal

pub record_first-first-requires-clause-own : goal.record_first-first-requires-clause-own
record_first-first-requires-clause-own g c =
    pass_of c.args.hub.now c.args.root.now c.record_pass-pass.new.root.seen c.record_pass-pass.result c.requires.root.of
    c.record_pass-pass.ensures.right

pub record_first-first-requires-clause-none : goal.record_first-first-requires-clause-none
record_first-first-requires-clause-none g c = ap (λ (x : Recorder). x.handed) c.record_pass-pass.ensures.right

pub collect-trouble-requires-clause-root : goal.collect-trouble-requires-clause-root
collect-trouble-requires-clause-root g c =
    root_split c.args.hub.now c.args.root.now c.record_pass-pass.new.root c.requires.root c.record_pass-pass.ensures.left

pub collect-trouble-requires-clause-balance : goal.collect-trouble-requires-clause-balance
collect-trouble-requires-clause-balance g c =
    let out = ap (λ (s : PassSeat). s.out) c.record_pass-pass.ensures.left in
    let balance = c.requires.balance in omega arith

pub record_last-written-requires-clause-own : goal.record_last-written-requires-clause-own
record_last-written-requires-clause-own g c =
    of_on c.args.hub.now c.record_pass-pass.result.seat c.record_first-first.new.pass.seat
    (pass_of c.args.hub.now c.args.root.now c.record_pass-pass.new.root.seen c.record_pass-pass.result c.requires.root.of
    c.record_pass-pass.ensures.right)
    c.record_first-first.ensures.none_made.seat

pub record_last-written-requires-clause-apart : goal.record_last-written-requires-clause-apart
record_last-written-requires-clause-apart g c =
    let e = c.record_first-first.ensures in
    free_on c.record_pass-pass.result.seat c.record_first-first.new.pass.seat e.none_made.seat e.none_made.seen
    c.record_pass-pass.ensures.fresh

pub returns-clause-ended : goal.returns-clause-ended
returns-clause-ended g c =
    let linked = c.args.root.now in
    let split = c.record_pass-pass.new.root in
    let p = c.record_pass-pass.ensures in
    let e = c.record_first-first.ensures in
    let k = c.collect-trouble.ensures in
    let back = c.collect-trouble.new.root in
    let l = c.record_last-written.ensures in
    let r = c.record_last-written.result in record {
      collected = back;
      mine = seen_through back.seen split.seen linked.seen 0 k.mine p.mine;
      kept = λ n out. (
        (k.settled n (in_split linked split n p.left out)).0,
        seen_through back.seen split.seen linked.seen n (k.settled n (in_split linked split n p.left out)).1
            (p.settled n out),
      );
      given = k.given.0;
      came = k.given.1;
      laws = k.given.2;
      in_taken = k.given.3;
      taken = k.given.6 ∙ ap (pushed (map job_reported k.given.0)) (ap (λ (s : PassSeat). s.taken) p.left);
      keyed = k.given.5;
      history = c.record_last-written.new.root.seen;
      copied = l.mine;
      settled = l.settled;
      lawful = l.lawful;
      owned = l.owned;
      written = r;
      recorded = l.written (g.K.Sink.held c.args.output.now) e.written;
      fault = λ fault. ⊎_elim
          (λ first. rose_until _ _ _ (e.cause first.0) first.1)
          (λ later. rose_since _ _ _ (e.no_fault later.0) later.1) (l.cause fault);
      no_fault = λ other. (l.no_fault other).1 ∙ e.no_fault (l.no_fault other).0;
      status_is = c.status_with.ensures ∙ ap (status_with r c.args.accepted) k.given.4;
    }
