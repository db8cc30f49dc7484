use Rattle.std.proofs.Common.{◌≡◌, inl, inr, ⊎_elim, ◌∙◌, ap, subst}
use Rattle.turn_lock.specs.Pairs.{HasSeen}
use Rattle.hub_lock.specs.Passes.{PassSeat}
use Rattle.serve_run.proofs.RecorderOut.{free_on, all_owned, either_seen}
use Rattle.serve_run.proofs.HandedRecorded.{recorded-by}
use Rattle.serve_run.proofs.record.record_last.Goals as goal

pub returns-clause-mine : goal.returns-clause-mine
returns-clause-mine g c =
    subst (λ n. HasSeen c.finish.new.root.seen n c.args.root.now.seen) c.requires.root.zero c.finish.ensures.both.mine

pub returns-clause-settled : goal.returns-clause-settled
returns-clause-settled g c = c.finish.ensures.both.taken

pub returns-clause-lawful : goal.returns-clause-lawful
returns-clause-lawful g c =
    c.seen-entries.ensures.lawful c.args.hub.now.limits
    (ap (λ (s : PassSeat). s.constant) c.finish.ensures.met ∙ c.requires.root.of.1)

pub returns-clause-owned : goal.returns-clause-owned
returns-clause-owned g c =
    let pass = c.record_end-written.new.pass.seat in
    let e = c.record_end-written.ensures in
    let f = c.finish.ensures in
    all_owned c.args.root.now pass c.finish.new.root f.met f.tallied f.both c.requires.out
    (free_on c.args.pass.seat pass e.none_made.seat e.none_made.seen c.requires.apart)

pub returns-clause-written : goal.returns-clause-written
returns-clause-written g c held holds =
    let limits = c.args.hub.now.limits in
    let pass = c.record_end-written.new.pass in
    let e = c.record_end-written.ensures in
    let f = c.finish.ensures in
    let root = c.finish.new.root in
    let met : root.seen ≡ _ = ap (λ (s : PassSeat). s.seen) f.met in
    recorded-by limits held _ pass.seat.seen c.args.root.now.seen root.seen pass.handed
    (c.count-count.ensures.front limits (ap (λ (s : PassSeat). s.constant) e.none_made.seat ∙ c.requires.own.1))
    f.both.theirs.0 f.both.theirs.1
    (⊎_elim (λ x. inl (met ∙ x)) (λ x. inr (met ∙ x)) (either_seen c.args.root.now.seen pass.seat.seen))
    (c.seen-entries.ensures.lawful limits (ap (λ (s : PassSeat). s.constant) f.met ∙ c.requires.root.of.1))
    c.record_end-written.result (e.written held holds)
