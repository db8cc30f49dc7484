use Rattle.std.proofs.Common.{rules, List, ℕ, Result, inl, subst}
use Rattle.serve_record.specs.declared.record.RecordStop.{RecordStop}
use Rattle.serve_record.proofs.HandedWritten.{on_fault}
use Rattle.serve_run.specs.Written.{HoldsHanded}
use Rattle.serve_run.proofs.HandedEnds.{ends_by}
use Rattle.serve_run.proofs.record.record_end.Goals as goal

pub returns-in_err-text-clause-written : goal.returns-in_err-text-clause-written
returns-in_err-text-clause-written g c held first =
    on_fault _ _ _ (search rules)
    (inl (subst (λ (r : Result (List ℕ) RecordStop). HoldsHanded c.args.hub.now.limits held
    (g.K.Sink.held c.args.output.now) c.args.pass.now.handed r) c.in_err-text.was first).1)

pub returns-in_err-record_rest-clause-written : goal.returns-in_err-record_rest-clause-written
returns-in_err-record_rest-clause-written g c held first =
    on_fault _ _ _ (search rules)
    (inl (c.in_err-record_rest.ensures.written held
    (subst (λ (r : Result (List ℕ) RecordStop). HoldsHanded c.args.hub.now.limits held
    (g.K.Sink.held c.args.output.now) c.args.pass.now.handed r) c.in_ok-text.was first).0).1)

pub returns-clause-written : goal.returns-clause-written
returns-clause-written g c held first =
    ends_by c.args.hub.now.limits held (g.K.Sink.held c.record_rest.new.output) (g.K.Sink.held c.end.new.output)
    c.record_rest.new.pass.seat.seen c.args.root.now.seen c.record_rest.new.text c.record_rest.new.pass.handed
    (c.in_ok-record_rest.ensures.written held
    (subst (λ (r : Result (List ℕ) RecordStop). HoldsHanded c.args.hub.now.limits held
    (g.K.Sink.held c.args.output.now) c.args.pass.now.handed r) c.in_ok-text.was first).0).0
    c.in_ok-record_rest.ensures.all c.end.result c.end.ensures.whole c.end.ensures.front
