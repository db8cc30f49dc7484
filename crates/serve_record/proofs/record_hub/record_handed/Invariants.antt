use Rattle.serve_record.proofs.HandedWritten.{IsRecording}
use Rattle.serve_record.proofs.record_hub.record_handed.Given as goal

abbrev pub invariant-loop : goal.invariant-loop
invariant-loop g l =
    IsRecording g.K.Sink.held g.K.Sink.fault_count l.hub.limits l.initial.pass l.pass l.initial.output l.output
    l.initial.text
    l.text
