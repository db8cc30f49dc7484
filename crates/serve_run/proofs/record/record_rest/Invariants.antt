use Rattle.std.proofs.Common.{◌≡◌, ◌≤◌, ℕ, List, Option}
use Rattle.serve_record.specs.Lines.{Holds}
use Rattle.serve_record.specs.Handed.{handed_text, MadeNoStep}
use Rattle.serve_run.proofs.record.record_rest.Given as goal

-- the pass has seen more, and the output has the text of what was handed out, but for what waits
abbrev pub invariant-loop : goal.invariant-loop
invariant-loop g l = record {
  none_made : MadeNoStep l.initial.pass.seat l.pass.seat;
  written : (first : Option (List ℕ))
      → Holds first (g.K.Sink.held l.initial.output) l.initial.text (handed_text l.hub.limits l.initial.pass.handed)
      → Holds first (g.K.Sink.held l.output) l.text (handed_text l.hub.limits l.pass.handed);
  never_falls : g.K.Sink.fault_count l.initial.output ≤ g.K.Sink.fault_count l.output;
  none_failed : g.K.Sink.fault_count l.output ≡ g.K.Sink.fault_count l.initial.output;
}
