use Rattle.std.proofs.Common.{◌-◌, ap₂, ℕ, refl}
use Rattle.program_gen.proofs.RunGoesOn.{counted_is}
use Rattle.program_gen.proofs.running.Run.counts.Goals as goal

pub returns : goal.returns
returns c =
    let run = c.args.self.now in
    counted_is run (record {
      entries = c.len.result;
      dones = run.tally.dones;
      activates = run.tally.activates;
      ends = c.len-2.result - c.kept.result.entries;
      queued = run.tally.queued;
    }) c.journal-journal.result.now.entries c.requires c.journal-journal.ensures.entries c.len.ensures.number refl refl
    (ap₂ (λ (a b : ℕ). a - b) c.len-2.ensures.number c.kept.ensures.entries) refl
