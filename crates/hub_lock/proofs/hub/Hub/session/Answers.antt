use Rattle.std.proofs.Common.{◌∙◌, ap, arith}
use Rattle.hub_lock.specs.Passes.{PassSeat}
use Rattle.hub_lock.proofs.SessionTotals.{session-steps, session-bytes}
use Rattle.hub_lock.proofs.LinesOfEntries.{session-fits}
use Rattle.hub_lock.proofs.hub.Hub.session.Goals as goal

pub returns-clause-steps : goal.returns-clause-steps
returns-clause-steps g c none =
    session-steps c.args.self.now.limits c.args.root.now c.play_root.new.root c.in-Copied.copied
    c.in-Copied.ensures.legal
    c.play_root.ensures.tallied (ap (λ (s : PassSeat). s.out) c.play_root.ensures.root ∙ none)

pub returns-clause-bytes : goal.returns-clause-bytes
returns-clause-bytes g c none =
    session-bytes c.args.self.now.limits c.args.root.now c.play_root.new.root c.in-Copied.copied
    c.in-Copied.ensures.legal
    c.play_root.ensures.tallied (ap (λ (s : PassSeat). s.out) c.play_root.ensures.root ∙ none)

pub returns-clause-unhanded : goal.returns-clause-unhanded
returns-clause-unhanded g c unnamed none = let h = c.in-Copied.ensures.unnamed unnamed in h.1.0 none

pub returns-clause-unmade : goal.returns-clause-unmade
returns-clause-unmade g c one none =
    let h = c.in-Copied.ensures.unnamed (c.play_root.ensures.nobody (omega (arith, one))) in h.1.0 none

pub returns-clause-lines : goal.returns-clause-lines
returns-clause-lines g c =
    session-fits c.args.self.now.limits c.args.root.now c.play_root.new.root.seen c.in-Copied.copied
    c.in-Copied.ensures.legal
