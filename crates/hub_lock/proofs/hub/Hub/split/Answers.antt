use Rattle.std.proofs.Common.{◌≡◌, ◌∙◌, ap, sym, subst, length}
use Rattle.hub_lock.specs.Passes.{journal_seen, total_steps, total_bytes, HasSeenLawful}
use Rattle.hub_lock.specs.Events.{EventSeat, RecordsByAnother, step_of, pass_seat, root_seat}
use Rattle.hub_lock.proofs.NobodyNamed.{another-split}
use Rattle.hub_lock.proofs.PairsLeftOut.{none-shown}
use Rattle.hub_lock.proofs.hub.Hub.split.Goals as goal

pub invariant_of-result : goal.invariant_of-result
invariant_of-result c =
    let right = c.split.ensures.right in (
      sym (ap length (none-shown step_of c.split.result.number c.split.result.seen c.split.ensures.fresh)),
      c.root.invariant.3 ∙ sym (ap (λ (s : EventSeat). length (journal_seen (pass_seat s))) right),
      subst (λ (s : EventSeat). HasSeenLawful (pass_seat s)) (sym right) c.root.invariant.4,
    )

pub invariant_of-root : goal.invariant_of-root
invariant_of-root c =
    let left = c.split.ensures.left in
    subst (λ (s : EventSeat). (s.number ≡ 0) × (c.root.inside.steps ≡ total_steps (root_seat s))
    × (c.root.inside.bytes ≡ total_bytes (root_seat s)) × (c.root.inside.entries ≡ length (journal_seen (root_seat s)))
    × HasSeenLawful (root_seat s) × RecordsByAnother s) (sym left) (
      c.root.invariant.0,
      c.root.invariant.1,
      c.root.invariant.2,
      c.root.invariant.3,
      c.root.invariant.4,
      another-split c.root.inside.seat c.root.invariant.5,
    )

pub returns-clause-fresh : goal.returns-clause-fresh
returns-clause-fresh c = none-shown step_of c.split.result.number c.split.result.seen c.split.ensures.fresh
