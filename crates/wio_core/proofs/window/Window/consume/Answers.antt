use Rattle.std.proofs.Common.{◌∙◌, ◌≡◌, ap, sym, drop, arith, length, ◌-◌}
use Rattle.wio_core.proofs.WindowParts.{part_without_front, length-part}
use Rattle.wio_core.proofs.window.Window.consume.Goals as goal

pub returns-else-self : goal.returns-else-self
returns-else-self c =
    let w = c.self.inside in
    let i = c.self.invariant in
    let same : length c.args.self.now ≡ w.end - w.start = sym (ap length c.self.view_is)
    ∙ length-part w.buffer.items w.start w.end (omega (arith, i.0, i.2)) in
    part_without_front w.buffer.items w.start w.end c.args.n (omega (arith, same, c.requires, i.1))
    ∙ ap (λ l. drop c.args.n l) c.self.view_is
