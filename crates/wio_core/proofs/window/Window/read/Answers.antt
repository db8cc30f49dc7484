use Rattle.std.proofs.Common.{◌≡◌, ◌≤◌, ◌∙◌, sym, ap, arith, take, length, ◌++◌, length-take-le, slice_range, ◌+◌, ◌-◌, Result, Ok, Err}
use Rattle.std.specs.Prelude.{OnErr}
use Rattle.std.proofs.lemmas.List.{with_items_is}
use Rattle.wio_core.proofs.WindowParts.{part_with_read, part_as_before, length-with_read, length-part}
use Rattle.wio_core.proofs.window.Window.read.Goals as goal

always_on_err : {T E P : Type 0} (r : Result T E) → P → OnErr r P
always_on_err (Ok n) p = tt
always_on_err (Err e) p = p

pub returns-in_err-n-clause-stays : goal.returns-in_err-n-clause-stays
returns-in_err-n-clause-stays g c =
    let room = c.make_room.new in
    let told = c.make_room.ensures in
    let within : room.end ≤ length room.buffer.items = omega (arith, told.size, told.room) in
    let order : room.end ≤ c.min-end.result = omega (arith, told.room, c.min-end.ensures, c.saturating_add.ensures) in
    let size : c.min-end.result ≤ length room.buffer.items = omega (
      arith,
      told.size,
      room.buffer.ok.0,
      c.min-end.ensures,
    ) in
    let len : length c.read.new.buf ≡ c.min-end.result - room.end = c.read.auto.buf
    ∙ ap (λ l. length (slice_range l room.end c.min-end.result)) c.deref_mut.ensures.value
    ∙ length-part room.buffer.items room.end c.min-end.result size in
    always_on_err c.from_residual.result (rw c.deref_mut.ensures.value (
    ap (λ l. slice_range l room.start room.end) (with_items_is room.buffer _ (length-with_read _ _ _ _ len order size
    ∙ sym room.buffer.ok.0)) ∙
    part_as_before _ _ _ _ told.order within ∙ told.same ∙ c.self.view_is))

pub returns-clause-moved : goal.returns-clause-moved
returns-clause-moved g c =
    let m = c.in_ok-n.ensures.moved in
    let n = c.in_ok-n.n in
    let room = c.make_room.new in
    let told = c.make_room.ensures in
    let within : room.end ≤ length room.buffer.items = omega (arith, told.size, told.room) in
    let order : room.end ≤ c.min-end.result = omega (arith, told.room, c.min-end.ensures, c.saturating_add.ensures) in
    let size : c.min-end.result ≤ length room.buffer.items = omega (
      arith,
      told.size,
      room.buffer.ok.0,
      c.min-end.ensures,
    ) in
    let len : length c.read.new.buf ≡ c.min-end.result - room.end = c.read.auto.buf
    ∙ ap (λ l. length (slice_range l room.end c.min-end.result)) c.deref_mut.ensures.value
    ∙ length-part room.buffer.items room.end c.min-end.result size in (
      take n c.read.new.buf,
      record { given = m.given; left = m.left },
      rw c.deref_mut.ensures.value (
          ap (λ l. slice_range l room.start (room.end + n)) (with_items_is room.buffer _ (length-with_read _ _ _ _ len
          order size ∙ sym room.buffer.ok.0)) ∙
          part_with_read _ _ _ _ _ _ told.order within m.within ∙ ap (λ l. l ++ take n c.read.new.buf) (told.same
          ∙ c.self.view_is)),
      length-take-le n c.read.new.buf m.within,
    )
