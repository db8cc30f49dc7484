use Rattle.std.proofs.Common.{◌≡◌, ℕ, ◌+◌, ◌-◌, ◌≤◌, List, length, drop, arith, sym, ◌∙◌}
use Rattle.std.proofs.lemmas.List.{drop-drop}
use Rattle.std.proofs.lemmas.Slice.{drop-put_mid}
use borrow.Rule.Slice.PartMut.{put_mid}
use Rattle.wl_wire.specs.Writing.{room}
use Rattle.wl_wire.proofs.arg_writer.ArgWriter.put.Goals as goal

room_after : (a n : ℕ) (xs ys : List ℕ) → a ≤ length xs → length ys ≡ n →
    drop (a + n) (put_mid a (a + n - a) xs ys) ≡ drop n (drop a xs)
room_after a n xs ys le is =
    drop-put_mid a (a + n - a) xs ys (a + n) (omega arith) le (omega arith) ∙ sym (drop-drop n a xs)

pub returns-clause-room : goal.returns-clause-room
unfolding room
returns-clause-room c =
    room_after c.args.self.now.at (length c.args.bytes.now) c.args.self.now.out.now c.copy_from_slice.new.self
    (omega arith) (omega arith)
