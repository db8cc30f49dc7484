use Rattle.std.proofs.Common.{◌≡◌, map, take}
use Rattle.relay_objects.specs.Listed.{refocused_in}
use Rattle.relay_objects.proofs.entered.refocus_each.Given as goal

abbrev pub invariant-loop-field : goal.invariant-loop-field
invariant-loop-field l = record {
  items : l.shelf.items ≡ map (refocused_in (take l.field-index l.fields) l.peer) l.fn.shelf.items;
  room : l.shelf.room ≡ l.fn.shelf.room;
}
