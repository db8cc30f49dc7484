-- What is held, and the parts of a box, own what a box of the same seat owns.
use mathlib.Core.List.{[]}
use mir.Syntax.{impl, tnil, dnil}
use denote.RattleType.{RattleType}
use Rattle.std_alloc.proofs.BoxSteps.Form.{Bx}
use Rattle.std_heap.specs.contracts.Global as Heap
use Rattle.std_heap.specs.contracts.GlobalAllocator.TheImpl.{ghosts, dict}
use Rattle.std_heap.proofs.Global.TheLaws as heap
use Rattle.c_relay.specs.contracts.numbered.NumberedSeat as Seat
use Rattle.c_relay.proofs.numbered.NumberedSeat.TheLaws as seat
use Rattle.c_library.specs.contracts.parts.Parts as Parts
use Rattle.c_library.specs.contracts.held.Held as Held

-- a box of a seat, in the program's memory
abbrev pub Boxed : Bx
Boxed = record {
  row = Seat.the_row;
  laws = seat.the_row_laws;
  al = record { row = Heap.the_row; laws = heap.the_row_laws; g = ghosts; d = dict; drops = impl [] tnil dnil };
}

-- its parts, and what is held
abbrev pub Apart : RattleType
Apart = Parts.the_row Seat.the_row Heap.the_row ghosts

abbrev pub Kept : RattleType
Kept = Held.the_row
