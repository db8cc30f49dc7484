-- What is owned where a seat may be: as much as a box of it owns, or nothing.
use base.Fml.{Fml, ftrue}
use base.Stored.{Coded}
use denote.RawPtr.{Ptr}
use Rattle.std.specs.Prelude.{Option, Some, None}
use Rattle.std.specs.Box.Ownership.{box_owns}
use Rattle.std.specs.Global.{Global}
use Rattle.std_heap.specs.contracts.GlobalAllocator.TheImpl.{ghosts}
use Rattle.core.specs.contracts.option.Option as option
use Rattle.c_relay.specs.contracts.numbered.NumberedSeat.{the_row}

abbrev pub held_owns : Global → Ptr → Option the_row.Denot → Fml
held_owns alloc place None = ftrue
held_owns alloc place (Some seat) = box_owns (ghosts.dealloc_token alloc) the_row place seat

abbrev pub seat_coded : Coded (Option the_row.Denot)
seat_coded = (option.the_row the_row).coded
