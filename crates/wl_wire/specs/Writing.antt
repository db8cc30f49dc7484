-- What a writer has written, and its room.
use Rattle.std.specs.Prelude.{ℕ, List, take, drop}
use Rattle.wl_wire.specs.declared.arg_writer.ArgWriter.{ArgWriter}

-- what was written so far
unfoldable pub written : ArgWriter → List ℕ
written w = take w.at w.out.now

-- what stands behind it
unfoldable pub room : ArgWriter → List ℕ
room w = drop w.at w.out.now
