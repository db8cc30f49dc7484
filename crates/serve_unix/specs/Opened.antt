-- Which doors are open
use Rattle.std.specs.Prelude.{Option, Bool}
use Rattle.std.specs.Option.{is_some}
use Rattle.serve_net.specs.declared.door.Door.{Door}
use Rattle.serve_net.specs.declared.door.Door.TheVariants.{App, Method, Shell}

-- the door has a listener
abbrev pub is_open : {A : Type 0} → (app method shell : Option A) → Door → Bool
is_open app method shell App = is_some app
is_open app method shell Method = is_some method
is_open app method shell Shell = is_some shell
