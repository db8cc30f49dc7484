-- What a call tells: events behind those that were told before.
use Rattle.std.specs.Prelude.{◌≡◌, List, ◌++◌, Vec, Result, OnOk}
use Rattle.std.specs.declared.alloc.Global.{Global}
use Rattle.relay_model.specs.declared.said.Told.{Told}

-- where it answers Ok, it told these events, in order, and no others
abbrev pub Tells : {E : Type 0} → Result (Unit {0}) E → Vec Told Global → Vec Told Global →
    List Told → Type 0
Tells result before after events = OnOk result (after.items ≡ before.items ++ events)
