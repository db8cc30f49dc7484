-- Room for one more object is room for every act.
use Rattle.std.proofs.Common.{ℕ, ◌<◌}
use Rattle.relay_model.specs.declared.act.Act.{Act}
use Rattle.relay_model.specs.declared.act.Act.TheVariants as acts
use Rattle.relay_core.specs.Kept.{HasRoom}

pub has_room : (room : ℕ) (act : Act) → 0 < room → HasRoom room act
has_room room (acts.Gone p cause) h = tt
has_room room _ h = h
