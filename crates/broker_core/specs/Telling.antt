-- What one thing told makes of an audience and of who watches beside it.
use Rattle.std.specs.Prelude.{◌≡◌, map}
use Rattle.relay_model.specs.declared.said.Told.{Told}
use Rattle.relay_objects.specs.Reached.{Reached}
use Rattle.broker_audience.specs.Lives.{who}
use Rattle.broker_audience.specs.Tells.{IsShort, Tells}
use Rattle.broker_core.specs.declared.watch.Telling.{Telling}
use Rattle.broker_core.specs.Watched.{Watched, shown}

-- it is of the same entry, of the same audience and watcher: one hears, the other is told what the
-- shell is told
pub record IsTelling {W : Type 0} (may_follow : W → Watched → W → Type 0) (before : Telling W)
    (told : Told) (after : Telling W) : Type 0 where
  pub number : after.number ≡ before.number
  pub audience_name : after.audience.ghost_name ≡ before.audience.ghost_name
  pub watch_name : after.watch.ghost_name ≡ before.watch.ghost_name
  pub audience : IsShort told → Tells before.audience.now told after.audience.now
  pub watch : Reached may_follow before.watch.now
      (shown before.number before.audience.now.directory.made
      (map who before.audience.now.live.items) told.event) after.watch.now
