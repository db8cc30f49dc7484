-- What one thing told makes of all who listen.
use Rattle.std.specs.Prelude.{◌≡◌, ◌≤◌, List, map, IfSome}
use Rattle.wl_proto.specs.Spelling.{message_len}
use Rattle.relay_model.specs.declared.said.Told.{Told}
use Rattle.broker_model.specs.Ids.{Made}
use Rattle.broker_model.specs.Groups.{message_of}
use Rattle.broker_audience.specs.declared.audience.Audience.{Audience}
use Rattle.broker_audience.specs.Lives.{listens}

-- its message, if it has one, has at most 4096 bytes
abbrev pub IsShort : Told → Type 0
IsShort t = (made : List Made) → IfSome (message_of made t.event) (λ m. message_len m ≤ 4096)

-- each live peer hears what is its own
pub record Tells (before : Audience) (t : Told) (after : Audience) : Type 0 where
  pub live : after.live.items ≡ map (listens before.directory.made t) before.live.items
  pub directory : after.directory ≡ before.directory
