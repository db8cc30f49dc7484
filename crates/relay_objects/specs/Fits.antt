-- Acts whose texts a message can carry.
use Rattle.std.specs.Prelude.{◌≡◌, ◌≤◌, length, Option, true, is_some}
use Rattle.relay_model.specs.declared.act.Act.{Act}
use Rattle.relay_model.specs.declared.act.Act.TheVariants as acts

-- The texts of the act have at most 4,083 bytes, or 4,075 beside two numbers: a message has 4,096,
-- of which its header takes 8, a text's length 4 and its zero byte 1, and two numbers 8.
abbrev pub FitsMessage : Act → Type 0
FitsMessage (acts.Surround f text cursor anchor) = length text ≤ 4075
FitsMessage (acts.MString m text) = length text ≤ 4083
FitsMessage (acts.MPreedit m text begin end) = length text ≤ 4075
FitsMessage _ = Unit {0}

-- Where the act sets a surrounding text, there is memory that its field may take.
abbrev pub FindsRoom : Act → (room : Option (Unit {0})) → Type 0
FindsRoom (acts.Surround f text cursor anchor) room = is_some room ≡ true
FindsRoom _ room = Unit {0}
