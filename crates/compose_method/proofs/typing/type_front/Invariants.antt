use Rattle.std.proofs.Common.{◌≡◌, ◌*◌, ◌-◌, ◌<◌, ◌≤◌, ◌++◌, length, drop, string_bytes, string_len, string_capacity}
use Rattle.compose_method.specs.Segments.{typed, rest_of}
use Rattle.compose_method.proofs.typing.type_front.Given as goal

-- what was typed so far, before what the keys that are left type, is all
abbrev pub invariant-reading : goal.invariant-reading
invariant-reading l =
    (l.passed < length l.keys)
    × (string_bytes l.text ++ typed l.table (drop l.passed l.keys) ≡ typed l.table l.keys)
    × (rest_of l.table l.keys ≡ rest_of l.table (drop l.passed l.keys))
    × (string_len l.text ≤ 64 * l.passed)
    × (string_capacity l.initial.text ≤ string_capacity l.text)

abbrev pub decreases-reading : goal.decreases-reading
decreases-reading l = length l.keys - l.passed
