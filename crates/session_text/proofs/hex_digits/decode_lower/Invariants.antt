use Rattle.std.proofs.Common.{◌≡◌, ◌*◌, ◌-◌, ◌<◌, ◌≤◌, length, take}
use Rattle.hex.specs.Hex.{encode_lower}
use Rattle.wl_wire.specs.Texts.{IsBytes}
use Rattle.session_text.proofs.hex_digits.decode_lower.Given as goal

-- the pairs before the place are read, unless another byte stands among them
abbrev pub invariant-fours : goal.invariant-fours
invariant-fours l = record {
  long : length l.bytes ≡ length l.fn.bytes;
  within : l.at ≤ length l.bytes;
  bytes : IsBytes l.bytes;
  read : l.all < 256 → take (2 * l.at) l.word ≡ encode_lower (take l.at l.bytes);
}

abbrev pub decreases-fours : goal.decreases-fours
decreases-fours l = length l.bytes - l.at

abbrev pub invariant-rest : goal.invariant-rest
invariant-rest l = record {
  long : length l.bytes ≡ length l.fn.bytes;
  within : l.at ≤ length l.bytes;
  bytes : IsBytes l.bytes;
  read : l.all < 256 → take (2 * l.at) l.word ≡ encode_lower (take l.at l.bytes);
}

abbrev pub decreases-rest : goal.decreases-rest
decreases-rest l = length l.bytes - l.at
