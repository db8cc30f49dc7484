use Rattle.std.proofs.Common.{◌≡◌, ◌≤◌, ◌+◌, ◌-◌, length, map, drop, string_bytes}
use Rattle.serve_words.specs.Words.{values_of}
use Rattle.serve_words.proofs.pairs.uses_of.Given as goal

abbrev pub invariant-loop-at : goal.invariant-loop-at
invariant-loop-at l = record {
  within : l.at ≤ length l.words;
  few : l.found ≤ l.at;
  same : length (values_of l.name (map string_bytes l.words))
      ≡ l.found + length (values_of l.name (drop l.at (map string_bytes l.words)));
}

abbrev pub decreases-loop-at : goal.decreases-loop-at
decreases-loop-at l = length l.words - l.at
