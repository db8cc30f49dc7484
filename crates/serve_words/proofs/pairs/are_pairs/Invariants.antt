use Rattle.std.proofs.Common.{◌≡◌, ◌≤◌, ◌-◌, length, map, drop, string_bytes}
use Rattle.serve_words.specs.Words.{are_pairs}
use Rattle.serve_words.proofs.pairs.are_pairs.Given as goal

abbrev pub invariant-loop-at : goal.invariant-loop-at
invariant-loop-at l = record {
  within : l.at ≤ length l.words;
  same : are_pairs (map string_bytes l.words) ≡ are_pairs (drop l.at (map string_bytes l.words));
}

abbrev pub decreases-loop-at : goal.decreases-loop-at
decreases-loop-at l = length l.words - l.at
