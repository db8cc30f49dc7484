use Rattle.std.proofs.Common.{◌≡◌, ◌==◌, ◌++◌, ◌≤◌, ◌+◌, map, take, length}
use Rattle.std.specs.List.{slice_split}
use Rattle.session_text.proofs.cutting.cut_words.Given as goal

-- the words so far, and those of what is left
abbrev pub invariant-loop-word : goal.invariant-loop-word
invariant-loop-word l = record {
  room : l.count + 1 ≤ 8;
  places : length l.words ≡ 8;
  cut : map (λ w. w.now) (take l.count l.words) ++ slice_split (λ b. b == 32) l.left
      ≡ slice_split (λ b. b == 32) l.line;
}

abbrev pub decreases-loop-word : goal.decreases-loop-word
decreases-loop-word l = length l.left
