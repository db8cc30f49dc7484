use Rattle.std.proofs.Common.{◌≡◌, map}
use Rattle.std.specs.Prelude.{drop}
use Rattle.trial_script.specs.Words.{keys_of}
use Rattle.trial_script.proofs.ScriptWords.{behind}
use Rattle.trial_script.proofs.keys.read_keys.Given as goal

-- the keys so far before those of the words that are left
abbrev pub invariant-loop-word : goal.invariant-loop-word
invariant-loop-word l =
    behind l.keys.items (keys_of (map (λ w. w.now) (drop l.word-index l.words))) ≡ keys_of (map (λ w. w.now) l.words)
