use Rattle.session_gen.proofs.WordsInTurn.{seeded, word_is, later_is}
use Rattle.session_gen.proofs.generator.Gen.new.Goals as goal
use Rattle.std.proofs.Common.{arith, ◌∙◌}

pub invariant_of-result : goal.invariant_of-result
invariant_of-result c =
    let at = c.seed_from_u64-words.ensures ∙ seeded c.args.number in
    record {
      few = omega arith;
      word = word_is c.args.number 0 _ _ _ at c.next_word-word.ensures;
      later = later_is c.args.number 0 _ _ _ at c.next_word-word.ensures;
    }
