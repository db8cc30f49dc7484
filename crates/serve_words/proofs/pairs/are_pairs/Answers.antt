use Rattle.std.proofs.Common.{rules, ◌+◌, ◌-◌, ◌∙◌, nat_eq, sym, ap, arith, map, string_bytes}
use Rattle.std.proofs.lemmas.List.{length-map}
use Rattle.serve_words.proofs.PairsOfWords.{word_is, no_pairs, one_pair, pairs_left}
use Rattle.serve_words.proofs.pairs.are_pairs.Goals as goal

pub returns-then-not-is_pair : goal.returns-then-not-is_pair
returns-then-not-is_pair c =
    let long = length-map c.args.words.now string_bytes in
    let more = c.loop-at-test.true in
    sym (c.loop-at.invariant.same ∙ no_pairs (map string_bytes c.args.words.now) c.loop-at.at _ _ (omega arith)
    (word_is string_bytes c.args.words.now c.loop-at.at c.index-words-at.result c.index-words-at.is)
    (word_is string_bytes c.args.words.now (c.loop-at.at + 1) c.index-words-at-in-loop-at.result
    c.index-words-at-in-loop-at.is) (search rules))

pub loop-at-preserved : goal.loop-at-preserved
loop-at-preserved c =
    let long = length-map c.args.words.now string_bytes in
    let more = c.loop-at-test.true in record {
      within = omega arith;
      same = c.loop-at.invariant.same ∙ one_pair (map string_bytes c.args.words.now) c.loop-at.at _ _ (omega arith)
          (word_is string_bytes c.args.words.now c.loop-at.at c.index-words-at.result c.index-words-at.is)
          (word_is string_bytes c.args.words.now (c.loop-at.at + 1) c.index-words-at-in-loop-at.result
          c.index-words-at-in-loop-at.is) (search rules);
    }

pub returns : goal.returns
returns c =
    let long = length-map c.args.words.now string_bytes in
    let few = c.loop-at-test.false in
    ap (λ n. nat_eq (n - c.loop-at.at) 0) (sym long)
    ∙ (pairs_left (map string_bytes c.args.words.now) c.loop-at.at (omega arith) ∙ sym c.loop-at.invariant.same)
