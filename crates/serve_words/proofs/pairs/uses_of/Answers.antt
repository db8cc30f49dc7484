use Rattle.std.proofs.Common.{rules, ◌≡◌, ◌+◌, ◌≤◌, arith, map, string_bytes, if◌then◌else◌}
use Rattle.std.proofs.lemmas.List.{length-map}
use Rattle.std.specs.Str.{bytes_eq}
use Rattle.serve_words.proofs.PairsOfWords.{at_most_one, word_is, uses_more, no_uses_left}
use Rattle.serve_words.proofs.pairs.uses_of.Goals as goal

pub loop-at-preserved : goal.loop-at-preserved
loop-at-preserved c =
    let long = length-map c.args.words.now string_bytes in
    let more = c.loop-at-test.true in
    let step = uses_more c.args.name.now (map string_bytes c.args.words.now) c.loop-at.at _ (omega arith)
    (word_is string_bytes c.args.words.now c.loop-at.at c.index-words-at.result c.index-words-at.is) in
    let one : (if bytes_eq (string_bytes c.index-words-at.result) c.args.name.now then 1 else 0) ≤ 1 =
    at_most_one (bytes_eq (string_bytes c.index-words-at.result) c.args.name.now) in
    let now : c.counted-found.result
    ≡ c.loop-at.found + (if bytes_eq (string_bytes c.index-words-at.result) c.args.name.now then 1 else 0) =
    search rules in
    let before = c.loop-at.invariant.same in
    let few = c.loop-at.invariant.few in
    record { within = omega arith; few = omega arith; same = omega arith }

pub returns : goal.returns
returns c =
    let long = length-map c.args.words.now string_bytes in
    let few = c.loop-at-test.false in
    let left = no_uses_left c.args.name.now (map string_bytes c.args.words.now) c.loop-at.at (omega arith) in
    let before = c.loop-at.invariant.same in omega arith
