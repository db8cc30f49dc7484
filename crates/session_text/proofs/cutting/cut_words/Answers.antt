use Rattle.std.proofs.Common.{◌≡◌, map, take, length, ◌∙◌, arith}
use Rattle.std.proofs.lemmas.List.{length-map, length-take-le}
use Rattle.session_text.proofs.FirstSpace.{many_cut}
use Rattle.session_text.proofs.cutting.cut_words.Goals as goal

pub returns-then-count-ge-MOST_WORDS-clause-many :
    goal.returns-then-count-ge-MOST_WORDS-clause-many
returns-then-count-ge-MOST_WORDS-clause-many c =
    let invariant = c.loop-word.invariant in
    let words = c.loop-word.words in
    let places = invariant.places in
    let room = invariant.room in
    let long : length (map (λ w. w.now) (take c.loop-word.count words)) ≡ c.loop-word.count =
    length-map (take c.loop-word.count words) (λ w. w.now) ∙ length-take-le c.loop-word.count words (omega arith) in
    many_cut (map (λ w. w.now) (take c.loop-word.count words)) c.loop-word.left.now c.in-Some.word.now
    c.in-Some.rest.now c.args.line.now c.loop-word.count invariant.cut c.in-Some.ensures.cut long
    (omega (arith, c.if-count-ge-MOST_WORDS.true))
