use Rattle.std.proofs.Common.{◌≡◌, [], ℕ, ◌+◌, List, Some, Bor, get_or, sym, ap, ◌∙◌}
use Rattle.session_text.specs.Words.{number_of, numbers_of}
use Rattle.session_text.proofs.NumberWords.{behind, one_more, refused, all_read, words_from, first_from, none_from}
use Rattle.session_text.proofs.stamped_line.read_numbers.Goals as goal

-- a word outside the line
abbrev nobody : Bor (List ℕ)
nobody = record { ref_ptr = (0, 0); now = [] }

pub loop-word-preserved : goal.loop-word-preserved
loop-word-preserved c =
    let i = c.loop-word.word-index in
    let words = first_from c.args.words.now i nobody c.loop-word-test.true in
    let read : number_of (get_or c.args.words.now i nobody).now ≡ Some c.in-Ok.token =
    rw c.in-Ok.is at c.number.ensures in
    let here = ap (λ ws. behind c.loop-word.tokens (numbers_of ws)) words
    ∙ one_more c.loop-word.tokens c.in-Ok.token _ _ read in
    ap (λ ns. behind ns (numbers_of (words_from c.args.words.now (i + 1)))) (c.in_ok-push-in-Ok.ensures.pushed)
    ∙ sym here ∙ c.loop-word.invariant

pub returns-in-Err : goal.returns-in-Err
returns-in-Err c =
    let i = c.loop-word.word-index in
    let words = first_from c.args.words.now i nobody c.loop-word-test.true in
    let here = sym (ap (λ ws. behind c.loop-word.tokens (numbers_of ws)) words) ∙ c.loop-word.invariant in
    rw (sym here) (refused c.loop-word.tokens _ _ c.in-Err.bad (rw c.in-Err.is at c.number.ensures))

pub returns : goal.returns
returns c =
    let i = c.loop-word.word-index in
    sym c.loop-word.invariant
    ∙ ap (λ ws. behind c.loop-word.tokens (numbers_of ws)) (none_from c.args.words.now i c.loop-word-test.false)
    ∙ all_read c.loop-word.tokens
