use Rattle.std.proofs.Common.{◌≡◌, ◌∷◌, ◌-◌, ◌==◌, ◌∙◌, ap, sym, suc, add-one, length, take, drop}
use Rattle.std.specs.List.{slice_split}
use Rattle.std.proofs.lemmas.List.{take_rest, drop-drop}
use Rattle.session_text.proofs.FirstSpace.{cut_at_space, one_word}
use Rattle.session_text.proofs.cutting.first_word.Goals as goal

pub returns-in-None-clause-last : goal.returns-in-None-clause-last
returns-in-None-clause-last c = one_word c.args.line.now c.in-None.ensures

pub returns-in-Some-clause-cut : goal.returns-in-Some-clause-cut
returns-in-Some-clause-cut c =
    let line = c.args.line.now in
    let space = c.in-Some.space in
    let (none, here) = c.in-Some.ensures in
    let behind : take (length c.split_at.result.1.now - 1) (drop 1 c.split_at.result.1.now) ≡ drop (suc space) line =
    take_rest c.split_at.result.1.now 1 ∙ ap (drop 1) c.split_at.ensures.back
    ∙ (rw add-one at (drop-drop 1 space line)) in
    cut_at_space line space none here
    ∙ ap (λ w. w ∷ slice_split (λ b. b == 32) (drop (suc space) line)) (sym c.split_at.ensures.front)
    ∙ ap (λ l. c.split_at.result.0.now ∷ slice_split (λ b. b == 32) l) (sym behind)
