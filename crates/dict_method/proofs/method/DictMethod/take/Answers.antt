use Rattle.std.proofs.Common.{◌≡◌, ◌∷◌, [], ◌++◌, Some, None, true, false, sym, ◌∙◌, ap, rules}
use Rattle.std.specs.Prelude.{is_some}
use Rattle.compose_method.specs.Table.{own_text}
use Rattle.dict_method.specs.Dictionary.{control_of}
use Rattle.dict_method.specs.Presses.{chosen, erased, longer, own, first_of}
use Rattle.dict_method.specs.Ready.{spelling_of}
use Rattle.dict_method.specs.Spelling.{makes, after_made}
use Rattle.dict_method.specs.declared.control.Control.TheVariants.{Choose, Erase}
use Rattle.dict_method.proofs.FirstRows.{choose_row, erase_row, spell_row, makes_row}
use Rattle.dict_method.proofs.method.DictMethod.take.Goals as goal

pub returns-in-Some-Choose-clause-made : goal.returns-in-Some-Choose-clause-made
returns-in-Some-Choose-clause-made c =
    let s = spelling_of c.self.inside in
    let control : control_of s.dict.controls c.args.key ≡ Some (Choose c.in-Some-Choose.n) = search rules in
    let active : s.active ≡ true = search rules in
    let at : makes c.args.key s ≡ chosen s.dict.words s.code c.in-Some-Choose.n =
    makes_row s c.args.key _ active
    (choose_row s.table s.dict s.code c.args.key c.in-Some-Choose.n c.control_of.ensures.kept control) in
    let makes : makes c.args.key c.args.self.now
    ≡ chosen c.args.self.now.dict.words c.args.self.now.code c.in-Some-Choose.n = rw (← c.self.view_is) at in
    c.choose.ensures.made ∙ ap is_some (sym makes)

pub returns-in-Some-Choose-clause-press : goal.returns-in-Some-Choose-clause-press
returns-in-Some-Choose-clause-press c =
    let s = spelling_of c.self.inside in
    let control : control_of s.dict.controls c.args.key ≡ Some (Choose c.in-Some-Choose.n) = search rules in
    let active : s.active ≡ true = search rules in
    let at : makes c.args.key s ≡ chosen s.dict.words s.code c.in-Some-Choose.n =
    makes_row s c.args.key _ active
    (choose_row s.table s.dict s.code c.args.key c.in-Some-Choose.n c.control_of.ensures.kept control) in
    let makes : makes c.args.key c.args.self.now
    ≡ chosen c.args.self.now.dict.words c.args.self.now.code c.in-Some-Choose.n = rw (← c.self.view_is) at in
    c.choose.ensures.new ∙ ap (λ o. after_made o c.args.self.now) (sym makes)

pub returns-in-Some-Erase-clause-made : goal.returns-in-Some-Erase-clause-made
returns-in-Some-Erase-clause-made c =
    let s = spelling_of c.self.inside in
    let control : control_of s.dict.controls c.args.key ≡ Some Erase = search rules in
    let active : s.active ≡ true = search rules in
    let at : makes c.args.key s ≡ erased s.code true =
    makes_row s c.args.key _ active
    (erase_row s.table s.dict s.code c.args.key c.control_of.ensures.kept control) in
    let makes : makes c.args.key c.args.self.now ≡ erased c.args.self.now.code true = rw (← c.self.view_is) at in
    c.erase.ensures.made ∙ ap is_some (sym makes)

pub returns-in-Some-Erase-clause-press : goal.returns-in-Some-Erase-clause-press
returns-in-Some-Erase-clause-press c =
    let s = spelling_of c.self.inside in
    let control : control_of s.dict.controls c.args.key ≡ Some Erase = search rules in
    let active : s.active ≡ true = search rules in
    let at : makes c.args.key s ≡ erased s.code true =
    makes_row s c.args.key _ active
    (erase_row s.table s.dict s.code c.args.key c.control_of.ensures.kept control) in
    let makes : makes c.args.key c.args.self.now ≡ erased c.args.self.now.code true = rw (← c.self.view_is) at in
    c.erase.ensures.new ∙ ap (λ o. after_made o c.args.self.now) (sym makes)

pub returns-in-None-clause-made : goal.returns-in-None-clause-made
returns-in-None-clause-made c =
    let s = spelling_of c.self.inside in
    let control : control_of s.dict.controls c.args.key ≡ None = search rules in
    let active : s.active ≡ true = search rules in
    let at : makes c.args.key s
    ≡ first_of (longer s.dict.words (s.code ++ c.args.key ∷ [])) (own (own_text s.table c.args.key) false s.code) =
    makes_row s c.args.key _ active (spell_row s.table s.dict s.code c.args.key control) in
    let makes : makes c.args.key c.args.self.now
    ≡ first_of (longer c.args.self.now.dict.words (c.args.self.now.code ++ c.args.key ∷ []))
    (own (own_text c.args.self.now.table c.args.key) false c.args.self.now.code) = rw (← c.self.view_is) at in
    c.spell.ensures.made ∙ ap is_some (sym makes)

pub returns-in-None-clause-press : goal.returns-in-None-clause-press
returns-in-None-clause-press c =
    let s = spelling_of c.self.inside in
    let control : control_of s.dict.controls c.args.key ≡ None = search rules in
    let active : s.active ≡ true = search rules in
    let at : makes c.args.key s
    ≡ first_of (longer s.dict.words (s.code ++ c.args.key ∷ [])) (own (own_text s.table c.args.key) false s.code) =
    makes_row s c.args.key _ active (spell_row s.table s.dict s.code c.args.key control) in
    let makes : makes c.args.key c.args.self.now
    ≡ first_of (longer c.args.self.now.dict.words (c.args.self.now.code ++ c.args.key ∷ []))
    (own (own_text c.args.self.now.table c.args.key) false c.args.self.now.code) = rw (← c.self.view_is) at in
    c.spell.ensures.new ∙ ap (λ o. after_made o c.args.self.now) (sym makes)
