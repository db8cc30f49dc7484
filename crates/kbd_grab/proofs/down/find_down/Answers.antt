use Rattle.std.proofs.Common.{◌≡◌, ◌==◌, rules, tests, ap, sym, ◌∙◌}
use Rattle.std.specs.List.{find}
use Rattle.std.specs.Option.{option_map}
use Rattle.std.proofs.lemmas.Iterator.{YieldsList-from_slice}
use Rattle.std.proofs.lemmas.Iterator.Search.{find_from_yields_List}
use Rattle.kbd_grab.proofs.DownLists.{get-keys_of}
use Rattle.kbd_grab.proofs.down.find_down.Goals as goal

pub returns : goal.returns
returns c =
    let found : option_map (λ x. x.now) c.find.result ≡ find (λ d. d.key == c.args.key) c.args.down.now =
    find_from_yields_List (λ d. d.key == c.args.key) _ _ c.find.result c.find.ensures.ran
    (YieldsList-from_slice c.args.down.now (cc)) (λ x b q k. search (rules, tests)) in
    ap (option_map (λ d. d.went)) (c.copied.ensures ∙ found) ∙ sym (get-keys_of c.args.down.now c.args.key)
